-- Each connection that came has its exchange, or is given up, or nothing came of it yet.
use Rattle.std.proofs.Common.{◌≡◌, ◌∙◌, ℕ, List, [], ◌∷◌, Option, None, Some, sym, subst, inl, inr}
use Rattle.std.specs.List.{All}
use Rattle.std.proofs.lemmas.Bool.{cases_eq}
use Rattle.std.proofs.lemmas.List.Elements.{All-nil, All-push, All-weaker, Contains-append_left, Contains-push}
use Rattle.rx_desk.specs.EventDesks.{EventView}
use Rattle.rx_desk.specs.declared.client_sink.ClientSink.{ClientSink}
use Rattle.rx_desk.specs.declared.joined.Joined.{Joined}
use Rattle.rx_exchange.specs.Among.{among}
use Rattle.rx_exchange.specs.Exchanges.{IsNew, Sits, Sitting}
use Rattle.rx_exchange.specs.declared.exchange.Exchange.{Exchange}
use Rattle.rx_exchange.proofs.Amongst.{joins_turns}
use Rattle.rx_exchange.proofs.Turning.{begins}
use Rattle.rx_session.specs.declared.turn.Turn.{Turn}
use Rattle.rx_session.specs.declared.turn.Turn.TheVariants.{Again, Waits, Stuck, Over}
use Rattle.rx_workers.proofs.Talks.{no_talk, one_talk, waits_beside, waits_or, waits_same}
use Rattle.rx_workers.specs.Clients.{AreSameClients, IsTalk, Sets, client_at}
use Rattle.rx_workers.specs.Talks.{Begins, IsTalkOf, Leaves, silent}
use Rattle.rx_workers.specs.declared.worker.client.Client.{Client}
use Rattle.rx_workers.specs.declared.worker.client.Client.TheVariants.{Talks, Follows}
use Rattle.rx_workers.specs.declared.worker.client.Talk.{Talk}
use Rattle.rx_face.specs.Facing.{Attended, Deed, Admitted, GivenUp, Begun, LetGo, Turned, Parted, Does, HasTurn, IsHad, IsKnown, IsMet, IsThere, IsUnderWay, Works, begun, calls, came, given_up}

-- a connection that is met by some deeds is met by one more
met_by : {X : Type 0} (deed : Deed X) (deeds : List (Deed X)) (x : X) → IsMet deeds x → IsMet (deed ∷ deeds) x
met_by (Admitted y place) deeds x met = met
met_by (GivenUp y) deeds x (inl began) = inl began
met_by (GivenUp y) deeds x (inr given) = inr (Contains-append_left (given_up deeds) (y ∷ []) x given)
met_by (Begun y place) deeds x (inl began) = inl (Contains-append_left (begun deeds) (y ∷ []) x began)
met_by (Begun y place) deeds x (inr given) = inr given
met_by (LetGo y place) deeds x (inl began) = inl began
met_by (LetGo y place) deeds x (inr given) = inr (Contains-append_left (given_up deeds) (y ∷ []) x given)
met_by (Turned place) deeds x met = met
met_by (Parted place) deeds x met = met

module _ {M C W : Type 0} (tells : M → ℕ → M → Type 0) (remaining : C → Option (List ℕ)) (contents : W → Option (List ℕ)) where
  -- a connection whose exchange began
  known_new : (place : ℕ) (before after : List (Option (Client C W Exchange))) (connection : C × W) (talk : Talk C W Exchange) (desk : EventView M (ClientSink W))
      → Begins IsNew connection talk → Sets place before after (silent connection) (Some (Talks talk)) → IsKnown tells remaining contents after connection
  known_new place before after connection talk desk begun sets =
      let p = among (calls tells remaining contents) in
      let fresh = begins p desk talk.writer (remaining talk.reader) talk.session.value begun.is_new in
      inl (record {
        place = place;
        talk = talk;
        there = sets.is_there;
        under_way = record {
          begun = desk;
          now = desk;
          sitting =
              subst (λ (w : W). Sitting p desk w (remaining connection.0) (remaining talk.reader) desk talk.writer talk.session.value) begun.writer_is
              (subst (λ (c : C). Sitting p desk talk.writer (remaining c) (remaining talk.reader) desk talk.writer talk.session.value) begun.reader_is fresh);
        };
      })

  -- it stands where it stood
  known_there : (before after : List (Option (Client C W Exchange))) (connection : C × W) (s : IsThere tells remaining contents before connection)
      → client_at s.place after ≡ client_at s.place before → IsKnown tells remaining contents after connection
  known_there before after connection s same = inl (record { place = s.place; talk = s.talk; there = same ∙ s.there; under_way = s.under_way })

  -- nobody went
  known_same : (before after : List (Option (Client C W Exchange))) (connection : C × W) → AreSameClients before after
      → IsKnown tells remaining contents before connection → IsKnown tells remaining contents after connection
  known_same before after connection same (inl s) = known_there before after connection s (same s.place)
  known_same before after connection same (inr served) = inr served

  -- where no exchange was another client is now, or none
  known_beside : (place : ℕ) (before after : List (Option (Client C W Exchange))) (was is : Option (Client C W Exchange)) (connection : C × W)
      → Sets place before after was is → ¬ IsTalk was → IsKnown tells remaining contents before connection → IsKnown tells remaining contents after connection
  known_beside place before after was is connection sets none (inr served) = inr served
  known_beside place before after was is connection sets none (inl s) = elim (cases_eq s.place place) [
    | inl here ↦ absurd (no_talk (client_at place before) was s.talk sets.was_there none (subst (λ (n : ℕ). client_at n before ≡ Some (Talks s.talk)) here s.there))
    | inr else ↦ known_there before after connection s (sets.others s.place else)
  ]

  -- an exchange that goes on
  known_further : (place : ℕ) (after : List (Option (Client C W Exchange))) (connection : C × W) (begun now : EventView M (ClientSink W)) (reader : C) (writer : W) (exchange : Exchange) (left : Option (Client C W Exchange))
      → (talk : Talk C W Exchange) × (left ≡ Some (Talks talk)) × IsTalkOf reader writer exchange talk → client_at place after ≡ left
      → Sitting (among (calls tells remaining contents)) begun connection.1 (remaining connection.0) (remaining reader) now writer exchange → IsKnown tells remaining contents after connection
  known_further place after connection begun now reader writer exchange left leaves there sitting =
      let p = among (calls tells remaining contents) in
      let talk = leaves.0 in
      let is = leaves.2 in
      inl (record {
        place = place;
        talk = talk;
        there = there ∙ leaves.1;
        under_way = record {
          begun = begun;
          now = now;
          sitting =
              subst (λ (e : Exchange). Sitting p begun connection.1 (remaining connection.0) (remaining talk.reader) now talk.writer e) (sym is.session_is)
              (subst (λ (w : W). Sitting p begun connection.1 (remaining connection.0) (remaining talk.reader) now w exchange) (sym is.writer_is)
              (subst (λ (c : C). Sitting p begun connection.1 (remaining connection.0) (remaining c) now writer exchange) (sym is.reader_is) sitting));
        };
      })

  -- what a turn made of an exchange under way
  known_turned : (result : Turn W) (place : ℕ) (after : List (Option (Client C W Exchange))) (connection : C × W) (begun now : EventView M (ClientSink W)) (reader : C) (exchange : Exchange) (joined : Option Joined)
      (left : Option (Client C W Exchange)) → Leaves result reader exchange joined left → client_at place after ≡ left
      → Sits (among (calls tells remaining contents)) result begun connection.1 (remaining connection.0) (remaining reader) now exchange → IsKnown tells remaining contents after connection
  known_turned (Again writer) place after connection begun now reader exchange joined left leaves there sits = known_further place after connection begun now reader writer exchange left leaves there sits
  known_turned (Waits writer) place after connection begun now reader exchange joined left leaves there sits = known_further place after connection begun now reader writer exchange left leaves there sits
  known_turned (Stuck writer) place after connection begun now reader exchange joined left leaves there sits = known_further place after connection begun now reader writer exchange left leaves there sits
  known_turned (Over end back) place after connection begun now reader exchange joined left leaves there sits =
      inr (record { reader = reader; begun = begun; now = now; end = end; back = back; over = sits })

  -- the exchange at this place had a turn
  known_turn : (place : ℕ) (before after : Attended M C W) (connection : C × W) → HasTurn tells remaining contents place before after
      → IsKnown tells remaining contents before.clients connection → IsKnown tells remaining contents after.clients connection
  known_turn place before after connection t (inr served) = inr served
  known_turn place before after connection t (inl s) = elim (cases_eq s.place place) [
    | inr else ↦ known_there before.clients after.clients connection s (t.sets.others s.place else)
    | inl here ↦
        let there : client_at place before.clients ≡ Some (Talks s.talk) = subst (λ (n : ℕ). client_at n before.clients ≡ Some (Talks s.talk)) here s.there in
        let u : IsUnderWay tells remaining contents connection t.talk =
        one_talk (IsUnderWay tells remaining contents connection) (client_at place before.clients) s.talk t.talk there t.sets.was_there s.under_way in
        let sat =
        joins_turns (calls tells remaining contents) u.begun connection.1 (remaining connection.0) (remaining t.talk.reader) (remaining t.reader) u.now before.desk after.desk t.talk.writer t.talk.session.value
        t.exchange t.result u.sitting t.turn.sends t.turn.sits in
        known_turned t.result place after.clients connection u.begun sat.0 t.reader t.exchange after.desk.session.joined t.left t.leaves t.sets.is_there sat.1
  ]

  -- one deed more
  known_by : (deed : Deed (C × W)) (before after : Attended M C W) (connection : C × W) → Does tells remaining contents deed before after
      → IsKnown tells remaining contents before.clients connection → IsKnown tells remaining contents after.clients connection
  known_by (Admitted x place) before after connection d known = known_beside place before.clients after.clients None (silent x) connection d.0 (λ no. no) known
  known_by (GivenUp x) before after connection d known = known_same before.clients after.clients connection d.0 known
  known_by (Begun x place) before after connection d known = known_beside place before.clients after.clients (silent x) (Some (Talks d.0.0)) connection d.0.2 (λ no. no) known
  known_by (LetGo x place) before after connection d known = known_beside place before.clients after.clients (silent x) None connection d.0 (λ no. no) known
  known_by (Turned place) before after connection d known = known_turn place before after connection d known
  known_by (Parted place) before after connection d known = known_beside place before.clients after.clients (Some (Follows d.0)) None connection d.2 (λ no. no) known

  -- so all
  all_by : (deed : Deed (C × W)) (before after : Attended M C W) (connections : List (C × W)) → Does tells remaining contents deed before after
      → All (IsKnown tells remaining contents before.clients) connections → All (IsKnown tells remaining contents after.clients) connections
  all_by deed before after connections d known =
      All-weaker (IsKnown tells remaining contents before.clients) (IsKnown tells remaining contents after.clients) (λ c is. known_by deed before after c d is) connections known

  -- each connection whose exchange began is known
  pub works_known : (deeds : List (Deed (C × W))) (before after : Attended M C W) → Works tells remaining contents deeds before after
      → All (IsKnown tells remaining contents after.clients) (begun deeds)
  works_known [] before after w = All-nil (IsKnown tells remaining contents after.clients)
  works_known (Admitted x place ∷ deeds) before after w = all_by (Admitted x place) w.0 after (begun deeds) w.2 (works_known deeds before w.0 w.1)
  works_known (GivenUp x ∷ deeds) before after w = all_by (GivenUp x) w.0 after (begun deeds) w.2 (works_known deeds before w.0 w.1)
  works_known (Begun x place ∷ deeds) before after w =
      All-push (IsKnown tells remaining contents after.clients) (begun deeds) x (all_by (Begun x place) w.0 after (begun deeds) w.2 (works_known deeds before w.0 w.1))
      (known_new place w.0.clients after.clients x w.2.0.0 w.0.desk w.2.0.1 w.2.0.2)
  works_known (LetGo x place ∷ deeds) before after w = all_by (LetGo x place) w.0 after (begun deeds) w.2 (works_known deeds before w.0 w.1)
  works_known (Turned place ∷ deeds) before after w = all_by (Turned place) w.0 after (begun deeds) w.2 (works_known deeds before w.0 w.1)
  works_known (Parted place ∷ deeds) before after w = all_by (Parted place) w.0 after (begun deeds) w.2 (works_known deeds before w.0 w.1)

  -- EACH THAT CAME

  -- one deed more
  had_by : (deed : Deed (C × W)) (deeds : List (Deed (C × W))) (before after : Attended M C W) (connection : C × W) → Does tells remaining contents deed before after
      → IsHad tells remaining contents deeds before.clients connection → IsHad tells remaining contents (deed ∷ deeds) after.clients connection
  had_by deed deeds before after connection d (inr met) = inr (met_by deed deeds connection met)
  had_by (Admitted x place) deeds before after connection d (inl waits) = inl (waits_beside place before.clients after.clients None (silent x) connection d.0 (λ no. no) waits)
  had_by (GivenUp x) deeds before after connection d (inl waits) = inl (waits_same before.clients after.clients connection d.0 waits)
  had_by (Begun x place) deeds before after connection d (inl waits) =
      waits_or (IsMet (Begun x place ∷ deeds)) place before.clients after.clients x (Some (Talks d.0.0)) connection d.0.2 (inl (Contains-push (begun deeds) x)) waits
  had_by (LetGo x place) deeds before after connection d (inl waits) =
      waits_or (IsMet (LetGo x place ∷ deeds)) place before.clients after.clients x None connection d.0 (inr (Contains-push (given_up deeds) x)) waits
  had_by (Turned place) deeds before after connection d (inl waits) =
      inl (waits_beside place before.clients after.clients (Some (Talks d.talk)) d.left connection d.sets (λ no. no) waits)
  had_by (Parted place) deeds before after connection d (inl waits) =
      inl (waits_beside place before.clients after.clients (Some (Follows d.0)) None connection d.2 (λ no. no) waits)

  -- so all
  all_had : (deed : Deed (C × W)) (deeds : List (Deed (C × W))) (before after : Attended M C W) (connections : List (C × W)) → Does tells remaining contents deed before after
      → All (IsHad tells remaining contents deeds before.clients) connections → All (IsHad tells remaining contents (deed ∷ deeds) after.clients) connections
  all_had deed deeds before after connections d had =
      All-weaker (IsHad tells remaining contents deeds before.clients) (IsHad tells remaining contents (deed ∷ deeds) after.clients) (λ c is. had_by deed deeds before after c d is) connections had

  pub works_had : (deeds : List (Deed (C × W))) (before after : Attended M C W) → Works tells remaining contents deeds before after
      → All (IsHad tells remaining contents deeds after.clients) (came deeds)
  works_had [] before after w = All-nil (IsHad tells remaining contents [] after.clients)
  works_had (Admitted x place ∷ deeds) before after w =
      All-push (IsHad tells remaining contents (Admitted x place ∷ deeds) after.clients) (came deeds) x (all_had (Admitted x place) deeds w.0 after (came deeds) w.2 (works_had deeds before w.0 w.1))
      (inl (place, w.2.0.is_there))
  works_had (GivenUp x ∷ deeds) before after w =
      All-push (IsHad tells remaining contents (GivenUp x ∷ deeds) after.clients) (came deeds) x (all_had (GivenUp x) deeds w.0 after (came deeds) w.2 (works_had deeds before w.0 w.1))
      (inr (inr (Contains-push (given_up deeds) x)))
  works_had (Begun x place ∷ deeds) before after w = all_had (Begun x place) deeds w.0 after (came deeds) w.2 (works_had deeds before w.0 w.1)
  works_had (LetGo x place ∷ deeds) before after w = all_had (LetGo x place) deeds w.0 after (came deeds) w.2 (works_had deeds before w.0 w.1)
  works_had (Turned place ∷ deeds) before after w = all_had (Turned place) deeds w.0 after (came deeds) w.2 (works_had deeds before w.0 w.1)
  works_had (Parted place ∷ deeds) before after w = all_had (Parted place) deeds w.0 after (came deeds) w.2 (works_had deeds before w.0 w.1)
