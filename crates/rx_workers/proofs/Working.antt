-- What a worker has done, deed by deed.
use Rattle.std.proofs.Common.{◌≡◌, ◌⊎◌, ℕ, ◌+◌, ◌-◌, ◌^◌, min, Bool, true, false, List, [], ◌∷◌, ◌++◌, length, Option, None, Some, refl, sym, ap, subst, ◌∙◌, inl, inr, true≢false, arith}
use Rattle.std.specs.List.{All, Contains}
use Rattle.std.proofs.lemmas.Bool.{cases_eq}
use Rattle.std.proofs.lemmas.List.{length-append}
use Rattle.std.proofs.lemmas.List.Elements.{All-cons, All-nil, All-push, All-weaker, Contains-append_left, Contains-append_right, Contains-push}
use Rattle.rx_mailbox.specs.Boxes.{Incoming}
use Rattle.rx_mailbox.specs.declared.letter.Post.TheVariants.{Body}
use Rattle.rx_pump.specs.Desks.{DeskView}
use Rattle.rx_pump.specs.Pumps.{counted}
use Rattle.rx_pump.proofs.Pumping.{counted-more}
use Rattle.rx_session.specs.Among.{among}
use Rattle.rx_session.specs.OpenSessions.{IsNew, Sitting, Sits, first_place}
use Rattle.rx_session.specs.declared.open_session.OpenSession.{OpenSession}
use Rattle.rx_session.specs.declared.turn.Turn.{Turn}
use Rattle.rx_session.specs.declared.turn.Turn.TheVariants.{Again, Waits, Stuck, Over}
use Rattle.rx_session.proofs.Amongst.{Sitting-then}
use Rattle.rx_session.proofs.ByTurns.{IsOver-session, Sitting-new}
use Rattle.rx_desk.specs.declared.client_sink.ClientSink.{ClientSink}
use Rattle.rx_workers.specs.Clients.{AreSameClients, IsQuiet, IsTalk, Sets, client_at}
use Rattle.rx_desk.specs.SessionDesks.{Queue, SessionView, KeepsSession}
use Rattle.rx_config.specs.declared.subject_config.SubjectConfig.{SubjectConfig}
use Rattle.rx_workers.specs.declared.worker.client.Client.{Client}
use Rattle.rx_workers.specs.declared.worker.client.Client.TheVariants.{Talks, Follows}
use Rattle.rx_workers.specs.declared.worker.client.Talk.{Talk}
use Rattle.rx_desk.specs.declared.joined.Joined.{Joined}
use Rattle.rx_workers.specs.declared.worker.worker_end.WorkerEnd.{WorkerEnd}
use Rattle.rx_workers.specs.Workers.{worker_at_end}
use Rattle.rx_workers.specs.Working.{WorkerView, worker, State, state, Deed, Admitted, GivenUp, Dismissed, Abandoned, Begun, LetGo, Turned, Parted, came, begun, given_up, HasArrivals, HasConnection, HasNoConnection, HasTurn, HasTurnBehind, HasTurnTo, HasTurns, IsConnection, IsMet, PartsAt, Receives, ServesAt, StartsAt, Does, Works, DoesSome, IsServed, HasWorked, calls}
use Rattle.rx_workers.specs.Talks.{Admits, Begins, IsTalkOf, IsWaiting, Leaves, goes_at_once, silent}
use Rattle.rx_workers.proofs.Talks.{is_unserved, no_talk, one_talk, talks_or_not, waits_beside, waits_or, waits_same}
use Rattle.rx_workers.proofs.Places.{talk_unserved}
use Rattle.rx_workers.proofs.Sessions.{keeps-equal, keeps-then, turn_keeps}

-- a connection that is met by some deeds is met by one more
met_by : {X : Type 0} (deed : Deed X) (deeds : List (Deed X)) (x : X) → IsMet deeds x → IsMet (deed ∷ deeds) x
met_by (Admitted y place) deeds x met = met
met_by (GivenUp y) deeds x (inl began) = inl began
met_by (GivenUp y) deeds x (inr given) = inr (Contains-append_left (given_up deeds) (y ∷ []) x given)
met_by Dismissed deeds x met = met
met_by Abandoned deeds x met = met
met_by (Begun y place) deeds x (inl began) = inl (Contains-append_left (begun deeds) (y ∷ []) x began)
met_by (Begun y place) deeds x (inr given) = inr given
met_by (LetGo y place) deeds x (inl began) = inl began
met_by (LetGo y place) deeds x (inr given) = inr (Contains-append_left (given_up deeds) (y ∷ []) x given)
met_by (Turned place) deeds x met = met
met_by (Parted place) deeds x met = met

module _ {M C W : Type 0} (tells : M → ℕ → M → Type 0) (remaining : C → Option (List ℕ)) (contents : W → Option (List ℕ)) where
  -- nothing was done
  pub DoesSome-same : (s : State M C W) → DoesSome tells remaining contents s s
  DoesSome-same s = ([], refl)

  -- one deed
  pub DoesSome-one : (deed : Deed (C × W)) (before after : State M C W) → Does tells remaining contents deed before after → DoesSome tells remaining contents before after
  DoesSome-one deed before after does = (deed ∷ [], (before, refl, does))

  -- deeds after deeds
  works-then : (first more : List (Deed (C × W))) (a b c : State M C W) → Works tells remaining contents first a b → Works tells remaining contents more b c
      → Works tells remaining contents (more ++ first) a c
  works-then first [] a b c p q = subst (λ (s : State M C W). Works tells remaining contents first a s) (sym q) p
  works-then first (deed ∷ more) a b c p q = (q.0, works-then first more a b q.0 p q.1, q.2)

  pub DoesSome-then : (a b c : State M C W) → DoesSome tells remaining contents a b → DoesSome tells remaining contents b c → DoesSome tells remaining contents a c
  DoesSome-then a b c p q = (q.0 ++ p.0, works-then p.0 q.0 a b c p.1 q.1)

  -- CONNECTIONS

  -- some came, and nothing else
  abbrev pub HaveCome : State M C W → State M C W → Type 0
  HaveCome before after = (deeds : List (Deed (C × W))) × All IsConnection deeds × Works tells remaining contents deeds before after

  -- one did
  pub came-one : (place : Option ℕ) (connection : C × W) (before after : State M C W) → Receives tells remaining contents (Body connection) before after
      → Admits place connection before.clients after.clients → after.sessions ≡ before.sessions → after.is_open ≡ before.is_open → HasConnection tells remaining contents before after
  came-one None connection before after received admits sessions is_open = (GivenUp connection, tt, (received, admits, sessions, is_open))
  came-one (Some place) connection before after received admits sessions is_open = (Admitted connection place, tt, (received, admits, sessions, is_open))

  pub come-none : (s : State M C W) → HaveCome s s
  come-none s = ([], All-nil IsConnection, refl)

  pub come-one : (a b c : State M C W) → HaveCome a b → HasConnection tells remaining contents b c → HaveCome a c
  come-one a b c so one = (one.0 ∷ so.0, All-cons IsConnection one.0 so.0 one.1 so.1, (b, so.2, one.2))

  -- some came, and then none did
  pub arrived : (before last after : State M C W) → before.is_open ≡ true → HaveCome before last → HasNoConnection tells remaining contents last after
      → HasArrivals tells remaining contents before after
  arrived before last after was_open came none = record { deeds = came.0; each = came.1; last = last; came = came.2; none = none; closed = λ closed. absurd (true≢false (sym was_open ∙ closed)) }

  -- none could come
  pub arrived-none : (s : State M C W) → HasArrivals tells remaining contents s s
  arrived-none s = record { deeds = []; each = All-nil IsConnection; last = s; came = refl; none = inl refl; closed = λ closed. refl }

  none-goes : (before after : State M C W) → HasNoConnection tells remaining contents before after → DoesSome tells remaining contents before after
  none-goes before after (inl same) = ([], same)
  none-goes before after (inr (inl bye)) = DoesSome-one Dismissed before after bye
  none-goes before after (inr (inr gone)) = DoesSome-one Abandoned before after gone

  pub Arrivals-goes : (before after : State M C W) → HasArrivals tells remaining contents before after → DoesSome tells remaining contents before after
  Arrivals-goes before after arrivals = DoesSome-then before arrivals.last after (arrivals.deeds, arrivals.came) (none-goes arrivals.last after arrivals.none)

  -- TURNS OF ONE SESSION

  -- one turn, after which the session doesn't go on at once; or there is none
  pub turns-one : (place : ℕ) (before after : State M C W) → (IsTalk (client_at place before.clients) → HasTurnTo tells remaining contents place false before after)
      → (¬ IsTalk (client_at place before.clients) → after ≡ before) → HasTurns tells remaining contents place before after
  turns-one place before after turned kept = elim (talks_or_not (client_at place before.clients)) [
    | inl talks ↦
        let to = turned talks in
        inl (after, to.0, subst (λ (b : Bool). HasTurnBehind tells remaining contents b place after after) to.1 refl)
    | inr none ↦ inr (none, kept none)
  ]

  -- one, and one more behind it
  pub turns-two : (place : ℕ) (before mid after : State M C W) → HasTurnTo tells remaining contents place true before mid → HasTurn tells remaining contents place mid after
      → HasTurns tells remaining contents place before after
  turns-two place before mid after to more = inl (mid, to.0, subst (λ (b : Bool). HasTurnBehind tells remaining contents b place mid after) to.1 more)

  behind-goes : (at_once : Bool) (place : ℕ) (before after : State M C W) → HasTurnBehind tells remaining contents at_once place before after → DoesSome tells remaining contents before after
  behind-goes true place before after had = DoesSome-one (Turned place) before after had
  behind-goes false place before after same = ([], same)

  turns-goes : (place : ℕ) (before after : State M C W) → HasTurns tells remaining contents place before after → DoesSome tells remaining contents before after
  turns-goes place before after (inl had) =
      DoesSome-then before had.0 after (DoesSome-one (Turned place) before had.0 had.1) (behind-goes (goes_at_once had.1.result) place had.0 after had.2)
  turns-goes place before after (inr (none, same)) = ([], same)

  parts-goes : (place : ℕ) (before after : State M C W) → PartsAt tells remaining contents place before after → DoesSome tells remaining contents before after
  parts-goes place before after (inl did) = DoesSome-one (Parted place) before after did
  parts-goes place before after (inr (none, same)) = ([], same)

  starts-goes : (place : ℕ) (before after : State M C W) → StartsAt tells remaining contents place before after → DoesSome tells remaining contents before after
  starts-goes place before after (inl (connection, inl began)) = DoesSome-one (Begun connection place) before after began
  starts-goes place before after (inl (connection, inr gone)) = DoesSome-one (LetGo connection place) before after gone
  starts-goes place before after (inr (none, same)) = ([], same)

  pub Serves-goes : (place : ℕ) (is_gone : Bool) (before after : State M C W) → ServesAt tells remaining contents place is_gone before after
      → DoesSome tells remaining contents before after
  Serves-goes place false before after served =
      DoesSome-then before served.0 after (starts-goes place before served.0 served.1) (turns-goes place served.0 after served.2)
  Serves-goes place true before after served =
      DoesSome-then before served.0 after (starts-goes place before served.0 served.2)
      (DoesSome-then served.0 served.1 after (turns-goes place served.0 served.1 served.3) (parts-goes place served.1 after served.4))

  -- WHAT A DEED KEEPS OF THE DESK
  does_keeps : (deed : Deed (C × W)) (before after : State M C W) → Does tells remaining contents deed before after → KeepsSession before.session after.session
  does_keeps (Admitted connection place) before after d = keeps-equal before.session after.session d.0.session
  does_keeps (GivenUp connection) before after d = keeps-equal before.session after.session d.0.session
  does_keeps Dismissed before after d = keeps-equal before.session after.session d.0.session
  does_keeps Abandoned before after d = keeps-equal before.session after.session (ap (λ (s : State M C W). s.session) d)
  does_keeps (Begun connection place) before after d = keeps-equal before.session after.session (ap (λ (s : State M C W). s.session) d.1)
  does_keeps (LetGo connection place) before after d = keeps-equal before.session after.session (ap (λ (s : State M C W). s.session) d.1)
  does_keeps (Turned place) before after d = turn_keeps tells remaining contents d.result d.talk d.reader d.session before.session after.session d.turn
  does_keeps (Parted place) before after d = d.1.kept

  works_keeps : (deeds : List (Deed (C × W))) (before after : State M C W) → Works tells remaining contents deeds before after → KeepsSession before.session after.session
  works_keeps [] before after w = keeps-equal before.session after.session (ap (λ (s : State M C W). s.session) w)
  works_keeps (deed ∷ deeds) before after w =
      keeps-then before.session w.0.session after.session (works_keeps deeds before w.0 w.1) (does_keeps deed w.0 after w.2)

  -- HOW MANY SESSIONS BEGAN
  works_count : (deeds : List (Deed (C × W))) (before after : State M C W) → Works tells remaining contents deeds before after → before.sessions ≡ 0
      → after.sessions ≡ counted (length (begun deeds))
  works_count [] before after w none = ap (λ (s : State M C W). s.sessions) w ∙ none
  works_count (Admitted x place ∷ deeds) before after w none = w.2.2 ∙ works_count deeds before w.0 w.1 none
  works_count (GivenUp x ∷ deeds) before after w none = w.2.2 ∙ works_count deeds before w.0 w.1 none
  works_count (Dismissed ∷ deeds) before after w none = w.2.2 ∙ works_count deeds before w.0 w.1 none
  works_count (Abandoned ∷ deeds) before after w none = ap (λ (s : State M C W). s.sessions) w.2 ∙ works_count deeds before w.0 w.1 none
  works_count (Begun x place ∷ deeds) before after w none =
      ap (λ (s : State M C W). s.sessions) w.2.1 ∙ ap (λ n. min (n + 1) (2 ^ 64 - 1)) (works_count deeds before w.0 w.1 none) ∙ counted-more (length (begun deeds))
      ∙ ap counted (sym (length-append (begun deeds) (x ∷ [])))
  works_count (LetGo x place ∷ deeds) before after w none = ap (λ (s : State M C W). s.sessions) w.2.1 ∙ works_count deeds before w.0 w.1 none
  works_count (Turned place ∷ deeds) before after w none = w.2.sessions ∙ works_count deeds before w.0 w.1 none
  works_count (Parted place ∷ deeds) before after w none = w.2.4 ∙ works_count deeds before w.0 w.1 none

  -- EACH CONNECTION HAS ITS SESSION

  -- a session is under way that began with a connection, among others
  pub record IsUnderWay (connection : C × W) (talk : Talk C W OpenSession) : Type 0 where
    pub begun : SessionView M (ClientSink W)
    pub now : SessionView M (ClientSink W)
    pub sitting : Sitting (among (calls tells remaining contents)) (first_place begun connection.1) [] (remaining connection.0) (remaining talk.reader) now talk.writer talk.session.value

  -- it stands at a place
  record IsThere (clients : List (Option (Client C W OpenSession))) (connection : C × W) : Type 0 where
    pub place : ℕ
    pub talk : Talk C W OpenSession
    pub there : client_at place clients ≡ Some (Talks talk)
    pub under_way : IsUnderWay connection talk

  -- it does, or the connection was served
  abbrev IsKnown : List (Option (Client C W OpenSession)) → C × W → Type 0
  IsKnown clients connection = IsThere clients connection ⊎ IsServed tells remaining contents connection

  -- a connection whose session began
  known_new : (place : ℕ) (before after : List (Option (Client C W OpenSession))) (connection : C × W) (talk : Talk C W OpenSession) (desk : SessionView M (ClientSink W))
      → Begins IsNew connection talk → Sets place before after (silent connection) (Some (Talks talk)) → IsKnown after connection
  known_new place before after connection talk desk begins sets =
      let p = among (calls tells remaining contents) in
      let fresh = Sitting-new p talk.session.value desk talk.writer (remaining talk.reader) begins.is_new in
      inl (record {
        place = place;
        talk = talk;
        there = sets.is_there;
        under_way = record {
          begun = desk;
          now = desk;
          sitting =
              subst (λ (w : W). Sitting p (first_place desk w) [] (remaining connection.0) (remaining talk.reader) desk talk.writer talk.session.value) begins.writer_is
              (subst (λ (c : C). Sitting p (first_place desk talk.writer) [] (remaining c) (remaining talk.reader) desk talk.writer talk.session.value) begins.reader_is fresh);
        };
      })

  -- it stands where it stood
  known_there : (before after : List (Option (Client C W OpenSession))) (connection : C × W) (s : IsThere before connection) → client_at s.place after ≡ client_at s.place before → IsKnown after connection
  known_there before after connection s same = inl (record { place = s.place; talk = s.talk; there = same ∙ s.there; under_way = s.under_way })

  -- nobody went
  known_same : (before after : List (Option (Client C W OpenSession))) (connection : C × W) → AreSameClients before after → IsKnown before connection → IsKnown after connection
  known_same before after connection same (inl s) = known_there before after connection s (same s.place)
  known_same before after connection same (inr served) = inr served

  -- where no session was another client is now, or none
  known_beside : (place : ℕ) (before after : List (Option (Client C W OpenSession))) (was is : Option (Client C W OpenSession)) (connection : C × W)
      → Sets place before after was is → ¬ IsTalk was → IsKnown before connection → IsKnown after connection
  known_beside place before after was is connection sets none (inr served) = inr served
  known_beside place before after was is connection sets none (inl s) = elim (cases_eq s.place place) [
    | inl here ↦ absurd (no_talk (client_at place before) was s.talk sets.was_there none (subst (λ (n : ℕ). client_at n before ≡ Some (Talks s.talk)) here s.there))
    | inr else ↦ known_there before after connection s (sets.others s.place else)
  ]

  -- a session that goes on
  known_further : (place : ℕ) (after : List (Option (Client C W OpenSession))) (connection : C × W) (begun now : SessionView M (ClientSink W)) (reader : C) (writer : W) (session : OpenSession) (left : Option (Client C W OpenSession))
      → (talk : Talk C W OpenSession) × (left ≡ Some (Talks talk)) × IsTalkOf reader writer session talk → client_at place after ≡ left
      → Sitting (among (calls tells remaining contents)) (first_place begun connection.1) [] (remaining connection.0) (remaining reader) now writer session → IsKnown after connection
  known_further place after connection begun now reader writer session left leaves there sitting =
      let p = among (calls tells remaining contents) in
      let start = first_place begun connection.1 in
      let talk = leaves.0 in
      let is = leaves.2 in
      inl (record {
        place = place;
        talk = talk;
        there = there ∙ leaves.1;
        under_way = record {
          begun = begun;
          now = now;
          sitting =
              subst (λ (o : OpenSession). Sitting p start [] (remaining connection.0) (remaining talk.reader) now talk.writer o) (sym is.session_is)
              (subst (λ (w : W). Sitting p start [] (remaining connection.0) (remaining talk.reader) now w session) (sym is.writer_is)
              (subst (λ (c : C). Sitting p start [] (remaining connection.0) (remaining c) now writer session) (sym is.reader_is) sitting));
        };
      })

  -- what a turn made of a session under way
  known_turned : (result : Turn W) (place : ℕ) (after : List (Option (Client C W OpenSession))) (connection : C × W) (begun now : SessionView M (ClientSink W)) (reader : C) (session : OpenSession) (joined : Option Joined)
      (left : Option (Client C W OpenSession)) → Leaves result reader session joined left → client_at place after ≡ left
      → Sits (among (calls tells remaining contents)) result (first_place begun connection.1) [] (remaining connection.0) (remaining reader) now session → IsKnown after connection
  known_turned (Again writer) place after connection begun now reader session joined left leaves there sits = known_further place after connection begun now reader writer session left leaves there sits
  known_turned (Waits writer) place after connection begun now reader session joined left leaves there sits = known_further place after connection begun now reader writer session left leaves there sits
  known_turned (Stuck writer) place after connection begun now reader session joined left leaves there sits = known_further place after connection begun now reader writer session left leaves there sits
  known_turned (Over end back) place after connection begun now reader session joined left leaves there sits =
      let over = IsOver-session (among (calls tells remaining contents)) begun connection.1 (remaining connection.0) (remaining reader) (record { end = end; desk = now; back = back }) sits in
      inr (record { reader = reader; input = over.0; before = begun; after = now; end = end; back = back; session = over.1 })

  -- the session at this place had a turn
  known_turn : (place : ℕ) (before after : State M C W) (connection : C × W) → HasTurn tells remaining contents place before after
      → IsKnown before.clients connection → IsKnown after.clients connection
  known_turn place before after connection t (inr served) = inr served
  known_turn place before after connection t (inl s) = elim (cases_eq s.place place) [
    | inr else ↦ known_there before.clients after.clients connection s (t.sets.others s.place else)
    | inl here ↦
        let there : client_at place before.clients ≡ Some (Talks s.talk) = subst (λ (n : ℕ). client_at n before.clients ≡ Some (Talks s.talk)) here s.there in
        let u : IsUnderWay connection t.talk = one_talk (IsUnderWay connection) (client_at place before.clients) s.talk t.talk there t.sets.was_there s.under_way in
        let sat =
        Sitting-then (calls tells remaining contents) (first_place u.begun connection.1) [] (remaining connection.0) (remaining t.talk.reader) (remaining t.reader) u.now before.session after.session
        t.talk.writer t.talk.session.value t.session t.result u.sitting t.turn.sits in
        known_turned t.result place after.clients connection u.begun sat.0 t.reader t.session after.session.joined t.left t.leaves t.sets.is_there sat.1
  ]

  -- one deed more
  known_by : (deed : Deed (C × W)) (before after : State M C W) (connection : C × W) → Does tells remaining contents deed before after
      → IsKnown before.clients connection → IsKnown after.clients connection
  known_by (Admitted x place) before after connection d known = known_beside place before.clients after.clients None (silent x) connection d.1 (λ no. no) known
  known_by (GivenUp x) before after connection d known = known_same before.clients after.clients connection d.1 known
  known_by Dismissed before after connection d known = known_same before.clients after.clients connection d.1 known
  known_by Abandoned before after connection d known =
      known_same before.clients after.clients connection (λ place. ap (λ (s : State M C W). client_at place s.clients) d) known
  known_by (Begun x place) before after connection d known = known_beside place before.clients after.clients (silent x) (Some (Talks d.0.0)) connection d.0.2 (λ no. no) known
  known_by (LetGo x place) before after connection d known = known_beside place before.clients after.clients (silent x) None connection d.0 (λ no. no) known
  known_by (Turned place) before after connection d known = known_turn place before after connection d known
  known_by (Parted place) before after connection d known = known_beside place before.clients after.clients (Some (Follows d.0)) None connection d.2 (λ no. no) known

  -- so all
  all_by : (deed : Deed (C × W)) (before after : State M C W) (connections : List (C × W)) → Does tells remaining contents deed before after
      → All (IsKnown before.clients) connections → All (IsKnown after.clients) connections
  all_by deed before after connections d known = All-weaker (IsKnown before.clients) (IsKnown after.clients) (λ c is. known_by deed before after c d is) connections known

  -- each connection whose session began is known
  works_known : (deeds : List (Deed (C × W))) (before after : State M C W) → Works tells remaining contents deeds before after → All (IsKnown after.clients) (begun deeds)
  works_known [] before after w = All-nil (IsKnown after.clients)
  works_known (Admitted x place ∷ deeds) before after w = all_by (Admitted x place) w.0 after (begun deeds) w.2 (works_known deeds before w.0 w.1)
  works_known (GivenUp x ∷ deeds) before after w = all_by (GivenUp x) w.0 after (begun deeds) w.2 (works_known deeds before w.0 w.1)
  works_known (Dismissed ∷ deeds) before after w = all_by Dismissed w.0 after (begun deeds) w.2 (works_known deeds before w.0 w.1)
  works_known (Abandoned ∷ deeds) before after w = all_by Abandoned w.0 after (begun deeds) w.2 (works_known deeds before w.0 w.1)
  works_known (Begun x place ∷ deeds) before after w =
      All-push (IsKnown after.clients) (begun deeds) x (all_by (Begun x place) w.0 after (begun deeds) w.2 (works_known deeds before w.0 w.1))
      (known_new place w.0.clients after.clients x w.2.0.0 w.0.session w.2.0.1 w.2.0.2)
  works_known (LetGo x place ∷ deeds) before after w = all_by (LetGo x place) w.0 after (begun deeds) w.2 (works_known deeds before w.0 w.1)
  works_known (Turned place ∷ deeds) before after w = all_by (Turned place) w.0 after (begun deeds) w.2 (works_known deeds before w.0 w.1)
  works_known (Parted place ∷ deeds) before after w = all_by (Parted place) w.0 after (begun deeds) w.2 (works_known deeds before w.0 w.1)

  -- where no session is under way a connection that is known was served
  known_served : (clients : List (Option (Client C W OpenSession))) (connection : C × W) → IsQuiet clients → IsKnown clients connection → IsServed tells remaining contents connection
  known_served clients connection quiet (inr served) = served
  known_served clients connection quiet (inl s) = absurd (quiet s.place (talk_unserved (client_at s.place clients) s.talk s.there))

  all_served : (clients : List (Option (Client C W OpenSession))) (connections : List (C × W)) → IsQuiet clients → All (IsKnown clients) connections → All (IsServed tells remaining contents) connections
  all_served clients connections quiet known = All-weaker (IsKnown clients) (IsServed tells remaining contents) (λ c is. known_served clients c quiet is) connections known

  -- EACH CONNECTION THAT CAME IS MET

  -- or nothing came of it yet
  abbrev IsHad : List (Deed (C × W)) → List (Option (Client C W OpenSession)) → C × W → Type 0
  IsHad deeds clients connection = IsWaiting clients connection ⊎ IsMet deeds connection

  -- one deed more
  had_by : (deed : Deed (C × W)) (deeds : List (Deed (C × W))) (before after : State M C W) (connection : C × W) → Does tells remaining contents deed before after
      → IsHad deeds before.clients connection → IsHad (deed ∷ deeds) after.clients connection
  had_by deed deeds before after connection d (inr met) = inr (met_by deed deeds connection met)
  had_by (Admitted x place) deeds before after connection d (inl waits) = inl (waits_beside place before.clients after.clients None (silent x) connection d.1 (λ no. no) waits)
  had_by (GivenUp x) deeds before after connection d (inl waits) = inl (waits_same before.clients after.clients connection d.1 waits)
  had_by Dismissed deeds before after connection d (inl waits) = inl (waits_same before.clients after.clients connection d.1 waits)
  had_by Abandoned deeds before after connection d (inl waits) =
      inl (waits_same before.clients after.clients connection (λ place. ap (λ (s : State M C W). client_at place s.clients) d) waits)
  had_by (Begun x place) deeds before after connection d (inl waits) =
      waits_or (IsMet (Begun x place ∷ deeds)) place before.clients after.clients x (Some (Talks d.0.0)) connection d.0.2 (inl (Contains-push (begun deeds) x)) waits
  had_by (LetGo x place) deeds before after connection d (inl waits) =
      waits_or (IsMet (LetGo x place ∷ deeds)) place before.clients after.clients x None connection d.0 (inr (Contains-push (given_up deeds) x)) waits
  had_by (Turned place) deeds before after connection d (inl waits) =
      inl (waits_beside place before.clients after.clients (Some (Talks d.talk)) d.left connection d.sets (λ no. no) waits)
  had_by (Parted place) deeds before after connection d (inl waits) =
      inl (waits_beside place before.clients after.clients (Some (Follows d.0)) None connection d.2 (λ no. no) waits)

  -- so all
  all_had : (deed : Deed (C × W)) (deeds : List (Deed (C × W))) (before after : State M C W) (connections : List (C × W)) → Does tells remaining contents deed before after
      → All (IsHad deeds before.clients) connections → All (IsHad (deed ∷ deeds) after.clients) connections
  all_had deed deeds before after connections d had =
      All-weaker (IsHad deeds before.clients) (IsHad (deed ∷ deeds) after.clients) (λ c is. had_by deed deeds before after c d is) connections had

  works_had : (deeds : List (Deed (C × W))) (before after : State M C W) → Works tells remaining contents deeds before after → All (IsHad deeds after.clients) (came deeds)
  works_had [] before after w = All-nil (IsHad [] after.clients)
  works_had (Admitted x place ∷ deeds) before after w =
      All-push (IsHad (Admitted x place ∷ deeds) after.clients) (came deeds) x (all_had (Admitted x place) deeds w.0 after (came deeds) w.2 (works_had deeds before w.0 w.1))
      (inl (place, w.2.1.is_there))
  works_had (GivenUp x ∷ deeds) before after w =
      All-push (IsHad (GivenUp x ∷ deeds) after.clients) (came deeds) x (all_had (GivenUp x) deeds w.0 after (came deeds) w.2 (works_had deeds before w.0 w.1))
      (inr (inr (Contains-push (given_up deeds) x)))
  works_had (Dismissed ∷ deeds) before after w = all_had Dismissed deeds w.0 after (came deeds) w.2 (works_had deeds before w.0 w.1)
  works_had (Abandoned ∷ deeds) before after w = all_had Abandoned deeds w.0 after (came deeds) w.2 (works_had deeds before w.0 w.1)
  works_had (Begun x place ∷ deeds) before after w = all_had (Begun x place) deeds w.0 after (came deeds) w.2 (works_had deeds before w.0 w.1)
  works_had (LetGo x place ∷ deeds) before after w = all_had (LetGo x place) deeds w.0 after (came deeds) w.2 (works_had deeds before w.0 w.1)
  works_had (Turned place ∷ deeds) before after w = all_had (Turned place) deeds w.0 after (came deeds) w.2 (works_had deeds before w.0 w.1)
  works_had (Parted place ∷ deeds) before after w = all_had (Parted place) deeds w.0 after (came deeds) w.2 (works_had deeds before w.0 w.1)

  -- where nobody waits
  had_met : (deeds : List (Deed (C × W))) (clients : List (Option (Client C W OpenSession))) (connection : C × W) → IsQuiet clients → IsHad deeds clients connection → IsMet deeds connection
  had_met deeds clients connection quiet (inr met) = met
  had_met deeds clients connection quiet (inl waits) = absurd (quiet waits.0 (is_unserved (client_at waits.0 clients) connection waits.1))

  all_met : (deeds : List (Deed (C × W))) (clients : List (Option (Client C W OpenSession))) (connections : List (C × W)) → IsQuiet clients → All (IsHad deeds clients) connections → All (IsMet deeds) connections
  all_met deeds clients connections quiet had = All-weaker (IsHad deeds clients) (IsMet deeds) (λ c is. had_met deeds clients c quiet is) connections had

  -- ONCE CLOSED, BY ONE OF TWO DEEDS

  -- a deed before the latest one
  earlier : (deed : Deed (C × W)) (deeds : List (Deed (C × W))) → Contains deeds Dismissed ⊎ Contains deeds Abandoned
      → Contains (deed ∷ deeds) Dismissed ⊎ Contains (deed ∷ deeds) Abandoned
  earlier deed deeds (inl found) = inl (Contains-append_right (deed ∷ []) deeds Dismissed found)
  earlier deed deeds (inr found) = inr (Contains-append_right (deed ∷ []) deeds Abandoned found)

  -- where a worker is closed to connections that was open before
  works_over : (deeds : List (Deed (C × W))) (before after : State M C W) → Works tells remaining contents deeds before after → before.is_open ≡ true → after.is_open ≡ false
      → Contains deeds Dismissed ⊎ Contains deeds Abandoned
  works_over [] before after w was is = absurd (true≢false (sym was ∙ sym (ap (λ (s : State M C W). s.is_open) w) ∙ is))
  works_over (Admitted x place ∷ deeds) before after w was is = earlier (Admitted x place) deeds (works_over deeds before w.0 w.1 was (sym w.2.3 ∙ is))
  works_over (GivenUp x ∷ deeds) before after w was is = earlier (GivenUp x) deeds (works_over deeds before w.0 w.1 was (sym w.2.3 ∙ is))
  works_over (Dismissed ∷ deeds) before after w was is = inl (0, omega arith, refl)
  works_over (Abandoned ∷ deeds) before after w was is = inr (0, omega arith, refl)
  works_over (Begun x place ∷ deeds) before after w was is = earlier (Begun x place) deeds (works_over deeds before w.0 w.1 was (sym (ap (λ (s : State M C W). s.is_open) w.2.1) ∙ is))
  works_over (LetGo x place ∷ deeds) before after w was is = earlier (LetGo x place) deeds (works_over deeds before w.0 w.1 was (sym (ap (λ (s : State M C W). s.is_open) w.2.1) ∙ is))
  works_over (Turned place ∷ deeds) before after w was is = earlier (Turned place) deeds (works_over deeds before w.0 w.1 was (sym w.2.is_open ∙ is))
  works_over (Parted place ∷ deeds) before after w was is = earlier (Parted place) deeds (works_over deeds before w.0 w.1 was (sym w.2.5 ∙ is))

  -- THE WHOLE

  -- a state that is closed
  state_closed : (s : State M C W) → s.is_open ≡ false → s ≡ state s.session s.inbox s.clients s.sessions false
  state_closed s closed = ap (λ (b : Bool). state s.session s.inbox s.clients s.sessions b) closed

  pub has_worked : (session : SessionView M (ClientSink W)) (inbox : Incoming (C × W)) (after : State M C W) → DoesSome tells remaining contents (state session inbox [] 0 true) after
      → after.is_open ≡ false → IsQuiet after.clients
      → HasWorked tells remaining contents (worker session inbox) (worker after.session after.inbox) after.sessions
  has_worked session inbox after goes closed quiet =
      let before : State M C W = state session inbox [] 0 true in
      record {
        deeds = goes.0;
        clients = after.clients;
        works = subst (λ (s : State M C W). Works tells remaining contents goes.0 before s) (state_closed after closed) goes.1;
        is_over = works_over goes.0 before after goes.1 refl closed;
        is_quiet = quiet;
        met = all_met goes.0 after.clients (came goes.0) quiet (works_had goes.0 before after goes.1);
        served = all_served after.clients (begun goes.0) quiet (works_known goes.0 before after goes.1);
        kept = works_keeps goes.0 before after goes.1;
        sessions_are = works_count goes.0 before after goes.1 refl;
      }

-- a session's desk of which these parts are known
session_is : {S : Type 0} (session : SessionView (Unit {0}) S) (subjects : List SubjectConfig) (window : ℕ) (desk : DeskView S)
    → session.subjects ≡ subjects → session.window ≡ window → session.calls ≡ desk → session ≡ record { subjects = subjects; window = window; moments = tt; calls = desk; joined = session.joined; queue = session.queue }
session_is session subjects window desk same_subjects same_window same_calls =
    ap (λ s. record { subjects = s; window = session.window; moments = tt; calls = session.calls; joined = session.joined; queue = session.queue }) same_subjects
    ∙ ap (λ w. record { subjects = subjects; window = w; moments = tt; calls = session.calls; joined = session.joined; queue = session.queue }) same_window
    ∙ ap (λ c. record { subjects = subjects; window = window; moments = tt; calls = c; joined = session.joined; queue = session.queue }) same_calls

module _ {C W : Type 0} (tells : Unit {0} → ℕ → Unit {0} → Type 0) (remaining : C → Option (List ℕ)) (contents : W → Option (List ℕ)) where
  -- a worker that has worked, by what it left
  pub worked-end : (before : WorkerView (Unit {0}) C W) (session after : SessionView (Unit {0}) (ClientSink W)) (inbox : Incoming (C × W)) (end : WorkerEnd C W) (sessions : ℕ)
      → before ≡ worker session inbox → end.desk ≡ after.calls → HasWorked tells remaining contents (worker session inbox) (worker after end.inbox) sessions
      → (joined : Option Joined) × (queue : Queue) × HasWorked tells remaining contents before (worker_at_end before joined queue end) sessions
  worked-end before session after inbox end sessions begins desk worked =
      let H : WorkerView (Unit {0}) C W → Type 0 = λ w. HasWorked tells remaining contents w (worker after end.inbox) sessions in
      let from : H before = subst H (sym begins) worked in
      let left : after ≡ (worker_at_end before after.joined after.queue end).session = session_is after before.session.subjects before.session.window end.desk from.kept.subjects from.kept.window (sym desk) in
      (after.joined, after.queue, subst (λ (s : SessionView (Unit {0}) (ClientSink W)). HasWorked tells remaining contents before (worker s end.inbox) sessions) left from)

  -- so a worker has that was at work
  pub worker-ended : (before : WorkerView (Unit {0}) C W) (session : SessionView (Unit {0}) (ClientSink W)) (inbox : Incoming (C × W)) (begun shift : State (Unit {0}) C W) (end : WorkerEnd C W)
      → before ≡ worker session inbox → begun ≡ state session inbox [] 0 true → DoesSome tells remaining contents begun shift → shift.is_open ≡ false → IsQuiet shift.clients
      → end.desk ≡ shift.session.calls → end.inbox ≡ shift.inbox → end.sessions ≡ shift.sessions
      → (joined : Option Joined) × (queue : Queue) × HasWorked tells remaining contents before (worker_at_end before joined queue end) end.sessions
  worker-ended before session inbox begun shift end begins begun_is goes closed quiet desk inbox_is sessions_are =
      let from : DoesSome tells remaining contents (state session inbox [] 0 true) shift = subst (λ (s : State (Unit {0}) C W). DoesSome tells remaining contents s shift) begun_is goes in
      let all = has_worked tells remaining contents session inbox shift from closed quiet in
      let counted_so : HasWorked tells remaining contents (worker session inbox) (worker shift.session shift.inbox) end.sessions =
      subst (λ (n : ℕ). HasWorked tells remaining contents (worker session inbox) (worker shift.session shift.inbox) n) (sym sessions_are) all in
      let left : HasWorked tells remaining contents (worker session inbox) (worker shift.session end.inbox) end.sessions =
      subst (λ (i : Incoming (C × W)). HasWorked tells remaining contents (worker session inbox) (worker shift.session i) end.sessions) (sym inbox_is) counted_so in
      worked-end before session shift.session inbox end end.sessions begins desk left
