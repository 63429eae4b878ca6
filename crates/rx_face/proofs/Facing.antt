-- What a face has done, deed by deed.
use Rattle.std.proofs.Common.{◌≡◌, ℕ, Bool, true, false, List, [], ◌∷◌, ◌++◌, Option, None, Some, refl, sym, ap, subst}
use Rattle.rx_desk.specs.EventDesks.{EventView}
use Rattle.rx_desk.specs.SessionDesks.{KeepsSession}
use Rattle.rx_desk.specs.declared.client_sink.ClientSink.{ClientSink}
use Rattle.rx_exchange.specs.Exchanges.{IsNew}
use Rattle.rx_exchange.specs.declared.exchange.Exchange.{Exchange}
use Rattle.rx_pump.specs.Desks.{DeskView}
use Rattle.rx_workers.proofs.Sessions.{keeps-then}
use Rattle.rx_workers.proofs.Talks.{starts-as}
use Rattle.rx_workers.specs.Talks.{Admits, Starts}
use Rattle.rx_workers.specs.declared.worker.client.Client.{Client}
use Rattle.rx_face.specs.Facing.{Attended, Deed, Admitted, GivenUp, Begun, LetGo, Turned, Parted, Does, DoesSome, HasServed, Works, attended}
use Rattle.rx_face.proofs.Keeping.{kept-equal, turn_keeps}
use Rattle.rx_face.proofs.Known.{works_had, works_known}

module _ {M C W : Type 0} (tells : M → ℕ → M → Type 0) (remaining : C → Option (List ℕ)) (contents : W → Option (List ℕ)) where
  -- nothing was done
  pub some-same : (s : Attended M C W) → DoesSome tells remaining contents s s
  some-same s = ([], refl)

  pub some-equal : (s t : Attended M C W) → t ≡ s → DoesSome tells remaining contents s t
  some-equal s t same = ([], same)

  -- one deed
  pub some-one : (deed : Deed (C × W)) (before after : Attended M C W) → Does tells remaining contents deed before after → DoesSome tells remaining contents before after
  some-one deed before after does = (deed ∷ [], (before, refl, does))

  -- deeds after deeds
  works-then : (first more : List (Deed (C × W))) (a b c : Attended M C W) → Works tells remaining contents first a b → Works tells remaining contents more b c
      → Works tells remaining contents (more ++ first) a c
  works-then first [] a b c p q = subst (λ (s : Attended M C W). Works tells remaining contents first a s) (sym q) p
  works-then first (deed ∷ more) a b c p q = (q.0, works-then first more a b q.0 p q.1, q.2)

  pub some-then : (a b c : Attended M C W) → DoesSome tells remaining contents a b → DoesSome tells remaining contents b c → DoesSome tells remaining contents a c
  some-then a b c p q = (q.0 ++ p.0, works-then p.0 q.0 a b c p.1 q.1)

  -- a connection came
  pub some-admitted : (place : Option ℕ) (connection : C × W) (desk : EventView M (ClientSink W)) (before after : List (Option (Client C W Exchange)))
      → Admits place connection before after → DoesSome tells remaining contents (attended desk before) (attended desk after)
  some-admitted None connection desk before after admits = some-one (GivenUp connection) (attended desk before) (attended desk after) (admits, refl)
  some-admitted (Some place) connection desk before after admits = some-one (Admitted connection place) (attended desk before) (attended desk after) (admits, refl)

  -- an exchange began, or its connection was given up
  pub some-started : (exchange : Exchange) (began : Bool) (place : ℕ) (connection : C × W) (desk : EventView M (ClientSink W)) (before after : List (Option (Client C W Exchange))) → IsNew exchange
      → Starts (λ (begun : Exchange). begun ≡ exchange) began place connection before after → DoesSome tells remaining contents (attended desk before) (attended desk after)
  some-started exchange true place connection desk before after new starts =
      some-one (Begun connection place) (attended desk before) (attended desk after) (starts-as exchange IsNew true place connection before after new starts, refl)
  some-started exchange false place connection desk before after new starts =
      some-one (LetGo connection place) (attended desk before) (attended desk after) (starts-as exchange IsNew false place connection before after new starts, refl)

  -- WHAT A DEED KEEPS OF THE DESK
  does_keeps : (deed : Deed (C × W)) (before after : Attended M C W) → Does tells remaining contents deed before after → KeepsSession before.desk.session after.desk.session
  does_keeps (Admitted connection place) before after d = kept-equal before.desk after.desk d.1
  does_keeps (GivenUp connection) before after d = kept-equal before.desk after.desk d.1
  does_keeps (Begun connection place) before after d = kept-equal before.desk after.desk d.1
  does_keeps (LetGo connection place) before after d = kept-equal before.desk after.desk d.1
  does_keeps (Turned place) before after d = turn_keeps tells remaining contents d.result d.talk d.reader d.exchange before.desk after.desk d.turn
  does_keeps (Parted place) before after d = d.1.disposes.kept

  works_keeps : (deeds : List (Deed (C × W))) (before after : Attended M C W) → Works tells remaining contents deeds before after → KeepsSession before.desk.session after.desk.session
  works_keeps [] before after w = kept-equal before.desk after.desk (ap (λ (s : Attended M C W). s.desk) w)
  works_keeps (deed ∷ deeds) before after w =
      keeps-then before.desk.session w.0.desk.session after.desk.session (works_keeps deeds before w.0 w.1) (does_keeps deed w.0 after w.2)

  -- THE WHOLE
  served_by : (before : EventView M (ClientSink W)) (begun after : Attended M C W) (end : DeskView (ClientSink W)) → begun ≡ attended before [] → DoesSome tells remaining contents begun after
      → end ≡ after.desk.session.calls → HasServed tells remaining contents before end
  served_by before begun after end is goes end_is =
      let from : DoesSome tells remaining contents (attended before []) after = subst (λ (s : Attended M C W). DoesSome tells remaining contents s after) is goes in
      record {
        after = after.desk;
        clients = after.clients;
        deeds = from.0;
        works = from.1;
        had = works_had tells remaining contents from.0 (attended before []) after from.1;
        known = works_known tells remaining contents from.0 (attended before []) after from.1;
        kept = works_keeps from.0 (attended before []) after from.1;
        desk = end_is;
      }

  pub has_served : (before desk : EventView M (ClientSink W)) (begun after : Attended M C W) (end : DeskView (ClientSink W)) → before ≡ desk → begun ≡ attended desk []
      → DoesSome tells remaining contents begun after → end ≡ after.desk.session.calls → HasServed tells remaining contents before end
  has_served before desk begun after end same is goes end_is =
      subst (λ (d : EventView M (ClientSink W)). HasServed tells remaining contents d end) (sym same) (served_by desk begun after end is goes end_is)
