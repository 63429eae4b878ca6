-- How the boxes of a server settled, or why one did not.
use Rattle.std.proofs.Common.{◌≡◌, sym, refl, subst, ℕ, List, ◌++◌, length, inl, inr}
use Rattle.std.specs.List.{AllZip}
use Rattle.rx_mailbox.specs.Boxes.{Outgoing}
use Rattle.rx_mailbox.specs.Passes.{SettledView}
use Rattle.rx_pump.specs.declared.call.Call.{Call}
use Rattle.rx_pump.specs.declared.call_desk.ended_desk.EndedDesk.{EndedDesk}
use Rattle.rx_pump.specs.declared.out.Out.{Out}
use Rattle.rx_pump.specs.declared.pump.pump_end.PumpEnd.{PumpEnd}
use Rattle.rx_pump.specs.declared.reply.Reply.{Reply}
use Rattle.rx_drain.specs.declared.drainer.drain_end.DrainEnd.{DrainEnd}
use Rattle.rx_mailbox.specs.Parts.{FirstUnsettled, PartsView, Settles}
use Rattle.rx_server.specs.declared.close.close_fault.CloseCause.TheVariants.{Unsettled}
use Rattle.rx_server.specs.declared.close.close_fault.CloseFault.{CloseFault}
use Rattle.rx_server.specs.declared.close.rooms.Rooms.{Rooms}
use Rattle.rx_server.specs.declared.wired.start_fault.Role.TheVariants.{Drainer, Pump, Worker}
use Rattle.rx_server.specs.Leaving.{HasLeft}
use Rattle.rx_server.specs.Returning.{AreEmpty, CameTwice, HaveSettledSo, IsUnsettledAt, Unsettles}
use Rattle.rx_server.specs.Wirings.{Wiring}
use Rattle.rx_server.proofs.Settled.{CameBack, ends-count}

-- a desk came back twice
pub twice : {S Rest : Type 0} (workers : ℕ) (leaves : List (Outgoing (Out S))) (desks : List (EndedDesk S)) (pumps : List (PumpEnd S)) (drainers : List (DrainEnd S Rest)) (fault : CloseFault)
    → (fault ≡ record { thread = Pump; index = 0; cause = Unsettled }) × CameTwice desks → Unsettles workers leaves desks pumps drainers fault
twice workers leaves desks pumps drainers fault (is, came) =
    subst (λ (f : CloseFault). Unsettles workers leaves desks pumps drainers f) (sym is) (refl, inl (came, refl, refl))

-- before anything came back there were as many boxes as pumps, drainers and desks ended
pub none-came : {S Rest : Type 0} (w : Wiring S) (rooms : Rooms S Rest) (ended : List (EndedDesk S)) → HasLeft w rooms ended
    → AreEmpty (length rooms.pumps.items) (length rooms.drainers.items) (length rooms.returned.replies.items) rooms.returned
none-came w rooms ended left =
    subst (λ n. AreEmpty n (length rooms.drainers.items) (length rooms.returned.replies.items) rooms.returned) (sym (ends-count w.subjects (λ end. end.inbox.box) rooms.pumps.items left.pumps))
    (subst (λ n. AreEmpty (length w.subjects) n (length rooms.returned.replies.items) rooms.returned) (sym (ends-count w.drainers (λ end. end.inbox.box) rooms.drainers.items left.drainers))
    (subst (λ n. AreEmpty (length w.subjects) (length w.drainers) n rooms.returned) (sym left.nothing_came.reply_count) left.nothing_came))

-- the boxes of the subjects settled with what came back
pub settled-so : {S Rest : Type 0} (w : Wiring S) (rooms : Rooms S Rest) (ended : List (EndedDesk S)) (left : HasLeft w rooms ended)
    (subjects : List (PartsView (Call S))) (drainers : List (PartsView (Out S))) (replies : List (PartsView (Reply S))) → CameBack w rooms ended left subjects drainers replies
    → (settled : List (SettledView (Call S))) → AllZip Settles subjects settled
    → HaveSettledSo (length rooms.returned.replies.items) rooms.leaves.items (ended ++ rooms.desks.items) rooms.pumps.items rooms.drainers.items settled
settled-so w rooms ended left subjects drainers replies came settled settle = record {
  start = rooms.returned;
  nothing_came = none-came w rooms ended left;
  calls = subjects;
  outs = drainers;
  answers = replies;
  came = came;
  settle = settle;
}

-- the box that is named is the first that cannot settle
pub first-box : {S Rest : Type 0} (w : Wiring S) (rooms : Rooms S Rest) (ended : List (EndedDesk S)) (left : HasLeft w rooms ended)
    (subjects : List (PartsView (Call S))) (drainers : List (PartsView (Out S))) (replies : List (PartsView (Reply S))) → CameBack w rooms ended left subjects drainers replies
    → (fault : CloseFault) → (fault.cause ≡ Unsettled) × IsUnsettledAt fault.thread fault.index subjects drainers replies
    → Unsettles (length rooms.returned.replies.items) rooms.leaves.items (ended ++ rooms.desks.items) rooms.pumps.items rooms.drainers.items fault
first-box w rooms ended left subjects drainers replies came fault (cause, stops) = (
  cause,
  inr (record {
    start = rooms.returned;
    nothing_came = none-came w rooms ended left;
    calls = subjects;
    outs = drainers;
    answers = replies;
    came = came;
    stops = stops;
  }),
)

-- the box at this place is the first that did not settle, of the pumps, the drainers or the workers
module _ {S : Type 0} (calls : List (PartsView (Call S))) (outs : List (PartsView (Out S))) (answers : List (PartsView (Reply S))) (fault : CloseFault) where
  abbrev pub Stops : CloseFault → Type 0
  Stops f = (f.cause ≡ Unsettled) × IsUnsettledAt f.thread f.index calls outs answers

  pub stops-pump : (place : ℕ) (settled : List (SettledView (Call S))) → fault ≡ record { thread = Pump; index = place; cause = Unsettled } → FirstUnsettled calls settled place → Stops fault
  stops-pump place settled is first = subst Stops (sym is) (refl, (settled, first))

  pub stops-drainer : (place : ℕ) (before : List (SettledView (Call S))) (settled : List (SettledView (Out S))) → fault ≡ record { thread = Drainer; index = place; cause = Unsettled }
      → AllZip Settles calls before → FirstUnsettled outs settled place → Stops fault
  stops-drainer place before settled is calls_settled first = subst Stops (sym is) (refl, ((before, calls_settled), (settled, first)))

  pub stops-worker : (place : ℕ) (before : List (SettledView (Call S))) (between : List (SettledView (Out S))) (settled : List (SettledView (Reply S)))
      → fault ≡ record { thread = Worker; index = place; cause = Unsettled }
      → AllZip Settles calls before → AllZip Settles outs between → FirstUnsettled answers settled place → Stops fault
  stops-worker place before between settled is calls_settled outs_settled first =
      subst Stops (sym is) (refl, ((before, calls_settled), (between, outs_settled), (settled, first)))
