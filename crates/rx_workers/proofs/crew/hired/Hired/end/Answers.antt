-- A worker that has ended kept its desk, and served all that came where its box settled.
use Rattle.std.proofs.Common.{◌≡◌, ◌∙◌, Option, None, Some, IfSome, IsSomeAnd, refl, sym, ap, subst, true≢false}
use Rattle.rx_mailbox.specs.Boxes.{Incoming, Outgoing}
use Rattle.rx_mailbox.specs.Settling.{GotAll}
use Rattle.rx_mailbox.specs.PortRows.{with_bye}
use Rattle.rx_workers.specs.Crews.{worker_desk}
use Rattle.rx_workers.specs.Working.{WorkerView}
use Rattle.rx_workers.specs.Workers.{HasEnded, peers}
use Rattle.rx_workers.proofs.Service.{ended_box, served_just}
use Rattle.rx_workers.proofs.crew.hired.Hired.end.Goals as goal

module _ {B : Type 0} where
  -- a port that ended is one of the box of which it was one
  of_box : (dismissed : Option (Outgoing B)) (port : Outgoing B) (inbox : Incoming B) → port.box ≡ inbox.box → IfSome dismissed (λ ended. ended ≡ with_bye port)
      → IfSome dismissed (λ ended. ended.box ≡ inbox.box)
  of_box None port inbox same none = tt
  of_box (Some ended) port inbox same is = ap (λ (p : Outgoing B). p.box) is ∙ same

  -- where it ended, and all came that it put
  got_all : (dismissed : Option (Outgoing B)) (port : Outgoing B) (inbox : Incoming B) → IfSome dismissed (λ ended. ended ≡ with_bye port) → IsSomeAnd dismissed (GotAll inbox)
      → GotAll inbox (with_bye port)
  got_all None port inbox none all = absurd all
  got_all (Some ended) port inbox is all = subst (GotAll inbox) is all

-- its port is one of its box
pub ended_and_settled-has_all-requires-clause-of_box : goal.ended_and_settled-has_all-requires-clause-of_box
ended_and_settled-has_all-requires-clause-of_box g c =
    let same = c.requires ∙ ap (λ (w : WorkerView _ _ _). w.inbox.box) (sym c.self.view_is)
    ∙ sym (ended_box (peers g.M.Moments.tells g.C.Read.remaining g.W.Write.contents) c.self.inside.worker c.join-desk.result c.join-desk.ensures) in
    of_box c.dismiss-dismissed.result c.args.port c.join-desk.result.inbox same c.dismiss-dismissed.ensures

-- where the box settled
pub returns-clause-served : goal.returns-clause-served
returns-clause-served g c = λ yes config xs new port_is.
    let got = got_all c.dismiss-dismissed.result c.args.port c.join-desk.result.inbox c.dismiss-dismissed.ensures (c.ended_and_settled-has_all.ensures.came yes) in
    let ended = subst (λ (v : WorkerView _ _ _). HasEnded (peers g.M.Moments.tells g.C.Read.remaining g.W.Write.contents) v c.join-desk.result) c.self.view_is c.join-desk.ensures in
    served_just (peers g.M.Moments.tells g.C.Read.remaining g.W.Write.contents) config (worker_desk c.args.self) c.args.self c.join-desk.result xs c.args.port ended new port_is got

-- where it did not
pub returns-clause-early : goal.returns-clause-early
returns-clause-early g c = λ no config xs new port_is. record {
  one = c.args.self;
  is_new = new;
  end = c.join-desk.result;
  ended = subst (λ (v : WorkerView _ _ _). HasEnded (peers g.M.Moments.tells g.C.Read.remaining g.W.Write.contents) v c.join-desk.result) c.self.view_is c.join-desk.ensures;
  desk_is = refl;
  told = c.dismiss-dismissed.result;
  by_port = subst (λ (p : Outgoing _). IfSome c.dismiss-dismissed.result (λ ended. ended ≡ with_bye p)) port_is c.dismiss-dismissed.ensures;
  unsettled = λ settles. true≢false (sym (c.ended_and_settled-has_all.ensures.settles.1 settles) ∙ no);
}
