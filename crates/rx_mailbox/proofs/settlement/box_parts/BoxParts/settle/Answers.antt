use Rattle.std.proofs.Common.{◌≡◌, ◌∙◌, sym, ap, subst, List, Some}
use Rattle.std.specs.List.{All}
use Rattle.rx_mailbox.specs.Boxes.{AreOf, Incoming}
use Rattle.rx_mailbox.specs.Passes.{inbox_in}
use Rattle.rx_mailbox.specs.Settling.{GotAll, IsEachOnce}
use Rattle.rx_mailbox.specs.Parts.{PartsView}
use Rattle.rx_mailbox.proofs.Causes.{cannot}
use Rattle.rx_mailbox.proofs.settlement.box_parts.BoxParts.settle.Goals as goal

pub settle_rest-requires : goal.settle_rest-requires
settle_rest-requires g c =
    let came : c.args.self.inbox ≡ Some c.in_ok-inbox.inbox = ap (λ (parts : PartsView _). parts.inbox) (sym c.self.view_is) ∙ c.in_ok-inbox.was in
    let ports = ap (λ (parts : PartsView _). parts.ports) (sym c.self.view_is) in
    subst (AreOf c.in_ok-inbox.inbox) ports (c.requires c.in_ok-inbox.inbox came)

pub returns : goal.returns
returns g c =
    let came : c.args.self.inbox ≡ Some c.in_ok-inbox.inbox = ap (λ (parts : PartsView _). parts.inbox) (sym c.self.view_is) ∙ c.in_ok-inbox.was in
    let ports = ap (λ (parts : PartsView _). parts.ports) (sym c.self.view_is) in
    cannot c.args.self c.in_ok-inbox.inbox came (subst (λ (l : List _). ¬ IsEachOnce c.in_ok-inbox.inbox.ports l) (sym ports) c.in-Err.ensures.cause.1)

pub returns-in-Ok : goal.returns-in-Ok
returns-in-Ok g c =
    let came : c.args.self.inbox ≡ Some c.in_ok-inbox.inbox = ap (λ (parts : PartsView _). parts.inbox) (sym c.self.view_is) ∙ c.in_ok-inbox.was in
    let ports = ap (λ (parts : PartsView _). parts.ports) (sym c.self.view_is) in
    let settled = c.in-Ok.ensures in
    let made = ap (λ (i : Incoming _). i.ports) (sym settled.received.received) in
    record {
      inbox = c.in_ok-inbox.inbox;
      came = came;
      received = settled.received;
      each_once = subst (IsEachOnce c.in-Ok.settled.ports) (sym ports) (subst (λ n. IsEachOnce n c.self.inside.ports.items) made settled.complete.0);
      each_bye = settled.complete.1;
      got = subst (All (GotAll (inbox_in c.in-Ok.settled))) (sym ports) settled.shares;
      emptied = settled.empty;
    }
