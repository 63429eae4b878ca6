use Rattle.std.proofs.Common.{rules, ◌≡◌, refl, ap}
use Rattle.std.proofs.lemmas.List.Elements.{All-same}
use Rattle.rx_mailbox.specs.Boxes.{Incoming, Outgoing}
use Rattle.rx_mailbox.specs.Passes.{box_of}
use Rattle.rx_mailbox.proofs.NewPorts.{ports_more, ports_of, of_one_box}
use Rattle.rx_mailbox.proofs.opening.make.Goals as goal

pub loop-number-preserved : goal.loop-number-preserved
loop-number-preserved g c = record {
  view = search rules;
  tally = search rules;
  capacity = search rules;
  ports = ports_more _ _ _ _ _ _ c.in_ok-port.ensures.same_box c.loop-number.invariant.ports c.in_ok-push.ensures.items c.in_ok-port.ensures.port;
}

pub returns-clause-ports : goal.returns-clause-ports
returns-clause-ports g c =
    let same : c.into_inbox.result.box ≡ box_of c.loop-number.new.pass = ap (λ (inbox : Incoming _). inbox.box) c.into_inbox.ensures in
    let all : c.loop-number.number ≡ c.args.senders = search rules in
    ports_of _ _ _ _ _ same all c.loop-number.invariant.ports

pub returns-clause-parts : goal.returns-clause-parts
returns-clause-parts g c =
    let same : c.into_inbox.result.box ≡ box_of c.loop-number.new.pass = ap (λ (inbox : Incoming _). inbox.box) c.into_inbox.ensures in
    let box = c.into_inbox.result.box in
    All-same (λ (port : Outgoing _). port.box ≡ box) _ _ (ports_of _ _ _ _ _ same refl c.loop-number.invariant.ports) (of_one_box box c.loop-number.number 0)

pub returns-clause-capacity : goal.returns-clause-capacity
returns-clause-capacity g c = search rules
