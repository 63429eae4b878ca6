use Rattle.std.proofs.Common.{rules, ◌≡◌, ◌∙◌, ℕ, [], ◌∷◌, ◌++◌, sym}
use Rattle.std.specs.Vec.Iter.{into_iter_items}
use Rattle.std.proofs.lemmas.List.Elements.{All-head, All-push, All-same, All-tail}
use Rattle.rx_mailbox.specs.Boxes.{Outgoing}
use Rattle.test_threads.proofs.boxes.send_numbers.Goals as goal

pub loop-port-preserved : goal.loop-port-preserved
loop-port-preserved g c =
    let P : Outgoing ℕ → Type 0 = λ port. port.box ≡ c.args.inbox.now.box in
    let rest = into_iter_items c.next.new.self in
    let left = All-same P (c.in-Some.port ∷ rest) (into_iter_items c.loop-port.port-iterator) (sym c.in-Some.ensures.steps.0) c.loop-port.invariant.left in
    let put : c.push.new.self.items ≡ c.loop-port.ended.items ++ c.send_number.result ∷ [] = search rules in
    record {
      ended = All-same P c.push.new.self.items _ put (All-push P c.loop-port.ended.items c.send_number.result c.loop-port.invariant.ended (c.send_number.ensures ∙ All-head P c.in-Some.port rest left));
      left = All-tail P c.in-Some.port rest left;
    }
