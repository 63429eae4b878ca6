use Rattle.std.proofs.Common.{◌≡◌, ◌∙◌, [], ◌∷◌, ℕ, List, append-nil, length, refl, sym, arith}
use Rattle.rx_mailbox.proofs.Ending.{Ended-none, Ended-more, Ended-all, Ended-stop}
use Rattle.rx_mailbox.proofs.port.ends_of_ports.finish_all.Goals as goal

pub loop-port-preserved : goal.loop-port-preserved
loop-port-preserved g c =
    let before = c.loop-port.invariant in
    record {
      room = omega (arith, before.room, c.in-Some.ensures.cases, c.push_reserved.ensures.len, c.push_reserved.ensures.capacity);
      capacity = omega (arith, before.capacity, c.push_reserved.ensures.capacity);
      ended = Ended-more _ c.loop-port.ports.items c.pop.new.self.items c.args.ended.now.items c.loop-port.ended.items c.push_reserved.new.self.items c.in-Some.port c.in-Ok.port
          c.in-Some.ensures.items c.in-Ok.ensures c.push_reserved.ensures.items before.ended;
    }

pub loop-port-init : goal.loop-port-init
loop-port-init g c = record {
  room = omega (arith, c.requires, c.reverse.ensures.len);
  capacity = refl;
  ended = Ended-none c.reverse.new.self.items c.args.ended.now.items;
}

pub push_reserved-requires : goal.push_reserved-requires
push_reserved-requires g c = omega (arith, c.loop-port.invariant.room, c.in-Some.ensures.cases)

pub loop-port-smaller : goal.loop-port-smaller
loop-port-smaller g c = omega (arith, c.in-Some.ensures.cases)

pub returns-in-Err-clause-ended : goal.returns-in-Err-clause-ended
returns-in-Err-clause-ended g c = (
  Ended-stop c.args.ports.now.items c.reverse.new.self.items c.loop-port.ports.items c.pop.new.self.items c.push_reserved-in-Err.new.self.items
      c.reverse-in-Err.new.self.items c.args.ended.now.items c.loop-port.ended.items c.in-Some.port c.in-Err.port
      c.reverse.ensures.items c.in-Some.ensures.items c.in-Err.ensures c.push_reserved-in-Err.ensures.items c.reverse-in-Err.ensures.items c.loop-port.invariant.ended,
  c.len.ensures,
)

pub returns-in-Err-clause-capacity : goal.returns-in-Err-clause-capacity
returns-in-Err-clause-capacity g c = c.loop-port.invariant.capacity

pub returns-clause-capacity : goal.returns-clause-capacity
returns-clause-capacity g c = c.loop-port.invariant.capacity

none_left : {X : Type 0} {n : ℕ} (left : List X) → n ≡ length left → n ≡ 0 → left ≡ []
none_left [] long none = refl
none_left (x ∷ left) long none = absurd (omega arith)

pub returns-clause-ended : goal.returns-clause-ended
returns-clause-ended g c =
    let none : c.loop-port.ports.items ≡ [] = none_left c.loop-port.ports.items c.loop-port.ports.ok.0 c.in_default.ensures.cases.0 in (
      Ended-all c.args.ports.now.items c.reverse.new.self.items c.loop-port.ports.items c.args.ended.now.items c.loop-port.ended.items c.reverse.ensures.items none c.loop-port.invariant.ended,
      sym (append-nil c.pop.new.self.items) ∙ sym c.in_default.ensures.items ∙ none,
    )
