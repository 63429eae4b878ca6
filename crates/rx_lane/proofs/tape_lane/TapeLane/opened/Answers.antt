use Rattle.std.proofs.Common.{refl, ap, ◌∙◌, arith}
use Rattle.rx_note.specs.declared.strategy.Strategy.{Strategy}
use Rattle.rx_lane.specs.TapeLanes.{within_room}
use Rattle.rx_tape.specs.Tapes.{waits}
use Rattle.rx_tape.proofs.Lasts.{waits-length}
use Rattle.rx_lane.proofs.Followed.{begins, stands_alike}
use Rattle.rx_lane.proofs.tape_lane.TapeLane.opened.Goals as goal

pub returns-clause-begins : goal.returns-clause-begins
returns-clause-begins c =
    let a = c.args in
    let w = a.waiting in
    let xs = waits w.lead a.tape.now.items w.back in
    let long = waits-length w.lead a.tape.now.items w.back (λ some. c.requires.stands.within) in
    let b = begins a.policy a.first a.given xs c.requires.shared (omega (arith, long, c.requires.given)) in
    let left =
    c.make_room.ensures.waits
    ∙ ap (λ (k : Strategy). within_room k (waits c.skip.new.self.lead c.skip.new.tape.items c.skip.new.self.back)) c.strategy.ensures.strategy
    ∙ ap (within_room a.policy.strategy) c.skip.ensures.waits in
    record { gives = b.gives; stands = stands_alike refl left refl refl refl b.stands }
