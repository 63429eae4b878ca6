-- By Latest as many of the items that wait are passed as there is no room for.
use Rattle.std.proofs.Common.{◌≡◌, ◌-◌, length, drop, sym, ap, ◌∙◌, arith}
use Rattle.rx_note.specs.declared.strategy.Strategy.{Strategy}
use Rattle.rx_tape.specs.Tapes.{waits}
use Rattle.rx_tape.proofs.Lasts.{waits-length}
use Rattle.rx_lane.specs.TapeLanes.{within_room}
use Rattle.rx_lane.proofs.waiting.Waiting.make_room.Goals as goal

pub returns-in-Latest-clause-waits : goal.returns-in-Latest-clause-waits
returns-in-Latest-clause-waits c =
    let old = c.args.self.now in
    let xs = waits old.lead c.args.tape.now.items old.back in
    let long = waits-length old.lead c.args.tape.now.items old.back (λ some. c.requires.stands.within) in
    let beyond : c.saturating_sub.result ≡ length xs - c.in-Latest.room = omega (arith, long, c.len.ensures, c.saturating_sub.ensures) in
    c.skip.ensures.waits
    ∙ ap (λ n. drop n xs) beyond
    ∙ ap (λ (g : Strategy). within_room g xs) (sym c.in-Latest.is)
