use Rattle.std.proofs.Common.{refl, subst, None, List, arith}
use Rattle.rx_note.specs.declared.given.Given.{Given}
use Rattle.rx_hub.specs.Runs.{RequestsEach}
use Rattle.rx_mailbox.proofs.Told.{told-length}
use Rattle.rx_pump.specs.Pumps.{pump_with}
use Rattle.rx_pump.specs.Turns.{ports_of}
use Rattle.rx_pump.proofs.Making.{Makes-each}
use Rattle.rx_pump.proofs.pump.one_call.ask_each.Goals as goal

pub returns-clause-makes : goal.returns-clause-makes
returns-clause-makes g c = λ misses_before ticket x stands_for.
    let old = c.args.parts.now in
    let tally = c.args.tally.now in
    let counted = c.count_each.new.self in
    let before = pump_with old tally.calls tally.refused misses_before None in
    let after = pump_with (record old { hub = c.request_each-missed.new.self; drainers = c.give_all.new.drainers }) counted.calls counted.refused misses_before c.drainer_gone.result in
    let missed = c.request_each-missed.result in
    let notes = c.request_each-missed.new.outs.items in
    Makes-each before after c.args.port ticket c.args.who c.args.n missed notes c.give_all.result x
    (omega (arith, c.requires.some, told-length old.drainers.items)) (omega (arith, c.requires.silent, told-length old.replies.items)) stands_for
    (subst (λ (none : List Given). RequestsEach old.hub c.request_each-missed.new.self c.args.port c.args.who c.args.n none notes missed) c.clear.ensures.items c.request_each-missed.ensures.took)
    c.request_each-missed.ensures.rules refl refl refl c.count_each.ensures.calls c.count_each.ensures.refused c.give_all.ensures c.drainer_gone.ensures
