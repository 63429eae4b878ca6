use Rattle.std.proofs.Common.{Ok, Err, Result, OnOk}
use Rattle.rx_lane.proofs.Shared.{copied_both, kept_front}
use Rattle.rx_lane.proofs.waiting.Waiting.copy_to.Goals as goal

-- what follows from what is known of an accepted call
on_ok : {A E P Q : Type 0} (result : Result A E) → (P → Q) → OnOk result P → OnOk result Q
on_ok (Ok value) so known = so known
on_ok (Err error) so known = known

pub returns-clause-ok : goal.returns-clause-ok
returns-clause-ok c =
    let w = c.args.self.now in
    let so = copied_both c.args.who c.args.count c.in_ok-more.more w.lead c.args.tape.now.items w.back c.args.outs.now.items c.copy_lead.new.outs.items c.copy_items.new.outs.items
    c.in_ok-more.ensures.more c.in_ok-more.ensures.ok in
    on_ok c.copy_items.result so c.copy_items.ensures.ok

pub returns-clause-front : goal.returns-clause-front
returns-clause-front c =
    let before = c.args.outs.now in
    let middle = c.copy_lead.new.outs in
    kept_front before.len middle.len before.items _ middle.items c.copy_items.new.outs.items before.ok.0 middle.ok.0 c.in_ok-more.ensures.ok c.copy_items.ensures.front
