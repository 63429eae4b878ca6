use Rattle.std.proofs.Common.{◌∙◌, ap, slice_set}
use Rattle.rx_mailbox.specs.Parts.{PartsView}
use Rattle.rx_mailbox.proofs.Rows.{lacks, parts-at, placed-at}
use Rattle.rx_mailbox.proofs.settlement.deal_of_rows.put_inbox.Goals as goal

pub returns-clause-put : goal.returns-clause-put
returns-clause-put g c =
    ap (λ (parts : PartsView _). slice_set c.args.boxes.now.items c.args.place parts) c.put_inbox.ensures
    ∙ placed-at c.args.boxes.now.items c.args.place c.args.inbox c.index_mut.result.now c.requires c.index_mut.ensures.value

pub returns-clause-once : goal.returns-clause-once
returns-clause-once g c = lacks c.args.boxes.now.items c.args.place c.index.result.now c.requires c.index.ensures (c.has_inbox.ensures.missing c.if-has_inbox.false)

pub returns-then-has_inbox-clause-twice : goal.returns-then-has_inbox-clause-twice
returns-then-has_inbox-clause-twice g c =
    λ lacks. c.has_inbox.ensures.came c.if-has_inbox.true (lacks c.index.result.now (parts-at c.args.boxes.now.items c.args.place c.index.result.now c.requires c.index.ensures))
