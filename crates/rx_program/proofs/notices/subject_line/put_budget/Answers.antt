use Rattle.std.specs.Prelude.{◌++◌, codes, decimal}
use Rattle.rx_program.proofs.Putting.{put-on}
use Rattle.rx_program.proofs.notices.subject_line.put_budget.Goals as goal

pub returns-clause-put : goal.returns-clause-put
returns-clause-put c =
    let words = codes " refuses: its budget of " in
    let first = put-on c.args.line.now c.put.new.self c.put_number.new.line words (decimal c.args.budget) c.put.ensures c.put_number.ensures.put in
    put-on c.args.line.now c.put_number.new.line c.put-2.new.self (words ++ decimal c.args.budget) (codes " bytes is used up") first c.put-2.ensures
