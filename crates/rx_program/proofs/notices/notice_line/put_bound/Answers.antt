use Rattle.std.specs.Prelude.{◌++◌, codes, decimal}
use Rattle.rx_program.proofs.Putting.{put-on}
use Rattle.rx_program.proofs.notices.notice_line.put_bound.Goals as goal

pub returns-clause-put : goal.returns-clause-put
returns-clause-put c =
    let words = codes " is given up: more than " in
    let first = put-on c.args.line.now c.put-2.new.self c.put_number.new.line words (decimal c.in-Some.most) c.put-2.ensures c.put_number.ensures.put in
    rw c.in-Some.is (put-on c.args.line.now c.put_number.new.line c.put-3.new.self (words ++ decimal c.in-Some.most) (codes " bytes wait for it") first c.put-3.ensures)
