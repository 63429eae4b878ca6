use Rattle.std.specs.Prelude.{◌++◌, codes, decimal}
use Rattle.rx_program.proofs.Putting.{put-on}
use Rattle.rx_program.proofs.notices.notice_line.put_fate.Goals as goal

pub returns-clause-put : goal.returns-clause-put
returns-clause-put c =
    let words = codes " is given up: its peer took nothing for " in
    let first = put-on c.args.line.now c.put.new.self c.put_number.new.line words (decimal c.in-Some.seconds) c.put.ensures c.put_number.ensures.put in
    let second = put-on c.put_number.new.line c.put-2.new.self c.put_number-2.new.line (codes " s, ") (decimal c.args.bytes) c.put-2.ensures c.put_number-2.ensures.put in
    let third = put-on c.put_number.new.line c.put_number-2.new.line c.put-3.new.self (codes " s, " ++ decimal c.args.bytes) (codes " bytes wait") second c.put-3.ensures in
    rw c.in-Some.is (put-on c.args.line.now c.put_number.new.line c.put-3.new.self (words ++ decimal c.in-Some.seconds) ((codes " s, " ++ decimal c.args.bytes) ++ codes " bytes wait") first third)
