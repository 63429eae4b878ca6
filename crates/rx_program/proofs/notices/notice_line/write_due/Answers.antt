use Rattle.rx_program.proofs.notices.notice_line.write_due.Goals as goal

pub returns-in-Some : goal.returns-in-Some
returns-in-Some g c = rw c.in-Some.is (c.write_notice.result, c.write_notice.ensures)
