use Rattle.std.proofs.Common.{◌∙◌}
use Rattle.rx_proto.proofs.Writes.{Writes-then}
use Rattle.rx_program.proofs.program.told_fault.write_fault.Goals as goal

pub returns-in-Some : goal.returns-in-Some
returns-in-Some g c =
    let words = c.write_cause.ensures.0 in
    (words, rw (c.in-Some.ensures words) (rw (← (c.as_bytes.ensures.value ∙ c.words.ensures)) (Writes-then c.write_cause.result _ _ _ _ words c.in_ok-write_bytes.ensures c.write_cause.ensures.1)))
