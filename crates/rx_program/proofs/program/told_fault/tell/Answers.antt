use Rattle.std.proofs.Common.{◌++◌, ◌∷◌, [], codes}
use Rattle.rx_program.specs.Programs.{fault_text}
use Rattle.rx_proto.proofs.Writes.{Writes-fault, Writes-then}
use Rattle.rx_program.proofs.program.told_fault.tell.Goals as goal

pub returns-in_err-write_bytes : goal.returns-in_err-write_bytes
returns-in_err-write_bytes g c =
    ([], Writes-fault c.from_residual.result _ _ (codes "rxline: ") (fault_text c.args.fault [] ++ 10 ∷ []) c.from_residual.ensures.0 c.in_err-write_bytes.ensures)

pub returns-in_err-write_fault : goal.returns-in_err-write_fault
returns-in_err-write_fault g c =
    let words = c.in_err-write_fault.ensures.0 in
    let text = fault_text c.args.fault words in
    let result = c.from_residual-in_err-write_fault.result in (
      words,
      Writes-then result _ _ _ (codes "rxline: ") (text ++ 10 ∷ []) c.in_ok-write_bytes.ensures
          (Writes-fault result _ _ text (10 ∷ []) c.from_residual-in_err-write_fault.ensures.0 c.in_err-write_fault.ensures.1),
    )

pub returns : goal.returns
returns g c =
    let words = c.in_ok-write_fault.ensures.0 in
    let text = fault_text c.args.fault words in
    let result = c.write_bytes-2.result in (
      words,
      Writes-then result _ _ _ (codes "rxline: ") (text ++ 10 ∷ []) c.in_ok-write_bytes.ensures
          (Writes-then result _ _ _ text (10 ∷ []) c.in_ok-write_fault.ensures.1 c.write_bytes-2.ensures),
    )
