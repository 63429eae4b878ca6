-- What is known where a call was accepted, or refused.
use Rattle.std.proofs.Common.{Result, Ok, Err}
use Rattle.std.specs.Prelude.{OnOk, OnErr}

-- what follows from it is known too
pub on_ok : {A E P Q : Type 0} (result : Result A E) → (P → Q) → OnOk result P → OnOk result Q
on_ok (Ok value) so known = so known
on_ok (Err error) so known = known

pub on_err : {A E P Q : Type 0} (result : Result A E) → (P → Q) → OnErr result P → OnErr result Q
on_err (Ok value) so known = known
on_err (Err error) so known = so known
