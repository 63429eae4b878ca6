use Rattle.std.proofs.Common.{Result, Ok, Err, inl}
use Rattle.std.specs.Prelude.{IfOk, MatchResult, OnErr}
use Rattle.rx_program.proofs.program.run_script_at.Goals as goal

-- what a call did, from what it did at each of its ends
at_either : {T E : Type 0} (result : Result T E) (P : T → Type 0) (Q : Type 0) → IfOk result P → OnErr result Q → MatchResult result P (λ _. Q)
at_either (Ok x) P Q ok err = ok
at_either (Err e) P Q ok err = err

pub returns-in-Ok : goal.returns-in-Ok
returns-in-Ok g c =
    inl (c.in-Ok.config, c.in-Ok.ensures, (c.run_script.result, c.done_of.ensures, at_either c.run_script.result _ _ c.run_script.ensures.runs c.run_script.ensures.unmade))
