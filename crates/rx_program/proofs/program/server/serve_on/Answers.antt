use Rattle.std.proofs.Common.{inl, inr, refl, subst, List, ℕ}
use Rattle.std.proofs.lemmas.Result.{err_from_is_err_and}
use Rattle.rx_program.specs.Programs.{IsReported}
use Rattle.rx_program.specs.Reporting.{closed_as}
use Rattle.rx_program.specs.declared.program.program_fault.ProgramFault.TheVariants as faults
use Rattle.rx_program.proofs.program.server.serve_on.Goals as goal

pub returns-in_default : goal.returns-in_default
returns-in_default g c = inl (faults.Memory, refl, inl (inl refl), refl)

pub returns-in_err-site : goal.returns-in_err-site
returns-in_err-site g c =
    let p = err_from_is_err_and c.from_residual.result c.from_residual.ensures.1 in
    rw (p.1, p.2) (inl (c.in_err-site.field-0.0, refl, inl c.in_err-site.ensures, refl))

pub returns-in_err-ended : goal.returns-in_err-ended
returns-in_err-ended g c =
    let p = err_from_is_err_and c.from_residual-in_err-ended.result c.from_residual-in_err-ended.ensures.1 in
    rw (p.1, p.2) (inl (c.in_err-ended.field-0.0, refl, inr c.in_err-ended.ensures.fault, refl))

pub returns : goal.returns
returns g c =
    let closed = closed_as c.in_ok-ended.ended.closed in
    let reported = subst (λ (names : List (List ℕ)). IsReported names closed c.told-reported.result (g.W.Write.contents c.args.writer.now) (g.W.Write.contents c.told-reported.new.writer)) c.in-Ok.ensures c.told-reported.ensures in
    inr (closed, c.in_ok-ended.ensures.closed, (c.in_ok-ended.ended.served, c.told-reported.result, reported, c.end_of.ensures))
