use Rattle.std.proofs.Common.{Result, sym, subst, ◌∙◌, inr, refl, inl}
use Rattle.std.proofs.lemmas.Result.{MatchResult-from_err}
use Rattle.rx_proto.specs.Bytes.{Writes}
use Rattle.rx_proto.specs.declared.writer.WriteFault.{WriteFault}
use Rattle.rx_script.specs.Audits.{audit_written, subjects_in}
use Rattle.rx_script.proofs.Audited.{Prints-all, Prints-none, audits, audits-broken, audits-faulty}
use Rattle.rx_script.proofs.audit.run_audit.Goals as goal

pub returns-in_err-ledgers_of : goal.returns-in_err-ledgers_of
returns-in_err-ledgers_of g c = MatchResult-from_err c.from_residual.result _ _ c.from_residual.ensures.0 (λ _. inl refl)

pub returns-in_err-end : goal.returns-in_err-end
returns-in_err-end g c = MatchResult-from_err c.from_residual-in_err-end.result _ _ c.from_residual-in_err-end.ensures.0 (λ _. inl refl)

pub returns-then-not-prints : goal.returns-then-not-prints
returns-then-not-prints g c =
    audits c.in_ok-end.end _ _ _ _ _ _ _ c.in_ok-ledgers_of.ensures c.in_ok-end.ensures
    (Prints-none c.in_ok-end.end _ _ (sym c.prints.ensures ∙ c.if-not-prints.true))

pub returns-in_err-write_audit : goal.returns-in_err-write_audit
returns-in_err-write_audit g c =
    MatchResult-from_err c.from_residual-in_err-write_audit.result _ _ c.from_residual-in_err-write_audit.ensures.0 (λ _.
    inr (audits-broken c.in_ok-end.end _ _ _ _ _ _ _ c.in_ok-ledgers_of.ensures c.in_ok-end.ensures c.in_err-write_audit.ensures))

pub returns-in-Ok : goal.returns-in-Ok
returns-in-Ok g c =
    let old = g.W.Write.contents c.args.writer.now in
    let new = g.W.Write.contents c.write_audit.new.writer in
    let bytes = audit_written (subjects_in c.enter_all.new.audit.ledgers.items) in
    let all = subst (λ (r : Result (Unit {0}) WriteFault). Writes r old new bytes) c.in-Ok.is c.in_ok-write_audit.ensures in
    audits c.in_ok-end.end _ _ _ _ _ _ _ c.in_ok-ledgers_of.ensures c.in_ok-end.ensures
    (Prints-all c.in_ok-end.end old new bytes (sym c.prints.ensures ∙ c.if-not-prints.false) all)

pub returns : goal.returns
returns g c =
    let old = g.W.Write.contents c.args.writer.now in
    let new = g.W.Write.contents c.write_audit.new.writer in
    let bytes = audit_written (subjects_in c.enter_all.new.audit.ledgers.items) in
    let front = subst (λ (r : Result (Unit {0}) WriteFault). Writes r old new bytes) c.in-Err.is c.in_ok-write_audit.ensures in
    audits-faulty c.in_ok-end.end _ _ _ _ _ _ _ c.in_ok-ledgers_of.ensures c.in_ok-end.ensures front
