use Rattle.std.proofs.Common.{◌<◌, ℕ, List, [], length, Result, ap, ◌∙◌, arith, sym, subst, refl}
use Rattle.std.proofs.lemmas.List.{take_all}
use Rattle.std.proofs.lemmas.List.Folds.{flat_map-map}
use Rattle.std.specs.List.{flat_map}
use Rattle.rx_script.specs.Audits.{subject_in, subject_written}
use Rattle.rx_proto.specs.Bytes.{AppendsPrefix}
use Rattle.rx_lines.specs.Bytes.{Holds, Loses, Puts}
use Rattle.rx_script.specs.declared.ledger.Ledger.{Ledger}
use Rattle.rx_proto.specs.declared.writer.WriteFault.{WriteFault}
use Rattle.rx_script.proofs.Audited.{Writes-held}
use Rattle.rx_script.proofs.Pieces.{flat_map-next, flat_map-parts}
use Rattle.rx_lines.proofs.Written.{Holds-then, Loses-more, Loses-then}
use Rattle.std.proofs.lemmas.Result.{MatchResult-from_err}
use Rattle.rx_script.proofs.audit.write_audit.Goals as goal

pub returns-in-Err : goal.returns-in-Err
returns-in-Err g c =
    let ledgers = c.deref-ledger-items.result.now in
    let lt : c.loop-ledger.ledger-index < length ledgers = omega arith in
    let lines : Ledger → List ℕ = λ ledger. subject_written (subject_in ledger) in
    let old = g.W.Write.contents c.args.writer.now in
    let mid = g.W.Write.contents c.loop-ledger.writer in
    let new = g.W.Write.contents c.put_ledger.new.writer in
    let loses = subst (λ (r : Result (Unit {0}) WriteFault). Puts r c.loop-ledger.outbox c.put_ledger.new.outbox mid new (lines c.ledger-item.result)) c.in-Err.is c.in_ok-fault.ensures in
    let all = flat_map-parts lines ledgers c.loop-ledger.ledger-index c.ledger-item.result lt c.ledger-item.is
    ∙ ap (flat_map lines) c.deref-ledger-items.ensures.value ∙ sym (flat_map-map subject_written subject_in c.args.ledgers.now.items) in
    subst (λ (bytes : List ℕ). AppendsPrefix old new bytes) all
    (Loses-more old new [] c.put_ledger.new.outbox _ _ (Loses-then old mid new [] c.loop-ledger.outbox c.put_ledger.new.outbox _ _ c.loop-ledger.invariant loses)).written

pub loop-ledger-preserved : goal.loop-ledger-preserved
loop-ledger-preserved g c =
    let ledgers = c.deref-ledger-items.result.now in
    let lt : c.loop-ledger.ledger-index < length ledgers = omega arith in
    let lines : Ledger → List ℕ = λ ledger. subject_written (subject_in ledger) in
    let old = g.W.Write.contents c.args.writer.now in
    let mid = g.W.Write.contents c.loop-ledger.writer in
    let new = g.W.Write.contents c.put_ledger.new.writer in
    let holds = subst (λ (r : Result (Unit {0}) WriteFault). Puts r c.loop-ledger.outbox c.put_ledger.new.outbox mid new (lines c.ledger-item.result)) c.in_default.is c.in_ok-fault.ensures in
    subst (λ (bytes : List ℕ). Holds [] c.put_ledger.new.outbox old new bytes)
    (sym (flat_map-next lines ledgers c.loop-ledger.ledger-index c.ledger-item.result lt c.ledger-item.is))
    (Holds-then old mid new [] c.loop-ledger.outbox c.put_ledger.new.outbox _ _ c.loop-ledger.invariant holds)

pub returns : goal.returns
returns g c =
    let ledgers = c.deref-ledger-items.result.now in
    let lines : Ledger → List ℕ = λ ledger. subject_written (subject_in ledger) in
    let old = g.W.Write.contents c.args.writer.now in
    let all = ap (flat_map lines) (take_all c.loop-ledger.ledger-index ledgers c.loop-ledger-test.false ∙ c.deref-ledger-items.ensures.value)
    ∙ sym (flat_map-map subject_written subject_in c.args.ledgers.now.items) in
    Writes-held c.flush.result old (g.W.Write.contents c.loop-ledger.writer) (g.W.Write.contents c.flush.new.writer) c.loop-ledger.outbox _
    (subst (λ (bytes : List ℕ). Holds [] c.loop-ledger.outbox old (g.W.Write.contents c.loop-ledger.writer) bytes) all c.loop-ledger.invariant)
    c.flush.ensures.written

pub returns-in_err-fault : goal.returns-in_err-fault
returns-in_err-fault g c =
    let ledgers = c.deref-ledger-items.result.now in
    let lt : c.loop-ledger.ledger-index < length ledgers = omega arith in
    let lines : Ledger → List ℕ = λ ledger. subject_written (subject_in ledger) in
    let old = g.W.Write.contents c.args.writer.now in
    let mid = g.W.Write.contents c.loop-ledger.writer in
    let new = g.W.Write.contents c.put_ledger.new.writer in
    let loses : Loses c.loop-ledger.outbox [] mid new (lines c.ledger-item.result) = record { written = c.in_err-fault.ensures; empty = refl } in
    let all = flat_map-parts lines ledgers c.loop-ledger.ledger-index c.ledger-item.result lt c.ledger-item.is
    ∙ ap (flat_map lines) c.deref-ledger-items.ensures.value ∙ sym (flat_map-map subject_written subject_in c.args.ledgers.now.items) in
    MatchResult-from_err c.from_residual.result _ _ c.from_residual.ensures.0 (λ _.
    subst (λ (bytes : List ℕ). AppendsPrefix old new bytes) all
    (Loses-more old new [] [] _ _ (Loses-then old mid new [] c.loop-ledger.outbox [] _ _ c.loop-ledger.invariant loses)).written)
