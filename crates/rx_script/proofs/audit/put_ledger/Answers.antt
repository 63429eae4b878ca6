use Rattle.std.proofs.Common.{◌≤◌, ◌<◌, ◌++◌, ℕ, List, Option, sym, subst, arith}
use Rattle.rx_history.specs.Histories.{joins}
use Rattle.rx_history.proofs.Entries.{signals_none}
use Rattle.rx_script.specs.Audits.{Observes, subject_in, observers_written}
use Rattle.rx_proto.specs.Bytes.{AppendsPrefix}
use Rattle.rx_lines.specs.Bytes.{Holds, Loses}
use Rattle.rx_script.specs.declared.observed.Observed.{Observed}
use Rattle.rx_script.proofs.Ledgers.{joins_within, made, observers_front, observers-all, observers-lost, observers-next}
use Rattle.rx_lines.proofs.Written.{Holds-then, Loses-then, Prefix-cut}
use Rattle.std.proofs.lemmas.Result.{MatchResult-from_err}
use Rattle.rx_script.proofs.audit.put_ledger.Goals as goal

pub returns-in_default : goal.returns-in_default
returns-in_default g c =
    let subject = subject_in c.args.ledger.now in
    let who = c.loop-who.who in
    let none = subst (λ (o : Option Observed). Observes o subject who) c.in_default.is c.in_ok-observed.ensures in
    subst (λ (bytes : List ℕ). Holds c.args.outbox.now c.loop-who.outbox (g.W.Write.contents c.args.writer.now) (g.W.Write.contents c.loop-who.writer) bytes)
    (observers-all subject who c.loop-who.invariant.1 (signals_none subject.rules subject.history who none)) c.loop-who.invariant.0

pub returns-in-Err : goal.returns-in-Err
returns-in-Err g c =
    let subject = subject_in c.args.ledger.now in
    let who = c.loop-who.who in
    let old = g.W.Write.contents c.args.writer.now in
    let new = g.W.Write.contents c.put_observed.new.writer in
    let found = subst (λ (o : Option Observed). Observes o subject who) c.in-Some.is c.in_ok-observed.ensures in
    let next = observers-next subject who c.in-Some.observed.given.items c.in-Some.observed.waiting.items found.1 found.2 in
    observers-lost old new c.args.outbox.now c.put_observed.new.outbox subject who (made subject.rules subject.history who found.0)
    (subst (λ (bytes : List ℕ). Loses c.args.outbox.now c.put_observed.new.outbox old new bytes) (sym next)
    (Loses-then _ _ _ _ _ _ _ _ c.loop-who.invariant.0 c.in-Err.ensures))

pub loop-who-preserved : goal.loop-who-preserved
loop-who-preserved g c =
    let subject = subject_in c.args.ledger.now in
    let who = c.loop-who.who in
    let old = g.W.Write.contents c.args.writer.now in
    let new = g.W.Write.contents c.put_observed.new.writer in
    let found = subst (λ (o : Option Observed). Observes o subject who) c.in-Some.is c.in_ok-observed.ensures in
    let next = observers-next subject who c.in-Some.observed.given.items c.in-Some.observed.waiting.items found.1 found.2 in
    let lt : who < joins subject.rules subject.history = made subject.rules subject.history who found.0 in (
      subst (λ (bytes : List ℕ). Holds c.args.outbox.now c.put_observed.new.outbox old new bytes) (sym next)
          (Holds-then _ _ _ _ _ _ _ _ c.loop-who.invariant.0 c.in_default-put_observed.ensures),
      omega arith,
    )

pub returns : goal.returns
returns g c =
    let subject = subject_in c.args.ledger.now in
    let who = c.loop-who.who in
    let within : joins subject.rules subject.history ≤ subject.rules.limits.joins = joins_within subject.rules.limits subject.history in
    subst (λ (bytes : List ℕ). Holds c.args.outbox.now c.loop-who.outbox (g.W.Write.contents c.args.writer.now) (g.W.Write.contents c.loop-who.writer) bytes)
    (observers-all subject who c.loop-who.invariant.1 (omega (arith, within, c.loop-who-test.false))) c.loop-who.invariant.0

pub returns-in_err-observed : goal.returns-in_err-observed
returns-in_err-observed g c =
    let subject = subject_in c.args.ledger.now in
    let who = c.loop-who.who in
    let old = g.W.Write.contents c.args.writer.now in
    let new = g.W.Write.contents c.loop-who.writer in
    let rest = observers_front subject who (joins subject.rules subject.history) c.loop-who.invariant.1 in
    MatchResult-from_err c.from_residual.result _ _ c.from_residual.ensures.0 (λ _.
    subst (λ (bytes : List ℕ). AppendsPrefix old new (c.args.outbox.now ++ bytes)) rest.1
    (Prefix-cut old new c.args.outbox.now c.loop-who.outbox (observers_written subject who) rest.0 c.loop-who.invariant.0))
