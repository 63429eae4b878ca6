use Rattle.std.proofs.Common.{◌∙◌, inl, sym}
use Rattle.std.proofs.lemmas.Bool.{false≢true}
use Rattle.rx_proto.proofs.Complete.{line_read-long, no_lf_test}
use Rattle.rx_proto.proofs.LineFeeds.{line_read-lf}
use Rattle.rx_proto.proofs.Sound.{no_lf_found}
use Rattle.rx_proto.proofs.grammar.fault_of_bytes.Goals as goal

pub returns-then-line-gt-MAX_LINE-clause-some : goal.returns-then-line-gt-MAX_LINE-clause-some
returns-then-line-gt-MAX_LINE-clause-some c = line_read-long c.args.line.now (inl c.if-line-gt-MAX_LINE.true)

pub returns-then-contains-clause-some : goal.returns-then-contains-clause-some
returns-then-contains-clause-some c =
    line_read-lf c.args.line.now c.if-line-gt-MAX_LINE.false
    (λ none. false≢true (sym (no_lf_test c.args.line.now none) ∙ sym c.contains.ensures.value ∙ c.if-contains.true))

pub returns-clause-none : goal.returns-clause-none
returns-clause-none c =
    (c.if-line-gt-MAX_LINE.false, no_lf_found c.args.line.now (sym c.contains.ensures.value ∙ c.if-contains.false))
