use Rattle.std.proofs.Common.{◌∙◌, sym}
use Rattle.std.proofs.lemmas.Bool.{false≢true}
use Rattle.rx_proto.proofs.Complete.{no_lf_test}
use Rattle.rx_program.proofs.command_line.refused_words.refusal_of_text.Goals as goal

pub returns-then-contains : goal.returns-then-contains
returns-then-contains c = λ is. false≢true (sym (rw c.as_bytes.ensures.value at c.contains.ensures.value ∙ no_lf_test c.args.text.now is.no_lf) ∙ c.if-contains.true)
