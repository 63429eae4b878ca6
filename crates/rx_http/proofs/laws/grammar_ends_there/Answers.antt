use Rattle.rx_http.proofs.HeadGrammar.{grammar_ends_there}
use Rattle.rx_http.proofs.laws.grammar_ends_there.Goals as goal

pub returns : goal.returns
returns c = grammar_ends_there
