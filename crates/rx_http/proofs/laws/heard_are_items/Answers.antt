use Rattle.rx_http.proofs.Going.{heard_are_items}
use Rattle.rx_http.proofs.laws.heard_are_items.Goals as goal

pub returns : goal.returns
returns c = heard_are_items
