use Rattle.std.proofs.Common.{◌≡◌, take}
use Rattle.rx_history.specs.Histories.{unstamped, young}
use Rattle.rx_history.proofs.past.Past.young.Given as goal

abbrev pub invariant-loop-stamped : goal.invariant-loop-stamped
invariant-loop-stamped l = l.items.items ≡ unstamped (young l.bound l.self.moment (take l.stamped-index l.self.items.items))
