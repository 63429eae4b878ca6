use Rattle.std.proofs.Common.{◌≡◌, ◌++◌, map}
use Rattle.rx_history.proofs.past.Past.emit.Given as goal

abbrev pub invariant-loop-item : goal.invariant-loop-item
invariant-loop-item l = record {
  same_moment : l.self.moment ≡ l.initial.self.moment;
  has_items : l.self.items.items ≡ l.initial.self.items.items ++ map (λ item. (item, l.initial.self.moment)) l.yielded;
}
