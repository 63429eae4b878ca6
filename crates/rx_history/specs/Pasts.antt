-- What a subject remembers of its past, and the history that it agrees with.
use Rattle.std.specs.Prelude.{◌≡◌}
use Rattle.rx_note.specs.declared.rules.Rules.{Rules}
use Rattle.rx_history.specs.Histories.{History, end_of, stamp, items, age_moment}
use Rattle.rx_history.specs.declared.past.Past.{Past}

-- the past has the end of the history, its items, and the moment at which their ages are told
pub record Remembers (rules : Rules) (past : Past) (H : History) : Type 0 where
  pub has_end : past.end ≡ end_of H
  pub has_moment : past.moment ≡ age_moment rules H (stamp rules H)
  pub has_items : past.items.items ≡ items rules H
