-- What is handed to observers: an offer to all of them, an opening to one that joins.
use Rattle.std.specs.Prelude.{◌≡◌, ℕ, ◌+◌, max, List, ◌++◌, map, length, option_to_list}
use Rattle.rx_note.specs.declared.rules.Rules.{Rules}
use Rattle.rx_note.specs.Signals.{Signal, Offered}
use Rattle.rx_history.specs.Histories.{History, end_of, stamp, opening_by, ended_by}
use Rattle.rx_subject.specs.declared.offer.Offer.{Offer}
use Rattle.rx_subject.specs.declared.opening.Opening.{Opening}

-- the signals of an offer: the item, and then the end
abbrev pub offer_signals : Offer → List Signal
offer_signals offer = map Offered (option_to_list offer.item) ++ ended_by offer.end

-- how many notes an offer gives an observer at most: one by each of its signals
abbrev pub most_given : Offer → ℕ
most_given offer = length (option_to_list offer.item) + length (option_to_list offer.end)

-- the opening is that of a Join after this history at this moment
pub record Opens (opening : Opening) (rules : Rules) (H : History) (at : ℕ) : Type 0 where
  pub items_are : opening.items.items ≡ opening_by rules.kind rules H (max (stamp rules H) at)
  pub end_is : opening.end ≡ end_of H
