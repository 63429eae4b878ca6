-- A stored history: its entries as a list, the oldest first.
use Rattle.std.specs.Prelude.{List, [], ◌∷◌}
use Rattle.rx_history.specs.Histories.{Entry, History, NoEvents, ◌▹◌}

-- several entries more
abbrev pub extended : History → List Entry → History
extended H [] = H
extended H (entry ∷ entries) = extended (H ▹ entry) entries

-- the history that has these entries
abbrev pub history_of : List Entry → History
history_of entries = extended NoEvents entries
