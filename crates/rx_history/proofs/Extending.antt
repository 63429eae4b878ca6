-- A stored history with one entry more.
use Rattle.std.proofs.Common.{◌≡◌, ℕ, ◌+◌, ◌<◌, List, [], ◌∷◌, ◌++◌, length, take, get_or, refl, sym, ap, ◌∙◌}
use Rattle.std.proofs.lemmas.List.{take_more}
use Rattle.rx_history.specs.Histories.{Entry, History, NoEvents, ◌▹◌}
use Rattle.rx_history.specs.Stored.{extended, history_of}

-- an entry at the end of the list is the latest
pub extended-push : (H : History) (entries : List Entry) (entry : Entry) → extended H (entries ++ entry ∷ []) ≡ extended H entries ▹ entry
extended-push H [] entry = refl
extended-push H (first ∷ entries) entry = extended-push (H ▹ first) entries entry

-- a walk's next entry
pub history_of-next : (entries : List Entry) (i : ℕ) (entry : Entry) → i < length entries → entry ≡ get_or entries i entry
    → history_of (take (i + 1) entries) ≡ history_of (take i entries) ▹ entry
history_of-next entries i entry h at =
    ap history_of (take_more entries i entry h)
    ∙ ap (λ e. history_of (take i entries ++ e ∷ [])) (sym at)
    ∙ extended-push NoEvents (take i entries) entry
