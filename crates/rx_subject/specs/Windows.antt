-- What a subject has to keep of its items for later joiners.
--
-- What a subject keeps is one list for all kinds, the last so many of the items that are young enough, with their stamps:
-- none for Publish, one for Behavior and Async, those of its bounds for Replay. So one law says what an item, an end and a
-- join leave of it. A Behavior subject keeps its last item after the end, where nothing asks for it.
--
-- Items that are too old are dropped from the front of the window, at the step that raises the stamp. That this drops all of
-- them and no other rests on the law that stamps never fall; the definition filters all items of the history.
use Rattle.std.specs.Prelude.{ℕ, ◌-◌, List, [], ◌∷◌, Option, None, Some, if◌then◌else◌}
use Rattle.rx_note.specs.declared.kind.Kind.{Kind}
use Rattle.rx_note.specs.declared.kind.Kind.TheVariants.{Publish, Behavior, Async, Replay}
use Rattle.rx_note.specs.declared.rules.Rules.{Rules}
use Rattle.rx_history.specs.Histories.{History, Stamped, stamp, items, is_young, young, at_most, age_moment}

-- how many of the last items are kept, by kind; None: all
abbrev pub count_kept : Kind → Option ℕ
count_kept Publish = Some 0
count_kept (Behavior seed) = Some 1
count_kept Async = Some 1
count_kept (Replay count age) = count

-- the age at which an item is kept no more; None: never
abbrev pub age_kept : Kind → Option ℕ
age_kept Publish = None
age_kept (Behavior seed) = None
age_kept Async = None
age_kept (Replay count age) = age

-- what of some items is kept at a moment
abbrev pub kept_by : Kind → ℕ → List Stamped → List Stamped
kept_by kind now stamped = at_most (count_kept kind) (young (age_kept kind) now stamped)

-- the items that a subject keeps after a history: those young enough at its stamp or, once it ended, at its end
abbrev pub window_of : Rules → History → List Stamped
window_of rules H = kept_by rules.kind (age_moment rules H (stamp rules H)) (items rules H)

-- the items without those at the front that are too old
abbrev pub from_young : Option ℕ → ℕ → List Stamped → List Stamped
from_young bound now [] = []
from_young bound now (first ∷ rest) = if is_young bound (now - first.1) then first ∷ rest else from_young bound now rest
