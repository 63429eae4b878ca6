-- What contracts see of a subject, and the histories that it stands for.
--
-- It keeps the history's end and stamp and how many items were accepted, and of the items those that a later joiner may need:
-- none (Publish), the last one (Behavior, Async), the last `count` of those that are younger than `age` at the stamp, or at
-- the end once there is one (Replay). For all rules of its kind and every history that the subject stands for:.
--
-- `admit` answers `Ended` exactly after the end, else perhaps `Memory`, and a refusal leaves the subject; its offer has the
-- signals that the definition adds by this note, the item at the place that is the number of items accepted before, and,
-- where the limit has room for it, the subject then stands for the history with it. An item is handed in only where fewer
-- than 4,294,967,295 were admitted.
use Rattle.std.specs.Prelude.{◌≡◌, ◌<◌, ℕ, ◌+◌, max, List, [], ◌∷◌, ◌++◌, map, take, Option, None, Some, is_some, if◌then◌else◌}
use Rattle.rx_note.specs.declared.kind.Kind.{Kind}
use Rattle.rx_note.specs.declared.kind.Kind.TheVariants.{Publish, Behavior, Async, Replay}
use Rattle.rx_note.specs.declared.item.Item.{Item}
use Rattle.rx_note.specs.declared.note.Note.{Note}
use Rattle.rx_note.specs.declared.note.Note.TheVariants.{Next, Completed, Failed}
use Rattle.rx_note.specs.declared.rules.Rules.{Rules}
use Rattle.rx_note.specs.Signals.{Signal, Offered}
use Rattle.rx_history.specs.Histories.{History, Stamped, unstamped, or_else, seed_item, at_most, terminal_in, is_completion, end_of, item_count, stamp, offers_by, ended_by}
use Rattle.rx_subject.specs.Windows.{age_kept, window_of, from_young}

-- a subject: its kind, its end, the greatest moment and the number of items so far, and the items that it keeps for later joiners
pub record SubjectState : Type 0 where
  pub kind : Kind
  pub terminal : Option Note
  pub clock : ℕ
  pub count : ℕ
  pub window : List Stamped

-- a subject with no event yet
abbrev pub subject_at_first : Kind → SubjectState
subject_at_first kind = record { kind = kind; terminal = None; clock = 0; count = 0; window = [] }

-- a subject stands for a history: it has that history's end, stamp and number of items, and keeps the items that later joiners may need
pub record StandsFor (subject : SubjectState) (rules : Rules) (H : History) : Type 0 where
  pub kind_is : subject.kind ≡ rules.kind
  pub end_is : subject.terminal ≡ end_of H
  pub stamp_is : subject.clock ≡ stamp rules H
  pub count_is : subject.count ≡ item_count rules H
  pub window_is : subject.window ≡ window_of rules H

-- whether a note may be the next: an item has a place, which is below that of a seed
abbrev pub HasPlace : ℕ → Note → Type 0
HasPlace count (Next item) = count < 4294967295
HasPlace count Completed = Unit {0}
HasPlace count (Failed text) = Unit {0}

-- the items that a note from a port offers, by what the subject keeps; the place of an item is how many came before it
abbrev pub offered_by : SubjectState → ℕ → Note → List Item
offered_by subject port note = offers_by subject.kind (unstamped (take 1 subject.window)) port subject.count note

-- and its signals: these items, and then the end
abbrev pub signals_by : SubjectState → ℕ → Note → List Signal
signals_by subject port note = map Offered (offered_by subject port note) ++ ended_by (terminal_in note)

-- the items that a joiner is offered at a moment, by the kind, the end and what is kept
abbrev pub items_by : Kind → Option Note → List Stamped → ℕ → List Item
items_by Publish terminal window now = []
items_by (Behavior seed) terminal window now = if is_some terminal then [] else or_else (unstamped (take 1 window)) (seed_item seed)
items_by Async terminal window now = if is_completion terminal then unstamped (take 1 window) else []
items_by (Replay count age) terminal window now = if is_some terminal then unstamped window else unstamped (from_young age now window)

-- WHAT AN EVENT LEAVES

-- the window with an item more; Publish keeps none
abbrev pub window_with : Kind → List Stamped → Item → ℕ → List Stamped
window_with Publish window item now = window
window_with (Behavior seed) window item now = at_most (Some 1) (window ++ (item, now) ∷ [])
window_with Async window item now = at_most (Some 1) (window ++ (item, now) ∷ [])
window_with (Replay count age) window item now = from_young age now (at_most count (window ++ (item, now) ∷ []))

-- the subject after an item
abbrev pub after_item : SubjectState → Item → ℕ → SubjectState
after_item subject item at = record subject {
  clock = max subject.clock at;
  count = subject.count + 1;
  window = window_with subject.kind subject.window item (max subject.clock at);
}

-- the subject after its end
abbrev pub after_end : SubjectState → Note → ℕ → SubjectState
after_end subject note at = record subject {
  terminal = Some note;
  clock = max subject.clock at;
  window = from_young (age_kept subject.kind) (max subject.clock at) subject.window;
}

-- the subject after a Join; once it ended its items grow no older
abbrev pub after_join : SubjectState → ℕ → SubjectState
after_join subject at = record subject {
  clock = max subject.clock at;
  window = if is_some subject.terminal then subject.window else from_young (age_kept subject.kind) (max subject.clock at) subject.window;
}
