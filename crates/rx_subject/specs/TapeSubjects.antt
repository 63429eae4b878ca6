-- What a subject keeps for later joiners where its items stand on a tape: their stamps alone. Over the items of the tape it
-- is the subject that keeps them itself.
--
-- Of a subject whose items stand on a tape (`crates/rx_subject/specs/TapeSubjects.antt`: over the items of the tape it is
-- such a subject) the same holds, by clauses of the same names: `TapeSubject::new`, `admit`, `admit_offered`, `admit_on`,
-- `keep_back`, `pass_item`, `preview`, `opening`, `joined`, `is_ended`, `stamp`, `items`. `admit` puts the item on the tape,
-- none of Async, as its last growth; `admit_offered` puts there each item that the note offers; `admit_on` takes an item by
-- value, of a kind that keeps none back, `keep_back` one that Async keeps back, of which it says that nothing is offered, and
-- `pass_item` one of which Publish keeps nothing, so that it goes by no tape; an opening is a lead and the last so many items
-- of the tape. `keep` tells how many of the tape's last items later joiners may need; it is never more than there are, which
-- is the condition of `admit` and `opening` on the tape.
use Rattle.std.specs.Prelude.{◌≡◌, ℕ, suc, ◌-◌, max, List, [], ◌∷◌, length, Option, None, Some, if◌then◌else◌}
use Rattle.rx_note.specs.declared.item.Item.{Item}
use Rattle.rx_note.specs.declared.kind.Kind.{Kind}
use Rattle.rx_note.specs.declared.kind.Kind.TheVariants.{Publish, Behavior, Async, Replay}
use Rattle.rx_note.specs.declared.note.Note.{Note}
use Rattle.rx_note.specs.declared.rules.Rules.{Rules}
use Rattle.rx_history.specs.Histories.{History, Stamped, stamp, item_in, opening_by, end_of, is_young}
use Rattle.rx_tape.specs.Tapes.{TapeState, last_items, waits, pushed}
use Rattle.rx_subject.specs.declared.kept.Kept.{Kept}
use Rattle.rx_subject.specs.declared.tape_opening.TapeOpening.{TapeOpening}
use Rattle.rx_subject.specs.Subjects.{SubjectState}

-- a subject on a tape: what it keeps itself (of Async, the last item), and the stamps of the tape's last items
pub record TapeSubjectState : Type 0 where
  pub kind : Kind
  pub terminal : Option Note
  pub clock : ℕ
  pub count : ℕ
  pub own : List Stamped
  pub stamps : List ℕ

-- the item that it keeps itself, if there is one, with its stamp
abbrev pub own_of : Option Kept → List Stamped
own_of None = []
own_of (Some kept) = (kept.item, kept.stamp) ∷ []

-- a subject with no event yet
abbrev pub tape_subject_at_first : Kind → TapeSubjectState
tape_subject_at_first kind = record { kind = kind; terminal = None; clock = 0; count = 0; own = []; stamps = [] }

-- items with their stamps
abbrev pub paired : List Item → List ℕ → List Stamped
paired [] stamps = []
paired (item ∷ items) [] = []
paired (item ∷ items) (stamp ∷ stamps) = (item, stamp) ∷ paired items stamps

-- the last items, as many as there are stamps
abbrev pub last_stamped : List Item → List ℕ → List Stamped
last_stamped items stamps = paired (last_items items (length stamps)) stamps

-- what is kept for later joiners: of Async the last item, which does not stand on the tape
abbrev pub window_on : Kind → List Item → List Stamped → List ℕ → List Stamped
window_on Publish items own stamps = last_stamped items stamps
window_on (Behavior seed) items own stamps = last_stamped items stamps
window_on Async items own stamps = own
window_on (Replay count age) items own stamps = last_stamped items stamps

-- the subject that it is over the items of the tape
abbrev pub subject_on : List Item → TapeSubjectState → SubjectState
subject_on items subject = record {
  kind = subject.kind;
  terminal = subject.terminal;
  clock = subject.clock;
  count = subject.count;
  window = window_on subject.kind items subject.own subject.stamps;
}

-- how many stamps at the front are too old
abbrev pub old_count : Option ℕ → ℕ → List ℕ → ℕ
old_count bound now [] = 0
old_count bound now (stamp ∷ stamps) = if is_young bound (now - stamp) then 0 else suc (old_count bound now stamps)

-- how many stand before the last ones up to a count; without a count none
abbrev pub beyond : Option ℕ → ℕ → ℕ
beyond None count = 0
beyond (Some most) count = count - most

-- the items that a note from a port puts on the tape, at a place: none of Async
abbrev pub taped : Kind → ℕ → ℕ → Note → List Item
taped Publish port place note = item_in port place note
taped (Behavior seed) port place note = item_in port place note
taped Async port place note = []
taped (Replay count age) port place note = item_in port place note

-- the tape with several items more
abbrev pub pushed_all : TapeState → List Item → TapeState
pushed_all tape [] = tape
pushed_all tape (item ∷ items) = pushed_all (pushed tape item) items

-- the opening is that of a Join after this history at this moment
pub record TapeOpens (opening : TapeOpening) (items : List Item) (rules : Rules) (H : History) (at : ℕ) : Type 0 where
  pub items_are : waits opening.lead items opening.back ≡ opening_by rules.kind rules H (max (stamp rules H) at)
  pub end_is : opening.end ≡ end_of H
