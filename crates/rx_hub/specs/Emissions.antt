-- An emission, and what it does to a subject on a tape and to its observers.
--
-- What an emission does is one record (`Admits`): five functions carry it, from the one that takes any emission down to the
-- one that knows what is offered, and each leaves all as it was where it is refused (`StaysAs`).
use Rattle.std.specs.Prelude.{◌≡◌, ◌<◌, ◌≤◌, ℕ, true, false, List, is_some, length}
use Rattle.rx_note.specs.declared.event.Event.TheVariants.{Emit}
use Rattle.rx_note.specs.declared.given.Given.{Given}
use Rattle.rx_note.specs.declared.item.Item.{Item}
use Rattle.rx_note.specs.declared.note.Note.TheVariants.{Next}
use Rattle.rx_note.specs.declared.rules.Rules.{Rules}
use Rattle.rx_history.specs.Histories.{History, ◌▹◌, has_room, item_count}
use Rattle.rx_subject.specs.Subjects.{signals_by}
use Rattle.rx_subject.specs.Subjects as subjects
use Rattle.rx_subject.specs.TapeSubjects.{TapeSubjectState, subject_on}
use Rattle.rx_hub.specs.declared.emission.Emission.{Emission}
use Rattle.rx_hub.specs.Subscriptions.{AllFedInto}
use Rattle.rx_hub.specs.Audiences.{AudienceState, AllOpen}

-- a subject, its observers, and what was given so far
pub record Delivery : Type 0 where
  pub subject : TapeSubjectState
  pub audience : AudienceState
  pub given : List Given

-- these three together
abbrev pub delivery : TapeSubjectState → AudienceState → List Given → Delivery
delivery subject audience given = record { subject = subject; audience = audience; given = given }

-- an emission may come: the subject has not ended, it may send more to each observer, and what it keeps is on the tape
pub record IsOpen (subject : TapeSubjectState) (audience : AudienceState) : Type 0 where
  pub open_now : is_some subject.terminal ≡ false
  pub all_open : AllOpen audience.observers
  pub stamps : length subject.stamps ≤ length audience.items

-- an item may come: it has the next place, which is below that of a seed
pub record IsNext (subject : TapeSubjectState) (item : Item) : Type 0 where
  pub next : item.place ≡ subject.count
  pub place : subject.count < 4294967295

-- all is as it was
pub record StaysAs (old new : Delivery) : Type 0 where
  pub subject : new.subject ≡ old.subject
  pub audience : new.audience ≡ old.audience
  pub given : new.given ≡ old.given

-- the emission was admitted: the subject stands for the history with it, where it found room, and each observer was fed what
-- it offers
pub record Admits (old new : Delivery) (emission : Emission) : Type 0 where
  pub stands : (rules : Rules) (H : History) → has_room rules.limits (item_count rules H) emission.note ≡ true
      → subjects.StandsFor (subject_on old.audience.items old.subject) rules H
      → subjects.StandsFor (subject_on new.audience.items new.subject) rules (H ▹ (emission.port, Emit emission.note emission.at))
  pub fed : AllFedInto (signals_by (subject_on old.audience.items old.subject) emission.port emission.note)
      old.audience.observers new.audience.observers old.given new.given
  pub within : length new.subject.stamps ≤ length new.audience.items
  pub kind : new.subject.kind ≡ old.subject.kind

-- the emission of an item at a moment; the port and the place that its producer wrote in it are passed over for the port that
-- it comes by and the place that it has
abbrev pub of_item : ℕ → ℕ → Item → ℕ → Emission
of_item from place item at = record { port = item.from; note = Next (record { from = from; place = place; text = item.text }); at = at }
