-- Where there is a place left, any note may be the next.
use Rattle.std.proofs.Common.{ℕ, ◌<◌}
use Rattle.rx_note.specs.declared.note.Note.{Note}
use Rattle.rx_note.specs.declared.note.Note.TheVariants.{Next, Completed, Failed}
use Rattle.rx_subject.specs.Subjects.{HasPlace}

pub has_place : (count : ℕ) (note : Note) → count < 4294967295 → HasPlace count note
has_place count (Next item) below = below
has_place count Completed below = tt
has_place count (Failed text) below = tt
