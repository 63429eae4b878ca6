-- The count of the notes taken is the number of notes that the sinks of all attachments took.
--
-- Notes taken: The count of notes taken is the number of notes that the sinks of all attachments took, kept or put away.
use Rattle.std.specs.Prelude.{◌≡◌, ◌+◌, ℕ, List, [], ◌∷◌, length}
use Rattle.rx_sink.specs.Attachments.{Attachment, Why}
use Rattle.rx_drain.specs.Logs.{Log, kept_in, gone_in, taken_in}

module _ {S : Type 0} where
  -- how many notes the sinks of these attachments took
  abbrev pub notes_taken : List (Attachment S) → ℕ
  notes_taken [] = 0
  notes_taken (a ∷ kept) = length a.taken + notes_taken kept

  -- and of those that have ended
  abbrev pub notes_of_ended : List (Attachment S × Why) → ℕ
  notes_of_ended [] = 0
  notes_of_ended (end ∷ gone) = length end.0.taken + notes_of_ended gone

-- whatever the letters, and however it went with each
abbrev pub EachNoteCounts : Type 0 → Type 0
EachNoteCounts S = (leave : ℕ) (log : Log S) → taken_in leave log ≡ notes_taken (kept_in leave log) + notes_of_ended (gone_in leave log)
