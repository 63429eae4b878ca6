-- What a kind of sink does, as relations between its states (this project's own rule).
--
-- A kind of sink tells by relations between its states what an Ok `start`, an Ok `take` and an Ok `flush` with their answers,
-- a fault and `finish` do, and how many faults it had. The answer is that nothing waits in the sink, that something waits and
-- it takes more, or that it is stuck: something waits that can't go out now. All below holds for every kind of sink.
--
-- A take and a flush answer how the sink stands, in one relation each with the answer as its argument, so that what a drainer
-- asks for is tied to what the sink said: a body that pays for a stuck sink, or puts a terminal away with bytes waiting, is
-- refused. In the log a flush is an entry of its own, and what a sink took does not depend on where it was flushed. What is
-- due is a count of the attachment, and the law of each attachment's calls says that what was sent, with what is due, is a
-- request for each item: no subtraction.
use Rattle.std.specs.Prelude.{◌≡◌, ◌+◌, ◌-◌, ◌^◌, min, ℕ, List, [], ◌∷◌, Option, Some, None}
use Rattle.std.specs.List.{FoldsTo}
use Rattle.rx_note.specs.declared.note.Note.{Note}
use Rattle.rx_sink.specs.declared.flow.Flow.{Flow}

-- a count with one more, up to the greatest `u64`
abbrev pub raised : ℕ → ℕ
raised n = min (n + 1) (2 ^ 64 - 1)

-- the states of a kind of sink before and after each of its calls: a start for an observer that was Ok, one that was a
-- fault, a take of a note that was Ok, with the answer, one that was a fault, a flush that was Ok, with the answer, one that
-- was a fault, and what finishing leaves; and how many faults a state had
pub record Acts (S Rest : Type 0) : Type 1 where
  pub started : S → ℕ → S → Type 0
  pub start_faulted : S → ℕ → S → Type 0
  pub took : S → Note → Flow → S → Type 0
  pub take_faulted : S → Note → S → Type 0
  pub flushed : S → Flow → S → Type 0
  pub flush_faulted : S → S → Type 0
  pub finished : S → Rest → Type 0
  pub faults : S → ℕ

-- what was done with a sink since its start, and what it answered: it took a note, or it was flushed
pub data Step : Type 0 where
  Takes : Note → Flow → Step
  Flushes : Flow → Step

-- the notes that were taken by these steps
abbrev pub notes_by : List Step → List Note
notes_by [] = []
notes_by (Takes note flow ∷ steps) = note ∷ notes_by steps
notes_by (Flushes flow ∷ steps) = notes_by steps

-- the last of these steps, where the one before them is known
abbrev pub last_by : Option Step → List Step → Option Step
last_by before [] = before
last_by before (step ∷ steps) = last_by (Some step) steps

module _ {S Rest : Type 0} (acts : Acts S Rest) where
  -- a sink made this step
  abbrev pub Makes : S → Step → S → Type 0
  Makes before (Takes note flow) after = acts.took before note flow after
  Makes before (Flushes flow) after = acts.flushed before flow after

  -- the sink was started for this observer, then took these notes, one after another, and was flushed between them, and this
  -- was its last step; it had no fault at that
  pub record Took (sink : S) (who : ℕ) (notes : List Note) (last : Option Step) (now : S) : Type 0 where
    pub begun : S
    pub start : acts.started sink who begun
    pub steps : List Step
    pub notes_are : notes_by steps ≡ notes
    pub last_is : last_by None steps ≡ last
    pub made : FoldsTo Makes begun steps now
    pub faultless : acts.faults now ≡ acts.faults sink
