-- What the letters that a drainer received mean: which sinks are attached, what each took, why it was put away, and what is
-- owed to each subject. Between letters the drainer flushes sinks. Each letter and each flush is marked, how it went with it
-- (this project's own rule).
--
-- A drainer received some letters. Between them it flushed sinks. Mark each letter and each flush: it went well, and the sink
-- that it reached answered so; that sink had a fault; or there was no memory for the sink that it brought. By these marks an
-- `Attach` of a subject makes an attachment of its observer, where none is kept and before the leave port's Bye; the
-- attachment is served the notes that come for its observer, up to a terminal; it ends when its sink took a terminal and
-- nothing waits in it any more, when the sink had a fault, when its observer left, or at the leave port's Bye. For each item
-- that its sink took one is due. All that is due the subject is asked for, item by item, where a take or a flush leaves the
-- sink not stuck (of a stuck one no more is held back than a `u32` counts), and at the end. At its end, but where the
-- observer had left before a terminal, and where its sink found no memory, the observer is disposed of. What the leave port
-- sends besides its Bye, and what comes for an observer without a sink, is discarded.
--
-- A drainer's letters are marked by how it went with each, since what is kept depends on what the sinks answered, which no
-- letter tells. The rules are those of one attachment, one line a case; the laws about what a sink took are read off the
-- letters alone.
use Rattle.std.specs.Prelude.{◌==◌, ◌+◌, ◌||◌, ◌&&◌, if◌then◌else◌, ℕ, Bool, true, false, List, [], ◌∷◌, ◌++◌, length, Option, Some, None}
use Rattle.rx_mailbox.specs.declared.letter.Letter.{Letter}
use Rattle.rx_mailbox.specs.declared.letter.Post.{Post}
use Rattle.rx_mailbox.specs.declared.letter.Post.TheVariants.{Body, Bye}
use Rattle.rx_mailbox.specs.Letters.{letter, ends, posts}
use Rattle.rx_pump.specs.declared.call.Call.{Call}
use Rattle.rx_pump.specs.declared.out.Out.{Out}
use Rattle.rx_pump.specs.declared.out.Out.TheVariants.{Attach, Give, Detach}
use Rattle.rx_sink.specs.Attachments.{Attachment, Why, Mark, Sent, Change, Service, attaching, detaching, flushing, giving, left, unchanged}

-- letters, and flushes of the sink of an observer of a subject, with their marks, the latest outermost
pub data Log (S : Type 0) : Type 0 where
  NoLetters : Log S
  Next : Log S → Letter (Out S) → Mark → Log S
  Flush : Log S → ℕ → ℕ → Mark → Log S

-- one where it is so, and else none
abbrev pub one_if : Bool → ℕ
one_if b = if b then 1 else 0

module _ {S : Type 0} where
  -- the letters without their marks
  abbrev pub letters : Log S → List (Letter (Out S))
  letters NoLetters = []
  letters (Next log x mark) = letters log ++ x ∷ []
  letters (Flush log subject who mark) = letters log

  -- the Bye of the leave port came
  abbrev pub has_left : ℕ → Log S → Bool
  has_left leave NoLetters = false
  has_left leave (Next log x mark) = has_left leave log || (x.from == leave && ends x.post)
  has_left leave (Flush log subject who mark) = has_left leave log

  -- ONE LETTER

  -- the sink that comes, if one does
  abbrev pub sink_in : Out S → Option S
  sink_in (Attach who sink) = Some sink
  sink_in (Give who note) = None
  sink_in (Detach who) = None

  -- what comes to the sinks by what a subject sends, at this place
  abbrev pub service_of : ℕ → ℕ → Out S → Service S
  service_of place subject (Attach who sink) = attaching place subject who sink
  service_of place subject (Give who note) = giving subject who note
  service_of place subject (Detach who) = detaching subject who

  -- what a subject sends, at this place
  abbrev pub out_change : ℕ → ℕ → Out S → Mark → List (Attachment S) → Change S
  out_change place subject out mark kept = (service_of place subject out).changed mark kept

  -- what the leave port sends: only its Bye counts
  abbrev pub leave_change : Post (Out S) → List (Attachment S) → Change S
  leave_change (Body out) kept = unchanged kept
  leave_change Bye kept = left kept

  -- what a subject sends: all but its Bye does
  abbrev pub subject_change : ℕ → ℕ → Post (Out S) → Mark → List (Attachment S) → Change S
  subject_change place subject (Body out) mark kept = out_change place subject out mark kept
  subject_change place subject Bye mark kept = unchanged kept

  -- a letter, by its port; once the Bye of the leave port has come nothing happens any more
  abbrev pub letter_change : Bool → ℕ → ℕ → Letter (Out S) → Mark → List (Attachment S) → Change S
  letter_change left_before leave place x mark kept =
      if left_before then unchanged kept else (if x.from == leave then leave_change x.post kept else subject_change place x.from x.post mark kept)

  -- ALL LETTERS

  -- the attachments whose sinks are kept, in the order in which they came
  abbrev pub kept_in : ℕ → Log S → List (Attachment S)
  kept_in leave NoLetters = []
  kept_in leave (Next log x mark) = (letter_change (has_left leave log) leave (length (letters log)) x mark (kept_in leave log)).kept
  kept_in leave (Flush log subject who mark) = ((flushing subject who).changed mark (kept_in leave log)).kept

  -- what a letter that comes next changes
  abbrev pub change : ℕ → Log S → Letter (Out S) → Mark → Change S
  change leave log x mark = letter_change (has_left leave log) leave (length (letters log)) x mark (kept_in leave log)

  -- what a flush that comes next changes
  abbrev pub flush_change : ℕ → Log S → ℕ → ℕ → Mark → Change S
  flush_change leave log subject who mark = (flushing subject who).changed mark (kept_in leave log)

  -- the attachments that have ended and why, in the order in which they did
  abbrev pub gone_in : ℕ → Log S → List (Attachment S × Why)
  gone_in leave NoLetters = []
  gone_in leave (Next log x mark) = gone_in leave log ++ (change leave log x mark).gone
  gone_in leave (Flush log subject who mark) = gone_in leave log ++ (flush_change leave log subject who mark).gone

  -- the events that are sent
  abbrev pub sent_in : ℕ → Log S → List Sent
  sent_in leave NoLetters = []
  sent_in leave (Next log x mark) = sent_in leave log ++ (change leave log x mark).sends
  sent_in leave (Flush log subject who mark) = sent_in leave log ++ (flush_change leave log subject who mark).sends

  -- how many sinks found no memory
  abbrev pub missed_in : ℕ → Log S → ℕ
  missed_in leave NoLetters = 0
  missed_in leave (Next log x mark) = missed_in leave log + one_if (change leave log x mark).missed
  missed_in leave (Flush log subject who mark) = missed_in leave log + one_if (flush_change leave log subject who mark).missed

  -- how many notes the sinks took
  abbrev pub taken_in : ℕ → Log S → ℕ
  taken_in leave NoLetters = 0
  taken_in leave (Next log x mark) = taken_in leave log + one_if (change leave log x mark).took
  taken_in leave (Flush log subject who mark) = taken_in leave log + one_if (flush_change leave log subject who mark).took

  -- what a port has put that put these calls, and once the drainer left a Bye
  abbrev pub put_by : Bool → ℕ → List (Call S) → List (Letter (Call S))
  put_by false number calls = posts number calls
  put_by true number calls = posts number calls ++ letter number Bye ∷ []
