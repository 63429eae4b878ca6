-- What becomes of the sinks that come to a drainer (this project's own rule). A sink stays attached until it took a terminal
-- and nothing waits in it any more, had a fault, its observer left, or the drainer was told to leave. Its subject is asked for
-- an item more for each that it took: at once, but while the sink is stuck; then once it goes on, and at its end at the latest.
--
-- First what is ruled about one attachment, when a note comes for its observer, when it is flushed and when its observer leaves,
-- said of that attachment alone; then what the list of all that are kept becomes by it, and by a sink that comes.
use Rattle.std.specs.Prelude.{◌≡◌, ◌==◌, ◌&&◌, if◌then◌else◌, nat_lt, ℕ, ◌+◌, ◌^◌, Bool, true, false, not, List, [], ◌∷◌, ◌++◌, map, replicate, Option, Some, None}
use Rattle.rx_note.specs.declared.event.Event.{Event}
use Rattle.rx_note.specs.declared.event.Event.TheVariants.{Request, Dispose}
use Rattle.rx_note.specs.declared.note.Note.{Note}
use Rattle.rx_note.specs.declared.note.Note.TheVariants.{Next, Completed, Failed}
use Rattle.rx_sink.specs.declared.flow.Flow.{Flow}
use Rattle.rx_sink.specs.declared.flow.Flow.TheVariants.{Clear, Ready, Stuck, Held}
use Rattle.rx_sink.specs.declared.kept.Kept.{Kept}
use Rattle.rx_sink.specs.Acts.{Step, Takes, Flushes}

-- one attachment: the place of its Attach in the received list, the subject and the number of its observer, the sink as it
-- came, the notes that the sink has taken, for how many of their items the subject was not yet asked for one more, whether a
-- terminal is among them, and what was last done with the sink since its start
pub record Attachment (S : Type 0) : Type 0 where
  pub place : ℕ
  pub subject : ℕ
  pub who : ℕ
  pub sink : S
  pub taken : List Note
  pub due : ℕ
  pub over : Bool
  pub last : Option Step

-- why a sink was put away: it took a terminal, its observer left, the drainer was told to leave, its start was a fault, this
-- note was, or a flush of what it had taken was
pub data Why : Type 0 where
  TookLast : Why
  Detached : Why
  Closed : Why
  FailedAtStart : Why
  FailedAt : Note → Why
  FailedAtFlush : Why

-- how it went with a letter or a flush: well, and the sink that it reached answered so; with a fault of that sink; or without
-- memory for the sink that it brought
pub data Mark : Type 0 where
  Fine : Flow → Mark
  Fault : Mark
  NoMemory : Mark

-- an event that was sent to a subject for the attachment of this place
pub record Sent : Type 0 where
  pub place : ℕ
  pub subject : ℕ
  pub event : Event

-- what one letter or flush leaves and brings: the attachments that are kept, those that end and why, the events that are sent,
-- whether a sink found no memory, and whether a note was taken
pub record Change (S : Type 0) : Type 0 where
  pub kept : List (Attachment S)
  pub gone : List (Attachment S × Why)
  pub sends : List Sent
  pub missed : Bool
  pub took : Bool

-- what is ruled about an attachment that has come to this: nothing; it goes on, and what is due is held back; it goes on, and its
-- subject is asked for all that is due; its observer left, and it is put away, its subject asked for all that is due; or it is
-- put away for this reason, its subject asked for all that is due, and then to let its observer go
pub data Ruling (S : Type 0) : Type 0 where
  AsItWas : Ruling S
  HoldsBack : Attachment S → Ruling S
  PaysAll : Attachment S → Ruling S
  LetsGo : Attachment S → Ruling S
  PutsAway : Attachment S → Why → Ruling S

-- nothing follows the note
abbrev pub is_last : Note → Bool
is_last (Next item) = false
is_last Completed = true
is_last (Failed text) = true

-- nothing waits in the sink, nor is anything held back
abbrev pub is_clear : Flow → Bool
is_clear Clear = true
is_clear Ready = false
is_clear Stuck = false
is_clear Held = false

-- nothing waits in the sink
abbrev pub is_idle : Flow → Bool
is_idle Clear = true
is_idle Ready = false
is_idle Stuck = false
is_idle Held = true

-- what is due is held back: the sink is stuck, or its reader asks itself, or more is to be asked for together, and no more is due than a `u32` counts
abbrev pub is_held_back : Flow → ℕ → Bool
is_held_back Clear due = false
is_held_back Ready due = false
is_held_back Stuck due = nat_lt due (2 ^ 32)
is_held_back Held due = nat_lt due (2 ^ 32)

-- something may wait in a sink of which this was the last step: it was not flushed since, or a flush left something
abbrev pub may_wait : Option Step → Bool
may_wait None = true
may_wait (Some (Takes note flow)) = true
may_wait (Some (Flushes flow)) = not (is_idle flow)

module _ {S : Type 0} where
  -- ONE ATTACHMENT

  -- the attachment that an Attach at this place makes
  abbrev pub brought : ℕ → ℕ → ℕ → S → Attachment S
  brought place subject who sink = record { place = place; subject = subject; who = who; sink = sink; taken = []; due = 0; over = false; last = None }

  -- the attachment once its sink, which had taken no terminal, took a note more and answered so
  abbrev pub with_note : Note → Flow → Attachment S → Attachment S
  with_note note flow a = record a { taken = a.taken ++ note ∷ []; due = if is_last note then a.due else a.due + 1; over = is_last note; last = Some (Takes note flow) }

  -- the attachment once its sink was flushed, and answered so
  abbrev pub with_flush : Flow → Attachment S → Attachment S
  with_flush flow a = record a { last = Some (Flushes flow) }

  -- the attachment once its subject was asked for all that is due
  abbrev pub paid : Attachment S → Attachment S
  paid a = record a { due = 0 }

  -- its sink answered so: it is put away once it took a terminal and nothing waits in it; else it goes on, and what is due is
  -- held back or asked for
  abbrev pub by_answer : Flow → Attachment S → Ruling S
  by_answer flow a = if a.over && is_clear flow then PutsAway a TookLast else (if is_held_back flow a.due then HoldsBack a else PaysAll a)

  -- its sink, which took no terminal yet, is handed a note: it took it and answered so, or that was a fault
  abbrev pub by_taking : Mark → Note → Attachment S → Ruling S
  by_taking (Fine flow) note a = by_answer flow (with_note note flow a)
  by_taking Fault note a = PutsAway a (FailedAt note)
  by_taking NoMemory note a = PutsAway a (FailedAt note)

  -- a note comes for its observer: a sink that took a terminal is handed no more
  abbrev pub by_note : Mark → Note → Attachment S → Ruling S
  by_note mark note a = if a.over then AsItWas else by_taking mark note a

  -- and whether its sink took that note
  abbrev pub has_taken : Mark → Attachment S → Bool
  has_taken (Fine flow) a = not a.over
  has_taken Fault a = false
  has_taken NoMemory a = false

  -- it is flushed: its sink wrote what it could and answered so, or that was a fault
  abbrev pub by_flush : Mark → Attachment S → Ruling S
  by_flush (Fine flow) a = by_answer flow (with_flush flow a)
  by_flush Fault a = PutsAway a FailedAtFlush
  by_flush NoMemory a = PutsAway a FailedAtFlush

  -- its observer leaves: where its sink took a terminal, it is put away for that
  abbrev pub by_leaving : Attachment S → Ruling S
  by_leaving a = if a.over then PutsAway a TookLast else LetsGo a

  -- WHAT A RULING SENDS AND ENDS

  -- its subject is asked for one item more
  abbrev pub request : Attachment S → Sent
  request a = record { place = a.place; subject = a.subject; event = Request a.who 1 }

  -- its subject is asked for all that is due, item by item
  abbrev pub requests : Attachment S → List Sent
  requests a = replicate a.due (request a)

  -- its subject is asked to let its observer go
  abbrev pub dispose : Attachment S → Sent
  dispose a = record { place = a.place; subject = a.subject; event = Dispose a.who }

  -- what is due, and then that its observer be let go
  abbrev pub parting : Attachment S → List Sent
  parting a = requests a ++ dispose a ∷ []

  -- the events that are sent
  abbrev pub sends_by : Ruling S → List Sent
  sends_by AsItWas = []
  sends_by (HoldsBack a) = []
  sends_by (PaysAll a) = requests a
  sends_by (LetsGo a) = requests a
  sends_by (PutsAway a why) = parting a

  -- the attachment that ends, if it does, and why
  abbrev pub ended_by : Ruling S → List (Attachment S × Why)
  ended_by AsItWas = []
  ended_by (HoldsBack a) = []
  ended_by (PaysAll a) = []
  ended_by (LetsGo a) = (paid a, Detached) ∷ []
  ended_by (PutsAway a why) = (paid a, why) ∷ []

  -- ALL THAT ARE KEPT

  -- a sink is kept for this observer of this subject
  abbrev pub is_for : ℕ → ℕ → Kept S → Bool
  is_for subject who kept = kept.subject == subject && kept.who == who

  -- an attachment is of this observer of this subject
  abbrev pub is_of : ℕ → ℕ → Attachment S → Bool
  is_of subject who a = a.subject == subject && a.who == who

  -- the attachment of an observer
  abbrev pub kept_for : ℕ → ℕ → List (Attachment S) → Option (Attachment S)
  kept_for subject who [] = None
  kept_for subject who (a ∷ held) = if is_of subject who a then Some a else kept_for subject who held

  -- the attachments of others than an observer
  abbrev pub of_others : ℕ → ℕ → List (Attachment S) → List (Attachment S)
  of_others subject who [] = []
  of_others subject who (a ∷ held) = if is_of subject who a then held else a ∷ of_others subject who held

  -- the attachments with another in the place of that of an observer
  abbrev pub replaced : ℕ → ℕ → Attachment S → List (Attachment S) → List (Attachment S)
  replaced subject who b [] = []
  replaced subject who b (a ∷ held) = if is_of subject who a then b ∷ held else a ∷ replaced subject who b held

  -- no two attachments are of one observer
  abbrev pub Apart : List (Attachment S) → Type 0
  Apart [] = Unit {0}
  Apart (a ∷ held) = (kept_for a.subject a.who held ≡ None) × Apart held

  -- the attachments after a ruling about that of an observer
  abbrev pub kept_by : ℕ → ℕ → Ruling S → List (Attachment S) → List (Attachment S)
  kept_by subject who AsItWas held = held
  kept_by subject who (HoldsBack a) held = replaced subject who a held
  kept_by subject who (PaysAll a) held = replaced subject who (paid a) held
  kept_by subject who (LetsGo a) held = of_others subject who held
  kept_by subject who (PutsAway a why) held = of_others subject who held

  -- nothing happens
  abbrev pub unchanged : List (Attachment S) → Change S
  unchanged held = record { kept = held; gone = []; sends = []; missed = false; took = false }

  -- a ruling about the attachment of an observer is carried out, by which its sink took a note or not
  abbrev pub carried_out : ℕ → ℕ → Ruling S → Bool → List (Attachment S) → Change S
  carried_out subject who ruling took held = record { kept = kept_by subject who ruling held; gone = ended_by ruling; sends = sends_by ruling; missed = false; took = took }

  -- what a rule about the attachment of an observer makes of all, if one is kept
  abbrev pub ruled : ℕ → ℕ → (Attachment S → Ruling S) → (Attachment S → Bool) → Option (Attachment S) → List (Attachment S) → Change S
  ruled subject who rule took (Some a) held = carried_out subject who (rule a) (took a) held
  ruled subject who rule took None held = unchanged held

  -- a sink comes to an observer for whom none is kept: it was started, or that was a fault, or there was no memory for it
  abbrev pub brought_in : Mark → Attachment S → List (Attachment S) → Change S
  brought_in (Fine flow) a held = record { kept = held ++ a ∷ []; gone = []; sends = []; missed = false; took = false }
  brought_in Fault a held = record { kept = held; gone = (a, FailedAtStart) ∷ []; sends = dispose a ∷ []; missed = false; took = false }
  brought_in NoMemory a held = record { kept = held; gone = []; sends = dispose a ∷ []; missed = true; took = false }

  -- a sink comes: it is left unserved while one is kept for its observer
  abbrev pub attached : Mark → Attachment S → Option (Attachment S) → List (Attachment S) → Change S
  attached mark a (Some other) held = unchanged held
  attached mark a None held = brought_in mark a held

  -- the sink that is left unserved: one that comes while one is kept for its observer, or for which there was no memory
  abbrev pub unserved : Mark → S → Option (Attachment S) → Option S
  unserved mark sink (Some other) = Some sink
  unserved (Fine flow) sink None = None
  unserved Fault sink None = None
  unserved NoMemory sink None = Some sink

  -- attachments that end since the drainer was told to leave
  abbrev pub closed : List (Attachment S) → List (Attachment S × Why)
  closed held = map (λ a. (paid a, Closed)) held

  -- what is due for each, and that its observer be let go
  abbrev pub partings : List (Attachment S) → List Sent
  partings [] = []
  partings (a ∷ held) = parting a ++ partings held

  -- the drainer was told to leave: all are put away, and each observer is disposed of
  abbrev pub left : List (Attachment S) → Change S
  left held = record { kept = []; gone = closed held; sends = partings held; missed = false; took = false }

-- what comes to the sinks of a subject's observers: the subject, how it changes the attachments, by its mark, and which sink it
-- leaves unserved
pub record Service (S : Type 0) : Type 0 where
  pub subject : ℕ
  pub changed : Mark → List (Attachment S) → Change S
  pub unserved : Mark → List (Attachment S) → Option S

module _ {S : Type 0} where
  -- a sink comes, by an Attach at this place
  abbrev pub attaching : ℕ → ℕ → ℕ → S → Service S
  attaching place subject who sink = record {
    subject = subject;
    changed = λ mark held. attached mark (brought place subject who sink) (kept_for subject who held) held;
    unserved = λ mark held. unserved mark sink (kept_for subject who held);
  }

  -- a note comes for an observer: it is lost where no sink is kept for it
  abbrev pub giving : ℕ → ℕ → Note → Service S
  giving subject who note = record {
    subject = subject;
    changed = λ mark held. ruled subject who (by_note mark note) (has_taken mark) (kept_for subject who held) held;
    unserved = λ mark held. None;
  }

  -- the sink of an observer is flushed
  abbrev pub flushing : ℕ → ℕ → Service S
  flushing subject who = record {
    subject = subject;
    changed = λ mark held. ruled subject who (by_flush mark) (λ a. false) (kept_for subject who held) held;
    unserved = λ mark held. None;
  }

  -- an observer left
  abbrev pub detaching : ℕ → ℕ → Service S
  detaching subject who = record {
    subject = subject;
    changed = λ mark held. ruled subject who by_leaving (λ a. false) (kept_for subject who held) held;
    unserved = λ mark held. None;
  }
