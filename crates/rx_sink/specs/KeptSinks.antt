-- What the sinks that are kept and those that were put away stand for: lists of attachments (this project's own rule).
--
-- The sinks' notes: Each sink that is kept is the one that came, after its `start`, the Ok `take` of just the notes that its
-- attachment took, and Ok flushes between them; one that was put away is that with its last fault, if it had one, and then
-- its `finish`. Whatever the kind, its own count of faults rose at that fault and stayed else. A sink that is left unserved,
-- since one is kept for its observer or there was no memory for it, comes back from `attach` as it came, and is finished in
-- one place (`finish_unserved` in `rx_drain`)
use Rattle.std.specs.Prelude.{◌≡◌, ◌+◌, ◌&&◌, if◌then◌else◌, ℕ, Bool, true, false, not, List, [], ◌∷◌, ◌++◌, map, replicate, Option, Some, slice_get, Result, Ok, Err}
use Rattle.std.specs.List.{AllZip, remove}
use Rattle.rx_note.specs.declared.event.Event.{Event}
use Rattle.rx_note.specs.declared.event.Event.TheVariants.{Request, Dispose}
use Rattle.rx_note.specs.declared.note.Note.{Note}
use Rattle.rx_sink.specs.declared.asks.Asks.{Asks}
use Rattle.rx_sink.specs.declared.flow.Flow.{Flow}
use Rattle.rx_sink.specs.declared.kept.Kept.{Kept}
use Rattle.rx_sink.specs.declared.put_away.PutAway.{PutAway}
use Rattle.rx_sink.specs.declared.sink.SinkFault.{SinkFault}
use Rattle.rx_sink.specs.Acts.{Acts, Took, raised}
use Rattle.rx_sink.specs.Attachments.{Attachment, Why, TookLast, Detached, Closed, FailedAtStart, FailedAt, FailedAtFlush, Mark, Sent, Change, Service, Apart, is_clear, is_for, is_held_back, is_idle, is_last, may_wait}

-- the sinks of a drainer: those that are kept, what those left that were put away, how many found no memory, and how many notes
-- they took
pub record Sinks (S Rest : Type 0) : Type 0 where
  pub kept : List (Kept S)
  pub away : List (PutAway Rest)
  pub misses : ℕ
  pub taken : ℕ

-- these sinks kept and put away, with so many misses and so many notes taken
abbrev pub sinks : {S Rest : Type 0} → List (Kept S) → List (PutAway Rest) → ℕ → ℕ → Sinks S Rest
sinks kept away misses taken = record { kept = kept; away = away; misses = misses; taken = taken }

-- the events that were sent, each with its subject
abbrev pub addressed : List Sent → List (ℕ × Event)
addressed sends = map (λ s. (s.subject, s.event)) sends

-- a count of misses, or of notes taken, with one more where there was one
abbrev pub tallied : ℕ → Bool → ℕ
tallied n more = if more then raised n else n

-- what is asked for an observer: so many items, one by one, and then that it be let go
abbrev pub events_asked : Asks → List Event
events_asked asks = replicate asks.items (Request asks.who 1) ++ (if asks.leaves then Dispose asks.who ∷ [] else [])

module _ {S : Type 0} where
  -- the sink at this place is kept for this observer
  abbrev pub IsKeptAt : ℕ → ℕ → ℕ → List (Kept S) → Type 0
  IsKeptAt subject who place kept = (one : Kept S) × (slice_get kept place ≡ Some one) × (is_for subject who one ≡ true)

  -- a kept sink that answered so, when so many items were due, asks for them or holds them back
  pub record PaysDue (flow : Flow) (items : ℕ) (after : Kept S) (asks : Asks) : Type 0 where
    pub due : after.due ≡ (if is_held_back flow items then items else 0)
    pub asked : asks ≡ record { who = after.who; items = if is_held_back flow items then 0 else items; leaves = after.over && is_clear flow }

module _ {S Rest : Type 0} (acts : Acts S Rest) where
  -- a kept sink is that of the attachment, and took its notes; as much is due
  pub record IsKept (a : Attachment S) (one : Kept S) : Type 0 where
    pub subject : one.subject ≡ a.subject
    pub who : one.who ≡ a.who
    pub due : one.due ≡ a.due
    pub over : one.over ≡ a.over
    pub waits : one.may_wait ≡ may_wait a.last
    pub took : Took acts a.sink a.who a.taken a.last one.sink

  -- the state in which the sink of an attachment was put away, by the reason
  abbrev pub Last : Attachment S → Why → S → Type 0
  Last a TookLast now = Took acts a.sink a.who a.taken a.last now
  Last a Detached now = Took acts a.sink a.who a.taken a.last now
  Last a Closed now = Took acts a.sink a.who a.taken a.last now
  Last a FailedAtStart now = (a.taken ≡ []) × acts.start_faulted a.sink a.who now × (acts.faults now ≡ raised (acts.faults a.sink))
  Last a (FailedAt note) now =
      (before : S) × Took acts a.sink a.who a.taken a.last before × acts.take_faulted before note now × (acts.faults now ≡ raised (acts.faults before))
  Last a FailedAtFlush now =
      (before : S) × Took acts a.sink a.who a.taken a.last before × acts.flush_faulted before now × (acts.faults now ≡ raised (acts.faults before))

  -- what was put away is what the sink of the attachment left
  pub record IsPutAway (end : Attachment S × Why) (away : PutAway Rest) : Type 0 where
    pub subject : away.subject ≡ end.0.subject
    pub who : away.who ≡ end.0.who
    pub last : S
    pub was : Last end.0 end.1 last
    pub rest : acts.finished last away.rest

  -- the two lists stand for attachments that are kept, no two of one observer, and for those that have ended
  pub record Stand (held : List (Attachment S)) (gone : List (Attachment S × Why)) (kept : List (Kept S)) (away : List (PutAway Rest)) : Type 0 where
    pub kept_are : AllZip IsKept held kept
    pub away_are : AllZip IsPutAway gone away
    pub apart : Apart held

  -- the lists were changed so, and these events are to be sent to subjects
  pub record Did (change : Change S) (gone : List (Attachment S × Why)) (kept : List (Kept S)) (away : List (PutAway Rest)) (events : List (ℕ × Event)) : Type 0 where
    pub stand : Stand change.kept (gone ++ change.gone) kept away
    pub sends : events ≡ addressed change.sends

  -- WHAT THE CALLS DO

  -- the sinks, which stood for these attachments, were served so
  pub record Tended (service : Service S) (before after : Sinks S Rest) (events : List Event) (back : Option S) (held : List (Attachment S)) (gone : List (Attachment S × Why)) : Type 0 where
    -- it went so with it
    pub mark : Mark
    -- the attachments were changed as the rules say of this mark, and these events are what the subject is to be sent
    pub did : Did (service.changed mark held) gone after.kept after.away (map (λ event. (service.subject, event)) events)
    -- the misses rose by one where a sink found no memory
    pub misses : after.misses ≡ tallied before.misses (service.changed mark held).missed
    -- the notes taken rose by one where a sink took one
    pub taken : after.taken ≡ tallied before.taken (service.changed mark held).took
    -- the sink that is left unserved came back
    pub came_back : back ≡ service.unserved mark held

  -- the sinks were served so, whatever attachments they stood for
  abbrev pub Tends : Service S → Sinks S Rest → Sinks S Rest → List Event → Option S → Type 0
  Tends service before after events back =
      (held : List (Attachment S)) (gone : List (Attachment S × Why)) → Stand held gone before.kept before.away → Tended service before after events back held gone

  -- ONE SINK

  -- a kept sink took a note
  pub record TakesNote (note : Note) (before after : Kept S) (asks : Asks) : Type 0 where
    pub flow : Flow
    pub took : acts.took before.sink note flow after.sink
    pub faultless : acts.faults after.sink ≡ acts.faults before.sink
    pub over : after.over ≡ is_last note
    pub may_wait : after.may_wait ≡ true
    pub pays : PaysDue flow (if is_last note then before.due else before.due + 1) after asks

  -- a kept sink had a fault at a note
  pub record FaultedAt (note : Note) (before after : Kept S) : Type 0 where
    pub faulted : acts.take_faulted before.sink note after.sink
    pub rose : acts.faults after.sink ≡ raised (acts.faults before.sink)
    pub due : after.due ≡ before.due

  -- a kept sink had a fault at a flush
  pub record FaultedAtFlush (before after : Kept S) : Type 0 where
    pub faulted : acts.flush_faulted before.sink after.sink
    pub rose : acts.faults after.sink ≡ raised (acts.faults before.sink)
    pub due : after.due ≡ before.due

  -- a kept sink was flushed
  pub record IsFlushed (before after : Kept S) (asks : Asks) : Type 0 where
    pub flow : Flow
    pub did : acts.flushed before.sink flow after.sink
    pub faultless : acts.faults after.sink ≡ acts.faults before.sink
    pub over : after.over ≡ before.over
    pub may_wait : after.may_wait ≡ not (is_idle flow)
    pub pays : PaysDue flow before.due after asks

  -- a kept sink was finished, and what it left is the last that was put away
  abbrev pub Pushes : Kept S → List (PutAway Rest) → List (PutAway Rest) → Type 0
  Pushes one away away_after =
      (rest : Rest) × acts.finished one.sink rest × (away_after ≡ away ++ record { subject = one.subject; who = one.who; rest = rest } ∷ [])

  -- the sink at this place was so put away, and all is asked for that is due
  pub record PartsOne (place : ℕ) (leaves : Bool) (kept kept_after : List (Kept S)) (away away_after : List (PutAway Rest)) (asks : Asks) : Type 0 where
    pub one : Kept S
    pub stood : slice_get kept place ≡ Some one
    pub removed : kept_after ≡ remove kept place
    pub pushed : Pushes one away away_after
    pub asked : asks ≡ record { who = one.who; items = one.due; leaves = leaves }

  -- the sink at this place was put away where it is done, and else all stays
  abbrev pub MayPart : Bool → ℕ → List (Kept S) → List (Kept S) → List (PutAway Rest) → List (PutAway Rest) → Type 0
  MayPart true place kept kept_after away away_after = (asks : Asks) × PartsOne place true kept kept_after away away_after asks
  MayPart false place kept kept_after away away_after = (kept_after ≡ kept) × (away_after ≡ away)

  -- what was done last with the sink at this place came to its end: where that was a fault, or the sink is done, it was put away
  abbrev pub EndsAct : ℕ → Result Asks SinkFault → List (Kept S) → List (Kept S) → List (PutAway Rest) → List (PutAway Rest) → Asks → Type 0
  EndsAct place (Ok said) kept kept_after away away_after asks = (asks ≡ said) × MayPart said.leaves place kept kept_after away away_after
  EndsAct place (Err fault) kept kept_after away away_after asks = PartsOne place true kept kept_after away away_after asks
