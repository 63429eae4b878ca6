-- What contracts see of a hub, the histories that it stands for, and what a step does.
--
-- One step: for every history that the hub stands for, an answer other than `Memory` is the definition's answer (to an
-- emission `Ended`, else `Spent` where the limit has no room for an item, else that it was admitted), what the step gives is
-- exactly the definition's, by rising observer and in each observer's order, and the hub then stands for the history with
-- this event.
--
-- Want of memory: a step answered `Memory` changes nothing but `misses`, which rises by one, and comes only where the event
-- would have been accepted and is no dispose; no other step changes `misses`.
use Rattle.std.specs.Prelude.{◌≡◌, ◌&&◌, nat_le, ℕ, Bool, true, false, List, ◌++◌, Result, Ok, Err, IsOk, MatchBool}
use Rattle.rx_note.specs.declared.given.Given.{Given}
use Rattle.rx_note.specs.declared.rules.Rules.{Rules}
use Rattle.rx_note.specs.declared.limits.Limits.{Limits}
use Rattle.rx_note.specs.declared.event.Event.{Event}
use Rattle.rx_note.specs.declared.event.Event.TheVariants.{Emit, Join, Request, Dispose}
use Rattle.rx_note.specs.declared.answer.Answer.{Answer}
use Rattle.rx_note.specs.declared.refusal.Refusal.{Refusal}
use Rattle.rx_note.specs.declared.refusal.Refusal.TheVariants.{Ended, Full, Spent, ZeroRequest, NoObserver, TooMuch, Memory}
use Rattle.rx_history.specs.Histories.{History, ◌▹◌, Entry, joins, held, signals, answer, outs}
use Rattle.rx_subject.specs.Subjects.{SubjectState}
use Rattle.rx_subject.specs.Subjects as subjects
use Rattle.rx_hub.specs.Subscriptions.{Observer, numbers, AllStand}

-- a subject and the observers that it holds, by rising number
pub record HubState : Type 0 where
  pub rules : Rules
  pub subject : SubjectState
  pub joined : ℕ
  pub observers : List Observer

-- a hub, with the number of its Memory answers
pub record HubView : Type 0 where
  pub state : HubState
  pub misses : ℕ

-- whether limits are in range
abbrev pub are_in_range : Limits → Bool
are_in_range limits = nat_le 1 limits.observers && nat_le limits.observers 64 && nat_le 1 limits.joins && nat_le 1 limits.items

-- a hub stands for a history: its subject stands for it, it has the history's joins and held observers, and each
-- observer's queue stands for its signals
pub record StandsFor (hub : HubState) (H : History) : Type 0 where
  pub subject_stands : subjects.StandsFor hub.subject hub.rules H
  pub joins_are : hub.joined ≡ joins hub.rules H
  pub held_are : numbers hub.observers ≡ held hub.rules H
  pub lanes_stand : AllStand (signals hub.rules H) hub.observers

-- one step after H: the answer and what is given are those of the definitions, and the hub goes on
pub record Steps (old new : HubState) (before after : List Given) (result : Result Answer Refusal) (H : History) (entry : Entry) : Type 0 where
  pub answers : result ≡ answer old.rules H entry.1
  pub gives : after ≡ before ++ outs old.rules H entry
  pub goes_on : StandsFor new (H ▹ entry)

-- whether an event takes memory: a Dispose takes none
abbrev pub takes_memory : Event → Bool
takes_memory (Emit note at) = true
takes_memory (Join policy first at) = true
takes_memory (Request who n) = true
takes_memory (Dispose who) = false

-- memory may be wanting for an entry that takes memory and would have been accepted
abbrev pub MayMiss : Rules → History → Entry → Type 0
MayMiss rules H entry = (takes_memory entry.1 ≡ true) × IsOk (answer rules H entry.1)

-- no step for want of memory: the hub and what was given stay, and the event would have been accepted
pub record Misses (old new : HubState) (before after : List Given) (entry : Entry) : Type 0 where
  pub hub : new ≡ old
  pub given : after ≡ before
  pub accepted : (H : History) → StandsFor old H → MayMiss old.rules H entry

-- whether memory was wanting
abbrev pub is_miss : Result Answer Refusal → Bool
is_miss (Ok answer) = false
is_miss (Err Ended) = false
is_miss (Err Full) = false
is_miss (Err Spent) = false
is_miss (Err ZeroRequest) = false
is_miss (Err NoObserver) = false
is_miss (Err TooMuch) = false
is_miss (Err Memory) = true

-- what a call did that takes one entry
pub record Takes (old new : HubState) (before after : List Given) (result : Result Answer Refusal) (entry : Entry) : Type 0 where
  pub rules : new.rules ≡ old.rules
  pub took : MatchBool (is_miss result) (Misses old new before after entry) ((H : History) → StandsFor old H → Steps old new before after result H entry)
