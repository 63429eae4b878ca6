-- The observers that a hub holds, and the signals that their queues stand for.
use Rattle.std.specs.Prelude.{◌≡◌, ◌<◌, ℕ, max, List, [], ◌∷◌, ◌++◌, map, length, get_or, set, Option, Some}
use Rattle.rx_note.specs.declared.given.Given.{Given}
use Rattle.rx_note.specs.declared.note.Note.{Note}
use Rattle.rx_note.specs.declared.rules.Rules.{Rules}
use Rattle.rx_note.specs.Signals.{Signal, Requested, Offered, Signals, Start, ◌▸◌, given}
use Rattle.rx_note.specs.Choices.{Choice}
use Rattle.rx_history.specs.Histories.{History, stamp, end_of, opening_by, ended_by, followed_by, addressed}
use Rattle.rx_lane.specs.declared.joiner.Joiner.{Joiner}
use Rattle.rx_lane.specs.Lanes.{LaneState, StandsFor}
use Rattle.rx_subject.specs.Subjects.{SubjectState}
use Rattle.rx_subject.specs.Subjects as subjects

-- an observer that is held: its number, and what waits in its queue
pub record Observer : Type 0 where
  pub who : ℕ
  pub lane : LaneState

-- the numbers of several observers
abbrev pub numbers : List Observer → List ℕ
numbers observers = map (λ observer. observer.who) observers

-- the observer of this number is at this place
pub record IsAt (observers : List Observer) (place who : ℕ) : Type 0 where
  pub within : place < length observers
  pub number : (default : Observer) → (get_or observers place default).who ≡ who

-- the queue stands for the signals that there are
pub record StandsAt (lane : LaneState) (signals : Option Signals) : Type 0 where
  pub these : Signals
  pub are : signals ≡ Some these
  pub stand : StandsFor lane these

-- each observer's queue stands for the signals that the table has of its number
abbrev pub AllStand : (ℕ → Option Signals) → List Observer → Type 0
AllStand table [] = Unit {0}
AllStand table (observer ∷ observers) = StandsAt observer.lane (table observer.who) × AllStand table observers

-- by these signals of the subject exactly these notes are given from the queue
pub record Serves (old new : LaneState) (signals : List Signal) (notes : List Note) : Type 0 where
  pub gives : (s : Signals) → StandsFor old s → given (followed_by s signals) ≡ given s ++ notes
  pub goes_on : (s : Signals) → StandsFor old s → StandsFor new (followed_by s signals)

-- by these signals exactly these notes are given to the observer
pub record Feeds (old new : Observer) (signals : List Signal) (notes : List Note) : Type 0 where
  pub number : new.who ≡ old.who
  pub serves : Serves old.lane new.lane signals notes

-- the same, where the notes were put at the end of a list, addressed to the observer
abbrev pub FeedsInto : Observer → Observer → List Signal → List Given → List Given → Type 0
FeedsInto old new signals before after = (notes : List Note) × (after ≡ before ++ addressed old.who notes) × Feeds old new signals notes

-- by a request for n items more exactly these notes are given to the observer
pub record Asks (old new : Observer) (n : ℕ) (notes : List Note) : Type 0 where
  pub number : new.who ≡ old.who
  pub gives : (s : Signals) → StandsFor old.lane s → given (s ▸ Requested n) ≡ given s ++ notes
  pub goes_on : (s : Signals) → StandsFor old.lane s → StandsFor new.lane (s ▸ Requested n)

-- the same, where the notes were put at the end of a list, addressed to the observer
abbrev pub AsksInto : Observer → Observer → ℕ → List Given → List Given → Type 0
AsksInto old new n before after = (notes : List Note) × (after ≡ before ++ addressed old.who notes) × Asks old new n notes

-- the same of the observer at a place of several
pub record AsksAt (olds news : List Observer) (place : ℕ) (default : Observer) (n : ℕ) (before after : List Given) : Type 0 where
  pub observer : Observer
  pub news_are : news ≡ set olds place observer
  pub asks : AsksInto (get_or olds place default) observer n before after

-- the queue of an observer that joins with this policy and request and is then offered these signals, and what it gives at once
pub record Begins (lane : LaneState) (policy : Choice) (first : ℕ) (signals : List Signal) (notes : List Note) : Type 0 where
  pub gives : given (followed_by (Start policy ▸ Requested first) signals) ≡ notes
  pub stands : StandsFor lane (followed_by (Start policy ▸ Requested first) signals)

-- the same of a joiner, where the notes were put at the end of a list, addressed to it
abbrev pub BeginsInto : LaneState → Joiner → List Signal → List Given → List Given → Type 0
BeginsInto lane joiner signals before after =
    (notes : List Note) × (after ≡ before ++ addressed joiner.who notes) × Begins lane joiner.policy joiner.first signals notes

-- the signals are those that a joiner begins with, for every history that the subject stands for
abbrev pub OpensBy : SubjectState → ℕ → List Signal → Type 0
OpensBy subject at signals =
    (rules : Rules) (H : History) → subjects.StandsFor subject rules H
    → signals ≡ map Offered (opening_by rules.kind rules H (max (stamp rules H) at)) ++ ended_by (end_of H)

-- an observer joined that begins so, and what it gives at once was put at the end of a list
pub record JoinsInto (olds news : List Observer) (joiner : Joiner) (subject : SubjectState) (at : ℕ) (before after : List Given) : Type 0 where
  pub lane : LaneState
  pub signals : List Signal
  pub news_are : news ≡ olds ++ record { who = joiner.who; lane = lane } ∷ []
  pub opens : OpensBy subject at signals
  pub begins : BeginsInto lane joiner signals before after

-- each observer was fed these signals, and these are the notes given, by rising place
abbrev pub AllFed : List Signal → List Observer → List Observer → List Given → Type 0
AllFed signals [] [] outs = outs ≡ []
AllFed signals [] (new ∷ news) outs = ⊥
AllFed signals (old ∷ olds) [] outs = ⊥
AllFed signals (old ∷ olds) (new ∷ news) outs =
    (notes : List Note) × (others : List Given) × (outs ≡ addressed old.who notes ++ others) × Feeds old new signals notes × AllFed signals olds news others

-- the same, where the notes were put at the end of a list
abbrev pub AllFedInto : List Signal → List Observer → List Observer → List Given → List Given → Type 0
AllFedInto signals olds news before after = (outs : List Given) × (after ≡ before ++ outs) × AllFed signals olds news outs
