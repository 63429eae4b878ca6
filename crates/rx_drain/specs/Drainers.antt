-- A drainer, and what it has done with the letters that it received (this project's own rule).
--
-- The drainer's calls: After each turn, which may have received none where something may have waited in a sink before it, and
-- else received one at least, there are marks for the letters received such that what each subject's port put stands for just
-- the calls that they owe it, and a Bye once the leave port's came; the sinks kept and put away are those of the attachments
-- that they make; so many sinks found no memory as `misses` counts, and so many notes were taken as `taken` counts. `serve`
-- ends with the Bye of each port of its box, and no sink kept, and takes no letter where each had come before. After a fault
-- the drainer does nothing more.
--
-- A drainer's fault: `InboxGone`: the turn received nothing, and all was sent; where a drainer serves that had no fault, a
-- Bye had not come. `SubjectGone`: of the calls that are owed, in their order, all were sent that come before one for the
-- subject that is named, and nothing from there on; or all were sent, the ports before the one that is named have ended, and
-- no other (`SentUpTo`)
use Rattle.std.specs.Prelude.{◌≡◌, ◌+◌, ◌<◌, ◌≤◌, ◌⊎◌, ℕ, Bool, true, false, List, [], ◌∷◌, ◌++◌, length, Option, Some, None, slice_get, vec_len, vec_capacity}
use Rattle.std.specs.List.{list_any}
use Rattle.rx_mailbox.specs.declared.letter.Letter.{Letter}
use Rattle.rx_mailbox.specs.declared.letter.Post.TheVariants.{Bye}
use Rattle.rx_mailbox.specs.Boxes.{Outgoing, Incoming, with_letters}
use Rattle.rx_mailbox.specs.Letters.{letter}
use Rattle.rx_note.specs.declared.event.Event.{Event}
use Rattle.rx_pump.specs.declared.call.Call.{Call}
use Rattle.rx_pump.specs.declared.out.Out.{Out}
use Rattle.rx_pump.specs.Opened.{all_opened, opened_ports}
use Rattle.rx_pump.specs.Pumps.{AreSame, counted}
use Rattle.rx_sink.specs.declared.kept.Kept.{Kept}
use Rattle.rx_sink.specs.declared.put_away.PutAway.{PutAway}
use Rattle.rx_sink.specs.Acts.{Acts}
use Rattle.rx_sink.specs.Attachments.{Mark}
use Rattle.rx_sink.specs.KeptSinks.{Stand, addressed}
use Rattle.rx_sink.specs.Rests.{HasRoomFor}
use Rattle.rx_drain.specs.declared.drainer.drain_fault.DrainFault.{DrainFault}
use Rattle.rx_drain.specs.declared.drainer.drain_fault.DrainFault.TheVariants.{InboxGone, SubjectGone}
use Rattle.rx_drain.specs.declared.drainer.drainer_left.DrainerLeft.{DrainerLeft}
use Rattle.rx_drain.specs.Credit.{AreAllPaid}
use Rattle.rx_drain.specs.Calls.{calls_to}
use Rattle.rx_drain.specs.Logs.{Log, Next, Flush, letters, has_left, kept_in, gone_in, sent_in, missed_in, taken_in, put_by}

-- a drainer: its inbox, its ports to subjects in their order, ended or not, with each letter that they put as those for which it
-- stands, the sinks that it keeps, what those left that it
-- put away, and whether it keeps that, how many sinks found no memory, how many notes they took, whether it was told to leave,
-- and the fault that it stopped at
pub record DrainerView (S Rest : Type 0) : Type 0 where
  pub inbox : Incoming (Out S)
  pub ports : List (Outgoing (Call S))
  pub kept : List (Kept S)
  pub away : List (PutAway Rest)
  pub keeps : Bool
  pub misses : ℕ
  pub taken : ℕ
  pub left : Bool
  pub fault : Option DrainFault

-- there is no fault, or that of a subject
abbrev pub IsOfSubject : Option DrainFault → Type 0
IsOfSubject None = Unit {0}
IsOfSubject (Some InboxGone) = ⊥
IsOfSubject (Some (SubjectGone place)) = Unit {0}

module _ {S Rest : Type 0} where
  -- the drainer with these parts
  abbrev pub view_of : DrainerLeft S Rest → Bool → Option DrainFault → DrainerView S Rest
  view_of hands left fault = record {
    inbox = hands.parts.inbox;
    ports = opened_ports hands.ended.items ++ all_opened hands.parts.subjects.items;
    kept = hands.kept.items;
    away = hands.put_away.items;
    keeps = hands.put_away.keeps;
    misses = hands.places.misses;
    taken = hands.taken;
    left = left;
    fault = fault;
  }

  -- there is room for each sink that is put away and each port that ends; no port ends before the drainer is told to leave,
  -- and then all do, unless a subject is gone
  pub record Fits (leave : ℕ) (left : Bool) (fault : Option DrainFault) (hands : DrainerLeft S Rest) : Type 0 where
    pub leave_is : leave ≡ vec_len hands.ended + vec_len hands.parts.subjects
    pub away_room : HasRoomFor (vec_len hands.kept) hands.put_away
    pub ended_room : vec_len hands.ended + vec_len hands.parts.subjects ≤ vec_capacity hands.ended
    pub open_ports : left ≡ false → hands.ended.items ≡ []
    pub ended_ports : left ≡ true → fault ≡ None → hands.parts.subjects.items ≡ []

module _ {S : Type 0} where
  -- the own list of the port at each place is its calls, and once the drainer left a Bye
  abbrev pub HaveSent : Bool → (ℕ → List (Call S)) → List (Outgoing (Call S)) → Type 0
  HaveSent left calls ports =
      (d : ℕ) (port : Outgoing (Call S)) → slice_get ports d ≡ Some port → port.own ≡ put_by left port.number (calls d)

  -- the subject at this place is gone: of the events those were sent that come before one for it, and nothing from there on
  pub record StoppedAtEvent (place : ℕ) (events : List (ℕ × Event)) (ports : List (Outgoing (Call S))) : Type 0 where
    pub named : place < length ports
    pub done : List (ℕ × Event)
    pub next : Event
    pub rest : List (ℕ × Event)
    pub parts : done ++ (place, next) ∷ rest ≡ events
    pub sent : HaveSent false (λ d. calls_to d done) ports

  -- the subject at this place is gone: all events were sent, and of the ports those before it have ended
  pub record StoppedAtBye (place : ℕ) (left : Bool) (events : List (ℕ × Event)) (ports : List (Outgoing (Call S))) : Type 0 where
    pub named : place < length ports
    pub is_left : left ≡ true
    pub ended : (d : ℕ) (port : Outgoing (Call S)) → d < place → slice_get ports d ≡ Some port → port.own ≡ put_by true port.number (calls_to d events)
    pub others : (d : ℕ) (port : Outgoing (Call S)) → place ≤ d → slice_get ports d ≡ Some port → port.own ≡ put_by false port.number (calls_to d events)

  -- the events were sent, each to its subject, and once the drainer left all ports have ended; or at the fault of a subject what
  -- comes before that
  abbrev pub SentUpTo : Option DrainFault → Bool → List (ℕ × Event) → List (Outgoing (Call S)) → Type 0
  SentUpTo None left events ports = HaveSent left (λ d. calls_to d events) ports
  SentUpTo (Some InboxGone) left events ports = HaveSent left (λ d. calls_to d events) ports
  SentUpTo (Some (SubjectGone place)) left events ports = StoppedAtEvent place events ports ⊎ StoppedAtBye place left events ports

  -- some letters more were received, or none
  abbrev pub TakesMore : Incoming (Out S) → Incoming (Out S) → Type 0
  TakesMore before after = (xs : List (Letter (Out S))) × (after ≡ with_letters before xs)

  -- a letter more was received, or several
  abbrev pub TakesSome : Incoming (Out S) → Incoming (Out S) → Type 0
  TakesSome before after = (x : Letter (Out S)) × (xs : List (Letter (Out S))) × (after ≡ with_letters before (x ∷ xs))

  -- something may wait in one of the sinks
  abbrev pub any_may_wait : List (Kept S) → Bool
  any_may_wait kept = list_any (λ one. one.may_wait) kept

module _ {S Rest : Type 0} (acts : Acts S Rest) where
  -- the sinks and the ports of a drainer are what marked letters mean, where this is the number of the leave port
  pub record StandsForLog (leave : ℕ) (log : Log S) (view : DrainerView S Rest) : Type 0 where
    pub left : view.left ≡ has_left leave log
    pub sent : SentUpTo view.fault view.left (addressed (sent_in leave log)) view.ports
    pub sinks : Stand acts (kept_in leave log) (gone_in leave log) view.kept view.away
    pub missed : view.misses ≡ counted (missed_in leave log)
    pub took : view.taken ≡ counted (taken_in leave log)

  -- what a drainer did with the letters that it received is what the marked letters mean
  pub record Drains (view : DrainerView S Rest) (log : Log S) : Type 0 where
    pub received : view.inbox.received ≡ letters log
    pub stands : StandsForLog (length view.ports) log view

  -- there are such marks, and without a fault only stuck sinks are left unpaid
  abbrev pub IsDrained : DrainerView S Rest → Type 0
  IsDrained view = (log : Log S) × Drains view log × (view.fault ≡ None → AreAllPaid (length view.ports) log)

  -- ONE LETTER

  -- a sink, if there is one, was finished, and this is what it left
  abbrev pub Finishes : Option S → Option Rest → Type 0
  Finishes None None = Unit {0}
  Finishes None (Some rest) = ⊥
  Finishes (Some sink) None = ⊥
  Finishes (Some sink) (Some rest) = acts.finished sink rest

  -- a letter was handled: with a mark it is the next, after some flushes, of all for which the drainer stood
  abbrev pub HandlesLetter : Letter (Out S) → DrainerView S Rest → DrainerView S Rest → Type 0
  HandlesLetter x before after =
      IsOfSubject after.fault
      × ((log : Log S) → StandsForLog (length before.ports) log before
      → (more : Log S) × (letters more ≡ letters log) × (mark : Mark) × StandsForLog (length before.ports) (Next more x mark) after)

  -- it was handled behind no flush
  abbrev pub HandlesNext : Letter (Out S) → DrainerView S Rest → DrainerView S Rest → Type 0
  HandlesNext x before after =
      IsOfSubject after.fault
      × ((log : Log S) → StandsForLog (length before.ports) log before → (mark : Mark) × StandsForLog (length before.ports) (Next log x mark) after)

  -- the Bye of the leave port was heard behind a flush of each sink, by which all was paid that is due of those that are not stuck
  abbrev pub HearsBye : ℕ → DrainerView S Rest → DrainerView S Rest → Type 0
  HearsBye leave before after =
      (log : Log S) → StandsForLog (length before.ports) log before
      → (more : Log S) × (letters more ≡ letters log) × AreAllPaid (length before.ports) more
      × (mark : Mark) × StandsForLog (length before.ports) (Next more (letter leave Bye) mark) after

  -- the drainer went on: from each list of marked letters whose meaning it did it came to another
  abbrev pub HasGoneOn : DrainerView S Rest → DrainerView S Rest → Type 0
  HasGoneOn before after = (log : Log S) → Drains before log → (more : Log S) × Drains after more

  -- and without a fault only stuck sinks are left unpaid
  abbrev pub Pays : DrainerView S Rest → DrainerView S Rest → Type 0
  Pays before after = (log : Log S) → Drains before log → (more : Log S) × Drains after more × (after.fault ≡ None → AreAllPaid (length after.ports) more)

  -- the sink at this place of those that are kept was flushed: with a mark that comes next of all for which the drainer stood
  pub record FlushesAt (place : ℕ) (before after : DrainerView S Rest) : Type 0 where
    pub one : Kept S
    pub stood : slice_get before.kept place ≡ Some one
    pub fault : IsOfSubject after.fault
    pub stands : (log : Log S) → StandsForLog (length before.ports) log before → (mark : Mark) × StandsForLog (length before.ports) (Flush log one.subject one.who mark) after

  -- sinks were flushed: with some flushes more it stands for the same letters, and unless a subject is gone only stuck sinks
  -- are left unpaid
  pub record FlushesAll (before after : DrainerView S Rest) : Type 0 where
    pub fault : IsOfSubject after.fault
    pub stands : (log : Log S) → StandsForLog (length before.ports) log before
        → (more : Log S) × (letters more ≡ letters log) × StandsForLog (length before.ports) more after × (after.fault ≡ None → AreAllPaid (length before.ports) more)

-- A NEW DRAINER

module _ {S Rest : Type 0} where
  -- the drainer of these parts, before its first turn, which keeps what its sinks leave or not
  abbrev pub fresh_drainer : Bool → Incoming (Out S) → List (Outgoing (Call S)) → DrainerView S Rest
  fresh_drainer keeps inbox ports = record { inbox = inbox; ports = ports; kept = []; away = []; keeps = keeps; misses = 0; taken = 0; left = false; fault = None }

  -- the same drainer, which keeps nothing of what its sinks leave
  abbrev pub forgetful : DrainerView S Rest → DrainerView S Rest
  forgetful view = record view { keeps = false }

  -- what no turn changes: which boxes the inbox and the ports belong to, and whether it keeps what its sinks leave
  pub record KeepsDrainer (before after : DrainerView S Rest) : Type 0 where
    pub box : after.inbox.box ≡ before.inbox.box
    pub count : after.inbox.ports ≡ before.inbox.ports
    pub ports : AreSame before.ports after.ports
    pub keeps : after.keeps ≡ before.keeps
