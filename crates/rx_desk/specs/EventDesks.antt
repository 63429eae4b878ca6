-- A desk of those who ask for events and emit: it makes one call to the subject of a name, and tells what became of it (this project's
-- own rule).
--
-- A Join at a name that no subject of the configuration has is refused by `Subject`, where as many observers are held as there
-- may be readers by `Full`, and where there is no memory for its sink by `Memory`: no Join is made then, and the writer comes
-- back. Any other makes just one call to the first subject of its name, the Join by that policy at the moment that `now` told,
-- with that window as its first request, or one item where its reader keeps a pace, or the configured window where that is less, and an
-- event sink over the writer, which tells from where its reader begins, by a tempo with that pace. The writer is taken just where the observer joined or no sink came back; else it comes back with
-- the cause for which the subject refused the Join, or `Gone` where that had no reply. An observer is held from its Join until it
-- is disposed of.
--
-- A reader that says nothing to a Publish begins behind the last item that this had accepted: one call before the Join tells how many
-- these are, a request that is refused and changes nothing. So it is told of each item behind that, or that it missed it. Any other
-- subject gives who joins an item that came before; there a reader that says nothing misses nothing before its first.
--
-- An emission is refused by `ReadOnly` where readers alone are served, at a name that no subject has by `Subject`, and then where
-- its bytes are no text by `Long`, `Lf` or `Memory`: no call is made. Any other makes just one call to the first subject of its
-- name, the Emit of its note at the moment that `now` told, and is answered by what came of it. By a key it is so where none was accepted
-- at that subject by the same key, of the last 1,024 that were at any; else no call is made, and it is answered as that one was, and that
-- it came again. Where there is no memory to remember any it is refused by `Memory` before its bytes are looked at.
--
-- A request of items at a name that no subject has is refused by `Subject`, and for an observer of another epoch, or that doesn't ask for
-- its items itself, by `Observer`: no call is made. Any other makes just one call to the first subject of its name, the Request, and is
-- answered by what came of it. An observer asks itself whose Join said so, until it is disposed of: nobody else's credit is changed.
--
-- Who looks has each subject asked for nothing, in their order, as far as there is memory. What he is told no clause says.
--
-- A stop is refused by `NoStop` where none is granted. From one that isn't on all is not well, and each Join and each emission is refused by
-- `Stopping`: no call is made. Readers that ask for their items go on to be given them, and who looks sees what there is.
use Rattle.std.specs.Prelude.{◌≡◌, ◌+◌, ◌-◌, ◌<◌, ◌≤◌, ◌⊎◌, ◌&&◌, nat_lt, not, min, ℕ, Bool, true, false, if◌then◌else◌, List, [], ◌∷◌, ◌++◌, Option, None, Some, slice_get, MatchBool, MatchOption, Result, Ok, Err}
use Rattle.rx_events.specs.Telling.{standing_at}
use Rattle.rx_events.specs.declared.event_sink.EventSink.{EventSink}
use Rattle.rx_exchange.specs.declared.emitted.Emitted.{Emitted}
use Rattle.rx_exchange.specs.declared.joining.Joining.{Joining}
use Rattle.rx_exchange.specs.declared.joining.Joining.TheVariants.{Taken, Back}
use Rattle.rx_http.specs.declared.answer.refusal.Refusal.{Refusal}
use Rattle.rx_http.specs.declared.answer.refusal.Refusal.TheVariants as causes
use Rattle.rx_http.specs.Accounts.{last_of}
use Rattle.rx_http.specs.declared.request.begin.Begin.{Begin}
use Rattle.rx_http.specs.declared.request.begin.Begin.TheVariants.{Behind, Fresh, Restarted}
use Rattle.rx_http.specs.declared.request.credit.Credit.{Credit}
use Rattle.rx_http.specs.declared.request.observer_id.ObserverId.{ObserverId}
use Rattle.rx_proto.specs.Reading.{same_word}
use Rattle.rx_events.specs.declared.asker.Asker.{Asker}
use Rattle.rx_events.specs.declared.asker.Asker.TheVariants.{Drainer, Reader}
use Rattle.rx_http.specs.declared.request.look_form.LookForm.{LookForm}
use Rattle.rx_http.specs.declared.request.note_kind.NoteKind.{NoteKind}
use Rattle.rx_note.specs.Choices.{Choice}
use Rattle.rx_note.specs.declared.answer.Answer.{Answer}
use Rattle.rx_note.specs.declared.note.Note.{Note}
use Rattle.rx_note.specs.declared.refusal.Refusal as notes
use Rattle.rx_note.specs.declared.refusal.Refusal.TheVariants as refusals
use Rattle.rx_note.specs.declared.strategy.Strategy.{Strategy}
use Rattle.rx_note.specs.declared.strategy.Strategy.TheVariants as strategies
use Rattle.rx_pump.specs.declared.call_desk.call_error.CallError.{CallError}
use Rattle.rx_pump.specs.declared.reply.Reply.{Reply}
use Rattle.rx_desk.specs.Askers.{is_among, without}
use Rattle.rx_desk.specs.ClientSinks.{IsEvents, writer_of}
use Rattle.rx_desk.specs.EmittedNotes.{IsRefusedNote, emitted_by, note_of}
use Rattle.rx_desk.specs.KeptAnswers.{kept_for, kept_with}
use Rattle.rx_desk.specs.Responses.{has_joined, sink_back}
use Rattle.rx_desk.specs.SessionDesks.{AsksEmit, AsksItems, AsksJoin, Disposes, Looks, SessionView, is_publish, joined_by, place_of}
use Rattle.rx_desk.specs.declared.client_sink.ClientSink.{ClientSink}
use Rattle.rx_desk.specs.declared.grants.Grants.{Grants}
use Rattle.rx_desk.specs.declared.joined.Joined.{Joined}
use Rattle.rx_desk.specs.declared.kept_answer.KeptAnswer.{KeptAnswer}

-- a desk of those who ask for events and emit: the session's desk that makes its calls, the epoch of the server, what it grants, how many
-- observers are held, those of them that ask for their items themselves, what emissions by a key were answered, whether each call so far
-- had a reply, and whether it was asked to stop
pub record EventView (M S : Type 0) : Type 0 where
  pub session : SessionView M S
  pub epoch : List ℕ
  pub grants : Grants
  pub held : ℕ
  pub asking : List Joined
  pub kept : List KeptAnswer
  pub is_well : Bool
  pub stopping : Bool

-- whether all is well: each call had a reply, and it isn't asked to stop
abbrev pub is_healthy : {M S : Type 0} → EventView M S → Bool
is_healthy desk = desk.is_well && not desk.stopping

-- whether an observer may end by an overflow
abbrev pub is_bounded : Strategy → Bool
is_bounded strategies.Buffer = false
is_bounded (strategies.Drop room) = false
is_bounded (strategies.Latest room) = false
is_bounded (strategies.Bounded room) = true

-- who asks for the items of a reader
abbrev pub asker_of : Bool → Asker
asker_of false = Drainer
asker_of true = Reader false

module _ {W : Type 0} where
  -- the sink over a writer that tells the notes of an observer to a reader who begins there, by the credit that it wants, and told nothing yet
  abbrev pub event_sink : W → List ℕ → Begin → Strategy → Credit → EventSink W
  event_sink writer epoch begin strategy credit = record {
    writer = writer;
    epoch = epoch;
    begin = begin;
    standing = standing_at begin (is_bounded strategy);
    notes = 0;
    faults = 0;
    ahead = 0;
    gathers = true;
    stuck = false;
    asker = asker_of credit.asked;
    tempo = Some (nat_lt 0 credit.pace);
  }

-- how many items a reader is owed at first: one, where it keeps a pace, and the configured window at most
abbrev pub first_of : Credit → ℕ → ℕ
first_of credit window = min (if nat_lt 0 credit.pace then 1 else credit.window) window

-- why a Join is refused, by what its subject answered
abbrev pub cause_in : Result Answer notes.Refusal → Refusal
cause_in (Ok answer) = causes.Gone
cause_in (Err refusals.Ended) = causes.Gone
cause_in (Err refusals.Full) = causes.Full
cause_in (Err refusals.Spent) = causes.Spent
cause_in (Err refusals.ZeroRequest) = causes.Gone
cause_in (Err refusals.NoObserver) = causes.Gone
cause_in (Err refusals.TooMuch) = causes.Gone
cause_in (Err refusals.Memory) = causes.Memory

module _ {S : Type 0} where
  -- why a Join is refused whose call was answered so
  abbrev pub cause_of : Result (Reply S) (CallError S) → Refusal
  cause_of (Ok reply) = cause_in reply.result
  cause_of (Err error) = causes.Gone

  -- whether a call had a reply
  abbrev pub has_reply : Result (Reply S) (CallError S) → Bool
  has_reply (Ok reply) = true
  has_reply (Err error) = false

module _ {W : Type 0} where
  -- the writer of the sink that came back, with a cause; without one it is taken
  abbrev pub joining_with : Refusal → Option (ClientSink W) → Joining W
  joining_with cause None = Taken
  joining_with cause (Some sink) = Back cause (writer_of sink)

  -- what becomes of a writer by the answer to its call: it is taken by the observer that was made, else its sink came back or was lost
  abbrev pub joining_by : Result (Reply (ClientSink W)) (CallError (ClientSink W)) → Joining W
  joining_by answered = if has_joined answered then Taken else joining_with (cause_of answered) (sink_back answered)

-- why a request of items is refused, by what its subject answered
abbrev pub request_cause : notes.Refusal → Refusal
request_cause refusals.Ended = causes.Observer
request_cause refusals.Full = causes.Gone
request_cause refusals.Spent = causes.Gone
request_cause refusals.ZeroRequest = causes.Items
request_cause refusals.NoObserver = causes.Observer
request_cause refusals.TooMuch = causes.Items
request_cause refusals.Memory = causes.Memory

-- what a request is answered by that
abbrev pub requested_in : Result Answer notes.Refusal → Result (Unit {0}) Refusal
requested_in (Ok answer) = Ok tt
requested_in (Err refusal) = Err (request_cause refusal)

-- what a request of items is answered whose call was answered so
abbrev pub requested_by : {S : Type 0} → Result (Reply S) (CallError S) → Result (Unit {0}) Refusal
requested_by (Ok reply) = requested_in reply.result
requested_by (Err error) = Err causes.Gone

-- the observers that ask themselves, with the one that a call made whose Join said so
abbrev pub asking_with : List Joined → Bool → Option Joined → List Joined
asking_with asking false made = asking
asking_with asking true None = asking
asking_with asking true (Some observer) = asking ++ observer ∷ []

-- how many observers are held, with one more where a call made it
abbrev pub held_with : ℕ → Bool → ℕ
held_with held false = held
held_with held true = held + 1

module _ {M W : Type 0} where
  -- no call was made, and the writer comes back with this cause
  abbrev pub IsRefused : Refusal → EventView M (ClientSink W) → W → Joining W → EventView M (ClientSink W) → Type 0
  IsRefused cause before writer joining after = (joining ≡ Back cause writer) × (after ≡ before)

  -- an observer was disposed of, and is held no more
  pub record PartsWith (before : EventView M (ClientSink W)) (observer : Joined) (after : EventView M (ClientSink W)) : Type 0 where
    pub disposes : Disposes before.session observer after.session
    pub held : after.held ≡ before.held - 1
    pub asking : after.asking ≡ without observer before.asking
    pub kept : after.kept ≡ before.kept
    pub epoch : after.epoch ≡ before.epoch
    pub grants : after.grants ≡ before.grants
    pub stopping : after.stopping ≡ before.stopping
    pub is_well : after.is_well ≡ before.is_well

-- what an emission is answered that was made now
abbrev pub first_answer : Result (Option ℕ) Refusal → Result Emitted Refusal
first_answer (Ok place) = Ok (record { place = place; again = false })
first_answer (Err cause) = Err cause

-- the desk that remembers what an emission by this key at the subject at this place was answered, where it was accepted
abbrev pub with_kept : {M S : Type 0} → EventView M S → ℕ → List ℕ → Result (Option ℕ) Refusal → EventView M S
with_kept desk subject key (Ok place) = record desk { kept = kept_with desk.kept (record { subject = subject; key = key; place = place }) }
with_kept desk subject key (Err cause) = desk

-- where a reader begins that said nothing to a Publish, by the answer to the call before its Join
abbrev pub first_begin : {S : Type 0} → Result (Reply S) (CallError S) → Begin
first_begin (Ok reply) = Behind (last_of reply.items)
first_begin (Err error) = Fresh

module _ {M W : Type 0} where
  -- one call told where a reader begins, and did nothing else
  pub record FindsBegin (before : EventView M (ClientSink W)) (first : Begin) (after : EventView M (ClientSink W)) (subject : ℕ) : Type 0 where
    pub answered : Result (Reply (ClientSink W)) (CallError (ClientSink W))
    pub asks : AsksItems before.session subject 4294967295 0 answered after.session
    pub first_is : first ≡ first_begin answered
    pub is_well : after.is_well ≡ (before.is_well && has_reply answered)
    pub held : after.held ≡ before.held
    pub asking : after.asking ≡ before.asking
    pub kept : after.kept ≡ before.kept
    pub epoch : after.epoch ≡ before.epoch
    pub grants : after.grants ≡ before.grants
    pub stopping : after.stopping ≡ before.stopping

  -- it begins where it says, and no call was made
  abbrev pub BeginsThere : EventView M (ClientSink W) → Begin → Begin → EventView M (ClientSink W) → Type 0
  BeginsThere before begin first after = (first ≡ begin) × (after ≡ before)

  -- where a reader begins at the subject at this place, by what it says
  abbrev pub BeginsAt : EventView M (ClientSink W) → Begin → Begin → EventView M (ClientSink W) → ℕ → Type 0
  BeginsAt before Fresh first after subject =
      MatchBool (is_publish (slice_get before.session.subjects subject)) (FindsBegin before first after subject) (BeginsThere before Fresh first after)
  BeginsAt before (Behind place) first after subject = BeginsThere before (Behind place) first after
  BeginsAt before (Restarted id) first after subject = BeginsThere before (Restarted id) first after

module _ {M W : Type 0} (tells : M → ℕ → M → Type 0) where
  -- an observer was asked for at the subject at this place with this sink, and so it was answered
  pub record AsksWith (before : EventView M (ClientSink W)) (policy : Choice) (credit : Credit) (sink : ClientSink W) (joining : Joining W) (after : EventView M (ClientSink W)) (subject : ℕ) : Type 0 where
    pub answered : Result (Reply (ClientSink W)) (CallError (ClientSink W))
    pub asks : AsksJoin tells before.session subject policy (first_of credit before.session.window) sink answered after.session
    pub joining_is : joining ≡ joining_by answered
    pub held : after.held ≡ held_with before.held (has_joined answered)
    pub asking : after.asking ≡ asking_with before.asking credit.asked (joined_by subject answered)
    pub kept : after.kept ≡ before.kept
    pub is_well : after.is_well ≡ (before.is_well && has_reply answered)
    pub epoch : after.epoch ≡ before.epoch
    pub grants : after.grants ≡ before.grants
    pub stopping : after.stopping ≡ before.stopping

  -- with a sink that tells its notes as events by the writer
  abbrev pub JoinsBy : EventView M (ClientSink W) → Choice → Credit → Begin → W → Joining W → EventView M (ClientSink W) → ℕ → Type 0
  JoinsBy before policy credit begin writer joining after subject =
      (sink : ClientSink W) × IsEvents (event_sink writer before.epoch begin policy.strategy credit) sink × AsksWith before policy credit sink joining after subject

  -- from where its reader begins is found out; then it is refused where there is no memory for its sink or its place, or the subject is asked
  pub record JoinsFrom (before : EventView M (ClientSink W)) (policy : Choice) (credit : Credit) (begin : Begin) (writer : W) (joining : Joining W) (after : EventView M (ClientSink W)) (subject : ℕ) : Type 0 where
    pub mid : EventView M (ClientSink W)
    pub first : Begin
    pub begins : BeginsAt before begin first mid subject
    pub does : IsRefused causes.Memory mid writer joining after ⊎ JoinsBy mid policy credit first writer joining after subject

  -- a Join at the subject at this place: it is refused where as many observers are held as may be
  abbrev pub JoinsAt : EventView M (ClientSink W) → Choice → Credit → Begin → W → Joining W → EventView M (ClientSink W) → ℕ → Type 0
  JoinsAt before policy credit begin writer joining after subject =
      ((before.grants.readers ≤ before.held) × IsRefused causes.Full before writer joining after)
      ⊎ ((before.held < before.grants.readers) × JoinsFrom before policy credit begin writer joining after subject)

  -- a Join at the subject of a name; without such a subject no call is made, and the writer comes back
  abbrev pub JoinsNamed : EventView M (ClientSink W) → List ℕ → Choice → Credit → Begin → W → Joining W → EventView M (ClientSink W) → Type 0
  JoinsNamed before name policy credit begin writer joining after =
      MatchOption (place_of name before.session.subjects) (IsRefused causes.Subject before writer joining after)
      (JoinsAt before policy credit begin writer joining after)

  -- the same of a server that may have been asked to stop, where it is refused
  abbrev pub joins : EventView M (ClientSink W) → List ℕ → Choice → Credit → Begin → W → Joining W → EventView M (ClientSink W) → Type 0
  joins before name policy credit begin writer joining after =
      MatchBool before.stopping (IsRefused causes.Stopping before writer joining after) (JoinsNamed before name policy credit begin writer joining after)

module _ {M W : Type 0} where
  -- nothing was done but what the session's desk did
  pub record KeepsRest (before after : EventView M (ClientSink W)) : Type 0 where
    pub is_well : after.is_well ≡ before.is_well
    pub held : after.held ≡ before.held
    pub asking : after.asking ≡ before.asking
    pub kept : after.kept ≡ before.kept
    pub epoch : after.epoch ≡ before.epoch
    pub grants : after.grants ≡ before.grants
    pub stopping : after.stopping ≡ before.stopping

  -- no call was made for a request of items, which is refused for this cause
  abbrev pub IsUngranted : Refusal → EventView M (ClientSink W) → Result (Unit {0}) Refusal → EventView M (ClientSink W) → Type 0
  IsUngranted cause before asked after = (asked ≡ Err cause) × (after ≡ before)

  -- the observer of this name at the subject at this place asks for its items itself
  abbrev pub asks_itself : EventView M (ClientSink W) → ObserverId → ℕ → Bool
  asks_itself desk observer subject = same_word observer.epoch desk.epoch && is_among (record { subject = subject; who = observer.who }) desk.asking

  -- so many items were asked for, for an observer of the subject at this place, and so it was answered
  pub record AsksFor (before : EventView M (ClientSink W)) (who items : ℕ) (asked : Result (Unit {0}) Refusal) (after : EventView M (ClientSink W)) (subject : ℕ) : Type 0 where
    pub answered : Result (Reply (ClientSink W)) (CallError (ClientSink W))
    pub asks : AsksItems before.session subject who items answered after.session
    pub asked_is : asked ≡ requested_by answered
    pub is_well : after.is_well ≡ (before.is_well && has_reply answered)
    pub held : after.held ≡ before.held
    pub asking : after.asking ≡ before.asking
    pub kept : after.kept ≡ before.kept
    pub epoch : after.epoch ≡ before.epoch
    pub grants : after.grants ≡ before.grants
    pub stopping : after.stopping ≡ before.stopping

  -- a request at the subject at this place: of another observer than one that asks itself no call is made
  abbrev pub RequestsAt : EventView M (ClientSink W) → ObserverId → ℕ → Result (Unit {0}) Refusal → EventView M (ClientSink W) → ℕ → Type 0
  RequestsAt before observer items asked after subject =
      MatchBool (asks_itself before observer subject) (AsksFor before observer.who items asked after subject) (IsUngranted causes.Observer before asked after)

  -- a request at the subject of a name; without such a subject no call is made
  abbrev pub requests : EventView M (ClientSink W) → List ℕ → ObserverId → ℕ → Result (Unit {0}) Refusal → EventView M (ClientSink W) → Type 0
  requests before name observer items asked after =
      MatchOption (place_of name before.session.subjects) (IsUngranted causes.Subject before asked after) (RequestsAt before observer items asked after)

  -- so many of the first subjects were looked at, and nothing else was done
  abbrev pub LookedAt : ℕ → EventView M (ClientSink W) → EventView M (ClientSink W) → Type 0
  LookedAt count before after = Looks count before.session after.session × KeepsRest before after

  -- some were
  abbrev pub HasLooked : EventView M (ClientSink W) → EventView M (ClientSink W) → Type 0
  HasLooked before after = (count : ℕ) × LookedAt count before after

  -- the desk that was asked to stop
  abbrev pub with_stop : EventView M (ClientSink W) → EventView M (ClientSink W)
  with_stop desk = record desk { stopping = true }

  -- who has the server stop asks no subject; without leave he is refused
  abbrev pub stops : EventView M (ClientSink W) → ℕ → Result (Unit {0}) Refusal → EventView M (ClientSink W) → Type 0
  stops before within stopped after =
      MatchBool before.grants.may_stop ((stopped ≡ Ok tt) × (after ≡ with_stop before)) (IsUngranted causes.NoStop before stopped after)

  -- whatever is told to who looks
  abbrev pub shows : EventView M (ClientSink W) → LookForm → Result (List ℕ) Refusal → EventView M (ClientSink W) → Type 0
  shows before form shown after = HasLooked before after

module _ {M W : Type 0} (tells : M → ℕ → M → Type 0) where
  -- no call was made for an emission, which is refused for this cause
  abbrev pub IsUnasked : {T : Type 0} → Refusal → EventView M (ClientSink W) → Result T Refusal → EventView M (ClientSink W) → Type 0
  IsUnasked cause before emitted after = (emitted ≡ Err cause) × (after ≡ before)

  -- a note of this kind was emitted at the subject at this place, and so it was answered
  pub record EmitsNote (before : EventView M (ClientSink W)) (kind : NoteKind) (note : Note) (emitted : Result (Option ℕ) Refusal) (after : EventView M (ClientSink W)) (subject : ℕ) : Type 0 where
    pub answered : Result (Reply (ClientSink W)) (CallError (ClientSink W))
    pub asks : AsksEmit tells before.session subject note answered after.session
    pub emitted_is : emitted ≡ emitted_by kind answered
    pub is_well : after.is_well ≡ (before.is_well && has_reply answered)
    pub held : after.held ≡ before.held
    pub asking : after.asking ≡ before.asking
    pub kept : after.kept ≡ before.kept
    pub epoch : after.epoch ≡ before.epoch
    pub grants : after.grants ≡ before.grants
    pub stopping : after.stopping ≡ before.stopping

  -- an emission at the subject at this place: its bytes are no text, or its note is emitted
  abbrev pub EmitsAt : EventView M (ClientSink W) → NoteKind → List ℕ → Result (Option ℕ) Refusal → EventView M (ClientSink W) → ℕ → Type 0
  EmitsAt before kind text emitted after subject =
      ((cause : Refusal) × IsRefusedNote kind text cause × IsUnasked cause before emitted after)
      ⊎ EmitsNote before kind (note_of kind text) emitted after subject

  -- an emission by a key that is not remembered: where it is accepted, the key is from then on
  pub record EmitsFirst (before : EventView M (ClientSink W)) (kind : NoteKind) (text key : List ℕ) (emitted : Result Emitted Refusal) (after : EventView M (ClientSink W)) (subject : ℕ) : Type 0 where
    pub mid : EventView M (ClientSink W)
    pub did : Result (Option ℕ) Refusal
    pub emits : EmitsAt before kind text did mid subject
    pub after_is : after ≡ with_kept mid subject key did
    pub emitted_is : emitted ≡ first_answer did

  -- an emission by a key: where one was accepted by it, that is told again, and no call is made
  abbrev pub EmitsOnce : EventView M (ClientSink W) → NoteKind → List ℕ → List ℕ → Result Emitted Refusal → EventView M (ClientSink W) → ℕ → Type 0
  EmitsOnce before kind text key emitted after subject =
      MatchOption (kept_for subject key before.kept) (IsUnasked causes.Memory before emitted after ⊎ EmitsFirst before kind text key emitted after subject)
      (λ place. (emitted ≡ Ok (record { place = place; again = true })) × (after ≡ before))

  -- an emission, by a key or none
  abbrev pub EmitsText : EventView M (ClientSink W) → NoteKind → List ℕ → Option (List ℕ) → Result Emitted Refusal → EventView M (ClientSink W) → ℕ → Type 0
  EmitsText before kind text None emitted after subject = (did : Result (Option ℕ) Refusal) × EmitsAt before kind text did after subject × (emitted ≡ first_answer did)
  EmitsText before kind text (Some key) emitted after subject = EmitsOnce before kind text key emitted after subject

  -- an emission at the subject of a name; without such a subject, or where readers alone are served, no call is made
  abbrev pub EmitsNamed : EventView M (ClientSink W) → List ℕ → NoteKind → List ℕ → Option (List ℕ) → Result Emitted Refusal → EventView M (ClientSink W) → Type 0
  EmitsNamed before name kind text key emitted after =
      ((before.grants.may_emit ≡ false) × IsUnasked causes.ReadOnly before emitted after)
      ⊎ ((before.grants.may_emit ≡ true)
      × MatchOption (place_of name before.session.subjects) (IsUnasked causes.Subject before emitted after) (EmitsText before kind text key emitted after))

  -- the same of a server that may have been asked to stop, where it is refused
  abbrev pub emits : EventView M (ClientSink W) → List ℕ → NoteKind → List ℕ → Option (List ℕ) → Result Emitted Refusal → EventView M (ClientSink W) → Type 0
  emits before name kind text key emitted after =
      MatchBool before.stopping (IsUnasked causes.Stopping before emitted after) (EmitsNamed before name kind text key emitted after)
