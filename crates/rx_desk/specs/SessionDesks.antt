-- What a session's desk does: it makes one call to the subject of a name, and answers by what came of it (this project's
-- own rule).
--
-- The session's desk: A command that names no subject of the configuration is answered `SUBJECT`, and no call is made; nor is
-- there memory for its text. Any other makes just one call to the first subject of its name, with the moment that `now` told:
-- the Emit of the note, or the Join by that policy, with the configured window as its first request and a line sink over the
-- writer, in the version that `follow` was given. It is answered by what the call was, `GONE` where it had no reply. `follow`
-- answers `Taken` just where the observer joined or no sink came back; else the writer comes back with the answer. What was
-- begun is the same: each note a moment and a call of its own, in their order, and each `answer` that of the oldest; so a
-- session is as if each line had been carried out before the next. Of a desk that makes no call any more each emission is
-- answered `GONE`, and `emit` and `dispose` put nothing; what was begun with an earlier one may have been put before that.
use Rattle.std.specs.Prelude.{◌≡◌, ◌⊎◌, ◌<◌, ◌≤◌, ℕ, zero, suc, Bool, true, false, List, [], length, Option, None, Some, MatchOption, Result, Ok, Err, position, if◌then◌else◌}
use Rattle.rx_note.specs.Choices.{Choice}
use Rattle.rx_note.specs.declared.answer.Answer.{Answer}
use Rattle.rx_note.specs.declared.answer.Answer.TheVariants as answers
use Rattle.rx_note.specs.declared.event.Event.{Event}
use Rattle.rx_note.specs.declared.event.Event.TheVariants.{Emit, Join, Request, Dispose}
use Rattle.rx_note.specs.declared.kind.Kind.{Kind}
use Rattle.rx_note.specs.declared.kind.Kind.TheVariants as kinds
use Rattle.rx_note.specs.declared.note.Note.{Note}
use Rattle.rx_note.specs.declared.refusal.Refusal.{Refusal}
use Rattle.rx_proto.specs.Reading.{same_word}
use Rattle.rx_proto.specs.declared.response.Response.{Response}
use Rattle.rx_proto.specs.declared.response.Response.TheVariants.{Refused}
use Rattle.rx_proto.specs.declared.version.Version.{Version}
use Rattle.rx_proto.specs.declared.word.Word.TheVariants as words
use Rattle.rx_pump.specs.Desks.{DeskView, Called, IsOver, KeepsDesk}
use Rattle.rx_pump.specs.declared.call_desk.call_error.CallError.{CallError}
use Rattle.rx_pump.specs.declared.call_desk.call_error.CallError.TheVariants.{SubjectGone}
use Rattle.rx_pump.specs.declared.reply.Reply.{Reply}
use Rattle.rx_session.specs.declared.follow.Follow.{Follow}
use Rattle.rx_session.specs.declared.follow.Follow.TheVariants.{Taken, Back}
use Rattle.rx_sink.specs.declared.line_sink.LineSink.{LineSink}
use Rattle.rx_desk.specs.ClientSinks.{writer_of}
use Rattle.rx_desk.specs.declared.begun_call.BegunCall.{BegunCall}
use Rattle.rx_desk.specs.declared.client_sink.ClientSink.{ClientSink}
use Rattle.rx_desk.specs.declared.client_sink.ClientSink.TheVariants.{Lines}
use Rattle.rx_desk.specs.Responses.{response_of, has_joined, sink_back}
use Rattle.rx_desk.specs.declared.joined.Joined.{Joined}
use Rattle.rx_config.specs.declared.subject_config.SubjectConfig.{SubjectConfig}

-- the notes that a session's desk began to emit: the places of the subjects to which their calls were posted that have no answer yet,
-- and the calls that wait
pub record Queue : Type 0 where
  pub posted : List ℕ
  pub waiting : List BegunCall

-- the queue of a desk that has begun no note
abbrev pub no_queue : Queue
no_queue = record { posted = []; waiting = [] }

-- a session's desk: the subjects, by whose names it finds them, the first request of an observer, where its moments come
-- from, the desk that makes its calls, whom its last Join made, and what it began to emit
pub record SessionView (M S : Type 0) : Type 0 where
  pub subjects : List SubjectConfig
  pub window : ℕ
  pub moments : M
  pub calls : DeskView S
  pub joined : Option Joined
  pub queue : Queue

-- the place of the first subject of a name
abbrev pub place_of : List ℕ → List SubjectConfig → Option ℕ
place_of name subjects = position (λ subject. same_word subject.name name) subjects

-- whether a kind is Publish
abbrev pub is_publish_kind : Kind → Bool
is_publish_kind kinds.Publish = true
is_publish_kind (kinds.Behavior seed) = false
is_publish_kind kinds.Async = false
is_publish_kind (kinds.Replay count age) = false

-- whether a subject is a Publish: it gives nothing that came before who joins
abbrev pub is_publish : Option SubjectConfig → Bool
is_publish None = false
is_publish (Some subject) = is_publish_kind subject.rules.kind

-- what no call of a session's desk changes: the subjects, the window, and to which boxes it belongs
pub record KeepsSession {M S : Type 0} (before after : SessionView M S) : Type 0 where
  pub subjects : after.subjects ≡ before.subjects
  pub window : after.window ≡ before.window
  pub calls : KeepsDesk before.calls after.calls

module _ {W : Type 0} where
  -- the sink over a writer that writes its notes in a version, and wrote nothing yet
  abbrev pub line_sink : Version → W → LineSink W
  line_sink version writer = record { writer = writer; version = version; notes = 0; faults = 0; gathers = true; ahead = 0; stuck = false; far = false }

  -- the writer of the sink that came back, with a response; without one it is taken
  abbrev pub back_with : Response → Option (ClientSink W) → Follow W
  back_with response None = Taken
  back_with response (Some sink) = Back response (writer_of sink)

  -- what becomes of a writer by the answer to its call: it is taken by the observer that was made, else its sink came back or
  -- was lost
  abbrev pub followed : Result (Reply (ClientSink W)) (CallError (ClientSink W)) → Follow W
  followed answered = if has_joined answered then Taken else back_with (response_of answered) (sink_back answered)

-- whom an answer of the subject at this place made
abbrev pub joined_in : ℕ → Result Answer Refusal → Option Joined
joined_in subject (Ok answers.Admitted) = None
joined_in subject (Ok (answers.Joined who)) = Some (record { subject = subject; who = who })
joined_in subject (Ok answers.Asked) = None
joined_in subject (Ok answers.Left) = None
joined_in subject (Err refusal) = None

-- whom a call to the subject at this place made
abbrev pub joined_by : {S : Type 0} → ℕ → Result (Reply S) (CallError S) → Option Joined
joined_by subject (Ok reply) = joined_in subject reply.result
joined_by subject (Err error) = None

-- the desk has a subject of this name
abbrev pub has_subject : {M S : Type 0} → SessionView M S → List ℕ → Type 0
has_subject desk name = (place : ℕ) × (place_of name desk.subjects ≡ Some place)

module _ {M W : Type 0} (tells : M → ℕ → M → Type 0) where
  -- a moment was told, and one call made to a subject with the event at that moment; the rest is as it was
  pub record CallsOnce (before after : SessionView M (ClientSink W)) (subject : ℕ) (event : ℕ → Event) (sink : Option (ClientSink W)) (answered : Result (Reply (ClientSink W)) (CallError (ClientSink W))) : Type 0 where
    pub at : ℕ
    pub told : tells before.moments at after.moments
    pub called : Called before.calls after.calls subject (event at) sink answered
    pub over : IsOver before.calls → answered ≡ Err (SubjectGone sink)
    pub kept : KeepsSession before after

  -- a note was emitted at the subject at this place, and so it was answered. (Of a desk that makes no call any more the call may have been
  -- put together with an earlier one, before that.)
  pub record AsksEmit (before : SessionView M (ClientSink W)) (subject : ℕ) (note : Note) (answered : Result (Reply (ClientSink W)) (CallError (ClientSink W))) (after : SessionView M (ClientSink W)) : Type 0 where
    pub once : CallsOnce before after subject (λ at. Emit note at) None answered
    pub over : IsOver before.calls → after.calls ≡ before.calls
    pub joined : after.joined ≡ before.joined
    pub queue : after.queue ≡ before.queue

  -- a note was emitted at the subject at this place, and the response is that of the answer
  abbrev pub EmitsAt : SessionView M (ClientSink W) → Note → Response → SessionView M (ClientSink W) → ℕ → Type 0
  EmitsAt before note response after subject =
      (answered : Result (Reply (ClientSink W)) (CallError (ClientSink W))) × CallsOnce before after subject (λ at. Emit note at) None answered
      × (response ≡ response_of answered) × (after.joined ≡ before.joined) × (after.queue ≡ before.queue)

  -- an Emit at the subject of a name; without such a subject no call is made
  abbrev pub emits : SessionView M (ClientSink W) → List ℕ → Note → Response → SessionView M (ClientSink W) → Type 0
  emits before name note response after =
      MatchOption (place_of name before.subjects) ((response ≡ Refused words.Subject) × (after ≡ before)) (EmitsAt before note response after)

  -- an observer was asked for at the subject at this place, by one call with so many items as its first request and with this sink
  pub record AsksJoin (before : SessionView M (ClientSink W)) (subject : ℕ) (policy : Choice) (first : ℕ) (sink : ClientSink W) (answered : Result (Reply (ClientSink W)) (CallError (ClientSink W))) (after : SessionView M (ClientSink W)) : Type 0 where
    pub once : CallsOnce before after subject (λ at. Join policy first at) (Some sink) answered
    pub over : IsOver before.calls → after.calls ≡ before.calls
    pub queue : after.queue ≡ before.queue
    pub joined : after.joined ≡ joined_by subject answered

  -- an observer joined at the subject at this place, with the window as its first request and a sink of the version over the
  -- writer
  abbrev pub FollowsAt : SessionView M (ClientSink W) → Choice → Version → W → Follow W → SessionView M (ClientSink W) → ℕ → Type 0
  FollowsAt before policy version writer result after subject =
      (answered : Result (Reply (ClientSink W)) (CallError (ClientSink W)))
      × CallsOnce before after subject (λ at. Join policy before.window at) (Some (Lines (line_sink version writer))) answered × (result ≡ followed answered)
      × (IsOver before.calls → after.calls ≡ before.calls) × (after.queue ≡ before.queue)
      × (after.joined ≡ joined_by subject answered)

  -- a Join at the subject of a name; without such a subject no call is made, and the writer comes back
  abbrev pub follows : SessionView M (ClientSink W) → List ℕ → Choice → Version → W → Follow W → SessionView M (ClientSink W) → Type 0
  follows before name policy version writer result after =
      MatchOption (place_of name before.subjects) ((result ≡ Back (Refused words.Subject) writer) × (after ≡ before))
      (FollowsAt before policy version writer result after)

module _ {M W : Type 0} where
  -- the subject at this place was asked for nothing, so that it was looked at
  pub record AsksNothing (before : SessionView M (ClientSink W)) (subject : ℕ) (after : SessionView M (ClientSink W)) : Type 0 where
    pub answered : Result (Reply (ClientSink W)) (CallError (ClientSink W))
    pub called : Called before.calls after.calls subject (Request 4294967295 0) None answered
    pub kept : KeepsSession before after
    pub joined : after.joined ≡ before.joined
    pub queue : after.queue ≡ before.queue

  -- so many items more were asked for, for an observer of the subject at this place, and so it was answered
  pub record AsksItems (before : SessionView M (ClientSink W)) (subject who items : ℕ) (answered : Result (Reply (ClientSink W)) (CallError (ClientSink W))) (after : SessionView M (ClientSink W)) : Type 0 where
    pub called : Called before.calls after.calls subject (Request who items) None answered
    pub over : IsOver before.calls → after.calls ≡ before.calls
    pub kept : KeepsSession before after
    pub joined : after.joined ≡ before.joined
    pub queue : after.queue ≡ before.queue

  -- a subject was looked at, or there was no memory for that, and no call was made
  abbrev pub LooksAt : SessionView M (ClientSink W) → ℕ → SessionView M (ClientSink W) → Type 0
  LooksAt before subject after = (after ≡ before) ⊎ AsksNothing before subject after

  -- so many subjects were looked at, in their order
  abbrev pub Looks : ℕ → SessionView M (ClientSink W) → SessionView M (ClientSink W) → Type 0
  Looks zero before after = after ≡ before
  Looks (suc count) before after = (mid : SessionView M (ClientSink W)) × Looks count before mid × LooksAt mid count after

  -- the observer was disposed of, by a call to its subject; without such a subject no call is made, nor by a desk that makes none any
  -- more
  pub record Disposes (before : SessionView M (ClientSink W)) (observer : Joined) (after : SessionView M (ClientSink W)) : Type 0 where
    pub called : observer.subject < length before.subjects → (answered : Result (Reply (ClientSink W)) (CallError (ClientSink W))) × Called before.calls after.calls observer.subject (Dispose observer.who) None answered
    pub none : length before.subjects ≤ observer.subject → after ≡ before
    pub over : IsOver before.calls → after.calls ≡ before.calls
    pub kept : KeepsSession before after
    pub joined : after.joined ≡ before.joined
    pub queue : after.queue ≡ before.queue
