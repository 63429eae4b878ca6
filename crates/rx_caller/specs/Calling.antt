-- What a caller is, and what a call by one did (this project's own rule).
use Rattle.std.specs.Prelude.{◌≡◌, ◌≤◌, ◌<◌, ◌+◌, ◌⊎◌, ℕ, List, length, Option, None, Some, Result, Ok, Err, MatchResult}
use Rattle.rx_note.specs.declared.answer.Answer.{Answer}
use Rattle.rx_note.specs.declared.answer.Answer.TheVariants.{Joined}
use Rattle.rx_note.specs.declared.event.Event.{Event}
use Rattle.rx_note.specs.declared.refusal.Refusal.{Refusal}
use Rattle.rx_pump.specs.Desks.{Called, DeskView}
use Rattle.rx_pump.specs.declared.call_desk.call_error.CallError.{CallError}
use Rattle.rx_pump.specs.declared.call_desk.call_error.CallError.TheVariants.{SubjectGone, Strange}
use Rattle.rx_pump.specs.declared.call_desk.ended_desk.EndedDesk.{EndedDesk}
use Rattle.rx_pump.specs.declared.reply.Reply.{Reply}
use Rattle.rx_server.specs.Servers.{ServerView}
use Rattle.rx_caller.specs.declared.caller_error.CallerError.{CallerError}
use Rattle.rx_caller.specs.declared.caller_error.CallerError.TheVariants.{NoSubject, Gone, Refused}
use Rattle.rx_caller.specs.declared.not_joined.NotJoined.{NotJoined}

-- a caller: its desk, and all desks that its server made
pub record CallerView (S : Type 0) : Type 0 where
  pub desk : DeskView S
  pub made : List (DeskView S)

-- what a caller left, and all desks that its server made
pub record EndView (S : Type 0) : Type 0 where
  pub end : EndedDesk S
  pub made : List (DeskView S)

-- a server with its callers: what those left that came back
pub record CallersView (S Rest : Type 0) : Type 0 where
  pub server : ServerView S Rest
  pub ended : List (EndedDesk S)

-- what a subject's answer is told as
abbrev pub told_of : Result Answer Refusal → Result Answer CallerError
told_of (Ok answer) = Ok answer
told_of (Err refusal) = Err (Refused refusal)

module _ {S : Type 0} where
  -- what a desk's call is told as
  abbrev pub answer_of : Result (Reply S) (CallError S) → Result Answer CallerError
  answer_of (Ok reply) = told_of reply.result
  answer_of (Err fault) = Err Gone

  -- the sink that came back from a desk's call
  abbrev pub sink_of : Result (Reply S) (CallError S) → Option S
  sink_of (Ok reply) = reply.sink
  sink_of (Err (SubjectGone sink)) = sink
  sink_of (Err (Strange sink)) = sink

  -- how many subjects a desk has a port to
  abbrev pub subjects_of : DeskView S → ℕ
  subjects_of desk = length desk.ports + length desk.ended

  -- what one call did: the desk's call of this event, told so; or there is no such subject, and nothing was done
  abbrev pub Calls : CallerView S → CallerView S → ℕ → Event → Option S → Result Answer CallerError → Option S → Type 0
  Calls before after subject event sink answer back =
      ((subjects_of before.desk ≤ subject) × (answer ≡ Err NoSubject) × (after ≡ before) × (back ≡ sink))
      ⊎ ((called : Result (Reply S) (CallError S)) × (subject < subjects_of before.desk)
      × Called before.desk after.desk subject event sink called × (answer ≡ answer_of called) × (back ≡ sink_of called))

  -- the same of a call without a sink, whose answer is not told
  abbrev pub Answers : CallerView S → CallerView S → ℕ → Event → Result (Unit {0}) CallerError → Type 0
  Answers before after subject event result =
      (answer : Result Answer CallerError) × (back : Option S) × Calls before after subject event None answer back
      × MatchResult answer (λ _. result ≡ Ok tt) (λ error. result ≡ Err error)

  -- what is told of a call that joins: the observer's number, or why there is none
  abbrev pub joined_of : Result Answer CallerError → Option S → Result ℕ (NotJoined S)
  joined_of (Ok (Joined who)) back = Ok who
  joined_of (Ok _) back = Err (record { cause = Gone; sink = back })
  joined_of (Err cause) back = Err (record { cause = cause; sink = back })

  -- the same of a call that joins
  abbrev pub Joins : CallerView S → CallerView S → ℕ → Event → S → Result ℕ (NotJoined S) → Type 0
  Joins before after subject event sink result =
      (answer : Result Answer CallerError) × (back : Option S) × Calls before after subject event (Some sink) answer back
      × (result ≡ joined_of answer back)
