-- What a call is answered on the line, by what its subject answered.
use Rattle.std.specs.Prelude.{Bool, true, false, Option, Result, Ok, Err}
use Rattle.rx_note.specs.declared.answer.Answer.{Answer}
use Rattle.rx_note.specs.declared.answer.Answer.TheVariants as answers
use Rattle.rx_note.specs.declared.refusal.Refusal.{Refusal}
use Rattle.rx_proto.specs.declared.response.Response.{Response}
use Rattle.rx_proto.specs.declared.response.Response.TheVariants as responses
use Rattle.rx_proto.specs.declared.word.Word.TheVariants as words
use Rattle.rx_pump.specs.declared.call_desk.call_error.CallError.{CallError}
use Rattle.rx_pump.specs.declared.call_desk.call_error.CallError.TheVariants.{SubjectGone, Strange}
use Rattle.rx_pump.specs.declared.reply.Reply.{Reply}
use Rattle.rx_session.specs.Responses.{response_to}

-- whether an event made an observer
abbrev pub is_joined : Result Answer Refusal → Bool
is_joined (Ok answers.Admitted) = false
is_joined (Ok (answers.Joined who)) = true
is_joined (Ok answers.Asked) = false
is_joined (Ok answers.Left) = false
is_joined (Err refusal) = false

module _ {S : Type 0} where
  -- the response to a call: GONE where it has no reply
  abbrev pub response_of : Result (Reply S) (CallError S) → Response
  response_of (Ok reply) = response_to reply.result
  response_of (Err error) = responses.Refused words.Gone

  -- whether a call made an observer
  abbrev pub has_joined : Result (Reply S) (CallError S) → Bool
  has_joined (Ok reply) = is_joined reply.result
  has_joined (Err error) = false

  -- the sink that came back from a call
  abbrev pub sink_back : Result (Reply S) (CallError S) → Option S
  sink_back (Ok reply) = reply.sink
  sink_back (Err (SubjectGone sink)) = sink
  sink_back (Err (Strange sink)) = sink
