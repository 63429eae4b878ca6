-- What an event is answered on the line, by what its subject answered (the words are this project's own).
use Rattle.std.specs.Prelude.{Result, Ok, Err}
use Rattle.rx_note.specs.declared.answer.Answer.{Answer}
use Rattle.rx_note.specs.declared.answer.Answer.TheVariants as answers
use Rattle.rx_note.specs.declared.refusal.Refusal.{Refusal}
use Rattle.rx_note.specs.declared.refusal.Refusal.TheVariants as refused
use Rattle.rx_proto.specs.declared.response.Response.{Response}
use Rattle.rx_proto.specs.declared.response.Response.TheVariants as responses
use Rattle.rx_proto.specs.declared.word.Word.{Word}
use Rattle.rx_proto.specs.declared.word.Word.TheVariants as words

-- the word of a refusal
abbrev pub word_of : Refusal → Word
word_of refused.Ended = words.Ended
word_of refused.Full = words.Full
word_of refused.Spent = words.Spent
word_of refused.ZeroRequest = words.Zero
word_of refused.NoObserver = words.Observer
word_of refused.TooMuch = words.TooMuch
word_of refused.Memory = words.Memory

-- the response to an event
abbrev pub response_to : Result Answer Refusal → Response
response_to (Ok answers.Admitted) = responses.Done
response_to (Ok (answers.Joined who)) = responses.Joined who
response_to (Ok answers.Asked) = responses.Done
response_to (Ok answers.Left) = responses.Done
response_to (Err refusal) = responses.Refused (word_of refusal)
