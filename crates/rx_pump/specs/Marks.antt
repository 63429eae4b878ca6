-- What the letters that a pump received mean: the history of its subject, what it sends the drainers, what it replies.
-- Each body is marked: it was made, or it was refused for want of memory and is not in the history (this project's own
-- rule).
--
-- A pump received some letters. Mark each body among them: it was made, or it was refused for want of memory. The history of
-- the bodies made is their events, each with its port. The route of drainer d of n has, for each body made in its order, the
-- `Attach` with the sink of an accepted Join, what the hub gives by exact delivery, and the `Detach` of an accepted Dispose;
-- of these what concerns observers whose number modulo n is d. The replies to port p have, for each body of p in its order,
-- its ticket, its answer (Memory where it was refused), its sink unless that was attached, and how many items were accepted
-- up to and with that body: behind an accepted item its place is one less, and an observer that joined hears of no place
-- below.
use Rattle.std.specs.Prelude.{ℕ, ◌+◌, ◌%◌, ◌==◌, if◌then◌else◌, List, [], ◌∷◌, ◌++◌, map, Option, None, Some, Result, Ok, Err}
use Rattle.std.specs.List.{filter}
use Rattle.rx_note.specs.declared.answer.Answer.{Answer}
use Rattle.rx_note.specs.declared.answer.Answer.TheVariants.{Admitted, Joined, Asked, Left}
use Rattle.rx_note.specs.declared.event.Event.{Event}
use Rattle.rx_note.specs.declared.event.Event.TheVariants.{Emit, Join, Request, Dispose}
use Rattle.rx_note.specs.declared.given.Given.{Given}
use Rattle.rx_note.specs.declared.refusal.Refusal.{Refusal}
use Rattle.rx_note.specs.declared.refusal.Refusal.TheVariants.{Memory}
use Rattle.rx_note.specs.declared.rules.Rules.{Rules}
use Rattle.rx_history.specs.Histories.{History, NoEvents, ◌▹◌, item_count, answer, outs}
use Rattle.rx_hub.specs.Hubs.{MayMiss}
use Rattle.rx_mailbox.specs.declared.letter.Letter.{Letter}
use Rattle.rx_mailbox.specs.declared.letter.Post.TheVariants.{Body, Bye}
use Rattle.rx_mailbox.specs.Letters.{letter}
use Rattle.rx_pump.specs.declared.call.Call.{Call}
use Rattle.rx_pump.specs.declared.reply.Reply.{Reply}
use Rattle.rx_pump.specs.declared.out.Out.{Out}
use Rattle.rx_pump.specs.declared.out.Out.TheVariants.{Attach, Give, Detach}

-- the observer that an event asks to leave
abbrev pub leaver : Event → Option ℕ
leaver (Emit note at) = None
leaver (Join policy first at) = None
leaver (Request who n) = None
leaver (Dispose who) = Some who

-- THE LETTERS

-- letters from ports, the latest outermost: a call that was made, a call that was refused for want of memory, a Bye
pub data Marked (S : Type 0) : Type 0 where
  NoLetters : Marked S
  Made : Marked S → ℕ → Call S → Marked S
  Refused : Marked S → ℕ → Call S → Marked S
  Ended : Marked S → ℕ → Marked S

module _ {S : Type 0} where
  -- the letters without their marks
  abbrev pub letters_of : Marked S → List (Letter (Call S))
  letters_of NoLetters = []
  letters_of (Made B port call) = letters_of B ++ letter port (Body call) ∷ []
  letters_of (Refused B port call) = letters_of B ++ letter port (Body call) ∷ []
  letters_of (Ended B port) = letters_of B ++ letter port Bye ∷ []

  -- how many bodies there are
  abbrev pub body_count : Marked S → ℕ
  body_count NoLetters = 0
  body_count (Made B port call) = body_count B + 1
  body_count (Refused B port call) = body_count B + 1
  body_count (Ended B port) = body_count B

  -- how many bodies were refused
  abbrev pub refused_in : Marked S → ℕ
  refused_in NoLetters = 0
  refused_in (Made B port call) = refused_in B
  refused_in (Refused B port call) = refused_in B + 1
  refused_in (Ended B port) = refused_in B

  -- THE HISTORY

  -- the history of the subject: the events of the bodies that were made, each from its port
  abbrev pub history_of : Marked S → History
  history_of NoLetters = NoEvents
  history_of (Made B port call) = history_of B ▹ (port, call.event)
  history_of (Refused B port call) = history_of B
  history_of (Ended B port) = history_of B

  -- a body was refused for want of memory only where the subject would have accepted its event, and that is no Dispose
  abbrev pub AreAcceptable : Rules → Marked S → Type 0
  AreAcceptable rules NoLetters = Unit {0}
  AreAcceptable rules (Made B port call) = AreAcceptable rules B
  AreAcceptable rules (Refused B port call) = AreAcceptable rules B × MayMiss rules (history_of B) (port, call.event)
  AreAcceptable rules (Ended B port) = AreAcceptable rules B

  -- WHAT GOES TO THE DRAINERS

  -- the observer that an out concerns
  abbrev pub who_of : Out S → ℕ
  who_of (Attach who sink) = who
  who_of (Give who note) = who
  who_of (Detach who) = who

  -- what a call that was answered so sends first: the sink of the observer that it made
  abbrev pub attach_of : Result Answer Refusal → Option S → List (Out S)
  attach_of (Ok (Joined who)) (Some sink) = Attach who sink ∷ []
  attach_of (Ok (Joined who)) None = []
  attach_of (Ok Admitted) sink = []
  attach_of (Ok Asked) sink = []
  attach_of (Ok Left) sink = []
  attach_of (Err refusal) sink = []

  -- a note for an observer
  abbrev pub give : Given → Out S
  give given = Give given.who given.note

  -- and what it sends last: that the observer left
  abbrev pub detach_of : Option ℕ → Result Answer Refusal → List (Out S)
  detach_of (Some who) (Ok answered) = Detach who ∷ []
  detach_of (Some who) (Err refusal) = []
  detach_of None answered = []

  -- what a call from a port sends after H, in its order
  abbrev pub sent_by : Rules → History → ℕ → Call S → List (Out S)
  sent_by rules H port call =
      attach_of (answer rules H call.event) call.sink ++ map give (outs rules H (port, call.event))
      ++ detach_of (leaver call.event) (answer rules H call.event)

  -- all that the letters send
  abbrev pub outs_in : Rules → Marked S → List (Out S)
  outs_in rules NoLetters = []
  outs_in rules (Made B port call) = outs_in rules B ++ sent_by rules (history_of B) port call
  outs_in rules (Refused B port call) = outs_in rules B
  outs_in rules (Ended B port) = outs_in rules B

  -- of several outs those for drainer d of n: an observer is that of its number modulo the number of drainers
  abbrev pub for_drainer : ℕ → ℕ → List (Out S) → List (Out S)
  for_drainer n d outs = filter (λ out. who_of out % n == d) outs

  -- the route of drainer d of n
  abbrev pub route : Rules → ℕ → ℕ → Marked S → List (Out S)
  route rules n d B = for_drainer n d (outs_in rules B)

  -- WHAT GOES BACK

  -- the sink that goes back with the answer: the call's, unless it went to a drainer
  abbrev pub sent_back : Result Answer Refusal → Option S → Option S
  sent_back (Ok (Joined who)) sink = None
  sent_back (Ok Admitted) sink = sink
  sent_back (Ok Asked) sink = sink
  sent_back (Ok Left) sink = sink
  sent_back (Err refusal) sink = sink

  -- the reply to a call that was answered so, where so many items were accepted by then
  abbrev pub reply_to : Call S → Result Answer Refusal → ℕ → Reply S
  reply_to call result items = record { ticket = call.ticket; result = result; sink = sent_back result call.sink; items = items }

  -- the reply to a call from a port that was made after H
  abbrev pub reply_made : Rules → History → ℕ → Call S → Reply S
  reply_made rules H port call = reply_to call (answer rules H call.event) (item_count rules (H ▹ (port, call.event)))

  -- the reply to a call that was refused for want of memory after H
  abbrev pub reply_refused : Rules → History → Call S → Reply S
  reply_refused rules H call = reply_to call (Err Memory) (item_count rules H)

-- what comes by a port, told to this port
abbrev pub to_port : {X : Type 0} → ℕ → ℕ → X → List X
to_port port p x = if port == p then x ∷ [] else []

module _ {S : Type 0} where
  -- the replies to port p
  abbrev pub replies : Rules → ℕ → Marked S → List (Reply S)
  replies rules p NoLetters = []
  replies rules p (Made B port call) = replies rules p B ++ to_port port p (reply_made rules (history_of B) port call)
  replies rules p (Refused B port call) = replies rules p B ++ to_port port p (reply_refused rules (history_of B) call)
  replies rules p (Ended B port) = replies rules p B
