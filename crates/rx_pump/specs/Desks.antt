-- A desk, and what its calls do (this project's own rule).
--
-- The desk's calls: A `call` that answers a reply put just that call, with a new ticket, into its port's own list, and
-- received just one letter, from that subject and with that ticket: its answer. `SubjectGone` put nothing and gives the sink
-- back, or put the call and received nothing; `Strange` put the call and received one letter that is no reply to it. After
-- `Strange`, the last ticket or a `finish` that came back each call is `SubjectGone` with its sink and changes nothing.
-- `finish` adds one Bye to each port, and goes on where an earlier one stopped; the tickets of what each port put rise.
-- `post` puts a call alike, with the next ticket, and receives nothing, or hands its event back and changes nothing; `answer`
-- receives one letter, or none where none comes any more, and answers it as `call` does by the subject and the ticket that it
-- is asked for; but after `Strange` or a `finish` that came back it is `SubjectGone` and changes nothing; `tickets` is how
-- many were used. `subjects` counts its ports, ended or not. What a desk received is what its calls took, in their order: a reply
-- to a post that came while another was waited for is received once it is asked for (`Early.antt`); `finish` leaves the inbox
-- with those that never were.
use Rattle.std.specs.Prelude.{◌≡◌, ◌≢◌, ◌+◌, ◌-◌, ◌^◌, ◌<◌, ◌≤◌, ◌⊎◌, ℕ, Bool, true, false, List, [], ◌∷◌, ◌++◌, length, Option, None, Result, Ok, Err}
use Rattle.std.specs.List.{All, AllPairs}
use Rattle.rx_note.specs.declared.event.Event.{Event}
use Rattle.rx_mailbox.specs.declared.letter.Letter.{Letter}
use Rattle.rx_mailbox.specs.declared.letter.Post.{Post}
use Rattle.rx_mailbox.specs.declared.letter.Post.TheVariants.{Body, Bye}
use Rattle.rx_mailbox.specs.Letters.{letter}
use Rattle.rx_mailbox.specs.Boxes.{Outgoing, Incoming, with_letter}
use Rattle.rx_pump.specs.declared.call.Call.{Call}
use Rattle.rx_pump.specs.declared.call_desk.call_error.CallError.{CallError}
use Rattle.rx_pump.specs.declared.call_desk.call_error.CallError.TheVariants.{SubjectGone, Strange}
use Rattle.rx_pump.specs.declared.reply.Reply.{Reply}
use Rattle.rx_pump.specs.Early.{HoldsAside}
use Rattle.rx_pump.specs.Marks.{to_port}
use Rattle.rx_pump.specs.Pumps.{AreSame}
use Rattle.rx_mailbox.specs.PortRows.{Puts}

-- a desk: its ports to subjects, the inbox of its replies with those that its calls took, the ports that have ended, how many tickets it used, and
-- whether it makes no call any more
pub record DeskView (S : Type 0) : Type 0 where
  pub ports : List (Outgoing (Call S))
  pub inbox : Incoming (Reply S)
  pub ended : List (Outgoing (Call S))
  pub tickets : ℕ
  pub is_over : Bool

-- each number is below all later ones
abbrev pub Rise : List ℕ → Type 0
Rise numbers = AllPairs (λ n m. n < m) numbers

module _ {S : Type 0} where
  -- a desk before its first call
  abbrev pub fresh_desk : List (Outgoing (Call S)) → Incoming (Reply S) → DeskView S
  fresh_desk ports inbox = record { ports = ports; inbox = inbox; ended = []; tickets = 0; is_over = false }

  -- TICKETS

  -- a post has no ticket above this one
  abbrev pub IsUpTo : ℕ → Post (Call S) → Type 0
  IsUpTo ticket (Body call) = call.ticket ≤ ticket
  IsUpTo ticket Bye = Unit {0}

  -- no letter that the ports put has a ticket above this one
  abbrev pub AreUpTo : ℕ → List (Outgoing (Call S)) → Type 0
  AreUpTo ticket ports = All (λ port. All (λ x. IsUpTo ticket x.post) port.own) ports

  -- the ticket of a post, where it is a call
  abbrev pub ticket_in : Post (Call S) → List ℕ
  ticket_in (Body call) = call.ticket ∷ []
  ticket_in Bye = []

  -- the tickets of the calls among several letters
  abbrev pub tickets_in : List (Letter (Call S)) → List ℕ
  tickets_in [] = []
  tickets_in (x ∷ xs) = ticket_in x.post ++ tickets_in xs

  -- the tickets of what each port put rise
  abbrev pub TicketsRise : List (Outgoing (Call S)) → Type 0
  TicketsRise ports = All (λ port. Rise (tickets_in port.own)) ports

  -- a post has another ticket
  abbrev pub HasOther : ℕ → Post (Call S) → Type 0
  HasOther ticket (Body call) = call.ticket ≢ ticket
  HasOther ticket Bye = Unit {0}

  -- no letter that the ports put has this ticket
  abbrev pub IsNew : ℕ → List (Outgoing (Call S)) → Type 0
  IsNew ticket ports = All (λ port. All (λ x. HasOther ticket x.post) port.own) ports

  -- ONE CALL

  -- the desk makes no call any more: it is over, or it used its last ticket
  abbrev pub IsOver : DeskView S → Type 0
  IsOver desk = (desk.is_over ≡ true) ⊎ (desk.tickets ≡ 2 ^ 64 - 1)

  -- the next call of a desk
  abbrev pub next_call : DeskView S → Event → Option S → Call S
  next_call desk event sink = record { ticket = desk.tickets + 1; event = event; sink = sink }

  -- the desk put just its next call, to this subject, and the ticket is new
  pub record IsSent (before after : DeskView S) (subject : ℕ) (event : Event) (sink : Option S) : Type 0 where
    pub is_new : IsNew (before.tickets + 1) before.ports
    pub put : Puts (λ place. to_port subject place (next_call before event sink)) before.ports after.ports
    pub tickets : after.tickets ≡ before.tickets + 1
    pub ended : after.ended ≡ before.ended

  -- the desk put just its next call, to this subject and without a sink, and received nothing
  pub record IsPosted (before after : DeskView S) (subject : ℕ) (event : Event) : Type 0 where
    pub goes : ¬ IsOver before
    pub sent : IsSent before after subject event None
    pub inbox : after.inbox ≡ before.inbox
    pub is_over : after.is_over ≡ before.is_over

  -- what came is no reply of this subject to this ticket, and this is its sink
  abbrev pub IsStrange : ℕ → ℕ → ℕ → Post (Reply S) → Option S → Type 0
  IsStrange subject ticket from (Body reply) sink = (sink ≡ reply.sink) × ¬ ((from ≡ subject) × (reply.ticket ≡ ticket))
  IsStrange subject ticket from Bye sink = sink ≡ None

  -- what no call changes: which boxes the ports and the inbox belong to, and the ports that have ended
  pub record KeepsDesk (before after : DeskView S) : Type 0 where
    pub ports : AreSame before.ports after.ports
    pub box : after.inbox.box ≡ before.inbox.box
    pub count : after.inbox.ports ≡ before.inbox.ports
    pub ended : after.ended ≡ before.ended

  -- what one call did, by its answer
  abbrev pub Called : DeskView S → DeskView S → ℕ → Event → Option S → Result (Reply S) (CallError S) → Type 0
  -- the call was put, and one letter received: the answer, from this subject and with this ticket
  Called before after subject event sink (Ok reply) =
      IsSent before after subject event sink
      × (after.inbox ≡ with_letter before.inbox (letter subject (Body reply))) × (reply.ticket ≡ before.tickets + 1)
      × (after.is_over ≡ before.is_over)
  -- nothing was put and the sink comes back, or the call was put and no letter comes any more
  Called before after subject event sink (Err (SubjectGone back)) =
      ((after ≡ before) × (back ≡ sink))
      ⊎ (IsSent before after subject event sink × (after.inbox ≡ before.inbox) × (after.is_over ≡ before.is_over) × (back ≡ None))
  -- the call was put, and one letter received that is no reply to it: the desk is over
  Called before after subject event sink (Err (Strange back)) =
      IsSent before after subject event sink
      × ((x : Letter (Reply S)) × (after.inbox ≡ with_letter before.inbox x) × IsStrange subject (before.tickets + 1) x.from x.post back)
      × (after.is_over ≡ true)

  -- the answer that a letter gives to a call
  abbrev pub ReadsReply : Letter (Reply S) → ℕ → ℕ → Result (Reply S) (CallError S) → Type 0
  ReadsReply x subject ticket (Ok reply) = (x ≡ letter subject (Body reply)) × (reply.ticket ≡ ticket)
  ReadsReply x subject ticket (Err (SubjectGone back)) = ⊥
  ReadsReply x subject ticket (Err (Strange back)) = IsStrange subject ticket x.from x.post back

  -- what was received for a call, by its answer
  abbrev pub ReceivesReply : Incoming (Reply S) → Incoming (Reply S) → ℕ → ℕ → Result (Reply S) (CallError S) → Type 0
  ReceivesReply before after subject ticket (Ok reply) = (after ≡ with_letter before (letter subject (Body reply))) × (reply.ticket ≡ ticket)
  ReceivesReply before after subject ticket (Err (SubjectGone back)) = (after ≡ before) × (back ≡ None)
  ReceivesReply before after subject ticket (Err (Strange back)) =
      (x : Letter (Reply S)) × (after ≡ with_letter before x) × IsStrange subject ticket x.from x.post back

  -- an answer after which the desk is over
  abbrev pub is_strange : Result (Reply S) (CallError S) → Bool
  is_strange (Ok reply) = false
  is_strange (Err (SubjectGone sink)) = false
  is_strange (Err (Strange sink)) = true

  -- what an answer did that was waited for: one letter was received, or none by a desk that made no call any more
  pub record Awaits (before after : DeskView S) (subject ticket : ℕ) (answered : Result (Reply S) (CallError S)) : Type 0 where
    pub over : before.is_over ≡ true → (answered ≡ Err (SubjectGone None)) × (after ≡ before)
    pub receives : before.is_over ≡ false → ReceivesReply before.inbox after.inbox subject ticket answered × (after ≡ record before { inbox = after.inbox; is_over = is_strange answered })

  -- what a desk left as its inbox: its calls took of it what it tells, some letters are held aside, and for each of its tickets there is one
  -- letter at most
  pub record LeavesInbox (desk : DeskView S) (inbox : Incoming (Reply S)) : Type 0 where
    pub early : List (Letter (Reply S))
    pub holds : HoldsAside desk.inbox desk.is_over inbox early
    pub count : length desk.inbox.received + length early ≤ desk.tickets
