-- How the replies to a port go with its calls, for all marked letters (this project's own rule).
--
-- A call's answer: Where the tickets of a port's calls rise, the reply that has the ticket of a call is what the subject
-- answered to just that call at its place, or that it was refused for want of memory, and how many items were accepted by
-- then. So is the answer to a call of a desk, where the pump received what the desk's port put, and the desk of that subject
-- the first of what the pump replied to it; and so is the answer to a call that was posted, whatever the desk put and was
-- answered in between.
use Rattle.std.specs.Prelude.{◌≡◌, ◌⊎◌, ◌+◌, ℕ, false, List, [], ◌∷◌, ◌++◌, map, Option, None, Some, Ok, slice_get}
use Rattle.std.specs.List.{Contains}
use Rattle.rx_note.specs.declared.answer.Answer.TheVariants.{Admitted}
use Rattle.rx_note.specs.declared.event.Event.{Event}
use Rattle.rx_note.specs.declared.event.Event.TheVariants.{Emit}
use Rattle.rx_note.specs.declared.item.Item.{Item}
use Rattle.rx_note.specs.declared.note.Note.TheVariants.{Next}
use Rattle.rx_note.specs.declared.rules.Rules.{Rules}
use Rattle.rx_history.specs.Histories.{History, ◌▹◌, answer}
use Rattle.rx_history.specs.Delivery.{emitted}
use Rattle.rx_mailbox.specs.declared.letter.Letter.{Letter}
use Rattle.rx_mailbox.specs.declared.letter.Post.TheVariants.{Body, Bye}
use Rattle.rx_mailbox.specs.Letters.{letter, share, posts}
use Rattle.rx_mailbox.specs.Boxes.{Outgoing}
use Rattle.rx_pump.specs.declared.call.Call.{Call}
use Rattle.rx_pump.specs.declared.reply.Reply.{Reply}
use Rattle.rx_pump.specs.Marks.{Marked, NoLetters, Made, Refused, Ended, letters_of, history_of, replies, reply_made, reply_refused}
use Rattle.rx_pump.specs.Desks.{DeskView, Awaits, Called, IsPosted, next_call, tickets_in, Rise}

-- the replies to a port have the tickets of its calls, in their order: each call is replied to once
abbrev pub EachCallIsReplied : Type 0 → Type 0
EachCallIsReplied S =
    (rules : Rules) (p : ℕ) (B : Marked S) → map (λ reply. reply.ticket) (replies rules p B) ≡ tickets_in (share p (letters_of B))

module _ {S : Type 0} where
  -- the call stands among the marked letters of a port, and this is the reply to it: it has what the subject answered there, or
  -- that it was refused for want of memory, and how many items were accepted by then
  abbrev pub IsReplyTo : Rules → ℕ → Marked S → Call S → Reply S → Type 0
  IsReplyTo rules p NoLetters call reply = ⊥
  IsReplyTo rules p (Made B port made) call reply =
      ((port ≡ p) × (made ≡ call) × (reply ≡ reply_made rules (history_of B) port made)) ⊎ IsReplyTo rules p B call reply
  IsReplyTo rules p (Refused B port refused) call reply =
      ((port ≡ p) × (refused ≡ call) × (reply ≡ reply_refused rules (history_of B) refused)) ⊎ IsReplyTo rules p B call reply
  IsReplyTo rules p (Ended B port) call reply = IsReplyTo rules p B call reply

-- the reply to an accepted item tells its place: it is the last of those that are counted
abbrev pub ReplyTellsThePlace : Type 0 → Type 0
ReplyTellsThePlace S =
    (rules : Rules) (H : History) (port at : ℕ) (item : Item) (call : Call S)
    → call.event ≡ Emit (Next item) at → answer rules H call.event ≡ Ok Admitted
    → (place : ℕ) × ((reply_made rules H port call).items ≡ place + 1)
    × (emitted rules (H ▹ (port, call.event)) ≡ emitted rules H ++ record item { from = port; place = place } ∷ [])

-- where the tickets of a port's calls rise, the reply that has the ticket of a call is the reply to just that call
abbrev pub EachReplyIsToItsCall : Type 0 → Type 0
EachReplyIsToItsCall S =
    (rules : Rules) (p : ℕ) (B : Marked S) (call : Call S) (reply : Reply S) → Rise (tickets_in (share p (letters_of B)))
    → Contains (share p (letters_of B)) (letter p (Body call)) → Contains (replies rules p B) reply → reply.ticket ≡ call.ticket
    → IsReplyTo rules p B call reply

module _ {S : Type 0} where
  -- a desk met the pump of a subject, after a call: the pump received all that the desk's port had put, and more later, and the
  -- desk received of the subject the first of what the pump replied to that port, and then its Bye
  pub record Meets (rules : Rules) (B : Marked S) (subject : ℕ) (desk : DeskView S) (port : Outgoing (Call S)) : Type 0 where
    pub at : slice_get desk.ports subject ≡ Some port
    pub later : List (Letter (Call S))
    pub calls : share port.number (letters_of B) ≡ port.own ++ later
    pub rise : Rise (tickets_in (share port.number (letters_of B)))
    pub more : List (Letter (Reply S))
    pub came : share subject desk.inbox.received ++ more ≡ posts subject (replies rules port.number B) ++ letter subject Bye ∷ []

-- what a call of a desk was answered is the reply to just that call, where the desk met the subject's pump
abbrev pub EachCallHasItsAnswer : Type 0 → Type 0
EachCallHasItsAnswer S =
    (rules : Rules) (B : Marked S) (before after : DeskView S) (subject : ℕ) (event : Event) (sink : Option S) (reply : Reply S) (port : Outgoing (Call S))
    → Called before after subject event sink (Ok reply) → Meets rules B subject after port → IsReplyTo rules port.number B (next_call before event sink) reply

module _ {S : Type 0} where
  -- between two moments of a desk its port to a subject only put more
  pub record PutsMore (subject : ℕ) (before after : DeskView S) : Type 0 where
    pub port : Outgoing (Call S)
    pub port_after : Outgoing (Call S)
    pub at : slice_get before.ports subject ≡ Some port
    pub at_after : slice_get after.ports subject ≡ Some port_after
    pub number : port_after.number ≡ port.number
    pub more : List (Letter (Call S))
    pub own : port_after.own ≡ port.own ++ more

-- what a desk is answered to a call that it posted, however much later and behind whatever else it put meanwhile, is the reply to just
-- that call, where the desk met the subject's pump
abbrev pub EachPostHasItsAnswer : Type 0 → Type 0
EachPostHasItsAnswer S =
    (rules : Rules) (B : Marked S) (before posted waiting after : DeskView S) (subject : ℕ) (event : Event) (reply : Reply S) (port : Outgoing (Call S))
    → IsPosted before posted subject event → PutsMore subject posted after → waiting.is_over ≡ false → Awaits waiting after subject (before.tickets + 1) (Ok reply)
    → Meets rules B subject after port → IsReplyTo rules port.number B (next_call before event None) reply
