-- What the letters in a subject's box stand for (this project's own rule).
--
-- What is asked of a subject for one observer may go as one letter: from a port that is told no replies, as a drainer's, a
-- request for several items stands for so many requests for one item each, one behind another. Each other letter stands for
-- itself.
use Rattle.std.specs.Prelude.{◌≡◌, ℕ, nat_lt, if◌then◌else◌, List, [], ◌∷◌, ◌++◌, map, replicate, Option, Some, None}
use Rattle.std.specs.List.{flat_map}
use Rattle.rx_note.specs.declared.event.Event.{Event}
use Rattle.rx_note.specs.declared.event.Event.TheVariants.{Emit, Join, Request, Dispose}
use Rattle.rx_mailbox.specs.declared.letter.Letter.{Letter}
use Rattle.rx_mailbox.specs.declared.letter.Post.{Post}
use Rattle.rx_mailbox.specs.declared.letter.Post.TheVariants.{Body, Bye}
use Rattle.rx_mailbox.specs.Boxes.{Outgoing, all_told}
use Rattle.rx_mailbox.specs.Letters.{letter, posts}
use Rattle.rx_pump.specs.declared.call.Call.{Call}

module _ {S : Type 0} where
  -- a call with this ticket that asks for one item more for an observer
  abbrev pub ask : ℕ → ℕ → Call S
  ask ticket who = record { ticket = ticket; event = Request who 1; sink = None }

  -- the calls for which a call stands that is told no reply, by its ticket, its sink and its event
  abbrev pub calls_in : ℕ → Option S → Event → List (Call S)
  calls_in ticket sink (Emit note at) = record { ticket = ticket; event = Emit note at; sink = sink } ∷ []
  calls_in ticket sink (Join policy first at) = record { ticket = ticket; event = Join policy first at; sink = sink } ∷ []
  calls_in ticket None (Request who n) = replicate n (ask ticket who)
  calls_in ticket (Some sink) (Request who n) = record { ticket = ticket; event = Request who n; sink = Some sink } ∷ []
  calls_in ticket sink (Dispose who) = record { ticket = ticket; event = Dispose who; sink = sink } ∷ []

  -- the letters for which one stands that is told no reply
  abbrev pub opened_post : ℕ → Post (Call S) → List (Letter (Call S))
  opened_post from (Body call) = posts from (calls_in call.ticket call.sink call.event)
  opened_post from Bye = letter from Bye ∷ []

  -- the letters for which one stands, where the ports of lower numbers than this are told replies
  abbrev pub opened_letter : ℕ → Letter (Call S) → List (Letter (Call S))
  opened_letter callers x = if nat_lt x.from callers then x ∷ [] else opened_post x.from x.post

  -- the letters for which these stand, in their order
  abbrev pub opened : ℕ → List (Letter (Call S)) → List (Letter (Call S))
  opened callers letters = flat_map (opened_letter callers) letters

  -- what a port put that is told no reply, each letter as those for which it stands
  abbrev pub opened_port : Outgoing (Call S) → Outgoing (Call S)
  opened_port port = record port { own = opened 0 port.own }

  -- the same of several ports
  abbrev pub opened_ports : List (Outgoing (Call S)) → List (Outgoing (Call S))
  opened_ports ports = map opened_port ports

  -- and of several, whatever they hold back
  abbrev pub all_opened : List (Outgoing (Call S)) → List (Outgoing (Call S))
  all_opened ports = opened_ports (all_told ports)
