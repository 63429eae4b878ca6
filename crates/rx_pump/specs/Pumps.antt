-- A pump, and what it has done with the letters that it received (this project's own rule).
--
-- The pump's history: After each turn there are marks for the letters for which those stand that were received, such that the
-- hub stands for the history of the bodies made; `refused` are refused, as many as the hub's count of Memory answers rose by,
-- each only where the core accepts the event at its place and it is no Dispose; each drainer port's own list is its route, each
-- reply port's its replies; `calls` is the number of bodies (counts stay at the greatest u64). `serve` adds a Bye to each once
-- the Bye of each of its ports came, and takes no letter where they had come before. After a fault the pump does nothing more.
--
-- A pump's fault: `InboxGone`: the turn received nothing, and all was put; where a pump serves that had no fault, a Bye had
-- not come. `DrainerGone`: of what the letter received last sends, with all for which it stands, all was put that comes before
-- an out for the drainer that is named, nothing from there on, and no reply to that letter. `CallerGone`: all was put but the reply
-- to the last letter, which is for the caller that is named. Or the ports were to end, in their order: all was put, those before
-- the one that is named have ended, and no other (`HavePutUpTo`, `PumpStops` of `Serving.antt`)
use Rattle.std.specs.Prelude.{◌≡◌, ◌+◌, ◌-◌, ◌^◌, ◌<◌, ◌%◌, min, ℕ, zero, suc, List, [], ◌∷◌, ◌++◌, length, map, Option, Some, None, slice_get}
use Rattle.std.specs.List.{All}
use Rattle.rx_history.specs.Histories.{NoEvents}
use Rattle.rx_hub.specs.Hubs.{HubView, StandsFor}
use Rattle.rx_mailbox.specs.declared.letter.Letter.{Letter}
use Rattle.rx_mailbox.specs.Boxes.{Box, Outgoing, Incoming, all_told, with_letter}
use Rattle.rx_mailbox.specs.PortRows.{IsFresh}
use Rattle.rx_mailbox.specs.Letters.{posts}
use Rattle.rx_pump.specs.declared.call.Call.{Call}
use Rattle.rx_pump.specs.declared.out.Out.{Out}
use Rattle.rx_pump.specs.declared.pump.pump_fault.PumpFault.{PumpFault}
use Rattle.rx_pump.specs.declared.pump.pump_fault.PumpFault.TheVariants.{InboxGone, DrainerGone, CallerGone}
use Rattle.rx_pump.specs.declared.pump.pump_parts.PumpParts.{PumpParts}
use Rattle.rx_pump.specs.declared.reply.Reply.{Reply}
use Rattle.rx_note.specs.declared.rules.Rules.{Rules}
use Rattle.rx_pump.specs.Opened.{opened, opened_letter}
use Rattle.rx_pump.specs.Marks.{Marked, NoLetters, Made, Refused, Ended, letters_of, body_count, refused_in, history_of, AreAcceptable, outs_in, who_of, for_drainer, route, replies}

-- a count of a pump, up to the greatest `u64`
abbrev pub counted : ℕ → ℕ
counted n = min n (2 ^ 64 - 1)

-- a pump: its parts, the number of its calls and of those refused for want of memory, how many steps the hub had refused
-- for that when the pump was made, and the fault that it stopped at
pub record PumpView (S : Type 0) : Type 0 where
  pub hub : HubView
  pub inbox : Incoming (Call S)
  pub drainers : List (Outgoing (Out S))
  pub replies : List (Outgoing (Reply S))
  pub calls : ℕ
  pub refused : ℕ
  pub misses_before : ℕ
  pub fault : Option PumpFault

-- PORTS

module _ {X : Type 0} where
  -- the own list of the port at each place is just its bodies
  abbrev pub HavePut : (ℕ → List X) → List (Outgoing X) → Type 0
  HavePut bodies ports = (d : ℕ) (port : Outgoing X) → slice_get ports d ≡ Some port → port.own ≡ posts port.number (bodies d)

  -- which port of which box it is
  abbrev pub port_place : Outgoing X → Box X × ℕ
  port_place port = (port.box, port.number)

  -- the same ports, whatever they have put
  abbrev pub AreSame : List (Outgoing X) → List (Outgoing X) → Type 0
  AreSame before after = map port_place after ≡ map port_place before

-- WHAT THE PORTS HAVE PUT

module _ {S : Type 0} where
  -- marked letters without the last one
  abbrev pub before_last : Marked S → Marked S
  before_last NoLetters = NoLetters
  before_last (Made B port call) = B
  before_last (Refused B port call) = B
  before_last (Ended B port) = B

  -- and without so many of the last
  abbrev pub without_last : ℕ → Marked S → Marked S
  without_last zero B = B
  without_last (suc n) B = before_last (without_last n B)

  -- of marked letters, whose last are those for which the last one received stands, those before it
  pub record IsBefore (callers : ℕ) (received : List (Letter (Call S))) (before B : Marked S) : Type 0 where
    pub earlier : List (Letter (Call S))
    pub last : Letter (Call S)
    pub came : earlier ++ last ∷ [] ≡ received
    pub marks : without_last (length (opened_letter callers last)) B ≡ before

  -- all: the list of each drainer's port is the drainer's route, and the list of each reply port its replies
  pub record PutAll (rules : Rules) (B : Marked S) (drainers : List (Outgoing (Out S))) (callers : List (Outgoing (Reply S))) : Type 0 where
    pub routed : HavePut (λ d. route rules (length drainers) d B) drainers
    pub replied : HavePut (λ p. replies rules p B) callers

  -- the drainer at this place is gone: of what the letter received last sends all was put that comes before an out for it, and
  -- nothing from there on
  pub record StoppedAtDrainer (place : ℕ) (rules : Rules) (received : List (Letter (Call S))) (B : Marked S) (drainers : List (Outgoing (Out S))) (callers : List (Outgoing (Reply S))) : Type 0 where
    pub named : place < length drainers
    pub before : Marked S
    pub is_before : IsBefore (length callers) received before B
    pub done : List (Out S)
    pub next : Out S
    pub rest : List (Out S)
    pub parts : outs_in rules before ++ done ++ next ∷ rest ≡ outs_in rules B
    pub gone : who_of next % length drainers ≡ place
    pub routed : HavePut (λ d. for_drainer (length drainers) d (outs_in rules before ++ done)) drainers
    pub replied : HavePut (λ p. replies rules p before) callers

  -- the caller at this place is gone: all was put but the reply to the last letter, which is for it
  pub record StoppedAtCaller (place : ℕ) (rules : Rules) (B : Marked S) (drainers : List (Outgoing (Out S))) (callers : List (Outgoing (Reply S))) : Type 0 where
    pub named : place < length callers
    pub next : Reply S
    pub gone : replies rules place (before_last B) ++ next ∷ [] ≡ replies rules place B
    pub routed : HavePut (λ d. route rules (length drainers) d B) drainers
    pub replied : HavePut (λ p. replies rules p (before_last B)) callers

  -- all, or at the fault of a port what comes before that
  abbrev pub HavePutUpTo : Option PumpFault → Rules → List (Letter (Call S)) → Marked S → List (Outgoing (Out S)) → List (Outgoing (Reply S)) → Type 0
  HavePutUpTo None rules received B drainers callers = PutAll rules B drainers callers
  HavePutUpTo (Some InboxGone) rules received B drainers callers = PutAll rules B drainers callers
  HavePutUpTo (Some (DrainerGone place)) rules received B drainers callers = StoppedAtDrainer place rules received B drainers callers
  HavePutUpTo (Some (CallerGone place)) rules received B drainers callers = StoppedAtCaller place rules B drainers callers

module _ {S : Type 0} where
  -- THE PUMP'S HISTORY

  -- the marked letters account for the letters received, each with all for which it stands where so many ports are told replies,
  -- and for what became of the hub: it stands for the history of the bodies that were made, and each of the others is a step that
  -- it refused for want of memory
  pub record Accounts (callers : ℕ) (hub : HubView) (received : List (Letter (Call S))) (misses_before : ℕ) (B : Marked S) : Type 0 where
    pub letters : letters_of B ≡ opened callers received
    pub stands : StandsFor hub.state (history_of B)
    pub misses : hub.misses ≡ counted (misses_before + refused_in B)
    pub acceptable : AreAcceptable hub.state.rules B

  -- what a pump did is what its marked letters mean, or at the fault of a port what comes before that
  pub record Pumps (pump : PumpView S) (B : Marked S) : Type 0 where
    pub accounts : Accounts (length pump.replies) pump.hub pump.inbox.received pump.misses_before B
    pub calls : pump.calls ≡ counted (body_count B)
    pub refused : pump.refused ≡ counted (refused_in B)
    pub put : HavePutUpTo pump.fault pump.hub.state.rules pump.inbox.received B pump.drainers pump.replies

  -- there are such marks
  abbrev pub IsPumped : PumpView S → Type 0
  IsPumped pump = (B : Marked S) × Pumps pump B

  -- A NEW PUMP

  -- a hub, an inbox and ports that have done nothing
  pub record AreFresh (hub : HubView) (inbox : Incoming (Call S)) (drainers : List (Outgoing (Out S))) (callers : List (Outgoing (Reply S))) : Type 0 where
    pub hub_is : StandsFor hub.state NoEvents
    pub inbox_is : inbox.received ≡ []
    pub drainers_are : All IsFresh drainers
    pub callers_are : All IsFresh callers

  -- the pump of these, before its first turn
  abbrev pub fresh_pump : HubView → Incoming (Call S) → List (Outgoing (Out S)) → List (Outgoing (Reply S)) → PumpView S
  fresh_pump hub inbox drainers callers = record {
    hub = hub;
    inbox = inbox;
    drainers = drainers;
    replies = callers;
    calls = 0;
    refused = 0;
    misses_before = hub.misses;
    fault = None;
  }

  -- the pump with these parts, counts and fault
  abbrev pub pump_with : PumpParts S → ℕ → ℕ → ℕ → Option PumpFault → PumpView S
  pump_with parts calls refused misses_before fault = record {
    hub = parts.hub;
    inbox = parts.inbox;
    drainers = all_told parts.drainers.items;
    replies = all_told parts.replies.items;
    calls = calls;
    refused = refused;
    misses_before = misses_before;
    fault = fault;
  }

  -- what no turn changes: the subject's rules, and which boxes the inbox and the ports belong to
  pub record KeepsPump (before after : PumpView S) : Type 0 where
    pub rules : after.hub.state.rules ≡ before.hub.state.rules
    pub box : after.inbox.box ≡ before.inbox.box
    pub ports : after.inbox.ports ≡ before.inbox.ports
    pub drainers : AreSame before.drainers after.drainers
    pub callers : AreSame before.replies after.replies
    pub misses_before : after.misses_before ≡ before.misses_before

  -- a letter came last, and what it stands for is not made yet
  pub record HasReceived (pump : PumpView S) (x : Letter (Call S)) (B : Marked S) : Type 0 where
    pub earlier : List (Letter (Call S))
    pub came : earlier ++ x ∷ [] ≡ pump.inbox.received
    pub accounts : Accounts (length pump.replies) pump.hub earlier pump.misses_before B
    pub calls : pump.calls ≡ counted (body_count B)
    pub refused : pump.refused ≡ counted (refused_in B)
    pub put : PutAll pump.hub.state.rules B pump.drainers pump.replies

  -- then it was, up to a fault of a port, by the same pump
  abbrev pub Makes : PumpView S → Letter (Call S) → PumpView S → Type 0
  Makes before x after = (B : Marked S) → HasReceived before x B → (more : Marked S) × Pumps after more × KeepsPump before after

  -- one letter more was received
  abbrev pub TakesCall : Incoming (Call S) → Incoming (Call S) → Type 0
  TakesCall before after = (x : Letter (Call S)) × (after ≡ with_letter before x)
