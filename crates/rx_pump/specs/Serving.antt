-- What a pump leaves that has served to its end, or to a fault (this project's own rule).
use Rattle.std.specs.Prelude.{◌≡◌, ◌+◌, ◌<◌, ◌⊎◌, ℕ, List, [], ◌∷◌, ◌++◌, length, Some, None, slice_get}
use Rattle.rx_mailbox.specs.declared.letter.Letter.{Letter}
use Rattle.rx_mailbox.specs.declared.letter.Post.TheVariants.{Bye}
use Rattle.rx_mailbox.specs.Letters.{letter, posts}
use Rattle.rx_mailbox.specs.Boxes.{Outgoing, all_told, HasEachBye}
use Rattle.rx_pump.specs.declared.call.Call.{Call}
use Rattle.rx_pump.specs.declared.pump.pump_end.PumpEnd.{PumpEnd}
use Rattle.rx_pump.specs.declared.pump.pump_fault.PumpFault.{PumpFault}
use Rattle.rx_pump.specs.declared.pump.pump_fault.PumpFault.TheVariants.{InboxGone, DrainerGone, CallerGone}
use Rattle.rx_pump.specs.declared.pump.pump_stop.PumpStop.{PumpStop}
use Rattle.rx_pump.specs.Marks.{Marked, body_count, refused_in, route, replies}
use Rattle.rx_pump.specs.Pumps.{counted, HavePut, HavePutUpTo, AreSame, Accounts, PumpView}

module _ {X : Type 0} where
  -- the own list of the port at each place is its bodies and a Bye
  abbrev pub HaveEnded : (ℕ → List X) → List (Outgoing X) → Type 0
  HaveEnded bodies ports =
      (d : ℕ) (port : Outgoing X) → slice_get ports d ≡ Some port → port.own ≡ posts port.number (bodies d) ++ letter port.number Bye ∷ []

  -- of ports that put all their bodies the first have ended
  pub record HaveEndedSome (bodies : ℕ → List X) (ended left : List (Outgoing X)) : Type 0 where
    pub first : HaveEnded bodies ended
    pub others : HavePut (λ d. bodies (length ended + d)) left

module _ {S : Type 0} where
  -- the pump handed in took all letters of its ports and ended its own: what it left is what the marked letters mean
  pub record PumpServes (pump : PumpView S) (left : PumpEnd S) (B : Marked S) : Type 0 where
    pub accounts : Accounts (length pump.replies) left.hub left.inbox.received pump.misses_before B
    pub each_bye : HasEachBye left.inbox
    -- where each Bye had come before, no letter was waited for
    pub over : HasEachBye pump.inbox → left.inbox ≡ pump.inbox
    pub calls : left.calls ≡ counted (body_count B)
    pub refused : left.refused ≡ counted (refused_in B)
    pub routed : HaveEnded (λ d. route pump.hub.state.rules (length pump.drainers) d B) left.drainers.items
    pub replied : HaveEnded (λ p. replies pump.hub.state.rules p B) left.replies.items
    pub rules : left.hub.state.rules ≡ pump.hub.state.rules
    pub box : left.inbox.box ≡ pump.inbox.box
    pub ports : left.inbox.ports ≡ pump.inbox.ports
    pub drainers : AreSame pump.drainers left.drainers.items
    pub callers : AreSame pump.replies left.replies.items

  -- there are such marks
  abbrev pub HasPumped : PumpView S → PumpEnd S → Type 0
  HasPumped pump left = (B : Marked S) × PumpServes pump left B

  -- a turn stopped, and no port has ended
  pub record StopsInTurn (pump : PumpView S) (stop : PumpStop S) (B : Marked S) : Type 0 where
    pub no_drainers : stop.ended_drainers.items ≡ []
    pub no_callers : stop.ended_replies.items ≡ []
    pub put : HavePutUpTo (Some stop.fault) pump.hub.state.rules stop.parts.inbox.received B (all_told stop.parts.drainers.items) (all_told stop.parts.replies.items)
    -- that no letter comes is a fault only while a Bye has not come
    pub waited : stop.fault ≡ InboxGone → pump.fault ≡ None → ¬ HasEachBye stop.parts.inbox

  -- the fault names the first port that has not ended: of those to drainers, or once these have ended of those for replies
  abbrev pub IsNextToEnd : PumpFault → PumpStop S → Type 0
  IsNextToEnd InboxGone stop = ⊥
  IsNextToEnd (DrainerGone place) stop = (place ≡ length stop.ended_drainers.items) × (0 < length stop.parts.drainers.items) × (stop.ended_replies.items ≡ [])
  IsNextToEnd (CallerGone place) stop = (place ≡ length stop.ended_replies.items) × (0 < length stop.parts.replies.items) × (stop.parts.drainers.items ≡ [])

  -- the Bye of each port came and all was put; then the ports were to end in their order, and one was gone
  pub record StopsAtEnd (pump : PumpView S) (stop : PumpStop S) (B : Marked S) : Type 0 where
    pub each_bye : HasEachBye stop.parts.inbox
    pub over : HasEachBye pump.inbox → stop.parts.inbox ≡ pump.inbox
    pub routed : HaveEndedSome (λ d. route pump.hub.state.rules (length pump.drainers) d B) stop.ended_drainers.items (all_told stop.parts.drainers.items)
    pub replied : HaveEndedSome (λ p. replies pump.hub.state.rules p B) stop.ended_replies.items (all_told stop.parts.replies.items)
    pub next : IsNextToEnd stop.fault stop

  -- the pump handed in stopped at its fault, in a turn or at its end: what it left is what the marked letters mean, or what
  -- comes before the fault
  pub record PumpStops (pump : PumpView S) (stop : PumpStop S) (B : Marked S) : Type 0 where
    pub accounts : Accounts (length pump.replies) stop.parts.hub stop.parts.inbox.received pump.misses_before B
    pub came : StopsInTurn pump stop B ⊎ StopsAtEnd pump stop B
    pub rules : stop.parts.hub.state.rules ≡ pump.hub.state.rules
    pub box : stop.parts.inbox.box ≡ pump.inbox.box
    pub ports : stop.parts.inbox.ports ≡ pump.inbox.ports
    pub drainers : AreSame pump.drainers (stop.ended_drainers.items ++ all_told stop.parts.drainers.items)
    pub callers : AreSame pump.replies (stop.ended_replies.items ++ all_told stop.parts.replies.items)

  -- there are such marks
  abbrev pub PumpHasStopped : PumpView S → PumpStop S → Type 0
  PumpHasStopped pump stop = (B : Marked S) × PumpStops pump stop B

  -- it stopped at this fault, and left what is not kept
  abbrev pub PumpHasFailed : PumpView S → PumpFault → Type 0
  PumpHasFailed pump fault = (stop : PumpStop S) × PumpHasStopped pump stop × (stop.fault ≡ fault)
