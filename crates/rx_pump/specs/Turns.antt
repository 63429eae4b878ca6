-- What one call does to the core of a pump, its hub and its ports (this project's own rule).
use Rattle.std.specs.Prelude.{◌≡◌, ◌+◌, ◌<◌, ℕ, Bool, List, [], length, Option, Some, None, MatchBool}
use Rattle.rx_history.specs.Histories.{History, ◌▹◌}
use Rattle.rx_hub.specs.Hubs.{HubView, StandsFor, MayMiss}
use Rattle.rx_mailbox.specs.Boxes.{Outgoing, all_told}
use Rattle.rx_pump.specs.declared.call.Call.{Call}
use Rattle.rx_pump.specs.declared.out.Out.{Out}
use Rattle.rx_pump.specs.declared.pump.pump_fault.PumpFault.{PumpFault}
use Rattle.rx_pump.specs.declared.pump.pump_fault.PumpFault.TheVariants.{InboxGone, DrainerGone, CallerGone}
use Rattle.rx_pump.specs.declared.pump.pump_parts.PumpParts.{PumpParts}
use Rattle.rx_pump.specs.declared.reply.Reply.{Reply}
use Rattle.rx_pump.specs.Marks.{sent_by, reply_made, reply_refused, to_port}
use Rattle.rx_pump.specs.Sends.{PutsFor, StopsAt}
use Rattle.rx_mailbox.specs.PortRows.{Puts}
use Rattle.rx_pump.specs.Pumps.{counted}

-- the ports of a pump, in the order of their places, whatever they hold back
pub record Ports (S : Type 0) : Type 0 where
  pub drainers : List (Outgoing (Out S))
  pub replies : List (Outgoing (Reply S))

module _ {S : Type 0} where
  -- the ports among the parts of a pump, whatever they hold back
  abbrev pub ports_of : PumpParts S → Ports S
  ports_of parts = record { drainers = all_told parts.drainers.items; replies = all_told parts.replies.items }

  -- how many ports are told replies
  abbrev pub callers_of : PumpParts S → ℕ
  callers_of parts = length (all_told parts.replies.items)

  -- the ports put the outs, and then the reply to the calls from a port; at a fault they stop there
  abbrev pub Sends : Option PumpFault → List (Out S) → ℕ → Reply S → Ports S → Ports S → Type 0
  Sends None outs port reply before after =
      PutsFor outs before.drainers after.drainers × Puts (λ p. to_port port p reply) before.replies after.replies
  Sends (Some InboxGone) outs port reply before after = ⊥
  Sends (Some (DrainerGone place)) outs port reply before after =
      StopsAt outs place before.drainers after.drainers × (after.replies ≡ before.replies)
  Sends (Some (CallerGone place)) outs port reply before after =
      PutsFor outs before.drainers after.drainers × (after.replies ≡ before.replies) × (place ≡ port) × (port < length before.replies)

  -- a call from a port was made after H: the hub took its event, and what it gave and answered was sent
  pub record IsMade (hub hub_after : HubView) (before after : Ports S) (fault : Option PumpFault) (port : ℕ) (call : Call S) (H : History) : Type 0 where
    pub goes_on : StandsFor hub_after.state (H ▹ (port, call.event))
    pub misses : hub_after.misses ≡ hub.misses
    pub sends : Sends fault (sent_by hub.state.rules H port call) port (reply_made hub.state.rules H port call) before after

  -- a call was refused for want of memory: the hub would have accepted it, counted it, and only this was replied
  pub record IsRefused (hub hub_after : HubView) (before after : Ports S) (fault : Option PumpFault) (port : ℕ) (call : Call S) (H : History) : Type 0 where
    pub stays : StandsFor hub_after.state H
    pub misses : hub_after.misses ≡ counted (hub.misses + 1)
    pub acceptable : MayMiss hub.state.rules H (port, call.event)
    pub sends : Sends fault [] port (reply_refused hub.state.rules H call) before after

  -- a call was made or refused
  pub record HandlesCall (hub hub_after : HubView) (before after : Ports S) (refused : Bool) (fault : Option PumpFault) (port : ℕ) (call : Call S) : Type 0 where
    pub rules : hub_after.state.rules ≡ hub.state.rules
    pub took : (H : History) → StandsFor hub.state H
        → MatchBool refused (IsRefused hub hub_after before after fault port call H) (IsMade hub hub_after before after fault port call H)
