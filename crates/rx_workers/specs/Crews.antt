-- The desks of a crew: those that are here, and those that its workers have (this project's own rule).
use Rattle.std.specs.Prelude.{◌≡◌, ◌+◌, ◌<◌, ℕ, Bool, true, false, List, ◌++◌, length, map, reverse, Option, None, Some}
use Rattle.rx_mailbox.specs.Boxes.{Incoming, Outgoing, HasBye}
use Rattle.std.specs.List.{AllZip}
use Rattle.rx_pump.specs.Desks.{DeskView, KeepsDesk}
use Rattle.rx_desk.specs.declared.client_sink.ClientSink.{ClientSink}
use Rattle.rx_workers.specs.Working.{WorkerView}
use Rattle.rx_workers.specs.declared.crew.serve_fault.ServeFault.{ServeFault}
use Rattle.rx_workers.specs.declared.crew.serve_fault.ServeFault.TheVariants.{NoDesk, Accept, Thread, Memory}
use Rattle.rx_config.specs.declared.config.Config.{Config}

-- a desk has a port for each subject of a configuration
abbrev pub IsFor : {S : Type 0} → Config → DeskView S → Type 0
IsFor config desk = length desk.ports + length desk.ended ≡ length config.subjects.items

module _ {M C W : Type 0} where
  -- the desk that a worker was handed
  abbrev pub worker_desk : WorkerView M C W → DeskView (ClientSink W)
  worker_desk worker = worker.session.calls

  -- of these desks the first are here, as their calls left them; the others were handed to workers, each to the one that was
  -- hired before that of the desk in front of it
  pub record AreOut (desks here : List (DeskView (ClientSink W))) (workers : List (WorkerView M C W)) : Type 0 where
    pub kept : List (DeskView (ClientSink W))
    pub parts : kept ++ map worker_desk (reverse workers) ≡ desks
    pub same : AllZip KeepsDesk kept here

  -- a port to the inbox of a worker
  abbrev pub IsPortOf : WorkerView M C W → Outgoing (C × W) → Type 0
  IsPortOf worker port = port.box ≡ worker.inbox.box

-- the box has this port alone, and its Bye was received
abbrev pub SettlesWith : {B : Type 0} → Incoming B → Outgoing B → Type 0
SettlesWith inbox port = (inbox.ports ≡ 1) × (port.number ≡ 0) × HasBye inbox 0

-- the first place that was lost, with one more of which it is known whether it has all
abbrev pub first_lost : Option ℕ → ℕ → Bool → Option ℕ
first_lost (Some first) place has_all = Some first
first_lost None place true = None
first_lost None place false = Some place

-- no worker was hired for the last of so many desks: there was no memory for it, or it has no thread
abbrev pub NamesLast : ℕ → ServeFault → Type 0
NamesLast count NoDesk = ⊥
NamesLast count Accept = ⊥
NamesLast count (Thread place) = place + 1 ≡ count
NamesLast count Memory = 0 < count
