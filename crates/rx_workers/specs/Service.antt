-- What a crew of workers does with the connections of a listener: each is served by the worker to which it was dealt (this
-- project's own rule).
--
-- All connections: There was no desk exactly where it answers `NoDesk`. Where all are served, just as many were accepted as
-- the configuration says; `Accept` says that fewer were, and that then the listener failed. In both cases connection i was
-- served by the worker of desk i modulo their number, those of a worker in their order: its box, which holds 16, was new and
-- has settled, so it received just those that were dealt to it and then its Bye, and served each to its end but those that it
-- gave up. `Memory`, and `Thread` of a worker that did not begin: none was accepted. `Thread` behind that names the worker of
-- the next connection, which is given up, or else the first whose box did not settle: those of the desks before it served
-- what was dealt to them. The desks come back as their calls left them, after a fault too.
--
-- That a fault of a worker was met by a real want, of a thread, of a watch or of memory, no contract can say, nor that a box
-- which did not settle had a worker that was gone. That the server waits for each of its threads, and the order in which it
-- closes, is read off the code.
use Rattle.std.specs.Prelude.{◌≡◌, ◌+◌, ◌<◌, ◌%◌, ℕ, List, [], ◌∷◌, ◌++◌, length, map, reverse, Option, None, Some, IfSome, IsSomeAnd, Result, Ok, Err}
use Rattle.rx_config.specs.declared.config.Config.{Config}
use Rattle.rx_mailbox.specs.declared.letter.Post.TheVariants.{Bye}
use Rattle.rx_mailbox.specs.Boxes.{Outgoing, capacity_of, incoming, outgoing}
use Rattle.rx_mailbox.specs.Letters.{letter, posts}
use Rattle.rx_pump.specs.Desks.{DeskView}
use Rattle.rx_mailbox.specs.PortRows.{with_bye}
use Rattle.rx_desk.specs.declared.client_sink.ClientSink.{ClientSink}
use Rattle.rx_workers.specs.Accepting.{Accepts, AcceptsAll, dealt_to}
use Rattle.rx_workers.specs.Crews.{NamesLast, SettlesWith}
use Rattle.rx_desk.specs.SessionDesks.{Queue, SessionView, no_queue}
use Rattle.rx_workers.specs.Workers.{HasEnded, Peers, HasServed}
use Rattle.rx_workers.specs.Working.{WorkerView, worker, came}
use Rattle.rx_workers.specs.declared.crew.acceptor.AcceptStop.{AcceptStop}
use Rattle.rx_workers.specs.declared.crew.acceptor.AcceptStop.TheVariants.{NoConnection, WorkerGone}
use Rattle.rx_desk.specs.declared.joined.Joined.{Joined}
use Rattle.rx_workers.specs.declared.crew.serve_fault.ServeFault.{ServeFault}
use Rattle.rx_workers.specs.declared.crew.serve_fault.ServeFault.TheVariants.{NoDesk, Accept, Thread, Memory}
use Rattle.rx_workers.specs.declared.worker.worker_end.WorkerEnd.{WorkerEnd}

-- the desk of a worker's sessions over a desk that makes its calls, by a configuration
abbrev pub session_over : {W : Type 0} → Config → DeskView (ClientSink W) → Option Joined → Queue → SessionView (Unit {0}) (ClientSink W)
session_over config desk joined queue = record { subjects = config.subjects.items; window = config.window; moments = tt; calls = desk; joined = joined; queue = queue }

module _ {C W : Type 0} where
  -- the port to the inbox of a worker, by which nothing was sent yet
  abbrev pub port_to : WorkerView (Unit {0}) C W → Outgoing (C × W)
  port_to one = outgoing one.inbox.box 0 []

  -- a worker that begins, over this desk: its box is new, has one port, and room for 16 connections
  pub record IsNewOver (config : Config) (desk : DeskView (ClientSink W)) (one : WorkerView (Unit {0}) C W) : Type 0 where
    pub session : one.session ≡ session_over config desk None no_queue
    pub inbox : one.inbox ≡ incoming one.inbox.box 1 []
    pub room : capacity_of one.inbox.box ≡ 16

module _ {M C W : Type 0} (around : Peers M C W) (config : Config) where
  -- THE WORKER OF A DESK received just these connections, in their order, and then its Bye, and served each to its end by a session
  -- of its own, but those that it gave up; the desk is left as the calls of these sessions left it
  pub record HasServedJust (connections : List (C × W)) (desk after : DeskView (ClientSink W)) : Type 0 where
    pub one : WorkerView (Unit {0}) C W
    pub joined : Option Joined
    pub queue : Queue
    pub sessions : ℕ
    pub is_new : IsNewOver config desk one
    pub worked : HasServed around one (worker (session_over config after joined queue) (incoming one.inbox.box 1 (posts 0 connections ++ letter 0 Bye ∷ []))) sessions
    pub came_are : came worked.deeds ≡ connections

  -- the workers of these desks, of which the first is worker d of n, each served the connections that were dealt to it
  abbrev pub HaveServedFrom : ℕ → ℕ → List (C × W) → List (DeskView (ClientSink W)) → List (DeskView (ClientSink W)) → Type 0
  HaveServedFrom n d xs [] [] = Unit {0}
  HaveServedFrom n d xs [] (back ∷ backs) = ⊥
  HaveServedFrom n d xs (desk ∷ desks) [] = ⊥
  HaveServedFrom n d xs (desk ∷ desks) (back ∷ backs) = HasServedJust (dealt_to n d 0 xs) desk back × HaveServedFrom n (d + 1) xs desks backs

  -- connection i, from 0, was served by the worker of desk i modulo their number, those of a worker in their order
  abbrev pub HaveServedAll : List (C × W) → List (DeskView (ClientSink W)) → List (DeskView (ClientSink W)) → Type 0
  HaveServedAll xs desks after = HaveServedFrom (length desks) 0 xs desks after

  -- THE WORKER OF A DESK ended early: these connections were sent to it, and then its port put its Bye, or it was gone by then; and its
  -- box did not settle with that port
  pub record EndsEarly (connections : List (C × W)) (desk after : DeskView (ClientSink W)) : Type 0 where
    pub one : WorkerView (Unit {0}) C W
    pub is_new : IsNewOver config desk one
    pub end : WorkerEnd C W
    pub ended : HasEnded around one end
    pub desk_is : after ≡ end.desk
    pub told : Option (Outgoing (C × W))
    pub by_port : IfSome told (λ port. port ≡ with_bye (outgoing one.inbox.box 0 (posts 0 connections)))
    pub unsettled : ¬ IsSomeAnd told (SettlesWith end.inbox)

  -- the worker of the desk at this place is the first that ended early: those before it each served what was dealt to them
  pub record FirstEndsEarly (connections : List (C × W)) (place : ℕ) (desks after : List (DeskView (ClientSink W))) : Type 0 where
    pub before : List (DeskView (ClientSink W))
    pub desk : DeskView (ClientSink W)
    pub behind : List (DeskView (ClientSink W))
    pub parts : before ++ desk ∷ behind ≡ desks
    pub place_is : place ≡ length before
    pub backs : List (DeskView (ClientSink W))
    pub back : DeskView (ClientSink W)
    pub later : List (DeskView (ClientSink W))
    pub parts_after : backs ++ back ∷ later ≡ after
    pub served : HaveServedFrom (length desks) 0 connections before backs
    pub early : EndsEarly (dealt_to (length desks) (length before) 0 connections) desk back

-- a listener, and the desks for the connections that it accepts
pub record Reception (L W : Type 0) : Type 0 where
  pub listener : L
  pub desks : List (DeskView (ClientSink W))

-- this listener, with these desks
abbrev pub reception : {L W : Type 0} → L → List (DeskView (ClientSink W)) → Reception L W
reception listener desks = record { listener = listener; desks = desks }

-- what is around a crew: how a listener accepts a connection and how it fails, and what is around its workers
pub record Surroundings (L M C W : Type 0) : Type 1 where
  pub accepts : L → C × W → L → Type 0
  pub fails : L → L → Type 0
  pub workers : Peers M C W

-- a listener of which this is known, and what is around the workers
abbrev pub surroundings : {L M C W : Type 0} → (L → C × W → L → Type 0) → (L → L → Type 0) → Peers M C W → Surroundings L M C W
surroundings accepts fails workers = record { accepts = accepts; fails = fails; workers = workers }

module _ {L M C W : Type 0} (around : Surroundings L M C W) (config : Config) where
  -- these connections were accepted, as many as the configuration says
  pub record AcceptsJust (connections : List (C × W)) (before after : Reception L W) : Type 0 where
    pub all : length connections ≡ config.connections
    pub accepted : Accepts around.accepts before.listener connections after.listener

  -- these are fewer, and then the listener failed
  pub record FailsBehind (connections : List (C × W)) (before after : Reception L W) : Type 0 where
    pub fewer : length connections < config.connections
    pub last : L
    pub accepted : Accepts around.accepts before.listener connections last
    pub failed : around.fails last after.listener

  -- fewer were accepted, and one more, which is given up since its worker is gone, that of the desk at this place
  pub record LosesNext (place : ℕ) (before after : Reception L W) : Type 0 where
    pub connections : List (C × W)
    pub lost : C × W
    pub fewer : length connections < config.connections
    pub accepted : Accepts around.accepts before.listener (connections ++ lost ∷ []) after.listener
    pub worker : place ≡ length connections % length before.desks

  -- as many connections as the configuration says were accepted, and each was served
  pub record ServesAll (before after : Reception L W) : Type 0 where
    pub connections : List (C × W)
    pub accepted : AcceptsJust connections before after
    pub served : HaveServedAll around.workers config connections before.desks after.desks

  -- fewer were, and each of them was served; then the listener failed
  pub record ServesFewer (before after : Reception L W) : Type 0 where
    pub connections : List (C × W)
    pub accepted : FailsBehind connections before after
    pub served : HaveServedAll around.workers config connections before.desks after.desks

  -- there was no desk, and no connection was accepted
  pub record HasNoDesk (before after : Reception L W) : Type 0 where
    pub no_desk : before.desks ≡ []
    pub untouched : after.listener ≡ before.listener

  -- there was no memory for the workers of the desks, and no connection was accepted
  pub record HasNoMemory (before after : Reception L W) : Type 0 where
    pub some_desk : 0 < length before.desks
    pub untouched : after.listener ≡ before.listener

  -- how the worker of the desk at this place was lost: it did not begin, and no connection was accepted; the next connection was for it,
  -- and it was gone; or all were accepted, or fewer and then the listener failed, and it is the first that ended early
  pub data Loss (place : ℕ) (before after : Reception L W) : Type 0 where
    NeverBegan : after.listener ≡ before.listener → Loss place before after
    GoneBefore : LosesNext place before after → Loss place before after
    EarlyOfAll : (connections : List (C × W)) → AcceptsJust connections before after → FirstEndsEarly around.workers config connections place before.desks after.desks → Loss place before after
    EarlyOfFewer : (connections : List (C × W)) → FailsBehind connections before after → FirstEndsEarly around.workers config connections place before.desks after.desks → Loss place before after

  -- the worker of the desk at this place was lost
  pub record LosesWorker (place : ℕ) (before after : Reception L W) : Type 0 where
    pub within : place < length before.desks
    pub how : Loss place before after

  -- WHAT BECAME of the connections that were to be served, by what was answered
  abbrev pub ServesUntil : Result (Unit {0}) ServeFault → Reception L W → Reception L W → Type 0
  ServesUntil (Ok _) before after = ServesAll before after
  ServesUntil (Err Accept) before after = ServesFewer before after
  ServesUntil (Err NoDesk) before after = HasNoDesk before after
  ServesUntil (Err Memory) before after = HasNoMemory before after
  ServesUntil (Err (Thread place)) before after = LosesWorker place before after

-- HOW IT COMES TO THAT

-- the fault that an acceptor's stop is
abbrev pub fault_in : Result (Unit {0}) AcceptStop → Result (Unit {0}) ServeFault
fault_in (Ok _) = Ok tt
fault_in (Err NoConnection) = Err Accept
fault_in (Err (WorkerGone place)) = Err (Thread place)

-- how serving ended, by how dealing did, and by the first worker that did not have all: it is told but where an earlier fault is
-- that not all was served
abbrev pub with_lost : Result (Unit {0}) ServeFault → Option ℕ → Result (Unit {0}) ServeFault
with_lost dealt None = dealt
with_lost (Ok _) (Some place) = Err (Thread place)
with_lost (Err NoDesk) (Some place) = Err NoDesk
with_lost (Err Accept) (Some place) = Err (Thread place)
with_lost (Err (Thread first)) (Some place) = Err (Thread first)
with_lost (Err Memory) (Some place) = Err Memory

module _ {L C W : Type 0} (accepts : L → C × W → L → Type 0) (fails : L → L → Type 0) where
  -- how dealing ended: a worker was not hired, and nothing was accepted; or each was, and the connections were dealt to them until the
  -- acceptor stopped. The last of the workers was hired for the first desk
  pub data DealsUntil (count : ℕ) (ended : Result (Unit {0}) ServeFault) (listener listener_after : L) (here : List (DeskView (ClientSink W))) (workers : List (WorkerView (Unit {0}) C W)) (ports : List (Outgoing (C × W))) : Type 0 where
    NotHired : (fault : ServeFault) → ended ≡ Err fault → NamesLast (length here) fault → listener_after ≡ listener → DealsUntil count ended listener listener_after here workers ports
    AllHired : (stop : Result (Unit {0}) AcceptStop) → ended ≡ fault_in stop → here ≡ []
        → AcceptsAll accepts fails count stop listener listener_after (reverse (map port_to workers)) (reverse ports) → DealsUntil count ended listener listener_after here workers ports
