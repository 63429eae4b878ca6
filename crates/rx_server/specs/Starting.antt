-- Why a server was not started (this project's own rule).
--
-- Start and hand-out: a server that was started has a box for each subject, drainer and desk, of the sizes of the
-- configuration, each new; its pumps have hubs of the rules of the subjects, and all its parts are joined by these boxes;
-- where `start` made it, each of its drainers keeps what its sinks leave, and where `start_unread` did, none. One that was
-- not started names a pump, a drainer or a worker of the configuration by its number: for want of memory, or of a thread for
-- a pump or a drainer. `desk` hands out each desk once, in their order, each is one of the server's own, and has a port for
-- each subject, of which there is one at least.
use Rattle.std.specs.Prelude.{◌≡◌, ◌≢◌, ◌<◌, ◌⊎◌, ℕ, length}
use Rattle.rx_config.specs.declared.config.Config.{Config}
use Rattle.rx_server.specs.declared.wired.start_fault.Role.{Role}
use Rattle.rx_server.specs.declared.wired.start_fault.Role.TheVariants.{Drainer, Pump, Worker}
use Rattle.rx_server.specs.declared.wired.start_fault.StartCause.TheVariants.{Memory, NoThread}
use Rattle.rx_server.specs.declared.wired.start_fault.StartFault.{StartFault}
use Rattle.rx_server.specs.Wirings.{desk_count}

-- there was no memory for what the thread of this role and number needs
abbrev pub NoMemoryFor : Role → ℕ → StartFault → Type 0
NoMemoryFor role index fault = fault ≡ record { thread = role; index = index; cause = Memory }

-- or for one of so many threads of the role
abbrev pub NoMemoryBelow : Role → ℕ → StartFault → Type 0
NoMemoryBelow role count fault = (index : ℕ) × (index < count) × NoMemoryFor role index fault

-- the thread of this role and number was not to be had
abbrev pub NoThreadFor : Role → ℕ → StartFault → Type 0
NoThreadFor role index fault = fault ≡ record { thread = role; index = index; cause = NoThread }

-- or one of so many threads of the role
abbrev pub NoThreadBelow : Role → ℕ → StartFault → Type 0
NoThreadBelow role count fault = (index : ℕ) × (index < count) × NoThreadFor role index fault

-- there was no memory for the lists of the running threads, or one of so many pumps and drainers had no thread
abbrev pub CannotRun : ℕ → ℕ → StartFault → Type 0
CannotRun pumps drainers fault =
    NoMemoryFor Pump 0 fault ⊎ NoMemoryFor Drainer 0 fault ⊎ NoThreadBelow Pump pumps fault ⊎ NoThreadBelow Drainer drainers fault

-- how many threads of a role a server of this configuration has; of those that serve by a desk, the last is its face, if it has one
abbrev pub threads_of : Config → Role → ℕ
threads_of config Pump = length config.subjects.items
threads_of config Drainer = config.drainers
threads_of config Worker = desk_count config

-- there was no memory for what a thread of such a server needs
pub record NoMemoryIn (config : Config) (fault : StartFault) : Type 0 where
  pub index : fault.index < threads_of config fault.thread
  pub cause : fault.cause ≡ Memory

-- a thread of such a server was not to be had, or there was no memory for what it needs. A worker begins only to serve, so a
-- thread of its own is not what it lacks
pub record IsStartFaultOf (config : Config) (fault : StartFault) : Type 0 where
  pub index : fault.index < threads_of config fault.thread
  pub cause : fault.cause ≡ NoThread → fault.thread ≢ Worker
