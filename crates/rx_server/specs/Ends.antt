-- What the threads of a role leave, as they are joined one after another (this project's own rule).
use Rattle.std.specs.Prelude.{◌≡◌, ℕ, List, [], ◌∷◌, ◌++◌, length, take, Option, None, Some, Result, Ok, Err, MatchResult, slice_get}
use Rattle.std.specs.List.{AllZip}
use Rattle.rx_server.specs.declared.close.close_fault.CloseCause.TheVariants.{Ended}
use Rattle.rx_server.specs.declared.close.close_fault.CloseFault.{CloseFault}
use Rattle.rx_server.specs.declared.wired.start_fault.Role.{Role}

module _ {T E F : Type 0} (served : T → E → Type 0) (stopped : T → F → Type 0) where
  -- each thread served to its end, or stopped at a fault of its own
  abbrev pub AreOver : List T → Type 0
  AreOver threads = (left : List (Result E F)) × AllZip (λ thread one. MatchResult one (served thread) (stopped thread)) threads left

  -- the thread at this place is the first that stopped at a fault of its own; those behind it ended too
  pub record FirstStopped (threads : List T) (place : ℕ) : Type 0 where
    pub ends : List E
    pub before : AllZip served (take place threads) ends
    pub thread : T
    pub stood : slice_get threads place ≡ Some thread
    pub stop : F
    pub left : stopped thread stop
    pub all : AreOver threads

  -- the fault names the first thread of a role that stopped at a fault of its own
  pub record NamesFirst (role : Role) (threads : List T) (fault : CloseFault) : Type 0 where
    pub thread : fault.thread ≡ role
    pub cause : fault.cause ≡ Ended
    pub first : FirstStopped threads fault.index

-- one more thread was joined: what it left stands behind what the others left; the first that left nothing is the fault, and from
-- then on nothing more is kept
abbrev pub Keeps : {E F : Type 0} → Role → Result E F → List E → Option CloseFault → List E → Option CloseFault → Type 0
Keeps role joined ends (Some first) after fault = (after ≡ ends) × (fault ≡ Some first)
Keeps role (Ok end) ends None after fault = (after ≡ ends ++ end ∷ []) × (fault ≡ None)
Keeps role (Err cause) ends None after fault =
    (after ≡ ends) × (fault ≡ Some (record { thread = role; index = length ends; cause = Ended }))
