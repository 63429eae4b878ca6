-- What a worker leaves once it has served all its connections (this project's own rule).
use Rattle.std.specs.Prelude.{ℕ, List, Option}
use Rattle.rx_desk.specs.SessionDesks.{Queue}
use Rattle.rx_workers.specs.Telling.{IsTold}
use Rattle.rx_workers.specs.Working.{WorkerView, worker, HasWorked}
use Rattle.rx_desk.specs.declared.joined.Joined.{Joined}
use Rattle.rx_workers.specs.declared.worker.worker_end.WorkerEnd.{WorkerEnd}

-- the worker with the desk and the inbox that it left, whoever joined last and whatever its sessions began to emit
abbrev pub worker_at_end : {C W : Type 0} → WorkerView (Unit {0}) C W → Option Joined → Queue → WorkerEnd C W → WorkerView (Unit {0}) C W
worker_at_end before joined queue end =
    worker (record { subjects = before.session.subjects; window = before.session.window; moments = tt; calls = end.desk; joined = joined; queue = queue }) end.inbox

-- what is around the workers: how a moment is told, which bytes are left to a reader, and which a writer was given
pub record Peers (M C W : Type 0) : Type 1 where
  pub tells : M → ℕ → M → Type 0
  pub remaining : C → Option (List ℕ)
  pub contents : W → Option (List ℕ)

-- moments, readers and writers of whom this is known
abbrev pub peers : {M C W : Type 0} → (M → ℕ → M → Type 0) → (C → Option (List ℕ)) → (W → Option (List ℕ)) → Peers M C W
peers tells remaining contents = record { tells = tells; remaining = remaining; contents = contents }

module _ {M C W : Type 0} (around : Peers M C W) where
  -- a worker served its connections, at moments that were told in some state, and counted them
  abbrev pub HasServed : WorkerView (Unit {0}) C W → WorkerView (Unit {0}) C W → ℕ → Type 0
  HasServed before after sessions = HasWorked (λ _ moment _. IsTold around.tells moment) around.remaining around.contents before after sessions

  -- the worker handed in did, and this is what it left
  abbrev pub HasEnded : WorkerView (Unit {0}) C W → WorkerEnd C W → Type 0
  HasEnded before end = (joined : Option Joined) × (queue : Queue) × HasServed before (worker_at_end before joined queue end) end.sessions
