-- What an acceptor does with the connections that it accepts: it deals them to its workers in turn (this project's own rule).
--
-- The acceptor: connection i, from 0, goes to worker i modulo their number, each once; after a fault those before it did.
use Rattle.std.specs.Prelude.{◌≡◌, ◌+◌, ◌<◌, ◌%◌, ℕ, List, [], ◌∷◌, ◌++◌, length, Result, Ok, Err}
use Rattle.rx_mailbox.specs.Boxes.{Outgoing}
use Rattle.rx_pump.specs.Marks.{to_port}
use Rattle.rx_mailbox.specs.PortRows.{Puts}
use Rattle.rx_workers.specs.declared.crew.acceptor.AcceptStop.{AcceptStop}
use Rattle.rx_workers.specs.declared.crew.acceptor.AcceptStop.TheVariants.{NoConnection, WorkerGone}

module _ {X : Type 0} where
  -- a port holds nothing back
  abbrev pub HoldsNothing : Outgoing X → Type 0
  HoldsNothing port = port.held ≡ 0

  -- of connections that are counted from `first`, those that go to worker d of n
  abbrev pub dealt_to : ℕ → ℕ → ℕ → List X → List X
  dealt_to n d first [] = []
  dealt_to n d first (x ∷ xs) = to_port (first % n) d x ++ dealt_to n d (first + 1) xs

  -- each connection was sent to its worker
  abbrev pub Deals : List X → List (Outgoing X) → List (Outgoing X) → Type 0
  Deals xs before after = Puts (λ d. dealt_to (length before) d 0 xs) before after

module _ {L X : Type 0} (accepts : L → X → L → Type 0) where
  -- these connections were accepted, one after another
  abbrev pub Accepts : L → List X → L → Type 0
  Accepts before [] after = after ≡ before
  Accepts before (x ∷ xs) after = (next : L) × accepts before x next × Accepts next xs after

module _ {L X : Type 0} (accepts : L → X → L → Type 0) (fails : L → L → Type 0) where
  -- what became of so many connections that were to be accepted
  abbrev pub AcceptsAll : ℕ → Result (Unit {0}) AcceptStop → L → L → List (Outgoing X) → List (Outgoing X) → Type 0
  -- they were accepted, and each was sent to its worker
  AcceptsAll count (Ok _) listener listener_after before after =
      (xs : List X) × (length xs ≡ count) × Accepts accepts listener xs listener_after × Deals xs before after
  -- fewer were, and then the listener failed
  AcceptsAll count (Err NoConnection) listener listener_after before after =
      (xs : List X) × (last : L) × (length xs < count) × Accepts accepts listener xs last × fails last listener_after × Deals xs before after
  -- fewer were, and the worker of the next one is gone
  AcceptsAll count (Err (WorkerGone place)) listener listener_after before after =
      (xs : List X) × (x : X) × (length xs < count) × Accepts accepts listener (xs ++ x ∷ []) listener_after × (place ≡ length xs % length before)
      × Deals xs before after

  -- what became of the connection of this number, which was to be accepted
  abbrev pub AcceptsNext : ℕ → Result (Unit {0}) AcceptStop → L → L → List (Outgoing X) → List (Outgoing X) → Type 0
  -- it was accepted, and sent to its worker
  AcceptsNext number (Ok _) listener listener_after before after =
      (x : X) × accepts listener x listener_after × Puts (λ d. to_port (number % length before) d x) before after
  -- the listener failed
  AcceptsNext number (Err NoConnection) listener listener_after before after = fails listener listener_after × (after ≡ before)
  -- its worker is gone
  AcceptsNext number (Err (WorkerGone place)) listener listener_after before after =
      (x : X) × accepts listener x listener_after × (place ≡ number % length before) × (after ≡ before)
