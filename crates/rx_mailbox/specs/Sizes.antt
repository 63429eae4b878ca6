-- The sizes of a box (this project's own rule).
use Rattle.std.specs.Prelude.{◌≤◌, ◌<◌, ℕ}
use Rattle.rx_mailbox.specs.declared.opening.TheConstants.{MAX_CAPACITY, MAX_PORTS}

-- a box for so many letters, with so many ports, may be opened
abbrev pub IsSize : ℕ → ℕ → Type 0
IsSize capacity senders = (0 < capacity) × (capacity ≤ MAX_CAPACITY) × (0 < senders) × (senders ≤ MAX_PORTS)
