-- When a box settles, and what it has then received (this project's own rule).
--
-- Settling: `settle` answers `Stranger` exactly where the ports aren't each number of the box once, else `MissingBye` exactly
-- where a Bye wasn't received; then all parts come back unchanged. Else of every port what was received is its own list,
-- whole and in its order, and `letters` is the number received (it stays at the greatest u64). What the settled box knows,
-- its ports made and ended and the letters received, leaves the queue empty wherever the rule holds (`IsEmptied` of
-- `specs/Passes.antt`)
use Rattle.std.specs.Prelude.{◌≡◌, ◌==◌, ◌<◌, ◌^◌, ◌-◌, min, ℕ, List, length}
use Rattle.std.specs.List.{All, count_by}
use Rattle.rx_mailbox.specs.declared.letter.Letter.{Letter}
use Rattle.rx_mailbox.specs.declared.settlement.settle_cause.SettleCause.{SettleCause}
use Rattle.rx_mailbox.specs.declared.settlement.settle_cause.SettleCause.TheVariants.{Stranger, MissingBye}
use Rattle.rx_mailbox.specs.Letters.{share}
use Rattle.rx_mailbox.specs.Boxes.{Outgoing, Incoming, HasEachBye}

module _ {B : Type 0} where
  -- each number below `made` is that of just one of the ports, and no port has another number
  abbrev pub IsEachOnce : ℕ → List (Outgoing B) → Type 0
  IsEachOnce made ports =
      All (λ port. port.number < made) ports × ((number : ℕ) → number < made → count_by (λ port. port.number == number) ports ≡ 1)

  -- what was received of the port is all that it put, in its order
  abbrev pub GotAll : Incoming B → Outgoing B → Type 0
  GotAll inbox port = share port.number inbox.received ≡ port.own

  -- why an inbox and ports did not settle
  abbrev pub IsCause : Incoming B → List (Outgoing B) → SettleCause → Type 0
  IsCause inbox ports Stranger = ¬ IsEachOnce inbox.ports ports
  IsCause inbox ports MissingBye = IsEachOnce inbox.ports ports × ¬ HasEachBye inbox

  -- how many letters these are, up to the greatest `u64`
  abbrev pub letter_count : List (Letter B) → ℕ
  letter_count received = min (length received) (2 ^ 64 - 1)
