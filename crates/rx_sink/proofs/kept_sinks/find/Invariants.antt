use Rattle.std.proofs.Common.{◌≡◌, ℕ, false, Some, slice_get}
use Rattle.rx_sink.specs.declared.kept.Kept.{Kept}
use Rattle.rx_sink.specs.Attachments.{is_for}
use Rattle.rx_sink.proofs.Looking.{IsLookedAt}
use Rattle.rx_sink.proofs.kept_sinks.find.Given as goal

-- none of the places that were looked at is that of the observer
abbrev pub invariant-loop-step : goal.invariant-loop-step
invariant-loop-step g l = (i : ℕ) (one : Kept _) → slice_get l.kept i ≡ Some one → IsLookedAt l.first l.step i → is_for l.subject l.who one ≡ false
