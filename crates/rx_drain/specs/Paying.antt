-- What is due and what waits where nothing ever waits in a sink (this project's own rule).
use Rattle.std.specs.Prelude.{◌≡◌, false, None}
use Rattle.std.specs.List.{AllByRecursion}
use Rattle.rx_sink.specs.Acts.{Acts}
use Rattle.rx_sink.specs.Waiting.{NeverWaits}
use Rattle.rx_drain.specs.Drainers.{DrainerView, IsDrained, any_may_wait}

module _ {S Rest : Type 0} (acts : Acts S Rest) where
  -- a drainer of such sinks, without a fault, owes nothing for any that it keeps
  abbrev pub OwesNothing : Type 0
  OwesNothing = (view : DrainerView S Rest) → NeverWaits acts → IsDrained acts view → view.fault ≡ None → AllByRecursion (λ one. one.due ≡ 0) view.kept

  -- nor may anything wait in one of them
  abbrev pub NothingWaits : Type 0
  NothingWaits = (view : DrainerView S Rest) → NeverWaits acts → IsDrained acts view → view.fault ≡ None → any_may_wait view.kept ≡ false
