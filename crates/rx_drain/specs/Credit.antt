-- Whose credit is held back (this project's own rule).
--
-- Credit: After each turn without a fault each sink that is kept was flushed last, and something is due of those alone that
-- were found stuck, or whose reader asks for items itself. Where nothing ever waits in a sink, as in a `MemorySink`, nothing is due of any that is kept, and nothing
-- may wait in it, so that each turn receives a letter; in a `LineSink` something waits only where its writer gathers what it
-- is given (`LineSink::gathering`)
--
-- Credit can't be withheld: that of a sink which was not flushed last, or then answered neither, all is paid at the end of a
-- turn is in the invariant of a drainer. A law alone, that whatever is due was held back by a stuck sink, would pass a
-- drainer that never flushes.
--
-- No more than a `u32` counts is held back of a sink; one item more is paid. Else a count of what is due would need a
-- bound that nothing gives.
use Rattle.std.specs.Prelude.{◌≡◌, ◌⊎◌, ℕ, Some}
use Rattle.std.specs.List.{AllByRecursion}
use Rattle.rx_sink.specs.declared.flow.Flow.{Flow}
use Rattle.rx_sink.specs.declared.flow.Flow.TheVariants.{Clear, Ready, Stuck, Held}
use Rattle.rx_sink.specs.Acts.{Flushes}
use Rattle.rx_sink.specs.Attachments.{Attachment}
use Rattle.rx_drain.specs.Logs.{Log, kept_in}

-- a sink that stands so may be one of which something is due
abbrev pub MayOwe : Flow → Type 0
MayOwe Clear = ⊥
MayOwe Ready = ⊥
MayOwe Stuck = Unit {0}
MayOwe Held = Unit {0}

module _ {S : Type 0} where
  -- its sink was flushed last, and nothing is due of it, unless the sink was found stuck or its reader asks itself
  abbrev pub IsPaid : Attachment S → Type 0
  IsPaid a = (flow : Flow) × (a.last ≡ Some (Flushes flow)) × ((a.due ≡ 0) ⊎ MayOwe flow)

  -- each attachment that is kept is so
  abbrev pub AreAllPaid : ℕ → Log S → Type 0
  AreAllPaid leave log = AllByRecursion IsPaid (kept_in leave log)
