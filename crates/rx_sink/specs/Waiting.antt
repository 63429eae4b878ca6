-- In which kinds of sink nothing ever waits, or only in some (this project's own rule).
use Rattle.std.specs.Prelude.{◌≡◌, Bool, false}
use Rattle.rx_note.specs.declared.note.Note.{Note}
use Rattle.rx_sink.specs.declared.flow.Flow.{Flow}
use Rattle.rx_sink.specs.declared.flow.Flow.TheVariants.{Clear}
use Rattle.rx_sink.specs.Acts.{Acts}

module _ {S Rest : Type 0} (acts : Acts S Rest) where
  -- no take and no flush answers that something waits
  pub record NeverWaits : Type 0 where
    pub took : (s : S) (note : Note) (flow : Flow) (t : S) → acts.took s note flow t → flow ≡ Clear
    pub flushed : (s : S) (flow : Flow) (t : S) → acts.flushed s flow t → flow ≡ Clear

  -- something waits in a sink only where this is so of it, and what it takes and a flush leave that as it is
  pub record WaitsOnlyWhere (gathers : S → Bool) : Type 0 where
    pub took : (s : S) (note : Note) (flow : Flow) (t : S) → acts.took s note flow t → (gathers s ≡ false → flow ≡ Clear) × (gathers t ≡ gathers s)
    pub flushed : (s : S) (flow : Flow) (t : S) → acts.flushed s flow t → (gathers s ≡ false → flow ≡ Clear) × (gathers t ≡ gathers s)
