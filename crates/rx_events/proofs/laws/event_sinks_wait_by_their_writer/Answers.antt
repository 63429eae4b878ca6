use Rattle.std.proofs.Common.{◌≡◌, ◌∙◌, ◌||◌, Bool, sym, refl, ap, true≢false, true, false}
use Rattle.rx_note.specs.declared.note.Note.{Note}
use Rattle.rx_note.specs.declared.note.Note.TheVariants.{Next, Completed, Failed}
use Rattle.rx_sink.specs.Kinds.{flow_behind}
use Rattle.rx_sink.specs.declared.flow.Flow.{Flow}
use Rattle.rx_sink.specs.declared.flow.Flow.TheVariants.{Clear, Ready, Stuck, Held}
use Rattle.rx_events.specs.Asking.{asker_after, held_by, holds, is_reader}
use Rattle.rx_events.specs.Sinks.{FlushLeaves}
use Rattle.rx_events.specs.declared.asker.Asker.{Asker}
use Rattle.rx_events.specs.declared.asker.Asker.TheVariants.{Drainer, Reader}
use Rattle.rx_events.specs.declared.event_sink.EventSink.{EventSink}
use Rattle.rx_events.proofs.laws.event_sinks_wait_by_their_writer.Goals as goal

neither : (a b : Bool) → (a || b) ≡ false → (a ≡ false) × (b ≡ false)
neither true b none = cc
neither false b none = (refl, none)

-- what is held back is so for a reader that asks
holds_none : (asker : Asker) → is_reader asker ≡ false → holds asker ≡ false
holds_none Drainer none = refl
holds_none (Reader told) none = cc

-- who asks stays
reader_stays : (asker : Asker) (note : Note) (told : Bool) → is_reader (asker_after asker note told) ≡ is_reader asker
reader_stays Drainer note told = refl
reader_stays (Reader before) (Next item) told = refl
reader_stays (Reader before) Completed told = refl
reader_stays (Reader before) (Failed text) told = refl

-- a flush finds a sink stuck only over a writer that gathers, and holding back only for such a reader
by_its_writer : {W : Type 0} (flow : Flow) (s t : EventSink W) → FlushLeaves flow s t → s.gathers ≡ false → holds s.asker ≡ false → flow ≡ Clear
by_its_writer Clear s t leaves plain none = refl
by_its_writer Ready s t leaves plain none = absurd leaves
by_its_writer Stuck s t leaves plain none = absurd (true≢false (sym leaves.0 ∙ plain))
by_its_writer Held s t leaves plain none = absurd (true≢false (sym leaves.0 ∙ none))

pub returns : goal.returns
returns g c = record {
  took = λ s note flow t is.
      let (flows, wrote, stays, standing, notes, faults, ahead, stuck, asker) = is in (
        λ none.
            let (plain, nobody) = neither s.gathers (is_reader s.asker) none in
            let free : holds t.asker ≡ false = holds_none t.asker (ap is_reader asker ∙ reader_stays s.asker note _ ∙ nobody) in
            flows ∙ ap (λ b. held_by b (flow_behind s.gathers t.stuck false t.ahead)) free ∙ ap (λ b. flow_behind b t.stuck false t.ahead) plain,
        ap (λ b. b || is_reader t.asker) stays.gathers ∙ ap (λ b. s.gathers || b) (ap is_reader asker ∙ reader_stays s.asker note _),
      );
  flushed = λ s flow t is.
      let (leaves, wrote, stays, standing, notes, faults, asker) = is in (
        λ none.
            let (plain, nobody) = neither s.gathers (is_reader s.asker) none in
            by_its_writer flow s t leaves plain (holds_none s.asker nobody),
        ap (λ b. b || is_reader t.asker) stays.gathers ∙ ap (λ b. s.gathers || b) (ap is_reader asker),
      );
}
