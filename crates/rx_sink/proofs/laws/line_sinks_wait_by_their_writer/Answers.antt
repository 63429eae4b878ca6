use Rattle.std.proofs.Common.{◌≡◌, ◌∙◌, sym, refl, ap, true≢false, false}
use Rattle.rx_sink.specs.Kinds.{FlushLeaves, flow_behind}
use Rattle.rx_sink.specs.declared.flow.Flow.{Flow}
use Rattle.rx_sink.specs.declared.flow.Flow.TheVariants.{Clear, Ready, Stuck, Held}
use Rattle.rx_sink.specs.declared.line_sink.LineSink.{LineSink}
use Rattle.rx_sink.proofs.laws.line_sinks_wait_by_their_writer.Goals as goal

-- a flush finds a sink stuck only over a writer that gathers
stuck_by_its_writer : {W : Type 0} (flow : Flow) (s t : LineSink W) → FlushLeaves flow s t → s.gathers ≡ false → flow ≡ Clear
stuck_by_its_writer Clear s t leaves plain = refl
stuck_by_its_writer Ready s t leaves plain = absurd leaves
stuck_by_its_writer Stuck s t leaves plain = absurd (true≢false (sym leaves.0 ∙ plain))
stuck_by_its_writer Held s t leaves plain = absurd leaves

pub returns : goal.returns
returns g c = record {
  took = λ s note flow t is. (λ plain. is.0 ∙ ap (λ b. flow_behind b s.stuck t.far t.ahead) plain, is.4);
  flushed = λ s flow t is. (stuck_by_its_writer flow s t is.0, is.4);
}
