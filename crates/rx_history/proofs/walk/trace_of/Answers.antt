use Rattle.std.proofs.Common.{take, refl, ◌∙◌}
use Rattle.rx_history.specs.Stored.{history_of}
use Rattle.rx_history.proofs.Extending.{history_of-next}
use Rattle.rx_history.proofs.walk.trace_of.Goals as goal

pub loop-entry-init : goal.loop-entry-init
loop-entry-init c = record {
  agrees = record { has_roster = c.new.ensures; has_past = c.new-2.ensures c.args.rules.now; has_trace = tt };
  same_who = refl;
}

pub loop-entry-preserved : goal.loop-entry-preserved
loop-entry-preserved c =
    let entries = c.args.entries.now in
    let i = c.loop-entry.entry-index in
    let entry = c.entry-item in
    let was = c.loop-entry.invariant in
    record {
      agrees =
          rw (history_of-next entries i entry.result c.loop-entry-test.true entry.is)
          (c.in_ok-turn.ensures.passes (history_of (take i entries)) was.agrees);
      same_who = c.in_ok-turn.ensures.who ∙ was.same_who;
    }
