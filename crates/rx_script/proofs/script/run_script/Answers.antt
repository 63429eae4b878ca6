use Rattle.std.proofs.Common.{refl}
use Rattle.rx_script.proofs.SoFar.{SoFar-begun, SoFar-put, SoFar-line, Runs-fault, Runs-end}
use Rattle.rx_script.proofs.Turning.{in_hand}
use Rattle.rx_script.proofs.script.run_script.Goals as goal

pub loop-step-init : goal.loop-step-init
loop-step-init g c =
    (SoFar-begun _ _ _ _ _ (c.new-script.ensures.state _ c.in_ok-topics.ensures) c.new-lines.ensures.unread c.new-script.ensures.outbox, c.new-lines.ensures.end)

pub returns-in_default-clause-runs : goal.returns-in_default-clause-runs
returns-in_default-clause-runs g c =
    rw c.in_default.ensures.no_read (Runs-fault _ _ _ _ _ _ _ _ _ c.loop-step.invariant.0 c.in_default.ensures.puts)

pub tell_step-requires : goal.tell_step-requires
tell_step-requires g c = in_hand _ _ _ _ _ c.in-Ok.ensures.goes

pub returns-in-Some-clause-runs : goal.returns-in-Some-clause-runs
returns-in-Some-clause-runs g c =
    let caught_up = SoFar-put _ _ _ _ _ _ _ _ _ _ c.loop-step.invariant.0 c.in-Ok.ensures.topics c.in-Ok.ensures.moment c.in-Ok.ensures.version refl c.in-Ok.ensures.puts in
    Runs-end c.in-Some.end _ _ _ _ _ _ _ _ _ _ _ caught_up c.in-Ok.ensures.empty (c.in-Some.ensures _ _ _ c.in-Ok.ensures.goes)

pub loop-step-preserved : goal.loop-step-preserved
loop-step-preserved g c =
    let caught_up = SoFar-put _ _ _ _ _ _ _ _ _ _ c.loop-step.invariant.0 c.in-Ok.ensures.topics c.in-Ok.ensures.moment c.in-Ok.ensures.version refl c.in-Ok.ensures.puts in
    let turn = c.in_default-tell_step.ensures _ _ _ c.in-Ok.ensures.goes in
    (SoFar-line _ _ _ _ _ _ _ _ _ _ _ caught_up turn.0, turn.1.no_end)
