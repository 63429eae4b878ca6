use Rattle.std.proofs.Common.{◌≡◌, arith}
use Rattle.test_threads.specs.declared.two_threads.TheConstants.{BODIES}
use Rattle.test_threads.proofs.Bodies.{bodies_more, bodies_end}
use Rattle.test_threads.proofs.two_threads.send_all.Goals as goal

pub loop-body-preserved : goal.loop-body-preserved
loop-body-preserved g c = bodies_more c.args.port _ _ c.loop-body.body c.loop-body.invariant c.send.ensures

pub returns : goal.returns
returns g c =
    let all : c.loop-body.body ≡ BODIES = omega arith in
    bodies_end c.args.port _ _ c.loop-body.body BODIES all c.loop-body.invariant c.finish.ensures
