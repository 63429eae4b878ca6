use Rattle.std.proofs.Common.{refl}
use Rattle.rx_program.proofs.program.run_task.Goals as goal

pub returns-in-Check : goal.returns-in-Check
returns-in-Check g c = rw c.in-Check.is (c.check_at.ensures, refl)

pub returns-in-Publish : goal.returns-in-Publish
returns-in-Publish g c = rw c.in-Publish.is c.publish_at.ensures

pub returns-in-Subscribe : goal.returns-in-Subscribe
returns-in-Subscribe g c = rw c.in-Subscribe.is (c.subscribe_at.ensures, refl)

pub returns-in-Stats : goal.returns-in-Stats
returns-in-Stats g c = rw c.in-Stats.is (c.stats_at.ensures, refl)
