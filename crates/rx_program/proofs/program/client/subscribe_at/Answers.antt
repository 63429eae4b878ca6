use Rattle.std.proofs.Common.{None, false}
use Rattle.rx_client.proofs.Written.{breaks-none}
use Rattle.rx_client.specs.Following.{new_follower}
use Rattle.rx_program.specs.Clients.{format_of}
use Rattle.rx_program.proofs.program.client.subscribe_at.Goals as goal

pub returns-in_default : goal.returns-in_default
returns-in_default g c = (None, false, breaks-none (format_of c.args.subscription.is_json) (new_follower None false) (g.W.Write.contents c.args.writer.now))

pub returns-in-Ok-subscribe : goal.returns-in-Ok-subscribe
returns-in-Ok-subscribe g c = (c.and_then.result, c.starts_with.result, rw (← c.format_of.ensures) c.in-Ok-subscribe.ensures)

pub returns : goal.returns
returns g c = (c.and_then.result, c.starts_with.result, rw (← c.format_of.ensures) c.in-Err.ensures)
