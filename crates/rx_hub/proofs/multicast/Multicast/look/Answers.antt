use Rattle.std.proofs.Common.{refl, ap, ◌∙◌}
use Rattle.rx_hub.specs.Looks.{end_as}
use Rattle.rx_hub.specs.Multicasts.{state_of}
use Rattle.rx_hub.proofs.Looking.{seen_of}
use Rattle.rx_hub.proofs.multicast.Multicast.look.Goals as goal

pub returns-clause-seen : goal.returns-clause-seen
returns-clause-seen c = λ H stands. seen_of (state_of c.args.self.now) H _ c.items-seen.ensures (c.of-seen.ensures ∙ ap end_as c.end.ensures) refl c.in_ok-show.ensures.shown stands
