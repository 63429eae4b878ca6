use Rattle.std.proofs.Common.{rules}
use Rattle.rx_pump.proofs.Turning.{IsPumped-told}
use Rattle.rx_mailbox.proofs.Told.{told-fresh}
use Rattle.rx_pump.proofs.pump.Pump.new.Goals as goal

pub invariant_of-result : goal.invariant_of-result
invariant_of-result g c =
    let fresh = c.requires.fresh in (
      IsPumped-told c.args.hub c.args.inbox c.args.drainers.items c.args.replies.items c.misses-misses_before.result fresh c.misses-misses_before.ensures c.misses-misses_before.type_inv,
      c.requires.some,
      search rules,
      search rules,
      search rules,
      search rules,
    )

pub returns : goal.returns
returns g c =
    let fresh = c.requires.fresh in
    rw (told-fresh c.args.drainers.items fresh.drainers_are, told-fresh c.args.replies.items fresh.callers_are) (search rules)
