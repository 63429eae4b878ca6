use Rattle.std.proofs.Common.{◌≡◌, false}
use Rattle.crossbeam_channel.specs.Claims.{view, IsSeatAt}
use Rattle.crossbeam_channel.specs.Ends.{sends_on}
use Rattle.rx_mailbox.specs.Passes.{IsPort}
use Rattle.rx_mailbox.proofs.channel.put_again.Given as goal

-- the letter was not put yet, and comes back each time
abbrev pub invariant-loop : goal.invariant-loop
invariant-loop g l = record {
  seat : IsSeatAt (sends_on l.sender) l.pass;
  same : view l.pass ≡ view l.initial.pass;
  port : IsPort l.fn.refused.from false (view l.pass);
  letter : l.letter ≡ l.fn.refused;
}
