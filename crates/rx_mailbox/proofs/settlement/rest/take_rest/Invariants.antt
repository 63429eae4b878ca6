use Rattle.std.proofs.Common.{◌≡◌}
use Rattle.crossbeam_channel.specs.Claims.{view, IsSeatAt}
use Rattle.crossbeam_channel.specs.Ends.{receives_on}
use Rattle.rx_mailbox.specs.Passes.{inbox_of, notes_of, IsReader}
use Rattle.rx_mailbox.specs.Rests.{ReceivesMore}
use Rattle.rx_mailbox.specs.Settling.{letter_count}
use Rattle.rx_mailbox.proofs.settlement.rest.take_rest.Given as goal

-- the inbox's pass has its notes, and knows of what was received so far
abbrev pub invariant-loop : goal.invariant-loop
invariant-loop g l = record {
  seat : IsSeatAt (receives_on l.receiver) l.pass;
  reader : IsReader (view l.pass);
  received : ReceivesMore (inbox_of l.initial.pass) (inbox_of l.pass);
  notes : notes_of (view l.pass) ≡ notes_of (view l.initial.pass);
  letters : l.letters ≡ letter_count (inbox_of l.pass).received;
}
