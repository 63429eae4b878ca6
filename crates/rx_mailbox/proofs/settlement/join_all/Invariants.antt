use Rattle.std.proofs.Common.{◌≡◌, []}
use Rattle.std.specs.List.{All}
use Rattle.crossbeam_channel.specs.Claims.{view}
use Rattle.rx_mailbox.specs.Passes.{inbox_of, IsReader, IsNoted, KeepsNotes}
use Rattle.rx_mailbox.proofs.settlement.join_all.Given as goal

-- the inbox's pass still knows what was received, and has a note of each port so far
abbrev pub invariant-loop-port : goal.invariant-loop-port
invariant-loop-port g l = record {
  reader : IsReader (view l.pass);
  free : l.pass.me.1 ≡ [];
  same : inbox_of l.pass ≡ inbox_of l.initial.pass;
  keeps : KeepsNotes (view l.initial.pass) (view l.pass);
  noted : All (IsNoted (view l.pass)) l.yielded;
}
