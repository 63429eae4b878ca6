use Rattle.std.proofs.Common.{◌≡◌, []}
use Rattle.std.specs.List.{All}
use Rattle.crossbeam_channel.specs.Claims.{view}
use Rattle.rx_mailbox.specs.Passes.{inbox_of, IsReader}
use Rattle.rx_mailbox.specs.Rests.{IsJoined}
use Rattle.rx_mailbox.proofs.settlement.rest.note_all.Given as goal

-- the inbox's pass still knows what was received, and each port so far was joined
abbrev pub invariant-loop-port : goal.invariant-loop-port
invariant-loop-port g l = record {
  reader : IsReader (view l.pass);
  free : l.pass.me.1 ≡ [];
  same : inbox_of l.pass ≡ inbox_of l.initial.pass;
  joined : All (IsJoined (view l.pass)) l.yielded;
}
