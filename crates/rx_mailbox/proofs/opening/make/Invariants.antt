use Rattle.std.proofs.Common.{◌≡◌, [], map}
use Rattle.std.specs.List.{range_with_len}
use Rattle.crossbeam_channel.specs.Claims.{view}
use Rattle.rx_mailbox.specs.declared.channel.rule.View.TheVariants.{Receives}
use Rattle.rx_mailbox.specs.Boxes.{capacity_of, outgoing}
use Rattle.rx_mailbox.specs.Passes.{box_of, IsTally}
use Rattle.rx_mailbox.proofs.opening.make.Given as goal

-- the ports so far are numbered from 0, each of them new
abbrev pub invariant-loop-number : goal.invariant-loop-number
invariant-loop-number g l = record {
  view : view l.new.pass ≡ Receives l.number [] [];
  tally : IsTally {B = g.row.B.Denot} l.new.byes.items (Receives l.senders [] []);
  capacity : capacity_of (box_of l.new.pass) ≡ l.capacity;
  ports : l.ports.items ≡ map (λ number. outgoing (box_of l.new.pass) number []) (range_with_len 0 l.number);
}
