use Rattle.std.proofs.Common.{◌≡◌, vec_len}
use Rattle.rx_mailbox.specs.Boxes.{all_told}
use Rattle.rx_mailbox.proofs.port.rings_of_ports.nudge_all.Given as goal

-- each port is as it was, whatever it holds back
abbrev pub invariant-loop-place : goal.invariant-loop-place
invariant-loop-place g l = (all_told l.ports.items ≡ all_told l.initial.ports.items) × (vec_len l.ports ≡ vec_len l.initial.ports)
