use Rattle.std.proofs.Common.{◌≡◌}
use Rattle.rx_mailbox.specs.Boxes.{outgoing}
use Rattle.test_threads.specs.Bodies.{bodies_of}
use Rattle.test_threads.proofs.two_threads.send_all.Given as goal

abbrev pub invariant-loop-body : goal.invariant-loop-body
invariant-loop-body g l = l.port ≡ outgoing l.fn.port.box l.fn.port.number (bodies_of l.fn.port.number l.body)
