use Rattle.std.proofs.Common.{◌≡◌}
use Rattle.test_threads.proofs.two_threads.receive_all.Given as goal

abbrev pub invariant-loop : goal.invariant-loop
invariant-loop g l = record {
  goes : (goal.iterator-loop g).can_next l.iterator' × (goal.iterator-loop g).is_finite l.iterator';
  same : l.inbox.box ≡ l.fn.inbox.box;
  ports : l.inbox.ports ≡ 2;
}
