use Rattle.std.proofs.Common.{ap, ◌%◌, arith}
use Rattle.rx_workers.proofs.Dealing.{sends_one, set_same, held_at}
use Rattle.rx_workers.proofs.crew.acceptor.accept_next.Goals as goal

-- the worker is gone
pub returns-in_default-send-clause-accepts : goal.returns-in_default-send-clause-accepts
returns-in_default-send-clause-accepts g c =
    let nothing = held_at c.args.ports.now.items (c.args.number % c.len.result) c.index_mut.result.now (omega (arith, c.len.ensures, c.requires.some)) c.index_mut.ensures.value c.requires.nothing in (
      c.in-Ok.connection,
      c.in-Ok.ensures.accepted,
      ap (λ n. c.args.number % n) (omega (arith, c.len.ensures)),
      set_same c.args.ports.now.items (c.args.number % c.len.result) c.index_mut.result.now c.send.new.self c.index_mut.ensures.value (c.in_default-send.ensures.still nothing),
    )

-- the connection was sent
pub returns-clause-accepts : goal.returns-clause-accepts
returns-clause-accepts g c =
    let nothing = held_at c.args.ports.now.items (c.args.number % c.len.result) c.index_mut.result.now (omega (arith, c.len.ensures, c.requires.some)) c.index_mut.ensures.value c.requires.nothing in (
      c.in-Ok.connection,
      c.in-Ok.ensures.accepted,
      sends_one c.args.ports.now.items c.args.number c.len.result c.index_mut.result.now c.send.new.self c.in-Ok.connection
          (omega (arith, c.len.ensures)) (omega (arith, c.requires.some)) c.index_mut.ensures.value nothing c.in-Ok-send.ensures.sent,
    )
