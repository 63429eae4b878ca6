use Rattle.std.proofs.Common.{arith}
use Rattle.rx_client.proofs.Lines.{no-port, not-placed}
use Rattle.rx_client.proofs.heard.read_item.Goals as goal

pub returns-in_default-decimal_before_space-2-clause-none : goal.returns-in_default-decimal_before_space-2-clause-none
returns-in_default-decimal_before_space-2-clause-none c = λ item placed same.
    no-port c.args.words.now c.in-Some-decimal_before_space.rest.now c.in-Some-decimal_before_space.place c.in_default.ensures c.in-Some-decimal_before_space.ensures.fits c.in-Some-decimal_before_space.ensures.some
    c.in_default-decimal_before_space-2.ensures.none item placed same

pub returns-then-place-clause-none : goal.returns-then-place-clause-none
returns-then-place-clause-none c = λ item placed same.
    not-placed c.args.words.now c.in-Some-decimal_before_space.rest.now c.in-Some-decimal_before_space.place c.in_default.ensures (omega (arith, c.if-place.true))
    c.in-Some-decimal_before_space.ensures.some item placed same
