-- What is still to come is not told apart.
use Rattle.std.proofs.Common.{List, [], ◌∷◌, refl}
use Rattle.rx_session.specs.Begun.{Asked, IsBehind}
use Rattle.test_core.proofs.scribe.ScribeDeskSips.answer.Goals as goal

comes : {D : Type 0} (now : D) (rest : List Asked) → (after : D) × Unit {0} × IsBehind (λ base begun last. Unit {0}) after rest now
comes now [] = (now, tt, refl)
comes now (note ∷ rest) = (now, tt, tt)

pub returns-in-Some-eq101 : goal.returns-in-Some-eq101
returns-in-Some-eq101 c base first rest waits = comes _ rest

pub returns-in_default : goal.returns-in_default
returns-in_default c base first rest waits = comes _ rest

pub returns-in_default-2 : goal.returns-in_default-2
returns-in_default-2 c base first rest waits = comes _ rest
