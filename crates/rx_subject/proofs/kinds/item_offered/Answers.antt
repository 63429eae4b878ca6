-- Async keeps each item back.
use Rattle.std.proofs.Common.{refl}
use Rattle.rx_subject.proofs.kinds.item_offered.Goals as goal

pub returns-in-Async : goal.returns-in-Async
returns-in-Async c = λ last. rw c.in-Async.is refl
