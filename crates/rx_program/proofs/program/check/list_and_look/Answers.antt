-- The lines are written and it is looked, or there was no memory for them.
use Rattle.std.proofs.Common.{Ok, Err, inl, inr, refl}
use Rattle.rx_program.proofs.program.check.list_and_look.Goals as goal

pub returns-in-Ok : goal.returns-in-Ok
returns-in-Ok g c = elim c.in-Ok.ensures [
  | inl lists ↦ inl (Ok tt, lists, c.look.ensures)
  | inr memory ↦ (let none = memory.0 in cc)
]

pub returns-in-Err : goal.returns-in-Err
returns-in-Err g c = elim c.in-Err.ensures [
  | inl lists ↦ inl (Err c.in-Err.fault, lists, refl)
  | inr memory ↦ inr memory
]
