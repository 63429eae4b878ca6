-- A server did not begin, or it was closed and that was told.
use Rattle.std.proofs.Common.{inl, inr}
use Rattle.rx_program.proofs.program.serve_at.Goals as goal

pub returns-in-Ok : goal.returns-in-Ok
returns-in-Ok g c = elim c.serve_on.ensures [
  | inl none ↦ inl (c.in-Ok.config, c.in-Ok.ensures, inl none)
  | inr told ↦ inl (c.in-Ok.config, c.in-Ok.ensures, inr (told.0, told.2))
]
