use Rattle.std.proofs.Common.{inl, inr, refl}
use Rattle.rx_program.proofs.program.client.stats_at.Goals as goal

pub returns-in-Ok : goal.returns-in-Ok
returns-in-Ok g c = elim c.in-Ok.ensures [
  | inl shown ↦ inl (shown.0, shown.1, shown.2, shown.3)
  | inr none ↦ absurd (none.0 refl)
]

pub returns : goal.returns
returns g c = elim c.in-Err.ensures [
  | inl shown ↦ inl (shown.0, shown.1, shown.2, shown.3)
  | inr none ↦ inr ((λ is. cc), none.1)
]
