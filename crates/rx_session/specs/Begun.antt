-- Notes that a desk began to emit, and whose responses are still to come (this project's own rule).
use Rattle.std.specs.Prelude.{◌≡◌, ℕ, List, [], ◌∷◌}
use Rattle.rx_note.specs.declared.note.Note.{Note}

-- a note, with the name of the subject at which it is to be emitted
pub record Asked : Type 0 where
  pub name : List ℕ
  pub note : Note

-- these two
abbrev pub asked : List ℕ → Note → Asked
asked name note = record { name = name; note = note }

module _ {D : Type 0} (waits : D → List Asked → D → Type 0) where
  -- a desk came from another by beginning these notes, in their order; by none it is the same
  abbrev pub IsBehind : D → List Asked → D → Type 0
  IsBehind base [] now = now ≡ base
  IsBehind base (first ∷ rest) now = waits base (first ∷ rest) now
