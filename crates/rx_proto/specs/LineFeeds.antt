-- The byte that ends a line.
use Rattle.std.specs.Prelude.{◌≡◌, ℕ, List, [], ◌∷◌}

-- no LF stands among the bytes
abbrev pub HasNoLf : List ℕ → Type 0
HasNoLf [] = Unit {0}
HasNoLf (byte ∷ bytes) = (byte ≡ 10 → ⊥) × HasNoLf bytes

-- an LF stands among the bytes
abbrev pub HasLf : List ℕ → Type 0
HasLf bytes = HasNoLf bytes → ⊥
