-- The limits of a text.
use Rattle.std.specs.Prelude.{◌≡◌, ℕ, List, nat_eq, true}
use Rattle.std.specs.List.{list_any}

-- a line feed stands among the bytes
abbrev pub HasLf : List ℕ → Type 0
HasLf bytes = list_any (λ b. nat_eq b 10) bytes ≡ true
