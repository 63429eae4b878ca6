-- Numbers are put one by one, with a comma between two.
use Rattle.std.proofs.Common.{◌≡◌, ℕ, List, [], ◌∷◌, ◌++◌, codes, decimal, map, refl, ap, append-nil}
use Rattle.std.specs.List.{join_with_byte}

-- numbers with a comma before each, but the first, before which this stands
abbrev pub behind : List ℕ → List ℕ → List ℕ
behind comma [] = []
behind comma (n ∷ ns) = comma ++ (decimal n ++ behind (codes ",") ns)

more : (n : ℕ) (ns : List ℕ) → decimal n ++ behind (codes ",") ns ≡ join_with_byte 44 (map decimal (n ∷ ns))
more n [] = append-nil (decimal n)
more n (next ∷ ns) = ap (λ l. decimal n ++ (44 ∷ l)) (more next ns)

pub behind-joined : (ns : List ℕ) → behind [] ns ≡ join_with_byte 44 (map decimal ns)
behind-joined [] = refl
behind-joined (n ∷ ns) = more n ns
