-- The digits at the end of an array.
use Rattle.std.proofs.Common.{◌≡◌, ◌-◌, ℕ, List, length, drop, take, sym, ap, ◌∙◌}
use Rattle.std.proofs.lemmas.List.{take_rest}

-- what stands from some place on in an array of ten
pub written_is : (digits written : List ℕ) (start : ℕ) → length digits ≡ 10 → drop start digits ≡ written → take (10 - start) (drop start digits) ≡ written
written_is digits written start long is = ap (λ n. take (n - start) (drop start digits)) (sym long) ∙ take_rest digits start ∙ is
