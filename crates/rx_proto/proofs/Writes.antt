-- Writing one thing behind another.
use Rattle.std.proofs.Common.{◌≡◌, ℕ, List, ◌++◌, Option, Result, Ok, Err, ◌∙◌, sym, ap, subst, append_assoc}
use Rattle.std.proofs.KnownBytes.{Appends-trans}
use Rattle.std.proofs.lemmas.Result.{MatchResult-from_err}
use Rattle.std.specs.Io.KnownBytes.{Appends}
use Rattle.std.specs.Result.{IsErr}
use Rattle.rx_proto.specs.Bytes.{AppendsPrefix, Writes}

-- a front of some bytes is a front of those and more
pub Prefix-more : (old new : Option (List ℕ)) (xs ys : List ℕ) → AppendsPrefix old new xs → AppendsPrefix old new (xs ++ ys)
Prefix-more old new xs ys p =
    record { front = p.front; back = p.back ++ ys; parts = sym (append_assoc p.front p.back ys) ∙ ap (λ t. t ++ ys) p.parts; told = p.told }

-- a front of what comes behind written bytes
pub Prefix-behind : (old mid new : Option (List ℕ)) (xs ys : List ℕ) → Appends old mid xs → AppendsPrefix mid new ys → AppendsPrefix old new (xs ++ ys)
Prefix-behind old mid new xs ys told p = record {
  front = xs ++ p.front;
  back = p.back;
  parts = append_assoc xs p.front p.back ∙ ap (λ t. xs ++ t) p.parts;
  told = Appends-trans old mid new xs p.front told p.told;
}

-- a call that writes behind another
pub Writes-then : {T E : Type 0} (result : Result T E) (old mid new : Option (List ℕ)) (xs ys : List ℕ) → Appends old mid xs → Writes result mid new ys → Writes result old new (xs ++ ys)
Writes-then (Ok x) old mid new xs ys first then = Appends-trans old mid new xs ys first then
Writes-then (Err e) old mid new xs ys first then = Prefix-behind old mid new xs ys first then

-- a call that ended by the fault of its first write
pub Writes-fault : {T E : Type 0} (result : Result T E) (old new : Option (List ℕ)) (xs ys : List ℕ) → IsErr result → AppendsPrefix old new xs → Writes result old new (xs ++ ys)
Writes-fault result old new xs ys fault front =
    MatchResult-from_err result (λ _. Appends old new (xs ++ ys)) (λ _. AppendsPrefix old new (xs ++ ys)) fault (λ _. Prefix-more old new xs ys front)

-- the same bytes by another name
pub Writes-as : {T E : Type 0} (result : Result T E) (old new : Option (List ℕ)) (xs ys : List ℕ) → xs ≡ ys → Writes result old new xs → Writes result old new ys
Writes-as result old new xs ys same writes = subst (λ (bytes : List ℕ). Writes result old new bytes) same writes
