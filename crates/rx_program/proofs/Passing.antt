-- What a write took: of a front of bytes, and past a list of bytes that is empty.
use Rattle.std.proofs.Common.{◌≡◌, ◌≤◌, ℕ, List, [], ◌++◌, length, take, Option, Result, Ok, Err, sym, subst, ◌∙◌, arith, append-nil, length-take}
use Rattle.std.proofs.KnownBytes.{Keeps-trans, append_known-kept, append_known-passed}
use Rattle.std.specs.Io.{WritesAtMost}
use Rattle.std.specs.Io.KnownBytes.{Appends, Keeps, WriteAppends, append_known}
use lib.Seq.{take-take}

-- a write of the first bytes of some is one of these
pub front-most : {E : Type 0} (most : ℕ) (bytes : List ℕ) (r : Result ℕ E) → WritesAtMost r (take most bytes) → WritesAtMost r bytes
front-most most bytes (Ok n) fits = omega (arith, fits, length-take most bytes)
front-most most bytes (Err e) fits = tt

pub front-wrote : {E : Type 0} (most : ℕ) (old new : Option (List ℕ)) (bytes : List ℕ) (r : Result ℕ E) → WritesAtMost r (take most bytes)
    → WriteAppends old new r (take most bytes) → WriteAppends old new r bytes
front-wrote most old new bytes (Ok n) fits wrote =
    let few : n ≤ most = omega (arith, fits, length-take most bytes) in
    subst (λ (l : List ℕ). Appends old new l) (take-take n most bytes few) wrote
front-wrote most old new bytes (Err e) fits wrote = wrote

-- a write behind which nothing waits
pub passed : {E : Type 0} (a b c : Option (List ℕ)) (waiting after bytes : List ℕ) (r : Result ℕ E) → Keeps a (append_known b waiting) → waiting ≡ [] → after ≡ waiting
    → WriteAppends b c r bytes → WriteAppends a (append_known c after) r bytes
passed a b c waiting after bytes (Ok n) kept none same wrote =
    subst (λ (l : List ℕ). Appends a (append_known c after) l) (append-nil (take n bytes))
    (append_known-passed a b c waiting after (take n bytes) [] kept none wrote (same ∙ sym (append-nil waiting)))
passed a b c waiting after bytes (Err e) kept none same wrote =
    let still = subst (λ (l : List ℕ). Keeps (append_known b waiting) (append_known c l)) (sym same) (append_known-kept b c waiting wrote) in
    Keeps-trans a (append_known b waiting) (append_known c after) kept still
