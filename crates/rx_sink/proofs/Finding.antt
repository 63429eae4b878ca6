-- Where the sink of an observer stands, and the attachment that it is of.
use Rattle.std.proofs.Common.{◌≡◌, ◌∙◌, sym, refl, ap, subst, ℕ, zero, suc, ◌+◌, ◌==◌, ◌&&◌, true, false, List, [], ◌∷◌, ◌++◌, Some, None, slice_get, inl, inr, if◌then◌else◌}
use Rattle.std.proofs.Math.ListN.{set}
use Rattle.std.proofs.lemmas.Bool.{eqb-true}
use Rattle.std.proofs.lemmas.Iterator.Adapters.{position_from-zero}
use Rattle.std.specs.List.{AllZip, position, position_from, remove}
use Rattle.rx_sink.specs.declared.kept.Kept.{Kept}
use Rattle.rx_sink.specs.Acts.{Acts}
use Rattle.rx_sink.specs.Attachments.{Attachment, Apart, is_for, is_of, kept_for, of_others, replaced}
use Rattle.rx_sink.specs.KeptSinks.{IsKept}
use Rattle.rx_sink.proofs.Apartness.{bool_cases, both_true, key_is, none_split}

module _ {A B : Type 0} (R : A → B → Type 0) where
  -- one more on both sides
  pub AllZip-more : (xs : List A) (ys : List B) (x : A) (y : B) → AllZip R xs ys → R x y → AllZip R (xs ++ x ∷ []) (ys ++ y ∷ [])
  AllZip-more [] [] x y zip r = (r, tt)
  AllZip-more [] (v ∷ ys) x y zip r = absurd zip
  AllZip-more (u ∷ xs) [] x y zip r = absurd zip
  AllZip-more (u ∷ xs) (v ∷ ys) x y zip r = (zip.0, AllZip-more xs ys x y zip.1 r)

module _ {X : Type 0} where
  -- what was written at a place is removed there
  pub remove-set : (xs : List X) (i : ℕ) (x : X) → remove (set xs i x) i ≡ remove xs i
  remove-set [] i x = refl
  remove-set (y ∷ ys) zero x = refl
  remove-set (y ∷ ys) (suc i) x = ap (λ l. y ∷ l) (remove-set ys i x)

  -- at its place stands what was written
  pub slice_get-set : (xs : List X) (i : ℕ) (x y : X) → slice_get xs i ≡ Some x → slice_get (set xs i y) i ≡ Some y
  slice_get-set [] i x y is = cc
  slice_get-set (z ∷ zs) zero x y is = refl
  slice_get-set (z ∷ zs) (suc i) x y is = slice_get-set zs i x y is

  -- what stands there, written again
  pub set-same : (xs : List X) (i : ℕ) (x : X) → slice_get xs i ≡ Some x → set xs i x ≡ xs
  set-same [] i x is = refl
  set-same (y ∷ ys) zero x is = (let e : y ≡ x = cc in ap (λ (z : X). z ∷ ys) (sym e))
  set-same (y ∷ ys) (suc i) x is = ap (λ l. y ∷ l) (set-same ys i x is)

module _ {S Rest : Type 0} (acts : Acts S Rest) (subject who : ℕ) where
  -- at this place stands the first sink that is kept for the observer, and it is that of the first attachment of it
  pub record Found (held : List (Attachment S)) (kept : List (Kept S)) (place : ℕ) : Type 0 where
    pub a : Attachment S
    pub one : Kept S
    pub found : kept_for subject who held ≡ Some a
    pub key : (a.subject ≡ subject) × (a.who ≡ who)
    pub at : slice_get kept place ≡ Some one
    pub tie : IsKept acts a one
    pub rest : AllZip (IsKept acts) (of_others subject who held) (remove kept place)
    pub with_other : (b : Attachment S) (other : Kept S) → IsKept acts b other → AllZip (IsKept acts) (replaced subject who b held) (set kept place other)

  same_key : (a : Attachment S) (one : Kept S) → IsKept acts a one → is_for subject who one ≡ is_of subject who a
  same_key a one tie = ap (λ n. n == subject && one.who == who) tie.subject ∙ ap (λ n. a.subject == subject && n == who) tie.who

  found_here : (a : Attachment S) (held : List (Attachment S)) (one : Kept S) (kept : List (Kept S))
      → IsKept acts a one → AllZip (IsKept acts) held kept → is_of subject who a ≡ true → Found (a ∷ held) (one ∷ kept) 0
  found_here a held one kept tie zip test =
      let tests = both_true (a.subject == subject) (a.who == who) test in
      record {
        a = a;
        one = one;
        found = ap (λ b. if b then Some a else kept_for subject who held) test;
        key = (eqb-true a.subject subject tests.0, eqb-true a.who who tests.1);
        at = refl;
        tie = tie;
        rest = subst (λ b. AllZip (IsKept acts) (if b then held else a ∷ of_others subject who held) kept) (sym test) zip;
        with_other = λ b other r. subst (λ t. AllZip (IsKept acts) (if t then b ∷ held else a ∷ replaced subject who b held) (other ∷ kept)) (sym test) (r, zip);
      }

  found_there : (a : Attachment S) (held : List (Attachment S)) (one : Kept S) (kept : List (Kept S)) (place : ℕ)
      → IsKept acts a one → is_of subject who a ≡ false → Found held kept place → Found (a ∷ held) (one ∷ kept) (suc place)
  found_there a held one kept place tie test f = record {
    a = f.a;
    one = f.one;
    found = ap (λ b. if b then Some a else kept_for subject who held) test ∙ f.found;
    key = f.key;
    at = f.at;
    tie = f.tie;
    rest = subst (λ b. AllZip (IsKept acts) (if b then held else a ∷ of_others subject who held) (one ∷ remove kept place)) (sym test) (tie, f.rest);
    with_other = λ b other r. subst (λ t. AllZip (IsKept acts) (if t then b ∷ held else a ∷ replaced subject who b held) (one ∷ set kept place other)) (sym test) (tie, f.with_other b other r);
  }

  -- none stands behind the first of it
  none_behind : (held : List (Attachment S)) (kept : List (Kept S)) (place : ℕ) (one : Kept S)
      → AllZip (IsKept acts) held kept → kept_for subject who held ≡ None → slice_get kept place ≡ Some one → is_for subject who one ≡ true → ⊥
  none_behind [] [] place one zip none at key = cc
  none_behind [] (other ∷ kept) place one zip none at key = absurd zip
  none_behind (a ∷ held) [] place one zip none at key = absurd zip
  none_behind (a ∷ held) (other ∷ kept) zero one zip none at key =
      let same : other ≡ one = cc in
      let parts = none_split (is_of subject who a) a (kept_for subject who held) none in
      let no : true ≡ false = sym key ∙ ap (λ (k : Kept S). is_for subject who k) (sym same) ∙ same_key a other zip.0 ∙ parts.0 in cc
  none_behind (a ∷ held) (other ∷ kept) (suc place) one zip none at key =
      none_behind held kept place one zip.1 (none_split (is_of subject who a) a (kept_for subject who held) none).1 at key

  -- the sink that is kept for the observer was found
  pub located : (held : List (Attachment S)) (kept : List (Kept S)) (place : ℕ) (one : Kept S)
      → AllZip (IsKept acts) held kept → Apart held → slice_get kept place ≡ Some one → is_for subject who one ≡ true → Found held kept place
  located [] [] place one zip apart at key = cc
  located [] (other ∷ kept) place one zip apart at key = absurd zip
  located (a ∷ held) [] place one zip apart at key = absurd zip
  located (a ∷ held) (other ∷ kept) zero one zip apart at key =
      let same : other ≡ one = cc in
      found_here a held other kept zip.0 zip.1 (sym (same_key a other zip.0) ∙ ap (λ (k : Kept S). is_for subject who k) same ∙ key)
  located (a ∷ held) (other ∷ kept) (suc place) one zip apart at key =
      elim (bool_cases (is_of subject who a)) [
        | inl test ↦
            (let k = key_is subject who a test in
            let none : kept_for subject who held ≡ None = subst (λ (n : ℕ). kept_for n who held ≡ None) k.0 (subst (λ (n : ℕ). kept_for a.subject n held ≡ None) k.1 apart.0) in
            absurd (none_behind held kept place one zip.1 none at key))
        | inr test ↦ found_there a held other kept place zip.0 test (located held kept place one zip.1 apart.1 at key)
      ]

  missing_step : (a : Attachment S) (held : List (Attachment S)) (one : Kept S) (kept : List (Kept S)) (from : ℕ)
      → IsKept acts a one → position_from (is_for subject who) from (one ∷ kept) ≡ None
      → (position_from (is_for subject who) (from + 1) kept ≡ None → kept_for subject who held ≡ None) → kept_for subject who (a ∷ held) ≡ None
  missing_step a held one kept from tie is next =
      elim (bool_cases (is_for subject who one)) [
        | inl test ↦
            let here : Some from ≡ None = sym (ap (λ b. if b then Some from else position_from (is_for subject who) (from + 1) kept) test) ∙ is in cc
        | inr test ↦
            ap (λ b. if b then Some a else kept_for subject who held) (sym (same_key a one tie) ∙ test)
            ∙ next (sym (ap (λ b. if b then Some from else position_from (is_for subject who) (from + 1) kept) test) ∙ is)
      ]

  missing_from : (held : List (Attachment S)) (kept : List (Kept S)) (from : ℕ)
      → AllZip (IsKept acts) held kept → position_from (is_for subject who) from kept ≡ None → kept_for subject who held ≡ None
  missing_from [] kept from zip is = refl
  missing_from (a ∷ held) [] from zip is = absurd zip
  missing_from (a ∷ held) (one ∷ kept) from zip is = missing_step a held one kept from zip.0 is (missing_from held kept (from + 1) zip.1)

  -- none is kept for the observer
  pub missing : (held : List (Attachment S)) (kept : List (Kept S))
      → AllZip (IsKept acts) held kept → position (is_for subject who) kept ≡ None → kept_for subject who held ≡ None
  missing held kept zip is = missing_from held kept 0 zip (sym (position_from-zero (is_for subject who) kept) ∙ is)
