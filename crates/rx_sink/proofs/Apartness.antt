-- No two attachments are of one observer, and so it stays.
use Rattle.std.proofs.Common.{◌≡◌, ◌∙◌, sym, refl, ap, subst, ℕ, ◌==◌, ◌&&◌, ◌⊎◌, inl, inr, if◌then◌else◌, Bool, true, false, List, [], ◌∷◌, ◌++◌, Option, Some, None, eq-eqb}
use Rattle.std.proofs.lemmas.Bool.{eqb-true, ne_eqb}
use Rattle.rx_sink.specs.Attachments.{Attachment, Apart, is_of, kept_for, of_others, replaced}

pub bool_cases : (b : Bool) → (b ≡ true) ⊎ (b ≡ false)
bool_cases true = inl refl
bool_cases false = inr refl

pub none_split : {X : Type 0} (b : Bool) (x : X) (o : Option X) → (if b then Some x else o) ≡ None → (b ≡ false) × (o ≡ None)
none_split true x o is = cc
none_split false x o is = (refl, is)

pub both_true : (x y : Bool) → (x && y) ≡ true → (x ≡ true) × (y ≡ true)
both_true true true is = (refl, refl)
both_true true false is = cc
both_true false y is = cc

eqb_turned : (m n : ℕ) → (m == n) ≡ (n == m)
eqb_turned m n =
    elim (bool_cases (m == n)) [
      | inl same ↦ same ∙ sym (eq-eqb n m (sym (eqb-true m n same)))
      | inr other ↦ other ∙ sym (ne_eqb n m (λ e. (let both : true ≡ false = sym (eq-eqb m n (sym e)) ∙ other in cc)))
    ]

module _ {S : Type 0} where
  pub key_is : (s w : ℕ) (a : Attachment S) → is_of s w a ≡ true → (a.subject ≡ s) × (a.who ≡ w)
  key_is s w a test = let tests = both_true (a.subject == s) (a.who == w) test in (eqb-true a.subject s tests.0, eqb-true a.who w tests.1)

  turned : (a c : Attachment S) → is_of a.subject a.who c ≡ is_of c.subject c.who a
  turned a c = ap (λ t. t && (c.who == a.who)) (eqb_turned c.subject a.subject) ∙ ap (λ t. (a.subject == c.subject) && t) (eqb_turned c.who a.who)

  none_push : (s w : ℕ) (kept : List (Attachment S)) (a : Attachment S) → kept_for s w kept ≡ None → is_of s w a ≡ false → kept_for s w (kept ++ a ∷ []) ≡ None
  none_push s w [] a none other = ap (λ t. if t then Some a else None) other
  none_push s w (c ∷ kept) a none other =
      let parts = none_split (is_of s w c) c (kept_for s w kept) none in
      ap (λ t. if t then Some c else kept_for s w (kept ++ a ∷ [])) parts.0 ∙ none_push s w kept a parts.1 other

  pub apart_push : (kept : List (Attachment S)) (a : Attachment S) → kept_for a.subject a.who kept ≡ None → Apart kept → Apart (kept ++ a ∷ [])
  apart_push [] a none apart = (refl, tt)
  apart_push (c ∷ kept) a none apart =
      let parts = none_split (is_of a.subject a.who c) c (kept_for a.subject a.who kept) none in
      (none_push c.subject c.who kept a apart.0 (sym (turned a c) ∙ parts.0), apart_push kept a parts.1 apart.1)

  pub none_of_others : (k l s w : ℕ) (kept : List (Attachment S)) → kept_for k l kept ≡ None → kept_for k l (of_others s w kept) ≡ None
  none_of_others k l s w [] none = refl
  none_of_others k l s w (a ∷ kept) none =
      let parts = none_split (is_of k l a) a (kept_for k l kept) none in
      let later = none_of_others k l s w kept parts.1 in
      elim (bool_cases (is_of s w a)) [
        | inl test ↦ subst (λ (t : Bool). kept_for k l (if t then kept else a ∷ of_others s w kept) ≡ None) (sym test) parts.1
        | inr test ↦ subst (λ (t : Bool). kept_for k l (if t then kept else a ∷ of_others s w kept) ≡ None) (sym test)
            (ap (λ t. if t then Some a else kept_for k l (of_others s w kept)) parts.0 ∙ later)
      ]

  pub none_replaced : (k l s w : ℕ) (b : Attachment S) (kept : List (Attachment S)) → b.subject ≡ s → b.who ≡ w → kept_for k l kept ≡ None → kept_for k l (replaced s w b kept) ≡ None
  none_replaced k l s w b [] subject who none = refl
  none_replaced k l s w b (a ∷ kept) subject who none =
      let parts = none_split (is_of k l a) a (kept_for k l kept) none in
      let later = none_replaced k l s w b kept subject who parts.1 in
      elim (bool_cases (is_of s w a)) [
        | inl test ↦
            let key = key_is s w a test in
            let same : is_of k l b ≡ is_of k l a = ap (λ n. (n == k) && (b.who == l)) (subject ∙ sym key.0) ∙ ap (λ n. (a.subject == k) && (n == l)) (who ∙ sym key.1) in
            subst (λ (t : Bool). kept_for k l (if t then b ∷ kept else a ∷ replaced s w b kept) ≡ None) (sym test)
            (ap (λ t. if t then Some b else kept_for k l kept) (same ∙ parts.0) ∙ parts.1)
        | inr test ↦ subst (λ (t : Bool). kept_for k l (if t then b ∷ kept else a ∷ replaced s w b kept) ≡ None) (sym test)
            (ap (λ t. if t then Some a else kept_for k l (replaced s w b kept)) parts.0 ∙ later)
      ]

  pub apart_but : (s w : ℕ) (kept : List (Attachment S)) → Apart kept → Apart (of_others s w kept)
  apart_but s w [] apart = tt
  apart_but s w (c ∷ kept) apart =
      elim (bool_cases (is_of s w c)) [
        | inl test ↦ subst (λ (t : Bool). Apart (if t then kept else c ∷ of_others s w kept)) (sym test) apart.1
        | inr test ↦ subst (λ (t : Bool). Apart (if t then kept else c ∷ of_others s w kept)) (sym test) (none_of_others c.subject c.who s w kept apart.0, apart_but s w kept apart.1)
      ]

  pub apart_with : (s w : ℕ) (b : Attachment S) (kept : List (Attachment S)) → b.subject ≡ s → b.who ≡ w → Apart kept → Apart (replaced s w b kept)
  apart_with s w b [] subject who apart = tt
  apart_with s w b (c ∷ kept) subject who apart =
      elim (bool_cases (is_of s w c)) [
        | inl test ↦
            (let key = key_is s w c test in
            let none : kept_for b.subject b.who kept ≡ None =
            subst (λ (n : ℕ). kept_for n b.who kept ≡ None) (key.0 ∙ sym subject) (subst (λ (n : ℕ). kept_for c.subject n kept ≡ None) (key.1 ∙ sym who) apart.0) in
            subst (λ (t : Bool). Apart (if t then b ∷ kept else c ∷ replaced s w b kept)) (sym test) (none, apart.1))
        | inr test ↦ subst (λ (t : Bool). Apart (if t then b ∷ kept else c ∷ replaced s w b kept)) (sym test) (none_replaced c.subject c.who s w b kept subject who apart.0, apart_with s w b kept subject who apart.1)
      ]
