-- The parts of an id: no epoch and no place has a hyphen.
use Rattle.std.proofs.Common.{◌≡◌, ℕ, ◌+◌, ◌%◌, ◌<◌, ◌^◌, ◌==◌, inl, inr, Bool, true, false, List, [], ◌∷◌, ◌++◌, codes, decimal, Option, None, Some, refl, sym, ap, ◌∙◌, subst, append-nil, arith}
use Rattle.std.proofs.lemmas.Bool.{ne_eqb}
use Rattle.std.proofs.lemmas.Fmt.{decimal_by_steps}
use Rattle.std.specs.List.{AllByRecursion}
use Rattle.rx_http.specs.Epochs.{IsEpoch, IsEpochByte}
use Rattle.rx_http.specs.Ids.{over_word, place_digits}
use Rattle.rx_http.specs.Laws.{IsPlace}
use Rattle.rx_http.specs.Queries.{AreParted, HasNo}
use Rattle.rx_http.specs.Words.{IsReadOf}
use Rattle.rx_http.proofs.Cuts.{parted-none, parted-one}

has_no-append : (mark : ℕ) (xs ys : List ℕ) → HasNo mark xs → HasNo mark ys → HasNo mark (xs ++ ys)
has_no-append mark [] ys p q = q
has_no-append mark (x ∷ xs) ys p q = (p.0, has_no-append mark xs ys p.1 q)

decimal-no_hyphen : (n : ℕ) → n < 2 ^ 64 → HasNo 45 (decimal n)
decimal-no_hyphen n fits =
    decimal_by_steps (λ n digits. HasNo 45 digits)
    (λ n one. (ne_eqb (48 + n) 45 (λ is. omega arith), tt))
    (λ n digits more before. has_no-append 45 digits ((48 + n % 10) ∷ []) before (ne_eqb (48 + n % 10) 45 (λ is. omega arith), tt))
    n fits

pub place-no_hyphen : (place : Option ℕ) → IsPlace place → HasNo 45 (place_digits place)
place-no_hyphen None fits = tt
place-no_hyphen (Some place) fits = decimal-no_hyphen place (omega arith)

epoch_byte-no_hyphen : (byte : ℕ) → IsEpochByte byte → (byte == 45) ≡ false
epoch_byte-no_hyphen byte (inl digit) = let low = digit.0 in ne_eqb byte 45 (λ is. omega arith)
epoch_byte-no_hyphen byte (inr letter) = let low = letter.0 in ne_eqb byte 45 (λ is. omega arith)

epoch-each : (bytes : List ℕ) → AllByRecursion IsEpochByte bytes → HasNo 45 bytes
epoch-each [] each = tt
epoch-each (byte ∷ bytes) each = (epoch_byte-no_hyphen byte each.0, epoch-each bytes each.1)

pub epoch-no_hyphen : (epoch : List ℕ) → IsEpoch epoch → HasNo 45 epoch
epoch-no_hyphen epoch is = epoch-each epoch is.each

-- what is told of a subject that isn't over is not parted
pub not_over : {P : Type 0} (place : Option ℕ) (front rest bytes : List ℕ) → IsPlace place → AreParted 45 front rest bytes → bytes ≡ place_digits place ++ [] → P
not_over place front rest bytes fits parts same =
    parted-none 45 front rest (subst (HasNo 45) (sym (append-nil (place_digits place)) ∙ sym same ∙ parts.parts) (place-no_hyphen place fits))

-- and of one that is over it is, by its place
pub is_over : (place : Option ℕ) (front rest bytes : List ℕ) → IsPlace place → AreParted 45 front rest bytes → bytes ≡ place_digits place ++ codes "-over"
    → (front ≡ place_digits place) × (rest ≡ codes "over")
is_over place front rest bytes fits parts same =
    parted-one 45 front rest (place_digits place) (codes "over") bytes parts (record { none = place-no_hyphen place fits; parts = same })

-- what is known of a subject that is over, and of one that isn't, by what is read of the place
abbrev pub IsKnownWith : Bool → List ℕ → Option (Option ℕ × Bool) → Type 0
IsKnownWith over digits known = IsReadOf (λ (k : Option ℕ × Bool). IsPlace k.0 × (k.1 ≡ over)) (λ k. place_digits k.0) digits known

abbrev pub IsKnown : List ℕ → Option (Option ℕ × Bool) → Type 0
IsKnown bytes known = IsReadOf (λ (k : Option ℕ × Bool). IsPlace k.0) (λ k. place_digits k.0 ++ over_word k.1) bytes known

over-none : (front rest bytes : List ℕ) → AreParted 45 front rest bytes → IsKnownWith true front None → (place : Option ℕ) (over : Bool) → IsPlace place
    → bytes ≡ place_digits place ++ over_word over → ⊥
over-none front rest bytes parts none place true fits same = none (place, true) (fits, refl) (is_over place front rest bytes fits parts same).0
over-none front rest bytes parts none place false fits same = not_over place front rest bytes fits parts same

pub known-over : (front rest bytes : List ℕ) (known : Option (Option ℕ × Bool)) → AreParted 45 front rest bytes → rest ≡ codes "over" → IsKnownWith true front known → IsKnown bytes known
known-over front rest bytes None parts end read = λ k fits same. over-none front rest bytes parts read k.0 k.1 fits same
known-over front rest bytes (Some k) parts end read =
    (read.0.0, parts.parts ∙ ap (λ l. l ++ (45 ∷ rest)) read.1 ∙ ap (λ l. place_digits k.0 ++ (45 ∷ l)) end ∙ ap (λ over. place_digits k.0 ++ over_word over) (sym read.0.1))

open-none : (bytes : List ℕ) → HasNo 45 bytes → IsKnownWith false bytes None → (place : Option ℕ) (over : Bool) → IsPlace place
    → bytes ≡ place_digits place ++ over_word over → ⊥
open-none bytes whole none place true fits same = parted-none 45 (place_digits place) (codes "over") (subst (HasNo 45) same whole)
open-none bytes whole none place false fits same = none (place, false) (fits, refl) (same ∙ append-nil (place_digits place))

pub known-open : (bytes : List ℕ) (known : Option (Option ℕ × Bool)) → HasNo 45 bytes → IsKnownWith false bytes known → IsKnown bytes known
known-open bytes None whole read = λ k fits same. open-none bytes whole read k.0 k.1 fits same
known-open bytes (Some k) whole read =
    (read.0.0, read.1 ∙ sym (append-nil (place_digits k.0)) ∙ ap (λ over. place_digits k.0 ++ over_word over) (sym read.0.1))

-- behind a hyphen only that it is over is told
pub known-other : (front rest bytes : List ℕ) → AreParted 45 front rest bytes → (rest ≡ codes "over" → ⊥) → (place : Option ℕ) (over : Bool) → IsPlace place
    → bytes ≡ place_digits place ++ over_word over → ⊥
known-other front rest bytes parts other place true fits same = other (is_over place front rest bytes fits parts same).1
known-other front rest bytes parts other place false fits same = not_over place front rest bytes fits parts same
