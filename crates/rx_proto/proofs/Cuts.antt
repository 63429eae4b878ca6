-- Words and the first space.
use Rattle.std.proofs.Common.{◌≡◌, ℕ, ◌+◌, ◌<◌, ◌≤◌, ◌==◌, true, zero, suc, List, [], ◌∷◌, ◌++◌, length, get_or, take, drop, Ok, Err, refl, sym, ap, ◌∙◌, subst, add-one, arith}
use Rattle.std.proofs.lemmas.Bool.{ne_eqb, eq-eqb}
use Rattle.std.proofs.lemmas.List.{take_more, take-append-drop}
use Rattle.std.proofs.Math.Seq.{drop-cons}
use Rattle.rx_proto.specs.Reading.{cut_read}
use Rattle.rx_proto.specs.declared.line_error.BadLine.TheVariants.{Syntax}

-- no space stands among the bytes
abbrev pub HasNoSpace : List ℕ → Type 0
HasNoSpace [] = Unit {0}
HasNoSpace (byte ∷ bytes) = (byte ≡ 32 → ⊥) × HasNoSpace bytes

pub HasNoSpace-append : (xs ys : List ℕ) → HasNoSpace xs → HasNoSpace ys → HasNoSpace (xs ++ ys)
HasNoSpace-append [] ys p q = q
HasNoSpace-append (x ∷ xs) ys p q = (p.0, HasNoSpace-append xs ys p.1 q)

-- one byte more
pub HasNoSpace-more : (xs : List ℕ) (i : ℕ) → i < length xs → HasNoSpace (take i xs) → (get_or xs i 0 ≡ 32 → ⊥) → HasNoSpace (take (i + 1) xs)
HasNoSpace-more xs i within before here =
    subst HasNoSpace (sym (take_more xs i 0 within)) (HasNoSpace-append (take i xs) (get_or xs i 0 ∷ []) before (here, tt))

-- a word and what stands behind its space
pub cut_read-parted : (word rest : List ℕ) → HasNoSpace word → cut_read (word ++ (32 ∷ rest)) ≡ Ok (word, rest)
cut_read-parted [] rest none = refl
cut_read-parted (byte ∷ bytes) rest none = rw (ne_eqb byte 32 none.0, cut_read-parted bytes rest none.1) refl

-- the same, at the first space
pub cut_read-here : (bytes : List ℕ) (i : ℕ) → i < length bytes → HasNoSpace (take i bytes) → get_or bytes i 0 ≡ 32 → cut_read bytes ≡ Ok (take i bytes, drop (i + 1) bytes)
cut_read-here bytes i within none here =
    ap cut_read (sym (take-append-drop i bytes) ∙ ap (λ t. take i bytes ++ t) (drop-cons bytes i 0 within ∙ rw (here, add-one) refl))
    ∙ cut_read-parted (take i bytes) (drop (i + 1) bytes) none

-- bytes with no space are not cut
pub cut_read-whole : (bytes : List ℕ) → HasNoSpace bytes → cut_read bytes ≡ Err Syntax
cut_read-whole [] none = refl
cut_read-whole (byte ∷ bytes) none = rw (ne_eqb byte 32 none.0, cut_read-whole bytes none.1) refl

-- bytes of which none is a space
pub no_space_before : (bytes : List ℕ) (len : ℕ) → len ≤ length bytes → ((i : ℕ) → i < len → (get_or bytes i 0 == 32) ≡ true → ⊥) → HasNoSpace (take len bytes)
no_space_before bytes zero within none = tt
no_space_before [] (suc len) within none = tt
no_space_before (byte ∷ bytes) (suc len) within none =
    (λ is. none 0 (omega arith) (eq-eqb byte 32 is), no_space_before bytes len (omega arith) (λ i less is. none (suc i) (omega arith) is))
