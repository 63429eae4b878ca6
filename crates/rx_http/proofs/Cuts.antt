-- Bytes and the first mark among them.
use Rattle.std.proofs.Common.{◌≡◌, ℕ, ◌+◌, ◌<◌, ◌≤◌, ◌==◌, true, zero, suc, List, [], ◌∷◌, ◌++◌, length, get_or, take, drop, refl, sym, ap, ◌∙◌, add-one, arith}
use Rattle.std.proofs.lemmas.Bool.{ne_eqb, eq-eqb}
use Rattle.std.proofs.lemmas.List.{take-append-drop}
use Rattle.std.proofs.Math.Seq.{drop-cons}
use Rattle.rx_http.specs.Queries.{AreParted, HasNo, cut_at}

-- what stands before a mark has none
pub cut_at-parted : (mark : ℕ) (front rest : List ℕ) → HasNo mark front → cut_at mark (front ++ (mark ∷ rest)) ≡ (front, rest)
cut_at-parted mark [] rest none = rw (eq-eqb mark mark refl) refl
cut_at-parted mark (byte ∷ front) rest none = rw (none.0, cut_at-parted mark front rest none.1) refl

-- bytes are parted at the first mark
pub parted-here : (mark : ℕ) (bytes : List ℕ) (i : ℕ) → i < length bytes → get_or bytes i 0 ≡ mark → bytes ≡ take i bytes ++ (mark ∷ drop (i + 1) bytes)
parted-here mark bytes i within here =
    sym (take-append-drop i bytes) ∙ ap (λ t. take i bytes ++ t) (drop-cons bytes i 0 within ∙ rw (here, add-one) refl)

-- bytes with no mark are not cut
pub cut_at-whole : (mark : ℕ) (bytes : List ℕ) → HasNo mark bytes → cut_at mark bytes ≡ (bytes, [])
cut_at-whole mark [] none = refl
cut_at-whole mark (byte ∷ bytes) none = rw (none.0, cut_at-whole mark bytes none.1) refl

-- bytes of which none is the mark
pub none_before : (mark : ℕ) (bytes : List ℕ) (len : ℕ) → len ≤ length bytes → ((i : ℕ) → i < len → (get_or bytes i 0 == mark) ≡ true → ⊥) → HasNo mark (take len bytes)
none_before mark bytes zero within none = tt
none_before mark [] (suc len) within none = tt
none_before mark (byte ∷ bytes) (suc len) within none =
    (ne_eqb byte mark (λ is. none 0 (omega arith) (eq-eqb byte mark is)), none_before mark bytes len (omega arith) (λ i less is. none (suc i) (omega arith) is))

-- two fronts without a mark, each before one, are equal, and so is what stands behind
pub parted-one : (mark : ℕ) (front rest other more bytes : List ℕ) → AreParted mark front rest bytes → AreParted mark other more bytes → (front ≡ other) × (rest ≡ more)
parted-one mark front rest other more bytes p q =
    let same : (front, rest) ≡ (other, more) =
    sym (cut_at-parted mark front rest p.none) ∙ ap (cut_at mark) (sym p.parts ∙ q.parts) ∙ cut_at-parted mark other more q.none in
    (ap (λ (l : List ℕ × List ℕ). l.0) same, ap (λ (l : List ℕ × List ℕ). l.1) same)

-- bytes with no mark are not parted
pub parted-none : {P : Type 0} (mark : ℕ) (front rest : List ℕ) → HasNo mark (front ++ (mark ∷ rest)) → P
parted-none mark [] rest none = cc (none.0, eq-eqb mark mark refl)
parted-none mark (byte ∷ front) rest none = parted-none mark front rest none.1
