-- A name at the front of some bytes, and what stands behind its space.
use Rattle.std.proofs.Common.{◌≡◌, ℕ, ◌+◌, ◌<◌, ◌≤◌, zero, suc, List, [], ◌∷◌, ◌++◌, length, get_or, take, drop, Result, Ok, Err, refl, ap, ◌∙◌, arith}
use Rattle.std.proofs.lemmas.Bool.{ne_eqb}
use Rattle.std.proofs.lemmas.List.{length-take-le}
use Rattle.std.specs.List.{AllByRecursion}
use Rattle.rx_proto.specs.Names.{IsName, IsNameByte}
use Rattle.rx_proto.specs.Reading.{◌>>=◌, cut_read, name_read, named_read}
use Rattle.rx_proto.specs.declared.line_error.BadLine.{BadLine}
use Rattle.rx_proto.specs.declared.line_error.BadLine.TheVariants.{Long, Syntax}
use Rattle.rx_proto.proofs.Complete.{IsNameByte-no_space, no_space}
use Rattle.rx_proto.proofs.Cuts.{HasNoSpace, cut_read-here, cut_read-whole}
use Rattle.rx_proto.proofs.NameTests.{name_read-name, name_read-other}
use Rattle.rx_proto.proofs.Sound.{Says, Says-then, cut_says}

-- bytes that may stand in a name
abbrev pub AreOfName : List ℕ → Type 0
AreOfName bytes = AllByRecursion IsNameByte bytes

no_space_in : (bytes : List ℕ) → AreOfName bytes → HasNoSpace bytes
no_space_in bytes each = no_space IsNameByte IsNameByte-no_space bytes each

-- what is read of the bytes before the first space and of those behind it
abbrev name_of : Result (List ℕ × List ℕ) BadLine → Result (List ℕ × List ℕ) BadLine
name_of read = read >>= λ parts. name_read parts.0 >>= λ name. Ok (name, parts.1)

-- at the first space, behind a name
pub named_read-here : (bytes : List ℕ) (len : ℕ) → len < length bytes → AreOfName (take len bytes) → get_or bytes len 0 ≡ 32 → 1 ≤ len → len ≤ 32
    → named_read bytes ≡ Ok (take len bytes, drop (len + 1) bytes)
unfolding named_read
named_read-here bytes len within each space some few =
    let size : length (take len bytes) ≡ len = length-take-le len bytes (omega arith) in
    let is : IsName (take len bytes) = record { some = omega (arith, size); few = omega (arith, size); each = each } in
    ap name_of (cut_read-here bytes len within (no_space_in (take len bytes) each) space) ∙ rw (name_read-name (take len bytes) is) refl

-- the same, where there are too few or too many
pub named_read-size : (bytes : List ℕ) (len : ℕ) → len < length bytes → AreOfName (take len bytes) → get_or bytes len 0 ≡ 32 → ((1 ≤ len) × (len ≤ 32) → ⊥)
    → named_read bytes ≡ Err Syntax
unfolding named_read
named_read-size bytes len within each space never =
    let size : length (take len bytes) ≡ len = length-take-le len bytes (omega arith) in
    let none : IsName (take len bytes) → ⊥ = λ is. never (omega (arith, size, is.some), omega (arith, size, is.few)) in
    ap name_of (cut_read-here bytes len within (no_space_in (take len bytes) each) space) ∙ rw (name_read-other (take len bytes) none) refl

-- with no space
pub named_read-whole : (bytes : List ℕ) → AreOfName bytes → named_read bytes ≡ Err Syntax
unfolding named_read
named_read-whole bytes each = ap name_of (cut_read-whole bytes (no_space_in bytes each))

-- what stands before the first space is no name where a byte stands before it that is none of a name
cut_says-other : (bytes : List ℕ) (len : ℕ) → len < length bytes → AreOfName (take len bytes) → (get_or bytes len 0 ≡ 32 → ⊥) → (IsNameByte (get_or bytes len 0) → ⊥)
    → Says (cut_read bytes) (λ parts. AreOfName parts.0 → ⊥) ⊥
cut_says-other [] len within each space other = absurd (omega arith)
cut_says-other (byte ∷ bytes) zero within each space other =
    rw (ne_eqb byte 32 space)
    (Says-then (cut_read bytes) (λ p. Ok (byte ∷ p.0, p.1)) (λ p. bytes ≡ p.0 ++ (32 ∷ p.1)) ⊥ (λ p. AreOfName p.0 → ⊥) ⊥ (cut_says bytes) (λ p parts all. other all.0) (λ never. never))
cut_says-other (byte ∷ bytes) (suc len) within each space other =
    rw (ne_eqb byte 32 (IsNameByte-no_space byte each.0))
    (Says-then (cut_read bytes) (λ p. Ok (byte ∷ p.0, p.1)) (λ p. AreOfName p.0 → ⊥) ⊥ (λ p. AreOfName p.0 → ⊥) ⊥ (cut_says-other bytes len (omega arith) each.1 space other) (λ p never all. never all.1) (λ never. never))

never_named : (read : Result (List ℕ × List ℕ) BadLine) → Says read (λ parts. AreOfName parts.0 → ⊥) ⊥ → name_of read ≡ Err Syntax
never_named (Ok parts) never = rw (name_read-other parts.0 (λ is. never is.each)) refl
never_named (Err Long) never = absurd never
never_named (Err Syntax) never = refl

-- at a byte that is none of a name, before any space
pub named_read-other : (bytes : List ℕ) (len : ℕ) → len < length bytes → AreOfName (take len bytes) → (get_or bytes len 0 ≡ 32 → ⊥) → (IsNameByte (get_or bytes len 0) → ⊥)
    → named_read bytes ≡ Err Syntax
unfolding named_read
named_read-other bytes len within each space other = never_named (cut_read bytes) (cut_says-other bytes len within each space other)
