-- Numbers that many digits spell.
use Rattle.std.proofs.Common.{◌≡◌, ℕ, ◌+◌, ◌-◌, ◌*◌, ◌^◌, ◌<◌, ◌≤◌, true, false, cond, List, [], ◌∷◌, length, get_or, drop, Err, refl, ap, ◌∙◌, arith}
use Rattle.std.proofs.lemmas.List.{drop_more}
use Rattle.std.proofs.lemmas.Bool.Decides.{nat_tests}
use Rattle.rx_proto.specs.Reading.{digits_read, is_digit}
use Rattle.rx_proto.specs.declared.line_error.BadLine.TheVariants.{Syntax}

-- a value of more than 64 bits stays one, whatever digits follow
pub digits_read-large : (value : ℕ) (digits : List ℕ) → 18446744073709551616 ≤ value → digits_read value digits ≡ Err Syntax
digits_read-large value [] large = grind (arith, nat_tests)
digits_read-large value (digit ∷ digits) large =
    elim (is_digit digit) as (λ test. cond test (digits_read (value * 10 + (digit - 48)) digits) (Err Syntax) ≡ Err Syntax) [
      | true ↦ digits_read-large (value * 10 + (digit - 48)) digits (omega arith)
      | false ↦ refl
    ]

-- one digit more
pub digits_read-more : (bytes : List ℕ) (value i : ℕ) → i < length bytes → is_digit (get_or bytes i 0) ≡ true
    → digits_read value (drop i bytes) ≡ digits_read (value * 10 + (get_or bytes i 0 - 48)) (drop (i + 1) bytes)
digits_read-more bytes value i within digit = ap (digits_read value) (drop_more bytes i 0 within) ∙ rw digit refl

-- one digit more that makes it too large
pub digits_read-over : (bytes : List ℕ) (value i : ℕ) → i < length bytes → is_digit (get_or bytes i 0) ≡ true → 2 ^ 64 ≤ value * 10 + (get_or bytes i 0 - 48)
    → digits_read value (drop i bytes) ≡ Err Syntax
digits_read-over bytes value i within digit large =
    digits_read-more bytes value i within digit ∙ digits_read-large (value * 10 + (get_or bytes i 0 - 48)) (drop (i + 1) bytes) large
