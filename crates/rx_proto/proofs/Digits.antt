-- Decimal digits, the last one first.
use Rattle.std.proofs.Common.{◌≡◌, ℕ, ◌+◌, ◌-◌, ◌*◌, ◌/◌, ◌%◌, ◌<◌, ◌^◌, zero, suc, List, [], ◌∷◌, ◌++◌, refl, sym, ap, ◌∙◌, inl, inr, arith, append_assoc}
use Rattle.std.proofs.lemmas.Bool.{cases_lt}
use Rattle.std.proofs.lemmas.Grind.{pow_more}
use Rattle.std.proofs.lemmas.Fmt.{decimal_digit, decimal_step}
use Rattle.std.specs.Fmt.{decimal}

-- the digits of what is left, before those that are written; none where nothing is left
unfoldable pub spelled : ℕ → List ℕ → List ℕ
spelled zero digits = digits
spelled (suc rest) digits = decimal (suc rest) ++ digits

pub spelled-zero : (digits : List ℕ) → spelled 0 digits ≡ digits
unfolding spelled
spelled-zero digits = refl

spelled-some : (rest : ℕ) (digits : List ℕ) → 0 < rest → spelled rest digits ≡ decimal rest ++ digits
unfolding spelled
spelled-some zero digits some = absurd (omega arith)
spelled-some (suc rest) digits some = refl

-- one digit more
pub spelled-more : (rest : ℕ) (digits : List ℕ) → 0 < rest → rest < 2 ^ 64 → spelled (rest / 10) ((48 + rest % 10) ∷ digits) ≡ spelled rest digits
spelled-more rest digits some fits =
    elim (cases_lt rest 10) [
      | inl one ↦ (let left : rest / 10 ≡ 0 = omega arith in let digit : rest % 10 ≡ rest = omega arith in
          rw (left, digit, spelled-zero, spelled-some rest digits some, decimal_digit rest one) refl)
      | inr more ↦ (let left : 0 < rest / 10 = omega arith in
          spelled-some (rest / 10) ((48 + rest % 10) ∷ digits) left
          ∙ sym (append_assoc (decimal (rest / 10)) ((48 + rest % 10) ∷ []) digits)
          ∙ ap (λ t. t ++ digits) (sym (decimal_step rest more fits))
          ∙ sym (spelled-some rest digits some))
    ]

-- the first digit
pub spelled-first : (number : ℕ) → number < 2 ^ 64 → spelled (number / 10) ((48 + number % 10) ∷ []) ≡ decimal number
spelled-first number fits =
    elim (cases_lt number 10) [
      | inl one ↦ (let left : number / 10 ≡ 0 = omega arith in let digit : number % 10 ≡ number = omega arith in
          rw (left, digit, spelled-zero) (sym (decimal_digit number one)))
      | inr more ↦ (let left : 0 < number / 10 = omega arith in
          spelled-some (number / 10) ((48 + number % 10) ∷ []) left ∙ sym (decimal_step number more fits))
    ]

-- there is room for the digits that are left
pub room_left : (rest start : ℕ) → 0 < rest → rest < 10 ^ start → (0 < start) × (rest / 10 < 10 ^ (start - 1))
room_left rest zero some few = absurd (omega (arith, few))
room_left rest (suc start) some few =
    let power : 10 ^ (start + 1) ≡ 10 ^ start * 10 = pow_more 10 start in
    let place : suc start ≡ start + 1 = omega arith in
    let before : suc start - 1 ≡ start = omega arith in
    let less : rest < 10 ^ start * 10 = rw (place, power) at few in
    (omega arith, rw before (omega (arith, less)))
