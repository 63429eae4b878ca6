-- Decimal digits, and the space behind them.
use Rattle.std.proofs.Common.{◌≡◌, ◌+◌, ◌-◌, ◌<◌, ◌%◌, ◌^◌, ℕ, List, [], ◌∷◌, ◌++◌, length, drop, take, get_or, sym, ap, ◌∙◌, refl, add-one, Result, Ok, arith}
use Rattle.std.proofs.Math.Seq.{drop-cons}
use Rattle.std.proofs.lemmas.Fmt.{decimal_by_steps}
use Rattle.std.proofs.lemmas.List.{take_rest, take-append-drop}
use Rattle.std.specs.Fmt.{decimal}
use Rattle.rx_proto.proofs.Cuts.{HasNoSpace, HasNoSpace-append}
use Rattle.rx_proto.specs.declared.line_error.BadLine.{BadLine}

-- what stands from some place on in an array of ten
pub written_is : (digits written : List ℕ) (start : ℕ) → length digits ≡ 10 → drop start digits ≡ written → take (10 - start) (drop start digits) ≡ written
written_is digits written start long is = ap (λ n. take (n - start) (drop start digits)) (sym long) ∙ take_rest digits start ∙ is

-- a number has no space
pub decimal-no_space : (n : ℕ) → n < 2 ^ 64 → HasNoSpace (decimal n)
decimal-no_space n fits =
    decimal_by_steps (λ n digits. HasNoSpace digits)
    (λ n one. ((λ space. omega arith), tt))
    (λ n digits more before. HasNoSpace-append digits ((48 + n % 10) ∷ []) before ((λ space. omega arith), tt))
    n fits

-- bytes are parted at a space among them
pub parted-here : (bytes : List ℕ) (len : ℕ) → len < length bytes → get_or bytes len 0 ≡ 32 → take len bytes ++ 32 ∷ drop (len + 1) bytes ≡ bytes
parted-here bytes len within here =
    sym (sym (take-append-drop len bytes) ∙ ap (λ t. take len bytes ++ t) (drop-cons bytes len 0 within ∙ rw (here, add-one) refl))

-- what was read twice of the same bytes is the same
pub same-word : (v w r s : List ℕ) → ◌≡◌ {A = Result (List ℕ × List ℕ) BadLine} (Ok (v, r)) (Ok (w, s)) → v ≡ w
same-word v w r s same = let parts : ◌≡◌ {A = List ℕ × List ℕ} (v, r) (w, s) = cc in ap (λ (p : List ℕ × List ℕ). p.0) parts
