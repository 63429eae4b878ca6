-- A line for which no room could be made.
use Rattle.std.proofs.Common.{◌≡◌, ℕ, List, [], ◌++◌, Option, Result, IsErr, ap, ◌∙◌, append_assoc}
use Rattle.rx_lines.specs.Bytes.{Loses, Puts}
use Rattle.rx_lines.proofs.Written.{Puts-fault, Loses-more}

-- where there was no room, the writer faulted
pub Puts-refused : {T E : Type 0} (result : Result T E) (old new : Option (List ℕ)) (held after bytes : List ℕ) → IsErr result → Loses held after old new [] → Puts result held after old new bytes
Puts-refused result old new held after bytes fault loses = Puts-fault result old new held after bytes fault (Loses-more old new held after [] bytes loses)

-- two pushes
pub pushed-on : (held then after xs ys : List ℕ) → then ≡ held ++ xs → after ≡ then ++ ys → after ≡ held ++ (xs ++ ys)
pushed-on held then after xs ys first second = second ∙ ap (λ (bytes : List ℕ). bytes ++ ys) first ∙ append_assoc held xs ys

-- five pushes
pub pushed-five : (held a b c d e p q r s t : List ℕ) → p ≡ held ++ a → q ≡ p ++ b → r ≡ q ++ c → s ≡ r ++ d → t ≡ s ++ e
    → t ≡ held ++ (a ++ (b ++ (c ++ (d ++ e))))
pushed-five held a b c d e p q r s t first second third fourth fifth =
    pushed-on held p t a (b ++ (c ++ (d ++ e))) first
    (pushed-on p q t b (c ++ (d ++ e)) second (pushed-on q r t c (d ++ e) third (pushed-on r s t d e fourth fifth)))
