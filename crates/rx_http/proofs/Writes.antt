-- Writing one thing behind three others.
use Rattle.std.proofs.Common.{◌≡◌, ℕ, List, ◌++◌, Option, Result, ◌∙◌, ap, append_assoc}
use Rattle.std.specs.Io.KnownBytes.{Appends}
use Rattle.std.specs.Result.{IsErr}
use Rattle.rx_proto.specs.Bytes.{AppendsPrefix, Writes}
use Rattle.rx_proto.proofs.Writes.{Writes-as, Writes-fault, Writes-then}

-- three pieces and what stands behind them
three-behind : (a b c ys : List ℕ) → (a ++ (b ++ c)) ++ ys ≡ a ++ (b ++ (c ++ ys))
three-behind a b c ys = append_assoc a (b ++ c) ys ∙ ap (λ l. a ++ l) (append_assoc b c ys)

-- a call that writes behind three pieces
pub Writes-three : {T E : Type 0} (result : Result T E) (old mid new : Option (List ℕ)) (a b c ys : List ℕ) → Appends old mid (a ++ (b ++ c)) → Writes result mid new ys
    → Writes result old new (a ++ (b ++ (c ++ ys)))
Writes-three result old mid new a b c ys first then =
    Writes-as result old new ((a ++ (b ++ c)) ++ ys) _ (three-behind a b c ys) (Writes-then result old mid new (a ++ (b ++ c)) ys first then)

-- a call that ended by a fault in three pieces
pub Fault-three : {T E : Type 0} (result : Result T E) (old new : Option (List ℕ)) (a b c ys : List ℕ) → IsErr result → AppendsPrefix old new (a ++ (b ++ c))
    → Writes result old new (a ++ (b ++ (c ++ ys)))
Fault-three result old new a b c ys fault front =
    Writes-as result old new ((a ++ (b ++ c)) ++ ys) _ (three-behind a b c ys) (Writes-fault result old new (a ++ (b ++ c)) ys fault front)
