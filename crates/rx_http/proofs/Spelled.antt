-- Each word says one thing, and none is long.
use Rattle.std.proofs.Common.{◌≡◌, ℕ, ◌<◌, ◌≤◌, ◌^◌, List, ◌++◌, length, take, drop, get_or, ◌==◌, decimal, Bool, true, false, ◌&&◌, refl, sym, ap, ◌∙◌, arith}
use Rattle.std.proofs.lemmas.Bool.{eq-eqb, leb-true}
use Rattle.std.proofs.lemmas.Fmt.{decimal_injective, length-decimal-le}
use Rattle.std.proofs.lemmas.List.{take-append-drop}
use Rattle.std.specs.Prelude.{nat_le}
use Rattle.rx_note.specs.Choices.{is_in_limits}
use Rattle.rx_note.specs.declared.strategy.Strategy.{Strategy}
use Rattle.rx_note.specs.declared.strategy.Strategy.TheVariants.{Buffer, Drop, Latest, Bounded}
use Rattle.rx_proto.specs.Reading.{same_word}
use Rattle.rx_http.specs.Words.{HasShortRoom, strategy_word}
use lib.Pointwise.{bytes_decides}

-- behind a front with which it begins stands the rest of a word
pub stripped : (word front rest : List ℕ) → same_word (take (length front) word) front ≡ true → rest ≡ drop (length front) word → word ≡ front ++ rest
stripped word front rest begins behind =
    sym (take-append-drop (length front) word) ∙ ap (λ l. l ++ drop (length front) word) ((bytes_decides _ _).0 begins) ∙ ap (λ l. front ++ l) (sym behind)

-- words whose second letters differ are not equal
pub apart : {P : Type 0} (v w : List ℕ) → v ≡ w → (get_or v 1 0 == get_or w 1 0) ≡ false → P
apart v w same other = cc (ap (λ (l : List ℕ). get_or l 1 0 == get_or w 1 0) same, eq-eqb (get_or w 1 0) (get_or w 1 0) refl)

-- two strategies written alike are equal
pub strategy-one : (a b : Strategy) → HasShortRoom a → HasShortRoom b → strategy_word a ≡ strategy_word b → a ≡ b
strategy-one Buffer Buffer p q same = refl
strategy-one Buffer (Drop s) p q same = apart _ _ same refl
strategy-one Buffer (Latest s) p q same = apart _ _ same refl
strategy-one Buffer (Bounded s) p q same = apart _ _ same refl
strategy-one (Drop r) Buffer p q same = apart _ _ same refl
strategy-one (Drop r) (Drop s) p q same = ap Drop (decimal_injective r s (omega arith) (omega arith) (ap (drop 5) same))
strategy-one (Drop r) (Latest s) p q same = apart _ _ same refl
strategy-one (Drop r) (Bounded s) p q same = apart _ _ same refl
strategy-one (Latest r) Buffer p q same = apart _ _ same refl
strategy-one (Latest r) (Drop s) p q same = apart _ _ same refl
strategy-one (Latest r) (Latest s) p q same = ap Latest (decimal_injective r s (omega arith) (omega arith) (ap (drop 7) same))
strategy-one (Latest r) (Bounded s) p q same = apart _ _ same refl
strategy-one (Bounded r) Buffer p q same = apart _ _ same refl
strategy-one (Bounded r) (Drop s) p q same = apart _ _ same refl
strategy-one (Bounded r) (Latest s) p q same = apart _ _ same refl
strategy-one (Bounded r) (Bounded s) p q same = ap Bounded (decimal_injective r s (omega arith) (omega arith) (ap (drop 8) same))

pub number-short : (n : ℕ) → n < 2 ^ 32 → length (decimal n) ≤ 10
number-short n fits = length-decimal-le 10 n (omega arith) (omega arith) (omega arith)

pub strategy-short : (strategy : Strategy) → HasShortRoom strategy → length (strategy_word strategy) ≤ 64
strategy-short Buffer room = omega arith
strategy-short (Drop n) room = let short = number-short n (omega arith) in omega arith
strategy-short (Latest n) room = let short = number-short n (omega arith) in omega arith
strategy-short (Bounded n) room = let short = number-short n (omega arith) in omega arith

and-both : (a b : Bool) → (a && b) ≡ true → b ≡ true
and-both true b is = is
and-both false b is = cc

-- a room in its limits has 16 bits
pub limits-room : (strategy : Strategy) → is_in_limits strategy ≡ true → HasShortRoom strategy
limits-room Buffer limits = tt
limits-room (Drop n) limits = let most = leb-true n 1024 limits in omega arith
limits-room (Latest n) limits = let most = leb-true n 1024 (and-both (nat_le 1 n) (nat_le n 1024) limits) in omega arith
limits-room (Bounded n) limits = let most = leb-true n 1024 limits in omega arith
