-- What a window keeps of items whose stamps rise.
use Rattle.std.proofs.Common.{◌≡◌, ℕ, suc, ◌+◌, ◌-◌, ◌<◌, ◌≤◌, Bool, true, false, cond, List, [], ◌∷◌, ◌++◌, length, drop, Option, None, Some, ◌⊎◌, inl, inr, refl, sym, ap, ◌∙◌, arith}
use Rattle.std.proofs.Math.Seq.{drop-nil}
use Rattle.std.proofs.lemmas.Bool.{cases_lt}
use Rattle.std.proofs.lemmas.Bool.Decides.{nat_tests}
use Rattle.std.proofs.lemmas.List.{length-append, length-drop, drop-append-le, drop-drop}
use Rattle.std.proofs.lemmas.List.Elements.{filter-append}
use Rattle.std.specs.List.{filter}
use Rattle.rx_note.specs.declared.item.Item.{Item}
use Rattle.rx_history.specs.Histories.{Stamped, newest, is_young, young, at_most}
use Rattle.rx_subject.specs.Windows.{from_young}
use Rattle.rx_subject.proofs.Rising.{RisesTo, pushed, dropped, sifted}

-- YOUNG ITEMS

pub young-none : (now : ℕ) (xs : List Stamped) → young None now xs ≡ xs
young-none now [] = refl
young-none now (x ∷ xs) = ap (λ ys. x ∷ ys) (young-none now xs)

pub from_young-none : (now : ℕ) (xs : List Stamped) → from_young None now xs ≡ xs
from_young-none now [] = refl
from_young-none now (x ∷ xs) = refl

-- an age below a young one is young
younger : (bound : Option ℕ) (less age : ℕ) → less ≤ age → is_young bound age ≡ true → is_young bound less ≡ true
younger None less age le is = refl
younger (Some bound) less age le is = grind (arith, nat_tests)

left_out : (b : Bool) (x : Stamped) (xs : List Stamped) → (b ≡ true → false ≡ true) → xs ≡ cond b (x ∷ xs) xs
left_out true x xs none = let e = none refl in cc
left_out false x xs none = refl

sifted_one : (q : Stamped → Bool) (x : Stamped) (p : Bool) (kept xs : List Stamped) → (q x ≡ true → p ≡ true) → filter q kept ≡ filter q xs
    → filter q (cond p (x ∷ kept) kept) ≡ cond (q x) (x ∷ filter q xs) (filter q xs)
sifted_one q x true kept xs follows same = ap (λ ys. cond (q x) (x ∷ ys) ys) same
sifted_one q x false kept xs follows same = same ∙ left_out (q x) x (filter q xs) follows

-- a sharper test finds the same behind a weaker one
sifted_twice : (p q : Stamped → Bool) → ((x : Stamped) → q x ≡ true → p x ≡ true) → (xs : List Stamped) → filter q (filter p xs) ≡ filter q xs
sifted_twice p q follows [] = refl
sifted_twice p q follows (x ∷ xs) = sifted_one q x (p x) (filter p xs) xs (follows x) (sifted_twice p q follows xs)

-- what is young later was young before
pub young-later : (bound : Option ℕ) (now later : ℕ) (xs : List Stamped) → now ≤ later → young bound later (young bound now xs) ≡ young bound later xs
young-later bound now later xs le =
    sifted_twice (λ x. is_young bound (now - x.1)) (λ x. is_young bound (later - x.1))
    (λ x is. younger bound (now - x.1) (later - x.1) (omega arith) is) xs

-- where the first is young, all are
pub all_young : (bound : Option ℕ) (now low : ℕ) (xs : List Stamped) (high : ℕ) → RisesTo low xs high → is_young bound (now - low) ≡ true → young bound now xs ≡ xs
all_young bound now low [] high rises is = refl
all_young bound now low (x ∷ xs) high rises is =
    let le : low ≤ x.1 = rises.0 in
    let first : is_young bound (now - x.1) ≡ true = younger bound (now - x.1) (now - low) (omega arith) is in
    ap (λ b. cond b (x ∷ young bound now xs) (young bound now xs)) first
    ∙ ap (λ ys. x ∷ ys) (all_young bound now x.1 xs high rises.1 first)

from_one : (b : Bool) (bound : Option ℕ) (now : ℕ) (x : Stamped) (xs : List Stamped) (high : ℕ) → is_young bound (now - x.1) ≡ b → RisesTo x.1 xs high
    → from_young bound now xs ≡ young bound now xs
    → cond b (x ∷ xs) (from_young bound now xs) ≡ cond b (x ∷ young bound now xs) (young bound now xs)
from_one true bound now x xs high is rises rest = ap (λ ys. x ∷ ys) (sym (all_young bound now x.1 xs high rises is))
from_one false bound now x xs high is rises rest = rest

-- so that the young ones are those behind the old ones
pub from_young-young : (bound : Option ℕ) (now low : ℕ) (xs : List Stamped) (high : ℕ) → RisesTo low xs high → from_young bound now xs ≡ young bound now xs
from_young-young bound now low [] high rises = refl
from_young-young bound now low (x ∷ xs) high rises =
    from_one (is_young bound (now - x.1)) bound now x xs high refl rises.1 (from_young-young bound now x.1 xs high rises.1)

-- THE LAST ITEMS

newest-more : (n : ℕ) (x : Stamped) (xs : List Stamped) → n ≤ length xs → newest n (x ∷ xs) ≡ newest n xs
newest-more n x xs le = let k : suc (length xs) - n ≡ suc (length xs - n) = omega arith in ap (λ k. drop k (x ∷ xs)) k

newest-all : (n : ℕ) (xs : List Stamped) → length xs ≤ n → newest n xs ≡ xs
newest-all n xs le = let k : length xs - n ≡ 0 = omega arith in ap (λ k. drop k xs) k

old_first : (n : ℕ) (bound : Option ℕ) (now : ℕ) (x : Stamped) (xs : List Stamped) → (n ≤ length xs) ⊎ (length xs < n) → is_young bound (now - x.1) ≡ false
    → newest n (young bound now xs) ≡ young bound now (newest n xs) → newest n (young bound now xs) ≡ young bound now (newest n (x ∷ xs))
old_first n bound now x xs (inl le) is same = same ∙ ap (young bound now) (sym (newest-more n x xs le))
old_first n bound now x xs (inr lt) is same =
    same
    ∙ ap (young bound now) (newest-all n xs (omega arith))
    ∙ ap (λ b. cond b (x ∷ young bound now xs) (young bound now xs)) (sym is)
    ∙ ap (young bound now) (sym (newest-all n (x ∷ xs) (omega arith)))

within_or_not : (n m : ℕ) → (n ≤ m) ⊎ (m < n)
within_or_not n m = elim (cases_lt m n) [ inl lt ↦ inr lt | inr le ↦ inl le ]

newest_one : (b : Bool) (n : ℕ) (bound : Option ℕ) (now : ℕ) (x : Stamped) (xs : List Stamped) (high : ℕ) → is_young bound (now - x.1) ≡ b → RisesTo x.1 xs high
    → newest n (young bound now xs) ≡ young bound now (newest n xs)
    → newest n (cond b (x ∷ young bound now xs) (young bound now xs)) ≡ young bound now (newest n (x ∷ xs))
newest_one true n bound now x xs high is rises same =
    let first : x.1 ≤ x.1 = omega arith in
    ap (λ ys. newest n (x ∷ ys)) (all_young bound now x.1 xs high rises is)
    ∙ sym (all_young bound now x.1 (newest n (x ∷ xs)) high (dropped (length (x ∷ xs) - n) x.1 (x ∷ xs) high (first, rises)) is)
newest_one false n bound now x xs high is rises same = old_first n bound now x xs (within_or_not n (length xs)) is same

-- the last of the young ones are the young ones of the last
newest-young : (n : ℕ) (bound : Option ℕ) (now low : ℕ) (xs : List Stamped) (high : ℕ) → RisesTo low xs high
    → newest n (young bound now xs) ≡ young bound now (newest n xs)
newest-young n bound now low [] high rises = drop-nil (0 - n) ∙ ap (young bound now) (sym (drop-nil (0 - n)))
newest-young n bound now low (x ∷ xs) high rises =
    newest_one (is_young bound (now - x.1)) n bound now x xs high refl rises.1 (newest-young n bound now x.1 xs high rises.1)

pub at_most-young : (count bound : Option ℕ) (now low : ℕ) (xs : List Stamped) (high : ℕ) → RisesTo low xs high
    → at_most count (young bound now xs) ≡ young bound now (at_most count xs)
at_most-young None bound now low xs high rises = refl
at_most-young (Some n) bound now low xs high rises = newest-young n bound now low xs high rises

at_most-rises : (count : Option ℕ) (low : ℕ) (xs : List Stamped) (high : ℕ) → RisesTo low xs high → RisesTo low (at_most count xs) high
at_most-rises None low xs high rises = rises
at_most-rises (Some n) low xs high rises = dropped (length xs - n) low xs high rises

-- the last of the last and one more are the last of all
newest-push : (n : ℕ) (xs : List Stamped) (x : Stamped) → newest n (newest n xs ++ x ∷ []) ≡ newest n (xs ++ x ∷ [])
newest-push n xs x =
    let all = xs ++ x ∷ [] in
    let m = length xs - n in
    let joined : drop m xs ++ x ∷ [] ≡ drop m all = sym (drop-append-le m xs (x ∷ []) (omega arith)) in
    let k : m + (length (drop m all) - n) ≡ length all - n = omega (arith, length-drop m all, length-append xs (x ∷ [])) in
    ap (newest n) joined ∙ drop-drop (length (drop m all) - n) m all ∙ ap (λ j. drop j all) k

at_most-push : (count : Option ℕ) (xs : List Stamped) (x : Stamped) → at_most count (at_most count xs ++ x ∷ []) ≡ at_most count (xs ++ x ∷ [])
at_most-push None xs x = refl
at_most-push (Some n) xs x = newest-push n xs x

-- WHAT IS KEPT

-- at a later moment
pub kept-later : (count bound : Option ℕ) (now later : ℕ) (xs : List Stamped) (high : ℕ) → RisesTo 0 xs high → now ≤ later
    → from_young bound later (at_most count (young bound now xs)) ≡ at_most count (young bound later xs)
kept-later count bound now later xs high rises le =
    let in_time = young bound now xs in
    let rises_on = sifted (λ x. is_young bound (now - x.1)) 0 xs high rises in
    from_young-young bound later 0 (at_most count in_time) high (at_most-rises count 0 in_time high rises_on)
    ∙ sym (at_most-young count bound later 0 in_time high rises_on)
    ∙ ap (at_most count) (young-later bound now later xs le)

-- with one item more
pub kept-pushed : (count bound : Option ℕ) (now later : ℕ) (xs : List Stamped) (high : ℕ) (item : Item) → RisesTo 0 xs high → high ≤ later → now ≤ later
    → from_young bound later (at_most count (at_most count (young bound now xs) ++ (item, later) ∷ [])) ≡ at_most count (young bound later (xs ++ (item, later) ∷ []))
kept-pushed count bound now later xs high item rises above le =
    let in_time = young bound now xs in
    let one : List Stamped = (item, later) ∷ [] in
    let rises_on = pushed 0 in_time high later item above (sifted (λ x. is_young bound (now - x.1)) 0 xs high rises) in
    let test : Stamped → Bool = λ x. is_young bound (later - x.1) in
    ap (from_young bound later) (at_most-push count in_time (item, later))
    ∙ from_young-young bound later 0 (at_most count (in_time ++ one)) later (at_most-rises count 0 (in_time ++ one) later rises_on)
    ∙ sym (at_most-young count bound later 0 (in_time ++ one) later rises_on)
    ∙ ap (at_most count) (filter-append test in_time one ∙ ap (λ ys. ys ++ filter test one) (young-later bound now later xs le) ∙ sym (filter-append test xs one))
