-- Subsequences: some items of a list in the list's order.
use Rattle.std.proofs.Common.{◌≡◌, ℕ, zero, suc, Bool, true, false, cond, List, [], ◌∷◌, ◌++◌, length, take, drop, refl, sym, ap, subst, ◌∙◌, arith}
use Rattle.std.specs.List.{filter, items_where_true}
use Rattle.std.proofs.lemmas.List.{length-append}
use Rattle.rx_note.specs.declared.item.Item.{Item}
use Rattle.rx_history.specs.Histories.{Stamped, unstamped}
use Rattle.rx_history.specs.Delivery.{IsSubsequence}

-- equal lists are some of equal lists
pub along : (some all some' all' : List Item) → some' ≡ some → all' ≡ all → IsSubsequence some all → IsSubsequence some' all'
along some all some' all' e f of =
    let P : List Item → Type 0 = λ xs. IsSubsequence xs all in
    let Q : List Item → Type 0 = λ xs. IsSubsequence some' xs in
    subst Q (sym f) (subst P (sym e) of)

-- a mask of any length picks what one of the list's length does
pub picked : (bs : List Bool) (xs : List Item) → IsSubsequence (items_where_true bs xs) xs
picked [] [] = ([], refl, refl)
picked (b ∷ bs) [] = ([], refl, refl)
picked [] (x ∷ xs) = let rest = picked [] xs in (false ∷ rest.0, omega (arith, rest.1), rest.2)
picked (true ∷ bs) (x ∷ xs) = let rest = picked bs xs in (true ∷ rest.0, omega (arith, rest.1), ap (λ ys. x ∷ ys) rest.2)
picked (false ∷ bs) (x ∷ xs) = let rest = picked bs xs in (false ∷ rest.0, omega (arith, rest.1), rest.2)

-- no items are some of any
pub none_of : (xs : List Item) → IsSubsequence [] xs
none_of xs = picked [] xs

-- and all items some of themselves
pub all_of : (xs : List Item) → IsSubsequence xs xs
all_of [] = ([], refl, refl)
all_of (x ∷ xs) = let rest = all_of xs in (true ∷ rest.0, omega (arith, rest.1), ap (λ ys. x ∷ ys) rest.2)

-- so are the first ones
pub take_of : (n : ℕ) (xs : List Item) → IsSubsequence (take n xs) xs
take_of zero xs = none_of xs
take_of (suc n) [] = none_of []
take_of (suc n) (x ∷ xs) = let rest = take_of n xs in (true ∷ rest.0, omega (arith, rest.1), ap (λ ys. x ∷ ys) rest.2)

picked-append : (bs cs : List Bool) (xs ys : List Item) → length bs ≡ length xs → items_where_true (bs ++ cs) (xs ++ ys) ≡ items_where_true bs xs ++ items_where_true cs ys
picked-append [] cs [] ys h = refl
picked-append [] cs (x ∷ xs) ys h = absurd (omega arith)
picked-append (b ∷ bs) cs [] ys h = absurd (omega arith)
picked-append (true ∷ bs) cs (x ∷ xs) ys h = ap (λ zs. x ∷ zs) (picked-append bs cs xs ys (omega arith))
picked-append (false ∷ bs) cs (x ∷ xs) ys h = picked-append bs cs xs ys (omega arith)

-- one list behind another
pub both_of : (some xs more ys : List Item) → IsSubsequence some xs → IsSubsequence more ys → IsSubsequence (some ++ more) (xs ++ ys)
both_of some xs more ys one other = (
  one.0 ++ other.0,
  omega (arith, one.1, other.1, length-append one.0 other.0, length-append xs ys),
  ap (λ zs. zs ++ more) one.2 ∙ ap (λ zs. items_where_true one.0 xs ++ zs) other.2 ∙ sym (picked-append one.0 other.0 xs ys one.1),
)

picked_twice : (bs cs : List Bool) (xs : List Item) → IsSubsequence (items_where_true bs (items_where_true cs xs)) xs
picked_twice [] cs xs = none_of xs
picked_twice (b ∷ bs) [] xs = none_of xs
picked_twice (b ∷ bs) (c ∷ cs) [] = none_of []
picked_twice (true ∷ bs) (true ∷ cs) (x ∷ xs) = let rest = picked_twice bs cs xs in (true ∷ rest.0, omega (arith, rest.1), ap (λ ys. x ∷ ys) rest.2)
picked_twice (false ∷ bs) (true ∷ cs) (x ∷ xs) = let rest = picked_twice bs cs xs in (false ∷ rest.0, omega (arith, rest.1), rest.2)
picked_twice (b ∷ bs) (false ∷ cs) (x ∷ xs) = let rest = picked_twice (b ∷ bs) cs xs in (false ∷ rest.0, omega (arith, rest.1), rest.2)

-- some of some are some
pub some_of_some : (few some all : List Item) → IsSubsequence few some → IsSubsequence some all → IsSubsequence few all
some_of_some few some all one other =
    let both = picked_twice one.0 other.0 all in
    (both.0, both.1, one.2 ∙ ap (items_where_true one.0) other.2 ∙ both.2)

kept_or_not : (p : Bool) (x : Item) (some all : List Item) → IsSubsequence some all → IsSubsequence (cond p (x ∷ some) some) (cond p (x ∷ all) all)
kept_or_not true x some all rest = (true ∷ rest.0, omega (arith, rest.1), ap (λ ys. x ∷ ys) rest.2)
kept_or_not false x some all rest = rest

left_or_not : (p : Bool) (x : Item) (some all : List Item) → IsSubsequence some all → IsSubsequence some (cond p (x ∷ all) all)
left_or_not true x some all rest = (false ∷ rest.0, omega (arith, rest.1), rest.2)
left_or_not false x some all rest = rest

filter-picked : (p : Item → Bool) (bs : List Bool) (xs : List Item) → IsSubsequence (filter p (items_where_true bs xs)) (filter p xs)
filter-picked p [] xs = none_of (filter p xs)
filter-picked p (b ∷ bs) [] = none_of []
filter-picked p (true ∷ bs) (x ∷ xs) = kept_or_not (p x) x (filter p (items_where_true bs xs)) (filter p xs) (filter-picked p bs xs)
filter-picked p (false ∷ bs) (x ∷ xs) = left_or_not (p x) x (filter p (items_where_true bs xs)) (filter p xs) (filter-picked p bs xs)

-- a filter of some is some of the filter of all
pub filtered : (p : Item → Bool) (some all : List Item) → IsSubsequence some all → IsSubsequence (filter p some) (filter p all)
filtered p some all of =
    let rest = filter-picked p of.0 all in
    (rest.0, rest.1, ap (filter p) of.2 ∙ rest.2)

-- STAMPED ITEMS

-- those behind the first n are some of all
pub drop_of : (n : ℕ) (xs : List Stamped) → IsSubsequence (unstamped (drop n xs)) (unstamped xs)
drop_of zero xs = all_of (unstamped xs)
drop_of (suc n) [] = none_of []
drop_of (suc n) (x ∷ xs) = let rest = drop_of n xs in (false ∷ rest.0, omega (arith, rest.1), rest.2)

chosen_of : (p : Bool) (x : Stamped) (some all : List Stamped) → IsSubsequence (unstamped some) (unstamped all)
    → IsSubsequence (unstamped (cond p (x ∷ some) some)) (unstamped (x ∷ all))
chosen_of true x some all rest = (true ∷ rest.0, omega (arith, rest.1), ap (λ ys. x.0 ∷ ys) rest.2)
chosen_of false x some all rest = (false ∷ rest.0, omega (arith, rest.1), rest.2)

-- and so are those that a test finds
pub filter_of : (p : Stamped → Bool) (xs : List Stamped) → IsSubsequence (unstamped (filter p xs)) (unstamped xs)
filter_of p [] = none_of []
filter_of p (x ∷ xs) = chosen_of (p x) x (filter p xs) xs (filter_of p xs)
