-- The numbers that stay when an observer leaves, moved to the front one after another.
use Rattle.std.proofs.Common.{◌≡◌, ℕ, ◌+◌, ◌<◌, ◌≤◌, ◌==◌, Bool, true, false, cond, not, List, [], ◌∷◌, ◌++◌, length, take, drop, set, get_or, sym, ap, ◌∙◌, append-nil, arith}
use Rattle.std.specs.List.{filter}
use Rattle.std.proofs.lemmas.List.{take_more, take_more_set, take-set, drop-set-lt, get_or-drop, drop-drop}
use Rattle.std.proofs.lemmas.List.Elements.{filter-append}

-- whether a number stays
abbrev pub stays : ℕ → ℕ → Bool
stays who number = not (number == who)

-- a count that may be one more
pub one_more_at_most : (b : Bool) (count n : ℕ) → n ≡ cond b (count + 1) count → n ≤ count + 1
one_more_at_most true count n is = omega (arith, is)
one_more_at_most false count n is = omega (arith, is)

-- the next number, as those that are left have it
next_same : (xs ys : List ℕ) (place : ℕ) → drop place xs ≡ drop place ys → get_or xs place 0 ≡ get_or ys place 0
next_same xs ys place same =
    let plain : place + 0 ≡ place = omega arith in
    ap (λ n. get_or xs n 0) (sym plain) ∙ sym (get_or-drop place xs 0 0) ∙ ap (λ rest. get_or rest 0 0) same ∙ get_or-drop place ys 0 0 ∙ ap (λ n. get_or ys n 0) plain

moved : (b : Bool) (xs : List ℕ) (kept number n : ℕ) (front : List ℕ) → kept < length xs → take kept xs ≡ front → n ≡ cond b (kept + 1) kept
    → take n (set xs kept number) ≡ front ++ cond b (number ∷ []) []
moved true xs kept number n front room same is =
    ap (λ k. take k (set xs kept number)) is ∙ take_more_set xs kept number room ∙ ap (λ zs. zs ++ number ∷ []) same
moved false xs kept number n front room same is =
    ap (λ k. take k (set xs kept number)) is ∙ take-set xs kept number ∙ same ∙ sym (append-nil front)

-- one number more is kept, or left out
pub keeps_one : (xs ys : List ℕ) (kept place who n : ℕ) → kept ≤ place → place < length xs → place < length ys
    → take kept xs ≡ filter (stays who) (take place ys) → drop place xs ≡ drop place ys → n ≡ cond (stays who (get_or xs place 0)) (kept + 1) kept
    → take n (set xs kept (get_or xs place 0)) ≡ filter (stays who) (take (place + 1) ys)
keeps_one xs ys kept place who n behind within there same rest is =
    let number = get_or xs place 0 in
    let next : number ≡ get_or ys place 0 = next_same xs ys place rest in
    moved (stays who number) xs kept number n (filter (stays who) (take place ys)) (omega arith) same is
    ∙ sym (filter-append (stays who) (take place ys) (number ∷ []))
    ∙ ap (λ k. filter (stays who) (take place ys ++ k ∷ [])) next
    ∙ ap (filter (stays who)) (sym (take_more ys place 0 there))

-- those behind it are as they were
pub rest_stays : (xs ys : List ℕ) (kept place number : ℕ) → kept ≤ place → drop place xs ≡ drop place ys
    → drop (place + 1) (set xs kept number) ≡ drop (place + 1) ys
rest_stays xs ys kept place number behind rest =
    drop-set-lt (place + 1) xs kept number (omega arith)
    ∙ sym (drop-drop 1 place xs)
    ∙ ap (drop 1) rest
    ∙ drop-drop 1 place ys
