-- What a reader that comes again is told leaves no gap.
use Rattle.std.proofs.Common.{◌≡◌, ℕ, ◌+◌, ◌-◌, ◌≤◌, ◌==◌, Bool, true, false, cond, List, [], ◌∷◌, ◌++◌, length, None, Some, refl, sym, ap, subst, ◌∙◌, arith}
use Rattle.std.specs.Prelude.{nat_lt}
use Rattle.std.proofs.lemmas.Bool.{eqb-true, eq-eqb, ltb-false}
use Rattle.rx_note.specs.declared.item.Item.{Item}
use Rattle.rx_note.specs.declared.note.Note.{Note}
use Rattle.rx_note.specs.declared.note.Note.TheVariants.{Next, Completed, Failed}
use Rattle.rx_note.specs.declared.rules.Rules.{Rules}
use Rattle.rx_history.specs.Histories.{line_of}
use Rattle.rx_history.specs.Delivery.{IsSubsequence, items_among, offered_to, all_items}
use Rattle.rx_history.proofs.Subsequences.{along, none_of, all_of, both_of, some_of_some}
use Rattle.rx_history.proofs.Delivered.{line_in_order}
use Rattle.rx_history.proofs.Offers.{offers_in_order}
use Rattle.std.proofs.lemmas.List.{append-nil}
use Rattle.rx_http.specs.Resuming.{Heard, Told, Seeded, Missed, Over, told, account, Connection, AreHeard, all_heard, items_heard, missed, Rise, ReaderGoesOn, HeardAreItems}

-- it is accounted for
abbrev IsAccounted : ℕ → List Heard → Type 0
IsAccounted known heard = (next : ℕ) × (account known heard ≡ Some next)

-- an item at its place
told-here : (known : ℕ) (item : Item) (heard : List Heard) → (item.place == known) ≡ true → IsAccounted (item.place + 1) heard → IsAccounted known (Told item ∷ heard)
told-here known item heard here rest = (rest.0, ap (λ b. cond b (account (item.place + 1) heard) None) here ∙ rest.1)

-- an item behind some that were missed
told-behind : (known : ℕ) (item : Item) (heard : List Heard) → known ≤ item.place → IsAccounted (item.place + 1) heard
    → IsAccounted known (Missed (item.place - known) ∷ Told item ∷ heard)
told-behind known item heard within rest =
    told-here (known + (item.place - known)) item heard (eq-eqb item.place (known + (item.place - known)) (omega (arith, within))) rest

-- what is told of an item and those behind it
told-next : (seed old here : Bool) (known : ℕ) (item : Item) (rest : ℕ → List Heard) → nat_lt item.place known ≡ old → (item.place == known) ≡ here
    → ((k : ℕ) → IsAccounted k (rest k))
    → IsAccounted known (cond seed (Seeded item ∷ rest known) (cond old (rest known)
    (cond here (Told item ∷ rest (item.place + 1)) (Missed (item.place - known) ∷ Told item ∷ rest (item.place + 1)))))
told-next true old here known item rest is_old is_here are = are known
told-next false true here known item rest is_old is_here are = are known
told-next false false true known item rest is_old is_here are = told-here known item (rest (item.place + 1)) is_here (are (item.place + 1))
told-next false false false known item rest is_old is_here are =
    told-behind known item (rest (item.place + 1)) (ltb-false item.place known is_old) (are (item.place + 1))

all-told : (line : List Note) (known : ℕ) → IsAccounted known (told line known)
all-told [] known = (known, refl)
all-told (Next item ∷ line) known =
    told-next (item.place == 4294967295) (nat_lt item.place known) (item.place == known) known item (told line) refl refl (λ k. all-told line k)
all-told (Completed ∷ line) known = all-told line known
all-told (Failed text ∷ line) known = all-told line known

-- a front of what is accounted for is so
front-told : (b : Bool) (known : ℕ) (item : Item) (front back : List Heard) → (item.place == known) ≡ b
    → ((k : ℕ) → IsAccounted k (front ++ back) → IsAccounted k front)
    → (next : ℕ) → cond b (account (item.place + 1) (front ++ back)) None ≡ Some next → IsAccounted known (Told item ∷ front)
front-told true known item front back here rest next is = told-here known item front here (rest (item.place + 1) (next, is))
front-told false known item front back here rest next is = cc

front-accounted : (known : ℕ) (front back : List Heard) → IsAccounted known (front ++ back) → IsAccounted known front
front-accounted known [] back is = (known, refl)
front-accounted known (Told item ∷ front) back is = front-told (item.place == known) known item front back refl (λ k. front-accounted k front back) is.0 is.1
front-accounted known (Seeded seed ∷ front) back is = front-accounted known front back is
front-accounted known (Missed n ∷ front) back is = front-accounted (known + n) front back is
front-accounted known (Over terminal ∷ front) back is = front-accounted known front back is

-- several, one after another
both-told : (b : Bool) (known : ℕ) (item : Item) (middle : ℕ) (first second : List Heard) → (item.place == known) ≡ b
    → ((k : ℕ) → account k first ≡ Some middle → IsAccounted middle second → IsAccounted k (first ++ second))
    → cond b (account (item.place + 1) first) None ≡ Some middle → IsAccounted middle second → IsAccounted known (Told item ∷ (first ++ second))
both-told true known item middle first second here rest is then = told-here known item (first ++ second) here (rest (item.place + 1) is then)
both-told false known item middle first second here rest is then = cc

both-accounted : (known middle : ℕ) (first second : List Heard) → account known first ≡ Some middle → IsAccounted middle second → IsAccounted known (first ++ second)
both-accounted known middle [] second is then = subst (λ k. IsAccounted k second) (sym (some-same known middle is)) then
  where
    some-same : (a b : ℕ) → Some a ≡ Some b → a ≡ b
    some-same a b same = cc
both-accounted known middle (Told item ∷ first) second is then =
    both-told (item.place == known) known item middle first second refl (λ k. both-accounted k middle first second) is then
both-accounted known middle (Seeded seed ∷ first) second is then = both-accounted known middle first second is then
both-accounted known middle (Missed n ∷ first) second is then = both-accounted (known + n) middle first second is then
both-accounted known middle (Over terminal ∷ first) second is then = both-accounted known middle first second is then

-- all connections
all-accounted : (rules : Rules) (known : ℕ) (connections : List Connection) → AreHeard rules known connections → IsAccounted known (all_heard connections)
all-accounted rules known [] are = (known, refl)
all-accounted rules known (c ∷ more) are =
    both-accounted known here.0 c.heard (all_heard more) here.1 (all-accounted rules here.0 more (are.1 here.0 here.1))
  where
    here : IsAccounted known c.heard
    here = front-accounted known c.heard are.0.0 (subst (IsAccounted known) are.0.1 (all-told (line_of rules c.history c.observer) known))

-- WHAT AN ACCOUNT SAYS

rise-lower : (a b : ℕ) (items : List Item) → a ≤ b → Rise b items → Rise a items
rise-lower a b [] within rise = tt
rise-lower a b (item ∷ items) within rise = (omega (arith, within, rise.0), rise.1)

abbrev Says : ℕ → ℕ → List Heard → Type 0
Says known next heard = Rise known (items_heard heard) × (next ≡ known + (length (items_heard heard) + missed heard))

says-told : (b : Bool) (known : ℕ) (item : Item) (next : ℕ) (heard : List Heard) → (item.place == known) ≡ b
    → (account (item.place + 1) heard ≡ Some next → Says (item.place + 1) next heard)
    → cond b (account (item.place + 1) heard) None ≡ Some next → Says known next (Told item ∷ heard)
says-told true known item next heard here rest is =
    ((omega (arith, eqb-true item.place known here), (rest is).0), omega (arith, eqb-true item.place known here, (rest is).1))
says-told false known item next heard here rest is = cc

says : (known next : ℕ) (heard : List Heard) → account known heard ≡ Some next → Says known next heard
says known next [] is = (tt, omega (arith, some-same known next is))
  where
    some-same : (a b : ℕ) → Some a ≡ Some b → a ≡ b
    some-same a b same = cc
says known next (Told item ∷ heard) is = says-told (item.place == known) known item next heard refl (says (item.place + 1) next heard) is
says known next (Seeded seed ∷ heard) is = says known next heard is
says known next (Missed n ∷ heard) is =
    (rise-lower known (known + n) (items_heard heard) (omega arith) (says (known + n) next heard is).0, omega (arith, (says (known + n) next heard is).1))
says known next (Over terminal ∷ heard) is = says known next heard is

pub goes_on : ReaderGoesOn
goes_on rules known connections are = (last.0, last.1, said.0, said.1)
  where
    last : IsAccounted known (all_heard connections)
    last = all-accounted rules known connections are

    said : Says known last.0 (all_heard connections)
    said = says known last.0 (all_heard connections) last.1

-- WHOSE ITEMS THEY ARE

passed : (item : Item) (some all : List Item) → IsSubsequence some all → IsSubsequence some (item ∷ all)
passed item some all of = both_of [] (item ∷ []) some all (none_of (item ∷ [])) of

taken : (item : Item) (some all : List Item) → IsSubsequence some all → IsSubsequence (item ∷ some) (item ∷ all)
taken item some all of = both_of (item ∷ []) (item ∷ []) some all (all_of (item ∷ [])) of

items-next : (seed old here : Bool) (known : ℕ) (item : Item) (rest : ℕ → List Heard) (all : List Item)
    → ((k : ℕ) → IsSubsequence (items_heard (rest k)) all)
    → IsSubsequence (items_heard (cond seed (Seeded item ∷ rest known) (cond old (rest known)
    (cond here (Told item ∷ rest (item.place + 1)) (Missed (item.place - known) ∷ Told item ∷ rest (item.place + 1)))))) (item ∷ all)
items-next true old here known item rest all are = passed item (items_heard (rest known)) all (are known)
items-next false true here known item rest all are = passed item (items_heard (rest known)) all (are known)
items-next false false true known item rest all are = taken item (items_heard (rest (item.place + 1))) all (are (item.place + 1))
items-next false false false known item rest all are = taken item (items_heard (rest (item.place + 1))) all (are (item.place + 1))

items-told : (line : List Note) (known : ℕ) → IsSubsequence (items_heard (told line known)) (items_among line)
items-told [] known = none_of []
items-told (Next item ∷ line) known =
    items-next (item.place == 4294967295) (nat_lt item.place known) (item.place == known) known item (told line) (items_among line) (λ k. items-told line k)
items-told (Completed ∷ line) known = items-told line known
items-told (Failed text ∷ line) known = items-told line known

items-parts : (a b : List Heard) → items_heard (a ++ b) ≡ items_heard a ++ items_heard b
items-parts [] b = refl
items-parts (Told item ∷ a) b = ap (λ xs. item ∷ xs) (items-parts a b)
items-parts (Seeded seed ∷ a) b = items-parts a b
items-parts (Missed n ∷ a) b = items-parts a b
items-parts (Over terminal ∷ a) b = items-parts a b

front-of : (a b : List Item) → IsSubsequence a (a ++ b)
front-of a b = along (a ++ []) (a ++ b) a (a ++ b) (sym (append-nil a)) refl (both_of a a [] b (all_of a) (none_of b))

pub heard_are_items : HeardAreItems
heard_are_items rules H o known heard back cut =
    some_of_some (items_heard heard) (items_heard (told line known)) (all_items rules H)
    (along (items_heard heard) (items_heard heard ++ items_heard back) (items_heard heard) (items_heard (told line known)) refl
    (ap items_heard cut ∙ items-parts heard back) (front-of (items_heard heard) (items_heard back)))
    (some_of_some (items_heard (told line known)) (items_among line) (all_items rules H) (items-told line known)
    (some_of_some (items_among line) (offered_to rules H o) (all_items rules H) (line_in_order rules H o) (offers_in_order rules H o)))
  where
    line : List Note
    line = line_of rules H o
