-- The head of a connection is the same however it comes.
use Rattle.std.proofs.Common.{◌≡◌, ℕ, ◌+◌, ◌<◌, inl, inr, List, ◌++◌, length, sym, ap, ◌∙◌, true≢false, arith}
use Rattle.std.proofs.lemmas.Bool.{cases_lt}
use Rattle.std.proofs.lemmas.List.{length-append, take-append-le}
use Rattle.rx_http.specs.Heads.{HasNoHead, HeadIsTheSame, IsHeadAt, ends_empty}
use Rattle.rx_http.proofs.HeadBlocks.{none-behind}

-- an empty line ends at a length below which none does
not-below : {P : Type 0} (len other : ℕ) (bytes : List ℕ) → IsHeadAt len bytes → IsHeadAt other bytes → len < other → P
not-below len other bytes one more below = absurd (true≢false (sym one.ends ∙ more.first len below))

one-head : (len other : ℕ) (bytes : List ℕ) → IsHeadAt len bytes → IsHeadAt other bytes → len ≡ other
one-head len other bytes one more =
    elim (cases_lt len other) [
      | inl below ↦ not-below len other bytes one more below
      | inr above ↦ elim (cases_lt other len) [
        | inl below ↦ not-below other len bytes more one below
        | inr same ↦ omega arith
      ]
    ]

head-stays : (len : ℕ) (bytes more : List ℕ) → IsHeadAt len bytes → IsHeadAt len (bytes ++ more)
head-stays len bytes more is = record {
  within = let sum = length-append bytes more in let few = is.within in omega (arith, sum);
  ends = ap ends_empty (take-append-le len bytes more is.within) ∙ is.ends;
  first = none-behind len bytes more (let few = is.within in omega arith) is.first;
}

head-longer : (len : ℕ) (bytes more : List ℕ) → HasNoHead bytes → IsHeadAt len (bytes ++ more) → length bytes < len
head-longer len bytes more none is =
    elim (cases_lt (length bytes) len) [
      | inl longer ↦ longer
      | inr within ↦ absurd (true≢false (sym is.ends ∙ none-behind (length bytes + 1) bytes more (omega arith) none len (omega arith)))
    ]

pub head_is_the_same : HeadIsTheSame
head_is_the_same = record { one = one-head; stays = head-stays; longer = head-longer }
