-- Bytes with no LF, and the first LF of some bytes.
use Rattle.std.proofs.Common.{◌≡◌, ℕ, ◌+◌, ◌-◌, ◌<◌, ◌≤◌, true, false, cond, List, [], ◌∷◌, ◌++◌, length, get_or, take, drop, refl, sym, ap, ◌∙◌, subst, arith, add-one, length-append}
use Rattle.std.proofs.lemmas.List.{take_more, take-append-drop, get_or_at, get_or-append-add, length-take, length-take-le}
use Rattle.std.specs.Io.BufRead.{ends_with_byte}
use Rattle.std.proofs.Math.Seq.{drop-cons, take-append-add}
use Rattle.rx_proto.specs.LineFeeds.{HasNoLf}
use Rattle.rx_proto.proofs.LineFeeds.{HasNoLf-append, HasNoLf-front}
use Rattle.rx_lines.specs.Lines.{without_cr}
use Rattle.rx_lines.specs.Windows.{HasLfAt}

-- one byte more
pub HasNoLf-more : (xs : List ℕ) (i : ℕ) → i < length xs → HasNoLf (take i xs) → (get_or xs i 0 ≡ 10 → ⊥) → HasNoLf (take (i + 1) xs)
HasNoLf-more xs i within before here =
    subst HasNoLf (sym (take_more xs i 0 within)) (HasNoLf-append (take i xs) (get_or xs i 0 ∷ []) before (here, tt))

-- the first LF, where none stands before it
pub HasLfAt-here : (xs : List ℕ) (i : ℕ) → i < length xs → HasNoLf (take i xs) → get_or xs i 0 ≡ 10 → HasLfAt xs i
HasLfAt-here xs i within before here = record {
  within = within;
  line = record {
    parts = sym (take-append-drop i xs) ∙ ap (λ t. take i xs ++ t) (drop-cons xs i 0 within ∙ rw (here, add-one) refl);
    one = before;
  };
}

-- the byte at the first LF
byte_at_lf : (xs : List ℕ) (k : ℕ) → HasLfAt xs k → get_or xs k 0 ≡ 10
byte_at_lf xs k at =
    ap (λ t. get_or t k 0) at.line.parts ∙ get_or_at (take k xs) 10 (drop (k + 1) xs) 0 k (length-take-le k xs (omega (arith, at.within)))

-- the first LF of what stands behind bytes that have none
pub HasLfAt-behind : (xs ys : List ℕ) (k : ℕ) → HasNoLf xs → HasLfAt ys k → HasLfAt (xs ++ ys) (length xs + k)
HasLfAt-behind xs ys k none at =
    let front : HasNoLf (xs ++ take k ys) = HasNoLf-append xs (take k ys) none at.line.one in
    let here : get_or (xs ++ ys) (length xs + k) 0 ≡ 10 = get_or-append-add xs ys k 0 ∙ byte_at_lf ys k at in
    HasLfAt-here (xs ++ ys) (length xs + k) (omega (arith, length-append xs ys, at.within)) (subst HasNoLf (sym (take-append-add xs ys k)) front) here

-- the CR at its end is one byte of a line at most
pub length-without_cr : (line : List ℕ) → length line ≤ length (without_cr line) + 1
length-without_cr line = elim (ends_with_byte 13 line) as (λ ends. length line ≤ length (cond ends (take (length line - 1) line) line) + 1) [
  | true ↦ omega (arith, length-take (length line - 1) line)
  | false ↦ omega arith
]

-- what has no LF has none without its CR
pub HasNoLf-without_cr : (line : List ℕ) → HasNoLf line → HasNoLf (without_cr line)
HasNoLf-without_cr line none = elim (ends_with_byte 13 line) as (λ ends. HasNoLf (cond ends (take (length line - 1) line) line)) [
  | true ↦ HasNoLf-front (take (length line - 1) line) (drop (length line - 1) line) (subst HasNoLf (sym (take-append-drop (length line - 1) line)) none)
  | false ↦ none
]
