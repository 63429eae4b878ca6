-- What a demand releases of a line, as the demand or the line grows.
use Rattle.std.proofs.Common.{◌≡◌, ℕ, ◌+◌, ◌-◌, ◌<◌, ◌≤◌, cond, leb, List, [], ◌∷◌, ◌++◌, length, map, take, drop, sym, ap, ◌∙◌, inl, inr, append_assoc, arith}
use Rattle.std.proofs.lemmas.Bool.{cases_lt, cond-true, cond-false, le-leb, lt-leb}
use Rattle.std.proofs.lemmas.Bool.Decides.{nat_tests}
use Rattle.std.proofs.lemmas.List.{append-nil, map-append, length-append, length-drop, take_all, drop_all, take-append-drop}
use Rattle.std.proofs.Math.Seq.{take-add}
use Rattle.rx_note.specs.declared.item.Item.{Item}
use Rattle.rx_note.specs.declared.note.Note.{Note}
use Rattle.rx_note.specs.declared.note.Note.TheVariants.{Next}
use Rattle.rx_note.specs.Signals.{released}

-- enough demand releases the whole line
pub released_all : (n : ℕ) (items : List Item) (last : List Note) → length items ≤ n → released n items last ≡ map Next items ++ last
released_all n items last h =
    ap (λ b. map Next (take n items) ++ cond b last []) (le-leb (length items) n h)
    ∙ ap (λ front. map Next front ++ last) (take_all n items h)

-- less demand releases the first items alone
pub released_part : (n : ℕ) (items : List Item) (last : List Note) → n < length items → released n items last ≡ map Next (take n items)
released_part n items last h =
    ap (λ b. map Next (take n items) ++ cond b last []) (lt-leb (length items) n h) ∙ append-nil (map Next (take n items))

-- a line with no ending yet releases items alone
pub released-open : (n : ℕ) (items : List Item) → released n items [] ≡ map Next (take n items)
released-open n items =
    elim (cases_lt n (length items)) [
      | inl h ↦ released_part n items [] h
      | inr h ↦ released_all n items [] h ∙ append-nil (map Next items) ∙ ap (map Next) (sym (take_all n items h))
    ]

-- one item more is released where it was demanded already
pub released-item : (n : ℕ) (items : List Item) (item : Item) → length items < n → released n (items ++ item ∷ []) [] ≡ released n items [] ++ Next item ∷ []
released-item n items item h =
    released-open n (items ++ item ∷ [])
    ∙ ap (map Next) (take_all n (items ++ item ∷ []) (omega (arith, length-append items (item ∷ []))))
    ∙ map-append Next items (item ∷ [])
    ∙ ap (λ front. map Next front ++ Next item ∷ []) (sym (take_all n items (omega arith)))
    ∙ ap (λ notes. notes ++ Next item ∷ []) (sym (released-open n items))

-- the ending is released with the last item
pub released-end : (n : ℕ) (items : List Item) (last : List Note) → length items ≤ n → released n items last ≡ released n items [] ++ last
released-end n items last h =
    released_all n items last h
    ∙ ap (λ notes. notes ++ last) (sym (append-nil (map Next items)) ∙ sym (released_all n items [] h))

-- the ending of a longer line waits
pub released-end_waits : (n : ℕ) (items : List Item) (last : List Note) → n < length items → released n items last ≡ released n items []
released-end_waits n items last h = released_part n items last h ∙ sym (released_part n items [] h)

released-more_part : (d n : ℕ) (items : List Item) (last : List Note) → d < length items → released (d + n) items last ≡ map Next (take d items) ++ released n (drop d items) last
released-more_part d n items last h =
    let test : leb (length items) (d + n) ≡ leb (length (drop d items)) n = grind (arith, nat_tests, length-drop d items) in
    ap (λ front. map Next front ++ cond (leb (length items) (d + n)) last []) (take-add d n items)
    ∙ ap (λ notes. notes ++ cond (leb (length items) (d + n)) last []) (map-append Next (take d items) (take n (drop d items)))
    ∙ append_assoc (map Next (take d items)) (map Next (take n (drop d items))) (cond (leb (length items) (d + n)) last [])
    ∙ ap (λ b. map Next (take d items) ++ (map Next (take n (drop d items)) ++ cond b last [])) test

-- n more release what the rest of the line releases by n and by what was demanded beyond the line
pub released-more : (d n : ℕ) (items : List Item) (last : List Note) → released (d + n) items last ≡ released d items last ++ released (d - length items + n) (drop d items) (cond (leb (length items) d) [] last)
released-more d n items last =
    elim (cases_lt d (length items)) [
      | inl h ↦
          let held : cond (leb (length items) d) [] last ≡ last = cond-false _ [] last (lt-leb (length items) d h) in
          let nothing_owed : d - length items + n ≡ n = omega arith in
          released-more_part d n items last h
          ∙ ap (λ notes. notes ++ released n (drop d items) last) (sym (released_part d items last h))
          ∙ ap (λ k. released d items last ++ released k (drop d items) last) (sym nothing_owed)
          ∙ ap (λ rest. released d items last ++ released (d - length items + n) (drop d items) rest) (sym held)
      | inr h ↦
          let k : ℕ = d - length items + n in
          let held : cond (leb (length items) d) [] last ≡ [] = cond-true _ [] last (le-leb (length items) d h) in
          released_all (d + n) items last (omega arith)
          ∙ sym (released_all d items last h)
          ∙ sym (append-nil (released d items last))
          ∙ ap (λ notes. released d items last ++ notes) (sym (released_all k [] [] (omega arith)))
          ∙ ap (λ rest. released d items last ++ released k rest []) (sym (drop_all d items h))
          ∙ ap (λ rest. released d items last ++ released k (drop d items) rest) (sym held)
    ]

-- what is released and the rest are the whole line
pub released-rest : (n : ℕ) (items : List Item) (last : List Note) → released n items last ++ (map Next (drop n items) ++ cond (leb (length items) n) [] last) ≡ map Next items ++ last
released-rest n items last =
    elim (cases_lt n (length items)) [
      | inl h ↦
          ap (λ notes. notes ++ (map Next (drop n items) ++ cond (leb (length items) n) [] last)) (released_part n items last h)
          ∙ ap (λ b. map Next (take n items) ++ (map Next (drop n items) ++ cond b [] last)) (lt-leb (length items) n h)
          ∙ sym (append_assoc (map Next (take n items)) (map Next (drop n items)) last)
          ∙ ap (λ notes. notes ++ last) (sym (map-append Next (take n items) (drop n items)))
          ∙ ap (λ whole. map Next whole ++ last) (take-append-drop n items)
      | inr h ↦
          ap (λ notes. notes ++ (map Next (drop n items) ++ cond (leb (length items) n) [] last)) (released_all n items last h)
          ∙ ap (λ rest. (map Next items ++ last) ++ (map Next rest ++ cond (leb (length items) n) [] last)) (drop_all n items h)
          ∙ ap (λ b. (map Next items ++ last) ++ cond b [] last) (le-leb (length items) n h)
          ∙ append-nil (map Next items ++ last)
    ]
