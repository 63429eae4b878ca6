-- How far a text has been written, line by line.
use Rattle.std.proofs.Common.{◌≡◌, ℕ, ◌+◌, ◌-◌, ◌<◌, ◌≤◌, cond, List, [], ◌∷◌, ◌++◌, length, take, drop, get_or, codes, sym, ap, ◌∙◌, append_assoc, append-nil, arith}
use Rattle.std.proofs.lemmas.Bool.{eq-eqb, ne_eqb}
use Rattle.std.proofs.lemmas.List.{drop_more, drop_all, take_all, take_more, get_or-drop, length-drop}
use Rattle.rx_http.specs.Pieces.{text_lines}

-- what of a text is to come, from `start` on, where there is no CR up to `i`
abbrev pub to_come : List ℕ → ℕ → ℕ → List ℕ
to_come text start i = take (i - start) (drop start text) ++ text_lines (drop i text)

-- at a CR the line goes, and another begins
pub to_come-line : (text : List ℕ) (start i : ℕ) → i < length text → get_or text i 0 ≡ 13
    → to_come text start i ≡ take (i - start) (drop start text) ++ (codes "\ndata: " ++ to_come text (i + 1) (i + 1))
to_come-line text start i below cr =
    let no_more : i + 1 - (i + 1) ≡ 0 = omega arith in
    let none : take (i + 1 - (i + 1)) (drop (i + 1) text) ≡ [] = ap (λ n. take n (drop (i + 1) text)) no_more in
    ap (λ l. take (i - start) (drop start text) ++ l) (
    ap text_lines (drop_more text i 0 below)
    ∙ ap (λ b. cond b (codes "\ndata: ") (get_or text i 0 ∷ []) ++ text_lines (drop (i + 1) text)) (eq-eqb (get_or text i 0) 13 cr)
    ∙ ap (λ l. codes "\ndata: " ++ (l ++ text_lines (drop (i + 1) text))) (sym none)
    )

-- any other byte belongs to the line
pub to_come-byte : (text : List ℕ) (start i : ℕ) → start ≤ i → i < length text → (get_or text i 0 ≡ 13 → ⊥)
    → to_come text start i ≡ to_come text start (i + 1)
to_come-byte text start i from below other =
    let at : start + (i - start) ≡ i = omega arith in
    let here : get_or (drop start text) (i - start) 0 ≡ get_or text i 0 = get_or-drop start text (i - start) 0 ∙ ap (λ n. get_or text n 0) at in
    let size : i + 1 - start ≡ i - start + 1 = omega arith in
    let one_more : take (i + 1 - start) (drop start text) ≡ take (i - start) (drop start text) ++ get_or text i 0 ∷ [] =
    ap (λ n. take n (drop start text)) size
    ∙ take_more (drop start text) (i - start) 0 (omega (arith, length-drop start text))
    ∙ ap (λ b. take (i - start) (drop start text) ++ b ∷ []) here in
    ap (λ l. take (i - start) (drop start text) ++ l) (
    ap text_lines (drop_more text i 0 below)
    ∙ ap (λ b. cond b (codes "\ndata: ") (get_or text i 0 ∷ []) ++ text_lines (drop (i + 1) text)) (ne_eqb (get_or text i 0) 13 other)
    )
    ∙ sym (append_assoc (take (i - start) (drop start text)) (get_or text i 0 ∷ []) (text_lines (drop (i + 1) text)))
    ∙ ap (λ l. l ++ text_lines (drop (i + 1) text)) (sym one_more)

-- at the end the last line is left
pub to_come-end : (text : List ℕ) (start i : ℕ) → length text ≤ i → to_come text start i ≡ take (length text - start) (drop start text)
to_come-end text start i end =
    ap (λ l. take (i - start) (drop start text) ++ text_lines l) (drop_all i text end)
    ∙ append-nil (take (i - start) (drop start text))
    ∙ take_all (i - start) (drop start text) (omega (arith, length-drop start text))
    ∙ sym (take_all (length text - start) (drop start text) (omega (arith, length-drop start text)))
