-- All pieces stand one behind the other.
use Rattle.std.proofs.Common.{◌≡◌, ◌++◌, ◌∙◌, List, ℕ, append_assoc, codes, decimal, map, ap}
use Rattle.std.specs.List.{join_with_byte}
use Rattle.rx_http.proofs.answer.placed_body.put_placed.Goals as goal

in-order : (a b c d e : List ℕ) → (((a ++ b) ++ c) ++ d) ++ e ≡ a ++ (b ++ (c ++ (d ++ e)))
in-order a b c d e = append_assoc ((a ++ b) ++ c) d e ∙ append_assoc (a ++ b) c (d ++ e) ∙ append_assoc a b (c ++ (d ++ e))

pub returns : goal.returns
returns c =
    let first = c.args.body.now in
    let begin = codes "\",\"places\":[" in
    let end = codes "]}\n" in
    let joined = λ (places : List ℕ). join_with_byte 44 (map decimal places) in
    c.put-3.ensures
    ∙ ap (λ l. l ++ end) (c.put_places.ensures.bytes ∙ ap (λ l. l ++ joined c.as_slice.result.now) (c.put-2.ensures ∙ ap (λ l. l ++ begin) c.put.ensures))
    ∙ ap (λ l. (((first ++ l) ++ begin) ++ joined c.as_slice.result.now) ++ end) c.as_bytes.ensures.bytes
    ∙ ap (λ l. (((first ++ c.args.epoch.now) ++ begin) ++ joined l) ++ end) c.as_slice.ensures.places
    ∙ in-order first c.args.epoch.now begin (joined c.args.places.now) end
