-- Where a key stands at the begin of a pair, its value goes up to the next mark.
use Rattle.std.proofs.Common.{◌≡◌, ◌<◌, ℕ, List, [], ◌∷◌, Some, true, length, drop, refl, ap, sym, ◌∙◌, arith, length-drop}
use Rattle.std.proofs.lemmas.List.{take_rest}
use Rattle.rx_proto.specs.Reading.{begins_with}
use Rattle.rx_http.specs.Queries.{cut_at, value_from}
use Rattle.rx_http.proofs.request.query.value_of.Goals as goal

value-here : (key bytes : List ℕ) → 0 < length bytes → begins_with bytes key ≡ true → value_from true key bytes ≡ Some (cut_at 38 (drop (length key) bytes)).0
value-here key [] some begins = absurd (omega (arith, some))
value-here key (byte ∷ bytes) some begins = rw begins refl

pub returns-in-Some : goal.returns-in-Some
returns-in-Some c =
    let query = c.args.query.now in
    let key = c.args.key.now in
    let i = c.loop-i.i in
    let rest = take_rest query i in
    let here = value-here key (drop i query) (omega (arith, length-drop i query)) (ap (λ l. begins_with l key) (sym rest) ∙ c.in-Some.ensures.cases.0) in
    let cut = ap (λ (p : List ℕ × List ℕ). p.0) c.cut.ensures in
    ap Some cut
    ∙ ap (λ l. Some (cut_at 38 l).0) (c.in-Some.ensures.cases.1 ∙ ap (drop (length key)) rest)
    ∙ sym here
    ∙ sym (c.loop-i.invariant ∙ ap (λ b. value_from b key (drop i query)) c.if-begins.true)
