-- A POST takes the route of one.
use Rattle.std.proofs.Common.{◌≡◌, ◌∙◌, sym, ap, true, false, codes, option_map}
use Rattle.rx_proto.specs.Reading.{same_word}
use Rattle.rx_http.proofs.request.subject_asked_for.Goals as goal

pub returns-then-eq-2 : goal.returns-then-eq-2
returns-then-eq-2 c =
    let method = c.args.method.now in
    let not_get : same_word method (codes "GET") ≡ false = ap (λ l. same_word method l) (sym c.as_slice.ensures) ∙ sym c.if-eq.ensures in
    let is_post : same_word method (codes "POST") ≡ true = ap (λ l. same_word method l) (sym c.as_slice-else-eq.ensures) ∙ sym c.if-eq-2.ensures in
    rw not_get (rw is_post (c.post_asked_for.ensures (option_map (λ word. word.now) c.args.known)))
