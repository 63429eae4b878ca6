-- Where none is left, all were put.
use Rattle.std.proofs.Common.{◌++◌, ◌∙◌, append-nil, ap, sym, arith}
use Rattle.std.proofs.lemmas.List.{drop_all}
use Rattle.rx_http.proofs.Joined.{behind, behind-joined}
use Rattle.rx_http.proofs.answer.placed_body.put_places.Goals as goal

pub returns-clause-bytes : goal.returns-clause-bytes
returns-clause-bytes c =
    let body = c.loop-place.body in
    let places = c.args.places.now in
    sym (append-nil body)
    ∙ ap (λ l. body ++ behind c.loop-place.comma.now l) (sym (drop_all c.loop-place.place-index places (omega (arith, c.loop-place-test.false))))
    ∙ c.loop-place.invariant.parts
    ∙ ap (λ l. c.args.body.now ++ l) (behind-joined places)
