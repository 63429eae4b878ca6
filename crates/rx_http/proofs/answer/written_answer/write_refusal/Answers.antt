use Rattle.std.proofs.Common.{◌≡◌, ◌++◌, ℕ, List, codes, ap, ◌∙◌}
use Rattle.rx_http.specs.Answers.{refusal_body, sized_head}
use Rattle.rx_proto.proofs.Writes.{Writes-as, Writes-fault, Writes-then}
use Rattle.rx_http.proofs.answer.written_answer.write_refusal.Goals as goal

head_same : (status status₁ fields fields₁ : List ℕ) (size size₁ : ℕ) → status ≡ status₁ → fields ≡ fields₁ → size ≡ size₁
    → sized_head status (codes "application/json") fields size ≡ sized_head status₁ (codes "application/json") fields₁ size₁
head_same status status₁ fields fields₁ size size₁ s f n =
    ap (λ l. sized_head l (codes "application/json") fields size) s
    ∙ ap (λ l. sized_head status₁ (codes "application/json") l size) f
    ∙ ap (λ m. sized_head status₁ (codes "application/json") fields₁ m) n

pub returns-in_err-write_head : goal.returns-in_err-write_head
returns-in_err-write_head g c =
    let body = refusal_body c.args.refusal in
    let same = head_same _ _ _ _ _ _ c.status.ensures c.fields.ensures c.body_len.ensures in
    Writes-as c.from_residual.result _ _ _ _ (ap (λ l. l ++ body) same)
    (Writes-fault c.from_residual.result _ _ _ body c.from_residual.ensures.0 c.in_err-write_head.ensures)

pub returns : goal.returns
returns g c =
    let body = refusal_body c.args.refusal in
    let same = head_same _ _ _ _ _ _ c.status.ensures c.fields.ensures c.body_len.ensures in
    Writes-as c.write_body.result _ _ _ _ (ap (λ l. l ++ body) same)
    (Writes-then c.write_body.result _ _ _ _ body c.in_ok-write_head.ensures c.write_body.ensures)
