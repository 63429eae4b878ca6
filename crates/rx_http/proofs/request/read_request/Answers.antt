-- What the parser found is what the head asks for.
use Rattle.std.proofs.Common.{Bool, ◌≡◌, ◌≤◌, ◌<◌, ℕ, List, [], ◌++◌, codes, length, length-take, length-drop, drop, take, Option, Result, refl, ap, ◌∙◌, subst, inl, inr, arith}
use Rattle.std.proofs.lemmas.List.{drop_all, length-map}
use Rattle.httparse.specs.Grammar.{RequestHead, ReadsRequest, print_request}
use Rattle.httparse.specs.Spans.{IsRequestAt, header_bytes, name_and_value}
use Rattle.httparse.specs.declared.spans.HeaderSpan.{HeaderSpan}
use Rattle.httparse.specs.declared.spans.RequestSpans.{RequestSpans}
use Rattle.httparse.proofs.GrammarLemmas.{request_unique}
use Rattle.rx_http.specs.Asking.{AsksFor, IsHead, field_in}
use Rattle.rx_http.specs.Bodies.{HasSize, is_foreign}
use Rattle.rx_http.specs.declared.request.asked.Asked.{Asked}
use Rattle.rx_http.specs.declared.answer.refusal.Refusal.{Refusal}
use Rattle.rx_http.proofs.request.read_request.Goals as goal

-- what a head that ends with the bytes is
whole : (bytes : List ℕ) (headers : List HeaderSpan) (parts : RequestSpans) (head : RequestHead) → length bytes ≤ 8192 → length headers ≡ 32
    → length bytes ≤ parts.len → IsRequestAt bytes headers parts head → IsHead bytes head
whole bytes headers parts head few room end at = (few, (at.reads.0, at.reads.1 ∙ ap (λ l. print_request head ++ l) (drop_all parts.len bytes end)), fields)
  where
    fields : length head.fields ≤ 32
    fields = omega (arith, ap length at.fields, length-map (take parts.headers headers) (header_bytes bytes), length-map head.fields name_and_value, length-take parts.headers headers, room)

asks-as : (method target : List ℕ) (field : Option (List ℕ)) (foreign : Bool) (size : Option ℕ) (key : Option (List ℕ)) (result : Result Asked Refusal) (method₁ target₁ : List ℕ) (field₁ : Option (List ℕ)) (foreign₁ : Bool) (key₁ : Option (List ℕ))
    → method ≡ method₁ → target ≡ target₁ → field ≡ field₁ → foreign ≡ foreign₁ → key ≡ key₁ → AsksFor method target field foreign size key result
    → AsksFor method₁ target₁ field₁ foreign₁ size key₁ result
asks-as method target field foreign size key result method₁ target₁ field₁ foreign₁ key₁ m t f b k asks =
    subst (λ l. AsksFor l target₁ field₁ foreign₁ size key₁ result) m (subst (λ l. AsksFor method l field₁ foreign₁ size key₁ result) t
    (subst (λ l. AsksFor method target l foreign₁ size key₁ result) f (subst (λ l. AsksFor method target field l size key₁ result) b
    (subst (λ l. AsksFor method target field foreign size l result) k asks))))

foreign-as : (origin host origin₁ host₁ : Option (List ℕ)) → origin ≡ origin₁ → host ≡ host₁ → is_foreign origin host ≡ is_foreign origin₁ host₁
foreign-as origin host origin₁ host₁ o h = ap (λ x. is_foreign x host) o ∙ ap (λ x. is_foreign origin₁ x) h

sized-as : (coding length coding₁ length₁ : Option (List ℕ)) (size : Option ℕ) → coding ≡ coding₁ → length ≡ length₁ → HasSize coding length size → HasSize coding₁ length₁ size
sized-as coding length coding₁ length₁ size c l has = subst (λ o. HasSize o length₁ size) c (subst (λ o. HasSize coding o size) l has)

-- bytes that go on behind a head are none
longer : (bytes : List ℕ) (len : ℕ) (found head : RequestHead) → len < length bytes → ReadsRequest bytes found (drop len bytes) → ReadsRequest bytes head [] → ⊥
longer bytes len found head more reads whole =
    omega (arith, ap length (request_unique bytes found head (drop len bytes) [] reads whole).1, length-drop len bytes)

pub returns-then-parts-head-clause-read : goal.returns-then-parts-head-clause-read
returns-then-parts-head-clause-read c =
    let (found, at) = rw c.in-Ok-Complete.field-0-is at c.in-Ok-Complete.ensures.complete in
    inr (inr ((λ head reads. longer c.args.head.now c.in-Ok-Complete.parts.len found head c.if-parts-head.true at.reads reads), refl))

pub returns-else-parts-head-clause-read : goal.returns-else-parts-head-clause-read
returns-else-parts-head-clause-read c =
    let (found, at) = rw c.in-Ok-Complete.field-0-is at c.in-Ok-Complete.ensures.complete in
    let in_fields = λ (name : List ℕ). ap (field_in name) at.fields in
    let known = c.field_in-known.ensures ∙ in_fields (codes "last-event-id") in
    let origin = c.field_in.ensures ∙ in_fields (codes "origin") in
    let host = c.field_in-in-Ok-Complete.ensures ∙ in_fields (codes "host") in
    let foreign = c.is_foreign-is_foreign.ensures ∙ foreign-as _ _ _ _ origin host in
    let coding = c.field_in-in-Ok-Complete-2.ensures ∙ in_fields (codes "transfer-encoding") in
    let size = c.field_in-in-Ok-Complete-3.ensures ∙ in_fields (codes "content-length") in
    let has = sized-as _ _ _ _ c.size_of_body-size.result coding size c.size_of_body-size.ensures in
    let key = c.field_in-key.ensures ∙ in_fields (codes "idempotency-key") in
    let asks = asks-as _ _ _ _ c.size_of_body-size.result _ c.asked_for.result found.method found.target _ _ _ (c.of.ensures ∙ at.method) (c.of-target.ensures ∙ at.path) known foreign key c.asked_for.ensures in
    inl (
      found,
      whole c.args.head.now c.parse_request.new.headers c.in-Ok-Complete.parts found c.if-head-gt-MAX_HEAD.false c.parse_request.auto.headers c.if-parts-head.false at,
      (c.size_of_body-size.result, has, asks),
    )
