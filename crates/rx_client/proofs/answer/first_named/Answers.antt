-- The first field of this name has the value.
use Rattle.std.proofs.Common.{◌≡◌, ◌+◌, ℕ, List, ◌∷◌, Some, true, false, drop, map, get_or, refl, ap, sym, ◌∙◌}
use Rattle.std.proofs.lemmas.List.{drop_more}
use Rattle.std.specs.Str.{str_to_ascii_lowercase}
use Rattle.httparse.specs.Spans.{header_bytes}
use Rattle.httparse.specs.declared.spans.HeaderSpan.{HeaderSpan}
use Rattle.rx_proto.specs.Reading.{same_word}
use Rattle.rx_client.specs.Looking.{first_named}
use Rattle.rx_client.proofs.answer.first_named.Goals as goal
use lib.Pointwise.{bytes_decides}

not_same : (a b : List ℕ) → (a ≡ b → ⊥) → same_word a b ≡ false
not_same a b other = elim (same_word a b) as (λ test. same_word a b ≡ test → test ≡ false) [
  | true ↦ λ yes. absurd (other ((bytes_decides a b).0 yes))
  | false ↦ λ _. refl
] refl

field-here : (name : List ℕ) (field : List ℕ × List ℕ) (fields : List (List ℕ × List ℕ)) → str_to_ascii_lowercase field.0 ≡ name
    → first_named name (field ∷ fields) ≡ Some field.1
field-here name field fields same = rw ((bytes_decides (str_to_ascii_lowercase field.0) name).1 same) refl

field-other : (name : List ℕ) (field : List ℕ × List ℕ) (fields : List (List ℕ × List ℕ)) → (str_to_ascii_lowercase field.0 ≡ name → ⊥)
    → first_named name (field ∷ fields) ≡ first_named name fields
field-other name field fields other = rw (not_same (str_to_ascii_lowercase field.0) name other) refl

never : false ≡ true → ⊥
never same = cc

abbrev none : HeaderSpan
none = record { name = record { start = 0; end = 0 }; value = record { start = 0; end = 0 } }

pub returns-then-eq_ignore_ascii_case : goal.returns-then-eq_ignore_ascii_case
returns-then-eq_ignore_ascii_case c =
    let name = c.args.name.now in
    let view = header_bytes c.args.head.now in
    let i = c.loop-field.field-index in
    let fields = c.args.fields.now in
    let same = ap str_to_ascii_lowercase (sym c.of.ensures) ∙ c.if-eq_ignore_ascii_case.ensures.test.0 refl ∙ c.requires.small in
    ap Some c.of-then-eq_ignore_ascii_case.ensures
    ∙ sym (field-here name (view (get_or fields i none)) (map view (drop (i + 1) fields)) same)
    ∙ ap (λ l. first_named name (map view l)) (sym (drop_more fields i none c.loop-field-test.true))
    ∙ sym c.loop-field.invariant

pub loop-field-preserved : goal.loop-field-preserved
loop-field-preserved c =
    let name = c.args.name.now in
    let view = header_bytes c.args.head.now in
    let i = c.loop-field.field-index in
    let fields = c.args.fields.now in
    let other = λ (same : str_to_ascii_lowercase (view (get_or fields i none)).0 ≡ name).
    never (c.if-eq_ignore_ascii_case.ensures.test.1 (ap str_to_ascii_lowercase c.of.ensures ∙ same ∙ sym c.requires.small)) in
    c.loop-field.invariant
    ∙ ap (λ l. first_named name (map view l)) (drop_more fields i none c.loop-field-test.true)
    ∙ field-other name (view (get_or fields i none)) (map view (drop (i + 1) fields)) other
