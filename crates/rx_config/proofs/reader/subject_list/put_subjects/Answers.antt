use Rattle.std.proofs.Common.{◌∙◌, ap, sym, arith, List, length, map, drop, inl, inr, ◌∷◌, [], length-append, ◌+◌}
use Rattle.std.proofs.lemmas.List.{map_push}
use Rattle.toml.specs.View.{items_view, view}
use Rattle.toml.specs.declared.value.Value.{Value}
use Rattle.rx_config.specs.declared.subject_config.SubjectConfig.{SubjectConfig}
use Rattle.rx_config.specs.Configurations.{Subject, next_subject, subject_of_config, subjects_from}
use Rattle.rx_config.proofs.Parts.{subjects_from-read, subjects_from-refused}
use Rattle.rx_config.proofs.reader.subject_list.put_subjects.Goals as goal

-- one more was read
pub loop-entry-preserved : goal.loop-entry-preserved
loop-entry-preserved c =
    let before = map subject_of_config c.loop-entry.subjects.items in
    let read =
    subjects_from-read before c.deref-entry-items.result.now c.loop-entry.entry-index c.entry-item.result (subject_of_config c.in-Ok.subject) c.loop-entry-test.true
    (ap (λ (v : Value). next_subject before (view v)) (sym c.entry-item.is) ∙ c.in-Ok.ensures.ok) in
    let pushed = ap (λ (l : List SubjectConfig). map subject_of_config l) c.in-Ok-push.ensures.items ∙ map_push subject_of_config c.loop-entry.subjects.items c.in-Ok.subject in
    let goes_on = ap (λ (l : List Subject). subjects_from l (items_view (drop (c.loop-entry.entry-index + 1) c.deref-entry-items.result.now))) (sym pushed) in
    (c.loop-entry.invariant.0 ∙ read ∙ goes_on, omega (arith, c.loop-entry.invariant.1, ap length c.in-Ok-push.ensures.items, length-append c.loop-entry.subjects.items (c.in-Ok.subject ∷ [])))

-- an entry was refused, or there was no memory for it
pub returns-in-Err-clause-refused : goal.returns-in-Err-clause-refused
returns-in-Err-clause-refused c = elim c.in-Err.ensures.refused [
  | inl memory ↦ inl memory
  | inr refused ↦
      let before = map subject_of_config c.loop-entry.subjects.items in
      inr (c.loop-entry.invariant.0
      ∙ subjects_from-refused before c.deref-entry-items.result.now c.loop-entry.entry-index c.entry-item.result c.in-Err.cause c.loop-entry-test.true
      (ap (λ (v : Value). next_subject before (view v)) (sym c.entry-item.is) ∙ refused))
]
