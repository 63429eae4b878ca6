-- All items were yielded, and the end stands behind them where there is one.
use Rattle.std.proofs.Common.{◌≡◌, [], ◌∷◌, ◌++◌, map, map-id, append-nil, option_to_list, sym, ap, ◌∙◌}
use Rattle.std.proofs.lemmas.Iterator.Consumers.{YieldsList-end}
use Rattle.std.proofs.lemmas.Iterator.Adapters.{YieldsList-from_vec}
use Rattle.rx_note.specs.declared.note.Note.TheVariants.{Next}
use Rattle.rx_history.proofs.trace.Trace.line.Goals.{in-Some-end+in_ok-push-2, in_default}
use Rattle.rx_history.proofs.trace.Trace.line.Goals as goal

pub returns : goal.returns
returns c =
    let items = c.args.self.items in
    let given = c.into_iter-item-iterator.ensures.into_iter_gives in
    let over = YieldsList-end (YieldsList-from_vec items.items given.0 (given.1 ∙ items.ok.0)) c.loop-item.yielded _ c.loop-item.yielded_by c.next.result c.next.new.self c.in-None.is c.next.ensures.steps in
    let all : c.loop-item.yielded ≡ items.items = sym (map-id c.loop-item.yielded) ∙ over.0 in
    let noted : c.loop-item.notes.items ≡ map Next items.items = c.loop-item.invariant.0 ∙ ap (map Next) all in
    elim c.match-end-5.branch [
      | in-Some-end+in_ok-push-2 w ↦
          ap (λ notes. notes.items) w.notes-is ∙ w.in_ok-push-2.ensures.items ∙ ap (λ notes. notes ++ w.in-Some-end.end ∷ []) noted
          ∙ ap (λ end. map Next items.items ++ option_to_list end) (sym w.in-Some-end.is ∙ c.loop-item.invariant.1)
      | in_default w ↦
          ap (λ notes. notes.items) w.notes-is ∙ noted ∙ sym (append-nil (map Next items.items))
          ∙ ap (λ end. map Next items.items ++ option_to_list end) (sym w.in_default.is ∙ c.loop-item.invariant.1)
    ]
