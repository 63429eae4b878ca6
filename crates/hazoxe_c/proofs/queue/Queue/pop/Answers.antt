-- What is left behind the first is what is left behind one more.
use Rattle.std.proofs.Common.{List, drop, sym, ap, ◌∙◌}
use Rattle.std.proofs.lemmas.List.{drop-drop}
use Rattle.rx_note.specs.declared.given.Given.{Given}
use Rattle.hazoxe_c.proofs.queue.Queue.pop.Goals as goal

pub returns-then-self-len-2 : goal.returns-then-self-len-2
returns-then-self-len-2 c =
    let q = c.self.inside in
    c.let_go-self-inside.ensures.rest ∙ sym (drop-drop 1 q.taken q.notes.items) ∙ ap (λ (given : List Given). drop 1 given) c.self.view_is

pub returns-else-self-len-2 : goal.returns-else-self-len-2
returns-else-self-len-2 c =
    let q = c.self.inside in
    sym (drop-drop 1 q.taken q.notes.items) ∙ ap (λ (given : List Given). drop 1 given) c.self.view_is
