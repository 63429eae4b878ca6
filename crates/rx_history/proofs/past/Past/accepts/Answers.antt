use Rattle.std.proofs.Common.{sym, ap, ◌∙◌, arith}
use Rattle.std.proofs.lemmas.Grind.{common_steps}
use Rattle.rx_history.specs.Histories.{has_room}
use Rattle.rx_history.proofs.Remembering.{open_accepts, ended_refuses}
use Rattle.rx_history.proofs.past.Past.accepts.Goals as goal

pub returns-then-is_none : goal.returns-then-is_none
returns-then-is_none c = λ rules H same was.
    c.has_room.ensures ∙ ap (λ n. has_room c.args.limits.now n c.args.note.now) (c.len.ensures ∙ c.args.self.now.items.ok.0)
    ∙ sym (open_accepts rules c.args.self.now H c.args.limits.now c.args.note.now same was (grind (arith, common_steps)))

pub returns-else-is_none : goal.returns-else-is_none
returns-else-is_none c = λ rules H same was. c.if-is_none.false ∙ sym (ended_refuses rules c.args.self.now H c.args.note.now was (grind (arith, common_steps)))
