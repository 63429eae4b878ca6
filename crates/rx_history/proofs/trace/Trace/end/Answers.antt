use Rattle.std.proofs.Common.{refl, sym, ap, take, ◌∙◌}
use Rattle.rx_history.proofs.Tracing.{end_behind, unended, end_sent, ends}
use Rattle.rx_history.proofs.trace.Trace.end.Goals as goal

pub returns-then-is_some : goal.returns-then-is_some
returns-then-is_some c = λ s was. end_behind c.args.self.now c.args.terminal s was (sym c.if-is_some.ensures)

pub returns : goal.returns
returns c = λ s was.
    let old = c.args.self.now in
    let open_now = unended old s was (sym c.if-is_some.ensures) in
    end_sent _ c.args.terminal s open_now
    (ends old _ c.args.terminal s was open_now refl refl
    (c.truncate.ensures.items ∙ ap (λ n. take n old.items.items) c.kept_at-kept.ensures) refl refl refl)
