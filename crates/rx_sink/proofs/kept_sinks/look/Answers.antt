-- The sink that was found last is that of this observer.
use Rattle.std.proofs.Common.{◌∙◌, sym, ap, Some}
use Rattle.std.proofs.lemmas.Option.{slice_get-get_or}
use Rattle.rx_sink.proofs.kept_sinks.look.Goals as goal

pub returns-then-is_kept_for-clause-found : goal.returns-then-is_kept_for-clause-found
returns-then-is_kept_for-clause-found g c = (
  c.index-kept-last.result,
  slice_get-get_or c.args.kept.now c.last-last.result c.index-kept-last.result c.if-last-kept.true ∙ ap Some (sym c.index-kept-last.is),
  sym c.is_kept_for.ensures ∙ c.if-is_kept_for.true,
)
