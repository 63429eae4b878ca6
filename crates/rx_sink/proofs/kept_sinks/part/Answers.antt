-- The sink is finished and put away, and its subject is to be asked for what was due.
use Rattle.std.proofs.Common.{◌∙◌, sym, ap, ℕ, Some, vec_len, arith}
use Rattle.std.proofs.lemmas.Option.{slice_get-get_or}
use Rattle.rx_sink.proofs.kept_sinks.part.Goals as goal

pub returns-clause-parts : goal.returns-clause-parts
returns-clause-parts g c = record {
  one = c.remove-one.result;
  stood = slice_get-get_or c.args.kept.now.items c.args.place c.remove-one.result (omega (arith, c.requires.within)) ∙ ap Some (sym c.remove-one.ensures.value);
  removed = c.remove-one.ensures.items;
  pushed = c.push_away.ensures.pushes;
  asked = ap (λ (n : ℕ). record { who = c.remove-one.result.who; items = n; leaves = c.args.leaves }) c.from.ensures;
}

pub returns-clause-room : goal.returns-clause-room
returns-clause-room g c =
    c.push_away.ensures.room (vec_len c.remove-one.new.self) (λ is. omega (arith, c.requires.room is, c.remove-one.ensures.len))
