use Rattle.std.proofs.Common.{◌∙◌, ◌≤◌, ◌-◌, ap, arith, length, drop}
use Rattle.std.proofs.lemmas.List.Edits.{length-between}
use Rattle.rx_lines.proofs.Blocks.{IsWindow-dropped, between-dropped}
use Rattle.rx_lines.proofs.window.Window.drop_front.Goals as goal

within : (c : goal.After-self-2-1) → c.args.len ≤ c.self.inside.end - c.self.inside.start
within c = omega (arith, c.requires, ap length c.self.view_is, length-between c.self.inside.block c.self.inside.start c.self.inside.end (omega (arith, c.self.invariant.room, c.self.told)))

pub invariant_of-self : goal.invariant_of-self
invariant_of-self c =
    rw c.max-self-inside.ensures (IsWindow-dropped _ _ _ _ _ c.self.invariant (within c))

pub returns : goal.returns
returns c = between-dropped _ _ _ _ (within c) ∙ ap (drop c.args.len) c.self.view_is
