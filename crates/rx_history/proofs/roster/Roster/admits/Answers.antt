-- Where fewer are held than may be, it is left to ask whether another number is free.
use Rattle.std.proofs.Common.{◌<◌, ◌&&◌, nat_lt, length, take, sym, ap, ◌∙◌, arith}
use Rattle.std.proofs.lemmas.List.{length-take-le}
use Rattle.std.proofs.lemmas.Bool.{lt-ltb}
use Rattle.rx_history.specs.Histories.{admits}
use Rattle.rx_history.proofs.roster.Roster.admits.Goals as goal

pub returns-then-self-limits-clause-admitted : goal.returns-then-self-limits-clause-admitted
returns-then-self-limits-clause-admitted c =
    let inside = c.self.inside in
    let limits = c.args.limits.now in
    let held = length-take-le inside.count inside.numbers (omega (arith, c.self.told, c.self.invariant)) in
    let few : length (take inside.count inside.numbers) < limits.observers = rw held c.if-self-limits.true in
    ap (λ room. room && nat_lt inside.joins limits.joins) (sym (lt-ltb _ _ few)) ∙ ap (admits limits) c.self.view_is

pub returns-then-self-limits-clause-room : goal.returns-then-self-limits-clause-room
returns-then-self-limits-clause-room c = λ free.
    let inside = c.self.inside in
    let held = length-take-le inside.count inside.numbers (omega (arith, c.self.told, c.self.invariant)) in
    rw (← c.self.view_is) (rw held c.if-self-limits.true)
