use Rattle.std.proofs.Common.{◌∙◌, sym, ap, Bool}
use Rattle.rx_server.proofs.wired.makers.keeping.Goals as goal

pub returns-then-keeps : goal.returns-then-keeps
returns-then-keeps g c = ap (λ (keeps : Bool). record c.args.drainer { keeps = keeps }) (c.requires ∙ sym c.if-keeps.true)

pub returns : goal.returns
returns g c = c.forget.ensures ∙ ap (λ (keeps : Bool). record c.args.drainer { keeps = keeps }) (sym c.if-keeps.false)
