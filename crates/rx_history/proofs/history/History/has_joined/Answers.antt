use Rattle.std.proofs.Common.{ltb, sym, ap, ◌∙◌}
use Rattle.rx_history.specs.Histories.{Roster, roster_of}
use Rattle.rx_history.specs.Stored.{history_of}
use Rattle.rx_history.proofs.Entries.{is_some-signals}
use Rattle.rx_history.proofs.history.History.has_joined.Goals as goal

pub returns : goal.returns
returns c =
    ap (ltb c.args.who)
    (c.joins.ensures
    ∙ ap (λ (r : Roster). r.joins) (c.roster_of.ensures ∙ ap (λ entries. roster_of c.args.rules.now.limits (history_of entries)) (c.deref.ensures.value ∙ c.self.view_is)))
    ∙ sym (is_some-signals c.args.rules.now (history_of c.args.self.now) c.args.who)
