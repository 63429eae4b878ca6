use Rattle.std.proofs.Common.{◌∙◌, [], ◌∷◌, ◌++◌, List, ap, sym, subst}
use Rattle.std.proofs.lemmas.List.Elements.{All-push, All-same}
use Rattle.rx_pump.specs.Desks.{DeskView}
use Rattle.rx_server.specs.Servers.{IsEndOf}
use Rattle.rx_caller.specs.Calling.{CallersView}
use Rattle.rx_caller.proofs.callers.Callers.take.Goals as goal

pub invariant_of-self : goal.invariant_of-self
invariant_of-self g c =
    All-same (IsEndOf c.self.inside.server.made) c.reserve.new.self.items c.self.inside.ended.items c.reserve.ensures.items c.self.invariant

pub invariant_of-self-2 : goal.invariant_of-self-2
invariant_of-self-2 g c =
    let is_ours = IsEndOf c.self.inside.server.made in
    let before = c.reserve.new.self.items in
    let desk = c.into_desk.result in
    let own =
    subst (λ (m : List (DeskView _)). IsEndOf m desk) (c.requires ∙ ap (λ (v : CallersView _ _). v.server.made) (sym c.self.view_is)) c.into_desk.ensures.own
    in
    All-same is_ours c.push_reserved.new.self.items (before ++ desk ∷ []) c.push_reserved.ensures.items
    (All-push is_ours before desk (All-same is_ours before c.self.inside.ended.items c.reserve.ensures.items c.self.invariant) own)
