use Rattle.std.proofs.Common.{List, sym, subst}
use Rattle.std.specs.List.{All}
use Rattle.rx_pump.specs.Desks.{DeskView}
use Rattle.rx_server.specs.Servers.{IsEndOf}
use Rattle.rx_caller.proofs.Made.{made-same}
use Rattle.rx_caller.proofs.callers.Callers.next.Goals as goal

pub invariant_of-self : goal.invariant_of-self
invariant_of-self g c =
    subst (λ (made : List (DeskView _)). All (IsEndOf made) c.self.inside.ended.items) (sym (made-same c.desk.result c.self.inside.server c.desk.new.self c.desk.ensures.next)) c.self.invariant
