-- The workers have their ports, by which the connections were dealt.
use Rattle.std.proofs.Common.{◌≡◌, ◌∙◌, sym, refl, ap, subst, ℕ, List, length, reverse, vec_len, arith}
use Rattle.std.proofs.lemmas.List.{length-map}
use Rattle.std.proofs.lemmas.List.Elements.{All-map}
use Rattle.std.proofs.lemmas.Result.{err_from_is_err_and}
use Rattle.std.specs.Arc.{arc_value}
use Rattle.std.specs.List.{All}
use Rattle.rx_mailbox.specs.Boxes.{Outgoing}
use Rattle.rx_workers.specs.Accepting.{AcceptsAll, HoldsNothing}
use Rattle.rx_workers.specs.Crews.{NamesLast}
use Rattle.rx_workers.specs.Service.{AllHired, NotHired, port_to}
use Rattle.rx_workers.proofs.Service.{accepts_ports, handed_all, ports_new, workers_count}
use Rattle.rx_workers.proofs.crew.deal_all.Goals as goal

pub returns-in_err-hire_all-clause-ports : goal.returns-in_err-hire_all-clause-ports
returns-in_err-hire_all-clause-ports g c = ports_new c.hire_all.new.workers.items c.hire_all.new.ports.items c.hire_all.ensures.ports

pub returns-in_err-hire_all-clause-dealt : goal.returns-in_err-hire_all-clause-dealt
returns-in_err-hire_all-clause-dealt g c =
    let fault = c.in_err-hire_all.field-0.0 in
    let desks = c.hire_all.new.desks in
    let same : vec_len desks ≡ length desks.items = omega (arith, desks.ok.0) in
    let p = err_from_is_err_and c.from_residual.result c.from_residual.ensures.1 in
    rw (p.1, p.2) (NotHired fault refl (subst (λ (n : ℕ). NamesLast n fault) same c.in_err-hire_all.ensures.fault) refl)

-- there is a worker
pub accept-requires-clause-some : goal.accept-requires-clause-some
accept-requires-clause-some g c =
    let workers = c.hire_all.new.workers.items in
    let all = handed_all c.args.desks.now.items c.hire_all.new.desks.items workers c.in_ok-hire_all.ensures.all c.in_ok-hire_all.ensures.out in
    let count = workers_count c.args.desks.now.items workers all in
    let ports : length c.hire_all.new.ports.items ≡ length workers = ap length c.in_ok-hire_all.ensures.ports ∙ length-map workers port_to in
    omega (arith, c.requires.some, count, ports, c.hire_all.new.ports.ok.0, c.args.desks.now.ok.0)

-- a new port holds nothing back
pub accept-requires-clause-nothing : goal.accept-requires-clause-nothing
accept-requires-clause-nothing g c κs within =
    subst (λ (ports : List (Outgoing _)). All HoldsNothing ports) (sym c.in_ok-hire_all.ensures.ports)
    (All-map HoldsNothing port_to c.hire_all.new.workers.items (λ k d within. refl))

-- the acceptor's dealing is to these workers
pub returns-clause-ports : goal.returns-clause-ports
returns-clause-ports g c =
    let workers = c.hire_all.new.workers.items in
    let count = (arc_value c.args.config.now).connections in
    accepts_ports g.L.Listener.accepts g.L.Listener.fails count c.accept.result c.args.listener.now c.accept.new.listener workers c.accept.new.ports.items
    (subst (λ (ps : List (Outgoing _)). AcceptsAll g.L.Listener.accepts g.L.Listener.fails count c.accept.result c.args.listener.now c.accept.new.listener (reverse ps) (reverse c.accept.new.ports.items))
    c.in_ok-hire_all.ensures.ports (rw c.deref.ensures at c.accept.ensures))

pub returns-clause-dealt : goal.returns-clause-dealt
returns-clause-dealt g c =
    AllHired c.accept.result c.fault_in.ensures c.in_ok-hire_all.ensures.all
    (subst (λ (ps : List (Outgoing _)). AcceptsAll g.L.Listener.accepts g.L.Listener.fails (arc_value c.args.config.now).connections c.accept.result c.args.listener.now c.accept.new.listener (reverse ps) (reverse c.accept.new.ports.items))
    c.in_ok-hire_all.ensures.ports (rw c.deref.ensures at c.accept.ensures))
