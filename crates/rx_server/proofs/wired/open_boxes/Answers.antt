use Rattle.std.proofs.Common.{◌≡◌, ◌+◌, ap, refl, ℕ, length, arith}
use Rattle.std.proofs.lemmas.Result.{err_from_is_err_and}
use Rattle.rx_server.specs.declared.wired.start_fault.Role.TheVariants.{Drainer, Pump, Worker}
use Rattle.rx_server.specs.Wirings.{desk_count, drainer_capacity}
use Rattle.rx_server.proofs.Joining.{Opened-as}
use Rattle.rx_server.proofs.StartFaults.{memory-below}
use Rattle.rx_server.proofs.wired.open_boxes.Goals as goal

pub returns-clause-opened : goal.returns-clause-opened
returns-clause-opened g c =
    let subjects = c.in_ok-open_all.ensures.opened in
    let drainers = c.in_ok-open_all-2.ensures.opened in
    let replies = c.in_ok-open_all-3.ensures.opened in
    let count : c.len-count.result ≡ length c.args.config.now.subjects.items = omega (arith, c.len-count.ensures, c.args.config.now.subjects.ok) in
    let desks : c.desk_count-desks.result ≡ desk_count c.args.config.now = c.desk_count-desks.ensures.count in
    let capacity : c.drainer_capacity-capacity.result ≡ drainer_capacity c.args.config.now = c.drainer_capacity-capacity.ensures.capacity in (
      record { subjects = subjects.0; drainers = drainers.0; replies = replies.0 },
      record {
        subjects = Opened-as _ _ _ _ _ _ _ _ _ count refl (ap (λ (n : ℕ). n + c.args.config.now.drainers) desks) subjects.1;
        drainers = Opened-as _ _ _ _ _ _ _ _ _ refl capacity (ap (λ (n : ℕ). n + 1) count) drainers.1;
        replies = Opened-as _ _ _ _ _ _ _ _ _ desks count count replies.1;
      },
    )

pub returns-in_err-open_all-clause-fault : goal.returns-in_err-open_all-clause-fault
returns-in_err-open_all-clause-fault g c =
    let p = err_from_is_err_and c.from_residual.result c.from_residual.ensures.1 in
    rw (p.1, p.2) (memory-below c.args.config.now c.in_err-open_all.field-0.0 Pump c.len-count.result (omega (arith, c.len-count.ensures, c.args.config.now.subjects.ok)) c.in_err-open_all.ensures.fault)

pub returns-in_err-open_all-2-clause-fault : goal.returns-in_err-open_all-2-clause-fault
returns-in_err-open_all-2-clause-fault g c =
    let p = err_from_is_err_and c.from_residual-in_err-open_all-2.result c.from_residual-in_err-open_all-2.ensures.1 in
    rw (p.1, p.2) (memory-below c.args.config.now c.in_err-open_all-2.field-0.0 Drainer c.args.config.now.drainers (omega arith) c.in_err-open_all-2.ensures.fault)

pub returns-in_err-open_all-3-clause-fault : goal.returns-in_err-open_all-3-clause-fault
returns-in_err-open_all-3-clause-fault g c =
    let p = err_from_is_err_and c.from_residual-in_err-open_all-3.result c.from_residual-in_err-open_all-3.ensures.1 in
    rw (p.1, p.2) (memory-below c.args.config.now c.in_err-open_all-3.field-0.0 Worker c.desk_count-desks.result (omega (arith, c.desk_count-desks.ensures.count)) c.in_err-open_all-3.ensures.fault)
