use Rattle.std.proofs.Common.{◌≡◌, ℕ, ap, length, subst, sym, [], ◌∷◌, ◌++◌, List, arith}
use Rattle.std.proofs.lemmas.Result.{err_from_is_err_and}
use Rattle.rx_mailbox.specs.Boxes.{Incoming}
use Rattle.rx_server.specs.Wirings.{AreOpened, RowView}
use Rattle.rx_server.proofs.Opening.{Opened-none, Opened-more}
use Rattle.rx_server.proofs.Rows.{put-count}
use Rattle.rx_server.proofs.StartFaults.{below}
use Rattle.rx_server.proofs.wired.opened.open_all.Goals as goal

pub loop-init : goal.loop-init
loop-init g c =
    let made = c.in-Ok.ensures in
    record {
      opened = ([], Opened-none _ _ _ _ made.none made.no_row);
      inboxes = omega (arith, ap length made.none, c.in-Ok.opening.inboxes.ok);
      rows = omega (arith, ap length made.no_row, c.in-Ok.opening.rows.ok);
      room = made.room;
    }

pub loop-preserved : goal.loop-preserved
loop-preserved g c =
    let before = c.loop.invariant in
    let one = c.in_ok-open_one.ensures.opened in
    let same = c.open_one.ensures.capacities in
    record {
      opened = (before.opened.0 ++ one.0 ∷ [], Opened-more _ _ _ _ _ _ _ _ _ before.opened.1 one.1 one.2 one.3);
      inboxes = omega (arith, before.inboxes, put-count _ _ _ one.2);
      rows = omega (arith, before.rows, put-count _ _ _ one.3);
      room = (omega (arith, before.room.0, same.0), omega (arith, before.room.1, same.1));
    }

pub returns-clause-opened : goal.returns-clause-opened
returns-clause-opened g c =
    let so_far = c.loop.invariant.opened in
    let all : c.loop.counter ≡ c.args.count = omega arith in
    let moved = c.opened.ensures in (
      so_far.0,
      subst (λ (inboxes : List (Incoming _)). AreOpened c.args.count c.args.capacity c.args.senders so_far.0 inboxes c.opened.result.rows.items) (sym moved.inboxes)
          (subst (λ (rows : List (RowView _)). AreOpened c.args.count c.args.capacity c.args.senders so_far.0 c.loop.opening.inboxes.items rows) (sym moved.rows)
          (subst (λ (n : ℕ). AreOpened n c.args.capacity c.args.senders so_far.0 c.loop.opening.inboxes.items c.loop.opening.rows.items) all so_far.1)),
    )

-- the one of this number had no memory
pub returns-in_err-open_one-clause-fault : goal.returns-in_err-open_one-clause-fault
returns-in_err-open_one-clause-fault g c =
    let before = c.loop.invariant in
    let p = err_from_is_err_and c.from_residual.result c.from_residual.ensures.1 in
    rw (p.1, p.2)
    (below c.args.role _ c.args.count c.in_err-open_one.field-0.0 (omega (arith, before.inboxes)) c.in_err-open_one.ensures.fault)
