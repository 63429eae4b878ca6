use Rattle.std.proofs.Common.{◌∙◌, arith}
use Rattle.std.proofs.lemmas.List.{length-drop}
use Rattle.rx_history.proofs.Queueing.{buffered, drop_keeps, latest_keeps, latest_replaces}
use Rattle.rx_history.proofs.trace.queue.Goals as goal

pub returns-in_ok-push-in-Buffer-clause-queued : goal.returns-in_ok-push-in-Buffer-clause-queued
returns-in_ok-push-in-Buffer-clause-queued c = rw c.in-Buffer.is
    (λ in_room. c.in_ok-push-in-Buffer.ensures.items ∙ buffered c.args.given c.args.items.now.items c.args.item)

pub returns-in_ok-push-in-Bounded-clause-queued : goal.returns-in_ok-push-in-Bounded-clause-queued
returns-in_ok-push-in-Bounded-clause-queued c = rw c.in-Bounded.is
    (λ in_room. c.in_ok-push-in-Bounded.ensures.items ∙ buffered c.args.given c.args.items.now.items c.args.item)

pub returns-in_ok-push-in-Drop-clause-queued : goal.returns-in_ok-push-in-Drop-clause-queued
returns-in_ok-push-in-Drop-clause-queued c =
    let items = c.args.items.now in
    rw c.in-Drop.is
    (λ in_room. c.in_ok-push-in-Drop.ensures.items
    ∙ drop_keeps c.in-Drop.room c.args.given items.items c.args.item (omega (arith, items.ok.0, length-drop c.args.given items.items)))

pub returns-then-waiting-from-2-clause-queued : goal.returns-then-waiting-from-2-clause-queued
returns-then-waiting-from-2-clause-queued c =
    let items = c.args.items.now in
    let waits = length-drop c.args.given items.items in
    rw c.in-Latest.is
    (λ in_room. c.remove.ensures.by_index.2
    ∙ rw c.in_ok-push-in-Latest.ensures.items
    (latest_replaces c.in-Latest.room c.args.given items.items c.args.item (omega (arith, items.ok.0)) (omega (arith, items.ok.0, waits))))

pub returns-else-waiting-from-2-clause-queued : goal.returns-else-waiting-from-2-clause-queued
returns-else-waiting-from-2-clause-queued c =
    let items = c.args.items.now in
    rw c.in-Latest.is
    (λ in_room. c.in_ok-push-in-Latest.ensures.items
    ∙ latest_keeps c.in-Latest.room c.args.given items.items c.args.item (omega (arith, items.ok.0, length-drop c.args.given items.items)))
