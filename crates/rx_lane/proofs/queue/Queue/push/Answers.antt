-- A ring of the latest items keeps the last ones that there is room for.
use Rattle.std.proofs.Common.{◌≡◌, ◌+◌, ◌-◌, ◌++◌, ◌∷◌, [], length, drop, sym, ap, ◌∙◌}
use Rattle.std.proofs.lemmas.List.{length-append}
use Rattle.circular_buffer.specs.Buffer.{Buffer}
use Rattle.rx_note.specs.declared.item.Item.{Item}
use Rattle.rx_note.specs.Queues.{queued}
use Rattle.rx_lane.specs.declared.queue.Queue.{Queue}
use Rattle.rx_lane.specs.Queues.{items_of, strategy_of}
use Rattle.rx_lane.proofs.queue.Queue.push.Goals as goal

pub returns-in-Replacing-clause-items : goal.returns-in-Replacing-clause-items
returns-in-Replacing-clause-items c =
    let ring = c.in-Replacing.ring in
    let item = c.args.item in
    let more : length (ring.items ++ item ∷ []) ≡ length ring.items + 1 = length-append ring.items (item ∷ []) in
    ap (λ (left : Buffer Item). left.items) c.push_back.ensures.items
    ∙ ap (λ n. drop (n - ring.capacity) (ring.items ++ item ∷ [])) more
    ∙ ap (λ (queue : Queue). queued (strategy_of queue) (items_of queue) item) (sym c.in-Replacing.is)
