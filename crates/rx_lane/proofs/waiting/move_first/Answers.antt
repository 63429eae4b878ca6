use Rattle.std.proofs.Common.{slice_get, sym, ap, ◌∙◌}
use Rattle.rx_tape.specs.Tapes.{TapeState, with_fewer}
use Rattle.rx_lane.proofs.Passed.{taken_off, next_off}
use Rattle.rx_lane.proofs.Shared.{put_more}
use Rattle.rx_lane.proofs.waiting.move_first.Goals as goal

pub loop-preserved : goal.loop-preserved
loop-preserved c =
    let tape = c.args.tape.now in
    let i = c.loop.counter in
    let item = c.take_first.result in
    let first = ap (λ (t : TapeState). slice_get t.items 0) (sym c.loop.invariant.left) ∙ c.take_first.ensures.first in
    record {
      put = put_more c.args.who tape.items i item c.args.outs.now.items c.loop.outs.items c.push_reserved.new.self.items
          (next_off tape.items i item first) c.loop.invariant.put c.push_reserved.ensures.items;
      left = c.take_first.ensures.left ∙ ap (λ (t : TapeState). with_fewer t 1) c.loop.invariant.left ∙ taken_off tape i 1;
      capacity = c.push_reserved.ensures.capacity ∙ c.loop.invariant.capacity;
    }
