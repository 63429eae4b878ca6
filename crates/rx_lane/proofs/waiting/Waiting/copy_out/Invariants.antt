use Rattle.std.proofs.Common.{◌≡◌, ◌++◌, map, take, vec_capacity}
use Rattle.rx_note.specs.declared.note.Note.TheVariants.{Next}
use Rattle.rx_tape.specs.Tapes.{waits}
use Rattle.rx_lane.proofs.waiting.Waiting.copy_out.Given as goal

abbrev pub invariant-loop-place : goal.invariant-loop-place
invariant-loop-place l = record {
  put : l.outs.items ≡ l.fn.outs.items ++ map Next (take l.place (waits l.fn.self.lead l.fn.tape.items l.fn.self.back));
  capacity : vec_capacity l.outs ≡ vec_capacity l.fn.outs;
}
