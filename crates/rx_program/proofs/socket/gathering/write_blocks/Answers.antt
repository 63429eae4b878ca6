-- One write more: what it took stands behind what was sent.
use Rattle.std.proofs.Common.{◌-◌, ◌++◌, length, take, drop, sym, ap, subst, ◌∙◌, arith, length-take}
use lib.Seq.{take-add, take-take}
use Rattle.std.specs.Io.KnownBytes.{Appends}
use Rattle.std.proofs.KnownBytes.{Appends-kept, Appends-trans}
use Rattle.rx_program.proofs.socket.gathering.write_blocks.Goals as goal
use Rattle.rx_program.proofs.socket.gathering.write_blocks.Goals.{in-Ok, in-Err}

pub loop-preserved : goal.loop-preserved
loop-preserved g c = elim c.match-write_block.branch [
  | in-Ok w ↦
      let done = c.loop.sent in
      let n = w.in-Ok.more in
      let xs = c.args.bytes.now in
      let before = c.loop.invariant in
      let fits = w.in-Ok.ensures.bound in
      let most = length-take (length xs - done) (drop done xs) in
      let joined = ap (λ l. take done xs ++ l) (take-take n (length xs - done) (drop done xs) (omega arith)) ∙ sym (take-add done n xs) in
      rw w.sent-is (omega arith, subst (Appends _ _) joined (Appends-trans _ _ _ _ _ before.1 w.in-Ok.ensures.bytes))
  | in-Err w ↦ rw w.sent-is (c.loop.invariant.0, Appends-kept _ _ _ _ c.loop.invariant.1 w.in-Err.ensures.bytes)
]
