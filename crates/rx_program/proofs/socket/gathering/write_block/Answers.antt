use Rattle.std.proofs.Common.{List, ℕ, subst}
use Rattle.std.specs.Io.{WritesAtMost}
use Rattle.std.specs.Io.KnownBytes.{WriteAppends}
use Rattle.rx_program.proofs.Passing.{front-most, front-wrote}
use Rattle.rx_program.proofs.socket.gathering.write_block.Goals as goal

pub returns : goal.returns
returns g c =
    let most = subst (λ (l : List ℕ). WritesAtMost c.write.result l) c.front.ensures c.write.ensures.bound in
    let wrote = subst (λ (l : List ℕ). WriteAppends (g.W.Write.contents c.args.writer.now) (g.W.Write.contents c.write.new.self) c.write.result l) c.front.ensures c.write.ensures.bytes in
    record { bound = front-most 4096 c.args.bytes.now c.write.result most; bytes = front-wrote 4096 (g.W.Write.contents c.args.writer.now) (g.W.Write.contents c.write.new.self) c.args.bytes.now c.write.result most wrote }
