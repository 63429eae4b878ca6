use Rattle.std.proofs.Common.{◌≡◌, length, vec_len, arith, refl}
use Rattle.std.proofs.KnownBytes.{Keeps-refl}
use Rattle.std.proofs.lemmas.Bool.Decides.{nat_tests}
use Rattle.std.proofs.lemmas.List.{nil_from_length}
use Rattle.std.specs.Io.KnownBytes.{append_known}
use Rattle.rx_program.proofs.Passing.{passed}
use Rattle.rx_program.proofs.socket.gathering.Gathering.write_past.Goals as goal

-- nothing waits
pub returns-then-is_empty-clause-bytes : goal.returns-then-is_empty-clause-bytes
returns-then-is_empty-clause-bytes g c =
    let before = c.args.self.now in
    let empty : vec_len before.waiting ≡ 0 = grind (arith, nat_tests, c.is_empty.ensures, c.if-is_empty.true) in
    let none : length before.waiting.items ≡ 0 = omega (arith, empty, before.waiting.ok.0) in
    passed (append_known (g.W.Write.contents before.wire) before.waiting.items) (g.W.Write.contents before.wire) (g.W.Write.contents c.write_block.new.writer)
    before.waiting.items before.waiting.items c.args.bytes.now c.write_block.result (Keeps-refl _) (nil_from_length before.waiting.items none) refl c.write_block.ensures.bytes

-- all that waited was sent
pub returns-clause-bytes : goal.returns-clause-bytes
returns-clause-bytes g c =
    let before = c.args.self.now in
    let sent = c.flush.new.self in
    let write = c.write_block-2 in
    passed (append_known (g.W.Write.contents before.wire) before.waiting.items) (g.W.Write.contents sent.wire) (g.W.Write.contents write.new.writer) sent.waiting.items
    sent.waiting.items c.args.bytes.now write.result c.in_ok-flush.ensures.bytes c.in_ok-flush.ensures.ok refl write.ensures.bytes
