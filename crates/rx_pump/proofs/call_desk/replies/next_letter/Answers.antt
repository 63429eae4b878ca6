-- The letter is held aside, in the room of the call that was awaited.
use Rattle.std.proofs.Common.{refl, arith}
use Rattle.rx_pump.proofs.Aside.{comes-aside}
use Rattle.rx_pump.proofs.call_desk.replies.next_letter.Goals as goal

pub loop-preserved-in-Ok : goal.loop-preserved-in-Ok
loop-preserved-in-Ok g c =
    let so_far = c.loop.invariant in
    let awaited = c.if-not-stops_awaiting.ensures in
    record {
      came =
          comes-aside c.args.inbox.now c.loop.inbox c.recv_patiently.new.self c.args.early.now.items c.loop.early.items c.push_reserved.new.self.items c.args.subject c.in-Ok.letter
          so_far.came c.in-Ok.ensures.received c.push_reserved.ensures.items (awaited.bare refl) (λ same. let no : ⊥ = omega (arith, c.if-letter-subject.false, same) in no);
      room = omega (arith, so_far.room, awaited.count, c.push_reserved.ensures.len, c.push_reserved.ensures.capacity);
      count = omega (arith, so_far.count, awaited.count, c.push_reserved.ensures.len);
    }
