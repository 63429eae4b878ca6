-- A turn is one deed.
use Rattle.std.proofs.Common.{Some, None, ap}
use Rattle.rx_face.specs.Facing.{Attended, HasTurn, Turned, attended}
use Rattle.rx_face.proofs.Facing.{some-one}
use Rattle.rx_workers.specs.declared.worker.client.Client.TheVariants.{Talks}
use Rattle.rx_workers.proofs.Places.{Sets-then}
use Rattle.rx_workers.proofs.Watching.{watched-set, watched-there}
use Rattle.rx_face.proofs.attendance.Attendance.turn.Goals as goal

-- its connection is watched for what it waits for
pub leave-left-requires : goal.leave-left-requires
leave-left-requires g c =
    let clients_are = ap (λ (s : Attended _ _ _). s.clients) c.self.view_is in
    watched-there c.args.place (g.P.Readiness.watched c.args.doorway.now) c.self.inside.clients c.take_talk.new.self (Some (Talks c.in-Some.talk)) None (rw clients_are c.requires) c.in-Some.ensures.taken

pub returns : goal.returns
returns g c =
    let before : Attended _ _ _ = attended c.self.inside.desk c.self.inside.clients in
    let after : Attended _ _ _ = attended c.turn-turned.new.desk c.put.new.self in
    let had : HasTurn g.M.Moments.tells g.C.Read.remaining g.W.Write.contents c.args.place before after = record {
      talk = c.in-Some.talk;
      result = c.turn-turned.result;
      reader = c.turn-turned.new.reader;
      exchange = c.turn-turned.new.self;
      left = c.leave-left.result.1;
      turn = rw (← c.deref_mut.ensures.value) (record { sits = c.turn-turned.ensures.sits; answered = c.turn-turned.ensures.answered; asks_once = c.turn-turned.ensures.asks_once; sends = c.turn-turned.ensures.sends });
      leaves = rw (← c.joined-joined.ensures) c.leave-left.ensures.leaves;
      aimed = c.leave-left.ensures.aimed;
      sets = Sets-then c.args.place c.self.inside.clients c.take_talk.new.self c.put.new.self (Some (Talks c.in-Some.talk)) None c.leave-left.result.1 c.in-Some.ensures.taken c.put.ensures;
    } in
    rw (← c.self.view_is) (record {
      goes = some-one g.M.Moments.tells g.C.Read.remaining g.W.Write.contents (Turned c.args.place) before after had;
      watched =
          let clients_are = ap (λ (s : Attended _ _ _). s.clients) c.self.view_is in
          watched-set c.args.place (g.P.Readiness.watched c.args.doorway.now) (g.P.Readiness.watched c.leave-left.new.readiness) c.self.inside.clients c.put.new.self
          (Some (Talks c.in-Some.talk)) c.leave-left.result.1 (rw clients_are c.requires) c.leave-left.ensures.watched had.sets;
    })
