-- A turn is one deed.
use Rattle.std.proofs.Common.{◌∙◌, Option, Some, None, ap, refl, subst, sym}
use Rattle.rx_workers.specs.Clients.{IsTalk}
use Rattle.rx_workers.specs.Working.{State, HasTurn, state}
use Rattle.rx_workers.specs.declared.worker.client.Client.{Client}
use Rattle.rx_workers.specs.declared.worker.client.Client.TheVariants.{Talks}
use Rattle.rx_workers.proofs.Places.{Sets-then, is_talk}
use Rattle.rx_workers.proofs.Watching.{watched-set, watched-there}
use Rattle.rx_workers.proofs.Talks.{talk_left}
use Rattle.rx_workers.proofs.worker.shift.Shift.turn.Goals as goal

-- its connection is watched for what it waits for
pub leave-goes_on-requires : goal.leave-goes_on-requires
leave-goes_on-requires g c =
    let clients_are = ap (λ (s : State _ _ _). s.clients) c.self.view_is in
    watched-there c.args.place (g.P.Readiness.watched c.args.readiness.now) c.self.inside.clients c.take_talk.new.self (Some (Talks c.in-Some.talk)) None (rw clients_are c.requires) c.in-Some.ensures.taken

pub returns : goal.returns
returns g c =
    let before : State _ _ _ = state c.self.inside.desk c.self.inside.inbox c.self.inside.clients c.self.inside.sessions c.self.inside.is_open in
    let after : State _ _ _ = state c.turn-turned.new.desk c.self.inside.inbox c.put.new.self c.self.inside.sessions c.self.inside.is_open in
    let talks = is_talk _ c.in-Some.talk c.in-Some.ensures.taken.was_there in
    let had : HasTurn g.M.Moments.tells g.C.Read.remaining g.W.Write.contents c.args.place before after = record {
      talk = c.in-Some.talk;
      result = c.turn-turned.result;
      reader = c.turn-turned.new.reader;
      session = c.turn-turned.new.self;
      left = c.leave-goes_on.result.1;
      turn = rw (← c.deref_mut.ensures.value) (record { sits = c.turn-turned.ensures.sits; quits = c.turn-turned.ensures.quits });
      leaves = rw (← c.joined-joined.ensures) c.leave-goes_on.ensures.leaves;
      aimed = c.leave-goes_on.ensures.aimed;
      sets = Sets-then c.args.place c.self.inside.clients c.take_talk.new.self c.put.new.self (Some (Talks c.in-Some.talk)) None c.leave-goes_on.result.1 c.in-Some.ensures.taken c.put.ensures;
      inbox = refl;
      sessions = refl;
      is_open = refl;
    } in
    rw (← c.self.view_is) (record {
      turned = λ _. (had, c.leave-goes_on.ensures.goes_on);
      idle = λ none. absurd (none talks);
      kept = λ none. absurd (none talks);
      talks = λ at_once. (
        talks,
        subst (λ (client : Option (Client _ _ _)). IsTalk client) (sym had.sets.is_there)
            (talk_left c.turn-turned.result c.turn-turned.new.reader c.turn-turned.new.self c.turn-turned.new.desk.joined c.leave-goes_on.result.1 (sym c.leave-goes_on.ensures.goes_on ∙ at_once) had.leaves),
      );
      watched =
          let clients_are = ap (λ (s : State _ _ _). s.clients) c.self.view_is in
          watched-set c.args.place (g.P.Readiness.watched c.args.readiness.now) (g.P.Readiness.watched c.leave-goes_on.new.readiness) c.self.inside.clients c.put.new.self
          (Some (Talks c.in-Some.talk)) c.leave-goes_on.result.1 (rw clients_are c.requires) c.leave-goes_on.ensures.watched had.sets;
    })
