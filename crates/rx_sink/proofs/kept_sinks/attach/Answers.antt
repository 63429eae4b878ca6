use Rattle.std.proofs.Common.{◌∙◌, sym, ap, subst, length, vec_len, arith, List, [], ◌∷◌, ◌++◌, true, false}
use Rattle.std.specs.List.{position}
use Rattle.rx_sink.specs.declared.flow.Flow.TheVariants.{Clear}
use Rattle.rx_sink.specs.declared.kept.Kept.{Kept}
use Rattle.rx_sink.specs.declared.put_away.PutAway.{PutAway}
use Rattle.rx_sink.specs.Acts.{raised}
use Rattle.rx_sink.specs.Attachments.{Fine, Fault, NoMemory, is_for, attached, brought, unserved}
use Rattle.rx_sink.specs.KeptSinks.{IsKeptAt, tallied}
use Rattle.rx_sink.proofs.Finding.{located, missing}
use Rattle.rx_sink.proofs.Tending.{attached_beside, attached_fine, attached_fault, attached_nowhere, said_so}
use Rattle.rx_sink.proofs.kept_sinks.attach.Goals as goal

pub returns-in-Some-clause-attaches : goal.returns-in-Some-clause-attaches
returns-in-Some-clause-attaches g c = λ place taken held gone stand.
    let here = subst (IsKeptAt c.args.subject c.args.who c.in-Some._place) c.as_slice.ensures.value c.in-Some.ensures.found in
    let f = located g.S.Sink.acts c.args.subject c.args.who held c.args.kept.now.items c.in-Some._place here.0 stand.kept_are stand.apart here.1 here.2 in
    let a = brought place c.args.subject c.args.who c.args.sink in record {
      mark = Fine Clear;
      did = said_so g.S.Sink.acts _ gone _ _ c.args.subject _ _ c.nothing.ensures
          (attached_beside g.S.Sink.acts place c.args.subject c.args.who c.args.sink held gone c.args.kept.now.items c.args.away.now.items c.in-Some._place stand f (Fine Clear));
      misses = c.look.ensures.misses ∙ sym (ap (λ o. tallied c.args.places.now.misses (attached (Fine Clear) a o held).missed) f.found);
      taken = sym (ap (λ o. tallied taken (attached (Fine Clear) a o held).took) f.found);
      came_back = sym (ap (λ o. unserved (Fine Clear) c.args.sink o) f.found);
    }

pub returns-in_default-grow-clause-attaches : goal.returns-in_default-grow-clause-attaches
returns-in_default-grow-clause-attaches g c = λ place taken held gone stand.
    let none = ap (position (is_for c.args.subject c.args.who)) (sym c.as_slice.ensures.value) ∙ c.look.ensures.none c.in_default.is in
    let nobody = missing g.S.Sink.acts c.args.subject c.args.who held c.args.kept.now.items stand.kept_are none in
    let a = brought place c.args.subject c.args.who c.args.sink in record {
      mark = NoMemory;
      did = said_so g.S.Sink.acts _ gone _ _ c.args.subject _ _ c.leave.ensures
          (attached_nowhere g.S.Sink.acts place c.args.subject c.args.who c.args.sink held gone c.args.kept.now.items c.grow.new.kept.items c.args.away.now.items c.grow.new.away.items
          stand nobody c.in_default-grow.ensures.kept c.in_default-grow.ensures.away);
      misses = c.in_default-grow.ensures.missed ∙ ap raised c.look.ensures.misses ∙ sym (ap (λ o. tallied c.args.places.now.misses (attached NoMemory a o held).missed) nobody);
      taken = sym (ap (λ o. tallied taken (attached NoMemory a o held).took) nobody);
      came_back = sym (ap (λ o. unserved NoMemory c.args.sink o) nobody);
    }

pub returns-in-Ok-start-clause-attaches : goal.returns-in-Ok-start-clause-attaches
returns-in-Ok-start-clause-attaches g c = λ place taken held gone stand.
    let none = ap (position (is_for c.args.subject c.args.who)) (sym c.as_slice.ensures.value) ∙ c.look.ensures.none c.in_default.is in
    let nobody = missing g.S.Sink.acts c.args.subject c.args.who held c.args.kept.now.items stand.kept_are none in
    let a = brought place c.args.subject c.args.who c.args.sink in record {
      mark = Fine Clear;
      did = said_so g.S.Sink.acts _ gone _ _ c.args.subject _ _ c.nothing-in-Ok-start.ensures
          (attached_fine g.S.Sink.acts place c.args.subject c.args.who c.args.sink c.start.new.self held gone c.args.kept.now.items c.push_reserved.new.self.items c.args.away.now.items c.grow.new.away.items
          stand nobody c.in-Ok-start.ensures.ok c.in-Ok-start.ensures.same
          (c.push_reserved.ensures.items ∙ ap (λ (l : List (Kept _)). l ++ record { subject = c.args.subject; who = c.args.who; sink = c.start.new.self; due = 0; over = false; may_wait = true } ∷ []) c.in-Ok.ensures.kept)
          c.in-Ok.ensures.away);
      misses = c.add.ensures ∙ c.in-Ok.ensures.same ∙ c.look.ensures.misses ∙ sym (ap (λ o. tallied c.args.places.now.misses (attached (Fine Clear) a o held).missed) nobody);
      taken = sym (ap (λ o. tallied taken (attached (Fine Clear) a o held).took) nobody);
      came_back = sym (ap (λ o. unserved (Fine Clear) c.args.sink o) nobody);
    }

pub returns-in-Err-clause-attaches : goal.returns-in-Err-clause-attaches
returns-in-Err-clause-attaches g c = λ place taken held gone stand.
    let none = ap (position (is_for c.args.subject c.args.who)) (sym c.as_slice.ensures.value) ∙ c.look.ensures.none c.in_default.is in
    let nobody = missing g.S.Sink.acts c.args.subject c.args.who held c.args.kept.now.items stand.kept_are none in
    let a = brought place c.args.subject c.args.who c.args.sink in record {
      mark = Fault;
      did = said_so g.S.Sink.acts _ gone _ _ c.args.subject _ _ c.leave-in-Err.ensures
          (attached_fault g.S.Sink.acts place c.args.subject c.args.who c.args.sink c.start.new.self held gone c.args.kept.now.items c.grow.new.kept.items c.args.away.now.items c.push_reserved-in-Err.new.self.items c.finish-rest.result
          stand nobody c.in-Err.ensures.fault c.in-Err.ensures.rose c.finish-rest.ensures c.in-Ok.ensures.kept
          (c.push_reserved-in-Err.ensures.items ∙ ap (λ (l : List (PutAway _)). l ++ record { subject = c.args.subject; who = c.args.who; rest = c.finish-rest.result } ∷ []) c.in-Ok.ensures.away));
      misses = c.in-Ok.ensures.same ∙ c.look.ensures.misses ∙ sym (ap (λ o. tallied c.args.places.now.misses (attached Fault a o held).missed) nobody);
      taken = sym (ap (λ o. tallied taken (attached Fault a o held).took) nobody);
      came_back = sym (ap (λ o. unserved Fault c.args.sink o) nobody);
    }

pub returns-in_default-grow-clause-room : goal.returns-in_default-grow-clause-room
returns-in_default-grow-clause-room g c = λ is.
    omega (
      arith,
      c.requires.room (sym c.in_default-grow.ensures.keeps ∙ is),
      ap length c.in_default-grow.ensures.kept,
      ap length c.in_default-grow.ensures.away,
      c.in_default-grow.ensures.no_less,
      c.args.kept.now.ok.0,
      c.grow.new.kept.ok.0,
    )

pub returns-in-Err-clause-room : goal.returns-in-Err-clause-room
returns-in-Err-clause-room g c =
    c.push_reserved-in-Err.ensures.room (vec_len c.grow.new.kept) (λ is. omega (arith, c.in-Ok.ensures.away_room is, ap length c.in-Ok.ensures.kept, c.args.kept.now.ok.0, c.grow.new.kept.ok.0))
