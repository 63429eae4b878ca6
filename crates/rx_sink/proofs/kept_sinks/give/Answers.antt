use Rattle.std.proofs.Common.{◌∙◌, sym, refl, ap, subst, if◌then◌else◌, MatchResult}
use Rattle.std.specs.List.{position}
use Rattle.rx_sink.specs.declared.kept.Kept.{Kept}
use Rattle.rx_sink.specs.Acts.{raised}
use Rattle.rx_sink.specs.Attachments.{Fault, is_for, kept_for, by_note, has_taken}
use Rattle.rx_sink.specs.KeptSinks.{IsKeptAt, TakesNote, FaultedAt, tallied}
use Rattle.rx_sink.proofs.Counts.{none_missed}
use Rattle.rx_sink.proofs.Finding.{located, missing}
use Rattle.rx_sink.proofs.Tending.{notified_one, notified_over, notified_nobody, same_one}
use Rattle.rx_sink.proofs.kept_sinks.give.Goals as goal

pub returns-in_default-clause-gives : goal.returns-in_default-clause-gives
returns-in_default-clause-gives g c = λ misses held gone stand.
    let none = ap (position (is_for c.args.subject c.args.who)) (sym c.as_slice.ensures.value) ∙ c.look.ensures.none c.in_default.is in
    let did = notified_nobody g.S.Sink.acts c.args.taken.now c.args.subject c.args.who held gone c.args.kept.now.items c.args.away.now.items c.args.note c.nothing.result
    stand (missing g.S.Sink.acts c.args.subject c.args.who held c.args.kept.now.items stand.kept_are none) c.nothing.ensures in record {
      mark = Fault;
      did = did.0;
      misses = sym (ap (tallied misses) (none_missed c.args.subject c.args.who (by_note Fault c.args.note) (has_taken Fault) (kept_for c.args.subject c.args.who held) held));
      taken = did.1;
      came_back = refl;
    }

pub returns-then-index-clause-gives : goal.returns-then-index-clause-gives
returns-then-index-clause-gives g c = λ misses held gone stand.
    let here = subst (IsKeptAt c.args.subject c.args.who c.in-Some.place) c.as_slice.ensures.value c.in-Some.ensures.found in
    let f = located g.S.Sink.acts c.args.subject c.args.who held c.args.kept.now.items c.in-Some.place here.0 stand.kept_are stand.apart here.1 here.2 in
    let same = same_one c.args.kept.now.items c.in-Some.place f.one c.index.result.now f.at c.index.ensures in
    let did = notified_over g.S.Sink.acts c.args.subject c.args.who c.in-Some.place held gone c.args.kept.now.items c.args.away.now.items stand f c.args.taken.now c.args.note c.nothing-then-index.result
    (ap (λ (k : Kept _). k.over) same ∙ c.if-index.true) c.nothing-then-index.ensures in record {
      mark = Fault;
      did = did.0;
      misses = sym (ap (tallied misses) (none_missed c.args.subject c.args.who (by_note Fault c.args.note) (has_taken Fault) (kept_for c.args.subject c.args.who held) held));
      taken = did.1;
      came_back = refl;
    }

pub returns-clause-gives : goal.returns-clause-gives
returns-clause-gives g c = λ misses held gone stand.
    let here = subst (IsKeptAt c.args.subject c.args.who c.in-Some.place) c.as_slice.ensures.value c.in-Some.ensures.found in
    let f = located g.S.Sink.acts c.args.subject c.args.who held c.args.kept.now.items c.in-Some.place here.0 stand.kept_are stand.apart here.1 here.2 in
    let read = same_one c.args.kept.now.items c.in-Some.place f.one c.index.result.now f.at c.index.ensures in
    let same = same_one c.args.kept.now.items c.in-Some.place f.one c.index_mut.result.now f.at c.index_mut.ensures.value in
    let did = notified_one g.S.Sink.acts c.args.subject c.args.who c.in-Some.place held gone c.args.kept.now.items c.args.away.now.items stand f
    c.take-took.result c.args.taken.now c.args.note c.take-took.new.self c.end_act.result c.end_act.new.kept.items c.end_act.new.away.items
    (ap (λ (k : Kept _). k.over) read ∙ c.if-index.false)
    (subst (λ (k : Kept _). MatchResult c.take-took.result (λ said. TakesNote g.S.Sink.acts c.args.note k c.take-took.new.self said) (λ _. FaultedAt g.S.Sink.acts c.args.note k c.take-took.new.self))
    (sym same) c.take-took.ensures.took)
    (c.take-took.ensures.subject ∙ ap (λ (k : Kept _). k.subject) (sym same)) (c.take-took.ensures.who ∙ ap (λ (k : Kept _). k.who) (sym same))
    c.end_act.ensures.ends in record {
      mark = did.0;
      did = did.1;
      misses = sym (ap (tallied misses) (none_missed c.args.subject c.args.who (by_note did.0 c.args.note) (has_taken did.0) (kept_for c.args.subject c.args.who held) held));
      taken = c.tallied.ensures ∙ ap (λ b. if b then raised c.args.taken.now else c.args.taken.now) c.is_ok.ensures.value ∙ did.2;
      came_back = refl;
    }
