use Rattle.std.proofs.Common.{false, ◌∙◌, sym, refl, ap, subst, MatchResult}
use Rattle.std.specs.List.{position}
use Rattle.rx_sink.specs.declared.kept.Kept.{Kept}
use Rattle.rx_sink.specs.Attachments.{is_for, kept_for, by_flush}
use Rattle.rx_sink.specs.KeptSinks.{IsKeptAt, FaultedAtFlush, IsFlushed, tallied}
use Rattle.rx_sink.proofs.Counts.{none_missed, none_taken}
use Rattle.rx_sink.proofs.Finding.{located, missing}
use Rattle.rx_sink.proofs.Tending.{flushed_one, flushed_nobody, same_one}
use Rattle.rx_sink.proofs.kept_sinks.flush_one.Goals as goal

pub returns-in_default-clause-flushes : goal.returns-in_default-clause-flushes
returns-in_default-clause-flushes g c = λ misses taken held gone stand.
    let none = ap (position (is_for c.args.subject c.args.who)) (sym c.as_slice.ensures.value) ∙ c.find.ensures.none c.in_default.is in
    let did = flushed_nobody g.S.Sink.acts c.args.subject c.args.who held gone c.args.kept.now.items c.args.away.now.items c.nothing.result
    stand (missing g.S.Sink.acts c.args.subject c.args.who held c.args.kept.now.items stand.kept_are none) c.nothing.ensures in record {
      mark = did.0;
      did = did.1;
      misses = sym (ap (tallied misses) (none_missed c.args.subject c.args.who (by_flush did.0) (λ a. false) (kept_for c.args.subject c.args.who held) held));
      taken = sym (ap (tallied taken) (none_taken c.args.subject c.args.who (by_flush did.0) (kept_for c.args.subject c.args.who held) held));
      came_back = refl;
    }

pub returns-clause-flushes : goal.returns-clause-flushes
returns-clause-flushes g c = λ misses taken held gone stand.
    let here = subst (IsKeptAt c.args.subject c.args.who c.in-Some.place) c.as_slice.ensures.value c.in-Some.ensures.found in
    let f = located g.S.Sink.acts c.args.subject c.args.who held c.args.kept.now.items c.in-Some.place here.0 stand.kept_are stand.apart here.1 here.2 in
    let same = same_one c.args.kept.now.items c.in-Some.place f.one c.index_mut.result.now f.at c.index_mut.ensures.value in
    let did = flushed_one g.S.Sink.acts c.args.subject c.args.who c.in-Some.place held gone c.args.kept.now.items c.args.away.now.items stand f
    c.flush-flushed.result c.flush-flushed.new.self c.end_act.result c.end_act.new.kept.items c.end_act.new.away.items
    (subst (λ (k : Kept _). MatchResult c.flush-flushed.result (λ said. IsFlushed g.S.Sink.acts k c.flush-flushed.new.self said) (λ _. FaultedAtFlush g.S.Sink.acts k c.flush-flushed.new.self))
    (sym same) c.flush-flushed.ensures.flushed)
    (c.flush-flushed.ensures.subject ∙ ap (λ (k : Kept _). k.subject) (sym same)) (c.flush-flushed.ensures.who ∙ ap (λ (k : Kept _). k.who) (sym same))
    c.end_act.ensures.ends in record {
      mark = did.0;
      did = did.1;
      misses = sym (ap (tallied misses) (none_missed c.args.subject c.args.who (by_flush did.0) (λ a. false) (kept_for c.args.subject c.args.who held) held));
      taken = sym (ap (tallied taken) (none_taken c.args.subject c.args.who (by_flush did.0) (kept_for c.args.subject c.args.who held) held));
      came_back = refl;
    }
