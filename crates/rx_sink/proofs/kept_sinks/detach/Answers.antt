use Rattle.std.proofs.Common.{false, ◌∙◌, sym, refl, ap, subst}
use Rattle.std.specs.List.{position}
use Rattle.rx_sink.specs.declared.kept.Kept.{Kept}
use Rattle.rx_sink.specs.Attachments.{Fault, is_for, kept_for, by_leaving}
use Rattle.rx_sink.specs.KeptSinks.{IsKeptAt, PartsOne, tallied}
use Rattle.rx_sink.proofs.Counts.{none_missed, none_taken}
use Rattle.rx_sink.proofs.Finding.{located, missing}
use Rattle.rx_sink.proofs.Tending.{detached_one, detached_nobody, same_one}
use Rattle.rx_sink.proofs.kept_sinks.detach.Goals as goal

pub returns-in_default-clause-detaches : goal.returns-in_default-clause-detaches
returns-in_default-clause-detaches g c = λ misses taken held gone stand.
    let none = ap (position (is_for c.args.subject c.args.who)) (sym c.as_slice.ensures.value) ∙ c.look.ensures.none c.in_default.is in
    let did = detached_nobody g.S.Sink.acts c.args.subject c.args.who held gone c.args.kept.now.items c.args.away.now.items c.nothing.result
    stand (missing g.S.Sink.acts c.args.subject c.args.who held c.args.kept.now.items stand.kept_are none) c.nothing.ensures in record {
      mark = Fault;
      did = did;
      misses = sym (ap (tallied misses) (none_missed c.args.subject c.args.who by_leaving (λ a. false) (kept_for c.args.subject c.args.who held) held));
      taken = sym (ap (tallied taken) (none_taken c.args.subject c.args.who by_leaving (kept_for c.args.subject c.args.who held) held));
      came_back = refl;
    }

pub returns-clause-detaches : goal.returns-clause-detaches
returns-clause-detaches g c = λ misses taken held gone stand.
    let here = subst (IsKeptAt c.args.subject c.args.who c.in-Some.place) c.as_slice.ensures.value c.in-Some.ensures.found in
    let f = located g.S.Sink.acts c.args.subject c.args.who held c.args.kept.now.items c.in-Some.place here.0 stand.kept_are stand.apart here.1 here.2 in
    let same = same_one c.args.kept.now.items c.in-Some.place f.one c.index.result.now f.at c.index.ensures in
    let did = detached_one g.S.Sink.acts c.args.subject c.args.who c.in-Some.place held gone c.args.kept.now.items c.args.away.now.items stand f
    c.part.new.kept.items c.part.new.away.items c.part.result
    (subst (λ b. PartsOne g.S.Sink.acts c.in-Some.place b c.args.kept.now.items c.part.new.kept.items c.args.away.now.items c.part.new.away.items c.part.result) (ap (λ (k : Kept _). k.over) (sym same)) c.part.ensures.parts) in record {
      mark = Fault;
      did = did;
      misses = sym (ap (tallied misses) (none_missed c.args.subject c.args.who by_leaving (λ a. false) (kept_for c.args.subject c.args.who held) held));
      taken = sym (ap (tallied taken) (none_taken c.args.subject c.args.who by_leaving (kept_for c.args.subject c.args.who held) held));
      came_back = refl;
    }
