use Rattle.std.proofs.Common.{◌∙◌, sym, refl, ap, ◌++◌, length, map, Some, arith}
use Rattle.std.proofs.lemmas.Option.{slice_get-get_or}
use Rattle.rx_pump.specs.Opened.{all_opened, opened_ports}
use Rattle.rx_sink.specs.KeptSinks.{events_asked}
use Rattle.rx_drain.proofs.Standing.{same_sent, of_sent, stands_flushed}
use Rattle.rx_drain.proofs.drainer.flushes.flush_at.Goals as goal

pub returns-clause-ports : goal.returns-clause-ports
returns-clause-ports g c =
    same_sent c.send_asks.result (map (λ event. (c.index-one.result.now.subject, event)) (events_asked c.flush_one-asks.result)) (opened_ports c.args.hands.now.ended.items) (all_opened c.args.hands.now.parts.subjects.items) (all_opened c.send_asks.new.subjects.items) c.send_asks.ensures

pub returns-clause-flushes : goal.returns-clause-flushes
returns-clause-flushes g c =
    let one = c.index-one.result.now in
    let ended = opened_ports c.args.hands.now.ended.items in
    let a = all_opened c.args.hands.now.parts.subjects.items in
    let b = all_opened c.send_asks.new.subjects.items in
    record {
      one = one;
      stood = slice_get-get_or c.args.hands.now.kept.items c.args.place one (omega (arith, c.requires.within, c.args.hands.now.kept.ok.0)) ∙ ap Some (sym c.index-one.ensures);
      fault = of_sent c.send_asks.result (map (λ event. (one.subject, event)) (events_asked c.flush_one-asks.result)) a b c.send_asks.ensures;
      stands = λ log s. stands_flushed g.S.Sink.acts (length (ended ++ a)) log one.subject one.who _ _ ended a b (events_asked c.flush_one-asks.result)
          (ap opened_ports (c.requires.fits.open_ports refl)) refl refl refl refl refl refl refl c.flush_one-asks.ensures.flushes c.send_asks.ensures s;
    }
