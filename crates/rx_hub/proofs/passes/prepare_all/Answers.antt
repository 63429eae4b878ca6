use Rattle.std.proofs.Common.{◌<◌, length, arith, ap, ◌∙◌}
use Rattle.std.proofs.Math.Seq.{map-set_same}
use Rattle.std.proofs.lemmas.List.Elements.{AllWithin-more_set}
use Rattle.rx_hub.specs.declared.subscription.Subscription.{Subscription}
use Rattle.rx_hub.specs.Seats.{IsReady}
use Rattle.rx_hub.specs.Audiences.{place_of}
use Rattle.rx_hub.proofs.passes.prepare_all.Goals as goal

pub returns-in_err-prepare-clause-places : goal.returns-in_err-prepare-clause-places
returns-in_err-prepare-clause-places c =
    map-set_same place_of c.loop-i.subscriptions.items c.loop-i.i c.prepare.new.self c.index_mut.result.now
    (c.prepare.ensures.place ∙ ap place_of c.index_mut.ensures.value) ∙ c.loop-i.invariant.places

pub loop-i-preserved : goal.loop-i-preserved
loop-i-preserved c =
    let lt : c.loop-i.i < length c.loop-i.subscriptions.items = omega arith in
    record {
      places =
          map-set_same place_of c.loop-i.subscriptions.items c.loop-i.i c.prepare.new.self c.index_mut.result.now
          (c.prepare.ensures.place ∙ ap place_of c.index_mut.ensures.value) ∙ c.loop-i.invariant.places;
      len = c.loop-i.invariant.len;
      ready = AllWithin-more_set c.loop-i.subscriptions.items c.loop-i.i c.prepare.new.self lt (λ (s : Subscription). IsReady c.args.offer.now s.ready s.seat)
          c.loop-i.invariant.ready c.in_ok-prepare.ensures.ready;
    }
