use Rattle.std.proofs.Common.{◌<◌, length, ap, ◌∙◌, arith}
use Rattle.std.proofs.Math.Seq.{map-set_same}
use Rattle.std.proofs.lemmas.List.Elements.{AllWithin-more_set}
use Rattle.rx_hub.specs.declared.subscription.Subscription.{Subscription}
use Rattle.rx_hub.specs.Seats.{IsIdle}
use Rattle.rx_hub.specs.Audiences.{place_of}
use Rattle.rx_hub.proofs.passes.forget_all.Goals as goal

pub loop-i-preserved : goal.loop-i-preserved
loop-i-preserved c =
    let subs = c.loop-i.subscriptions.items in
    let lt : c.loop-i.i < length subs = omega arith in
    record {
      places =
          map-set_same place_of subs c.loop-i.i c.forget.new.self c.index_mut.result.now
          (c.forget.ensures.place ∙ ap place_of c.index_mut.ensures.value) ∙ c.loop-i.invariant.places;
      len = c.loop-i.invariant.len;
      idle = AllWithin-more_set subs c.loop-i.i c.forget.new.self lt (λ (s : Subscription). IsIdle s.ready) c.loop-i.invariant.idle c.forget.ensures.idle;
    }
