use Rattle.std.proofs.Common.{◌∙◌, refl, sym, ap, subst, ◌++◌, map, arith}
use Rattle.rx_mailbox.specs.Boxes.{all_told, HasEachBye}
use Rattle.rx_pump.specs.declared.pump.pump_end.PumpEnd.{PumpEnd}
use Rattle.rx_pump.specs.declared.pump.pump_fault.PumpFault.TheVariants.{DrainerGone, CallerGone}
use Rattle.rx_pump.specs.declared.pump.pump_stop.PumpStop.{PumpStop}
use Rattle.rx_pump.specs.Pumps.{PumpView, pump_with}
use Rattle.rx_mailbox.specs.PortRows.{with_bye}
use Rattle.rx_pump.specs.Serving.{HasPumped, PumpHasStopped}
use Rattle.rx_pump.proofs.Leaving.{EndsSome-first, PumpHasStopped-drainers, PumpHasStopped-replies, HasPumped-all}
use Rattle.rx_pump.proofs.pump.Pump.finish.Goals as goal

pub returns-in-Err : goal.returns-in-Err
returns-in-Err g c =
    let inside = c.self.inside in
    let pump = pump_with inside.parts inside.tally.calls inside.tally.refused inside.misses_before inside.fault in
    let stop : PumpStop _ = record {
      fault = DrainerGone c.in-Err.place;
      parts = record { hub = inside.parts.hub; inbox = inside.parts.inbox; drainers = c.finish_all.new.ports; replies = inside.parts.replies };
      ended_drainers = c.finish_all.new.ended;
      ended_replies = inside.ended_replies;
    } in
    subst (λ (p : PumpView _). PumpHasStopped p stop) c.self.view_is
    (PumpHasStopped-drainers pump stop c.in-Err.place refl refl
    (EndsSome-first (all_told inside.parts.drainers.items) (all_told c.finish_all.new.ports.items) inside.ended_drainers.items c.finish_all.new.ended.items c.self.invariant.2 c.in-Err.ensures.ended.0)
    refl c.self.invariant.4 refl (omega (arith, c.in-Err.ensures.ended.1, c.finish_all.new.ended.ok.0))
    (subst (λ (p : PumpView _). HasEachBye p.inbox) (sym c.self.view_is) c.requires.each_bye)
    (ap (λ (p : PumpView _). p.fault) c.self.view_is ∙ c.requires.whole) c.self.invariant.0)

pub returns-in-Err-finish_all : goal.returns-in-Err-finish_all
returns-in-Err-finish_all g c =
    let inside = c.self.inside in
    let pump = pump_with inside.parts inside.tally.calls inside.tally.refused inside.misses_before inside.fault in
    let ended = c.in_default.ensures.ended in
    let stop : PumpStop _ = record {
      fault = CallerGone c.in-Err-finish_all.place;
      parts = record { hub = inside.parts.hub; inbox = inside.parts.inbox; drainers = c.finish_all.new.ports; replies = c.finish_all-2.new.ports };
      ended_drainers = c.finish_all.new.ended;
      ended_replies = c.finish_all-2.new.ended;
    } in
    subst (λ (p : PumpView _). PumpHasStopped p stop) c.self.view_is
    (PumpHasStopped-replies pump stop c.in-Err-finish_all.place refl refl ended.1 (ended.0 ∙ ap (λ first. first ++ map with_bye (all_told inside.parts.drainers.items)) c.self.invariant.2)
    (EndsSome-first (all_told inside.parts.replies.items) (all_told c.finish_all-2.new.ports.items) inside.ended_replies.items c.finish_all-2.new.ended.items c.self.invariant.4 c.in-Err-finish_all.ensures.ended.0)
    refl (omega (arith, c.in-Err-finish_all.ensures.ended.1, c.finish_all-2.new.ended.ok.0))
    (subst (λ (p : PumpView _). HasEachBye p.inbox) (sym c.self.view_is) c.requires.each_bye)
    (ap (λ (p : PumpView _). p.fault) c.self.view_is ∙ c.requires.whole) c.self.invariant.0)

pub returns : goal.returns
returns g c =
    let inside = c.self.inside in
    let pump = pump_with inside.parts inside.tally.calls inside.tally.refused inside.misses_before inside.fault in
    let left : PumpEnd _ = record {
      hub = inside.parts.hub;
      inbox = inside.parts.inbox;
      drainers = c.finish_all.new.ended;
      replies = c.finish_all-2.new.ended;
      calls = inside.tally.calls;
      refused = inside.tally.refused;
    } in
    subst (λ (p : PumpView _). HasPumped p left) c.self.view_is
    (HasPumped-all pump left refl refl
    (c.in_default.ensures.ended.0 ∙ ap (λ first. first ++ map with_bye (all_told inside.parts.drainers.items)) c.self.invariant.2)
    (c.in_default-finish_all.ensures.ended.0 ∙ ap (λ first. first ++ map with_bye (all_told inside.parts.replies.items)) c.self.invariant.4)
    refl refl
    (subst (λ (p : PumpView _). HasEachBye p.inbox) (sym c.self.view_is) c.requires.each_bye)
    (ap (λ (p : PumpView _). p.fault) c.self.view_is ∙ c.requires.whole) c.self.invariant.0)
