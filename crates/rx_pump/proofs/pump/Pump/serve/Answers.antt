use Rattle.std.proofs.Common.{◌∙◌, sym, ap, Err, inl, inr, subst}
use Rattle.std.proofs.lemmas.Result.{MatchResult-weaker}
use Rattle.rx_mailbox.specs.Boxes.{Incoming, HasEachBye}
use Rattle.rx_pump.specs.Pumps.{PumpView}
use Rattle.rx_pump.specs.Serving.{PumpHasStopped}
use Rattle.rx_pump.proofs.Leaving.{HasPumped-kept, PumpHasStopped-kept}
use Rattle.rx_pump.proofs.pump.Pump.serve.Goals as goal

pub returns-in-Ok : goal.returns-in-Ok
returns-in-Ok g c =
    MatchResult-weaker c.finish.result c.finish.ensures
    (λ left served. HasPumped-kept c.args.self c.take_all.new.self left c.in-Ok.ensures.kept c.in-Ok.ensures.none served)
    (λ stop stopped. PumpHasStopped-kept c.args.self c.take_all.new.self stop c.in-Ok.ensures.kept c.in-Ok.ensures.none (λ gone whole. inl c.in-Ok.ensures.fault) stopped)

pub returns-in-Err : goal.returns-in-Err
returns-in-Err g c =
    let same = c.send_held.ensures in
    let stopped = subst (λ (p : PumpView _). PumpHasStopped p c.stop.result) same c.stop.ensures.stopped in
    let inbox = c.stop.ensures.inbox ∙ ap (λ (p : PumpView _). p.inbox) same in
    PumpHasStopped-kept c.args.self c.take_all.new.self c.stop.result c.in-Err.ensures.kept c.in-Err.ensures.none
    (λ gone whole. inr (λ each. c.in-Err.ensures.waited (ap Err (sym c.stop.ensures.fault ∙ gone)) whole
    (subst (λ (i : Incoming _). HasEachBye i) inbox each))) stopped
