use Rattle.std.proofs.Common.{◌∙◌, sym, ap, subst, Err}
use Rattle.rx_mailbox.specs.Boxes.{Incoming, HasEachBye}
use Rattle.rx_drain.proofs.Ending.{served_kept, stopped_kept}
use Rattle.rx_drain.proofs.drainer.Drainer.serve.Goals as goal

pub returns-in-Ok : goal.returns-in-Ok
returns-in-Ok g c = served_kept g.S.Sink.acts c.args.self c.take_all.new.self c.end.result c.in-Ok.ensures.kept c.in-Ok.ensures.none c.end.ensures

pub returns-in-Err : goal.returns-in-Err
returns-in-Err g c =
    stopped_kept g.S.Sink.acts c.args.self c.take_all.new.self c.stop.result c.in-Err.ensures.kept
    (λ gone whole each. c.in-Err.ensures.waited (ap Err (sym c.stop.ensures.fault ∙ gone)) whole
    (subst (λ (i : Incoming _). HasEachBye i) c.stop.ensures.inbox each)) c.stop.ensures.stopped
