use Rattle.std.proofs.Common.{◌∙◌, ap, rules}
use Rattle.rx_workers.specs.Telling.{IsTold}
use Rattle.rx_workers.specs.Working.{State}
use Rattle.rx_workers.proofs.Watching.{watched-none}
use Rattle.rx_workers.proofs.Working.{worker-ended}
use Rattle.rx_workers.proofs.worker.Worker.serve.Goals as goal

-- nothing is watched, and nobody is served
pub serve_all-requires : goal.serve_all-requires
serve_all-requires g c =
    watched-none (g.P.Readiness.watched c.into_readiness-readiness.result) c.new-shift.result.clients c.into_readiness-readiness.ensures.idle (ap (λ (s : State _ _ _). s.clients) c.new-shift.ensures)

-- what it left is the desk of its sessions and its inbox
pub returns : goal.returns
returns g c =
    worker-ended (λ _ moment _. IsTold g.M.Moments.tells moment) g.C.Read.remaining g.W.Write.contents c.args.self c.new-session.result c.self.inside.inbox c.new-shift.result c.serve_all.new.shift
    (record { desk = c.into_desk.result; inbox = c.into_parts-session.result.1; sessions = c.into_parts-session.result.2 })
    (search rules) c.new-shift.ensures c.serve_all.ensures.goes c.serve_all.ensures.closed c.serve_all.ensures.quiet
    (c.into_desk.ensures.calls ∙ ap (λ s. s.calls) c.into_parts-session.ensures.desk) c.into_parts-session.ensures.inbox c.into_parts-session.ensures.sessions
