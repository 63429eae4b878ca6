use Rattle.std.proofs.Common.{◌∙◌, ap, rules}
use Rattle.rx_face.specs.Facing.{Attended}
use Rattle.rx_workers.proofs.Watching.{watched-none}
use Rattle.rx_face.proofs.Facing.{has_served}
use Rattle.rx_face.proofs.face.Face.serve.Goals as goal

-- nothing is watched, and nobody is served
pub serve-requires : goal.serve-requires
serve-requires g c =
    watched-none (g.P.Readiness.watched c.into_readiness-doorway.result) c.new-attendance.result.clients c.into_readiness-doorway.ensures.idle (ap (λ (s : Attended _ _ _). s.clients) c.new-attendance.ensures)

-- what it left is the desk of its exchanges
pub returns : goal.returns
returns g c =
    has_served g.M.Moments.tells g.C.Read.remaining g.W.Write.contents c.args.self c.new-desk.result c.new-attendance.result c.serve.new.self c.into_desk-2.result (search rules) c.new-attendance.ensures c.serve.ensures.goes
    (c.into_desk-2.ensures.calls ∙ ap (λ s. s.calls) c.into_session.ensures ∙ ap (λ d. d.session.calls) c.into_desk.ensures)
