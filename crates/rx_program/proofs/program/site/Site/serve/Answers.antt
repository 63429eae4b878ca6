use Rattle.std.proofs.Common.{◌∙◌, ap}
use Rattle.std.proofs.lemmas.Result.{MatchResult-weaker}
use Rattle.rx_program.specs.Reporting.{closed_as}
use Rattle.rx_program.proofs.Reports.{closed-so}
use Rattle.rx_program.proofs.program.site.Site.serve.Goals as goal

pub returns-clause-closed : goal.returns-clause-closed
returns-clause-closed g c =
    closed-so _ c.args.config c.serve_by-served.new.server _ c.close.result (closed_as c.subjects_of-closed.result) (c.serve_by-served.ensures.config ∙ c.in-Ok.ensures) c.close.ensures
    (MatchResult-weaker c.close.result c.subjects_of-closed.ensures (λ report same. ap closed_as same) (λ fault same. ap closed_as same))
