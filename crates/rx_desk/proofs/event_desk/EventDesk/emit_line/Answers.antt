use Rattle.std.proofs.Common.{length, ap}
use Rattle.rx_desk.proofs.LineEmissions.{emits-subjects}
use Rattle.rx_desk.proofs.event_desk.EventDesk.emit_line.Goals as goal

pub returns-clause-subjects : goal.returns-clause-subjects
returns-clause-subjects g c = ap length (emits-subjects g.M.Moments.tells _ _ _ _ _ c.emit_text.ensures.emits)
