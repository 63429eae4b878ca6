use Rattle.rx_drain.proofs.Tallying.{each_note_counts}
use Rattle.rx_drain.proofs.laws.each_note_counts.Goals as goal

pub returns : goal.returns
returns g c = λ leave log. each_note_counts leave log
