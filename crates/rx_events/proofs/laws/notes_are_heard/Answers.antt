use Rattle.rx_events.proofs.Hearing.{notes_are_heard}
use Rattle.rx_events.proofs.laws.notes_are_heard.Goals as goal

pub returns : goal.returns
returns c = notes_are_heard
