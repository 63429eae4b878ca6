-- A text has no LF.
use Rattle.rx_proto.proofs.Sound.{no_lf_found}
use Rattle.rx_http.proofs.laws.event_can_be_told.Goals as goal

pub returns-in-Next-clause-event : goal.returns-in-Next-clause-event
returns-in-Next-clause-event c = rw c.in-Next.is (c.look.ensures, no_lf_found c.in-Next.item.now.text c.as_bytes-in-Next.ensures.no_lf)

pub returns-in-Failed-clause-event : goal.returns-in-Failed-clause-event
returns-in-Failed-clause-event c = rw c.in-Failed.is (no_lf_found c.in-Failed.text.now c.as_bytes-in-Failed.ensures.no_lf, c.look-in-Failed.ensures)
