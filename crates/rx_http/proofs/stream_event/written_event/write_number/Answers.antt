use Rattle.rx_http.proofs.Plain.{decimal_lines}
use Rattle.rx_http.proofs.stream_event.written_event.write_number.Goals as goal

pub returns-clause-plain : goal.returns-clause-plain
returns-clause-plain g c = decimal_lines c.args.number c.ranges.number.fits
