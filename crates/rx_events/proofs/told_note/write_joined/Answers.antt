use Rattle.rx_http.specs.declared.stream_event.StreamEvent.TheVariants.{Joined, Restarted}
use Rattle.rx_events.proofs.Writings.{two-fault, two-writes}
use Rattle.rx_events.proofs.told_note.write_joined.Goals as goal

pub returns-in_err-write_event-in-Restarted : goal.returns-in_err-write_event-in-Restarted
returns-in_err-write_event-in-Restarted g c =
    rw c.in-Restarted.is
    (two-fault c.from_residual.result _ _ c.args.epoch.now (Restarted (record { ref_ptr = (0, 0); now = c.in-Restarted.sent })) (Joined c.args.who c.args.known)
    c.from_residual.ensures.0 c.in_err-write_event-in-Restarted.ensures)

pub returns-in_ok-write_event-in-Restarted : goal.returns-in_ok-write_event-in-Restarted
returns-in_ok-write_event-in-Restarted g c =
    rw c.in-Restarted.is
    (two-writes c.write_event-in-Restarted.result _ _ _ c.args.epoch.now (Restarted (record { ref_ptr = (0, 0); now = c.in-Restarted.sent })) (Joined c.args.who c.args.known)
    c.in_ok-write_event-in-Restarted.ensures c.write_event-in-Restarted.ensures)
