use Rattle.std.proofs.Common.{List, subst}
use Rattle.rx_proto.specs.Bytes.{Writes}
use Rattle.rx_http.specs.declared.stream_event.StreamEvent.{StreamEvent}
use Rattle.rx_http.specs.declared.stream_event.StreamEvent.TheVariants.{Missed, Next}
use Rattle.rx_events.specs.Telling.{told_bytes}
use Rattle.rx_events.proofs.Writings.{left-events, two-fault, two-writes}
use Rattle.rx_events.proofs.told_note.write_behind.Goals as goal

pub returns-in_err-write_event : goal.returns-in_err-write_event
returns-in_err-write_event g c =
    let result = c.from_residual.result in
    let item = c.args.item.now in
    let last = c.saturating_sub-last.result in
    subst (λ (events : List StreamEvent). Writes result (g.W.Write.contents c.args.writer.now) (g.W.Write.contents c.write_event-2.new.writer) (told_bytes c.args.epoch.now events))
    (left-events c.args.count last item c.if-count-eq0.false c.saturating_sub-last.ensures)
    (two-fault result _ _ c.args.epoch.now (Missed c.args.count last) (Next (record { ref_ptr = (0, 0); now = item })) c.from_residual.ensures.0 c.in_err-write_event.ensures)

pub returns : goal.returns
returns g c =
    let result = c.write_event-3.result in
    let item = c.args.item.now in
    let last = c.saturating_sub-last.result in
    subst (λ (events : List StreamEvent). Writes result (g.W.Write.contents c.args.writer.now) (g.W.Write.contents c.write_event-3.new.writer) (told_bytes c.args.epoch.now events))
    (left-events c.args.count last item c.if-count-eq0.false c.saturating_sub-last.ensures)
    (two-writes result _ _ _ c.args.epoch.now (Missed c.args.count last) (Next (record { ref_ptr = (0, 0); now = item })) c.in_ok-write_event.ensures c.write_event-3.ensures)
