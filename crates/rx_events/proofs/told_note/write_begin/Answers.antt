use Rattle.rx_http.specs.Answers.{answer_bytes}
use Rattle.rx_http.specs.Laws.{stream_of}
use Rattle.rx_http.specs.Pieces.{retry_line}
use Rattle.rx_http.specs.declared.answer.Answer.TheVariants.{Events}
use Rattle.rx_proto.proofs.Writes.{Writes-fault, Writes-then}
use Rattle.rx_events.specs.Telling.{begin_events, begin_pieces, told_bytes}
use Rattle.rx_events.proofs.told_note.write_begin.Goals as goal

pub returns-in_err-write_answer : goal.returns-in_err-write_answer
returns-in_err-write_answer g c =
    Writes-fault c.from_residual.result _ _ (answer_bytes Events) (stream_of c.args.epoch.now (begin_pieces c.args.begin.now c.args.known c.args.who))
    c.from_residual.ensures.0 c.in_err-write_answer.ensures

pub returns-in_err-write_retry : goal.returns-in_err-write_retry
returns-in_err-write_retry g c =
    let result = c.from_residual-in_err-write_retry.result in
    let events = begin_events c.args.begin.now c.args.known c.args.who in
    Writes-then result _ _ _ (answer_bytes Events) (stream_of c.args.epoch.now (begin_pieces c.args.begin.now c.args.known c.args.who)) c.in_ok-write_answer.ensures
    (Writes-fault result _ _ (retry_line 1000) (told_bytes c.args.epoch.now events) c.from_residual-in_err-write_retry.ensures.0 c.in_err-write_retry.ensures)

pub returns : goal.returns
returns g c =
    let result = c.write_joined.result in
    let events = begin_events c.args.begin.now c.args.known c.args.who in
    Writes-then result _ _ _ (answer_bytes Events) (stream_of c.args.epoch.now (begin_pieces c.args.begin.now c.args.known c.args.who)) c.in_ok-write_answer.ensures
    (Writes-then result _ _ _ (retry_line 1000) (told_bytes c.args.epoch.now events) c.in_ok-write_retry.ensures c.write_joined.ensures)
