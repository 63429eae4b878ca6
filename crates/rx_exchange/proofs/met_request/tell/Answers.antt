use Rattle.rx_http.specs.Answers.{answer_bytes}
use Rattle.rx_exchange.proofs.Turning.{tells-sent}
use Rattle.rx_exchange.proofs.met_request.tell.Goals as goal

pub returns-in-Ok : goal.returns-in-Ok
returns-in-Ok g c = tells-sent g.W.Write.contents c.send.result c.args.writer _ (answer_bytes c.args.answer) c.in-Ok.ensures c.send.ensures
