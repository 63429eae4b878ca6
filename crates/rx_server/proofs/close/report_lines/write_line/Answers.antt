use Rattle.std.proofs.Common.{rules, ◌≡◌, ◌++◌, codes}
use Rattle.rx_config.specs.Listings.{number_words}
use Rattle.rx_proto.specs.Printing.{line}
use Rattle.rx_proto.proofs.Writes.{Writes-fault, Writes-then}
use Rattle.rx_server.proofs.close.report_lines.write_line.Goals as goal

pub returns-in_err-write_bytes : goal.returns-in_err-write_bytes
returns-in_err-write_bytes g c =
    let joins = number_words (codes " joins ") c.args.subject.now.joins in
    let refused = number_words (codes " refused ") c.args.subject.now.refused in
    Writes-fault c.from_residual.result _ _ c.args.name.now (joins ++ line refused) c.from_residual.ensures.0 (rw (← c.as_bytes.ensures.bytes) c.in_err-write_bytes.ensures)

pub returns-in_err-write_number : goal.returns-in_err-write_number
returns-in_err-write_number g c =
    let joins = number_words (codes " joins ") c.args.subject.now.joins in
    let refused = number_words (codes " refused ") c.args.subject.now.refused in
    let same : c.from.result ≡ c.args.subject.now.joins = search rules in
    let result = c.from_residual-in_err-write_number.result in
    let start = g.W.Write.contents c.args.writer.now in
    let named = g.W.Write.contents c.write_bytes.new.writer in
    let end = g.W.Write.contents c.write_number.new.writer in
    Writes-then result start named end c.args.name.now (joins ++ line refused) (rw (← c.as_bytes.ensures.bytes) c.in_ok-write_bytes.ensures)
    (Writes-fault result named end joins (line refused) c.from_residual-in_err-write_number.ensures.0 (rw (← same) c.in_err-write_number.ensures))

pub returns-in_err-write_number-2 : goal.returns-in_err-write_number-2
returns-in_err-write_number-2 g c =
    let joins = number_words (codes " joins ") c.args.subject.now.joins in
    let refused = number_words (codes " refused ") c.args.subject.now.refused in
    let same : c.from.result ≡ c.args.subject.now.joins = search rules in
    let result = c.from_residual-in_err-write_number-2.result in
    let start = g.W.Write.contents c.args.writer.now in
    let named = g.W.Write.contents c.write_bytes.new.writer in
    let told = g.W.Write.contents c.write_number.new.writer in
    let end = g.W.Write.contents c.write_number-2.new.writer in
    Writes-then result start named end c.args.name.now (joins ++ line refused) (rw (← c.as_bytes.ensures.bytes) c.in_ok-write_bytes.ensures)
    (Writes-then result named told end joins (line refused) (rw (← same) c.in_ok-write_number.ensures)
    (Writes-fault result told end refused (codes "\n") c.from_residual-in_err-write_number-2.ensures.0 c.in_err-write_number-2.ensures))

pub returns : goal.returns
returns g c =
    let joins = number_words (codes " joins ") c.args.subject.now.joins in
    let refused = number_words (codes " refused ") c.args.subject.now.refused in
    let same : c.from.result ≡ c.args.subject.now.joins = search rules in
    let result = c.write_bytes-2.result in
    let start = g.W.Write.contents c.args.writer.now in
    let named = g.W.Write.contents c.write_bytes.new.writer in
    let told = g.W.Write.contents c.write_number.new.writer in
    let both = g.W.Write.contents c.write_number-2.new.writer in
    let end = g.W.Write.contents c.write_bytes-2.new.writer in
    Writes-then result start named end c.args.name.now (joins ++ line refused) (rw (← c.as_bytes.ensures.bytes) c.in_ok-write_bytes.ensures)
    (Writes-then result named told end joins (line refused) (rw (← same) c.in_ok-write_number.ensures)
    (Writes-then result told both end refused (codes "\n") c.in_ok-write_number-2.ensures c.write_bytes-2.ensures))
