use Rattle.std.proofs.Common.{rules, ◌≡◌, ◌∙◌, ◌+◌, ◌++◌, length, sym, ap, subst, List, ℕ}
use Rattle.std.proofs.KnownBytes.{Appends-trans}
use Rattle.std.proofs.lemmas.List.{length_push}
use Rattle.std.proofs.lemmas.Slice.Zip.{zip_end, zip_turn}
use Rattle.std.specs.Io.KnownBytes.{Appends}
use Rattle.rx_proto.specs.Bytes.{Writes}
use Rattle.rx_server.specs.ReportLines.{report_line}
use Rattle.rx_server.proofs.ReportLines.{first_lines, lines-all, lines-next, lines-split}
use Rattle.rx_proto.proofs.Writes.{Writes-fault, Writes-then}
use Rattle.rx_server.proofs.close.report_lines.write_report_lines.Goals as goal

pub loop-name-preserved : goal.loop-name-preserved
loop-name-preserved g c =
    let names = c.args.names.now in
    let subjects = c.args.subjects.now in
    let count = length c.loop-name.yielded in
    let turn = zip_turn names subjects c.loop-name.yielded c.into_iter-name-iterator.result c.loop-name.name-iterator c.next.new.self c.next.result (search rules) (search rules) c.loop-name.yielded_by (c.in-Some.name, c.in-Some.subject) c.in-Some.is c.next.ensures.steps in
    let line = report_line (c.in-Some.name.now, c.in-Some.subject.now) in
    let more = ap (λ k. first_lines k names subjects) (length_push c.loop-name.yielded (c.in-Some.name, c.in-Some.subject))
    ∙ lines-next names subjects count c.in-Some.name.now c.in-Some.subject.now turn.0 turn.1 (turn.2 _) (turn.3 _) in
    subst (λ (bytes : List ℕ). Appends (g.W.Write.contents c.args.writer.now) (g.W.Write.contents c.write_line.new.writer) bytes) (sym more)
    (Appends-trans _ _ _ (first_lines count names subjects) line c.loop-name.invariant c.in_ok-write_line.ensures)

pub returns-in_err-write_line : goal.returns-in_err-write_line
returns-in_err-write_line g c =
    let names = c.args.names.now in
    let subjects = c.args.subjects.now in
    let count = length c.loop-name.yielded in
    let turn = zip_turn names subjects c.loop-name.yielded c.into_iter-name-iterator.result c.loop-name.name-iterator c.next.new.self c.next.result (search rules) (search rules) c.loop-name.yielded_by (c.in-Some.name, c.in-Some.subject) c.in-Some.is c.next.ensures.steps in
    let line = report_line (c.in-Some.name.now, c.in-Some.subject.now) in
    let split = lines-split names subjects count c.in-Some.name.now c.in-Some.subject.now turn.0 turn.1 (turn.2 _) (turn.3 _) in
    let result = c.from_residual.result in
    subst (λ (bytes : List ℕ). Writes result (g.W.Write.contents c.args.writer.now) (g.W.Write.contents c.write_line.new.writer) bytes) (sym split.1)
    (Writes-then result _ _ _ (first_lines count names subjects) (line ++ split.0) c.loop-name.invariant (Writes-fault result _ _ line split.0 c.from_residual.ensures.0 c.in_err-write_line.ensures))

pub returns : goal.returns
returns g c =
    let names = c.args.names.now in
    let subjects = c.args.subjects.now in
    let count = length c.loop-name.yielded in
    let end = zip_end names subjects c.loop-name.yielded c.into_iter-name-iterator.result c.loop-name.name-iterator c.next.new.self c.next.result (search rules) (search rules) c.loop-name.yielded_by c.in-None.is c.next.ensures.steps in
    subst (λ (bytes : List ℕ). Appends (g.W.Write.contents c.args.writer.now) (g.W.Write.contents c.loop-name.writer) bytes) (lines-all names subjects count end) c.loop-name.invariant
