-- What was written, the line that is open and what is to come are the text.
use Rattle.std.proofs.Common.{◌+◌, ◌-◌, ◌++◌, codes, length, take, drop, sym, ap, ◌∙◌, append_assoc, arith}
use Rattle.std.proofs.KnownBytes.{Appends-trans}
use Rattle.rx_http.proofs.Lines.{to_come, to_come-line, to_come-byte, to_come-end}
use Rattle.rx_proto.proofs.Writes.{Writes-as, Writes-fault, Writes-then}
use Rattle.rx_http.proofs.stream_event.written_event.write_lines.Goals as goal
use Rattle.rx_http.proofs.stream_event.written_event.write_lines.Goals.{then-byte-eq13+in_ok-write_bytes+in_ok-write_bytes-2, else-byte-eq13}

pub returns-in_err-write_bytes : goal.returns-in_err-write_bytes
returns-in_err-write_bytes g c =
    let (done, told, from, parts) = c.loop-i.invariant in
    let i = c.loop-i.i in
    let start = c.loop-i.start in
    let text = c.args.text.now in
    let line = take (i - start) (drop start text) in
    let more = codes "\ndata: " ++ to_come text (i + 1) (i + 1) in
    let result = c.from_residual.result in
    let all = ap (λ l. done ++ l) (sym (to_come-line text start i c.loop-i-test.true c.if-byte-eq13.true)) ∙ parts in
    Writes-as result _ _ _ _ all
    (Writes-then result _ _ _ done (line ++ more) told
    (Writes-fault result _ _ line more c.from_residual.ensures.0 c.in_err-write_bytes.ensures))

pub returns-in_err-write_bytes-2 : goal.returns-in_err-write_bytes-2
returns-in_err-write_bytes-2 g c =
    let (done, told, from, parts) = c.loop-i.invariant in
    let i = c.loop-i.i in
    let start = c.loop-i.start in
    let text = c.args.text.now in
    let line = take (i - start) (drop start text) in
    let rest = to_come text (i + 1) (i + 1) in
    let result = c.from_residual-in_err-write_bytes-2.result in
    let all = ap (λ l. done ++ l) (sym (to_come-line text start i c.loop-i-test.true c.if-byte-eq13.true)) ∙ parts in
    Writes-as result _ _ _ _ all
    (Writes-then result _ _ _ done (line ++ (codes "\ndata: " ++ rest)) told
    (Writes-then result _ _ _ line (codes "\ndata: " ++ rest) c.in_ok-write_bytes.ensures
    (Writes-fault result _ _ (codes "\ndata: ") rest c.from_residual-in_err-write_bytes-2.ensures.0 c.in_err-write_bytes-2.ensures)))

pub loop-i-preserved : goal.loop-i-preserved
loop-i-preserved g c =
    let (done, told, from, parts) = c.loop-i.invariant in
    let i = c.loop-i.i in
    let start = c.loop-i.start in
    let text = c.args.text.now in
    let line = take (i - start) (drop start text) in
    let lf = codes "\ndata: " in
    elim c.if-byte-eq13.branch [
      | then-byte-eq13+in_ok-write_bytes+in_ok-write_bytes-2 w ↦ (
        done ++ (line ++ lf),
        rw w.writer-is (Appends-trans _ _ _ done (line ++ lf) told (Appends-trans _ _ _ line lf w.in_ok-write_bytes.ensures w.in_ok-write_bytes-2.ensures)),
        rw w.start-is (omega arith),
        rw w.start-is (
            append_assoc done (line ++ lf) (to_come text (i + 1) (i + 1))
            ∙ ap (λ l. done ++ l) (append_assoc line lf (to_come text (i + 1) (i + 1)) ∙ sym (to_come-line text start i c.loop-i-test.true w.if-byte-eq13.true))
            ∙ parts),
      )
      | else-byte-eq13 w ↦ (
        done,
        rw w.writer-is told,
        rw w.start-is (omega arith),
        rw w.start-is (ap (λ l. done ++ l) (sym (to_come-byte text start i from c.loop-i-test.true w.if-byte-eq13.false)) ∙ parts),
      )
    ]

pub returns : goal.returns
returns g c =
    let (done, told, from, parts) = c.loop-i.invariant in
    let i = c.loop-i.i in
    let start = c.loop-i.start in
    let text = c.args.text.now in
    let all = ap (λ l. done ++ l) (sym (to_come-end text start i c.loop-i-test.false)) ∙ parts in
    Writes-as c.write_bytes-2.result _ _ _ _ all (Writes-then c.write_bytes-2.result _ _ _ done (take (length text - start) (drop start text)) told c.write_bytes-2.ensures)
