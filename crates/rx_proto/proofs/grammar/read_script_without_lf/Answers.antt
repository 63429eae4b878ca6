use Rattle.std.proofs.Common.{Result, subst, sym}
use Rattle.rx_proto.specs.Reading.{Gives, meaning_of}
use Rattle.rx_proto.specs.declared.line_error.BadLine.{BadLine}
use Rattle.rx_proto.specs.declared.script_line.ScriptLine.{ScriptLine}
use Rattle.rx_proto.proofs.Exact.{script_read-pub}
use Rattle.rx_proto.proofs.grammar.read_script_without_lf.Goals as goal

pub returns-in-Some : goal.returns-in-Some
returns-in-Some c =
    let parts = rw c.as_slice.ensures at c.in-Some.ensures.cases in
    let reads = script_read-pub c.args.line.now c.in-Some.rest.now parts.0 parts.1 c.requires.within in
    subst (λ (read : Result ScriptLine BadLine). Gives meaning_of c.read_pub.result read) (sym reads) c.read_pub.ensures
