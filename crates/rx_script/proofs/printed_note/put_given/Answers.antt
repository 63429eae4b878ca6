use Rattle.std.proofs.Common.{List, [], ◌∷◌, ◌++◌, ℕ, ap, ◌∙◌}
use Rattle.std.specs.Fmt.{decimal}
use Rattle.rx_proto.specs.Printing.{note_line}
use Rattle.rx_lines.proofs.Written.{Holds-pushed}
use Rattle.rx_script.proofs.Pushing.{Puts-refused, pushed-five}
use Rattle.rx_script.proofs.printed_note.put_given.Goals as goal

pub returns-in_err-ready : goal.returns-in_err-ready
returns-in_err-ready g c = Puts-refused _ _ _ _ _ _ c.from_residual.ensures.0 c.in_err-ready.ensures.puts

pub returns : goal.returns
returns g c =
    let named = c.push_padded.ensures ∙ ap (λ (name : List ℕ). c.ready.new.self ++ name) c.padded-len.ensures.bytes in
    Holds-pushed _ _ _ _ _ _ c.in_ok-ready.ensures.puts
    (pushed-five c.ready.new.self c.args.name.now (32 ∷ []) (decimal c.args.who) (32 ∷ []) (note_line c.args.version c.args.note.now) _ _ _ _ _
    named c.push.ensures c.push_decimal.ensures.digits c.push-2.ensures c.push_note.ensures)
