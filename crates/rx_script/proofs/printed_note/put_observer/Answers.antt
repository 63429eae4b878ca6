use Rattle.std.proofs.Common.{List, [], ◌∷◌, ◌++◌, ℕ, ap, ◌∙◌, codes}
use Rattle.std.specs.Fmt.{decimal}
use Rattle.rx_lines.proofs.Written.{Holds-pushed}
use Rattle.rx_script.proofs.Pushing.{Puts-refused, pushed-five}
use Rattle.rx_script.proofs.printed_note.put_observer.Goals as goal

pub returns-in_err-ready : goal.returns-in_err-ready
returns-in_err-ready g c = Puts-refused _ _ _ _ _ _ c.from_residual.ensures.0 c.in_err-ready.ensures.puts

pub returns : goal.returns
returns g c =
    let named = c.push-2.ensures ∙ ap (λ (name : List ℕ). c.push.new.self ++ name) c.as_bytes-name.ensures.bytes in
    Holds-pushed _ _ _ _ _ _ c.in_ok-ready.ensures.puts
    (pushed-five c.ready.new.self (codes "OBSERVER ") c.args.name.now (32 ∷ []) (decimal c.args.who) (10 ∷ []) _ _ _ _ _
    c.push.ensures named c.push-3.ensures c.push_decimal.ensures.digits c.push-4.ensures)
