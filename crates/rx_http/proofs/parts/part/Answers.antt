-- The first mark parts the bytes.
use Rattle.std.proofs.Common.{◌+◌, ◌∷◌, ◌++◌, ◌∙◌, take, length, sym, ap, subst, arith}
use Rattle.std.proofs.lemmas.Bool.{eqb-true}
use Rattle.std.proofs.lemmas.List.{take_rest, take_all}
use Rattle.rx_http.specs.Queries.{HasNo}
use Rattle.rx_http.proofs.Cuts.{none_before, parted-here}
use Rattle.rx_http.proofs.parts.part.Goals as goal

pub returns-in-Some : goal.returns-in-Some
returns-in-Some c =
    let bytes = c.args.bytes.now in
    let mark = c.args.mark in
    let len = c.in-Some.len in
    let at = c.in-Some.ensures in record {
      none = none_before mark bytes len (omega (arith, at.0.high)) (λ i less is. at.0.before i (omega arith) less is);
      parts = parted-here mark bytes len at.0.high (eqb-true _ mark at.1) ∙ ap (λ rest. take len bytes ++ (mark ∷ rest)) (sym (take_rest bytes (len + 1)));
    }

pub returns-in-None : goal.returns-in-None
returns-in-None c =
    let bytes = c.args.bytes.now in
    let mark = c.args.mark in
    let none = none_before mark bytes (length bytes) (omega arith) (λ i less is. c.in-None.ensures i (omega arith) less is) in
    subst (HasNo mark) (take_all (length bytes) bytes (omega arith)) none
