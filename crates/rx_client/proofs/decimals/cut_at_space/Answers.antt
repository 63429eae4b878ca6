use Rattle.std.proofs.Common.{◌+◌, ◌∙◌, ◌∷◌, ◌++◌, Ok, take, length, sym, ap, subst, arith}
use Rattle.std.proofs.lemmas.Bool.{eqb-true}
use Rattle.std.proofs.lemmas.List.{take_rest, take_all}
use Rattle.rx_proto.proofs.Cuts.{HasNoSpace, cut_read-here, cut_read-whole, no_space_before}
use Rattle.rx_client.proofs.Digits.{parted-here}
use Rattle.rx_client.proofs.decimals.cut_at_space.Goals as goal

pub returns-in-Some-clause-read : goal.returns-in-Some-clause-read
returns-in-Some-clause-read c =
    let bytes = c.args.bytes.now in
    let len = c.in-Some.len in
    let at = c.in-Some.ensures in
    let none = no_space_before bytes len (omega (arith, at.0.high)) (λ i less is. at.0.before i (omega arith) less is) in
    cut_read-here bytes len at.0.high none (eqb-true _ 32 at.1) ∙ ap (λ rest. Ok (take len bytes, rest)) (sym (take_rest bytes (len + 1)))

pub returns-in-Some-clause-parts : goal.returns-in-Some-clause-parts
returns-in-Some-clause-parts c =
    let bytes = c.args.bytes.now in
    let len = c.in-Some.len in
    let at = c.in-Some.ensures in
    ap (λ rest. take len bytes ++ 32 ∷ rest) (take_rest bytes (len + 1)) ∙ parted-here bytes len at.0.high (eqb-true _ 32 at.1)

pub returns-in-None-clause-read : goal.returns-in-None-clause-read
returns-in-None-clause-read c =
    let bytes = c.args.bytes.now in
    let none = no_space_before bytes (length bytes) (omega arith) (λ i less is. c.in-None.ensures i (omega arith) less is) in
    cut_read-whole bytes (subst HasNoSpace (take_all (length bytes) bytes (omega arith)) none)
