-- A hyphen behind the place tells that the subject is over.
use Rattle.std.proofs.Common.{◌∙◌, sym}
use Rattle.rx_http.proofs.Told.{known-open, known-other, known-over}
use Rattle.rx_http.proofs.id.known_of.Goals as goal
use lib.Pointwise.{bytes_decides}

pub returns-in-Some : goal.returns-in-Some
returns-in-Some c =
    known-over c.in-Some.place.now c.in-Some.end.now c.args.bytes.now c.known_with.result c.in-Some.ensures
    ((bytes_decides _ _).0 (sym c.eq.ensures ∙ c.if-eq.true) ∙ c.as_slice.ensures) c.known_with.ensures

pub returns-in-Some-2 : goal.returns-in-Some-2
returns-in-Some-2 c = λ known fits same.
    known-other c.in-Some.place.now c.in-Some.end.now c.args.bytes.now c.in-Some.ensures
    (λ end. cc ((bytes_decides _ _).1 (end ∙ sym c.as_slice.ensures), c.eq.ensures, c.if-eq.false)) known.0 known.1 fits same

pub returns-in-None : goal.returns-in-None
returns-in-None c = known-open c.args.bytes.now c.known_with-in-None.result c.in-None.ensures c.known_with-in-None.ensures
