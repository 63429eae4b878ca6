-- An id says one thing, so one without a number, or whose subject is over, says no observer.
use Rattle.std.proofs.Common.{◌∙◌, sym, ap}
use Rattle.rx_http.specs.Words.{observer_id}
use Rattle.rx_http.specs.declared.id.Id.{Id}
use Rattle.rx_http.proofs.Single.{id-one}
use Rattle.rx_http.proofs.request.observer_id.ObserverId.read.Goals as goal

pub returns-in_default-place : goal.returns-in_default-place
returns-in_default-place c = λ observer is same.
    let read = c.in-Some.ensures in
    let one = id-one c.in-Some.id (observer_id observer) read.0 is (sym read.1 ∙ same) in
    let place = ap (λ (i : Id). i.place) one in
    cc

pub returns-then-over : goal.returns-then-over
returns-then-over c = λ observer is same.
    let read = c.in-Some.ensures in
    let one = id-one c.in-Some.id (observer_id observer) read.0 is (sym read.1 ∙ same) in
    let over = ap (λ (i : Id). i.over) one in
    cc
