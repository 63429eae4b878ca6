-- Nothing that is told is long.
use Rattle.std.proofs.Common.{◌≤◌, ◌++◌, ◌∷◌, ℕ, List, Bool, true, false, Option, None, Some, length, length-append, sym, subst, arith}
use Rattle.rx_http.specs.Ids.{id_of, over_word, place_digits}
use Rattle.rx_http.specs.Laws.{IsPlace}
use Rattle.rx_http.specs.Words.{IsId, SaysKnown}
use Rattle.rx_http.specs.declared.id.Id.{Id}
use Rattle.rx_http.proofs.Spelled.{number-short}
use Rattle.rx_http.proofs.request.known_in.Goals as goal

over-short : (over : Bool) → length (over_word over) ≤ 5
over-short true = omega arith
over-short false = omega arith

place-short : (place : Option ℕ) → IsPlace place → length (place_digits place) ≤ 10
place-short None fits = omega arith
place-short (Some place) fits = number-short place fits

id-short : (id : Id) → IsId id → length (id_of id) ≤ 64
id-short id is =
    let behind = length-append (place_digits id.place) (over_word id.over) in
    let whole = length-append id.epoch (45 ∷ (place_digits id.place ++ over_word id.over)) in
    let few = is.0.few in
    omega (arith, behind, whole, few, place-short id.place is.1, over-short id.over)

said-short : (word : List ℕ) (known : Option Id) → SaysKnown word known → length word ≤ 64
said-short word None said = subst (λ (l : List ℕ). length l ≤ 64) (sym said) (omega arith)
said-short word (Some id) said = subst (λ (l : List ℕ). length l ≤ 64) (sym said.1) (id-short id said.0)

pub returns-in-None : goal.returns-in-None
returns-in-None c = λ known said. c.in-None.ensures (said-short _ known (rw c.in_default.is at said))
