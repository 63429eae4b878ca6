-- One place more fits too.
use Rattle.std.proofs.Common.{◌<◌, ◌^◌, ℕ, zero, suc, List, [], ◌∷◌, length, length-take, take, add-one, ap, arith}
use Rattle.std.specs.List.{AllByRecursion}
use lib.ListN.{set}
use Rattle.rx_http.proofs.answer.places.Places.push.Goals as goal

more-fit : (n : ℕ) (xs : List ℕ) (place : ℕ) → n < length xs → place < 2 ^ 32 → AllByRecursion (λ p. p < 2 ^ 32) (take n xs) → AllByRecursion (λ p. p < 2 ^ 32) (take (suc n) (set xs n place))
more-fit zero [] place within fits each = absurd (omega (arith, within))
more-fit zero (x ∷ xs) place within fits each = (fits, tt)
more-fit (suc n) [] place within fits each = absurd (omega (arith, within))
more-fit (suc n) (x ∷ xs) place within fits each = (each.0, more-fit n xs place (omega arith) fits each.1)

pub invariant_of-self : goal.invariant_of-self
invariant_of-self c =
    let count = c.self.inside.count in
    let places = c.self.inside.places in
    let room : count < length places = omega (arith, ap length c.self.view_is, length-take count places, c.self.told, c.self.invariant.0, c.requires) in
    (omega (arith, room, c.self.told), rw add-one (more-fit count places c.args.place room (omega arith) c.self.invariant.1))
