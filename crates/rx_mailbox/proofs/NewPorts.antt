-- The ports of a new box.
use Rattle.std.proofs.Common.{◌≡◌, ◌+◌, ℕ, List, [], ◌∷◌, ◌++◌, map, refl, sym, ap, ◌∙◌, arith}
use Rattle.std.specs.List.{All, range_with_len}
use Rattle.std.proofs.lemmas.List.Elements.{All-map}
use Rattle.std.proofs.lemmas.List.FromFn.{map-range_with_len_more}
use Rattle.rx_mailbox.specs.Boxes.{Box, Outgoing, outgoing}

module _ {B : Type 0} where
  -- one more new port, with the next number
  pub ports_more : (box next : Box B) (made : ℕ) (before after : List (Outgoing B)) (port : Outgoing B) → next ≡ box
      → before ≡ map (λ number. outgoing box number []) (range_with_len 0 made)
      → after ≡ before ++ port ∷ [] → port ≡ outgoing box made []
      → after ≡ map (λ number. outgoing next number []) (range_with_len 0 (made + 1))
  ports_more box next made before after port same before_is after_is port_is =
      after_is
      ∙ ap (λ l. l ++ port ∷ []) before_is
      ∙ ap (λ p. map (λ number. outgoing box number []) (range_with_len 0 made) ++ p ∷ []) port_is
      ∙ sym (map-range_with_len_more (λ number. outgoing box number []) 0 made made (omega arith))
      ∙ ap (λ b. map (λ number. outgoing b number []) (range_with_len 0 (made + 1))) (sym same)

  -- the same ports, where their box and their count have other names
  pub ports_of : (box next : Box B) (made count : ℕ) (ports : List (Outgoing B)) → next ≡ box → made ≡ count
      → ports ≡ map (λ number. outgoing box number []) (range_with_len 0 made)
      → ports ≡ map (λ number. outgoing next number []) (range_with_len 0 count)
  ports_of box next made count ports same all are =
      are
      ∙ ap (λ b. map (λ number. outgoing b number []) (range_with_len 0 made)) (sym same)
      ∙ ap (λ n. map (λ number. outgoing next number []) (range_with_len 0 n)) all

  -- new ports are of their box
  pub of_one_box : (box : Box B) (made first : ℕ) → All (λ (port : Outgoing B). port.box ≡ box) (map (λ number. outgoing box number []) (range_with_len first made))
  of_one_box box made first = All-map (λ (port : Outgoing B). port.box ≡ box) (λ number. outgoing box number []) (range_with_len first made) (λ k d within. refl)
