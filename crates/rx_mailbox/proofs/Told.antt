-- Ports, whatever they hold back.
use Rattle.std.proofs.Common.{◌≡◌, ◌∙◌, sym, refl, ap, ℕ, ◌<◌, List, [], ◌∷◌, length, map, get_or, arith}
use Rattle.std.proofs.Math.ListN.{set}
use Rattle.std.proofs.Math.Seq.{map-set_same}
use Rattle.std.proofs.lemmas.List.{get_or-map, length-map, map-set}
use Rattle.std.proofs.lemmas.List.Elements.{All-tail}
use Rattle.std.specs.List.{All}
use Rattle.rx_mailbox.specs.Boxes.{Outgoing, told, all_told}
use Rattle.rx_mailbox.specs.PortRows.{IsFresh}
use Rattle.rx_mailbox.specs.PortRows.{with_bye}

module _ {X : Type 0} where
  -- there are as many
  pub told-length : (ports : List (Outgoing X)) → length (all_told ports) ≡ length ports
  told-length ports = length-map ports told

  pub told-count : (before after : List (Outgoing X)) → all_told after ≡ all_told before → length after ≡ length before
  told-count before after same = sym (told-length after) ∙ ap length same ∙ told-length before

  -- there is none
  pub told-nil : (ports : List (Outgoing X)) → all_told ports ≡ [] → ports ≡ []
  told-nil [] none = refl
  told-nil (port ∷ ports) none = cc

  -- one was written
  pub told-set : (ports : List (Outgoing X)) (place : ℕ) (after : Outgoing X) → all_told (set ports place after) ≡ set (all_told ports) place (told after)
  told-set ports place after = map-set told ports place after

  -- one was written of which the same is told
  pub told-set_same : (ports : List (Outgoing X)) (place : ℕ) (port after : Outgoing X)
      → port ≡ get_or ports place port → told after ≡ told port → all_told (set ports place after) ≡ all_told ports
  told-set_same ports place port after port_is same = map-set_same told ports place after port (same ∙ ap told port_is)

  -- the one at a place
  pub told-at : (ports : List (Outgoing X)) (place : ℕ) (port : Outgoing X) → place < length ports → port ≡ get_or ports place port → told port ≡ get_or (all_told ports) place (told port)
  told-at ports place port within port_is = ap told port_is ∙ sym (get_or-map told ports place port (told port) within)

  -- a port that put nothing holds nothing back
  fresh-told : (port : Outgoing X) → IsFresh port → told port ≡ port
  fresh-told port fresh = ap (λ (held : ℕ). record { box = port.box; number = port.number; own = port.own; held = held }) (sym fresh.1)

  pub told-fresh : (ports : List (Outgoing X)) → All IsFresh ports → all_told ports ≡ ports
  told-fresh [] fresh = refl
  told-fresh (port ∷ ports) fresh =
      let first : told port ≡ port = fresh-told port (fresh 0 port (omega arith)) in
      let rest : all_told ports ≡ ports = told-fresh ports (All-tail IsFresh port ports fresh) in cc

  -- a port ends behind all that it put
  pub told-byes : (ports : List (Outgoing X)) → map with_bye (all_told ports) ≡ map with_bye ports
  told-byes [] = refl
  told-byes (port ∷ ports) = ap (λ rest. with_bye port ∷ rest) (told-byes ports)
