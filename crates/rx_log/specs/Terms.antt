-- How what is had of several nodes changes by one entry.
use Rattle.std.specs.Prelude.{◌≡◌, ◌≢◌, ℕ, ◌+◌, ◌<◌, ◌⊎◌, ◌==◌, Bool, if◌then◌else◌, List, [], ◌∷◌, ◌++◌, length, map, get_or, set, All, Any}
use Rattle.rx_log.specs.declared.holder.Holder.{Holder}
use Rattle.rx_log.specs.declared.term.Term.{Term}

-- what is had of a node of which a tenure stands at a place: the last one, and where it counts the current one
abbrev pub next_term : Holder → ℕ → Bool → Term → Term
next_term holder place does_count term =
    if does_count then record { holder = holder; last = place; current = place; number = 0 } else record term { last = place }

-- something is had of this node
abbrev pub IsHad : List Term → ℕ → Type 0
IsHad terms node = Any (λ (term : Term). term.holder.node ≡ node) terms

-- the same of several nodes, of which this is that of the holder
abbrev pub renewed : Holder → ℕ → Bool → Term → Term
renewed holder place does_count term = if term.holder.node == holder.node then next_term holder place does_count term else term

-- so many notes counted, if the node's current tenure stands at this place
abbrev pub with_number : ℕ → ℕ → Term → Term
with_number tenure number term = if term.current == tenure then record term { number = number } else term

-- a node has nothing yet
abbrev pub blank : Holder → Term
blank holder = record { holder = holder; last = 0; current = 0; number = 0 }

-- one more is had, at the end or in the place of one whose last tenure is far behind
abbrev pub TakesPlace : ℕ → ℕ → List Term → List Term → Term → Type 0
TakesPlace at span old new term = (new ≡ old ++ term ∷ [])
    ⊎ ((i : ℕ) × (i < length old) × ((d : Term) → (get_or old i d).last + span < at + 1) × (new ≡ set old i term))

-- a tenure stands behind so many entries: what is had of its node is renewed, or where nothing is, it takes a place
abbrev pub Stands : ℕ → ℕ → List Term → List Term → Holder → Bool → Type 0
Stands at span old new holder does_count =
    (IsHad old holder.node × (new ≡ map (renewed holder (at + 1) does_count) old))
    ⊎ (All (λ (term : Term). term.holder.node ≢ holder.node) old × TakesPlace at span old new (next_term holder (at + 1) does_count (blank holder)))
