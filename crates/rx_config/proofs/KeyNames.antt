-- The names of keys, and those of the members of a table.
use Rattle.std.proofs.Common.{◌≡◌, ◌∙◌, ℕ, Bool, true, false, List, [], ◌∷◌, Option, refl, ap, ◌&&◌, ◌||◌, String, Global, if◌then◌else◌, string_bytes}
use Rattle.std.specs.List.{list_any}
use Rattle.std.specs.Map.{keys_of}
use Rattle.rx_proto.specs.Reading.{same_word}
use Rattle.rx_config.specs.Configurations.{has_only, is_among}
use Rattle.rx_config.specs.KeyTables.{goes_with, is_named, names_of}
use Rattle.rx_config.specs.declared.keys.key.Key.{Key}
use Rattle.toml.specs.View.{members_view}
use Rattle.toml.specs.declared.value.Value.{Value}

-- whether all keys of a map are among these
abbrev pub all_among : List (List ℕ) → List (String Global) → Bool
all_among known [] = true
all_among known (key ∷ keys) = is_among (string_bytes key) known && all_among known keys

pub members_among : (known : List (List ℕ)) (entries : List (String Global × Value)) → all_among known (keys_of entries) ≡ has_only known (members_view entries)
members_among known [] = refl
members_among known (entry ∷ entries) = ap (λ (rest : Bool). is_among (string_bytes entry.0) known && rest) (members_among known entries)

-- a name is that of this key, where a table of the kind has it, or that of one behind it
among-next : (name : List ℕ) (kind : Option (List ℕ)) (key : Key) (keys : List Key)
    → (is_named name kind key || is_among name (names_of kind keys)) ≡ is_among name (names_of kind (key ∷ keys))
among-next name kind key keys =
    elim (goes_with kind key) as (λ goes. ((same_word name key.name.now && goes) || is_among name (names_of kind keys)) ≡ is_among name (if goes then key.name.now ∷ names_of kind keys else names_of kind keys)) [
      | true ↦ elim (same_word name key.name.now) as (λ same. ((same && true) || is_among name (names_of kind keys)) ≡ (same || is_among name (names_of kind keys))) [ true ↦ refl | false ↦ refl ]
      | false ↦ elim (same_word name key.name.now) as (λ same. ((same && false) || is_among name (names_of kind keys)) ≡ is_among name (names_of kind keys)) [ true ↦ refl | false ↦ refl ]
    ]

-- one of the keys has this name exactly where it is among their names
pub any-named : (name : List ℕ) (kind : Option (List ℕ)) (keys : List Key) → list_any (λ key. is_named name kind key) keys ≡ is_among name (names_of kind keys)
any-named name kind [] = refl
any-named name kind (key ∷ keys) = ap (λ (rest : Bool). is_named name kind key || rest) (any-named name kind keys) ∙ among-next name kind key keys
