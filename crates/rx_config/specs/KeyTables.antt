-- What a table of keys says of the members of a configuration's table: which names they may have, and which number, bound or
-- flag stands at a key of a form. That the tables of this crate say what a configuration says (`Configurations.antt`) is shown
-- where each key is read.
use Rattle.std.specs.Prelude.{◌≤◌, ℕ, Bool, true, false, ◌&&◌, nat_le, List, [], ◌∷◌, Option, None, Some, if◌then◌else◌, option_and_then, option_map}
use Rattle.rx_proto.specs.Reading.{same_word}
use Rattle.rx_config.specs.Configurations.{flag_or, natural_of}
use Rattle.rx_config.specs.declared.keys.form.Form.{Form}
use Rattle.rx_config.specs.declared.keys.form.Form.TheVariants.{Number, Bound, Flag}
use Rattle.rx_config.specs.declared.keys.key.Key.{Key}
use Rattle.rx_config.specs.declared.keys.section.Section.{Section}
use Rattle.toml.specs.Data.{Data, Members, no_members, as_integer}
use Rattle.toml.specs.View.{table_view}

-- THE MEMBERS

-- the members of a table, none of one that is missing
abbrev pub members_of : Option Members → Members
members_of None = no_members
members_of (Some members) = members

abbrev pub members_in : Section → Members
members_in section = members_of (option_map (λ table. table_view table.now) section.table)

-- NAMES

-- whether what only this kind has, if it is one's alone, goes with a table of a kind, if it is of one
abbrev pub is_kinds : Option (List ℕ) → Option (List ℕ) → Bool
is_kinds None kind = true
is_kinds (Some only) None = false
is_kinds (Some only) (Some kind) = same_word only kind

-- whether a table of a kind, if it is of one, has this key
abbrev pub goes_with : Option (List ℕ) → Key → Bool
goes_with kind key = is_kinds (option_map (λ only. only.now) key.kind) kind

-- whether it has this name for it
abbrev pub is_named : List ℕ → Option (List ℕ) → Key → Bool
is_named name kind key = same_word name key.name.now && goes_with kind key

-- the names of the keys that a table of a kind, if it is of one, has
abbrev pub names_of : Option (List ℕ) → List Key → List (List ℕ)
names_of kind [] = []
names_of kind (key ∷ keys) = if goes_with kind key then key.name.now ∷ names_of kind keys else names_of kind keys

-- NUMBERS

-- a number from `least` to `most`
abbrev pub within : ℕ → ℕ → ℕ → Option ℕ
within least most n = if nat_le least n && nat_le n most then Some n else None

abbrev pub number_within : ℕ → ℕ → Data → Option ℕ
number_within least most value = option_and_then (within least most) (option_and_then natural_of (as_integer value))

-- such a number, else the standard one
abbrev pub number_or_standard : ℕ → ℕ → ℕ → Option Data → Option ℕ
number_or_standard least most standard None = Some standard
number_or_standard least most standard (Some value) = number_within least most value

-- such a number, else no bound
abbrev pub number_or_none : ℕ → ℕ → Option Data → Option (Option ℕ)
number_or_none least most None = Some None
number_or_none least most (Some value) = option_map Some (number_within least most value)

-- WHAT A KEY OF A FORM SAYS

abbrev pub number_of : Form → Option Data → Option ℕ
number_of (Number least most standard) value = number_or_standard least most standard value
number_of _ value = None

abbrev pub bound_of : Form → Option Data → Option (Option ℕ)
bound_of (Bound least most) value = number_or_none least most value
bound_of _ value = None

abbrev pub flag_of : Form → Option Data → Option Bool
flag_of (Flag standard) value = flag_or standard value
flag_of _ value = None

-- whether the standard of a form, if it has one, is in its range
abbrev pub has_standard : Form → Bool
has_standard (Number least most standard) = nat_le least standard && nat_le standard most
has_standard _ = true

-- a number is in the range of a form
abbrev pub IsWithin : Form → ℕ → Type 0
IsWithin (Number least most standard) n = (least ≤ n) × (n ≤ most)
IsWithin (Bound least most) n = (least ≤ n) × (n ≤ most)
IsWithin _ n = ⊥
