-- Parts of a configuration: names, and the subjects that were read.
use Rattle.std.proofs.Common.{◌≡◌, ◌<◌, ◌≤◌, ◌+◌, ◌++◌, ℕ, suc, arith, true, false, List, [], ◌∷◌, get_or, drop, Option, Some, None, Ok, Err, refl, ap, length, if◌then◌else◌}
use Rattle.std.proofs.lemmas.Bool.Decides.{nat_tests}
use Rattle.std.specs.Prelude.{SomeIff}
use Rattle.rx_proto.proofs.NameTests.{is_name, is_name-decides}
use Rattle.rx_proto.specs.Names.{IsName}
use Rattle.rx_config.specs.Configurations.{Subject, count_of, entries_read, name_in, next_subject, subjects_from}
use Rattle.rx_config.specs.declared.config_error.ConfigError.{ConfigError}
use Rattle.rx_config.specs.declared.config_error.ConfigError.TheVariants.{TooManySubjects}
use Rattle.toml.proofs.Views.{items_view-drop}
use Rattle.toml.specs.View.{items_view, view}
use Rattle.toml.specs.declared.value.Value.{Value}

-- a name is what passes its test
pub name_in-exact : (r : Option (List ℕ)) (bytes : List ℕ) → SomeIff r (IsName bytes) bytes → r ≡ name_in bytes
name_in-exact (Some name) bytes found = rw ((is_name-decides bytes).1 found.0) (ap Some found.1)
name_in-exact None bytes never = elim (is_name bytes) as (λ test. is_name bytes ≡ test → None ≡ (if test then Some bytes else None)) [
  | true ↦ λ yes. absurd (never ((is_name-decides bytes).0 yes))
  | false ↦ λ _. refl
] refl

-- an entry that is refused ends the reading of the entries
pub subjects_from-refused : (before : List Subject) (values : List Value) (i : ℕ) (d : Value) (cause : ConfigError) → i < length values
    → next_subject before (view (get_or values i d)) ≡ Err cause → subjects_from before (items_view (drop i values)) ≡ Err cause
subjects_from-refused before values i d cause lt refused = rw (items_view-drop values i d lt, refused) refl

-- one that is read goes before those that follow
pub subjects_from-read : (before : List Subject) (values : List Value) (i : ℕ) (d : Value) (subject : Subject) → i < length values
    → next_subject before (view (get_or values i d)) ≡ Ok subject → subjects_from before (items_view (drop i values)) ≡ subjects_from (before ++ subject ∷ []) (items_view (drop (i + 1) values))
subjects_from-read before values i d subject lt read = rw (items_view-drop values i d lt, read) refl

count_of-view : (values : List Value) → count_of (items_view values) ≡ length values
count_of-view [] = refl
count_of-view (value ∷ values) = ap suc (count_of-view values)

-- more than 16 entries are refused
pub entries_read-many : (values : List Value) → 16 < length values → entries_read (items_view values) ≡ Err TooManySubjects
entries_read-many [] many = absurd (omega arith)
entries_read-many (value ∷ values) many = rw (count_of-view values) grind (arith, nat_tests)

-- 1 to 16 are read one by one
pub entries_read-few : (values : List Value) → 0 < length values → length values ≤ 16 → entries_read (items_view values) ≡ subjects_from [] (items_view values)
entries_read-few [] some few = absurd (omega arith)
entries_read-few (value ∷ values) some few = rw (count_of-view values) grind (arith, nat_tests)
