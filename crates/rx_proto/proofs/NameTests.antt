-- Names and the test of them.
use Rattle.std.proofs.Common.{◌≡◌, ℕ, ◌≤◌, Bool, true, false, List, [], ◌∷◌, length, Ok, Err, refl, ◌&&◌, nat_le, if◌then◌else◌, arith}
use Rattle.std.proofs.lemmas.Bool.Decides.{nat_tests, Decides-and}
use Rattle.std.specs.Bool.{Decides}
use Rattle.std.specs.List.{list_all, AllByRecursion}
use Rattle.rx_proto.specs.Names.{IsName, IsNameByte}
use Rattle.rx_proto.specs.Reading.{is_name_byte, name_read}
use Rattle.rx_proto.specs.declared.line_error.BadLine.TheVariants.{Syntax}

is_name_byte-decides : (byte : ℕ) → Decides (is_name_byte byte) (IsNameByte byte)
is_name_byte-decides byte = (λ yes. grind (arith, nat_tests), λ yes. grind (arith, nat_tests))

-- a test of each byte decides what it says of all
pub list_all-decides : (test : ℕ → Bool) (P : ℕ → Type 0) → ((byte : ℕ) → Decides (test byte) (P byte)) → (bytes : List ℕ) → Decides (list_all test bytes) (AllByRecursion P bytes)
list_all-decides test P each [] = (λ _. tt, λ _. refl)
list_all-decides test P each (byte ∷ bytes) = Decides-and (test byte) (list_all test bytes) (each byte) (list_all-decides test P each bytes)

-- whether bytes are a name, as the reading tests it
abbrev pub is_name : List ℕ → Bool
is_name bytes = nat_le 1 (length bytes) && nat_le (length bytes) 32 && list_all is_name_byte bytes

pub is_name-decides : (bytes : List ℕ) → Decides (is_name bytes) (IsName bytes)
is_name-decides bytes =
    let each = list_all-decides is_name_byte IsNameByte is_name_byte-decides bytes in
    let sizes : Decides (nat_le 1 (length bytes) && nat_le (length bytes) 32) ((1 ≤ length bytes) × (length bytes ≤ 32)) =
    (λ yes. grind (arith, nat_tests), λ yes. grind (arith, nat_tests)) in
    let all = Decides-and _ _ sizes each in (
      λ yes. record { some = (all.0 yes).0.0; few = (all.0 yes).0.1; each = (all.0 yes).1 },
      λ name. all.1 ((name.some, name.few), name.each),
    )

-- a name is read as itself
pub name_read-name : (bytes : List ℕ) → IsName bytes → name_read bytes ≡ Ok bytes
unfolding name_read
name_read-name bytes name = rw ((is_name-decides bytes).1 name) refl

-- what is no name is not read
pub name_read-other : (bytes : List ℕ) → (IsName bytes → ⊥) → name_read bytes ≡ Err Syntax
unfolding name_read
name_read-other bytes never = elim (is_name bytes) as (λ test. is_name bytes ≡ test → (if test then Ok bytes else Err Syntax) ≡ Err Syntax) [
  | true ↦ λ yes. absurd (never ((is_name-decides bytes).0 yes))
  | false ↦ λ _. refl
] refl
