-- How a program in C takes many notes by one call.
--
-- The first notes that wait are told of and taken, the most for which there are structs and bytes, with their texts one
-- behind the other.
use Rattle.std.specs.Prelude.{◌≡◌, ℕ, ◌+◌, ◌<◌, ◌≤◌, ◌⊎◌, List, ◌++◌, map, length, take, drop, Result, Ok}
use Rattle.std.specs.List.{flat_map}
use Rattle.rx_note.specs.declared.given.Given.{Given}
use Rattle.hazoxe_c.specs.Desks.{DeskView}
use Rattle.hazoxe_c.specs.Taking.{head_of, text_of}
use Rattle.hazoxe_c.specs.declared.taken.Taken.{Taken}
use Rattle.hazoxe_c.specs.declared.note_head.NoteHead.{NoteHead}
use Rattle.hazoxe_c.specs.declared.fault.Fault.{Fault}

-- the texts of notes, one behind the other
abbrev pub texts_of : List Given → List ℕ
texts_of notes = flat_map (λ given. text_of given.note) notes

-- bytes were written behind the first so many of a buffer, where it has room for them up to their end, and else nothing
pub record Appended (bytes : List ℕ) (used end : ℕ) (before after : List ℕ) : Type 0 where
  pub end_is : end ≡ used + length bytes
  pub front : end ≤ length before → take end after ≡ take used before ++ bytes
  pub kept : length before < end → after ≡ before

-- the first of some notes were told of, the heads in one list and the texts at the front of a buffer, as many as both have room
-- for, and how many they are
pub record Tells (notes : List Given) (taken : Taken) (heads_before heads_after : List NoteHead) (before after : List ℕ) : Type 0 where
  pub there : taken.notes ≤ length notes
  pub has_heads : taken.notes ≤ length heads_before
  pub has_bytes : taken.bytes ≤ length before
  pub bytes : taken.bytes ≡ length (texts_of (take taken.notes notes))
  pub heads : heads_after ≡ map head_of (take taken.notes notes) ++ drop taken.notes heads_before
  pub texts : take taken.bytes after ≡ texts_of (take taken.notes notes)
  pub most : taken.notes < length notes → (taken.notes ≡ length heads_before) ⊎ (length before < length (texts_of (take (taken.notes + 1) notes)))

-- the first notes of a desk were taken so
pub record TakesMany (taken : Taken) (heads_before heads_after : List NoteHead) (before after : List ℕ) (old new : DeskView) (result : Result Unit Fault) : Type 0 where
  pub told : Tells old.given taken heads_before heads_after before after
  pub left : new ≡ record { hub = old.hub; given = drop taken.notes old.given }
  pub came_to : result ≡ Ok tt
