-- What the reading of a line and the grammar say of each other, and what is printed of what was meant.
--
-- The exact grammar: what is read of a line is what it spells, what it spells is read of it, and it is refused as Long or as
-- Syntax exactly as stated, in a session and in a script; a parser lacks memory only for a text.
use Rattle.std.specs.Prelude.{◌≡◌, ◌<◌, ◌≤◌, ◌^◌, ◌↔◌, ℕ, List, length, Result, Ok, Err}
use Rattle.rx_note.specs.declared.note.Note.{Note}
use Rattle.rx_note.specs.declared.note.Note.TheVariants.{Next, Completed, Failed}
use Rattle.rx_proto.specs.Grammar.{IsLong}
use Rattle.rx_proto.specs.Printing.{reply_line, note_line}
use Rattle.rx_proto.specs.declared.line_error.BadLine.{BadLine}
use Rattle.rx_proto.specs.declared.line_error.BadLine.TheVariants.{Long, Syntax}
use Rattle.rx_proto.specs.declared.response.Response.{Response}
use Rattle.rx_proto.specs.declared.response.Response.TheVariants.{Done, Joined, Refused}
use Rattle.rx_proto.specs.declared.version.Version.TheVariants.{One, Two}

-- THE EXACT GRAMMAR: what is read of a line is spelled by it; what a line in its limit spells is read of it; a line is
-- refused as too long exactly where it is, and as no line exactly where it is not too long and spells nothing
pub record IsExact {M : Type 0} (read : List ℕ → Result M BadLine) (spells : M → List ℕ → Type 0) : Type 0 where
  pub sound : (line : List ℕ) (meaning : M) → read line ≡ Ok meaning → spells meaning line × (length line ≤ 1100)
  pub complete : (line : List ℕ) (meaning : M) → spells meaning line → length line ≤ 1100 → read line ≡ Ok meaning
  pub long : (line : List ℕ) → (read line ≡ Err Long) ↔ IsLong line
  pub other : (line : List ℕ) → (read line ≡ Err Syntax) ↔ ((IsLong line → ⊥) × ((meaning : M) → spells meaning line → ⊥))

-- a response whose number has 32 bits
abbrev pub IsResponse : Response → Type 0
IsResponse Done = Unit {0}
IsResponse (Joined who) = who < 2 ^ 32
IsResponse (Refused word) = Unit {0}

-- two responses written alike are equal
abbrev pub RepliesTell : Type 0
RepliesTell = (a b : Response) → IsResponse a → IsResponse b → reply_line a ≡ reply_line b → a ≡ b

-- two notes are equal but for the ports and the places of their items
abbrev pub AreAlike : Note → Note → Type 0
AreAlike (Next a) (Next b) = a.text ≡ b.text
AreAlike Completed Completed = Unit {0}
AreAlike (Failed a) (Failed b) = a ≡ b
AreAlike _ _ = ⊥

-- two notes written alike in the first version are equal but for the ports and the places of their items
abbrev pub NotesTell : Type 0
NotesTell = (a b : Note) → note_line One a ≡ note_line One b → AreAlike a b

-- a note whose numbers have 32 bits; an item has a seed's place only together with a seed's port
abbrev pub IsPlaced : Note → Type 0
IsPlaced (Next item) = (item.from < 2 ^ 32) × (item.place < 2 ^ 32) × (item.place ≡ 4294967295 → item.from ≡ 4294967295)
IsPlaced Completed = Unit {0}
IsPlaced (Failed text) = Unit {0}

-- two notes written alike in the second version are equal
abbrev pub PlacedNotesTell : Type 0
PlacedNotesTell = (a b : Note) → IsPlaced a → IsPlaced b → note_line Two a ≡ note_line Two b → a ≡ b
