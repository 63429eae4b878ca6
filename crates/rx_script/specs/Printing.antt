-- The line that a script prints for a note, in a version. The rules are this project's own.
use Rattle.std.specs.Prelude.{ℕ, List, ◌∷◌, ◌++◌, decimal}
use Rattle.rx_note.specs.declared.note.Note.{Note}
use Rattle.rx_proto.specs.Printing.{note_line}
use Rattle.rx_proto.specs.declared.version.Version.{Version}

-- the line that a script prints for a note given to an observer of a subject
abbrev pub given_line : Version → List ℕ → ℕ → Note → List ℕ
given_line version name who note = name ++ (32 ∷ (decimal who ++ (32 ∷ note_line version note)))
