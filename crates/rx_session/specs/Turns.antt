-- What one turn of a session does.
use Rattle.std.specs.Prelude.{◌≡◌, ◌⊎◌, ℕ, List, ◌++◌, Option, Some, Result, Ok, Err}
use Rattle.std.specs.Io.KnownBytes.{Appends}
use Rattle.rx_note.specs.declared.note.Note.{Note}
use Rattle.rx_proto.specs.Bytes.{AppendsPrefix}
use Rattle.rx_proto.specs.Printing.{reply_line}
use Rattle.rx_proto.specs.Reading.{in_session, meaning_of, session_read}
use Rattle.rx_proto.specs.declared.command.Command.{Command}
use Rattle.rx_proto.specs.declared.line.Line.{Line}
use Rattle.rx_proto.specs.declared.line_error.BadLine.{BadLine}
use Rattle.rx_proto.specs.declared.response.Response.TheVariants.{Done, Refused}
use Rattle.rx_proto.specs.declared.version.Version.{Version}
use Rattle.rx_proto.specs.declared.word.Word.{Word}
use Rattle.rx_proto.specs.declared.word.Word.TheVariants as words
use Rattle.rx_lines.specs.Bytes.{Holds}
use Rattle.rx_lines.specs.Lines.{TakesLine, TakesNoLine}
use Rattle.rx_session.specs.Sessions.{Parties, Place, Outcome, Goes, Faults, Stops, end_of}
use Rattle.rx_lines.specs.Reads.{IsLeft}
use Rattle.rx_lines.specs.Steps.{unread, GoesOn}
use Rattle.rx_lines.specs.declared.input_end.InputEnd.{InputEnd}
use Rattle.rx_lines.specs.declared.line_state.LineState.{LineState}
use Rattle.rx_session.specs.declared.session_end.SessionEnd.TheVariants as ends
use Rattle.rx_session.specs.declared.whole_session.Turned.{Turned}
use Rattle.rx_session.specs.declared.whole_session.Turned.TheVariants.{On, Over}

-- what is asked of a session by a line that was read so
abbrev pub asked_by : Result Line BadLine → Result Command BadLine
asked_by (Ok line) = in_session (meaning_of line)
asked_by (Err fault) = Err fault

-- what a session has in hand: its desk, its writer, its version, and what is held for the writer
pub record Hands (D W : Type 0) : Type 0 where
  pub desk : D
  pub writer : W
  pub version : Version
  pub held : List ℕ

-- these four
abbrev pub hands : {D W : Type 0} → D → W → Version → List ℕ → Hands D W
hands desk writer version held = record { desk = desk; writer = writer; version = version; held = held }

-- what telling some bytes to a writer did: they are held or written, or the writer faulted
abbrev pub Tells : {W : Type 0} → (W → Option (List ℕ)) → Turned W → W → List ℕ → List ℕ → List ℕ → Type 0
Tells contents (On after) writer held held_after bytes = Holds held held_after (contents writer) (contents after) bytes
Tells {W = W} contents (Over end back) writer held held_after bytes =
    (after : W) × (end ≡ ends.WriteFault) × (back ≡ Some after) × AppendsPrefix (contents writer) (contents after) (held ++ bytes)

-- what quitting did: all is written with the last response behind it, or the writer faulted
abbrev pub Quits : {W : Type 0} → (W → Option (List ℕ)) → Turned W → W → List ℕ → Type 0
Quits contents (On after) writer held = ⊥
Quits {W = W} contents (Over end back) writer held =
    (after : W) × (back ≡ Some after)
    × (((end ≡ ends.Quit) × Appends (contents writer) (contents after) (held ++ reply_line Done))
    ⊎ ((end ≡ ends.WriteFault) × AppendsPrefix (contents writer) (contents after) (held ++ reply_line Done)))

module _ {D W : Type 0} (p : Parties D W) where
  -- the session stands at a place: desk and version are the same, and the writer has what was told to it but for what is held
  pub record IsAt (at : Place D W) (now : Hands D W) : Type 0 where
    pub desk_is : at.desk ≡ now.desk
    pub version_is : at.version ≡ now.version
    pub written : List ℕ
    pub since : Appends (p.contents at.writer) (p.contents now.writer) written
    pub parts : written ++ now.held ≡ at.told

  -- there is no text for the subject of this name: there is no such subject, and so each note for it is refused, or no memory
  abbrev pub HasNoText : D → List ℕ → Word → Type 0
  HasNoText desk name word =
      ((word ≡ words.Subject) × ((note : Note) → p.emits desk name note (Refused words.Subject) desk)) ⊎ ((word ≡ words.Memory) × p.knows desk name)

  -- the session came to a place of which something is said, and stands there or met a fault of the writer
  abbrev pub Comes : (Place D W → Type 0) → Turned W → D → Version → List ℕ → Type 0
  Comes says (On writer) desk version held = (after : Place D W) × says after × IsAt after (hands desk writer version held)
  Comes says (Over end back) desk version held = (after : Place D W) × says after × Faults p after (record { end = end; desk = desk; back = back })

  -- the session ended by a line that was read so, or by a fault of the writer before or behind it
  abbrev pub Ends : Result Command BadLine → Place D W → Outcome D W → Type 0
  Ends reading at out = Faults p at out ⊎ Stops p reading at out ⊎ ((after : Place D W) × Goes p reading at after × Faults p after out)

  -- what carrying out a line did that was read so
  abbrev pub Carries : Result Command BadLine → Place D W → Turned W → D → Version → List ℕ → Type 0
  Carries reading at (On writer) desk version held = (after : Place D W) × Goes p reading at after × IsAt after (hands desk writer version held)
  Carries reading at (Over end back) desk version held = Ends reading at (record { end = end; desk = desk; back = back })

  -- the next line was taken and carried out, from wherever the session stood
  pub record TakesTurn (result : Turned W) (before after : Hands D W) (read_old read_new : Option (List ℕ)) (lines lines_after : LineState) : Type 0 where
    pub takes : TakesLine read_old read_new (unread lines) (unread lines_after)
        (λ line. (at : Place D W) → IsAt at before → Carries (session_read line) at result after.desk after.version after.held)
    pub goes_on : GoesOn lines lines_after

  -- there was no line any more
  pub record EndsTurn (result : Turned W) (before after : Hands D W) (read_old read_new : Option (List ℕ)) (lines lines_after : LineState) : Type 0 where
    pub none : TakesNoLine read_old read_new (unread lines)
    pub end : InputEnd
    pub input : lines_after.end ≡ Some end
    pub left : IsLeft end read_new
    pub over : result ≡ Over (end_of end) (Some before.writer)
    pub desk_is : after.desk ≡ before.desk

  -- what a turn did
  abbrev pub Turns : Turned W → Hands D W → Hands D W → Option (List ℕ) → Option (List ℕ) → LineState → LineState → Type 0
  Turns result before after read_old read_new lines lines_after =
      TakesTurn result before after read_old read_new lines lines_after ⊎ EndsTurn result before after read_old read_new lines lines_after
