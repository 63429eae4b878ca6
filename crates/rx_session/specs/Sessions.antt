-- What a session does: it asks its desk the commands of its lines but HELLO and QUIT, in order, a SUB in the version then set,
-- and tells the line of each response to the writer that it holds. The rules are this project's own.
--
-- The session's bytes: the desk was asked exactly the commands of the lines read, but `HELLO`, in order, up to `QUIT`, a
-- `SUB` by which the writer is gone, or the end, and each `SUB` in the version that the last accepted `HELLO` before it set,
-- at first 1; a `HELLO` is answered without the desk; each response is told to the writer then held; the desk is handed a
-- writer only when it has all that was told to it; a refused line is answered without the desk, for want of memory only a
-- `PUB` or `FAIL` for a subject that the desk has; an end without a fault leaves all written, a fault of the writer a prefix;
-- the end is the one by which the reading of lines ended.
use Rattle.std.specs.Prelude.{◌≡◌, ◌⊎◌, ℕ, List, [], ◌∷◌, ◌++◌, Option, None, Some, Result, Ok, Err}
use Rattle.std.specs.Io.KnownBytes.{Consumes, Appends}
use Rattle.rx_note.specs.Choices.{Choice}
use Rattle.rx_note.specs.declared.note.Note.{Note}
use Rattle.rx_note.specs.declared.note.Note.TheVariants.{Next, Completed, Failed}
use Rattle.rx_proto.specs.Bytes.{AppendsPrefix}
use Rattle.rx_proto.specs.Printing.{reply_line, response_to_fault}
use Rattle.rx_proto.specs.Reading.{session_read}
use Rattle.rx_proto.specs.Versions.{response_to_hello, version_after}
use Rattle.rx_proto.specs.declared.command.Command.{Command}
use Rattle.rx_proto.specs.declared.command.Command.TheVariants.{Pub, End, Fail, Sub, Hello, Quit}
use Rattle.rx_proto.specs.declared.line_error.BadLine.{BadLine}
use Rattle.rx_proto.specs.declared.response.Response.{Response}
use Rattle.rx_proto.specs.declared.response.Response.TheVariants.{Done, Refused}
use Rattle.rx_proto.specs.declared.version.Version.{Version}
use Rattle.rx_proto.specs.declared.version.Version.TheVariants.{One}
use Rattle.rx_proto.specs.declared.word.Word.TheVariants as words
use Rattle.rx_lines.specs.Lines.{lines_of}
use Rattle.rx_lines.specs.Reads.{IsLeft}
use Rattle.rx_session.specs.declared.follow.Follow.{Follow}
use Rattle.rx_session.specs.declared.follow.Follow.TheVariants.{Taken, Back}
use Rattle.rx_lines.specs.declared.input_end.InputEnd.{InputEnd}
use Rattle.rx_lines.specs.declared.input_end.InputEnd.TheVariants as inputs
use Rattle.rx_session.specs.declared.session_end.SessionEnd.{SessionEnd}
use Rattle.rx_session.specs.declared.session_end.SessionEnd.TheVariants as ends

-- where a session stands: its desk, the writer as it came to be held, the version in which it asks for notes, and what was
-- told to the writer since
pub record Place (D W : Type 0) : Type 0 where
  pub desk : D
  pub writer : W
  pub version : Version
  pub told : List ℕ

-- how a session ended: its desk, and the writer that it held, if it still had one
pub record Outcome (D W : Type 0) : Type 0 where
  pub end : SessionEnd
  pub desk : D
  pub back : Option W

-- the end of a session whose input ended so
abbrev pub end_of : InputEnd → SessionEnd
end_of inputs.EndOfInput = ends.EndOfInput
end_of inputs.ReadFault = ends.ReadFault
end_of inputs.TooManyReads = ends.TooManyReads

module _ {D W : Type 0} where
  -- the place after a response, which is told
  abbrev pub answered : Place D W → D → Response → Place D W
  answered at desk response = record { desk = desk; writer = at.writer; version = at.version; told = at.told ++ reply_line response }

  -- the place after a HELLO, which the session answers
  abbrev pub greeted : Place D W → ℕ → Place D W
  greeted at number = record (answered at at.desk (response_to_hello number)) { version = version_after at.version number }

-- which subjects a desk has, what its calls do, and what a writer has
pub record Parties (D W : Type 0) : Type 1 where
  pub knows : D → List ℕ → Type 0
  pub emits : D → List ℕ → Note → Response → D → Type 0
  pub follows : D → List ℕ → Choice → Version → W → Follow W → D → Type 0
  pub contents : W → Option (List ℕ)

-- these four
abbrev pub parties : {D W : Type 0} → (D → List ℕ → Type 0) → (D → List ℕ → Note → Response → D → Type 0) → (D → List ℕ → Choice → Version → W → Follow W → D → Type 0) → (W → Option (List ℕ)) → Parties D W
parties knows emits follows contents = record { knows = knows; emits = emits; follows = follows; contents = contents }

module _ {D W : Type 0} (p : Parties D W) where
  -- the desk was asked to emit a note, and its response is told
  abbrev pub Emits : Place D W → List ℕ → Note → Place D W → Type 0
  Emits at name note after = (response : Response) × (desk : D) × p.emits at.desk name note response desk × (after ≡ answered at desk response)

  -- there is a subject of the name, but no memory for the text of a line, and the desk was not asked
  abbrev pub Lacks : Place D W → List ℕ → Place D W → Type 0
  Lacks at name after = p.knows at.desk name × (after ≡ answered at at.desk (Refused words.Memory))

  -- the writer has all that was told to it
  abbrev pub Caught : Place D W → W → Type 0
  Caught at writer = Appends (p.contents at.writer) (p.contents writer) at.told

  -- the desk was asked to follow in the version by a writer that had all that was told to it, and gave one back, to which its
  -- response is told
  abbrev pub ComesBack : Place D W → List ℕ → Choice → Place D W → Type 0
  ComesBack at name policy after =
      (writer : W) × (response : Response) × Caught at writer × p.follows at.desk name policy at.version writer (Back response after.writer) after.desk
      × (after.version ≡ at.version) × (after.told ≡ reply_line response)

  -- a line after which the session goes on
  abbrev pub Goes : Result Command BadLine → Place D W → Place D W → Type 0
  Goes (Ok (Pub name text)) at after = Emits at name (Next (record { from = 0; place = 0; text = text })) after ⊎ Lacks at name after
  Goes (Ok (End name)) at after = Emits at name Completed after
  Goes (Ok (Fail name text)) at after = Emits at name (Failed text) after ⊎ Lacks at name after
  Goes (Ok (Sub name policy)) at after = ComesBack at name policy after
  Goes (Ok (Hello number)) at after = after ≡ greeted at number
  Goes (Ok Quit) at after = ⊥
  Goes (Err fault) at after = after ≡ answered at at.desk (response_to_fault fault)

  -- the session ended so, and the writer has all that was told to it
  abbrev pub Closes : SessionEnd → Place D W → Outcome D W → Type 0
  Closes end at out = (writer : W) × Caught at writer × (out ≡ record { end = end; desk = at.desk; back = Some writer })

  -- the writer faulted, and has a front of what was told to it
  abbrev pub Faults : Place D W → Outcome D W → Type 0
  Faults at out =
      (writer : W) × AppendsPrefix (p.contents at.writer) (p.contents writer) at.told
      × (out ≡ record { end = ends.WriteFault; desk = at.desk; back = Some writer })

  -- the desk was asked to follow in the version by a writer that had all that was told to it, and gave none back
  abbrev pub HandsOver : Place D W → List ℕ → Choice → Outcome D W → Type 0
  HandsOver at name policy out =
      (writer : W) × (desk : D) × Caught at writer × p.follows at.desk name policy at.version writer Taken desk
      × (out ≡ record { end = ends.HandedOver; desk = desk; back = None })

  -- a line that ends the session
  abbrev pub Stops : Result Command BadLine → Place D W → Outcome D W → Type 0
  Stops (Ok (Pub name text)) at out = ⊥
  Stops (Ok (End name)) at out = ⊥
  Stops (Ok (Fail name text)) at out = ⊥
  Stops (Ok (Sub name policy)) at out = HandsOver at name policy out
  Stops (Ok (Hello number)) at out = ⊥
  Stops (Ok Quit) at out = Closes ends.Quit (answered at at.desk Done) out ⊎ Faults (answered at at.desk Done) out
  Stops (Err fault) at out = ⊥

  -- the input ended so behind the last line
  abbrev pub RunsOut : Option (List ℕ) → Option InputEnd → Place D W → Outcome D W → Type 0
  RunsOut left input at out = (end : InputEnd) × (input ≡ Some end) × IsLeft end left × Closes (end_of end) at out

  -- the session goes through the lines, from a place to its end; left is what the reader has at the end, input how the
  -- reading of lines ended, if it did
  abbrev pub Serves : Option (List ℕ) → Option InputEnd → Place D W → List (List ℕ) → Outcome D W → Type 0
  Serves left input at [] out = Faults at out ⊎ RunsOut left input at out
  Serves left input at (line ∷ lines) out =
      Faults at out ⊎ Stops (session_read line) at out ⊎ ((after : Place D W) × Goes (session_read line) at after × Serves left input after lines out)

  -- THE SESSION'S BYTES: the bytes that were read are some lines, and the session goes through these, from a place of the first
  -- version where nothing was told to the writer
  pub record Session (read_old read_new : Option (List ℕ)) (input : Option InputEnd) (desk : D) (writer : W) (out : Outcome D W) : Type 0 where
    pub read : List ℕ
    pub consumed : Consumes read_old read_new read
    pub served : Serves read_new input (record { desk = desk; writer = writer; version = One; told = [] }) (lines_of read) out
