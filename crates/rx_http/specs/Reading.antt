-- How a stream of events is read, as the standard has it (https://html.spec.whatwg.org/multipage/server-sent-events.html,
-- "Interpreting an event stream"), byte by byte: what parts it are the same bytes in UTF-8. Left out are the byte order mark
-- at its very beginning and what `retry` says, which change nothing of what is told.
use Rattle.std.specs.Prelude.{ℕ, List, [], ◌∷◌, ◌++◌, ◌==◌, Bool, true, false, if◌then◌else◌, codes}
use Rattle.std.specs.List.{list_any}
use Rattle.rx_proto.specs.Reading.{same_word}

-- a message that a reader dispatches: the last id that it was told, its kind and its text
pub record Message : Type 0 where
  pub id : List ℕ
  pub kind : List ℕ
  pub text : List ℕ

-- a reader: the line so far, and whether it stands behind a CR; what it was told of the next message, and of its text the
-- lines, each with an LF; the id by which it comes again; what it dispatched, the first one first
pub record Reader : Type 0 where
  pub line : List ℕ
  pub behind_cr : Bool
  pub id : List ℕ
  pub kind : List ℕ
  pub lines : List ℕ
  pub last_id : List ℕ
  pub messages : List Message

-- a reader that comes with this id
abbrev pub reader_with : List ℕ → Reader
reader_with last_id = record { line = []; behind_cr = false; id = []; kind = []; lines = []; last_id = last_id; messages = [] }

-- the name of a field: what stands before the first colon, or the whole line; none in a comment, which begins with one
abbrev pub name_of : List ℕ → List ℕ
name_of [] = []
name_of (byte ∷ line) = if byte == 58 then [] else byte ∷ name_of line

-- without one space in front
abbrev pub without_space : List ℕ → List ℕ
without_space [] = []
without_space (byte ∷ value) = if byte == 32 then value else byte ∷ value

-- the value of a field: what stands behind its colon and one space
abbrev pub value_of : List ℕ → List ℕ
value_of [] = []
value_of (byte ∷ line) = if byte == 58 then without_space line else value_of line

-- whether a NUL stands among the bytes
abbrev pub has_nul : List ℕ → Bool
has_nul bytes = list_any (λ byte. byte == 0) bytes

-- what a field tells: others tell nothing, and nor does an id with a NUL
abbrev pub field_read : List ℕ → List ℕ → Reader → Reader
field_read name value r =
    if same_word name (codes "data") then record r { lines = r.lines ++ (value ++ 10 ∷ []) }
    else if same_word name (codes "event") then record r { kind = value }
    else if same_word name (codes "id") then (if has_nul value then r else record r { id = value })
    else r

-- the kind of a message: where none was told, it is `message`
abbrev pub kind_of : List ℕ → List ℕ
kind_of [] = codes "message"
kind_of (byte ∷ kind) = byte ∷ kind

-- without the last byte
abbrev pub without_last : List ℕ → List ℕ
without_last [] = []
without_last (byte ∷ []) = []
without_last (byte ∷ next ∷ bytes) = byte ∷ without_last (next ∷ bytes)

-- an empty line dispatches a message, if a line of text was told; its last LF is left out
abbrev pub dispatched : List ℕ → Reader → Reader
dispatched [] r = record r { last_id = r.id; kind = [] }
dispatched (byte ∷ lines) r =
    record r { last_id = r.id; kind = []; lines = []; messages = r.messages ++ record { id = r.id; kind = kind_of r.kind; text = without_last (byte ∷ lines) } ∷ [] }

-- a line that is whole
abbrev pub line_read : List ℕ → Reader → Reader
line_read [] r = dispatched r.lines r
line_read (byte ∷ line) r = field_read (name_of (byte ∷ line)) (value_of (byte ∷ line)) (record r { line = [] })

-- one byte more: a line ends by LF, by CR or by both together
abbrev pub byte_read : ℕ → Reader → Reader
byte_read byte r =
    if byte == 10 then (if r.behind_cr then record r { behind_cr = false } else line_read r.line r)
    else if byte == 13 then record (line_read r.line (record r { behind_cr = false })) { behind_cr = true }
    else record r { line = r.line ++ byte ∷ []; behind_cr = false }

-- some bytes more; where the stream ends in a message, that is never dispatched
abbrev pub read : List ℕ → Reader → Reader
read [] r = r
read (byte ∷ bytes) r = read bytes (byte_read byte r)
