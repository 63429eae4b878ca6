-- What is written to a stream, byte by byte: pieces, each a message or one that tells none.
--
-- The exact events: each event is written as exactly its bytes, or a prefix of them after a fault; so are a heartbeat and the
-- line that says when to come again. A text that is no UTF-8 goes in base64, under a kind of its own. No memory is taken.
use Rattle.std.specs.Prelude.{ℕ, List, [], ◌∷◌, ◌++◌, ◌==◌, if◌then◌else◌, Option, None, Some, codes, decimal}

-- what a message says: its id, if it tells one, its kind and its text
pub record Saying : Type 0 where
  pub id : Option (List ℕ)
  pub kind : List ℕ
  pub text : List ℕ

-- a byte of a text: no text has an LF, so its CR is told as the end of a line
abbrev pub text_byte : ℕ → List ℕ
text_byte byte = if byte == 13 then codes "\ndata: " else byte ∷ []

-- a text, behind its first `data: `
abbrev pub text_lines : List ℕ → List ℕ
text_lines [] = []
text_lines (byte ∷ text) = text_byte byte ++ text_lines text

-- the line of an id
abbrev pub id_line : Option (List ℕ) → List ℕ
id_line None = []
id_line (Some id) = codes "id: " ++ (id ++ codes "\n")

-- the line of a kind, and the beginning of that of the text
abbrev pub kind_line : List ℕ → List ℕ
kind_line kind = codes "event: " ++ (kind ++ codes "\ndata: ")

-- the bytes of a message
abbrev pub saying_bytes : Saying → List ℕ
saying_bytes saying = id_line saying.id ++ (kind_line saying.kind ++ (text_lines saying.text ++ codes "\n\n"))

-- the line that says after how many milliseconds a reader that was cut comes again
abbrev pub retry_line : ℕ → List ℕ
retry_line ms = codes "retry: " ++ (decimal ms ++ codes "\n")

-- a line that tells nothing, so that a connection on which nothing comes isn't taken for a dead one
abbrev pub heartbeat_line : List ℕ
heartbeat_line = codes ":\n"
