-- Streams that the standard tells of (its four examples, and the ends of lines that it allows), and how they are to be read.
--
-- The standard's reader: four examples of the standard and the ends of lines that it allows are read as it says.
use Rattle.std.specs.Prelude.{◌≡◌, ℕ, List, [], ◌∷◌, codes}
use Rattle.rx_http.specs.Reading.{Message, read, reader_with}

-- a stream is read as these messages
abbrev pub IsReadAs : List ℕ → List Message → Type 0
IsReadAs stream messages = (read stream (reader_with [])).messages ≡ messages

-- a message of the kind `message`
abbrev pub plain : List ℕ → List ℕ → Message
plain id text = record { id = id; kind = codes "message"; text = text }

-- four examples of the standard's own, and each end of a line
pub record AreReadAsTold : Type 0 where
  pub three_lines : IsReadAs (codes "data: YHOO\ndata: +2\ndata: 10\n\n") (plain [] (codes "YHOO\n+2\n10") ∷ [])
  pub not_finished : IsReadAs (codes ": test stream\n\ndata: first event\nid: 1\n\ndata:second event\nid\n\ndata:  third event\n")
      (plain (codes "1") (codes "first event") ∷ plain [] (codes "second event") ∷ [])
  pub no_value : IsReadAs (codes "data\n\ndata\ndata\n\ndata:\n") (plain [] [] ∷ plain [] (codes "\n") ∷ [])
  pub one_space : IsReadAs (codes "data:test\n\ndata: test\n\n") (plain [] (codes "test") ∷ plain [] (codes "test") ∷ [])
  pub ends_of_lines : IsReadAs (codes "data: a\r\ndata: b\rid: 1\n\r\ndata: c\r\r") (plain (codes "1") (codes "a\nb") ∷ plain (codes "1") (codes "c") ∷ [])
