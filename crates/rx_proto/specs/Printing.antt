-- What is printed, byte by byte.
--
-- The exact printing: a response and a note, in either version, are written as exactly their line, or a prefix of it after a
-- fault; two responses written alike are equal; two notes written alike are equal but for port and place in version 1, and
-- equal in version 2, where an item has the place of a seed only together with its port.
use Rattle.std.specs.Prelude.{ℕ, List, [], ◌∷◌, ◌++◌, ◌==◌, if◌then◌else◌, codes, decimal}
use Rattle.rx_note.specs.declared.item.Item.{Item}
use Rattle.rx_note.specs.declared.note.Note.{Note}
use Rattle.rx_note.specs.declared.note.Note.TheVariants.{Next, Completed, Failed}
use Rattle.rx_proto.specs.declared.line_error.BadLine.{BadLine}
use Rattle.rx_proto.specs.declared.line_error.BadLine.TheVariants.{Long, Syntax}
use Rattle.rx_proto.specs.declared.line_error.LineError.{LineError}
use Rattle.rx_proto.specs.declared.line_error.LineError.TheVariants as errors
use Rattle.rx_proto.specs.declared.response.Response.{Response}
use Rattle.rx_proto.specs.declared.response.Response.TheVariants.{Done, Joined, Refused}
use Rattle.rx_proto.specs.declared.version.Version.{Version}
use Rattle.rx_proto.specs.declared.version.Version.TheVariants.{One, Two}
use Rattle.rx_proto.specs.declared.word.Word.{Word}
use Rattle.rx_proto.specs.declared.word.Word.TheVariants as words

-- the letters of a word
abbrev pub letters_of : Word → List ℕ
letters_of words.Long = codes "LONG"
letters_of words.Syntax = codes "SYNTAX"
letters_of words.Subject = codes "SUBJECT"
letters_of words.Ended = codes "ENDED"
letters_of words.Full = codes "FULL"
letters_of words.Spent = codes "SPENT"
letters_of words.Zero = codes "ZERO"
letters_of words.Observer = codes "OBSERVER"
letters_of words.TooMuch = codes "TOOMUCH"
letters_of words.Memory = codes "MEMORY"
letters_of words.Gone = codes "GONE"
letters_of words.Version = codes "VERSION"

-- the word of a refusal of a line
abbrev pub word_of_fault : LineError → Word
word_of_fault errors.Long = words.Long
word_of_fault errors.Syntax = words.Syntax
word_of_fault errors.Memory = words.Memory

-- the response to a line without a meaning
abbrev pub response_to_fault : BadLine → Response
response_to_fault Long = Refused words.Long
response_to_fault Syntax = Refused words.Syntax

-- some bytes as a line, with its LF
abbrev pub line : List ℕ → List ℕ
line bytes = bytes ++ 10 ∷ []

-- what a response says
abbrev pub reply_of : Response → List ℕ
reply_of Done = codes "OK"
reply_of (Joined who) = codes "OK " ++ decimal who
reply_of (Refused word) = codes "ERR " ++ letters_of word

-- the line of a response
abbrev pub reply_line : Response → List ℕ
reply_line response = line (reply_of response)

-- the line that tells an observer its number
abbrev pub joined_line : ℕ → List ℕ
joined_line who = line (codes "JOINED " ++ decimal who)

-- what stands before the text of an item: its place and its port, or two hyphens where it is a seed, by its place
abbrev pub origin_of : Item → List ℕ
origin_of item = if item.place == 4294967295 then codes "- - " else decimal item.place ++ (32 ∷ (decimal item.from ++ (32 ∷ [])))

-- what an item says in a version
abbrev pub item_saying : Version → Item → List ℕ
item_saying One item = item.text
item_saying Two item = origin_of item ++ item.text

-- what a note says in a version
abbrev pub saying_of : Version → Note → List ℕ
saying_of version (Next item) = codes "NEXT " ++ item_saying version item
saying_of version Completed = codes "DONE"
saying_of version (Failed text) = codes "FAILED " ++ text

-- the line of a note in a version
abbrev pub note_line : Version → Note → List ℕ
note_line version note = line (saying_of version note)
