-- What a reader is told by a stream, wherever it is cut.
--
-- Events are read back: the reader of a stream is told just its events, in their order, each with its id, its kind and its
-- text, in which a CR is an LF; heartbeats tell it nothing.
--
-- A stream that is cut: wherever it is cut, its reader was told a front of its events, and comes again with the id of the
-- last of them, or with the one that it came with where it was told none.
--
-- Events are UTF-8: all that is written of a stream is UTF-8, so that nothing is lost where its reader decodes it.
--
-- The laws speak of events whose numbers have 32 bits, whose texts have no LF and whose ids have an epoch: all that there are
-- (`laws::event_can_be_told`). A reader is told of bytes: what parts a stream are the same bytes in UTF-8. A byte order mark
-- at its begin, with which no piece begins, and how long a reader waits before it comes again are left out of the
-- definitions. The laws of a reader that comes again suppose that its connections are of one epoch, that it says at each
-- begin what it knows, by the id, and that a server tells it the line of its observer by an event sink that begins where it
-- says: that one does is still to be proved there.
use Rattle.std.specs.Prelude.{◌≡◌, ◌<◌, ◌^◌, ℕ, List, [], ◌∷◌, ◌++◌, ◌==◌, if◌then◌else◌, Option, None, Some}
use Rattle.std.specs.Str.{IsUtf8}
use Rattle.rx_proto.specs.LineFeeds.{HasNoLf}
use Rattle.rx_http.specs.Events.{saying_of, event_bytes}
use Rattle.rx_http.specs.Epochs.{IsEpoch}
use Rattle.rx_http.specs.Pieces.{Saying, retry_line, heartbeat_line}
use Rattle.rx_http.specs.Reading.{Message, Reader, read, reader_with}
use Rattle.rx_http.specs.declared.stream_event.StreamEvent.{StreamEvent}
use Rattle.rx_http.specs.declared.stream_event.StreamEvent.TheVariants.{Joined, Next, Missed, Restarted, Completed, Failed, Overflowed}

-- a place of 32 bits, or none
abbrev pub IsPlace : Option ℕ → Type 0
IsPlace None = Unit {0}
IsPlace (Some place) = place < 2 ^ 32

-- an event: its numbers have 32 bits, its text has no LF, and an id that was sent has an epoch
abbrev pub IsEvent : StreamEvent → Type 0
IsEvent (Joined who known) = (who < 2 ^ 32) × IsPlace known
IsEvent (Next item) = (item.now.place < 2 ^ 32) × HasNoLf item.now.text
IsEvent (Missed count last) = (count < 2 ^ 32) × (last < 2 ^ 32)
IsEvent (Restarted sent) = IsEpoch sent.now.epoch × IsPlace sent.now.place
IsEvent (Completed known) = IsPlace known
IsEvent (Failed text known) = HasNoLf text.now × IsPlace known
IsEvent Overflowed = Unit {0}

-- a piece of a stream: an event, how long to wait before coming again, or a heartbeat
pub data Piece : Type 0 where
  Event : (event : StreamEvent) → Piece
  Retry : (ms : ℕ) → Piece
  Heartbeat : Piece

-- pieces whose numbers have 32 bits and whose texts have no LF
abbrev pub ArePieces : List Piece → Type 0
ArePieces [] = Unit {0}
ArePieces (Event event ∷ pieces) = IsEvent event × ArePieces pieces
ArePieces (Retry ms ∷ pieces) = (ms < 2 ^ 32) × ArePieces pieces
ArePieces (Heartbeat ∷ pieces) = ArePieces pieces

-- the bytes of a piece
abbrev pub piece_bytes : List ℕ → Piece → List ℕ
piece_bytes epoch (Event event) = event_bytes epoch event
piece_bytes epoch (Retry ms) = retry_line ms
piece_bytes epoch Heartbeat = heartbeat_line

-- the bytes of a stream
abbrev pub stream_of : List ℕ → List Piece → List ℕ
stream_of epoch [] = []
stream_of epoch (piece ∷ pieces) = piece_bytes epoch piece ++ stream_of epoch pieces

-- a text as its reader has it: its CRs are LFs, and it has no others
abbrev pub with_lf : List ℕ → List ℕ
with_lf [] = []
with_lf (byte ∷ text) = (if byte == 13 then 10 else byte) ∷ with_lf text

-- the last id behind what was told of one
abbrev pub id_behind : List ℕ → Option (List ℕ) → List ℕ
id_behind before None = before
id_behind before (Some id) = id

-- the message that says this, behind an id
abbrev pub message_of : List ℕ → Saying → Message
message_of before saying = record { id = id_behind before saying.id; kind = saying.kind; text = with_lf saying.text }

-- the messages of a stream, one for each event, behind an id
abbrev pub messages_of : List ℕ → List ℕ → List Piece → List Message
messages_of epoch before [] = []
messages_of epoch before (Event event ∷ pieces) =
    message_of before (saying_of epoch event) ∷ messages_of epoch (id_behind before (saying_of epoch event).id) pieces
messages_of epoch before (Retry ms ∷ pieces) = messages_of epoch before pieces
messages_of epoch before (Heartbeat ∷ pieces) = messages_of epoch before pieces

-- the id of the last of some messages; where there are none, the one before
abbrev pub last_id_of : List ℕ → List Message → List ℕ
last_id_of before [] = before
last_id_of before (message ∷ messages) = last_id_of message.id messages

-- a reader was told a front of these messages, and comes again with the id of the last that it was told
pub record IsToldFront (before : List ℕ) (messages : List Message) (r : Reader) : Type 0 where
  pub rest : List Message
  pub front : messages ≡ r.messages ++ rest
  pub last_id : r.last_id ≡ last_id_of before r.messages

-- THE LAW: the reader of a stream is told just its events, in their order
abbrev pub StreamIsReadBack : Type 0
StreamIsReadBack =
    (epoch before : List ℕ) (pieces : List Piece) → IsEpoch epoch → ArePieces pieces
    → (read (stream_of epoch pieces) (reader_with before)).messages ≡ messages_of epoch [] pieces

-- and where it is cut behind any byte, a front of them, and then comes again with the id of the last
abbrev pub CutStreamIsAFront : Type 0
CutStreamIsAFront =
    (epoch before come back : List ℕ) (pieces : List Piece) → IsEpoch epoch → ArePieces pieces
    → stream_of epoch pieces ≡ come ++ back
    → IsToldFront before (messages_of epoch [] pieces) (read come (reader_with before))

-- and all of it is UTF-8, so that nothing is lost where a reader decodes it
abbrev pub StreamIsUtf8 : Type 0
StreamIsUtf8 = (epoch : List ℕ) (pieces : List Piece) → IsEpoch epoch → ArePieces pieces → IsUtf8 (stream_of epoch pieces)
