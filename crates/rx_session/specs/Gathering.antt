-- A session that began to emit the items of some lines, whose responses are still to come (this project's own rule).
use Rattle.std.specs.Prelude.{◌≡◌, ◌⊎◌, ℕ, Bool, true, false, List, [], ◌∷◌, ◌++◌, length, Option, Result, Ok}
use Rattle.rx_note.specs.declared.note.Note.TheVariants.{Next}
use Rattle.rx_proto.specs.Reading.{session_read}
use Rattle.rx_proto.specs.declared.command.Command.{Command}
use Rattle.rx_proto.specs.declared.command.Command.TheVariants.{Pub}
use Rattle.rx_proto.specs.declared.line_error.BadLine.{BadLine}
use Rattle.rx_proto.specs.declared.version.Version.{Version}
use Rattle.rx_session.specs.Begun.{Asked, IsBehind}
use Rattle.rx_lines.specs.Feeds.{IsRest}
use Rattle.rx_lines.specs.Lines.{BeginsWithLine, without_cr}
use Rattle.rx_session.specs.OpenSessions.{CarriesOut, IsOver, Leaves, Through}
use Rattle.rx_session.specs.Sessions.{Parties, Place, Emits}
use Rattle.rx_lines.specs.Steps.{unread}
use Rattle.rx_session.specs.Turns.{Hands, hands, IsAt}
use Rattle.rx_session.specs.declared.open_session.OpenSession.{OpenSession}
use Rattle.rx_session.specs.declared.whole_session.Turned.{Turned}
use Rattle.rx_session.specs.declared.whole_session.Turned.TheVariants.{On, Over}

-- a line that was read so emits this item
abbrev pub Asks : Result Command BadLine → Asked → Type 0
Asks reading note = (text : List ℕ) × (reading ≡ Ok (Pub note.name text)) × (note.note ≡ Next (record { from = 0; place = 0; text = text }))

-- some bytes begin with a line for each of these items, and the others are the rest
abbrev pub Ahead : List ℕ → List Asked → List ℕ → Type 0
Ahead bytes [] rest = rest ≡ bytes
Ahead bytes (note ∷ notes) rest =
    (line : List ℕ) × (left : List ℕ) × BeginsWithLine bytes line left × Asks (session_read (without_cr line)) note × Ahead left notes rest

-- the item of a line was begun, or not
abbrev pub IsBegun : Bool → Result Command BadLine → List Asked → Type 0
IsBegun true reading new = (note : Asked) × (new ≡ note ∷ []) × Asks reading note
IsBegun false reading new = new ≡ []

module _ {D W : Type 0} (p : Parties D W) where
  -- the desk emitted each of these notes, and the responses are told
  abbrev pub EmitsEach : Place D W → List Asked → Place D W → Type 0
  EmitsEach at [] last = last ≡ at
  EmitsEach at (note ∷ notes) last = (after : Place D W) × Emits p at note.name note.note after × EmitsEach after notes last

  -- of the notes that were begun the desk emitted the first, and these are left
  pub record Answers (at : Place D W) (notes : List Asked) (last : Place D W) (left : List Asked) : Type 0 where
    pub done : List Asked
    pub parts : done ++ left ≡ notes
    pub emitted : EmitsEach at done last

module _ {D W : Type 0} (p : Parties D W) (waits : D → List Asked → D → Type 0) where
  -- the session stands at a place, but that its desk began these notes
  pub record StandsBehind (at : Place D W) (notes : List Asked) (now : Hands D W) : Type 0 where
    pub is_at : IsAt p at (hands at.desk now.writer now.version now.held)
    pub behind : IsBehind waits at.desk notes now.desk

  -- of the notes that were begun the desk may have emitted the first
  pub record Answered (at : Place D W) (notes : List Asked) (now : Hands D W) (begun : ℕ) : Type 0 where
    pub last : Place D W
    pub left : List Asked
    pub answers : Answers p at notes last left
    pub stands : StandsBehind last left now
    pub count : length left ≡ begun

  -- the item of a line was begun behind others, or not; of these the desk may have emitted the first before
  pub record Begins (result : Bool) (reading : Result Command BadLine) (at : Place D W) (notes : List Asked) (now : Hands D W) (begun : ℕ) : Type 0 where
    pub last : Place D W
    pub left : List Asked
    pub new : List Asked
    pub answers : Answers p at notes last left
    pub is_begun : IsBegun result reading new
    pub stands : StandsBehind last (left ++ new) now
    pub count : length (left ++ new) ≡ begun

  -- a line was carried out as ever, once nothing was begun any more
  pub record CarriesLast (quits : Bool) (reading : Result Command BadLine) (at : Place D W) (notes : List Asked) (result : Turned W) (desk : D) (version : Version) (held : List ℕ) (begun : ℕ) : Type 0 where
    pub last : Place D W
    pub emitted : EmitsEach p at notes last
    pub carries : CarriesOut p quits reading last result desk version held
    pub count : begun ≡ 0

  -- its item was begun, or it was carried out as ever
  abbrev pub CarriesBehind : Bool → Result Command BadLine → Place D W → List Asked → Turned W → D → Version → List ℕ → ℕ → Type 0
  CarriesBehind quits reading at notes result desk version held begun =
      ((writer : W) × (result ≡ On writer) × (quits ≡ false) × Begins true reading at notes (hands desk writer version held) begun)
      ⊎ CarriesLast quits reading at notes result desk version held begun

  -- a session that goes on, and has begun the items of the last lines that were told
  pub record Gathers (start : Place D W) (first : List ℕ) (read_old read_now : Option (List ℕ)) (now : Hands D W) (skips : Bool) (unread : List ℕ) (begun : ℕ) : Type 0 where
    pub at : Place D W
    pub bytes : List ℕ
    pub rest : List ℕ
    pub notes : List Asked
    pub through : Through p start first read_old read_now at bytes
    pub ahead : Ahead bytes notes rest
    pub is_rest : IsRest skips unread rest
    pub stands : StandsBehind at notes now
    pub count : length notes ≡ begun

  -- a session that is under way; one that read QUIT has begun nothing
  abbrev pub IsGathering : Place D W → List ℕ → Option (List ℕ) → Option (List ℕ) → Hands D W → Bool → Bool → List ℕ → ℕ → Type 0
  IsGathering start first read_old read_now now false skips unread begun = Gathers start first read_old read_now now skips unread begun
  IsGathering start first read_old read_now now true skips unread begun = (begun ≡ 0) × Leaves p start first read_old read_now now

  -- an open session that is under way, with its desk, its writer, and so many items begun
  abbrev pub Gathering : Place D W → List ℕ → Option (List ℕ) → Option (List ℕ) → D → W → OpenSession → ℕ → Type 0
  Gathering start first read_old read_now desk writer session begun =
      IsGathering start first read_old read_now (hands desk writer session.version session.outbox) session.quits session.feed.skips (unread session.feed.lines) begun

  -- what carrying out lines made of it
  abbrev pub Gathered : Turned W → Place D W → List ℕ → Option (List ℕ) → Option (List ℕ) → D → OpenSession → ℕ → Type 0
  Gathered (On writer) start first read_old read_new desk session begun = Gathering start first read_old read_new desk writer session begun
  Gathered (Over end back) start first read_old read_new desk session begun = IsOver p start first read_old read_new (record { end = end; desk = desk; back = back })
