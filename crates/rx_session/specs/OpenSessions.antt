-- What a session has come to that is served turn by turn. A turn may begin wherever the one before it ended, and all of them
-- together do what a session does with the bytes that they read.
--
-- A session by turns: a turn of an open session goes on from whatever place the session has come to, and after it, with the
-- bytes read by then, the session has come to a place so: so all turns together are exactly the session's bytes of the bytes
-- read, and the turn that is over gives what `serve_lines` gives; the answer to `QUIT` is written whole before that, and no
-- writer is handed over before it has all. Between its turns others may call the desk: then the same holds of a session over
-- a desk that others call too. After a turn behind which another may be made at once the session made a read, of those that
-- it may make, or carried out a line in hand, and no answer waits; where it waits for its reader it made a read, no whole
-- line is in hand and no answer waits. A new session may make as many reads as it is told.
use Rattle.std.specs.Prelude.{◌≡◌, ◌<◌, ◌⊎◌, ℕ, Bool, true, false, List, [], ◌∷◌, ◌++◌, length, Option, Some, Result, Ok}
use Rattle.std.specs.Io.KnownBytes.{Consumes}
use Rattle.rx_proto.specs.LineFeeds.{HasNoLf}
use Rattle.rx_proto.specs.Reading.{session_read}
use Rattle.rx_proto.specs.declared.command.Command.{Command}
use Rattle.rx_proto.specs.declared.command.Command.TheVariants.{Quit}
use Rattle.rx_proto.specs.declared.line_error.BadLine.{BadLine}
use Rattle.rx_proto.specs.declared.response.Response.TheVariants.{Done}
use Rattle.rx_proto.specs.declared.version.Version.{Version}
use Rattle.rx_proto.specs.declared.version.Version.TheVariants.{One}
use Rattle.rx_lines.specs.Bytes.{Holds, Loses}
use Rattle.rx_lines.specs.Feeds.{IsRest}
use Rattle.rx_lines.specs.Lines.{BeginsWithLine, lines_of, without_cr}
use Rattle.rx_session.specs.Sessions.{Parties, Place, Outcome, Goes, Serves, answered}
use Rattle.rx_lines.specs.Steps.{unread}
use Rattle.rx_session.specs.Turns.{Hands, hands, IsAt, Carries, Comes}
use Rattle.rx_lines.specs.declared.input_end.InputEnd.{InputEnd}
use Rattle.rx_session.specs.declared.open_session.OpenSession.{OpenSession}
use Rattle.rx_session.specs.declared.whole_session.Turned.{Turned}
use Rattle.rx_session.specs.declared.whole_session.Turned.TheVariants.{On, Over}
use Rattle.rx_session.specs.declared.session_end.SessionEnd.TheVariants as ends
use Rattle.rx_session.specs.declared.turn.Turn.{Turn}
use Rattle.rx_session.specs.declared.turn.Turn.TheVariants as turns

-- an open session that had no turn yet
pub record IsNew (session : OpenSession) : Type 0 where
  pub unread_is : unread session.feed.lines ≡ []
  pub skips_is : session.feed.skips ≡ false
  pub held_is : session.outbox ≡ []
  pub version_is : session.version ≡ One
  pub quits_is : session.quits ≡ false

-- a session made a read, or carried out a line in hand
abbrev pub GetsOn : OpenSession → OpenSession → Type 0
GetsOn before after =
    (after.feed.lines.reads < before.feed.lines.reads)
    ⊎ ((after.feed.lines.reads ≡ before.feed.lines.reads) × (length (unread after.feed.lines) < length (unread before.feed.lines)))

-- what a turn has done at least: where another may be made at once, the session got on, so that there are only so many of them, and
-- no answer waits; and where it is to wait for bytes it made a read, and neither a line is in hand nor an answer waits
abbrev pub HasGotOn : {W : Type 0} → Turn W → OpenSession → OpenSession → Type 0
HasGotOn (turns.Again writer) before after = GetsOn before after × (after.outbox ≡ [])
HasGotOn (turns.Waits writer) before after =
    (after.feed.lines.reads < before.feed.lines.reads) × HasNoLf (unread after.feed.lines) × (after.outbox ≡ [])
HasGotOn (turns.Stuck writer) before after = Unit {0}
HasGotOn (turns.Over end back) before after = Unit {0}

-- a session that goes on has carried out a line in hand
abbrev pub HasTakenOne : {W : Type 0} → Turned W → OpenSession → OpenSession → Type 0
HasTakenOne (On writer) before after = length (unread after.feed.lines) < length (unread before.feed.lines)
HasTakenOne (Over end back) before after = Unit {0}

-- the place of the first version where nothing was told
abbrev pub first_place : {D W : Type 0} → D → W → Place D W
first_place desk writer = record { desk = desk; writer = writer; version = One; told = [] }

-- what writing did, as far as the writer takes bytes now: all is written, and the session goes on or it had read QUIT; or some
-- waits; or the writer faulted
abbrev pub Sends : {W : Type 0} → (W → Option (List ℕ)) → Turn W → Bool → W → List ℕ → List ℕ → Type 0
Sends contents (turns.Again after) quits writer held held_after = (quits ≡ false) × (held_after ≡ []) × Holds held held_after (contents writer) (contents after) []
Sends contents (turns.Waits after) quits writer held held_after = ⊥
Sends contents (turns.Stuck after) quits writer held held_after = Holds held held_after (contents writer) (contents after) []
Sends {W = W} contents (turns.Over end back) quits writer held held_after =
    (after : W) × (back ≡ Some after)
    × (((end ≡ ends.Quit) × (quits ≡ true) × (held_after ≡ []) × Holds held held_after (contents writer) (contents after) [])
    ⊎ ((end ≡ ends.WriteFault) × Loses held held_after (contents writer) (contents after) []))

module _ {D W : Type 0} (p : Parties D W) where
  -- the session went through these lines, from a place to a place
  abbrev pub Reaches : Place D W → List (List ℕ) → Place D W → Type 0
  Reaches at [] last = last ≡ at
  Reaches at (line ∷ lines) last = (after : Place D W) × Goes p (session_read line) at after × Reaches after lines last

  -- SO FAR: some bytes were there first, and more were read. The lines of all these but the rest were carried out one after
  -- another, from the place where this began to the place where it has come
  pub record Through (start : Place D W) (first : List ℕ) (read_old read_now : Option (List ℕ)) (at : Place D W) (rest : List ℕ) : Type 0 where
    pub read : List ℕ
    pub consumed : Consumes read_old read_now read
    pub lines : List (List ℕ)
    pub told : (more : List ℕ) → lines_of ((first ++ read) ++ more) ≡ lines ++ lines_of (rest ++ more)
    pub reached : Reaches start lines at

  -- the session stands there, and the rest is what its feed has not told
  pub record Listens (start : Place D W) (first : List ℕ) (read_old read_now : Option (List ℕ)) (now : Hands D W) (skips : Bool) (unread : List ℕ) : Type 0 where
    pub at : Place D W
    pub rest : List ℕ
    pub through : Through start first read_old read_now at rest
    pub is_rest : IsRest skips unread rest
    pub is_at : IsAt p at now

  -- the rest begins with a line that said QUIT, and the session stands where its answer is told
  pub record Leaves (start : Place D W) (first : List ℕ) (read_old read_now : Option (List ℕ)) (now : Hands D W) : Type 0 where
    pub at : Place D W
    pub rest : List ℕ
    pub through : Through start first read_old read_now at rest
    pub line : List ℕ
    pub left : List ℕ
    pub begins : BeginsWithLine rest line left
    pub quits : session_read (without_cr line) ≡ Ok Quit
    pub is_at : IsAt p (answered at at.desk Done) now

  -- a session that is under way: it goes on, or it read QUIT
  abbrev pub IsOpen : Place D W → List ℕ → Option (List ℕ) → Option (List ℕ) → Hands D W → Bool → Bool → List ℕ → Type 0
  IsOpen start first read_old read_now now false skips unread = Listens start first read_old read_now now skips unread
  IsOpen start first read_old read_now now true skips unread = Leaves start first read_old read_now now

  -- a session that is over: it went through the lines of all that was there first and was read, to its end
  pub record IsOver (start : Place D W) (first : List ℕ) (read_old read_new : Option (List ℕ)) (out : Outcome D W) : Type 0 where
    pub input : Option InputEnd
    pub read : List ℕ
    pub consumed : Consumes read_old read_new read
    pub served : Serves p read_new input start (lines_of (first ++ read)) out

  -- what carrying out a line did that was read so: as ever, or it was QUIT and its answer is told
  abbrev pub CarriesOut : Bool → Result Command BadLine → Place D W → Turned W → D → Version → List ℕ → Type 0
  CarriesOut false reading at result desk version held = Carries p reading at result desk version held
  CarriesOut true reading at result desk version held = (reading ≡ Ok Quit) × Comes p (λ after. after ≡ answered at at.desk Done) result desk version held

  -- an open session that is under way, with its desk and its writer
  abbrev pub Sitting : Place D W → List ℕ → Option (List ℕ) → Option (List ℕ) → D → W → OpenSession → Type 0
  Sitting start first read_old read_now desk writer session =
      IsOpen start first read_old read_now (hands desk writer session.version session.outbox) session.quits session.feed.skips (unread session.feed.lines)

  -- what carrying out the lines in hand made of it
  abbrev pub Carried : Turned W → Place D W → List ℕ → Option (List ℕ) → Option (List ℕ) → D → OpenSession → Type 0
  Carried (On writer) start first read_old read_new desk session = Sitting start first read_old read_new desk writer session
  Carried (Over end back) start first read_old read_new desk session = IsOver start first read_old read_new (record { end = end; desk = desk; back = back })

  -- THE TURN: it is under way afterwards, or it is over
  abbrev pub Sits : Turn W → Place D W → List ℕ → Option (List ℕ) → Option (List ℕ) → D → OpenSession → Type 0
  Sits (turns.Again writer) start first read_old read_new desk session = Sitting start first read_old read_new desk writer session
  Sits (turns.Waits writer) start first read_old read_new desk session = Sitting start first read_old read_new desk writer session
  Sits (turns.Stuck writer) start first read_old read_new desk session = Sitting start first read_old read_new desk writer session
  Sits (turns.Over end back) start first read_old read_new desk session = IsOver start first read_old read_new (record { end = end; desk = desk; back = back })
