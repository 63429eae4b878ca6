-- What the lines of some bytes are, and that an open session is a session.
use Rattle.std.specs.Prelude.{◌≡◌, ℕ, List, [], ◌∷◌, Option}
use Rattle.rx_proto.specs.LineFeeds.{HasNoLf}
use Rattle.rx_session.specs.Among.{among}
use Rattle.rx_lines.specs.Lines.{BeginsWithLine, lines_of, without_cr}
use Rattle.rx_session.specs.OpenSessions.{IsNew, IsOver, Sits, Sitting, first_place}
use Rattle.rx_session.specs.Sessions.{Parties, Place, Outcome, Session}
use Rattle.rx_lines.specs.declared.input_end.InputEnd.{InputEnd}
use Rattle.rx_session.specs.declared.open_session.OpenSession.{OpenSession}
use Rattle.rx_session.specs.declared.turn.Turn.{Turn}

-- bytes that begin with a line have it as their first line, and then the lines of the rest
abbrev pub FirstLine : Type 0
FirstLine = (bytes line rest : List ℕ) → BeginsWithLine bytes line rest → lines_of bytes ≡ without_cr line ∷ lines_of rest

-- bytes without an LF have no line
abbrev pub NoLine : Type 0
NoLine = (bytes : List ℕ) → HasNoLf bytes → lines_of bytes ≡ []

module _ {D W : Type 0} (p : Parties D W) where
  -- an open session that had no turn yet is under way from the place of the first version where nothing was told
  abbrev pub BeginsAsSession : Type 0
  BeginsAsSession = (session : OpenSession) (desk : D) (writer : W) (known : Option (List ℕ)) → IsNew session → Sitting p (first_place desk writer) [] known known desk writer session

  -- what began so is over as a session is that never was open
  abbrev pub EndsAsSession : Type 0
  EndsAsSession =
      (desk : D) (writer : W) (read_old read_new : Option (List ℕ)) (out : Outcome D W) → IsOver p (first_place desk writer) [] read_old read_new out
      → (input : Option InputEnd) × Session p read_old read_new input desk writer out

  -- ONE SESSION AMONG OTHERS: with other calls of the desk between its turns, these are turns of a session whose desk others call
  -- too; here one turn more, from wherever that stood and whatever the desk is by then
  abbrev pub JoinsTurns : Type 0
  JoinsTurns =
      (start : Place D W) (first : List ℕ) (read_old read_now read_new : Option (List ℕ)) (then desk desk_after : D) (writer : W) (session session_after : OpenSession) (result : Turn W)
      → Sitting (among p) start first read_old read_now then writer session
      → ((from : Place D W) (bytes : List ℕ) (known : Option (List ℕ)) → Sitting p from bytes known read_now desk writer session → Sits p result from bytes known read_new desk_after session_after)
      → (now : D) × Sits (among p) result start first read_old read_new now session_after
