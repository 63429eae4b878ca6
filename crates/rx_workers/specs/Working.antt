-- What a worker does: it serves the connections that it receives, each by a session that has its turns among those of the
-- others (this project's own rule).
--
-- A worker: What it does is a list of deeds, in their order: a connection came and was given a vacant place, or was given up;
-- the Bye came; its inbox told that no letter comes any more; of a connection at a place of which nothing had come the session
-- began, or it was given up; the session at a place had one turn; the follower at a place was parted with, and its observer,
-- whom the last Join of its session made, was disposed of by one call. The desk's calls are just the calls of these deeds, in
-- the order made. It ends behind its Bye alone, or where its inbox told that none comes any more, and once no session is under
-- way or has yet to begin. Each connection that came had its session, or was given up before; each session was served to its
-- end: what was read and written there is a session, as the session's bytes say, whose lines were asked of the desk as others
-- left it. `sessions` counts them. What `join` answers is this of the worker that was started. No clause says why a connection
-- was given up, which is for want of memory or since it can't be watched, nor that the inbox did tell that none comes, nor that
-- who is ready has a turn: these are tested. A connection is watched for bytes before its session begins; behind a turn it is
-- watched for bytes where the session has none, for room too where its writer took no more, and as before where it goes on at
-- once. Inside the crate each call that serves is given a `Readiness` that watches the connection at each place for that, who
-- follows for the hang-up, and nothing at a vacant place, and leaves it so. Of who is ready, the session at its place alone
-- begins and has turns, and where the `Readiness` tells that its peer hung up, and just there, the follower at its place is
-- parted with.
use Rattle.std.specs.Prelude.{◌≡◌, ◌⊎◌, ◌<◌, ℕ, Bool, true, false, List, [], ◌∷◌, ◌++◌, length, Option, None, Some}
use Rattle.std.specs.List.{All, Contains}
use Rattle.rx_mailbox.specs.Boxes.{Incoming, with_letter}
use Rattle.rx_mailbox.specs.Letters.{letter}
use Rattle.rx_mailbox.specs.declared.letter.Post.{Post}
use Rattle.rx_mailbox.specs.declared.letter.Post.TheVariants.{Body, Bye}
use Rattle.rx_pump.specs.Pumps.{counted}
use Rattle.rx_session.specs.Among.{among}
use Rattle.rx_session.specs.OpenSessions.{IsNew, Sitting, Sits}
use Rattle.rx_session.specs.Sessions.{Parties, Place, Session, parties}
use Rattle.rx_lines.specs.declared.input_end.InputEnd.{InputEnd}
use Rattle.rx_session.specs.declared.open_session.OpenSession.{OpenSession}
use Rattle.rx_session.specs.declared.session_end.SessionEnd.{SessionEnd}
use Rattle.rx_session.specs.declared.turn.Turn.{Turn}
use Rattle.rx_sink.specs.Acts.{raised}
use Rattle.rx_desk.specs.declared.client_sink.ClientSink.{ClientSink}
use Rattle.rx_workers.specs.Clients.{AreSameClients, IsFollower, IsQuiet, IsSilent, IsTalk, Sets, client_at}
use Rattle.rx_workers.specs.Talks.{Admits, Leaves, Starts, goes_at_once}
use Rattle.rx_desk.specs.SessionDesks.{SessionView, KeepsSession, Disposes, emits, follows, has_subject}
use Rattle.rx_workers.specs.declared.worker.client.Client.{Client}
use Rattle.rx_workers.specs.declared.worker.client.Client.TheVariants.{Talks, Follows}
use Rattle.rx_workers.specs.declared.worker.client.Follower.{Follower}
use Rattle.rx_workers.specs.declared.worker.client.Talk.{Talk}
use Rattle.rx_desk.specs.declared.joined.Joined.{Joined}
use Rattle.rx_workers.specs.Watching.{IsAimed}

-- a worker: the session's desk over which it serves, and the inbox of its connections, each a reader and a writer
pub record WorkerView (M C W : Type 0) : Type 0 where
  pub session : SessionView M (ClientSink W)
  pub inbox : Incoming (C × W)

-- the worker over this session's desk, with this inbox
abbrev pub worker : {M C W : Type 0} → SessionView M (ClientSink W) → Incoming (C × W) → WorkerView M C W
worker session inbox = record { session = session; inbox = inbox }

-- a worker at work: the desk of its sessions, its inbox, its clients, how many sessions it began, and whether a connection may
-- still come
pub record State (M C W : Type 0) : Type 0 where
  pub session : SessionView M (ClientSink W)
  pub inbox : Incoming (C × W)
  pub clients : List (Option (Client C W OpenSession))
  pub sessions : ℕ
  pub is_open : Bool

-- the worker at work with this desk, this inbox and these clients, that began so many sessions, and may still be sent a connection or not
abbrev pub state : {M C W : Type 0} → SessionView M (ClientSink W) → Incoming (C × W) → List (Option (Client C W OpenSession)) → ℕ → Bool → State M C W
state session inbox clients sessions is_open = record { session = session; inbox = inbox; clients = clients; sessions = sessions; is_open = is_open }

-- no connection comes to it any more, and no session is under way or has yet to begin
abbrev pub IsFinished : {M C W : Type 0} → State M C W → Type 0
IsFinished at = (at.is_open ≡ false) × IsQuiet at.clients

-- one thing that a worker does: a connection came, and was given a place, or was given up; the Bye came; the inbox told that no
-- letter comes any more; of a connection at a place the session began, or it was given up before; the session at a place had a
-- turn; the follower at a place was parted with. Why it does so no definition says
pub data Deed (X : Type 0) : Type 0 where
  Admitted : X → ℕ → Deed X
  GivenUp : X → Deed X
  Dismissed : Deed X
  Abandoned : Deed X
  Begun : X → ℕ → Deed X
  LetGo : X → ℕ → Deed X
  Turned : ℕ → Deed X
  Parted : ℕ → Deed X

module _ {X : Type 0} where
  -- the connections that came, in their order; the latest deed stands first
  abbrev pub came : List (Deed X) → List X
  came [] = []
  came (Admitted x place ∷ deeds) = came deeds ++ x ∷ []
  came (GivenUp x ∷ deeds) = came deeds ++ x ∷ []
  came (Dismissed ∷ deeds) = came deeds
  came (Abandoned ∷ deeds) = came deeds
  came (Begun x place ∷ deeds) = came deeds
  came (LetGo x place ∷ deeds) = came deeds
  came (Turned place ∷ deeds) = came deeds
  came (Parted place ∷ deeds) = came deeds

  -- those of them whose session began, in the order in which it did
  abbrev pub begun : List (Deed X) → List X
  begun [] = []
  begun (Admitted x place ∷ deeds) = begun deeds
  begun (GivenUp x ∷ deeds) = begun deeds
  begun (Dismissed ∷ deeds) = begun deeds
  begun (Abandoned ∷ deeds) = begun deeds
  begun (Begun x place ∷ deeds) = begun deeds ++ x ∷ []
  begun (LetGo x place ∷ deeds) = begun deeds
  begun (Turned place ∷ deeds) = begun deeds
  begun (Parted place ∷ deeds) = begun deeds

  -- those that were given up: as they came, or later, before their session began
  abbrev pub given_up : List (Deed X) → List X
  given_up [] = []
  given_up (Admitted x place ∷ deeds) = given_up deeds
  given_up (GivenUp x ∷ deeds) = given_up deeds ++ x ∷ []
  given_up (Dismissed ∷ deeds) = given_up deeds
  given_up (Abandoned ∷ deeds) = given_up deeds
  given_up (Begun x place ∷ deeds) = given_up deeds
  given_up (LetGo x place ∷ deeds) = given_up deeds ++ x ∷ []
  given_up (Turned place ∷ deeds) = given_up deeds
  given_up (Parted place ∷ deeds) = given_up deeds

  -- a connection had its session, or was given up before
  abbrev pub IsMet : List (Deed X) → X → Type 0
  IsMet deeds x = Contains (begun deeds) x ⊎ Contains (given_up deeds) x

  -- a connection came, and nothing else
  abbrev pub IsConnection : Deed X → Type 0
  IsConnection (Admitted x place) = Unit {0}
  IsConnection (GivenUp x) = Unit {0}
  IsConnection Dismissed = ⊥
  IsConnection Abandoned = ⊥
  IsConnection (Begun x place) = ⊥
  IsConnection (LetGo x place) = ⊥
  IsConnection (Turned place) = ⊥
  IsConnection (Parted place) = ⊥

module _ {M C W : Type 0} (tells : M → ℕ → M → Type 0) (remaining : C → Option (List ℕ)) (contents : W → Option (List ℕ)) where
  -- the desk of the sessions, and their writers
  abbrev pub calls : Parties (SessionView M (ClientSink W)) W
  calls = parties has_subject (emits tells) (follows tells) contents

  -- THE TURN of a session, from wherever it stood; one that had read QUIT asks nothing of the desk any more
  pub record TakesTurn (result : Turn W) (talk : Talk C W OpenSession) (reader : C) (session : OpenSession) (before after : SessionView M (ClientSink W)) : Type 0 where
    pub sits :
        (start : Place (SessionView M (ClientSink W)) W) (first : List ℕ) (read_old : Option (List ℕ))
        → Sitting calls start first read_old (remaining talk.reader) before talk.writer talk.session.value
        → Sits calls result start first read_old (remaining reader) after session
    pub quits : talk.session.value.quits ≡ true → after ≡ before

  -- the session at this place had one turn, and nobody else any
  pub record HasTurn (place : ℕ) (before after : State M C W) : Type 0 where
    pub talk : Talk C W OpenSession
    pub result : Turn W
    pub reader : C
    pub session : OpenSession
    pub left : Option (Client C W OpenSession)
    pub turn : TakesTurn result talk reader session before.session after.session
    pub leaves : Leaves result reader session after.session.joined left
    pub aimed : IsAimed result talk.aim left
    pub sets : Sets place before.clients after.clients (Some (Talks talk)) left
    pub inbox : after.inbox ≡ before.inbox
    pub sessions : after.sessions ≡ before.sessions
    pub is_open : after.is_open ≡ before.is_open

  -- it had one, which came to this: whether it goes on at once
  abbrev pub HasTurnTo : ℕ → Bool → State M C W → State M C W → Type 0
  HasTurnTo place at_once before after = (had : HasTurn place before after) × (at_once ≡ goes_at_once had.result)

  -- a letter came by a port of the box, and the desk made no call
  pub record Receives (post : Post (C × W)) (before after : State M C W) : Type 0 where
    pub from : ℕ
    pub of_box : from < before.inbox.ports
    pub inbox : after.inbox ≡ with_letter before.inbox (letter from post)
    pub session : after.session ≡ before.session

  -- ONE DEED. Behind the Bye, and where none comes any more, the worker is closed to connections
  abbrev pub Does : Deed (C × W) → State M C W → State M C W → Type 0
  Does (Admitted connection place) before after =
      Receives (Body connection) before after × Admits (Some place) connection before.clients after.clients
      × (after.sessions ≡ before.sessions) × (after.is_open ≡ before.is_open)
  Does (GivenUp connection) before after =
      Receives (Body connection) before after × Admits None connection before.clients after.clients
      × (after.sessions ≡ before.sessions) × (after.is_open ≡ before.is_open)
  Does Dismissed before after =
      Receives Bye before after × AreSameClients before.clients after.clients
      × (after.sessions ≡ before.sessions) × (after.is_open ≡ false)
  Does Abandoned before after = after ≡ state before.session before.inbox before.clients before.sessions false
  Does (Begun connection place) before after =
      Starts IsNew true place connection before.clients after.clients
      × (after ≡ state before.session before.inbox after.clients (raised before.sessions) before.is_open)
  Does (LetGo connection place) before after =
      Starts IsNew false place connection before.clients after.clients
      × (after ≡ state before.session before.inbox after.clients before.sessions before.is_open)
  Does (Turned place) before after = HasTurn place before after
  Does (Parted place) before after =
      (follower : Follower C) × Disposes before.session follower.observer after.session
      × Sets place before.clients after.clients (Some (Follows follower)) None × (after.inbox ≡ before.inbox)
      × (after.sessions ≡ before.sessions) × (after.is_open ≡ before.is_open)

  -- THE DESK'S CALLS ARE THE TURNS' CALLS, in the order in which these were made: just these deeds, the latest first
  abbrev pub Works : List (Deed (C × W)) → State M C W → State M C W → Type 0
  Works [] before after = after ≡ before
  Works (deed ∷ deeds) before after = (mid : State M C W) × Works deeds before mid × Does deed mid after

  -- some deeds
  abbrev pub DoesSome : State M C W → State M C W → Type 0
  DoesSome before after = (deeds : List (Deed (C × W))) × Works deeds before after

  -- a connection came, and was given a place, or was given up
  abbrev pub HasConnection : State M C W → State M C W → Type 0
  HasConnection before after = (deed : Deed (C × W)) × IsConnection deed × Does deed before after

  -- nothing came; or the Bye did, or it was told that no letter comes any more
  abbrev pub HasNoConnection : State M C W → State M C W → Type 0
  HasNoConnection before after = (after ≡ before) ⊎ Does Dismissed before after ⊎ Does Abandoned before after

  -- some connections came, and then none did; where none could come any more nothing was done
  pub record HasArrivals (before after : State M C W) : Type 0 where
    pub deeds : List (Deed (C × W))
    pub each : All IsConnection deeds
    pub last : State M C W
    pub came : Works deeds before last
    pub none : HasNoConnection last after
    pub closed : before.is_open ≡ false → after ≡ before

  -- where the connection at this place was silent its session began, or it was given up; else nothing was done
  abbrev pub StartsAt : ℕ → State M C W → State M C W → Type 0
  StartsAt place before after =
      ((connection : C × W) × (Does (Begun connection place) before after ⊎ Does (LetGo connection place) before after))
      ⊎ ((¬ IsSilent (client_at place before.clients)) × (after ≡ before))

  -- behind a turn the session at this place had a turn more, where it went on at once, and else none
  abbrev pub HasTurnBehind : Bool → ℕ → State M C W → State M C W → Type 0
  HasTurnBehind true place before after = HasTurn place before after
  HasTurnBehind false place before after = after ≡ before

  -- the session at this place had a turn, and a second one where it went on at once; where none is under way nothing was done
  abbrev pub HasTurns : ℕ → State M C W → State M C W → Type 0
  HasTurns place before after =
      ((mid : State M C W) × (first : HasTurn place before mid) × HasTurnBehind (goes_at_once first.result) place mid after)
      ⊎ ((¬ IsTalk (client_at place before.clients)) × (after ≡ before))

  -- the follower at this place was parted with; where there is none nothing was done
  abbrev pub PartsAt : ℕ → State M C W → State M C W → Type 0
  PartsAt place before after = Does (Parted place) before after ⊎ ((¬ IsFollower (client_at place before.clients)) × (after ≡ before))

  -- the client at this place was served: its session began where it had yet to, it had its turns, and then, only where its peer
  -- hung up, who follows there was parted with
  abbrev pub ServesAt : ℕ → Bool → State M C W → State M C W → Type 0
  ServesAt place false before after = (start : State M C W) × StartsAt place before start × HasTurns place start after
  ServesAt place true before after =
      (start : State M C W) × (mid : State M C W) × StartsAt place before start × HasTurns place start mid × PartsAt place mid after

  -- a connection was served to its end by a session among others: each of its lines was asked of the desk as it then was
  pub record IsServed (connection : C × W) : Type 0 where
    pub reader : C
    pub input : Option InputEnd
    pub before : SessionView M (ClientSink W)
    pub after : SessionView M (ClientSink W)
    pub end : SessionEnd
    pub back : Option W
    pub session : Session (among calls) (remaining connection.0) (remaining reader) input before connection.1 (record { end = end; desk = after; back = back })

  -- a worker served the connections that came, but those that were given up, each to its end, and counted them; it ended once no
  -- connection could come any more
  pub record HasWorked (before after : WorkerView M C W) (sessions : ℕ) : Type 0 where
    pub deeds : List (Deed (C × W))
    pub clients : List (Option (Client C W OpenSession))
    pub works : Works deeds (state before.session before.inbox [] 0 true) (state after.session after.inbox clients sessions false)
    pub is_over : Contains deeds Dismissed ⊎ Contains deeds Abandoned
    pub is_quiet : IsQuiet clients
    pub met : All (IsMet deeds) (came deeds)
    pub served : All IsServed (begun deeds)
    pub kept : KeepsSession before.session after.session
    pub sessions_are : sessions ≡ counted (length (begun deeds))
