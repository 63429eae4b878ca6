-- What a face does: it serves the connections that come, each by an exchange that has its turns among those of the others (this
-- project's own rule).
--
-- A face: What it does is a list of deeds, in their order: a connection came and was given a vacant place, or was given up; of a
-- connection at a place of which nothing had come the exchange began, or it was given up; the exchange at a place had one turn;
-- the follower at a place was parted with, and its observer, whom the Join of its exchange made, was disposed of by one call. The
-- desk's calls are just the calls of these deeds, in the order made. Each connection that came had its exchange, or was given up
-- before, or nothing had come of it where the face ended. Each exchange is served to its end, as an exchange says whose desk
-- others call too, or is under way where the face ended. Why a connection is given up no clause says, which is for want of memory
-- or since it can't be watched, nor that who is ready has a turn, nor when it ends.
use Rattle.std.specs.Prelude.{◌≡◌, ◌⊎◌, ℕ, List, [], ◌∷◌, ◌++◌, Option, None, Some, false, true}
use Rattle.std.specs.List.{All, Contains}
use Rattle.rx_config.specs.declared.config.Config.{Config}
use Rattle.rx_desk.specs.EventDesks.{EventView, PartsWith, emits, is_healthy, joins, requests, shows, stops}
use Rattle.rx_desk.specs.LineEmissions.{emits_lines}
use Rattle.rx_desk.specs.SessionDesks.{KeepsSession, no_queue}
use Rattle.rx_desk.specs.declared.client_sink.ClientSink.{ClientSink}
use Rattle.rx_desk.specs.declared.grants.Grants.{Grants}
use Rattle.rx_exchange.specs.Among.{among}
use Rattle.rx_exchange.specs.Exchanges.{AsksOnce, IsNew, IsOver, OnlySends, Sits, Sitting}
use Rattle.rx_exchange.specs.Meetings.{Parties, parties}
use Rattle.rx_exchange.specs.declared.exchange.Exchange.{Exchange}
use Rattle.rx_pump.specs.Desks.{DeskView}
use Rattle.rx_session.specs.declared.session_end.SessionEnd.{SessionEnd}
use Rattle.rx_session.specs.declared.turn.Turn.{Turn}
use Rattle.rx_workers.specs.Clients.{AreSameClients, Sets, client_at}
use Rattle.rx_workers.specs.Talks.{Admits, IsWaiting, Leaves, Starts}
use Rattle.rx_workers.specs.Watching.{IsAimed}
use Rattle.rx_workers.specs.declared.worker.client.Client.{Client}
use Rattle.rx_workers.specs.declared.worker.client.Client.TheVariants.{Talks, Follows}
use Rattle.rx_workers.specs.declared.worker.client.Follower.{Follower}
use Rattle.rx_workers.specs.declared.worker.client.Talk.{Talk}

-- a face at work: its desk and its clients
pub record Attended (M C W : Type 0) : Type 0 where
  pub desk : EventView M (ClientSink W)
  pub clients : List (Option (Client C W Exchange))

-- the face at work with this desk and these clients
abbrev pub attended : {M C W : Type 0} → EventView M (ClientSink W) → List (Option (Client C W Exchange)) → Attended M C W
attended desk clients = record { desk = desk; clients = clients }

-- one thing that a face does: a connection came, and was given a place, or was given up; of a connection at a place the exchange
-- began, or it was given up before; the exchange at a place had a turn; the follower at a place was parted with
pub data Deed (X : Type 0) : Type 0 where
  Admitted : X → ℕ → Deed X
  GivenUp : X → Deed X
  Begun : X → ℕ → Deed X
  LetGo : X → ℕ → Deed X
  Turned : ℕ → Deed X
  Parted : ℕ → Deed X

module _ {X : Type 0} where
  -- the connections that came, in their order; the latest deed stands first
  abbrev pub came : List (Deed X) → List X
  came [] = []
  came (Admitted x place ∷ deeds) = came deeds ++ x ∷ []
  came (GivenUp x ∷ deeds) = came deeds ++ x ∷ []
  came (Begun x place ∷ deeds) = came deeds
  came (LetGo x place ∷ deeds) = came deeds
  came (Turned place ∷ deeds) = came deeds
  came (Parted place ∷ deeds) = came deeds

  -- those of them whose exchange began, in the order in which it did
  abbrev pub begun : List (Deed X) → List X
  begun [] = []
  begun (Admitted x place ∷ deeds) = begun deeds
  begun (GivenUp x ∷ deeds) = begun deeds
  begun (Begun x place ∷ deeds) = begun deeds ++ x ∷ []
  begun (LetGo x place ∷ deeds) = begun deeds
  begun (Turned place ∷ deeds) = begun deeds
  begun (Parted place ∷ deeds) = begun deeds

  -- those that were given up: as they came, or later, before their exchange began
  abbrev pub given_up : List (Deed X) → List X
  given_up [] = []
  given_up (Admitted x place ∷ deeds) = given_up deeds
  given_up (GivenUp x ∷ deeds) = given_up deeds ++ x ∷ []
  given_up (Begun x place ∷ deeds) = given_up deeds
  given_up (LetGo x place ∷ deeds) = given_up deeds ++ x ∷ []
  given_up (Turned place ∷ deeds) = given_up deeds
  given_up (Parted place ∷ deeds) = given_up deeds

  -- a connection had its exchange, or was given up before
  abbrev pub IsMet : List (Deed X) → X → Type 0
  IsMet deeds x = Contains (begun deeds) x ⊎ Contains (given_up deeds) x

module _ {M C W : Type 0} (tells : M → ℕ → M → Type 0) (remaining : C → Option (List ℕ)) (contents : W → Option (List ℕ)) where
  -- the desk of the exchanges, and their writers
  abbrev pub calls : Parties (EventView M (ClientSink W)) W
  calls = parties (λ desk epoch. epoch ≡ desk.epoch) (λ desk well. well ≡ is_healthy desk) (joins tells) (emits tells) (emits_lines tells) requests shows stops contents

  -- THE TURN of an exchange, from wherever it stood; one that is answered asks nothing of the desk any more, and only sends
  pub record TakesTurn (result : Turn W) (talk : Talk C W Exchange) (reader : C) (exchange : Exchange) (before after : EventView M (ClientSink W)) : Type 0 where
    pub sits :
        (start : EventView M (ClientSink W)) (first : W) (read_old : Option (List ℕ))
        → Sitting calls start first read_old (remaining talk.reader) before talk.writer talk.session.value
        → Sits calls result start first read_old (remaining reader) after exchange
    pub answered : talk.session.value.answered ≡ true → after ≡ before
    pub asks_once : AsksOnce calls before talk.writer after
    pub sends : talk.session.value.answered ≡ true → OnlySends contents result (remaining talk.reader) (remaining reader) talk.writer exchange

  -- the exchange at this place had one turn, and nobody else any
  pub record HasTurn (place : ℕ) (before after : Attended M C W) : Type 0 where
    pub talk : Talk C W Exchange
    pub result : Turn W
    pub reader : C
    pub exchange : Exchange
    pub left : Option (Client C W Exchange)
    pub turn : TakesTurn result talk reader exchange before.desk after.desk
    pub leaves : Leaves result reader exchange after.desk.session.joined left
    pub aimed : IsAimed result talk.aim left
    pub sets : Sets place before.clients after.clients (Some (Talks talk)) left

  -- ONE DEED
  abbrev pub Does : Deed (C × W) → Attended M C W → Attended M C W → Type 0
  Does (Admitted connection place) before after = Admits (Some place) connection before.clients after.clients × (after.desk ≡ before.desk)
  Does (GivenUp connection) before after = AreSameClients before.clients after.clients × (after.desk ≡ before.desk)
  Does (Begun connection place) before after = Starts IsNew true place connection before.clients after.clients × (after.desk ≡ before.desk)
  Does (LetGo connection place) before after = Starts IsNew false place connection before.clients after.clients × (after.desk ≡ before.desk)
  Does (Turned place) before after = HasTurn place before after
  Does (Parted place) before after =
      (follower : Follower C) × PartsWith before.desk follower.observer after.desk
      × Sets place before.clients after.clients (Some (Follows follower)) None

  -- THE DESK'S CALLS ARE THE TURNS' CALLS, in the order in which these were made: just these deeds, the latest first
  abbrev pub Works : List (Deed (C × W)) → Attended M C W → Attended M C W → Type 0
  Works [] before after = after ≡ before
  Works (deed ∷ deeds) before after = (mid : Attended M C W) × Works deeds before mid × Does deed mid after

  -- some deeds
  abbrev pub DoesSome : Attended M C W → Attended M C W → Type 0
  DoesSome before after = (deeds : List (Deed (C × W))) × Works deeds before after

  -- an exchange is under way that began with a connection, among others
  pub record IsUnderWay (connection : C × W) (talk : Talk C W Exchange) : Type 0 where
    pub begun : EventView M (ClientSink W)
    pub now : EventView M (ClientSink W)
    pub sitting : Sitting (among calls) begun connection.1 (remaining connection.0) (remaining talk.reader) now talk.writer talk.session.value

  -- it stands at a place
  pub record IsThere (clients : List (Option (Client C W Exchange))) (connection : C × W) : Type 0 where
    pub place : ℕ
    pub talk : Talk C W Exchange
    pub there : client_at place clients ≡ Some (Talks talk)
    pub under_way : IsUnderWay connection talk

  -- a connection was served to its end by an exchange among others: what it asked for was met by the desk as that then was
  pub record IsServed (connection : C × W) : Type 0 where
    pub reader : C
    pub begun : EventView M (ClientSink W)
    pub now : EventView M (ClientSink W)
    pub end : SessionEnd
    pub back : Option W
    pub over : IsOver (among calls) end back begun connection.1 (remaining connection.0) (remaining reader) now

  -- a connection whose exchange began was served to its end, or that is under way
  abbrev pub IsKnown : List (Option (Client C W Exchange)) → C × W → Type 0
  IsKnown clients connection = IsThere clients connection ⊎ IsServed connection

  -- a connection that came had its exchange, or was given up before, or nothing came of it yet
  abbrev pub IsHad : List (Deed (C × W)) → List (Option (Client C W Exchange)) → C × W → Type 0
  IsHad deeds clients connection = IsWaiting clients connection ⊎ IsMet deeds connection

  -- a face served the connections that came by this desk, and left it so
  pub record HasServed (before : EventView M (ClientSink W)) (end : DeskView (ClientSink W)) : Type 0 where
    pub after : EventView M (ClientSink W)
    pub clients : List (Option (Client C W Exchange))
    pub deeds : List (Deed (C × W))
    pub works : Works deeds (attended before []) (attended after clients)
    pub had : All (IsHad deeds clients) (came deeds)
    pub known : All (IsKnown clients) (begun deeds)
    pub kept : KeepsSession before.session after.session
    pub desk : end ≡ after.session.calls

-- a face that begins by a configuration, over this desk
abbrev pub IsFaceOver : {M W : Type 0} → Config → M → List ℕ → Grants → DeskView (ClientSink W) → EventView M (ClientSink W) → Type 0
IsFaceOver config moments epoch grants desk face =
    face ≡ record {
      session = record { subjects = config.subjects.items; window = config.window; moments = moments; calls = desk; joined = None; queue = no_queue };
      epoch = epoch;
      grants = grants;
      held = 0;
      asking = [];
      kept = [];
      is_well = true;
      stopping = false;
    }
