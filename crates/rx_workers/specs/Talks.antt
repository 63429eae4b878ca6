-- A session of any kind over the halves of its connection, among the clients of a worker: how the connection comes, how the session
-- begins, and what a turn of it leaves (this project's own rule).
use Rattle.std.specs.Prelude.{◌≡◌, ℕ, Bool, true, false, List, Option, None, Some, option_map}
use Rattle.rx_desk.specs.declared.joined.Joined.{Joined}
use Rattle.rx_session.specs.declared.session_end.SessionEnd.{SessionEnd}
use Rattle.rx_session.specs.declared.session_end.SessionEnd.TheVariants as ends
use Rattle.rx_session.specs.declared.turn.Turn.{Turn}
use Rattle.rx_session.specs.declared.turn.Turn.TheVariants.{Again, Waits, Stuck, Over}
use Rattle.rx_workers.specs.Clients.{AreSameClients, Sets, client_at}
use Rattle.rx_workers.specs.declared.worker.client.Client.{Client}
use Rattle.rx_workers.specs.declared.worker.client.Client.TheVariants.{Silent, Talks, Follows}
use Rattle.rx_workers.specs.declared.worker.client.Follower.{Follower}
use Rattle.rx_workers.specs.declared.worker.client.Talk.{Talk}
use Rattle.rx_workers.specs.declared.readiness.Aim.TheVariants.{Bytes}

-- whether a session goes on at once, by what its turn came to
abbrev pub goes_at_once : {W : Type 0} → Turn W → Bool
goes_at_once (Again writer) = true
goes_at_once (Waits writer) = false
goes_at_once (Stuck writer) = false
goes_at_once (Over end back) = false

module _ {C W T : Type 0} where
  -- a connection of which nothing came yet
  abbrev pub silent : C × W → Option (Client C W T)
  silent connection = Some (Silent connection.0 connection.1)

  -- such a connection has a place
  abbrev pub IsWaiting : List (Option (Client C W T)) → C × W → Type 0
  IsWaiting clients connection = (place : ℕ) × (client_at place clients ≡ silent connection)

  -- a connection was given this place, which was vacant, or none
  abbrev pub Admits : Option ℕ → C × W → List (Option (Client C W T)) → List (Option (Client C W T)) → Type 0
  Admits None connection before after = AreSameClients before after
  Admits (Some place) connection before after = Sets place before after None (silent connection)

  -- a session that began with its connection, which is watched for bytes; of it this is so
  pub record Begins (begins : T → Type 0) (connection : C × W) (talk : Talk C W T) : Type 0 where
    pub reader_is : talk.reader ≡ connection.0
    pub writer_is : talk.writer ≡ connection.1
    pub is_new : begins talk.session.value
    pub aim_is : talk.aim ≡ Bytes

  -- of a connection that was silent at this place the session began, of which this is so, or the connection was given up
  abbrev pub Starts : (T → Type 0) → Bool → ℕ → C × W → List (Option (Client C W T)) → List (Option (Client C W T)) → Type 0
  Starts begins true place connection before after = (talk : Talk C W T) × Begins begins connection talk × Sets place before after (silent connection) (Some (Talks talk))
  Starts begins false place connection before after = Sets place before after (silent connection) None

  -- the halves and the session of a talk after a turn, whatever its connection is watched for
  pub record IsTalkOf (reader : C) (writer : W) (session : T) (talk : Talk C W T) : Type 0 where
    pub reader_is : talk.reader ≡ reader
    pub writer_is : talk.writer ≡ writer
    pub session_is : talk.session.value ≡ session

  -- a client whose session goes on with these
  abbrev pub GoesOn : C → W → T → Option (Client C W T) → Type 0
  GoesOn reader writer session left = (talk : Talk C W T) × (left ≡ Some (Talks talk)) × IsTalkOf reader writer session talk

  -- the follower that a session leaves: of whom its last Join made
  abbrev pub follower_of : C → Option Joined → Option (Client C W T)
  follower_of reader joined = option_map (λ observer. Follows (record { reader = reader; observer = observer })) joined

  -- what a session that ended leaves: where it handed its writer over, a follower; else nobody
  abbrev pub left_by : SessionEnd → C → Option Joined → Option (Client C W T)
  left_by ends.Quit reader joined = None
  left_by ends.EndOfInput reader joined = None
  left_by ends.HandedOver reader joined = follower_of reader joined
  left_by ends.ReadFault reader joined = None
  left_by ends.WriteFault reader joined = None
  left_by ends.TooManyReads reader joined = None

  -- what a turn leaves at its place: the session with its reader and the writer that the turn gave back, or what the session
  -- leaves once it is over
  abbrev pub Leaves : Turn W → C → T → Option Joined → Option (Client C W T) → Type 0
  Leaves (Again writer) reader session joined left = GoesOn reader writer session left
  Leaves (Waits writer) reader session joined left = GoesOn reader writer session left
  Leaves (Stuck writer) reader session joined left = GoesOn reader writer session left
  Leaves (Over end back) reader session joined left = left ≡ left_by end reader joined
