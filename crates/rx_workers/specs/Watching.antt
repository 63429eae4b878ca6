-- What the connections of a worker are watched for: that of each client for what the client waits for, and no other one (this
-- project's own rule).
use Rattle.std.specs.Prelude.{◌≡◌, ◌≢◌, ℕ, List, Option, None, Some}
use Rattle.rx_session.specs.declared.turn.Turn.{Turn}
use Rattle.rx_session.specs.declared.turn.Turn.TheVariants.{Again, Waits, Stuck, Over}
use Rattle.rx_workers.specs.Clients.{client_at}
use Rattle.rx_workers.specs.declared.worker.client.Client.{Client}
use Rattle.rx_workers.specs.declared.worker.client.Client.TheVariants.{Silent, Talks, Follows}
use Rattle.rx_workers.specs.declared.readiness.Aim.{Aim}
use Rattle.rx_workers.specs.declared.readiness.Aim.TheVariants.{Bytes, Both, HangUp}

-- nothing is watched by any key
abbrev pub WatchesNothing : (ℕ → Option Aim) → Type 0
WatchesNothing watched = (key : ℕ) → watched key ≡ None

-- by each key what was watched is, for the same
abbrev pub WatchesSame : (ℕ → Option Aim) → (ℕ → Option Aim) → Type 0
WatchesSame before after = (key : ℕ) → after key ≡ before key

-- one key is watched for this now, or no more, and all others as before
pub record Watches (key : ℕ) (aim : Option Aim) (before after : ℕ → Option Aim) : Type 0 where
  pub there : after key ≡ aim
  pub others : (other : ℕ) → other ≢ key → after other ≡ before other

module _ {C W T : Type 0} where
  -- what a client is watched for: one that is silent for bytes, a session for what it waits for, a follower for the end; nobody
  -- for nothing
  abbrev pub aim_of : Option (Client C W T) → Option Aim
  aim_of None = None
  aim_of (Some (Silent reader writer)) = Some Bytes
  aim_of (Some (Talks talk)) = Some talk.aim
  aim_of (Some (Follows follower)) = Some HangUp

  -- THE AGREEMENT: by the key of each place what is there is watched, and nothing where nobody is
  abbrev pub AreWatched : (ℕ → Option Aim) → List (Option (Client C W T)) → Type 0
  AreWatched watched clients = (place : ℕ) → watched place ≡ aim_of (client_at place clients)

  -- what a session that goes on waits for behind a turn: for what it did where it goes on at once, for bytes where it has none, and
  -- for room too where its writer took no more
  abbrev pub IsAimed : Turn W → Aim → Option (Client C W T) → Type 0
  IsAimed (Again writer) was left = aim_of left ≡ Some was
  IsAimed (Waits writer) was left = aim_of left ≡ Some Bytes
  IsAimed (Stuck writer) was left = aim_of left ≡ Some Both
  IsAimed (Over end back) was left = Unit {0}
