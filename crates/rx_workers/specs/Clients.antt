-- The clients of a worker, each at a place of its own (this project's own rule).
use Rattle.std.specs.Prelude.{◌≡◌, ◌≢◌, ℕ, List, Option, None, Some, is_none, slice_index_or}
use Rattle.std.specs.List.{position}
use Rattle.rx_workers.specs.declared.worker.client.Client.{Client}
use Rattle.rx_workers.specs.declared.worker.client.Client.TheVariants.{Silent, Talks, Follows}

module _ {C W T : Type 0} where
  -- who is at a place; at one that is vacant, or that there isn't, nobody
  abbrev pub client_at : ℕ → List (Option (Client C W T)) → Option (Client C W T)
  client_at place clients = slice_index_or clients place None

  -- the first place that is vacant
  abbrev pub first_vacant : List (Option (Client C W T)) → Option ℕ
  first_vacant clients = position is_none clients

  -- nobody came, went or changed
  abbrev pub AreSameClients : List (Option (Client C W T)) → List (Option (Client C W T)) → Type 0
  AreSameClients before after = (place : ℕ) → client_at place after ≡ client_at place before

  -- at one place there is another client or none any more, and at all others who was there
  pub record Sets (place : ℕ) (before after : List (Option (Client C W T))) (was is : Option (Client C W T)) : Type 0 where
    pub was_there : client_at place before ≡ was
    pub is_there : client_at place after ≡ is
    pub others : (other : ℕ) → other ≢ place → client_at other after ≡ client_at other before

  -- a connection of which nothing came yet
  abbrev pub IsSilent : Option (Client C W T) → Type 0
  IsSilent None = ⊥
  IsSilent (Some (Silent reader writer)) = Unit {0}
  IsSilent (Some (Talks talk)) = ⊥
  IsSilent (Some (Follows follower)) = ⊥

  -- a session is under way
  abbrev pub IsTalk : Option (Client C W T) → Type 0
  IsTalk None = ⊥
  IsTalk (Some (Silent reader writer)) = ⊥
  IsTalk (Some (Talks talk)) = Unit {0}
  IsTalk (Some (Follows follower)) = ⊥

  -- an observer joined, who is watched
  abbrev pub IsFollower : Option (Client C W T) → Type 0
  IsFollower None = ⊥
  IsFollower (Some (Silent reader writer)) = ⊥
  IsFollower (Some (Talks talk)) = ⊥
  IsFollower (Some (Follows follower)) = Unit {0}

  -- it isn't served to its end yet: its session is under way, or has yet to begin
  abbrev pub IsUnserved : Option (Client C W T) → Type 0
  IsUnserved None = ⊥
  IsUnserved (Some (Silent reader writer)) = Unit {0}
  IsUnserved (Some (Talks talk)) = Unit {0}
  IsUnserved (Some (Follows follower)) = ⊥

  -- no session is under way or has yet to begin, at any place
  abbrev pub IsQuiet : List (Option (Client C W T)) → Type 0
  IsQuiet clients = (place : ℕ) → ¬ IsUnserved (client_at place clients)
