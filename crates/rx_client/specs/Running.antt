-- What a subscription writes: what its follower tells, whatever it heard and at whichever servers (this project's own rule).
use Rattle.std.specs.Prelude.{◌≡◌, ℕ, Bool, List, [], ◌∷◌, ◌++◌, Option, Result, MatchResult}
use Rattle.std.specs.List.{AllZip}
use Rattle.std.specs.Io.KnownBytes.{Appends}
use Rattle.rx_proto.specs.Bytes.{AppendsPrefix}
use Rattle.rx_client.specs.Following.{Event, after_all, new_follower, tells_all}
use Rattle.rx_client.specs.Printed.{Prints}
use Rattle.rx_client.specs.declared.follower.Follower.{Follower}
use Rattle.rx_client.specs.declared.format.Format.{Format}
use Rattle.rx_client.specs.declared.told.Told.{Told}

-- texts, one behind the other
abbrev pub joined : List (List ℕ) → List ℕ
joined [] = []
joined (text ∷ texts) = text ++ joined texts

module _ (format : Format) where
  -- what is printed of all that was told was written
  pub record Wrote (told : List Told) (old new : Option (List ℕ)) : Type 0 where
    pub texts : List (List ℕ)
    pub printed : AllZip (Prints format) told texts
    pub written : Appends old new (joined texts)

  -- a front of what is printed of what was told was written
  pub record Broke (told : List Told) (old new : Option (List ℕ)) : Type 0 where
    pub begun : List Told
    pub left : List Told
    pub parts : begun ++ left ≡ told
    pub texts : List (List ℕ)
    pub printed : AllZip (Prints format) begun texts
    pub written : AppendsPrefix old new (joined texts)

  -- all of it at Ok, a front of it at Err
  abbrev pub Shows : {T E : Type 0} → List Told → Result T E → Option (List ℕ) → Option (List ℕ) → Type 0
  Shows told result old new = MatchResult result (λ _. Wrote told old new) (λ _. Broke told old new)

  -- a follower became another one by some events, and what it told of them was written
  pub record StepsOn (f g : Follower) (old new : Option (List ℕ)) : Type 0 where
    pub events : List Event
    pub behind : g ≡ after_all f events
    pub wrote : Wrote (tells_all f events) old new

  -- a follower was told of some events, and a front of what it told of them was written
  pub record Breaks (f : Follower) (old new : Option (List ℕ)) : Type 0 where
    pub events : List Event
    pub broke : Broke (tells_all f events) old new

  -- the one at Ok, the other at Err
  abbrev pub Follows : {T E : Type 0} → Follower → Follower → Result T E → Option (List ℕ) → Option (List ℕ) → Type 0
  Follows f g result old new = MatchResult result (λ _. StepsOn f g old new) (λ _. Breaks f old new)

  -- a subscription from a place on: all that its follower told was written, or, where it gave up, a front of that
  abbrev pub Subscribes : {T E : Type 0} → Option ℕ → Bool → Result T E → Option (List ℕ) → Option (List ℕ) → Type 0
  Subscribes from may_overflow result old new =
      MatchResult result (λ _. (g : Follower) × StepsOn (new_follower from may_overflow) g old new) (λ _. Breaks (new_follower from may_overflow) old new)
