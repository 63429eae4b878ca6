-- What a worker's connections are watched for, as its clients change.
use Rattle.std.proofs.Common.{◌≡◌, ℕ, zero, suc, List, [], Option, None, refl, sym, ap, subst, ◌∙◌, inl, inr}
use Rattle.std.proofs.lemmas.Bool.{cases_eq}
use Rattle.rx_workers.specs.Clients.{AreSameClients, Sets, client_at}
use Rattle.rx_workers.specs.Watching.{AreWatched, Watches, WatchesNothing, WatchesSame, aim_of}
use Rattle.rx_workers.specs.declared.worker.client.Client.{Client}
use Rattle.rx_workers.specs.declared.readiness.Aim.{Aim}

module _ {C W T : Type 0} where
  none_there : (place : ℕ) → client_at {C = C} {W = W} {T = T} place [] ≡ None
  none_there zero = refl
  none_there (suc place) = refl

  -- there are no clients, and nothing is watched
  pub watched-none : (watched : ℕ → Option Aim) (clients : List (Option (Client C W T))) → WatchesNothing watched → clients ≡ [] → AreWatched watched clients
  watched-none watched clients nothing none place =
      nothing place ∙ sym (ap (λ (xs : List (Option (Client C W T))). aim_of (client_at place xs)) none ∙ ap aim_of (none_there place))

  -- who is at a place is watched
  pub watched-there : (place : ℕ) (watched : ℕ → Option Aim) (xs ys : List (Option (Client C W T))) (was is : Option (Client C W T)) → AreWatched watched xs → Sets place xs ys was is
      → watched place ≡ aim_of was
  watched-there place watched xs ys was is agree sets = agree place ∙ ap aim_of sets.was_there

  -- nobody came, went or changed, and nothing was told
  pub watched-same : (before after : ℕ → Option Aim) (xs ys : List (Option (Client C W T))) → AreWatched before xs → WatchesSame before after → AreSameClients xs ys → AreWatched after ys
  watched-same before after xs ys watched same clients place = same place ∙ watched place ∙ ap aim_of (sym (clients place))

  -- who is at one place is watched now for this
  pub watched-set : (place : ℕ) (before after : ℕ → Option Aim) (xs ys : List (Option (Client C W T))) (was is : Option (Client C W T)) → AreWatched before xs → Watches place (aim_of is) before after
      → Sets place xs ys was is → AreWatched after ys
  watched-set place before after xs ys was is watched told sets other = elim (cases_eq other place) [
    | inl here ↦ subst (λ (n : ℕ). after n ≡ aim_of (client_at n ys)) (sym here) (told.there ∙ ap aim_of (sym sets.is_there))
    | inr else ↦ told.others other else ∙ watched other ∙ ap aim_of (sym (sets.others other else))
  ]
