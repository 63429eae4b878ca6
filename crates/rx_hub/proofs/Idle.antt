-- What is made ready for observers, as they come and change.
use Rattle.std.proofs.Common.{◌≡◌, ℕ, zero, suc, ◌<◌, ◌∷◌, [], ◌++◌, List, length, get_or, set, sym, subst, arith}
use Rattle.std.proofs.lemmas.List.Elements.{All-set, All-append}
use Rattle.rx_subject.specs.declared.offer.Offer.{Offer}
use Rattle.rx_hub.specs.declared.seat.Seat.{Seat}
use Rattle.rx_hub.specs.declared.seat.Seat.TheVariants.{Shared, Own}
use Rattle.rx_hub.specs.declared.subscription.Subscription.{Subscription}
use Rattle.rx_hub.specs.Seats.{IsIdle, HoldsAside}
use Rattle.rx_hub.specs.Audiences.{AllIdle, AllAside}

aside : (seat : Seat) (ready : Offer) → IsIdle ready → HoldsAside seat ready
aside (Shared lane) ready idle = idle
aside (Own lane) ready idle = idle.end

-- where nothing is ready, at most copies are
pub all_aside : (xs : List Subscription) → AllIdle xs → AllAside xs
all_aside xs idle = λ k d lt. aside (get_or xs k d).seat (get_or xs k d).ready (idle k d lt)

-- one changed, and what was ready for it did not
pub idle_set : (xs : List Subscription) (i : ℕ) (old new : Subscription) → i < length xs → old ≡ get_or xs i old → new.ready ≡ old.ready
    → AllIdle xs → AllIdle (set xs i new)
idle_set xs i old new lt is same idle =
    let here = subst (λ (s : Subscription). IsIdle s.ready) (sym is) (idle i old lt) in
    All-set (λ (s : Subscription). IsIdle s.ready) xs i new (subst (λ (ready : Offer). IsIdle ready) (sym same) here) idle

alone : (one : Subscription) → IsIdle one.ready → AllIdle (one ∷ [])
alone one here zero d lt = here
alone one here (suc k) d lt = absurd (omega (arith, lt))

-- one more
pub idle_more : (xs : List Subscription) (one : Subscription) → IsIdle one.ready → AllIdle xs → AllIdle (xs ++ one ∷ [])
idle_more xs one here idle = All-append (λ (s : Subscription). IsIdle s.ready) xs (one ∷ []) idle (alone one here)
