-- A crew beside a face, which has the last desk.
use Rattle.std.proofs.Common.{◌≡◌, ℕ, List, [], ◌∷◌, ◌++◌, Option, Some, refl, sym, ap, subst}
use Rattle.std.proofs.lemmas.List.Elements.{All-cons, All-pop, All-same, AllZip-push}
use Rattle.std.specs.List.{All, AllZip}
use Rattle.rx_config.specs.declared.config.Config.{Config}
use Rattle.rx_desk.specs.EventDesks.{EventView}
use Rattle.rx_desk.specs.declared.client_sink.ClientSink.{ClientSink}
use Rattle.rx_desk.specs.declared.grants.Grants.{Grants}
use Rattle.rx_face.specs.Facing.{HasServed, IsFaceOver}
use Rattle.rx_pump.specs.Desks.{DeskView, KeepsDesk}
use Rattle.rx_workers.proofs.Crews.{All-first}

-- what holds of each where one is last holds of each where that is first
pub last-first : {X : Type 0} (P : X → Type 0) (xs ys : List X) (x : X) → ys ≡ x ∷ xs → All P (xs ++ x ∷ []) → All P ys
last-first P xs ys x is all =
    All-same P ys (x ∷ xs) is (All-cons P x xs (All-pop P (xs ++ x ∷ []) xs (Some x) refl all).1 (All-first P (xs ++ x ∷ []) xs x refl all))

module _ {W : Type 0} where
  -- desks, of which the last was apart
  pub kept-last : (all left here after : List (DeskView (ClientSink W))) (desk back : DeskView (ClientSink W)) → all ≡ left ++ desk ∷ [] → after ≡ here ++ back ∷ []
      → AllZip KeepsDesk left here → KeepsDesk desk back → AllZip KeepsDesk all after
  kept-last all left here after desk back took put same kept =
      subst (λ (ds : List (DeskView (ClientSink W))). AllZip KeepsDesk ds after) (sym took)
      (subst (λ (ds : List (DeskView (ClientSink W))). AllZip KeepsDesk (left ++ desk ∷ []) ds) (sym put) (AllZip-push KeepsDesk left here desk back same kept))

module _ {M C W : Type 0} (tells : M → ℕ → M → Type 0) (remaining : C → Option (List ℕ)) (contents : W → Option (List ℕ)) where
  -- the desk of a face stays what it was
  pub face-keeps : (config : Config) (moments : M) (epoch : List ℕ) (grants : Grants) (desk : DeskView (ClientSink W)) (face : EventView M (ClientSink W)) (end : DeskView (ClientSink W))
      → IsFaceOver config moments epoch grants desk face → HasServed tells remaining contents face end → KeepsDesk desk end
  face-keeps config moments epoch grants desk face end is served =
      subst (λ (d : DeskView (ClientSink W)). KeepsDesk d end) (ap (λ (f : EventView M (ClientSink W)). f.session.calls) is)
      (subst (λ (d : DeskView (ClientSink W)). KeepsDesk face.session.calls d) (sym served.desk) served.kept.calls)
