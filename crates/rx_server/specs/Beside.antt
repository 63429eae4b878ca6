-- How a server serves by a crew of workers, beside a face that has the last of its desks (this project's own rule).
use Rattle.std.specs.Prelude.{◌≡◌, ◌⊎◌, ℕ, List, [], ◌∷◌, ◌++◌, length, Result, Err}
use Rattle.rx_config.specs.declared.config.Config.{Config}
use Rattle.rx_desk.specs.declared.client_sink.ClientSink.{ClientSink}
use Rattle.rx_desk.specs.declared.grants.Grants.{Grants}
use Rattle.rx_face.specs.Facing.{HasServed, IsFaceOver}
use Rattle.rx_desk.specs.EventDesks.{EventView}
use Rattle.rx_pump.specs.Desks.{DeskView, KeepsDesk}
use Rattle.rx_workers.specs.Service.{Reception, ServesUntil, Surroundings, reception}
use Rattle.rx_workers.specs.declared.crew.serve_fault.ServeFault.{ServeFault}
use Rattle.rx_workers.specs.declared.crew.serve_fault.ServeFault.TheVariants.{Memory, NoDesk, Thread}

module _ {L M C W : Type 0} (around : Surroundings L M C W) (config : Config) where
  -- a face served by a desk, and left it so
  pub record Faces (desk after : DeskView (ClientSink W)) : Type 0 where
    pub moments : M
    pub epoch : List ℕ
    pub grants : Grants
    pub face : EventView M (ClientSink W)
    pub is_new : IsFaceOver config moments epoch grants desk face
    pub served : HasServed around.workers.tells around.workers.remaining around.workers.contents face after

  -- there was no face, for want of memory or of a thread, and nothing was accepted
  pub record HasNoFace (result : Result (Unit {0}) ServeFault) (place : ℕ) (listener listener_after : L) (desk after : DeskView (ClientSink W)) : Type 0 where
    pub fault : (result ≡ Err Memory) ⊎ (result ≡ Err (Thread place))
    pub untouched : listener_after ≡ listener
    pub kept : KeepsDesk desk after

  -- WHAT BECAME of the connections that were to be served by the desks before the last, which was the face's
  pub record ServesBeside (result : Result (Unit {0}) ServeFault) (before after : Reception L W) : Type 0 where
    pub desks : List (DeskView (ClientSink W))
    pub last : DeskView (ClientSink W)
    pub parts : desks ++ last ∷ [] ≡ before.desks
    pub left : List (DeskView (ClientSink W))
    pub back : DeskView (ClientSink W)
    pub parts_after : left ++ back ∷ [] ≡ after.desks
    pub how : (Faces last back × ServesUntil around config result (reception before.listener desks) (reception after.listener left))
        ⊎ (HasNoFace result (length desks) before.listener after.listener last back × (left ≡ desks))

  -- the same, or nothing was accepted, since there were fewer than two desks, or no memory for a list of them
  abbrev pub ServesIfAble : Result (Unit {0}) ServeFault → Reception L W → L → Type 0
  ServesIfAble result before listener_after =
      (((result ≡ Err NoDesk) ⊎ (result ≡ Err Memory)) × (listener_after ≡ before.listener))
      ⊎ ((after : List (DeskView (ClientSink W))) × ServesBeside result before (reception listener_after after))
