-- What an inbox has in hand: letters that came with others at once, and that it did not hand out yet (this project's own rule).
use Rattle.std.specs.Prelude.{◌≡◌, ◌≢◌, ◌<◌, ◌-◌, ℕ, List, [], ◌++◌, length, take}
use Rattle.rx_mailbox.specs.Letters.{posts}
use Rattle.rx_mailbox.specs.Boxes.{Incoming, incoming, HasBye}

module _ {B : Type 0} where
  -- what was received of all that came, where so many letters are in hand
  abbrev pub so_far : Incoming B → ℕ → Incoming B
  so_far inlet in_hand = incoming inlet.box inlet.ports (take (length inlet.received - in_hand) inlet.received)

  -- these bodies, of a port that has not ended, came last and are in hand
  pub record IsHand (inlet : Incoming B) (from : ℕ) (hand : List B) : Type 0 where
    pub whole : inlet.received ≡ (so_far inlet (length hand)).received ++ posts from hand
    pub port : hand ≢ [] → (from < inlet.ports) × ¬ HasBye inlet from
