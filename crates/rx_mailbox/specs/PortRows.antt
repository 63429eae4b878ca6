-- What several ports put, each its own bodies, and how they end (this project's own rule).
use Rattle.std.specs.Prelude.{◌≡◌, ◌<◌, ℕ, List, [], ◌∷◌, ◌++◌, length, map, slice_get}
use Rattle.std.specs.Option.{option_map}
use Rattle.rx_mailbox.specs.declared.letter.Post.TheVariants.{Bye}
use Rattle.rx_mailbox.specs.Boxes.{Outgoing, with_post, with_more}

module _ {X : Type 0} where
  -- a port has put nothing
  abbrev pub IsFresh : Outgoing X → Type 0
  IsFresh port = (port.own ≡ []) × (port.held ≡ 0)

  -- the port at each place put its bodies, and nothing else
  pub record Puts (bodies : ℕ → List X) (before after : List (Outgoing X)) : Type 0 where
    pub count : length after ≡ length before
    pub at : (d : ℕ) → slice_get after d ≡ option_map (with_more (bodies d)) (slice_get before d)

  -- the port after its Bye
  abbrev pub with_bye : Outgoing X → Outgoing X
  with_bye port = with_post port Bye

  -- the first of the ports have ended, behind others, and at least one is left
  pub record EndsSome (ports left before after : List (Outgoing X)) : Type 0 where
    pub done : List (Outgoing X)
    pub parts : done ++ left ≡ ports
    pub ended : after ≡ before ++ map with_bye done
    pub some : 0 < length left
