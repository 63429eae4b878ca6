-- What the letters of a box's channel carry: a port may put several bodies at once (this project's own rule).
use Rattle.std.specs.Prelude.{ℕ, List, [], ◌∷◌}
use Rattle.std.specs.List.{flat_map}
use Rattle.rx_mailbox.specs.declared.letter.batch.Batch.{Batch}
use Rattle.rx_mailbox.specs.declared.letter.batch.Batch.TheVariants.{One, Many}
use Rattle.rx_mailbox.specs.declared.letter.Letter.{Letter}
use Rattle.rx_mailbox.specs.declared.letter.Post.{Post}
use Rattle.rx_mailbox.specs.declared.letter.Post.TheVariants.{Body, Bye}
use Rattle.rx_mailbox.specs.Letters.{letter, posts}

module _ {B : Type 0} where
  -- the bodies of a batch, in their order
  abbrev pub bodies_in : Batch B → List B
  bodies_in (One body) = body ∷ []
  bodies_in (Many bodies) = bodies.items

  -- the letters that a port's post to the channel carries: one for each body, or the Bye
  abbrev pub carried_by : ℕ → Post (Batch B) → List (Letter B)
  carried_by from (Body batch) = posts from (bodies_in batch)
  carried_by from Bye = letter from Bye ∷ []

  -- the letters that a letter of the channel carries
  abbrev pub carried : Letter (Batch B) → List (Letter B)
  carried x = carried_by x.from x.post

  -- the letters that those of the channel carry, in their order
  abbrev pub unpacked : List (Letter (Batch B)) → List (Letter B)
  unpacked letters = flat_map carried letters
