-- Lists of letters: what one port put, and where a port ends (this project's own rule).
use Rattle.std.specs.Prelude.{◌≡◌, ◌==◌, ℕ, Bool, true, false, List, [], ◌∷◌, map}
use Rattle.std.specs.List.{filter, list_any}
use Rattle.rx_mailbox.specs.declared.letter.Letter.{Letter}
use Rattle.rx_mailbox.specs.declared.letter.Post.{Post}
use Rattle.rx_mailbox.specs.declared.letter.Post.TheVariants.{Body, Bye}

module _ {B : Type 0} where
  -- the letter of a port with this post
  abbrev pub letter : ℕ → Post B → Letter B
  letter from post = record { from = from; post = post }

  -- the letters of a port with these bodies, in their order
  abbrev pub posts : ℕ → List B → List (Letter B)
  posts from bodies = map (λ body. letter from (Body body)) bodies

  -- the share of a port in a list of letters: its own letters, in their order
  abbrev pub share : ℕ → List (Letter B) → List (Letter B)
  share port letters = filter (λ x. x.from == port) letters

  -- does the post end its port?
  abbrev pub ends : Post B → Bool
  ends (Body body) = false
  ends Bye = true

  -- does a Bye stand among the letters?
  abbrev pub has_bye : List (Letter B) → Bool
  has_bye letters = list_any (λ x. ends x.post) letters

  -- behind a Bye stands nothing, so there is one Bye at most
  abbrev pub NothingAfterBye : List (Letter B) → Type 0
  NothingAfterBye [] = Unit {0}
  NothingAfterBye (x ∷ xs) = (ends x.post ≡ true → xs ≡ []) × NothingAfterBye xs
