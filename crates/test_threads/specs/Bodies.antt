-- What a thread of a test puts.
use Rattle.std.specs.Prelude.{ℕ, List, [], ◌∷◌, ◌++◌, map}
use Rattle.std.specs.List.{range_with_len}
use Rattle.rx_mailbox.specs.declared.letter.Letter.{Letter}
use Rattle.rx_mailbox.specs.declared.letter.Post.TheVariants.{Body, Bye}
use Rattle.rx_mailbox.specs.Letters.{letter}
use Rattle.rx_mailbox.specs.Boxes.{Outgoing, outgoing}

-- the letters of a port with the bodies 0, 1, 2 and so on
abbrev pub bodies_of : ℕ → ℕ → List (Letter ℕ)
bodies_of port bodies = map (λ body. letter port (Body body)) (range_with_len 0 bodies)

-- these, and then the Bye
abbrev pub all_of : ℕ → ℕ → List (Letter ℕ)
all_of port bodies = bodies_of port bodies ++ letter port Bye ∷ []

-- the port when it has put all of these
abbrev pub after_all : Outgoing ℕ → ℕ → Outgoing ℕ
after_all port bodies = outgoing port.box port.number (all_of port.number bodies)
