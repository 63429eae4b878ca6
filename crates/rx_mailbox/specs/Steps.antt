-- The steps of a box (this project's own rule). Each is one atomic step of the channel, and changes the view of the pass
-- that makes it; a joining also spends the other pass. A body and a Bye are put alike. An answer that the box is gone
-- changes nothing.
use Rattle.std.specs.Prelude.{◌≡◌, ◌<◌, ◌≤◌, ◌+◌, ℕ, List, [], ◌∷◌, ◌++◌, false}
use Rattle.std.specs.List.{All}
use Rattle.rx_mailbox.specs.declared.letter.Letter.{Letter}
use Rattle.rx_mailbox.specs.declared.channel.rule.View.{View}
use Rattle.rx_mailbox.specs.declared.channel.rule.View.TheVariants.{Sends, Receives, Spent}
use Rattle.rx_mailbox.specs.Letters.{share, has_bye, NothingAfterBye}

module _ {B : Type 0} where
  -- splitting off a port: the inbox's pass has made one more
  abbrev pub one_more : View B → View B
  one_more (Receives made taken notes) = Receives (made + 1) taken notes
  one_more (Sends port own) = Sends port own
  one_more Spent = Spent

  -- splitting off a port: it has the next number, and has put nothing
  abbrev pub new_port : View B → View B
  new_port (Receives made taken notes) = Sends made []
  new_port (Sends port own) = Spent
  new_port Spent = Spent

  -- putting a letter at the back: it is the last of the port's own list
  abbrev pub PutsLetter : View B → Letter B → View B → Type 0
  PutsLetter (Sends port own) x after = after ≡ Sends port (own ++ x ∷ [])
  PutsLetter (Receives made taken notes) x after = ⊥
  PutsLetter Spent x after = ⊥

  -- taking the front letter: it comes from a port of the box that had not ended, and is the last of the received list
  abbrev pub TakesLetter : View B → Letter B → View B → Type 0
  TakesLetter (Receives made taken notes) x after =
      (after ≡ Receives made (taken ++ x ∷ []) notes) × (x.from < made) × (has_bye (share x.from taken) ≡ false)
  TakesLetter (Sends port own) x after = ⊥
  TakesLetter Spent x after = ⊥

  -- joining an ended port: the inbox's pass notes the port's number and own list
  abbrev pub noted : View B → View B → View B
  noted (Receives made taken notes) (Sends port own) = Receives made taken (notes ++ (port, own) ∷ [])
  noted (Receives made taken notes) (Receives _ _ _) = Receives made taken notes
  noted (Receives made taken notes) Spent = Receives made taken notes
  noted (Sends port own) other = Sends port own
  noted Spent other = Spent

  -- reading: what the inbox's pass learns of the queue
  abbrev pub Shows : View B → List (Letter B) → Type 0
  Shows (Receives made taken notes) queue =
      ((port : ℕ) → NothingAfterBye (share port (taken ++ queue)))
      × All (λ note. share note.0 (taken ++ queue) ≡ note.1) notes
      × ((port : ℕ) → made ≤ port → share port (taken ++ queue) ≡ [])
  Shows (Sends port own) queue = ⊥
  Shows Spent queue = ⊥
