-- The rule of a box, which its channel keeps at every moment (this project's own rule).
-- Each port and the inbox have a pass of the channel, by number, and the pass has a view: what its owner knows.
--
-- At every moment, what was taken off a box's channel and then what stands in its queue are all that was ever put there. So
-- for each port whose pass isn't spent, what was taken of that port followed by what stands in the queue of it is all that it
-- put. A port puts at most one Bye, and nothing after it. (each atomic step keeps it.) What is put at once carries one letter
-- or several, in their order: a port's own list is what it put and then what it holds back, of which it tells how many there
-- are (`Outgoing.held`), and the received list is what was taken without what the inbox has in hand, which came last.
use Rattle.std.specs.Prelude.{◌≡◌, ◌<◌, ◌≤◌, ℕ, List, [], ◌++◌, Option, Some, None}
use Rattle.std.specs.List.{All}
use mathlib.Core.Option.{some}
use lib.ListN.{get_elem?}
use Rattle.rx_mailbox.specs.declared.letter.Letter.{Letter}
use Rattle.rx_mailbox.specs.declared.channel.rule.View.{View}
use Rattle.rx_mailbox.specs.declared.channel.rule.View.TheVariants.{Sends, Receives}
use Rattle.rx_mailbox.specs.Letters.{share, NothingAfterBye}

module _ {B : Type 0} where
  -- a pass has this view
  abbrev pub Knows : List (View B) → ℕ → View B → Type 0
  Knows views pass v = get_elem? views pass ≡ some v

  -- The rule: the letters received, followed by those in the queue, are all that were ever put. So of each port whose pass is not
  -- spent, the received letters followed by those in the queue are the port's own list, whole and in its order
  pub record KeepsShares (queue : List (Letter B)) (views : List (View B)) : Type 0 where
    -- the pass of the inbox, the letters that it received, and the unspent pass of each port that has one
    pub reader : ℕ
    pub received : List (Letter B)
    pub seat : ℕ → Option ℕ
    -- a port has put just what the owner of its pass knows
    pub sends : (pass port : ℕ) (own : List (Letter B)) → Knows views pass (Sends port own) → (seat port ≡ Some pass) × (share port (received ++ queue) ≡ own)
    -- the inbox has received just what the owner of its pass knows, which is the only one of its kind
    pub receives : (pass made : ℕ) (taken : List (Letter B)) (notes : List (ℕ × List (Letter B))) → Knows views pass (Receives made taken notes) → (pass ≡ reader) × (taken ≡ received)
    -- a port that was not made has no pass and put nothing
    pub unmade : (pass made : ℕ) (taken : List (Letter B)) (notes : List (ℕ × List (Letter B))) → Knows views pass (Receives made taken notes)
        → (port : ℕ) → made ≤ port → (seat port ≡ None) × (share port (received ++ queue) ≡ [])
    -- a joined port has no pass any more, and put the letters that its note has
    pub noted : (pass made : ℕ) (taken : List (Letter B)) (notes : List (ℕ × List (Letter B))) → Knows views pass (Receives made taken notes)
        → All (λ note. (seat note.0 ≡ None) × (share note.0 (received ++ queue) ≡ note.1) × (note.0 < made)) notes
    -- no port goes on after its Bye
    pub one_bye : (port : ℕ) → NothingAfterBye (share port (received ++ queue))
