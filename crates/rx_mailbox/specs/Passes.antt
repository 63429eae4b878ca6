-- How a port, an inbox and a settled box are kept: by the view of a pass of the box's channel.
--
-- That a settled box is empty can't name what the channel holds. It is said by what the inbox's pass knows once each port's
-- pass was joined into it: wherever the rule of the box holds and a pass knows this, the queue is empty.
use Rattle.std.specs.Prelude.{◌≡◌, ◌<◌, ℕ, Bool, false, List, [], ◌∷◌, ◌++◌, length, slice_index_or}
use Rattle.std.specs.List.{Contains}
use mathlib.Core.Option.{some}
use lib.ListN.{get_elem?}
use Rattle.crossbeam_channel.specs.Claims.{Pass, view}
use Rattle.rx_mailbox.specs.declared.letter.batch.Batch.{Batch}
use Rattle.rx_mailbox.specs.declared.letter.Letter.{Letter}
use Rattle.rx_mailbox.specs.declared.channel.rule.View.{View}
use Rattle.rx_mailbox.specs.declared.channel.rule.View.TheVariants.{Sends, Receives, Spent}
use Rattle.rx_mailbox.specs.Letters.{share, has_bye}
use Rattle.rx_mailbox.specs.Batches.{unpacked}
use Rattle.rx_mailbox.specs.Rule.{KeepsShares}
use Rattle.rx_mailbox.specs.Boxes.{Box, Outgoing, outgoing, Incoming, incoming}

module _ {B : Type 0} where
  -- the letters that a port's view has
  abbrev pub own_of : View B → List (Letter B)
  own_of (Sends port own) = own
  own_of (Receives made taken notes) = []
  own_of Spent = []

  -- how many ports the inbox's view has made
  abbrev pub made_of : View B → ℕ
  made_of (Receives made taken notes) = made
  made_of (Sends port own) = 0
  made_of Spent = 0

  -- the letters that the inbox's view has taken
  abbrev pub taken_of : View B → List (Letter B)
  taken_of (Receives made taken notes) = taken
  taken_of (Sends port own) = []
  taken_of Spent = []

  -- the notes of the inbox's view
  abbrev pub notes_of : View B → List (ℕ × List (Letter B))
  notes_of (Receives made taken notes) = notes
  notes_of (Sends port own) = []
  notes_of Spent = []

  -- the view is that of the port with this number, which put its Bye or did not
  pub record IsPort (number : ℕ) (ended : Bool) (v : View B) : Type 0 where
    pub view_is : v ≡ Sends number (own_of v)
    pub bye : has_bye (own_of v) ≡ ended

  -- the view is the inbox's
  pub record IsReader (v : View B) : Type 0 where
    pub view_is : v ≡ Receives (made_of v) (taken_of v) (notes_of v)

  -- the inbox's view took this letter, of a port whose Bye had not come
  pub record TakesOne (before : View B) (x : Letter B) (after : View B) : Type 0 where
    pub view_is : after ≡ Receives (made_of before) (taken_of before ++ x ∷ []) (notes_of before)
    pub of_port : x.from < made_of before
    pub before_bye : has_bye (share x.from (taken_of before)) ≡ false

  -- wherever the rule holds and a pass has this view, the queue is empty
  abbrev pub LeavesEmpty : View B → Type 0
  LeavesEmpty v = (queue : List (Letter B)) (views : List (View B)) (pass : ℕ) → KeepsShares queue views → get_elem? views pass ≡ some v → queue ≡ []

-- a settled box: which it is, how many ports it has, the letters that its inbox received, and what the inbox's pass knows, into
-- which that of each port was joined
pub record SettledView (B : Type 0) : Type 0 where
  pub box : Box B
  pub ports : ℕ
  pub received : List (Letter B)
  pub knows : View (Batch B)

module _ {B : Type 0} where
  -- the box that a pass belongs to
  abbrev pub box_of : Pass (Letter (Batch B)) (View (Batch B)) → Box B
  box_of pass = (pass.table_id, pass.me.0.of)

  -- the port that a pass is kept for, where it holds nothing back
  abbrev pub port_of : ℕ → Pass (Letter (Batch B)) (View (Batch B)) → Outgoing B
  port_of number pass = outgoing (box_of pass) number (unpacked (own_of (view pass)))

  -- the inbox that a pass is kept for, where it has nothing in hand
  abbrev pub inbox_of : Pass (Letter (Batch B)) (View (Batch B)) → Incoming B
  inbox_of pass = incoming (box_of pass) (made_of (view pass)) (unpacked (taken_of (view pass)))

  -- the settled box that a pass is kept for
  abbrev pub settled_of : Pass (Letter (Batch B)) (View (Batch B)) → SettledView B
  settled_of pass = record { box = box_of pass; ports = made_of (view pass); received = unpacked (taken_of (view pass)); knows = view pass }

  -- the inbox that a settled box had
  abbrev pub inbox_in : SettledView B → Incoming B
  inbox_in settled = incoming settled.box settled.ports settled.received

  -- the port was joined: the inbox's view has a note of all that the port put, and took just that of it
  pub record IsNoted (v : View (Batch B)) (port : Outgoing B) : Type 0 where
    pub own : List (Letter (Batch B))
    pub noted : Contains (notes_of v) (port.number, own)
    pub came : share port.number (taken_of v) ≡ own
    pub unpacks : unpacked own ≡ port.own

  -- the inbox's view is another by notes alone, of which it lost none
  pub record KeepsNotes (before after : View (Batch B)) : Type 0 where
    pub made : made_of after ≡ made_of before
    pub taken : taken_of after ≡ taken_of before
    pub notes : (note : ℕ × List (Letter (Batch B))) → Contains (notes_of before) note → Contains (notes_of after) note

  -- nothing is in a settled box, nor will be: its pass knows of the ports made and the letters received, and wherever the rule
  -- holds and a pass knows this, the queue is empty
  pub record IsEmptied (settled : SettledView B) : Type 0 where
    pub taken : List (Letter (Batch B))
    pub knows_both : settled.knows ≡ Receives settled.ports taken (notes_of settled.knows)
    pub received : settled.received ≡ unpacked taken
    pub queue : LeavesEmpty settled.knows

  -- what the inbox keeps beside its view: whose Byes came
  pub record IsTally (byes : List Bool) (v : View (Batch B)) : Type 0 where
    pub ports : length byes ≡ made_of v
    pub byes_are : (port : ℕ) → port < made_of v → slice_index_or byes port false ≡ has_bye (share port (unpacked (taken_of v)))
