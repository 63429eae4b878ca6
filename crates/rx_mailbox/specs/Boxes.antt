-- What contracts see of a box: of a port its number and its own list, of an inbox its received list (this project's own
-- rule).
--
-- Mailbox calls: `open` answers `BadSize` exactly where the capacity isn't 1 to 65,536 or the senders aren't 1 to 256, else
-- `Memory`; an opened box has just as many slots as were asked for. `send` puts one letter at the back of the port's own list
-- and leaves nothing held back, or hands the body back and changes no list; `finish` does the same with Bye, or hands the
-- port back. `send_quietly` and `hold` put one letter at the back of the list and may hold it back; `hold_back` holds it back
-- behind just those that were, or hands it back and changes nothing. `ring` and `try_ring` change no list, and answer just
-- whether something is held back. `recv` moves the front letter to the received list; it comes from a port of the box whose
-- Bye had not come; an error changes nothing. `try_recv` does the same and doesn't wait, `recv_within` for a bounded time:
-- their error says whether a letter may still come.
use Rattle.std.specs.Prelude.{◌≡◌, ◌<◌, ◌+◌, ℕ, true, List, [], ◌∷◌, ◌++◌, map}
use Rattle.std.specs.List.{All}
use Rattle.atomic_table.specs.Seated.{TableId}
use Rattle.atomic_table.specs.declared.badge.Badge.{Badge}
use Rattle.crossbeam_channel.specs.declared.flavors.array.Key.{Key}
use Rattle.rx_mailbox.specs.declared.letter.batch.Batch.{Batch}
use Rattle.rx_mailbox.specs.declared.letter.Letter.{Letter}
use Rattle.rx_mailbox.specs.declared.letter.Post.{Post}
use Rattle.rx_mailbox.specs.declared.letter.Post.TheVariants.{Body}
use Rattle.rx_mailbox.specs.Letters.{letter, posts, share, has_bye}

-- which box: all parts that come from one `open` name the same
abbrev pub Box : Type 0 → Type 0
Box B = TableId × Badge (Key (Letter (Batch B)))

-- how many letters the box holds at most: its channel has a slot for each
abbrev pub capacity_of : {B : Type 0} → Box B → ℕ
capacity_of box = box.0.slots

-- a port: its box, its number, the letters that it put, in their order, and how many of the last of them it holds back: they are
-- not in the box yet
pub record Outgoing (B : Type 0) : Type 0 where
  pub box : Box B
  pub number : ℕ
  pub own : List (Letter B)
  pub held : ℕ

-- an inbox: its box, how many ports the box has, and the letters that it received, in their order
pub record Incoming (B : Type 0) : Type 0 where
  pub box : Box B
  pub ports : ℕ
  pub received : List (Letter B)

module _ {B : Type 0} where
  -- the port of this number that put these letters, and holds nothing back
  abbrev pub outgoing : Box B → ℕ → List (Letter B) → Outgoing B
  outgoing box number own = record { box = box; number = number; own = own; held = 0 }

  -- the port, whatever it holds back
  abbrev pub told : Outgoing B → Outgoing B
  told port = outgoing port.box port.number port.own

  -- several ports, whatever they hold back
  abbrev pub all_told : List (Outgoing B) → List (Outgoing B)
  all_told ports = map told ports

  -- the inbox of a box with so many ports that received these letters
  abbrev pub incoming : Box B → ℕ → List (Letter B) → Incoming B
  incoming box ports received = record { box = box; ports = ports; received = received }

  -- the port after one more letter is in the box, with all that it held back
  abbrev pub with_post : Outgoing B → Post B → Outgoing B
  with_post port post = outgoing port.box port.number (port.own ++ letter port.number post ∷ [])

  -- the port after it holds one more body back
  abbrev pub with_held : Outgoing B → B → Outgoing B
  with_held port body = record (with_post port (Body body)) { held = port.held + 1 }

  -- the port after a letter for each of these bodies is in the box, with all that it held back
  abbrev pub with_bodies : List B → Outgoing B → Outgoing B
  with_bodies bodies port = outgoing port.box port.number (port.own ++ posts port.number bodies)

  -- the port after it put a letter for each of these bodies, with as many held back as before
  abbrev pub with_more : List B → Outgoing B → Outgoing B
  with_more bodies port = record port { own = port.own ++ posts port.number bodies }

  -- the inbox after it received these letters
  abbrev pub with_letters : Incoming B → List (Letter B) → Incoming B
  with_letters inbox xs = incoming inbox.box inbox.ports (inbox.received ++ xs)

  -- the inbox after it received one more letter
  abbrev pub with_letter : Incoming B → Letter B → Incoming B
  with_letter inbox x = incoming inbox.box inbox.ports (inbox.received ++ x ∷ [])

  -- the Bye of a port was received
  abbrev pub HasBye : Incoming B → ℕ → Type 0
  HasBye inbox port = has_bye (share port inbox.received) ≡ true

  -- the Bye of each port was received
  abbrev pub HasEachBye : Incoming B → Type 0
  HasEachBye inbox = (port : ℕ) → port < inbox.ports → HasBye inbox port

  -- the ports are of the inbox's box: they come from the same `open`
  abbrev pub AreOf : Incoming B → List (Outgoing B) → Type 0
  AreOf inbox ports = All (λ port. port.box ≡ inbox.box) ports
