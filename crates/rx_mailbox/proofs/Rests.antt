-- What is received of a box whose ports have ended, and what the joining of them shows.
use Rattle.std.proofs.Common.{◌≡◌, ◌+◌, ◌-◌, ◌<◌, ◌^◌, min, ℕ, true, false, true≢false, List, [], ◌∷◌, ◌++◌, length, length-append, refl, sym, ap, ◌∙◌, subst, append_assoc, arith}
use Rattle.std.specs.List.{All, Contains}
use Rattle.std.proofs.lemmas.List.{append-nil, length-map}
use Rattle.std.proofs.lemmas.List.Elements.{All-contains, All-push, All-weaker, Contains-push}
use Rattle.rx_mailbox.specs.declared.letter.batch.Batch.{Batch}
use Rattle.rx_mailbox.specs.declared.letter.Letter.{Letter}
use Rattle.rx_mailbox.specs.declared.letter.Post.TheVariants.{Body}
use Rattle.rx_mailbox.specs.declared.channel.rule.View.{View}
use Rattle.rx_mailbox.specs.Letters.{letter, posts, share, has_bye}
use Rattle.rx_mailbox.specs.Batches.{unpacked}
use Rattle.rx_mailbox.specs.Boxes.{Incoming, Outgoing, HasBye, HasEachBye, incoming, with_letters}
use Rattle.rx_mailbox.specs.Hands.{so_far, IsHand}
use Rattle.rx_mailbox.specs.Passes.{own_of, taken_of, notes_of, IsNoted, IsPort, IsReader, KeepsNotes}
use Rattle.rx_mailbox.specs.Rests.{IsJoined, ReceivesMore}
use Rattle.rx_mailbox.specs.Settling.{IsEachOnce, letter_count}
use Rattle.rx_mailbox.specs.Steps.{noted, Shows}
use Rattle.rx_mailbox.proofs.Batches.{bye_share}
use Rattle.rx_mailbox.proofs.Hands.{empty_handed}
use Rattle.rx_mailbox.proofs.Joins.{found, got_all, joined}

-- the count after more letters
pub counted_all : {B : Type 0} (letters : ℕ) (received came : List (Letter B)) → letters ≡ letter_count received → min (letters + length came) (2 ^ 64 - 1) ≡ letter_count (received ++ came)
counted_all letters received came is = let n : length (received ++ came) ≡ length received + length came = length-append received came in omega arith

module _ {B : Type 0} where
  -- RECEIVING

  -- so far nothing more
  pub received-none : (inbox : Incoming B) → ReceivesMore inbox inbox
  received-none inbox = record { more = []; received = ap (incoming inbox.box inbox.ports) (sym (append-nil inbox.received)); only_missing = λ byes. refl }

  -- where the Bye of each port was received, it is so after nothing more
  still : (before after : Incoming B) (received : ReceivesMore before after) → HasEachBye before → after ≡ before
  still before after received byes =
      received.received ∙ ap (λ (l : List (Letter B)). incoming before.box before.ports (before.received ++ l)) (received.only_missing byes)
      ∙ ap (incoming before.box before.ports) (append-nil before.received)

  -- more, and then more again
  pub received-both : (before between after : Incoming B) → ReceivesMore before between → ReceivesMore between after → ReceivesMore before after
  received-both before between after first then = record {
    more = first.more ++ then.more;
    received =
        then.received ∙ ap (λ (i : Incoming B). incoming i.box i.ports (i.received ++ then.more)) first.received
        ∙ ap (incoming before.box before.ports) (append_assoc before.received first.more then.more);
    only_missing = λ byes.
        let same = subst (λ (i : Incoming B). HasEachBye i) (sym (still before between first byes)) byes in
        ap (λ (l : List (Letter B)). l ++ then.more) (first.only_missing byes) ∙ then.only_missing same;
  }

  -- what came of a port whose Bye had not
  pub received-more : (before after : Incoming B) (from : ℕ) (came : List (Letter B)) → after ≡ with_letters before came → from < before.ports → ¬ HasBye before from → ReceivesMore before after
  received-more before after from came is below open_yet = record { more = came; received = is; only_missing = λ byes. absurd (open_yet (byes from below)) }

  -- and what is in hand
  pub received-hand : (inlet : Incoming B) (from : ℕ) (hand : List B) → IsHand inlet from hand → ReceivesMore (so_far inlet (length hand)) inlet
  received-hand inlet from hand is = record {
    more = posts from hand;
    received = ap (incoming inlet.box inlet.ports) is.whole;
    only_missing = λ byes. ap (posts from) (empty_handed inlet from hand is byes);
  }

  -- the count with what is in hand
  pub counted-hand : (letters : ℕ) (inlet : Incoming B) (from : ℕ) (hand : List B) → IsHand inlet from hand → letters ≡ letter_count (so_far inlet (length hand)).received
      → min (letters + length hand) (2 ^ 64 - 1) ≡ letter_count inlet.received
  counted-hand letters inlet from hand is count =
      let many : length (posts from hand) ≡ length hand = length-map hand (λ body. letter from (Body body)) in
      ap (λ n. min (letters + n) (2 ^ 64 - 1)) (sym many) ∙ counted_all letters (so_far inlet (length hand)).received (posts from hand) count ∙ ap letter_count (sym is.whole)

  -- JOINING

  -- a port that was joined
  pub note_joined : (v w u : View (Batch B)) (port : Outgoing B) (number : ℕ) → IsReader v → IsPort number true w → u ≡ noted v w → number ≡ port.number → unpacked (own_of w) ≡ port.own → IsJoined u port
  note_joined v w u port number reader sender is same own =
      subst (λ (x : View (Batch B)). IsJoined x port) (sym (is ∙ joined v w number true reader sender)) (record {
        own = own_of w;
        noted = subst (λ n. Contains (notes_of v ++ (number, own_of w) ∷ []) (n, own_of w)) same (Contains-push (notes_of v) (number, own_of w));
        ended = sender.bye;
        unpacks = own;
      })

  -- a port stays joined
  joined_still : (v w : View (Batch B)) (port : Outgoing B) → KeepsNotes v w → IsJoined v port → IsJoined w port
  joined_still v w port keeps is = record { own = is.own; noted = keeps.notes (port.number, is.own) is.noted; ended = is.ended; unpacks = is.unpacks }

  pub joined_more : (v w : View (Batch B)) (ports : List (Outgoing B)) (port : Outgoing B) → KeepsNotes v w → IsJoined w port → All (IsJoined v) ports → All (IsJoined w) (ports ++ port ∷ [])
  joined_more v w ports port keeps last joined_yet = All-push (IsJoined w) ports port (All-weaker (IsJoined v) (IsJoined w) (λ p here. joined_still v w p keeps here) ports joined_yet) last

  -- of a port that has not ended no Bye was received
  pub not_received : (v w u : View (Batch B)) (number : ℕ) (queue : List (Letter (Batch B))) → IsReader v → IsPort number false w → u ≡ noted v w → Shows u queue → ¬ (has_bye (share number (unpacked (taken_of v))) ≡ true)
  not_received v w u number queue reader sender is shows bye =
      let came = sym (bye_share number (taken_of v)) ∙ bye in
      true≢false (sym came ∙ ap has_bye (got_all v w u number false queue reader sender is shows came) ∙ sender.bye)

  -- WITH NOTHING IN THE QUEUE

  -- of a port that was joined all that it put was received
  came_all : (v : View (Batch B)) (port : Outgoing B) → IsReader v → Shows v [] → (is : IsJoined v port) → share port.number (taken_of v) ≡ is.own
  came_all v port reader shows is =
      let shown = subst (λ (x : View (Batch B)). Shows x []) reader.view_is shows in
      ap (share port.number) (sym (append-nil (taken_of v)))
      ∙ All-contains (λ (note : ℕ × List (Letter (Batch B))). share note.0 (taken_of v ++ []) ≡ note.1) (notes_of v) (port.number, is.own) shown.1 is.noted

  renoted : (v w : View (Batch B)) (port : Outgoing B) → notes_of w ≡ notes_of v → IsJoined v port → IsJoined w port
  renoted v w port same is =
      record { own = is.own; noted = subst (λ (l : List (ℕ × List (Letter (Batch B)))). Contains l (port.number, is.own)) (sym same) is.noted; ended = is.ended; unpacks = is.unpacks }

  pub noted_all : (v w : View (Batch B)) (ports : List (Outgoing B)) → IsReader w → notes_of w ≡ notes_of v → Shows w [] → All (IsJoined v) ports → All (IsNoted w) ports
  noted_all v w ports reader same shows joined_ports =
      All-weaker (IsJoined v) (IsNoted w)
      (λ port before. let is = renoted v w port same before in record { own = is.own; noted = is.noted; came = came_all w port reader shows is; unpacks = is.unpacks }) ports joined_ports

  -- and of each port of the box the Bye
  pub byes_all : (v w : View (Batch B)) (inbox : Incoming B) (ports : List (Outgoing B)) → IsReader w → notes_of w ≡ notes_of v → Shows w [] → All (IsJoined v) ports
      → inbox.received ≡ unpacked (taken_of w) → IsEachOnce inbox.ports ports → HasEachBye inbox
  byes_all v w inbox ports reader same shows joined_ports received once number below =
      let t = found ports number (once.1 number below) in
      let is = renoted v w t.0 same (All-contains (IsJoined v) ports t.0 joined_ports t.1) in
      ap (λ l. has_bye (share number l)) received ∙ bye_share number (taken_of w) ∙ ap (λ n. has_bye (share n (taken_of w))) (sym t.2)
      ∙ ap has_bye (came_all w t.0 reader shows is) ∙ is.ended
