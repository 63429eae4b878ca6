-- What an inbox hands out, and what stays in hand.
use Rattle.std.proofs.Common.{◌≡◌, ◌≢◌, ◌+◌, ◌-◌, ◌<◌, ◌^◌, min, ℕ, List, [], ◌∷◌, ◌++◌, Result, Ok, Err, MatchResult, length, take, refl, sym, ap, ◌∙◌, subst, append_assoc, arith}
use Rattle.std.proofs.Math.Seq.{take-append_seam, take-length}
use Rattle.std.proofs.lemmas.List.{length-append, length-map, length_push}
use Rattle.rx_mailbox.specs.declared.letter.Letter.{Letter}
use Rattle.rx_mailbox.specs.declared.letter.Post.TheVariants.{Body}
use Rattle.rx_mailbox.specs.Letters.{letter, posts, share, has_bye}
use Rattle.rx_mailbox.specs.Boxes.{Incoming, incoming, with_letter, with_letters, HasBye, HasEachBye}
use Rattle.rx_mailbox.specs.Hands.{so_far, IsHand}
use Rattle.rx_mailbox.specs.Settling.{letter_count}
use Rattle.rx_mailbox.proofs.Batches.{bye_share-before}

-- the count after one more letter
pub counted_more : {B : Type 0} (letters : ℕ) (received : List (Letter B)) (x : Letter B) → letters ≡ letter_count received → min (letters + 1) (2 ^ 64 - 1) ≡ letter_count (received ++ x ∷ [])
counted_more letters received x is = let n : length (received ++ x ∷ []) ≡ length received + 1 = length_push received x in omega arith

module _ {B : Type 0} where
  -- what is left of a list without its end
  seam : (received front : List (Letter B)) (from : ℕ) (hand : List B) → received ≡ front ++ posts from hand → take (length received - length hand) received ≡ front
  seam received front from hand is =
      let count : length received ≡ length front + length hand = ap length is ∙ length-append front (posts from hand) ∙ ap (λ n. length front + n) (length-map hand (λ body. letter from (Body body))) in
      let short : length received - length hand ≡ length front = omega arith in
      ap (λ n. take n received) short ∙ ap (λ l. take (length front) l) is ∙ take-append_seam front (posts from hand)

  -- the first body in hand is handed out
  pub handed_out : (inlet : Incoming B) (from : ℕ) (body : B) (rest : List B) → IsHand inlet from (body ∷ rest)
      → IsHand inlet from rest × ((so_far inlet (length rest)).received ≡ (so_far inlet (length (body ∷ rest))).received ++ letter from (Body body) ∷ [])
  handed_out inlet from body rest hand =
      let front = (so_far inlet (length (body ∷ rest))).received ++ letter from (Body body) ∷ [] in
      let whole : inlet.received ≡ front ++ posts from rest = hand.whole ∙ sym (append_assoc (so_far inlet (length (body ∷ rest))).received (letter from (Body body) ∷ []) (posts from rest)) in
      let is : (so_far inlet (length rest)).received ≡ front = seam inlet.received front from rest whole in
      (record { whole = whole ∙ ap (λ l. l ++ posts from rest) (sym is); port = λ _. hand.port (λ e. cc) }, is)

  -- an inbox with nothing in hand has handed out all that came
  pub none_in_hand : (inlet : Incoming B) (hand : List B) → hand ≡ [] → so_far inlet (length hand) ≡ inlet
  none_in_hand inlet hand none =
      let all : length inlet.received - 0 ≡ length inlet.received = omega arith in
      ap (λ (l : List B). so_far inlet (length l)) none ∙ ap (λ n. incoming inlet.box inlet.ports (take n inlet.received)) all ∙ ap (λ l. incoming inlet.box inlet.ports l) (take-length inlet.received)

  -- bodies that came at once are taken in hand, where nothing is
  pub hand_filled : (inlet next : Incoming B) (from : ℕ) (hand bodies : List B) → hand ≡ [] → next ≡ with_letters inlet (posts from bodies) → from < inlet.ports → ¬ HasBye inlet from
      → IsHand next from bodies × (so_far next (length bodies) ≡ so_far inlet (length hand))
  hand_filled inlet next from hand bodies none is below open_yet =
      let received : next.received ≡ inlet.received ++ posts from bodies = ap (λ (i : Incoming B). i.received) is in
      let front : (so_far next (length bodies)).received ≡ inlet.received = seam next.received inlet.received from bodies received in
      let bye = ap (λ l. has_bye (share from l)) received ∙ bye_share-before from from inlet.received bodies in (
        record {
          whole = received ∙ ap (λ l. l ++ posts from bodies) (sym front);
          port = λ _. (subst (λ (i : Incoming B). from < i.ports) (sym is) below, λ yes. open_yet (sym bye ∙ yes));
        },
        ap (λ l. incoming next.box next.ports l) front ∙ ap (λ (i : Incoming B). incoming i.box i.ports inlet.received) is ∙ sym (none_in_hand inlet hand none),
      )

  -- the first of the letters that came at once is handed out, and those that follow it are in hand, where nothing was
  pub first_opened : (inlet next : Incoming B) (from : ℕ) (hand rest : List B) (came : List (Letter B)) (x : Letter B) → hand ≡ [] → next ≡ with_letters inlet came → came ≡ x ∷ posts from rest
      → (rest ≢ [] → (bodies : List B) × (came ≡ posts from bodies)) → from < inlet.ports → ¬ HasBye inlet from
      → IsHand next from rest × (so_far next (length rest) ≡ with_letter (so_far inlet (length hand)) x)
  first_opened inlet next from hand rest came x none is opened of_port below open_yet =
      let all : next.received ≡ inlet.received ++ came = ap (λ (i : Incoming B). i.received) is in
      let received : next.received ≡ (inlet.received ++ x ∷ []) ++ posts from rest = all ∙ ap (λ l. inlet.received ++ l) opened ∙ sym (append_assoc inlet.received (x ∷ []) (posts from rest)) in
      let front : (so_far next (length rest)).received ≡ inlet.received ++ x ∷ [] = seam next.received (inlet.received ++ x ∷ []) from rest received in (
        record {
          whole = received ∙ ap (λ l. l ++ posts from rest) (sym front);
          port = λ some.
              let bodies = of_port some in
              let bye = ap (λ l. has_bye (share from l)) (all ∙ ap (λ l. inlet.received ++ l) bodies.1) ∙ bye_share-before from from inlet.received bodies.0 in
              (subst (λ (i : Incoming B). from < i.ports) (sym is) below, λ yes. open_yet (sym bye ∙ yes));
        },
        ap (λ l. incoming next.box next.ports l) front ∙ ap (λ (i : Incoming B). incoming i.box i.ports (inlet.received ++ x ∷ [])) is
            ∙ ap (λ (i : Incoming B). with_letter i x) (sym (none_in_hand inlet hand none)),
      )

  -- what came at once is opened where nothing was in hand: the inbox hands out its first letter, and counts it, unless it has none
  pub opens : {E : Type 0} (inlet next : Incoming B) (from letters count : ℕ) (hand rest : List B) (came : List (Letter B)) (r : Result (Letter B) E) → hand ≡ [] → next ≡ with_letters inlet came
      → MatchResult r (λ x. came ≡ x ∷ posts from rest) (λ _. (came ≡ []) × (rest ≡ []))
      → (rest ≢ [] → (bodies : List B) × (came ≡ posts from bodies)) → from < inlet.ports → ¬ HasBye inlet from
      → letters ≡ letter_count (so_far inlet (length hand)).received
      → MatchResult r (λ _. count ≡ min (letters + 1) (2 ^ 64 - 1)) (λ _. count ≡ letters)
      → (IsHand next from rest × (count ≡ letter_count (so_far next (length rest)).received))
      × MatchResult r (λ x. so_far next (length rest) ≡ with_letter (so_far inlet (length hand)) x) (λ _. so_far next (length rest) ≡ so_far inlet (length hand))
  opens inlet next from letters count hand rest came (Ok x) none is opened of_port below open_yet counts counted =
      let first = first_opened inlet next from hand rest came x none is opened of_port below open_yet in
      ((first.0, counted ∙ counted_more letters (so_far inlet (length hand)).received x counts ∙ ap (λ (i : Incoming B). letter_count i.received) (sym first.1)), first.1)
  opens inlet next from letters count hand rest came (Err e) none is opened of_port below open_yet counts counted =
      let filled = hand_filled inlet next from hand [] none (is ∙ ap (λ l. with_letters inlet l) opened.0) below open_yet in
      let same : so_far next (length rest) ≡ so_far inlet (length hand) = ap (λ (l : List B). so_far next (length l)) opened.1 ∙ filled.1 in
      ((subst (λ (l : List B). IsHand next from l) (sym opened.1) filled.0, counted ∙ counts ∙ ap (λ (i : Incoming B). letter_count i.received) (sym same)), same)

  -- the Byes that were handed out are those that came
  pub byes_of_hand : (inlet : Incoming B) (from : ℕ) (hand : List B) (port : ℕ) → IsHand inlet from hand → has_bye (share port inlet.received) ≡ has_bye (share port (so_far inlet (length hand)).received)
  byes_of_hand inlet from hand port is =
      ap (λ l. has_bye (share port l)) is.whole ∙ bye_share-before port from (so_far inlet (length hand)).received hand

  -- where each port's Bye was handed out nothing is in hand
  pub empty_handed : (inlet : Incoming B) (from : ℕ) (hand : List B) → IsHand inlet from hand → HasEachBye (so_far inlet (length hand)) → hand ≡ []
  empty_handed inlet from [] is byes = refl
  empty_handed inlet from (body ∷ rest) is byes =
      let open_yet = is.port (λ e. cc) in
      absurd (open_yet.1 (byes_of_hand inlet from (body ∷ rest) from is ∙ byes from open_yet.0))
