-- What letters stand for.
use Rattle.std.proofs.Common.{◌≡◌, ◌∙◌, sym, refl, ap, subst, ℕ, ◌<◌, ◌≤◌, Bool, true, false, nat_lt, if◌then◌else◌, List, [], ◌∷◌, ◌++◌, append-nil, append_assoc, replicate, Option, None, Some, arith}
use Rattle.std.proofs.lemmas.Bool.Decides.{nat_tests}
use Rattle.std.proofs.lemmas.Grind.{flat_map-append}
use Rattle.rx_note.specs.declared.event.Event.{Event}
use Rattle.rx_note.specs.declared.event.Event.TheVariants.{Emit, Join, Request, Dispose}
use Rattle.rx_mailbox.specs.declared.letter.Letter.{Letter}
use Rattle.rx_mailbox.specs.declared.letter.Post.{Post}
use Rattle.rx_mailbox.specs.declared.letter.Post.TheVariants.{Body, Bye}
use Rattle.rx_mailbox.specs.Letters.{letter, posts}
use Rattle.rx_pump.specs.declared.call.Call.{Call}
use Rattle.rx_pump.specs.Opened.{ask, calls_in, opened_post, opened_letter, opened}

either_way : {A : Type 0} (b : Bool) (x y z : A) → x ≡ z → y ≡ z → (if b then x else y) ≡ z
either_way true x y z first second = first
either_way false x y z first second = second

is_below : (n m : ℕ) → n < m → nat_lt n m ≡ true
is_below n m less = grind (arith, nat_tests)

is_not_below : (n m : ℕ) → m ≤ n → nat_lt n m ≡ false
is_not_below n m more = grind (arith, nat_tests)

module _ {S : Type 0} where
  -- one letter more
  pub opened-more : (callers : ℕ) (xs : List (Letter (Call S))) (x : Letter (Call S)) → opened callers (xs ++ x ∷ []) ≡ opened callers xs ++ opened_letter callers x
  opened-more callers xs x = flat_map-append (opened_letter callers) xs (x ∷ []) ∙ ap (λ l. opened callers xs ++ l) (append-nil (opened_letter callers x))

  -- a Bye stands for itself
  pub opened-bye : (callers from : ℕ) → opened_letter {S = S} callers (letter from Bye) ≡ letter from Bye ∷ []
  opened-bye callers from = either_way (nat_lt from callers) _ _ _ refl refl

  -- what comes from a port that is told replies stands for itself
  pub opened-told : (callers from : ℕ) (post : Post (Call S)) → from < callers → opened_letter callers (letter from post) ≡ letter from post ∷ []
  opened-told callers from post less = ap (λ b. if b then letter from post ∷ [] else opened_post from post) (is_below from callers less)

  -- what one stands for that comes from a port that is told no replies
  pub opened-unheard : (callers from : ℕ) (post : Post (Call S)) → callers ≤ from → opened_letter callers (letter from post) ≡ opened_post from post
  opened-unheard callers from post more = ap (λ b. if b then letter from post ∷ [] else opened_post from post) (is_not_below from callers more)

  -- the same where no port is told replies
  pub opened-silent : (from : ℕ) (post : Post (Call S)) → opened_letter 0 (letter from post) ≡ opened_post from post
  opened-silent from post = ap (λ b. if b then letter from post ∷ [] else opened_post from post) (is_not_below from 0 (omega arith))

  -- a call stands for itself that brings a sink, or that asks for no items
  is_one : (ticket : ℕ) (sink : Option S) (event : Event) → ((who n : ℕ) → event ≡ Request who n → sink ≡ None → ⊥) → calls_in ticket sink event ≡ record { ticket = ticket; event = event; sink = sink } ∷ []
  is_one ticket sink (Emit note at) other = refl
  is_one ticket sink (Join policy first at) other = refl
  is_one ticket None (Request who n) other = absurd (other who n refl refl)
  is_one ticket (Some sink) (Request who n) other = refl
  is_one ticket sink (Dispose who) other = refl

  pub opened-other : (callers from : ℕ) (call : Call S) → ((who n : ℕ) → call.event ≡ Request who n → call.sink ≡ None → ⊥) → opened_letter callers (letter from (Body call)) ≡ letter from (Body call) ∷ []
  opened-other callers from call other = either_way (nat_lt from callers) _ _ _ refl (ap (posts from) (is_one call.ticket call.sink call.event other))

  -- a request that is told no reply
  pub opened-asked : (callers from ticket who n : ℕ) → callers ≤ from
      → opened_letter {S = S} callers (letter from (Body (record { ticket = ticket; event = Request who n; sink = None }))) ≡ posts from (replicate n (ask ticket who))
  opened-asked callers from ticket who n more =
      ap (λ b. if b then letter from (Body (record { ticket = ticket; event = Request who n; sink = None })) ∷ [] else posts from (replicate n (ask ticket who))) (is_not_below from callers more)
