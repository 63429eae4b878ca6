-- Laws of what the letters of a channel carry.
use Rattle.std.proofs.Common.{◌≡◌, ◌≢◌, ◌||◌, ℕ, false, cond, List, [], ◌∷◌, ◌++◌, refl, sym, ap, ◌∙◌, ⊎_elim, eq-eqb, ne_eqb}
use Rattle.std.proofs.Math.Bool.{or-false}
use Rattle.std.proofs.lemmas.Bool.{cases_eq}
use Rattle.std.proofs.lemmas.Grind.{flat_map-append}
use Rattle.std.proofs.lemmas.List.{append-nil}
use Rattle.std.proofs.lemmas.List.Elements.{filter-append}
use Rattle.std.proofs.lemmas.List.Folds.{list_any-append}
use Rattle.rx_mailbox.specs.declared.letter.batch.Batch.{Batch}
use Rattle.rx_mailbox.specs.declared.letter.Letter.{Letter}
use Rattle.rx_mailbox.specs.declared.letter.Post.{Post}
use Rattle.rx_mailbox.specs.declared.letter.Post.TheVariants.{Body, Bye}
use Rattle.rx_mailbox.specs.Letters.{letter, posts, share, ends, has_bye}
use Rattle.rx_mailbox.specs.Batches.{bodies_in, carried, carried_by, unpacked}

module _ {B : Type 0} where
  -- one letter of the channel more
  pub unpacked-more : (xs : List (Letter (Batch B))) (x : Letter (Batch B)) → unpacked (xs ++ x ∷ []) ≡ unpacked xs ++ carried x
  unpacked-more xs x = flat_map-append carried xs (x ∷ []) ∙ ap (λ l. unpacked xs ++ l) (append-nil (carried x))

  -- THE LETTERS OF ONE PORT

  -- the share of their port in letters of bodies is all of them
  share-with : (port : ℕ) (bodies : List B) → share port (posts port bodies) ≡ posts port bodies
  share-with port [] = refl
  share-with port (body ∷ bodies) =
      ap (λ b. cond b (letter port (Body body) ∷ share port (posts port bodies)) (share port (posts port bodies))) (eq-eqb port port refl)
      ∙ ap (λ l. letter port (Body body) ∷ l) (share-with port bodies)

  -- that of another port is none
  share-without : (port from : ℕ) (bodies : List B) → from ≢ port → share port (posts from bodies) ≡ []
  share-without port from [] apart = refl
  share-without port from (body ∷ bodies) apart =
      ap (λ b. cond b (letter from (Body body) ∷ share port (posts from bodies)) (share port (posts from bodies))) (ne_eqb from port apart)
      ∙ share-without port from bodies apart

  -- no Bye stands among letters of bodies
  pub bye-with : (from : ℕ) (bodies : List B) → has_bye (posts from bodies) ≡ false
  bye-with from [] = refl
  bye-with from (body ∷ bodies) = bye-with from bodies

  pub bye_share-with : (port from : ℕ) (bodies : List B) → has_bye (share port (posts from bodies)) ≡ false
  bye_share-with port from bodies = ⊎_elim
      (λ same. ap (λ n. has_bye (share port (posts n bodies))) same ∙ ap has_bye (share-with port bodies) ∙ bye-with port bodies)
      (λ apart. ap has_bye (share-without port from bodies apart))
      (cases_eq from port)

  -- WHAT ONE LETTER OF THE CHANNEL CARRIES

  share-own_post : (port : ℕ) (post : Post (Batch B)) → share port (carried_by port post) ≡ carried_by port post
  share-own_post port (Body batch) = share-with port (bodies_in batch)
  share-own_post port Bye = ap (λ b. cond b (letter port Bye ∷ []) []) (eq-eqb port port refl)

  share-other_post : (port from : ℕ) (post : Post (Batch B)) → from ≢ port → share port (carried_by from post) ≡ []
  share-other_post port from (Body batch) apart = share-without port from (bodies_in batch) apart
  share-other_post port from Bye apart = ap (λ b. cond b (letter from Bye ∷ []) []) (ne_eqb from port apart)

  bye_post : (from : ℕ) (post : Post (Batch B)) → has_bye (carried_by from post) ≡ ends post
  bye_post from (Body batch) = bye-with from (bodies_in batch)
  bye_post from Bye = refl

  -- SHARES AND BYES

  -- the share of a port in what letters of the channel carry is what its share of those carries
  pub share-unpacked : (port : ℕ) (xs : List (Letter (Batch B))) → share port (unpacked xs) ≡ unpacked (share port xs)
  share-unpacked port [] = refl
  share-unpacked port (x ∷ xs) =
      filter-append _ (carried x) (unpacked xs)
      ∙ ⊎_elim
      (λ same. ap (λ l. l ++ share port (unpacked xs)) (ap (λ n. share port (carried_by n x.post)) same ∙ share-own_post port x.post ∙ ap (λ n. carried_by n x.post) (sym same))
      ∙ ap (λ l. carried x ++ l) (share-unpacked port xs)
      ∙ ap (λ b. unpacked (cond b (x ∷ share port xs) (share port xs))) (sym (eq-eqb x.from port same)))
      (λ apart. ap (λ l. l ++ share port (unpacked xs)) (share-other_post port x.from x.post apart)
      ∙ share-unpacked port xs
      ∙ ap (λ b. unpacked (cond b (x ∷ share port xs) (share port xs))) (sym (ne_eqb x.from port apart)))
      (cases_eq x.from port)

  -- a Bye stands among what letters of the channel carry where one stands among those
  pub bye-unpacked : (xs : List (Letter (Batch B))) → has_bye (unpacked xs) ≡ has_bye xs
  bye-unpacked [] = refl
  bye-unpacked (x ∷ xs) =
      list_any-append (λ (y : Letter B). ends y.post) (carried x) (unpacked xs)
      ∙ ap (λ b. b || has_bye (unpacked xs)) (bye_post x.from x.post)
      ∙ ap (λ b. ends x.post || b) (bye-unpacked xs)

  pub bye_share : (port : ℕ) (xs : List (Letter (Batch B))) → has_bye (share port (unpacked xs)) ≡ has_bye (share port xs)
  bye_share port xs = ap has_bye (share-unpacked port xs) ∙ bye-unpacked (share port xs)

  -- a Bye of a port in two lists together
  pub bye_share-append : (port : ℕ) (xs ys : List (Letter B)) → has_bye (share port (xs ++ ys)) ≡ has_bye (share port xs) || has_bye (share port ys)
  bye_share-append port xs ys = ap has_bye (filter-append _ xs ys) ∙ list_any-append (λ (y : Letter B). ends y.post) (share port xs) (share port ys)

  -- letters of bodies hold no Bye
  pub bye_share-before : (port from : ℕ) (xs : List (Letter B)) (bodies : List B) → has_bye (share port (xs ++ posts from bodies)) ≡ has_bye (share port xs)
  bye_share-before port from xs bodies =
      bye_share-append port xs (posts from bodies)
      ∙ ap (λ b. has_bye (share port xs) || b) (bye_share-with port from bodies)
      ∙ or-false (has_bye (share port xs))
