-- What the letters of one port stand for.
use Rattle.std.proofs.Common.{◌≡◌, ◌∙◌, sym, refl, ap, subst, ℕ, ◌<◌, ◌≤◌, ◌==◌, nat_lt, if◌then◌else◌, Bool, true, false, List, [], ◌∷◌, ◌++◌, inl, inr}
use Rattle.std.proofs.lemmas.Bool.Decides.{eqb_tells}
use Rattle.std.proofs.lemmas.List.Elements.{filter-append}
use Rattle.rx_mailbox.specs.declared.letter.Letter.{Letter}
use Rattle.rx_mailbox.specs.declared.letter.Post.{Post}
use Rattle.rx_mailbox.specs.declared.letter.Post.TheVariants.{Body, Bye}
use Rattle.rx_mailbox.specs.Letters.{letter, posts, share}
use Rattle.rx_pump.specs.declared.call.Call.{Call}
use Rattle.rx_pump.specs.Opened.{opened, opened_letter, opened_post}
use Rattle.rx_pump.proofs.Opening.{opened-silent, opened-told, opened-unheard}

module _ {S : Type 0} where
  -- of letters of one port all or none are in a share
  share-posts : (p from : ℕ) (calls : List (Call S)) (b : Bool) → (from == p) ≡ b → share p (posts from calls) ≡ (if b then posts from calls else [])
  share-posts p from [] true test = refl
  share-posts p from [] false test = refl
  share-posts p from (call ∷ calls) true test = rw test (ap (λ l. letter from (Body call) ∷ l) (share-posts p from calls true test))
  share-posts p from (call ∷ calls) false test = rw test (share-posts p from calls false test)

  share-post : (p from : ℕ) (post : Post (Call S)) (b : Bool) → (from == p) ≡ b → share p (opened_post from post) ≡ (if b then opened_post from post else [])
  share-post p from (Body call) b test = share-posts p from _ b test
  share-post p from Bye true test = rw test refl
  share-post p from Bye false test = rw test refl

  share-either : (p : ℕ) (x : Letter (Call S)) (b told : Bool) → (x.from == p) ≡ b
      → share p (if told then x ∷ [] else opened_post x.from x.post) ≡ (if b then (if told then x ∷ [] else opened_post x.from x.post) else [])
  share-either p x true true test = rw test refl
  share-either p x false true test = rw test refl
  share-either p x true false test = share-post p x.from x.post true test
  share-either p x false false test = share-post p x.from x.post false test

  -- the share of what letters stand for is what the share of them stands for
  pub share-opened : (p callers : ℕ) (xs : List (Letter (Call S))) → share p (opened callers xs) ≡ opened callers (share p xs)
  share-opened p callers [] = refl
  share-opened p callers (x ∷ xs) =
      filter-append (λ (y : Letter (Call S)). y.from == p) (opened_letter callers x) (opened callers xs)
      ∙ elim (eqb_tells x.from p) [
        | inl (test, same) ↦
            (let here : share p (opened_letter callers x) ≡ opened_letter callers x = share-either p x true (nat_lt x.from callers) test in
            rw test (ap (λ l. l ++ share p (opened callers xs)) here ∙ ap (λ l. opened_letter callers x ++ l) (share-opened p callers xs)))
        | inr (test, other) ↦
            (let here : share p (opened_letter callers x) ≡ [] = share-either p x false (nat_lt x.from callers) test in
            rw test (ap (λ l. l ++ share p (opened callers xs)) here ∙ share-opened p callers xs))
      ]

  -- of a port that is told replies each stands for itself
  pub told-share : (p callers : ℕ) (xs : List (Letter (Call S))) → p < callers → opened callers (share p xs) ≡ share p xs
  told-share p callers [] less = refl
  told-share p callers (x ∷ xs) less =
      elim (eqb_tells x.from p) [
        | inl (test, same) ↦
            rw test (ap (λ l. l ++ opened callers (share p xs)) (opened-told callers x.from x.post (subst (λ (n : ℕ). n < callers) (sym same) less)) ∙ ap (λ l. x ∷ l) (told-share p callers xs less))
        | inr (test, other) ↦ rw test (told-share p callers xs less)
      ]

  -- of one that is told none it makes no difference how many others are
  pub silent-share : (p callers : ℕ) (xs : List (Letter (Call S))) → callers ≤ p → opened callers (share p xs) ≡ opened 0 (share p xs)
  silent-share p callers [] more = refl
  silent-share p callers (x ∷ xs) more =
      elim (eqb_tells x.from p) [
        | inl (test, same) ↦
            (let here : opened_letter callers x ≡ opened_letter 0 x = opened-unheard callers x.from x.post (subst (λ (n : ℕ). callers ≤ n) (sym same) more) ∙ sym (opened-silent x.from x.post) in
            rw test (ap (λ l. l ++ opened callers (share p xs)) here ∙ ap (λ l. opened_letter 0 x ++ l) (silent-share p callers xs more)))
        | inr (test, other) ↦ rw test (silent-share p callers xs more)
      ]
