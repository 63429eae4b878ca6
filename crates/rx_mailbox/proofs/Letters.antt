-- Laws of shares and of Byes.
use Rattle.std.proofs.Common.{◌≡◌, ◌≢◌, ℕ, true, false, cond, List, [], ◌∷◌, ◌++◌, refl, sym, ap, ◌∙◌, ⊎_elim, eq-eqb, ne_eqb, true≢false}
use Rattle.std.proofs.lemmas.Bool.{or_cases, or_parts}
use Rattle.std.proofs.lemmas.List.{append-nil}
use Rattle.std.proofs.lemmas.List.Elements.{filter-append}
use Rattle.rx_mailbox.specs.declared.letter.Letter.{Letter}
use Rattle.rx_mailbox.specs.Letters.{share, ends, has_bye, NothingAfterBye}

pub end_is_nil : {X : Type 0} (xs ys : List X) → xs ++ ys ≡ [] → ys ≡ []
end_is_nil [] ys e = e
end_is_nil (x ∷ xs) ys e = cc

module _ {B : Type 0} where
  -- a port's share grows by each of its letters
  pub share-own : (port : ℕ) (x : Letter B) (all : List (Letter B)) → x.from ≡ port → share port (all ++ x ∷ []) ≡ share port all ++ x ∷ []
  share-own port x all from =
      filter-append _ all (x ∷ []) ∙ ap (λ b. share port all ++ cond b (x ∷ []) []) (eq-eqb x.from port from)

  -- a letter of another port leaves a port's share as it is
  pub share-other : (port : ℕ) (x : Letter B) (all : List (Letter B)) → x.from ≢ port → share port (all ++ x ∷ []) ≡ share port all
  share-other port x all apart =
      filter-append _ all (x ∷ []) ∙ ap (λ b. share port all ++ cond b (x ∷ []) []) (ne_eqb x.from port apart) ∙ append-nil (share port all)

  -- a letter stands in its port's share
  pub share-front : (x : Letter B) (all : List (Letter B)) → share x.from (x ∷ all) ≡ x ∷ share x.from all
  share-front x all = ap (λ b. cond b (x ∷ share x.from all) (share x.from all)) (eq-eqb x.from x.from refl)

  -- a letter stands in its port's share of a longer list
  pub share-middle : (x : Letter B) (before after : List (Letter B)) → share x.from (before ++ x ∷ after) ≡ share x.from before ++ x ∷ share x.from after
  share-middle x before after = filter-append _ before (x ∷ after) ∙ ap (λ l. share x.from before ++ l) (share-front x after)

  -- where the share of each port is empty, there is no letter
  pub no_letters : (all : List (Letter B)) → ((port : ℕ) → share port all ≡ []) → all ≡ []
  no_letters [] none = refl
  no_letters (x ∷ all) none = let e : x ∷ share x.from all ≡ [] = sym (share-front x all) ∙ none x.from in cc

  -- a port that has not ended may go on
  pub NothingAfterBye-push : (letters : List (Letter B)) (x : Letter B) → has_bye letters ≡ false → NothingAfterBye letters → NothingAfterBye (letters ++ x ∷ [])
  NothingAfterBye-push [] x open_yet h = ((λ _. refl), tt)
  NothingAfterBye-push (y ∷ ys) x open_yet h = let parts = or_parts (ends y.post) (has_bye ys) open_yet in
      ((λ bye. absurd (true≢false (sym bye ∙ parts.0))), NothingAfterBye-push ys x parts.1 h.1)

  -- behind a list with a Bye nothing follows
  pub nothing_after : (letters rest : List (Letter B)) → NothingAfterBye (letters ++ rest) → has_bye letters ≡ true → rest ≡ []
  nothing_after [] rest h bye = absurd (true≢false (sym bye))
  nothing_after (x ∷ xs) rest h bye = ⊎_elim (λ here. end_is_nil xs rest (h.0 here)) (λ later. nothing_after xs rest h.1 later) (or_cases (ends x.post) (has_bye xs) bye)
