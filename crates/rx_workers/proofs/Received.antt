-- What a worker received, by its deeds.
use Rattle.std.proofs.Common.{◌≡◌, ◌∙◌, sym, refl, ap, subst, ℕ, ◌<◌, ◌==◌, true, List, [], ◌∷◌, ◌++◌, append_assoc, append-nil, Option, arith}
use Rattle.std.specs.List.{All}
use Rattle.std.proofs.lemmas.List.Elements.{All-head, All-tail, All-push, All-same}
use Rattle.rx_mailbox.specs.Boxes.{Incoming, with_letter}
use Rattle.rx_mailbox.specs.Letters.{letter, share, posts}
use Rattle.rx_mailbox.specs.declared.letter.Letter.{Letter}
use Rattle.rx_mailbox.specs.declared.letter.Post.{Post}
use Rattle.rx_mailbox.specs.declared.letter.Post.TheVariants.{Body, Bye}
use Rattle.rx_workers.specs.Working.{State, Deed, Admitted, GivenUp, Dismissed, Abandoned, Begun, LetGo, Turned, Parted, came, Works}

module _ {X : Type 0} where
  -- the body of a letter, if it has one
  abbrev body_in : Post X → List X
  body_in (Body x) = x ∷ []
  body_in Bye = []

  -- the bodies of letters
  abbrev pub bodies : List (Letter X) → List X
  bodies [] = []
  bodies (x ∷ letters) = body_in x.post ++ bodies letters

  bodies-append : (first more : List (Letter X)) → bodies (first ++ more) ≡ bodies first ++ bodies more
  bodies-append [] more = refl
  bodies-append (x ∷ first) more =
      ap (λ (xs : List X). body_in x.post ++ xs) (bodies-append first more) ∙ sym (append_assoc (body_in x.post) (bodies first) (bodies more))

  -- of these bodies and a Bye
  pub bodies-posts : (xs : List X) → bodies (posts 0 xs ++ letter 0 Bye ∷ []) ≡ xs
  bodies-posts [] = refl
  bodies-posts (x ∷ xs) = ap (λ (ys : List X). x ∷ ys) (bodies-posts xs)

  -- a letter came by a port below a number
  abbrev pub IsFrom : ℕ → Letter X → Type 0
  IsFrom ports x = x.from < ports

  -- where all letters came by one port, its share is all
  pub share-all : (letters : List (Letter X)) → All (IsFrom 1) letters → share 0 letters ≡ letters
  share-all [] all = refl
  share-all (x ∷ letters) all =
      let first : x.from ≡ 0 = (let known : x.from < 1 = All-head (IsFrom 1) x letters all in omega (arith, known)) in
      let is : (x.from == 0) ≡ true = ap (λ (n : ℕ). n == 0) first in
      rw is (ap (λ (l : List (Letter X)). x ∷ l) (share-all letters (All-tail (IsFrom 1) x letters all)))

module _ {M C W : Type 0} (tells : M → ℕ → M → Type 0) (remaining : C → Option (List ℕ)) (contents : W → Option (List ℕ)) where
  -- what deeds did to an inbox
  pub record HasReceived (deeds : List (Deed (C × W))) (before after : Incoming (C × W)) : Type 0 where
    pub box : after.box ≡ before.box
    pub ports : after.ports ≡ before.ports
    pub from : All (IsFrom before.ports) before.received → All (IsFrom before.ports) after.received
    pub bodies_are : bodies after.received ≡ bodies before.received ++ came deeds

  -- a letter came by a port of the box
  goes_with : (deeds : List (Deed (C × W))) (deed : Deed (C × W)) (xs : List (C × W)) (before mid after : Incoming (C × W)) (post : Post (C × W)) (from : ℕ)
      → body_in post ≡ xs → came (deed ∷ deeds) ≡ came deeds ++ xs → from < mid.ports → after ≡ with_letter mid (letter from post) → HasReceived deeds before mid → HasReceived (deed ∷ deeds) before after
  goes_with deeds deed xs before mid after post from body_is came_is of_box is g = record {
    box = ap (λ (i : Incoming (C × W)). i.box) is ∙ g.box;
    ports = ap (λ (i : Incoming (C × W)). i.ports) is ∙ g.ports;
    from = λ all.
        All-same (IsFrom before.ports) after.received (mid.received ++ letter from post ∷ []) (ap (λ (i : Incoming (C × W)). i.received) is)
        (All-push (IsFrom before.ports) mid.received (letter from post) (g.from all) (subst (λ (n : ℕ). from < n) g.ports of_box));
    bodies_are =
        ap (λ (i : Incoming (C × W)). bodies i.received) is
        ∙ bodies-append mid.received (letter from post ∷ [])
        ∙ ap (λ (ys : List (C × W)). bodies mid.received ++ ys) (append-nil (body_in post) ∙ body_is)
        ∙ ap (λ (ys : List (C × W)). ys ++ xs) g.bodies_are
        ∙ append_assoc (bodies before.received) (came deeds) xs
        ∙ ap (λ (ys : List (C × W)). bodies before.received ++ ys) (sym came_is);
  }

  -- nothing came by this deed
  goes_same : (deed : Deed (C × W)) (deeds : List (Deed (C × W))) (before mid after : Incoming (C × W)) → came (deed ∷ deeds) ≡ came deeds → after ≡ mid → HasReceived deeds before mid → HasReceived (deed ∷ deeds) before after
  goes_same deed deeds before mid after came_is same g = record {
    box = ap (λ (i : Incoming (C × W)). i.box) same ∙ g.box;
    ports = ap (λ (i : Incoming (C × W)). i.ports) same ∙ g.ports;
    from = λ all. subst (λ (i : Incoming (C × W)). All (IsFrom before.ports) i.received) (sym same) (g.from all);
    bodies_are = ap (λ (i : Incoming (C × W)). bodies i.received) same ∙ g.bodies_are ∙ ap (λ (ys : List (C × W)). bodies before.received ++ ys) (sym came_is);
  }

  -- what came, by all deeds
  pub works_came : (deeds : List (Deed (C × W))) (before after : State M C W) → Works tells remaining contents deeds before after → HasReceived deeds before.inbox after.inbox
  works_came [] before after w =
      subst (λ (s : State M C W). HasReceived [] before.inbox s.inbox) (sym w)
      (record { box = refl; ports = refl; from = λ all. all; bodies_are = sym (append-nil (bodies before.inbox.received)) })
  works_came (Admitted x place ∷ deeds) before after w =
      goes_with deeds (Admitted x place) (x ∷ []) before.inbox w.0.inbox after.inbox (Body x) w.2.0.from refl refl w.2.0.of_box w.2.0.inbox (works_came deeds before w.0 w.1)
  works_came (GivenUp x ∷ deeds) before after w =
      goes_with deeds (GivenUp x) (x ∷ []) before.inbox w.0.inbox after.inbox (Body x) w.2.0.from refl refl w.2.0.of_box w.2.0.inbox (works_came deeds before w.0 w.1)
  works_came (Dismissed ∷ deeds) before after w =
      goes_with deeds Dismissed [] before.inbox w.0.inbox after.inbox Bye w.2.0.from refl (sym (append-nil (came deeds))) w.2.0.of_box w.2.0.inbox (works_came deeds before w.0 w.1)
  works_came (Abandoned ∷ deeds) before after w =
      goes_same Abandoned deeds before.inbox w.0.inbox after.inbox refl (ap (λ (s : State M C W). s.inbox) w.2) (works_came deeds before w.0 w.1)
  works_came (Begun x place ∷ deeds) before after w =
      goes_same (Begun x place) deeds before.inbox w.0.inbox after.inbox refl (ap (λ (s : State M C W). s.inbox) w.2.1) (works_came deeds before w.0 w.1)
  works_came (LetGo x place ∷ deeds) before after w =
      goes_same (LetGo x place) deeds before.inbox w.0.inbox after.inbox refl (ap (λ (s : State M C W). s.inbox) w.2.1) (works_came deeds before w.0 w.1)
  works_came (Turned place ∷ deeds) before after w = goes_same (Turned place) deeds before.inbox w.0.inbox after.inbox refl w.2.inbox (works_came deeds before w.0 w.1)
  works_came (Parted place ∷ deeds) before after w = goes_same (Parted place) deeds before.inbox w.0.inbox after.inbox refl w.2.3 (works_came deeds before w.0 w.1)
