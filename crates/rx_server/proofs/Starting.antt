-- Threads that are started one after another.
use Rattle.std.proofs.Common.{◌≡◌, ◌∙◌, sym, ap, List, [], ◌∷◌, ◌++◌, append_assoc, append-nil, reverse}
use Rattle.std.proofs.lemmas.List.{reverse-append, reverse-reverse}

module _ {X : Type 0} where
  -- of these items, the first one last, some are done, and the others are left
  abbrev pub Started : List X → List X → List X → Type 0
  Started turned done left = done ++ reverse left ≡ reverse turned

  pub started-none : (turned done : List X) → done ≡ [] → Started turned done turned
  started-none turned done none = ap (λ (l : List X). l ++ reverse turned) none

  pub started-one : (turned done after left rest : List X) (x y : X) → left ≡ rest ++ x ∷ [] → after ≡ done ++ y ∷ [] → y ≡ x → Started turned done left → Started turned after rest
  started-one turned done after left rest x y took put same so_far =
      ap (λ (l : List X). l ++ reverse rest) put
      ∙ ap (λ (z : X). (done ++ z ∷ []) ++ reverse rest) same
      ∙ append_assoc done (x ∷ []) (reverse rest)
      ∙ ap (λ (l : List X). done ++ l) (sym (ap reverse took ∙ reverse-append rest (x ∷ [])))
      ∙ so_far

  pub started-all : (all turned done left : List X) → turned ≡ reverse all → left ≡ [] → Started turned done left → done ≡ all
  started-all all turned done left is none so_far =
      sym (append-nil done) ∙ ap (λ (l : List X). done ++ reverse l) (sym none) ∙ so_far ∙ ap reverse is ∙ reverse-reverse all
