-- Notes are sent one after another, from a list that has them from the last to the first.
use Rattle.std.proofs.Common.{◌≡◌, ◌∙◌, sym, refl, ap, subst, ℕ, List, [], ◌∷◌, ◌++◌, append_assoc, append-nil, map, reverse}
use Rattle.std.proofs.lemmas.List.{map-append, reverse-append, reverse-reverse}
use Rattle.rx_mailbox.specs.Boxes.{Outgoing}
use Rattle.rx_note.specs.declared.given.Given.{Given}
use Rattle.rx_pump.specs.declared.out.Out.{Out}
use Rattle.rx_pump.specs.Marks.{give}
use Rattle.rx_pump.specs.Sends.{PutsFor, StopsAt}
use Rattle.rx_pump.proofs.Putting.{PutsFor-none, PutsFor-then, StopsAt-then, StopsAt-more}

-- the last of those left comes next
parts-more : (done left : List Given) (given : Given) → done ++ reverse (left ++ given ∷ []) ≡ (done ++ given ∷ []) ++ reverse left
parts-more done left given = ap (λ rest. done ++ rest) (reverse-append left (given ∷ [])) ∙ sym (append_assoc done (given ∷ []) (reverse left))

module _ {S : Type 0} where
  -- of all notes those before the ones that are left were sent
  pub record Gave (all left : List Given) (before after : List (Outgoing (Out S))) : Type 0 where
    pub done : List Given
    pub parts : done ++ reverse left ≡ all
    pub put : PutsFor (map give done) before after

  -- none was sent yet
  pub Gave-none : (left : List Given) (ports : List (Outgoing (Out S))) → Gave (reverse left) left ports ports
  Gave-none left ports = record { done = []; parts = refl; put = PutsFor-none ports }

  -- one more was sent
  pub Gave-more : (all old left : List Given) (given : Given) (a b c : List (Outgoing (Out S)))
      → old ≡ left ++ given ∷ [] → Gave all old a b → PutsFor (give given ∷ []) b c → Gave all left a c
  Gave-more all old left given a b c popped p q = record {
    done = p.done ++ given ∷ [];
    parts = sym (parts-more p.done left given) ∙ ap (λ l. p.done ++ reverse l) (sym popped) ∙ p.parts;
    put = subst (λ (outs : List (Out S)). PutsFor outs a c) (sym (map-append give p.done (given ∷ []))) (PutsFor-then (map give p.done) (give given ∷ []) a b c p.put q);
  }

  -- all were sent
  pub Gave-end : (all left : List Given) (a b : List (Outgoing (Out S))) → left ≡ [] → Gave all left a b → PutsFor (map give all) a b
  Gave-end all left a b none p =
      let done : p.done ≡ all = sym (append-nil p.done) ∙ ap (λ l. p.done ++ reverse l) (sym none) ∙ p.parts in
      subst (λ (given : List Given). PutsFor (map give given) a b) done p.put

  -- the next one stops it
  pub Gave-stop : (all start old left : List Given) (given : Given) (place : ℕ) (a b c : List (Outgoing (Out S)))
      → start ≡ reverse all → old ≡ left ++ given ∷ [] → Gave (reverse start) old a b → StopsAt (give given ∷ []) place b c → StopsAt (map give all) place a c
  Gave-stop all start old left given place a b c turned popped p q =
      let order : p.done ++ given ∷ reverse left ≡ all =
      sym (append_assoc p.done (given ∷ []) (reverse left)) ∙ sym (parts-more p.done left given) ∙ ap (λ l. p.done ++ reverse l) (sym popped)
      ∙ p.parts ∙ ap reverse turned ∙ reverse-reverse all in
      let outs : map give p.done ++ map give (given ∷ reverse left) ≡ map give all = sym (map-append give p.done (given ∷ reverse left)) ∙ ap (map give) order in
      subst (λ (all_outs : List (Out S)). StopsAt all_outs place a c) outs
      (StopsAt-then (map give p.done) _ place a b c p.put (StopsAt-more (give given ∷ []) (map give (reverse left)) place b c q))
