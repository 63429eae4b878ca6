-- Why a box does not settle.
use Rattle.std.proofs.Common.{◌≡◌, ◌∙◌, ap, refl, sym, subst, Some, List, [], ◌∷◌, ◌++◌, length, slice_get, take}
use Rattle.std.proofs.Math.Seq.{take-append_seam}
use Rattle.std.proofs.lemmas.Slice.Zip.{AllZip-long}
use Rattle.std.specs.List.{AllZip}
use Rattle.rx_mailbox.specs.Boxes.{Incoming}
use Rattle.rx_mailbox.specs.Passes.{SettledView}
use Rattle.rx_mailbox.specs.Settling.{IsEachOnce}
use Rattle.rx_mailbox.specs.Parts.{CannotSettle, FirstUnsettled, PartsView, Settles}

-- the item behind the first ones
get-seam : {X : Type 0} (xs : List X) (x : X) (ys : List X) → slice_get (xs ++ x ∷ ys) (length xs) ≡ Some x
get-seam [] x ys = refl
get-seam (y ∷ xs) x ys = get-seam xs x ys

module _ {B : Type 0} where
  some-same : {i j : Incoming B} → Some i ≡ Some j → i ≡ j
  some-same same = cc

  -- the inbox that came back is the one that is there
  pub cannot : (parts : PartsView B) (inbox : Incoming B) → parts.inbox ≡ Some inbox → ¬ IsEachOnce inbox.ports parts.ports → CannotSettle parts
  cannot parts inbox came never other is =
      let same : inbox ≡ other = some-same (sym came ∙ is) in
      subst (λ (i : Incoming B). ¬ IsEachOnce i.ports parts.ports) same never

  -- behind those that settled stands one that cannot
  pub first-unsettled : (boxes done rest : List (PartsView B)) (parts : PartsView B) (settled : List (SettledView B)) → done ++ parts ∷ rest ≡ boxes
      → AllZip Settles done settled → CannotSettle parts → FirstUnsettled boxes settled (length settled)
  first-unsettled boxes done rest parts settled are before never =
      let count : length settled ≡ length done = AllZip-long Settles done settled before in
      record {
        before = subst (λ (l : List (PartsView B)). AllZip Settles l settled)
            (sym (take-append_seam done (parts ∷ rest)) ∙ ap (take (length done)) are ∙ ap (λ n. take n boxes) (sym count)) before;
        parts = parts;
        stood = ap (λ n. slice_get boxes n) count ∙ ap (λ (l : List (PartsView B)). slice_get l (length done)) (sym are) ∙ get-seam done parts rest;
        cannot = never;
      }
