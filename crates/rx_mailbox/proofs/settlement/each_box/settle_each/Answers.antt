use Rattle.std.proofs.Common.{◌≡◌, ◌∙◌, [], ◌∷◌, ◌++◌, sym, ap, subst, length, length-append, append_assoc, List, arith}
use Rattle.std.proofs.lemmas.Slice.Zip.{all_zipped_more}
use Rattle.std.specs.List.{All, AllZip}
use Rattle.std.proofs.lemmas.List.Elements.{All-head, All-tail}
use Rattle.std.specs.Vec.Iter.{into_iter_items}
use Rattle.rx_mailbox.specs.Parts.{AreOfOneBox, FirstUnsettled, Settles}
use Rattle.rx_mailbox.proofs.Causes.{first-unsettled}
use Rattle.rx_mailbox.proofs.settlement.each_box.settle_each.Goals as goal

-- what holds of each holds of the one that stands between others
All-middle : {X : Type 0} (P : X → Type 0) (before : List X) (x : X) (after : List X) → All P (before ++ x ∷ after) → P x
All-middle P [] x after all = All-head P x after all
All-middle P (y ∷ before) x after all = All-middle P before x after (All-tail P y (before ++ x ∷ after) all)

pub settle-requires : goal.settle-requires
settle-requires g c =
    let parts = ap (λ (l : List _). c.loop-parts.yielded ++ l) (sym c.in-Some.ensures.steps.0) ∙ c.loop-parts.invariant.parts in
    All-middle AreOfOneBox c.loop-parts.yielded c.in-Some.parts (into_iter_items c.next.new.self) (subst (All AreOfOneBox) (sym parts) c.requires.parts)

pub loop-parts-preserved : goal.loop-parts-preserved
loop-parts-preserved g c =
    let before = c.loop-parts.invariant in
    let put = c.push_reserved.ensures.items in
    record {
      parts =
          append_assoc c.loop-parts.yielded (c.in-Some.parts ∷ []) (into_iter_items c.next.new.self)
          ∙ ap (λ (l : List _). c.loop-parts.yielded ++ l) (sym c.in-Some.ensures.steps.0) ∙ before.parts;
      settled = subst (λ (l : List _). AllZip Settles (c.loop-parts.yielded ++ c.in-Some.parts ∷ []) l) (sym put)
          (all_zipped_more Settles c.loop-parts.yielded c.loop-parts.settled.items c.in-Some.parts _ before.settled c.in-Some-settle.ensures);
      room = omega (arith, before.room, c.push_reserved.ensures.capacity, ap length put, length-append c.loop-parts.settled.items (c.in-Some-settle.one ∷ []), ap length c.in-Some.ensures.steps.0);
    }

pub returns-in_default : goal.returns-in_default
returns-in_default g c =
    let before = c.loop-parts.invariant in
    let parts = ap (λ (l : List _). c.loop-parts.yielded ++ l) (sym c.in-Some.ensures.steps.0) ∙ before.parts in
    let count : length c.loop-parts.settled.items ≡ c.len.result = omega (arith, c.len.ensures, c.loop-parts.settled.ok) in
    subst (λ n. FirstUnsettled c.args.boxes.items c.loop-parts.settled.items n) count
    (first-unsettled c.args.boxes.items c.loop-parts.yielded (into_iter_items c.next.new.self) c.in-Some.parts c.loop-parts.settled.items parts before.settled c.in_default.ensures)
