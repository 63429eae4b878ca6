use Rattle.std.proofs.Common.{◌≡◌, ◌+◌, ◌-◌, ◌^◌, min, ◌∙◌, refl, sym, ap, true≢false}
use Rattle.crossbeam_channel.specs.Claims.{Pass, view}
use Rattle.rx_mailbox.specs.declared.letter.batch.Batch.{Batch}
use Rattle.rx_mailbox.specs.declared.letter.Letter.{Letter}
use Rattle.rx_mailbox.specs.declared.channel.rule.View.{View}
use Rattle.rx_mailbox.specs.Batches.{carried, unpacked}
use Rattle.rx_mailbox.specs.Boxes.{Box, Incoming, HasBye, incoming, with_letters}
use Rattle.rx_mailbox.specs.Passes.{box_of, inbox_of, made_of, notes_of, taken_of, TakesOne}
use Rattle.rx_mailbox.specs.Settling.{letter_count}
use Rattle.rx_mailbox.proofs.Batches.{bye_share, unpacked-more}
use Rattle.rx_mailbox.proofs.Rests.{counted_all, received-both, received-more, received-none}
use Rattle.rx_mailbox.proofs.Steps.{is_reader}
use Rattle.rx_mailbox.proofs.settlement.rest.take_rest.Goals as goal

abbrev BoxPass : Type 0 → Type 0
BoxPass B = Pass (Letter (Batch B)) (View (Batch B))

module _ {B : Type 0} where
  one_box : (before after : BoxPass B) → after.table_id ≡ before.table_id → after.me.0.of ≡ before.me.0.of → box_of after ≡ box_of before
  one_box before after table key = let made : Box B = box_of after in cc

  -- a letter was taken
  taken_one : (before after : BoxPass B) (x : Letter (Batch B)) → box_of after ≡ box_of before → TakesOne (view before) x (view after) → inbox_of after ≡ with_letters (inbox_of before) (carried x)
  taken_one before after x same takes =
      ap (λ (b : Box B). incoming b (made_of (view after)) (unpacked (taken_of (view after)))) same
      ∙ ap (λ (v : View (Batch B)). incoming (box_of before) (made_of v) (unpacked (taken_of v))) takes.view_is
      ∙ ap (incoming (box_of before) (made_of (view before))) (unpacked-more (taken_of (view before)) x)

  -- none was
  taken_none : (before after : BoxPass B) → box_of after ≡ box_of before → view after ≡ view before → inbox_of after ≡ inbox_of before
  taken_none before after same is =
      ap (λ (b : Box B). incoming b (made_of (view after)) (unpacked (taken_of (view after)))) same
      ∙ ap (λ (v : View (Batch B)). incoming (box_of before) (made_of v) (unpacked (taken_of v))) is

  -- it is of a port whose Bye had not come
  open_yet : (before after : BoxPass B) (x : Letter (Batch B)) → TakesOne (view before) x (view after) → ¬ HasBye (inbox_of before) x.from
  open_yet before after x takes bye = true≢false (sym bye ∙ bye_share x.from (taken_of (view before)) ∙ takes.before_bye)

pub loop-init : goal.loop-init
loop-init g c = record {
  seat = c.requires.seat;
  reader = c.requires.reader;
  received = received-none _;
  notes = refl;
  letters = c.requires.received;
}

pub loop-preserved : goal.loop-preserved
loop-preserved g c =
    let before = c.loop.pass in
    let after = c.take.new.pass in
    let x = c.in-Ok.letter in
    let now = c.loop.invariant in
    let takes = c.in-Ok.ensures.taken in
    let seat = c.take.ensures.pass in
    let same = one_box before after (seat.0 ∙ sym now.seat.0) (seat.1 ∙ sym now.seat.1) in
    let moved = taken_one before after x same takes in
    record {
      seat = seat;
      reader = is_reader _ _ _ _ takes.view_is;
      received = received-both _ _ _ now.received (received-more (inbox_of before) (inbox_of after) x.from (carried x) moved takes.of_port (open_yet before after x takes));
      notes = ap notes_of takes.view_is ∙ now.notes;
      letters = c.saturating_add-letters.ensures ∙ ap (λ n. min (c.loop.letters + n) (2 ^ 64 - 1)) c.carried.ensures ∙ counted_all c.loop.letters (inbox_of before).received (carried x) now.letters ∙ ap (λ (i : Incoming _). letter_count i.received) (sym moved);
    }
