-- One note more was told of.
use Rattle.std.proofs.Common.{◌≡◌, ◌+◌, ◌<◌, ◌++◌, length, take, sym, ap, ◌∙◌, arith}
use Rattle.std.proofs.Math.ListN.{set}
use Rattle.std.proofs.lemmas.List.{length-append}
use Rattle.rx_note.specs.declared.given.Given.{Given}
use Rattle.hazoxe_c.specs.Taking.{head_of, text_of}
use Rattle.hazoxe_c.specs.Batches.{texts_of}
use Rattle.hazoxe_c.proofs.Batches.{texts-more, written-more}
use Rattle.hazoxe_c.proofs.batch.tell_all.Goals as goal

pub loop-i-preserved : goal.loop-i-preserved
loop-i-preserved c =
    let notes = c.args.notes.now in
    let i = c.loop-i.i in
    let given = c.index-notes-i.result in
    let done = c.append-end.ensures in
    let fits = c.if-end-buffer.false in
    let kept = c.loop-i.invariant in
    let before = texts_of (take i notes) in
    let text = text_of given.note in
    let is_note : i < length notes = omega (arith, c.loop-i-test.true, c.min-most.ensures) in
    let is_head : i < length c.args.heads.now = omega (arith, c.loop-i-test.true, c.min-most.ensures) in
    let more : texts_of (take (i + 1) notes) ≡ before ++ text =
    texts-more notes i given is_note ∙ ap (λ (g : Given). before ++ text_of g.note) (sym c.index-notes-i.is) in
    record {
      used = done.end_is ∙ ap (λ n. n + length text) kept.used ∙ sym (length-append before text) ∙ ap length (sym more);
      fits = omega (arith, fits, c.append-end.auto.buffer);
      heads = ap (λ h. set c.loop-i.heads i h) (c.told_note.ensures.head ∙ ap head_of c.index-notes-i.is)
          ∙ written-more head_of notes c.args.heads.now c.loop-i.heads i given is_note is_head kept.heads;
      texts = done.front (omega (arith, fits, c.append-end.auto.buffer)) ∙ ap (λ t. t ++ text) kept.texts ∙ sym more;
    }
