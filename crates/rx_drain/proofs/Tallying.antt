-- The notes of a log are counted.
use Rattle.std.proofs.Common.{◌≡◌, sym, refl, ap, subst, ℕ, ◌+◌, ◌==◌, inl, inr, if◌then◌else◌, Bool, true, false, not, List, [], ◌∷◌, ◌++◌, length, length-append, Option, Some, None, arith}
use Rattle.rx_mailbox.specs.declared.letter.Letter.{Letter}
use Rattle.rx_mailbox.specs.declared.letter.Post.{Post}
use Rattle.rx_mailbox.specs.declared.letter.Post.TheVariants.{Body, Bye}
use Rattle.rx_note.specs.declared.note.Note.{Note}
use Rattle.rx_pump.specs.declared.out.Out.{Out}
use Rattle.rx_pump.specs.declared.out.Out.TheVariants.{Attach, Give, Detach}
use Rattle.rx_sink.specs.declared.flow.Flow.{Flow}
use Rattle.rx_sink.specs.Attachments.{Attachment, Why, Mark, Fine, Fault, NoMemory, Change, Ruling, AsItWas, HoldsBack, PaysAll, LetsGo, PutsAway, is_of, kept_for, of_others, replaced, with_note, with_flush, paid, by_answer, by_taking, by_note, has_taken, by_flush, by_leaving, carried_out, ruled, attached, closed, brought}
use Rattle.rx_drain.specs.Logs.{Log, NoLetters, Next, Flush, letters, has_left, letter_change, kept_in, change, flush_change, gone_in, one_if, taken_in}
use Rattle.rx_drain.proofs.Changing.{post_change}
use Rattle.rx_drain.proofs.Rulings.{one_of, answer_does, flush_does, leaving_does}
use Rattle.rx_drain.specs.Tallies.{notes_taken, notes_of_ended}
use Rattle.rx_drain.proofs.Taking.{some_split}

module _ {S : Type 0} where
  notes_append : (xs ys : List (Attachment S)) → notes_taken (xs ++ ys) ≡ notes_taken xs + notes_taken ys
  notes_append [] ys = (let e : notes_taken ys ≡ 0 + notes_taken ys = omega arith in e)
  notes_append (a ∷ xs) ys = (let ih = notes_append xs ys in omega (arith, ih))

  ended_append : (xs ys : List (Attachment S × Why)) → notes_of_ended (xs ++ ys) ≡ notes_of_ended xs + notes_of_ended ys
  ended_append [] ys = (let e : notes_of_ended ys ≡ 0 + notes_of_ended ys = omega arith in e)
  ended_append (end ∷ xs) ys = (let ih = ended_append xs ys in omega (arith, ih))

  closed_notes : (kept : List (Attachment S)) → notes_of_ended (closed kept) ≡ notes_taken kept
  closed_notes [] = refl
  closed_notes (a ∷ kept) = ap (λ n. length a.taken + n) (closed_notes kept)

  others_step : (s w : ℕ) (c a : Attachment S) (kept : List (Attachment S)) → kept_for s w (c ∷ kept) ≡ Some a
      → (kept_for s w kept ≡ Some a → notes_taken (of_others s w kept) + length a.taken ≡ notes_taken kept)
      → notes_taken (of_others s w (c ∷ kept)) + length a.taken ≡ notes_taken (c ∷ kept)
  others_step s w c a kept is next =
      elim (some_split (is_of s w c) c a (kept_for s w kept) is) [
        | inl (test, same) ↦
            (let e : length c.taken ≡ length a.taken = ap (λ (d : Attachment S). length d.taken) same in
            subst (λ (t : Bool). notes_taken (if t then kept else c ∷ of_others s w kept) + length a.taken ≡ notes_taken (c ∷ kept)) (sym test) (omega (arith, e)))
        | inr (test, later) ↦
            (let ih = next later in
            subst (λ (t : Bool). notes_taken (if t then kept else c ∷ of_others s w kept) + length a.taken ≡ notes_taken (c ∷ kept)) (sym test) (omega (arith, ih)))
      ]

  others_notes : (s w : ℕ) (a : Attachment S) (kept : List (Attachment S)) → kept_for s w kept ≡ Some a → notes_taken (of_others s w kept) + length a.taken ≡ notes_taken kept
  others_notes s w a [] is = cc
  others_notes s w a (c ∷ kept) is = others_step s w c a kept is (others_notes s w a kept)

  replaced_step : (s w : ℕ) (c a b : Attachment S) (kept : List (Attachment S)) → kept_for s w (c ∷ kept) ≡ Some a
      → (kept_for s w kept ≡ Some a → notes_taken (replaced s w b kept) + length a.taken ≡ notes_taken kept + length b.taken)
      → notes_taken (replaced s w b (c ∷ kept)) + length a.taken ≡ notes_taken (c ∷ kept) + length b.taken
  replaced_step s w c a b kept is next =
      elim (some_split (is_of s w c) c a (kept_for s w kept) is) [
        | inl (test, same) ↦
            (let e : length c.taken ≡ length a.taken = ap (λ (d : Attachment S). length d.taken) same in
            subst (λ (t : Bool). notes_taken (if t then b ∷ kept else c ∷ replaced s w b kept) + length a.taken ≡ notes_taken (c ∷ kept) + length b.taken) (sym test) (omega (arith, e)))
        | inr (test, later) ↦
            (let ih = next later in
            subst (λ (t : Bool). notes_taken (if t then b ∷ kept else c ∷ replaced s w b kept) + length a.taken ≡ notes_taken (c ∷ kept) + length b.taken) (sym test) (omega (arith, ih)))
      ]

  replaced_notes : (s w : ℕ) (a b : Attachment S) (kept : List (Attachment S)) → kept_for s w kept ≡ Some a
      → notes_taken (replaced s w b kept) + length a.taken ≡ notes_taken kept + length b.taken
  replaced_notes s w a b [] is = cc
  replaced_notes s w a b (c ∷ kept) is = replaced_step s w c a b kept is (replaced_notes s w a b kept)

  -- what is kept or has ended after a letter took what was kept before took, and what was taken by the letter
  abbrev Adds : List (Attachment S) → Change S → Type 0
  Adds kept c = notes_taken c.kept + notes_of_ended c.gone ≡ notes_taken kept + one_if c.took

  adds_attach : (place from w : ℕ) (sink : S) (mark : Mark) (o : Option (Attachment S)) (kept : List (Attachment S)) → Adds kept (attached mark (brought place from w sink) o kept)
  adds_attach place from w sink mark (Some other) kept = refl
  adds_attach place from w sink (Fine flow) None kept = (let e = notes_append kept (brought place from w sink ∷ []) in omega (arith, e))
  adds_attach place from w sink Fault None kept = refl
  adds_attach place from w sink NoMemory None kept = refl

  -- what the attachment has come to took a note more, or none
  abbrev Took : Attachment S → Bool → Ruling S → Type 0
  Took a took AsItWas = one_if took ≡ 0
  Took a took (HoldsBack b) = length b.taken ≡ length a.taken + one_if took
  Took a took (PaysAll b) = length b.taken ≡ length a.taken + one_if took
  Took a took (LetsGo b) = length b.taken ≡ length a.taken + one_if took
  Took a took (PutsAway b why) = length b.taken ≡ length a.taken + one_if took

  took_answer : (flow : Flow) (a b : Attachment S) (took : Bool) → length b.taken ≡ length a.taken + one_if took → Took a took (by_answer flow b)
  took_answer flow a b took is = answer_does (Took a took) flow b (λ leaves. is) (λ held. is) is

  took_taking : (mark : Mark) (note : Note) (a : Attachment S) → a.over ≡ false → Took a (has_taken mark a) (by_taking mark note a)
  took_taking (Fine flow) note a yet =
      (let one : one_if (not a.over) ≡ 1 = ap (λ b. one_if (not b)) yet in
      let more = length-append a.taken (note ∷ []) in
      took_answer flow a (with_note note flow a) (not a.over) (omega (arith, one, more)))
  took_taking Fault note a yet = omega arith
  took_taking NoMemory note a yet = omega arith

  took_nothing : (mark : Mark) (a : Attachment S) → a.over ≡ true → one_if (has_taken mark a) ≡ 0
  took_nothing (Fine flow) a over = ap (λ b. one_if (not b)) over
  took_nothing Fault a over = refl
  took_nothing NoMemory a over = refl

  took_note : (mark : Mark) (note : Note) (a : Attachment S) → Took a (has_taken mark a) (by_note mark note a)
  took_note mark note a = one_of (Took a (has_taken mark a)) a.over AsItWas (by_taking mark note a) (took_nothing mark a) (took_taking mark note a)

  took_flush : (mark : Mark) (a : Attachment S) → Took a false (by_flush mark a)
  took_flush mark a = flush_does (Took a false) mark a (λ flow. took_answer flow a (with_flush flow a) false (omega arith)) (omega arith)

  took_leaving : (a : Attachment S) → Took a false (by_leaving a)
  took_leaving a = leaving_does (Took a false) a (λ over. omega arith) (λ yet. omega arith)

  adds_ruling : (s w : ℕ) (ruling : Ruling S) (took : Bool) (a : Attachment S) (kept : List (Attachment S)) → kept_for s w kept ≡ Some a → Took a took ruling → Adds kept (carried_out s w ruling took kept)
  adds_ruling s w AsItWas took a kept is more = omega (arith, more)
  adds_ruling s w (HoldsBack b) took a kept is more = (let e = replaced_notes s w a b kept is in omega (arith, e, more))
  adds_ruling s w (PaysAll b) took a kept is more = (let e = replaced_notes s w a (paid b) kept is in omega (arith, e, more))
  adds_ruling s w (LetsGo b) took a kept is more = (let e = others_notes s w a kept is in omega (arith, e, more))
  adds_ruling s w (PutsAway b why) took a kept is more = (let e = others_notes s w a kept is in omega (arith, e, more))

  adds_ruled : (s w : ℕ) (rule : Attachment S → Ruling S) (took : Attachment S → Bool) (o : Option (Attachment S)) (kept : List (Attachment S)) → kept_for s w kept ≡ o
      → ((a : Attachment S) → Took a (took a) (rule a)) → Adds kept (ruled s w rule took o kept)
  adds_ruled s w rule took None kept is more = refl
  adds_ruled s w rule took (Some a) kept is more = adds_ruling s w (rule a) (took a) a kept is (more a)

  adds_post : (b : Bool) (place from : ℕ) (post : Post (Out S)) (mark : Mark) (kept : List (Attachment S)) → Adds kept (post_change b place from post mark kept)
  adds_post true place from (Body out) mark kept = refl
  adds_post true place from Bye mark kept = (let e = closed_notes kept in omega (arith, e))
  adds_post false place from Bye mark kept = refl
  adds_post false place from (Body (Attach w sink)) mark kept = adds_attach place from w sink mark (kept_for from w kept) kept
  adds_post false place from (Body (Give w note)) mark kept = adds_ruled from w (by_note mark note) (has_taken mark) (kept_for from w kept) kept refl (took_note mark note)
  adds_post false place from (Body (Detach w)) mark kept = adds_ruled from w by_leaving (λ a. false) (kept_for from w kept) kept refl took_leaving

  adds_letter : (b : Bool) (leave place : ℕ) (x : Letter (Out S)) (mark : Mark) (kept : List (Attachment S)) → Adds kept (letter_change b leave place x mark kept)
  adds_letter true leave place x mark kept = refl
  adds_letter false leave place x mark kept = adds_post (x.from == leave) place x.from x.post mark kept

  pub each_note_counts : (leave : ℕ) (log : Log S) → taken_in leave log ≡ notes_taken (kept_in leave log) + notes_of_ended (gone_in leave log)
  each_note_counts leave NoLetters = refl
  each_note_counts leave (Next log x mark) =
      let c = change leave log x mark in
      let before = each_note_counts leave log in
      let step = adds_letter (has_left leave log) leave (length (letters log)) x mark (kept_in leave log) in
      let gone = ended_append (gone_in leave log) c.gone in
      omega (arith, before, step, gone)
  each_note_counts leave (Flush log s w mark) =
      let c = flush_change leave log s w mark in
      let before = each_note_counts leave log in
      let step = adds_ruled s w (by_flush mark) (λ a. false) (kept_for s w (kept_in leave log)) (kept_in leave log) refl (took_flush mark) in
      let gone = ended_append (gone_in leave log) c.gone in
      omega (arith, before, step, gone)
