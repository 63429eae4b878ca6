-- Whose credit is held back in a log, and after a flush of each sink in which something may wait.
use Rattle.std.proofs.Common.{◌≡◌, ◌∙◌, sym, refl, ap, subst, ℕ, zero, suc, ◌==◌, ◌&&◌, ◌⊎◌, inl, inr, if◌then◌else◌, Bool, true, false, List, [], ◌∷◌, length, drop, Option, Some, None, slice_get, eq-eqb}
use Rattle.std.specs.List.{AllByRecursion, AllZip}
use Rattle.rx_mailbox.specs.declared.letter.Letter.{Letter}
use Rattle.rx_mailbox.specs.declared.letter.Post.{Post}
use Rattle.rx_mailbox.specs.declared.letter.Post.TheVariants.{Body, Bye}
use Rattle.rx_note.specs.declared.note.Note.{Note}
use Rattle.rx_pump.specs.declared.out.Out.{Out}
use Rattle.rx_pump.specs.declared.out.Out.TheVariants.{Attach, Give, Detach}
use Rattle.rx_sink.specs.declared.flow.Flow.{Flow}
use Rattle.rx_sink.specs.declared.flow.Flow.TheVariants.{Clear, Ready, Stuck, Held}
use Rattle.rx_sink.specs.declared.kept.Kept.{Kept}
use Rattle.rx_sink.specs.Acts.{Acts, Step, Takes, Flushes}
use Rattle.rx_sink.specs.Attachments.{Attachment, Mark, Fine, Fault, NoMemory, Ruling, Apart, is_held_back, may_wait, is_of, kept_for, of_others, replaced, with_note, with_flush, paid, by_answer, by_note, by_flush, by_leaving, kept_by, ruled, attached, brought}
use Rattle.rx_sink.specs.KeptSinks.{IsKept}
use Rattle.rx_drain.specs.Credit.{IsPaid, MayOwe}
use Rattle.rx_drain.specs.Logs.{Log, NoLetters, Next, Flush, letters, has_left, letter_change, kept_in}
use Rattle.rx_drain.proofs.Changing.{post_change}
use Rattle.rx_sink.proofs.Apartness.{key_is}
use Rattle.rx_drain.proofs.Taking.{all_append, apart_in}
use Rattle.rx_drain.proofs.Rulings.{GoesOnSo, answer_does, note_does, flush_does, leaving_does, all_ruled}

bool_cases : (b : Bool) → (b ≡ true) ⊎ (b ≡ false)
bool_cases true = inl refl
bool_cases false = inr refl

-- WHAT IS HELD BACK

held_owes : (flow : Flow) (due : ℕ) → is_held_back flow due ≡ true → MayOwe flow
held_owes Clear due is = cc
held_owes Ready due is = cc
held_owes Stuck due is = tt
held_owes Held due is = tt

-- where nothing waits in a sink, it was flushed last
flushed_last : (last : Option Step) → may_wait last ≡ false → (flow : Flow) × (last ≡ Some (Flushes flow))
flushed_last None is = cc
flushed_last (Some (Takes note flow)) is = cc
flushed_last (Some (Flushes flow)) is = (flow, refl)

module _ {S : Type 0} where
  -- nothing is due, or the sink stood so that it may be when it last took a note or was flushed
  abbrev Withheld : Attachment S → Type 0
  Withheld a = (a.due ≡ 0) ⊎ (((note : Note) × (flow : Flow) × (a.last ≡ Some (Takes note flow))) ⊎ ((flow : Flow) × MayOwe flow × (a.last ≡ Some (Flushes flow))))

  withheld_answer : (flow : Flow) (b : Attachment S) → (MayOwe flow → Withheld b) → GoesOnSo Withheld (by_answer flow b)
  withheld_answer flow b owes = answer_does (GoesOnSo Withheld) flow b (λ leaves. tt) (λ held. owes (held_owes flow b.due held)) (inl refl)

  withheld_note : (mark : Mark) (note : Note) (a : Attachment S) → GoesOnSo Withheld (by_note mark note a)
  withheld_note mark note a =
      note_does (GoesOnSo Withheld) mark note a (λ over. tt)
      (λ flow yet. withheld_answer flow (with_note note flow a) (λ owes. inr (inl (note, flow, refl)))) (λ yet. tt)

  withheld_flush : (mark : Mark) (a : Attachment S) → GoesOnSo Withheld (by_flush mark a)
  withheld_flush mark a =
      flush_does (GoesOnSo Withheld) mark a (λ flow. withheld_answer flow (with_flush flow a) (λ owes. inr (inr (flow, owes, refl)))) tt

  withheld_leaving : (a : Attachment S) → GoesOnSo Withheld (by_leaving a)
  withheld_leaving a = leaving_does (GoesOnSo Withheld) a (λ over. tt) (λ yet. tt)

  withheld_attach : (mark : Mark) (a : Attachment S) (o : Option (Attachment S)) (kept : List (Attachment S)) → a.due ≡ 0 → AllByRecursion Withheld kept → AllByRecursion Withheld (attached mark a o kept).kept
  withheld_attach mark a (Some other) kept none all = all
  withheld_attach (Fine flow) a None kept none all = all_append Withheld kept (a ∷ []) all (inl none, tt)
  withheld_attach Fault a None kept none all = all
  withheld_attach NoMemory a None kept none all = all

  withheld_post : (b : Bool) (place from : ℕ) (post : Post (Out S)) (mark : Mark) (kept : List (Attachment S)) → AllByRecursion Withheld kept → AllByRecursion Withheld (post_change b place from post mark kept).kept
  withheld_post true place from (Body out) mark kept all = all
  withheld_post true place from Bye mark kept all = tt
  withheld_post false place from (Body (Attach w sink)) mark kept all = withheld_attach mark (brought place from w sink) (kept_for from w kept) kept refl all
  withheld_post false place from (Body (Give w note)) mark kept all = all_ruled Withheld from w (by_note mark note) _ (kept_for from w kept) kept (withheld_note mark note) all
  withheld_post false place from (Body (Detach w)) mark kept all = all_ruled Withheld from w by_leaving _ (kept_for from w kept) kept withheld_leaving all
  withheld_post false place from Bye mark kept all = all

  withheld_letter : (b : Bool) (leave place : ℕ) (x : Letter (Out S)) (mark : Mark) (kept : List (Attachment S)) → AllByRecursion Withheld kept
      → AllByRecursion Withheld (letter_change b leave place x mark kept).kept
  withheld_letter true leave place x mark kept all = all
  withheld_letter false leave place x mark kept all = withheld_post (x.from == leave) place x.from x.post mark kept all

  -- of each that is kept
  withheld : (leave : ℕ) (log : Log S) → AllByRecursion Withheld (kept_in leave log)
  withheld leave NoLetters = tt
  withheld leave (Next log x mark) = withheld_letter (has_left leave log) leave (length (letters log)) x mark (kept_in leave log) (withheld leave log)
  withheld leave (Flush log s w mark) = all_ruled Withheld s w (by_flush mark) _ (kept_for s w (kept_in leave log)) (kept_in leave log) (withheld_flush mark) (withheld leave log)

  -- and nothing is due of it
  clear_paid : (a : Attachment S) → may_wait a.last ≡ false → Withheld a → IsPaid a
  clear_paid a clear (inl none) = (let last = flushed_last a.last clear in (last.0, last.1, inl none))
  clear_paid a clear (inr (inl (note, flow, is))) = (let no : true ≡ false = sym (ap may_wait is) ∙ clear in cc)
  clear_paid a clear (inr (inr (flow, owes, is))) = (flow, is, inr owes)

-- ONE PLACE

module _ {A B : Type 0} (R : A → B → Type 0) where
  -- what stands at a place of the second list is of what stands there in the first
  zip_at : (xs : List A) (ys : List B) (i : ℕ) (y : B) → AllZip R xs ys → slice_get ys i ≡ Some y → (x : A) × (slice_get xs i ≡ Some x) × R x y
  zip_at [] [] i y zip is = cc
  zip_at [] (v ∷ ys) i y zip is = absurd zip
  zip_at (u ∷ xs) [] i y zip is = absurd zip
  zip_at (u ∷ xs) (v ∷ ys) zero y zip is = (let same : v ≡ y = cc in (u, refl, subst (λ (z : B). R u z) same zip.0))
  zip_at (u ∷ xs) (v ∷ ys) (suc i) y zip is = zip_at xs ys i y zip.1 is

module _ {X : Type 0} (P : X → Type 0) where
  all_at : (xs : List X) (i : ℕ) (x : X) → slice_get xs i ≡ Some x → AllByRecursion P xs → P x
  all_at [] i x is all = cc
  all_at (y ∷ xs) zero x is all = (let same : y ≡ x = cc in subst P same all.0)
  all_at (y ∷ xs) (suc i) x is all = all_at xs i x is all.1

  all_from : (xs : List X) (i : ℕ) (x : X) → slice_get xs i ≡ Some x → P x → AllByRecursion P (drop (suc i) xs) → AllByRecursion P (drop i xs)
  all_from [] i x is here all = cc
  all_from (y ∷ xs) zero x is here all = (let same : y ≡ x = cc in (subst P (sym same) here, all))
  all_from (y ∷ xs) (suc i) x is here all = all_from xs i x is here all

module _ {S : Type 0} (s w : ℕ) where
  -- one of the observer stands at the place, and none before it
  record First (kept : List (Attachment S)) (i : ℕ) (a : Attachment S) : Type 0 where
    pub found : kept_for s w kept ≡ Some a
    pub left_out : drop i (of_others s w kept) ≡ drop (suc i) kept
    pub put_in : (b : Attachment S) → drop i (replaced s w b kept) ≡ b ∷ drop (suc i) kept

  none_there : (kept : List (Attachment S)) (i : ℕ) (a : Attachment S) → slice_get kept i ≡ Some a → is_of s w a ≡ true → kept_for s w kept ≡ None → ⊥
  none_there [] i a is key none = cc
  none_there (c ∷ kept) zero a is key none =
      (let same : c ≡ a = cc in
      let here : Some c ≡ None = sym (ap (λ b. if b then Some c else kept_for s w kept) (ap (λ (d : Attachment S). is_of s w d) same ∙ key)) ∙ none in cc)
  none_there (c ∷ kept) (suc i) a is key none =
      elim (bool_cases (is_of s w c)) [
        | inl test ↦ (let here : Some c ≡ None = sym (ap (λ b. if b then Some c else kept_for s w kept) test) ∙ none in cc)
        | inr test ↦ none_there kept i a is key (sym (ap (λ b. if b then Some c else kept_for s w kept) test) ∙ none)
      ]

  first_here : (c : Attachment S) (kept : List (Attachment S)) → is_of s w c ≡ true → First (c ∷ kept) 0 c
  first_here c kept test = record {
    found = ap (λ b. if b then Some c else kept_for s w kept) test;
    left_out = ap (λ (b : Bool). (if b then kept else c ∷ of_others s w kept)) test;
    put_in = λ b. ap (λ (t : Bool). (if t then b ∷ kept else c ∷ replaced s w b kept)) test;
  }

  first_later : (c a : Attachment S) (kept : List (Attachment S)) (i : ℕ) → is_of s w c ≡ false → First kept i a → First (c ∷ kept) (suc i) a
  first_later c a kept i test f = record {
    found = ap (λ b. if b then Some c else kept_for s w kept) test ∙ f.found;
    left_out = ap (λ (b : Bool). drop (suc i) (if b then kept else c ∷ of_others s w kept)) test ∙ f.left_out;
    put_in = λ b. ap (λ (t : Bool). drop (suc i) (if t then b ∷ kept else c ∷ replaced s w b kept)) test ∙ f.put_in b;
  }

  first : (kept : List (Attachment S)) (i : ℕ) (a : Attachment S) → slice_get kept i ≡ Some a → is_of s w a ≡ true → Apart kept → First kept i a
  first [] i a is key apart = cc
  first (c ∷ kept) zero a is key apart =
      (let same : c ≡ a = cc in subst (λ (d : Attachment S). First (c ∷ kept) 0 d) same (first_here c kept (ap (λ (d : Attachment S). is_of s w d) same ∙ key)))
  first (c ∷ kept) (suc i) a is key apart =
      elim (bool_cases (is_of s w c)) [
        | inl test ↦
            (let k = key_is s w c test in
            let none : kept_for s w kept ≡ None = subst (λ (n : ℕ). kept_for n w kept ≡ None) k.0 (subst (λ (n : ℕ). kept_for c.subject n kept ≡ None) k.1 apart.0) in
            absurd (none_there kept i a is key none))
        | inr test ↦ first_later c a kept i test (first kept i a is key apart.1)
      ]

  -- those from the place on after a ruling about it
  abbrev PaysFrom : List (Attachment S) → ℕ → Ruling S → Type 0
  PaysFrom kept i ruling = AllByRecursion IsPaid (drop i (kept_by s w ruling kept))

  pays_answer : (kept : List (Attachment S)) (i : ℕ) (a b : Attachment S) (flow : Flow) → First kept i a → b.last ≡ Some (Flushes flow)
      → AllByRecursion IsPaid (drop (suc i) kept) → PaysFrom kept i (by_answer flow b)
  pays_answer kept i a b flow f last all =
      answer_does (PaysFrom kept i) flow b (λ leaves. subst (AllByRecursion IsPaid) (sym f.left_out) all)
      (λ held. subst (AllByRecursion IsPaid) (sym (f.put_in b)) ((flow, last, inr (held_owes flow b.due held)), all))
      (subst (AllByRecursion IsPaid) (sym (f.put_in (paid b))) ((flow, last, inl refl), all))

  -- those from the place on are paid where those behind it were
  pub pays_flush : (kept : List (Attachment S)) (i : ℕ) (a : Attachment S) (mark : Mark) → slice_get kept i ≡ Some a → is_of s w a ≡ true → Apart kept
      → AllByRecursion IsPaid (drop (suc i) kept) → AllByRecursion IsPaid (drop i (ruled s w (by_flush mark) (λ b. false) (kept_for s w kept) kept).kept)
  pays_flush kept i a mark is key apart all =
      let f = first kept i a is key apart in
      subst (λ (o : Option (Attachment S)). AllByRecursion IsPaid (drop i (ruled s w (by_flush mark) (λ b. false) o kept).kept)) (sym f.found)
      (flush_does (PaysFrom kept i) mark a (λ flow. pays_answer kept i a (with_flush flow a) flow f refl all) (subst (AllByRecursion IsPaid) (sym f.left_out) all))

module _ {S Rest : Type 0} (acts : Acts S Rest) (leave : ℕ) (log : Log S) (kept : List (Kept S)) (zip : AllZip (IsKept acts) (kept_in leave log) kept) where
  -- a sink in which nothing waits needs no flush
  pub paid_without : (i : ℕ) (one : Kept S) → slice_get kept i ≡ Some one → one.may_wait ≡ false
      → AllByRecursion IsPaid (drop (suc i) (kept_in leave log)) → AllByRecursion IsPaid (drop i (kept_in leave log))
  paid_without i one at clear all =
      let found = zip_at (IsKept acts) (kept_in leave log) kept i one zip at in
      all_from IsPaid (kept_in leave log) i found.0 found.1
      (clear_paid found.0 (sym found.2.waits ∙ clear) (all_at Withheld (kept_in leave log) i found.0 found.1 (withheld leave log))) all

  -- one that was flushed is paid, or stuck
  pub paid_by_flush : (i : ℕ) (one : Kept S) (mark : Mark) → slice_get kept i ≡ Some one
      → AllByRecursion IsPaid (drop (suc i) (kept_in leave log)) → AllByRecursion IsPaid (drop i (kept_in leave (Flush log one.subject one.who mark)))
  paid_by_flush i one mark at all =
      let found = zip_at (IsKept acts) (kept_in leave log) kept i one zip at in
      let a = found.0 in
      let key : is_of one.subject one.who a ≡ true =
      ap (λ b. b && a.who == one.who) (eq-eqb a.subject one.subject (sym found.2.subject)) ∙ eq-eqb a.who one.who (sym found.2.who) in
      pays_flush one.subject one.who (kept_in leave log) i a mark found.1 key (apart_in leave log) all
