-- What the rules of one attachment may say of it, case by case, and what that makes of the list of all that are kept.
use Rattle.std.proofs.Common.{◌≡◌, refl, ℕ, ◌&&◌, if◌then◌else◌, Bool, true, false, List, [], ◌∷◌, Option, Some, None}
use Rattle.std.specs.List.{AllByRecursion}
use Rattle.rx_note.specs.declared.note.Note.{Note}
use Rattle.rx_sink.specs.declared.flow.Flow.{Flow}
use Rattle.rx_sink.specs.Attachments.{Attachment, TookLast, FailedAt, FailedAtFlush, Mark, Fine, Fault, NoMemory, Ruling, AsItWas, HoldsBack, PaysAll, LetsGo, PutsAway, is_clear, is_held_back, with_note, with_flush, paid, by_answer, by_taking, by_note, by_flush, by_leaving, is_of, of_others, replaced, kept_by, ruled}

-- of two things one, by a test
pub one_of : {D : Type 0} (P : D → Type 0) (b : Bool) (x y : D) → (b ≡ true → P x) → (b ≡ false → P y) → P (if b then x else y)
one_of P true x y first second = first refl
one_of P false x y first second = second refl

-- WHAT THE RULES MAY DO

module _ {S : Type 0} (P : Ruling S → Type 0) where
  -- by an answer
  pub answer_does : (flow : Flow) (a : Attachment S) → ((a.over && is_clear flow) ≡ true → P (PutsAway a TookLast)) → (is_held_back flow a.due ≡ true → P (HoldsBack a)) → P (PaysAll a) → P (by_answer flow a)
  answer_does flow a ends holds pays =
      one_of P (a.over && is_clear flow) (PutsAway a TookLast) (if is_held_back flow a.due then HoldsBack a else PaysAll a) ends
      (λ goes_on. one_of P (is_held_back flow a.due) (HoldsBack a) (PaysAll a) holds (λ due. pays))

  taking_does : (mark : Mark) (note : Note) (a : Attachment S) → ((flow : Flow) → P (by_answer flow (with_note note flow a))) → P (PutsAway a (FailedAt note)) → P (by_taking mark note a)
  taking_does (Fine flow) note a took fault = took flow
  taking_does Fault note a took fault = fault
  taking_does NoMemory note a took fault = fault

  -- by a note
  pub note_does : (mark : Mark) (note : Note) (a : Attachment S) → (a.over ≡ true → P AsItWas) → ((flow : Flow) → a.over ≡ false → P (by_answer flow (with_note note flow a)))
      → (a.over ≡ false → P (PutsAway a (FailedAt note))) → P (by_note mark note a)
  note_does mark note a over took fault = one_of P a.over AsItWas (by_taking mark note a) over (λ yet. taking_does mark note a (λ flow. took flow yet) (fault yet))

  -- by a flush
  pub flush_does : (mark : Mark) (a : Attachment S) → ((flow : Flow) → P (by_answer flow (with_flush flow a))) → P (PutsAway a FailedAtFlush) → P (by_flush mark a)
  flush_does (Fine flow) a wrote fault = wrote flow
  flush_does Fault a wrote fault = fault
  flush_does NoMemory a wrote fault = fault

  -- as its observer leaves
  pub leaving_does : (a : Attachment S) → (a.over ≡ true → P (PutsAway a TookLast)) → (a.over ≡ false → P (LetsGo a)) → P (by_leaving a)
  leaving_does a over yet = one_of P a.over (PutsAway a TookLast) (LetsGo a) over yet

-- WHAT IS SO OF THE ATTACHMENT

module _ {S : Type 0} (P : Attachment S → Type 0) where
  -- what the attachment has come to is so, whatever is ruled about it
  abbrev pub About : Ruling S → Type 0
  About AsItWas = Unit {0}
  About (HoldsBack a) = P a
  About (PaysAll a) = P a
  About (LetsGo a) = P a
  About (PutsAway a why) = P a

  about_answer : (flow : Flow) (a : Attachment S) → P a → About (by_answer flow a)
  about_answer flow a is = answer_does About flow a (λ leaves. is) (λ held. is) is

  pub about_note : (mark : Mark) (note : Note) (a : Attachment S) → P a → ((flow : Flow) → P (with_note note flow a)) → About (by_note mark note a)
  about_note mark note a is more = note_does About mark note a (λ over. tt) (λ flow yet. about_answer flow (with_note note flow a) (more flow)) (λ yet. is)

  pub about_flush : (mark : Mark) (a : Attachment S) → P a → ((flow : Flow) → P (with_flush flow a)) → About (by_flush mark a)
  about_flush mark a is more = flush_does About mark a (λ flow. about_answer flow (with_flush flow a) (more flow)) is

  pub about_leaving : (a : Attachment S) → P a → About (by_leaving a)
  about_leaving a is = leaving_does About a (λ over. is) (λ yet. is)

  -- what goes on is so
  abbrev pub GoesOnSo : Ruling S → Type 0
  GoesOnSo AsItWas = Unit {0}
  GoesOnSo (HoldsBack a) = P a
  GoesOnSo (PaysAll a) = P (paid a)
  GoesOnSo (LetsGo a) = Unit {0}
  GoesOnSo (PutsAway a why) = Unit {0}

  all_either : (b : Bool) (here : Attachment S) (kept rest : List (Attachment S)) → P here → AllByRecursion P kept → AllByRecursion P rest → AllByRecursion P (if b then kept else here ∷ rest)
  all_either true here kept rest is all more = all
  all_either false here kept rest is all more = (is, more)

  pub all_but : (s w : ℕ) (kept : List (Attachment S)) → AllByRecursion P kept → AllByRecursion P (of_others s w kept)
  all_but s w [] all = tt
  all_but s w (c ∷ kept) all = all_either (is_of s w c) c kept (of_others s w kept) all.0 all.1 (all_but s w kept all.1)

  pub all_with : (s w : ℕ) (b : Attachment S) (kept : List (Attachment S)) → P b → AllByRecursion P kept → AllByRecursion P (replaced s w b kept)
  all_with s w b [] is all = tt
  all_with s w b (c ∷ kept) is all =
      one_of (AllByRecursion P) (is_of s w c) (b ∷ kept) (c ∷ replaced s w b kept) (λ here. (is, all.1)) (λ later. (all.0, all_with s w b kept is all.1))

  -- and so are all that are kept
  pub all_kept_by : (s w : ℕ) (ruling : Ruling S) (kept : List (Attachment S)) → GoesOnSo ruling → AllByRecursion P kept → AllByRecursion P (kept_by s w ruling kept)
  all_kept_by s w AsItWas kept is all = all
  all_kept_by s w (HoldsBack a) kept is all = all_with s w a kept is all
  all_kept_by s w (PaysAll a) kept is all = all_with s w (paid a) kept is all
  all_kept_by s w (LetsGo a) kept is all = all_but s w kept all
  all_kept_by s w (PutsAway a why) kept is all = all_but s w kept all

  pub all_ruled : (s w : ℕ) (rule : Attachment S → Ruling S) (took : Attachment S → Bool) (o : Option (Attachment S)) (kept : List (Attachment S)) → ((a : Attachment S) → GoesOnSo (rule a))
      → AllByRecursion P kept → AllByRecursion P (ruled s w rule took o kept).kept
  all_ruled s w rule took None kept is all = all
  all_ruled s w rule took (Some a) kept is all = all_kept_by s w (rule a) kept (is a) all
