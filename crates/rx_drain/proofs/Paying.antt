-- Where nothing ever waits in a sink nothing is due of it, and once it was flushed nothing may wait in it.
use Rattle.std.proofs.Common.{◌≡◌, ◌∙◌, sym, refl, ap, subst, ◌⊎◌, ◌||◌, inl, inr, Bool, false, not, List, [], ◌∷◌, Option, Some, None}
use Rattle.std.specs.List.{AllByRecursion, AllZip, FoldsTo}
use Rattle.rx_sink.specs.declared.flow.Flow.{Flow}
use Rattle.rx_sink.specs.declared.flow.Flow.TheVariants.{Clear}
use Rattle.rx_sink.specs.declared.kept.Kept.{Kept}
use Rattle.rx_sink.specs.Acts.{Acts, Step, Takes, Flushes, last_by, Makes}
use Rattle.rx_sink.specs.Attachments.{Attachment, is_idle, may_wait}
use Rattle.rx_sink.specs.KeptSinks.{IsKept}
use Rattle.rx_sink.specs.Waiting.{NeverWaits}
use Rattle.rx_drain.specs.Credit.{IsPaid, MayOwe}
use Rattle.rx_drain.specs.Drainers.{any_may_wait}
use Rattle.rx_drain.specs.Paying.{NothingWaits, OwesNothing}

module _ {S Rest : Type 0} (acts : Acts S Rest) (never : NeverWaits acts) where
  -- a flush that was its last step left it clear
  last_clear : (before : Option Step) (s : S) (steps : List Step) (t : S) (flow : Flow) → FoldsTo (Makes acts) s steps t → last_by before steps ≡ Some (Flushes flow)
      → (before ≡ Some (Flushes flow)) ⊎ (flow ≡ Clear)
  last_clear before s [] t flow made is = inl is
  last_clear before s (Takes note f ∷ steps) t flow made is =
      elim (last_clear (Some (Takes note f)) made.0 steps t flow made.2 is) [
        | inl last ↦ cc
        | inr clear ↦ inr clear
      ]
  last_clear before s (Flushes f ∷ steps) t flow made is =
      elim (last_clear (Some (Flushes f)) made.0 steps t flow made.2 is) [
        | inl last ↦ (let same : f ≡ flow = cc in inr (sym same ∙ never.flushed s f made.0 made.1))
        | inr clear ↦ inr clear
      ]

  flushed_clear : (a : Attachment S) (one : Kept S) (flow : Flow) → IsKept acts a one → a.last ≡ Some (Flushes flow) → flow ≡ Clear
  flushed_clear a one flow tie is =
      elim (last_clear None tie.took.begun tie.took.steps one.sink flow tie.took.made (tie.took.last_is ∙ is)) [
        | inl never_was ↦ cc
        | inr clear ↦ clear
      ]

  nothing_due : (a : Attachment S) (one : Kept S) → IsKept acts a one → IsPaid a → one.due ≡ 0
  nothing_due a one tie (flow, last, inl none) = tie.due ∙ none
  nothing_due a one tie (flow, last, inr owes) = absurd (subst MayOwe (flushed_clear a one flow tie last) owes)

  nothing_waits : (a : Attachment S) (one : Kept S) → IsKept acts a one → IsPaid a → one.may_wait ≡ false
  nothing_waits a one tie (flow, last, owed) = tie.waits ∙ ap may_wait last ∙ ap (λ (f : Flow). not (is_idle f)) (flushed_clear a one flow tie last)

  none_due : (held : List (Attachment S)) (kept : List (Kept S)) → AllZip (IsKept acts) held kept → AllByRecursion IsPaid held → AllByRecursion (λ one. one.due ≡ 0) kept
  none_due [] [] zip paid = tt
  none_due [] (one ∷ kept) zip paid = absurd zip
  none_due (a ∷ held) [] zip paid = absurd zip
  none_due (a ∷ held) (one ∷ kept) zip paid = (nothing_due a one zip.0 paid.0, none_due held kept zip.1 paid.1)

  none_wait : (held : List (Attachment S)) (kept : List (Kept S)) → AllZip (IsKept acts) held kept → AllByRecursion IsPaid held → any_may_wait kept ≡ false
  none_wait [] [] zip paid = refl
  none_wait [] (one ∷ kept) zip paid = absurd zip
  none_wait (a ∷ held) [] zip paid = absurd zip
  none_wait (a ∷ held) (one ∷ kept) zip paid = ap (λ (b : Bool). b || any_may_wait kept) (nothing_waits a one zip.0 paid.0) ∙ none_wait held kept zip.1 paid.1

pub owes_nothing : {S Rest : Type 0} (acts : Acts S Rest) → OwesNothing acts
owes_nothing acts view never (log, d, paid) whole = none_due acts never _ view.kept d.stands.sinks.kept_are (paid whole)

pub keeps_clear : {S Rest : Type 0} (acts : Acts S Rest) → NothingWaits acts
keeps_clear acts view never (log, d, paid) whole = none_wait acts never _ view.kept d.stands.sinks.kept_are (paid whole)
