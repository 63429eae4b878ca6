-- The marks of the notes that counted lately tell what a log comes to behind a base.
use Rattle.std.proofs.Common.{◌≡◌, ℕ, ◌+◌, ◌<◌, ◌≤◌, ◌⊎◌, Bool, true, false, cond, List, [], ◌∷◌, ◌++◌, None, Some, inl, inr, refl, sym, ap, ◌∙◌, arith}
use Rattle.std.specs.Prelude.{nat_le}
use Rattle.std.proofs.lemmas.Bool.{le-leb, lt-leb, cond-true, cond-false, cases_lt}
use Rattle.rx_note.specs.declared.note.Note.{Note}
use Rattle.rx_log.specs.declared.entry.Entry.{Entry}
use Rattle.rx_log.specs.declared.total.Total.{Total}
use Rattle.rx_log.specs.declared.mark.Mark.{Mark}
use Rattle.rx_log.specs.Logs.{Log, ◌▹◌, entries}
use Rattle.rx_log.specs.Totals.{ends, emitted, with_note, after, total_behind}
use Rattle.rx_log.specs.Rules.{with_marks, Remembers}
use Rattle.rx_log.proofs.Totals.{behind-start, behind-next}

-- a mark more at the end
pub with_marks-push : (base : ℕ) (start : Total) (marks : List Mark) (mark : Mark) → with_marks base start (marks ++ mark ∷ [])
    ≡ cond (nat_le mark.place base) (with_marks base start marks) (with_note (with_marks base start marks) mark.ends)
with_marks-push base start [] mark = refl
with_marks-push base start (first ∷ marks) mark =
    by (with_marks-push base start marks mark) (with_marks-push base (with_note start first.ends) marks mark) (nat_le first.place base)
  where
    by : with_marks base start (marks ++ mark ∷ []) ≡ cond (nat_le mark.place base) (with_marks base start marks) (with_note (with_marks base start marks) mark.ends)
        → with_marks base (with_note start first.ends) (marks ++ mark ∷ []) ≡ cond (nat_le mark.place base) (with_marks base (with_note start first.ends) marks) (with_note (with_marks base (with_note start first.ends) marks) mark.ends)
        → (b : Bool) → cond b (with_marks base start (marks ++ mark ∷ [])) (with_marks base (with_note start first.ends) (marks ++ mark ∷ []))
        ≡ cond (nat_le mark.place base) (cond b (with_marks base start marks) (with_marks base (with_note start first.ends) marks)) (with_note (cond b (with_marks base start marks) (with_marks base (with_note start first.ends) marks)) mark.ends)
    by low high true = low
    by low high false = high

-- the marks tell what the log comes to behind each base that is near
abbrev pub AreMarks : ℕ → Log → List Mark → Type 0
AreMarks span L marks = (base : ℕ) (start : Total) → entries L ≤ base + span → with_marks base start marks ≡ total_behind span base start L

-- an entry that emits no note leaves them
pub marked-quiet : (span : ℕ) (L : Log) (entry : Entry) (marks : List Mark) → emitted span L entry ≡ None → AreMarks span L marks → AreMarks span (L ▹ entry) marks
marked-quiet span L entry marks none marked = λ base start near. by base start near (cases_lt base (entries L + 1))
  where
    by : (base : ℕ) (start : Total) → entries L + 1 ≤ base + span → (base < entries L + 1) ⊎ (entries L + 1 ≤ base) → with_marks base start marks ≡ total_behind span base start (L ▹ entry)
    by base start near (inl low) =
        marked base start (omega (arith, near))
        ∙ sym (behind-next span base start L entry (omega (arith, low)) ∙ ap (after (total_behind span base start L)) none)
    by base start near (inr high) =
        marked base start (omega (arith, near))
        ∙ behind-start span base start L (omega (arith, high))
        ∙ sym (behind-start span base start (L ▹ entry) high)

-- a note has its mark
pushed-marks : (span : ℕ) (L : Log) (entry : Entry) (note : Note) (marks : List Mark) → emitted span L entry ≡ Some note → AreMarks span L marks
    → AreMarks span (L ▹ entry) (marks ++ record { place = entries L + 1; ends = ends note } ∷ [])
pushed-marks span L entry note marks some marked = λ base start near. by base start near (cases_lt base (entries L + 1))
  where
    by : (base : ℕ) (start : Total) → entries L + 1 ≤ base + span → (base < entries L + 1) ⊎ (entries L + 1 ≤ base)
        → with_marks base start (marks ++ record { place = entries L + 1; ends = ends note } ∷ []) ≡ total_behind span base start (L ▹ entry)
    by base start near (inl low) =
        with_marks-push base start marks (record { place = entries L + 1; ends = ends note })
        ∙ cond-false (nat_le (entries L + 1) base) (with_marks base start marks) (with_note (with_marks base start marks) (ends note)) (lt-leb (entries L + 1) base low)
        ∙ ap (λ (told : Total). with_note told (ends note)) (marked base start (omega (arith, near)))
        ∙ sym (behind-next span base start L entry (omega (arith, low)) ∙ ap (after (total_behind span base start L)) some)
    by base start near (inr high) =
        with_marks-push base start marks (record { place = entries L + 1; ends = ends note })
        ∙ cond-true (nat_le (entries L + 1) base) (with_marks base start marks) (with_note (with_marks base start marks) (ends note)) (le-leb (entries L + 1) base high)
        ∙ marked base start (omega (arith, near))
        ∙ behind-start span base start L (omega (arith, high))
        ∙ sym (behind-start span base start (L ▹ entry) high)

pub marked-note : (span : ℕ) (L : Log) (entry : Entry) (note : Note) (old new : List Mark) → emitted span L entry ≡ Some note
    → Remembers span old new (record { place = entries L + 1; ends = ends note }) → AreMarks span L old → AreMarks span (L ▹ entry) new
marked-note span L entry note old new some (inl all) marked = λ base start near.
    ap (with_marks base start) all ∙ pushed-marks span L entry note old some marked base start near
marked-note span L entry note old new some (inr part) marked = λ base start near.
    sym (cond-true (nat_le (part.0).place base) (with_marks base start new) (with_marks base (with_note start (part.0).ends) new) (le-leb (part.0).place base (omega (arith, part.2, near))))
    ∙ ap (with_marks base start) (sym part.1)
    ∙ pushed-marks span L entry note old some marked base start near
