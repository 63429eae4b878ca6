-- The lines of a report, subject by subject.
use Rattle.std.proofs.Common.{◌≡◌, ◌∙◌, ℕ, ◌+◌, ◌<◌, min, List, [], ◌∷◌, ◌++◌, append_assoc, append-nil, get_or, length, take, drop, take-append-drop, sym, ap, arith}
use Rattle.std.proofs.lemmas.Grind.{flat_map-append}
use Rattle.std.proofs.lemmas.List.{take_all, take_more}
use Rattle.std.proofs.lemmas.Slice.Zip.{get_or-zip, length-zip}
use Rattle.std.specs.List.{flat_map, zip}
use Rattle.rx_server.specs.declared.close.report.SubjectReport.{SubjectReport}
use Rattle.rx_server.specs.ReportLines.{report_line, report_lines}

-- the lines of the first so many
abbrev pub first_lines : ℕ → List (List ℕ) → List SubjectReport → List ℕ
first_lines k names subjects = flat_map report_line (take k (zip names subjects))

module _ (names : List (List ℕ)) (subjects : List SubjectReport) (k : ℕ) (name : List ℕ) (subject : SubjectReport) (in_names : k < length names) (in_subjects : k < length subjects)
    (name_is : name ≡ get_or names k name) (subject_is : subject ≡ get_or subjects k subject) where
  -- one more
  pub lines-next : first_lines (k + 1) names subjects ≡ first_lines k names subjects ++ report_line (name, subject)
  lines-next =
      let pairs = zip names subjects in
      let within : k < length pairs = omega (arith, length-zip names subjects) in
      let is : get_or pairs k (name, subject) ≡ (name, subject) = get_or-zip names subjects k (name, subject) in_names in_subjects ∙ ap (λ n. (n, get_or subjects k subject)) (sym name_is) ∙ ap (λ s. (name, s)) (sym subject_is) in
      ap (flat_map report_line) (take_more pairs k (name, subject) within ∙ ap (λ x. take k pairs ++ x ∷ []) is)
      ∙ flat_map-append report_line (take k pairs) ((name, subject) ∷ [])
      ∙ ap (λ bytes. first_lines k names subjects ++ bytes) (append-nil (report_line (name, subject)))

  -- and those behind it
  pub lines-split : (rest : List ℕ) × (report_lines names subjects ≡ first_lines k names subjects ++ (report_line (name, subject) ++ rest))
  lines-split =
      let pairs = zip names subjects in
      let rest = flat_map report_line (drop (k + 1) pairs) in (
        rest,
        ap (flat_map report_line) (sym (take-append-drop (k + 1) pairs)) ∙ flat_map-append report_line (take (k + 1) pairs) (drop (k + 1) pairs)
            ∙ ap (λ bytes. bytes ++ rest) lines-next ∙ append_assoc (first_lines k names subjects) (report_line (name, subject)) rest,
      )

-- all of them
pub lines-all : (names : List (List ℕ)) (subjects : List SubjectReport) (k : ℕ) → k ≡ min (length names) (length subjects) → first_lines k names subjects ≡ report_lines names subjects
lines-all names subjects k is = ap (flat_map report_line) (take_all k (zip names subjects) (omega (arith, is, length-zip names subjects)))
