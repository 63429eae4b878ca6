use Rattle.std.proofs.Common.{◌<◌, ℕ, List, ◌++◌, length, ap, ◌∙◌, sym, arith}
use Rattle.std.proofs.lemmas.List.{take_all}
use Rattle.std.proofs.lemmas.List.Folds.{flat_map-map}
use Rattle.std.specs.List.{flat_map}
use Rattle.rx_config.specs.Configurations.{subject_of_config}
use Rattle.rx_config.specs.declared.subject_config.SubjectConfig.{SubjectConfig}
use Rattle.rx_config.specs.Listings.{subject_line}
use Rattle.rx_config.proofs.Putting.{flat_map-next, put-on}
use Rattle.rx_config.proofs.listing.lines.put_subjects.Goals as goal

abbrev line_of : SubjectConfig → List ℕ
line_of config = subject_line (subject_of_config config)

pub loop-subject-preserved : goal.loop-subject-preserved
loop-subject-preserved c =
    let subjects = c.args.subjects.now in
    let lt : c.loop-subject.subject-index < length subjects = omega arith in
    rw (flat_map-next line_of subjects c.loop-subject.subject-index c.subject-item.result lt c.subject-item.is)
    (put-on _ _ _ _ _ c.loop-subject.invariant c.in_ok-put_subject.ensures)

pub returns : goal.returns
returns c =
    let subjects = c.args.subjects.now in
    c.loop-subject.invariant
    ∙ ap (λ (bytes : List ℕ). c.args.lines.now.items ++ bytes)
    (ap (flat_map line_of) (take_all c.loop-subject.subject-index subjects c.loop-subject-test.false) ∙ sym (flat_map-map subject_line subject_of_config subjects))
