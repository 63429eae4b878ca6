-- The rule goes on with one entry more.
use Rattle.std.proofs.Common.{◌≡◌, ℕ, ◌+◌, Bool, true, false, List, [], length, map, Option, None, Some, refl, sym, ap, subst, ◌∙◌, arith}
use Rattle.std.specs.Prelude.{option_map}
use Rattle.std.proofs.lemmas.Bool.{cond-true, cond-false}
use Rattle.rx_note.specs.declared.note.Note.{Note}
use Rattle.rx_note.specs.declared.note.Note.TheVariants.{Next}
use Rattle.rx_log.specs.declared.entry.Entry.{Entry}
use Rattle.rx_log.specs.declared.entry.Entry.TheVariants.{Tenure, Own, Foreign}
use Rattle.rx_log.specs.declared.holder.Holder.{Holder}
use Rattle.rx_log.specs.declared.total.Total.{Total}
use Rattle.rx_log.specs.declared.term.Term.{Term}
use Rattle.rx_log.specs.declared.mark.Mark.{Mark}
use Rattle.rx_log.specs.Logs.{Log, Behind, ◌▹◌, entries, begun, opens, counts}
use Rattle.rx_log.specs.Totals.{ends, emitted, after, with_note, claimed, known, known_next}
use Rattle.rx_log.specs.Terms.{with_number, Stands}
use Rattle.rx_log.specs.Rules.{RuleState, StandsFor, Notes, Remembers, with_marks}
use Rattle.rx_log.proofs.Marks.{AreMarks, marked-quiet, marked-note}
use Rattle.rx_log.proofs.Tenures.{Has, has-foreign, has-void, has-counted, has-stands}

-- what a rule has of the nodes
pub has-of : (rule : RuleState) (L : Log) → StandsFor rule L → Has rule.span L rule.terms
has-of rule L stands = record { knows = stands.knows; near_had = stands.near_had }

-- a new rule stands for what is not known
pub stands-new : (span n : ℕ) (terms : List Term) (total : Option Total) (recent : List Mark) → terms ≡ [] → recent ≡ [] → total ≡ known span (Behind n)
    → StandsFor (record { span = span; begun = n; at = n; terms = terms; total = total; recent = recent }) (Behind n)
stands-new span n terms total recent none unmarked total_is = record {
  begun_is = refl;
  at_is = refl;
  knows = λ k d within. absurd (omega (arith, within, ap length none));
  near_had = λ node some near. absurd (omega (arith, some));
  total_is = total_is;
  marked = λ unknown base start near. ap (with_marks base start) unmarked;
}

-- what is known with one note more
known-note : (span : ℕ) (L : Log) (entry : Entry) (note : Note) (o : Option Total) → emitted span L entry ≡ Some note → claimed span L entry ≡ None
    → option_map (λ (told : Total). with_note told (ends note)) o ≡ known_next span L entry o
known-note span L entry note None some none = sym none
known-note span L entry note (Some told) some none = ap (λ (n : Option Note). Some (after told n)) (sym some)

-- a rule stands for a log where its parts do
stands-from : (new : RuleState) (L : Log) (span : ℕ) → new.span ≡ span → new.begun ≡ begun L → new.at ≡ entries L → Has span L new.terms
    → new.total ≡ known span L → (new.total ≡ None → AreMarks span L new.recent) → StandsFor new L
stands-from new L span same begun_is at_is has total_is marked =
    let P : ℕ → Type 0 = λ n. Has n L new.terms × (new.total ≡ known n L) × (new.total ≡ None → AreMarks n L new.recent) in
    let p = subst P (sym same) (has, total_is, marked) in
    record { begun_is = begun_is; at_is = at_is; knows = p.0.knows; near_had = p.0.near_had; total_is = p.1; marked = p.2 }

-- what was not known with one note more was not known
still-unknown : (is_end : Bool) (o : Option Total) → option_map (λ (told : Total). with_note told is_end) o ≡ None → o ≡ None
still-unknown is_end None none = refl
still-unknown is_end (Some told) none = absurd cc

-- a note counts
pub noted : (old new : RuleState) (L : Log) (entry : Entry) (note : Note) → StandsFor old L → emitted old.span L entry ≡ Some note → claimed old.span L entry ≡ None
    → new.span ≡ old.span → new.begun ≡ old.begun → new.at ≡ old.at + 1 → new.total ≡ option_map (λ (told : Total). with_note told (ends note)) old.total
    → (old.total ≡ None → Remembers old.span old.recent new.recent (record { place = old.at + 1; ends = ends note }))
    → Has old.span (L ▹ entry) new.terms → StandsFor new (L ▹ entry)
noted old new L entry note stands some none span begun_is at total recent has =
    stands-from new (L ▹ entry) old.span span (begun_is ∙ stands.begun_is) (at ∙ ap (λ (n : ℕ). n + 1) stands.at_is) has
    (total ∙ known-note old.span L entry note old.total some none ∙ ap (known_next old.span L entry) stands.total_is)
    (λ unknown.
    let before = still-unknown (ends note) old.total (sym total ∙ unknown) in
    marked-note old.span L entry note old.recent new.recent some
    (subst (λ (n : ℕ). Remembers old.span old.recent new.recent (record { place = n + 1; ends = ends note })) stands.at_is (recent before))
    (stands.marked before))

pub foreign-follows : (old new : RuleState) (L : Log) (text : List ℕ) → StandsFor old L → Notes old new false → StandsFor new (L ▹ Foreign text)
foreign-follows old new L text stands notes =
    noted old new L (Foreign text) (Next (record { from = 0; place = 0; text = text })) stands refl refl notes.span notes.begun notes.at notes.total notes.recent
    (subst (Has old.span (L ▹ Foreign text)) (sym notes.terms) (has-foreign old.span L text old.terms (has-of old L stands)))

pub own-follows : (old mid new : RuleState) (L : Log) (tenure number : ℕ) (note : Note) → StandsFor old L → counts old.span L tenure number ≡ true
    → Notes old mid (ends note) → new ≡ record mid { terms = map (with_number tenure number) mid.terms } → StandsFor new (L ▹ Own tenure number note)
own-follows old mid new L tenure number note stands counts_so notes is =
    subst (λ (rule : RuleState). StandsFor rule (L ▹ Own tenure number note)) (sym is)
    (noted old (record mid { terms = map (with_number tenure number) mid.terms }) L (Own tenure number note) note stands
    (cond-true (counts old.span L tenure number) (Some note) None counts_so) refl notes.span notes.begun notes.at notes.total notes.recent
    (subst (λ (terms : List Term). Has old.span (L ▹ Own tenure number note) (map (with_number tenure number) terms)) (sym notes.terms)
    (has-counted old.span L tenure number note old.terms counts_so (has-of old L stands))))

-- an entry that emits no note and tells nothing that is believed
quiet : (old : RuleState) (L : Log) (entry : Entry) (terms : List Term) (total : Option Total) → StandsFor old L → emitted old.span L entry ≡ None
    → total ≡ known_next old.span L entry old.total → (total ≡ None → old.total ≡ None)
    → Has old.span (L ▹ entry) terms → StandsFor (record old { at = old.at + 1; terms = terms; total = total }) (L ▹ entry)
quiet old L entry terms total stands none total_is unknown has =
    stands-from (record old { at = old.at + 1; terms = terms; total = total }) (L ▹ entry) old.span refl stands.begun_is (ap (λ (n : ℕ). n + 1) stands.at_is) has
    (total_is ∙ ap (known_next old.span L entry) stands.total_is)
    (λ still. marked-quiet old.span L entry old.recent none (stands.marked (unknown still)))

-- what is known stays known by an entry that emits no note
known-quiet : (span : ℕ) (L : Log) (entry : Entry) (o : Option Total) → emitted span L entry ≡ None → claimed span L entry ≡ None → o ≡ known_next span L entry o
known-quiet span L entry None none nothing_claimed = sym nothing_claimed
known-quiet span L entry (Some told) none nothing_claimed = ap (λ (n : Option Note). Some (after told n)) (sym none)

pub void-follows : (old : RuleState) (L : Log) (tenure number : ℕ) (note : Note) → StandsFor old L → counts old.span L tenure number ≡ false
    → StandsFor (record old { at = old.at + 1 }) (L ▹ Own tenure number note)
void-follows old L tenure number note stands void =
    let none = cond-false (counts old.span L tenure number) (Some note) None void in
    quiet old L (Own tenure number note) old.terms old.total stands none (known-quiet old.span L (Own tenure number note) old.total none refl) (λ still. still)
    (has-void old.span L tenure number note old.terms void (has-of old L stands))

pub tenure-follows : (old : RuleState) (L : Log) (holder : Holder) (base : ℕ) (told : Total) (does_count : Bool) (terms : List Term) (total : Option Total)
    → StandsFor old L → does_count ≡ opens old.span L holder.node base → Stands old.at old.span old.terms terms holder does_count
    → total ≡ known_next old.span L (Tenure holder base told) old.total → (total ≡ None → old.total ≡ None)
    → StandsFor (record old { at = old.at + 1; terms = terms; total = total }) (L ▹ Tenure holder base told)
tenure-follows old L holder base told does_count terms total stands is stood total_is unknown =
    quiet old L (Tenure holder base told) terms total stands refl total_is unknown
    (has-stands old.span L holder base told does_count old.terms terms is
    (subst (λ (n : ℕ). Stands n old.span old.terms terms holder does_count) stands.at_is stood) (has-of old L stands))
