-- Topics that stand for subjects, the one of a name, and the state of a run.
use Rattle.std.proofs.Common.{◌≡◌, ℕ, zero, suc, ◌<◌, Bool, true, false, cond, List, [], ◌∷◌, ◌++◌, length, get_or, set, None, Some, Result, Ok, Err, IfOk, MatchResult, position, refl, sym, ap, subst, ◌∙◌, arith}
use Rattle.std.proofs.lemmas.List.Quantifiers.{position-Some}
use Rattle.rx_note.specs.declared.event.Event.{Event}
use Rattle.rx_hub.proofs.Positions.{position-None}
use Rattle.rx_script.specs.declared.asked.Asked.TheVariants as asked
use Rattle.rx_script.specs.declared.script.Script.{Script}
use Rattle.rx_script.specs.declared.topic.Topic.{Topic}
use Rattle.rx_proto.specs.Reading.{same_word}
use Rattle.rx_script.specs.Scripts.{StandsForSubject, StandForSubjects}
use Rattle.rx_script.specs.Tellings.{IsIn}
use Rattle.rx_script.specs.Transcripts.{Subject, State, subject_of, taking, all_taking, after_asked}

-- one topic more
pub StandForSubjects-push : (topics : List Topic) (subjects : List Subject) (topic : Topic) (subject : Subject)
    → StandForSubjects topics subjects → StandsForSubject topic subject → StandForSubjects (topics ++ topic ∷ []) (subjects ++ subject ∷ [])
StandForSubjects-push [] [] topic subject all one = (one, tt)
StandForSubjects-push [] (s ∷ subjects) topic subject all one = absurd all
StandForSubjects-push (t ∷ topics) [] topic subject all one = absurd all
StandForSubjects-push (t ∷ topics) (s ∷ subjects) topic subject all one = (all.0, StandForSubjects-push topics subjects topic subject all.1 one)

-- the subject of a name, for which the topic at a place stands
pub record IsFound (topics : List Topic) (subjects : List Subject) (name : List ℕ) (place : ℕ) (d : Topic) : Type 0 where
  pub subject : Subject
  pub is : subject_of subjects name ≡ Some subject
  pub stands : StandsForSubject (get_or topics place d) subject
  pub keeps : (topic : Topic) → StandsForSubject topic subject → StandForSubjects (set topics place topic) subjects
  pub takes : (topic : Topic) (event : Event) → StandsForSubject topic (taking subject event) → StandForSubjects (set topics place topic) (all_taking subjects name event)

found : (topics : List Topic) (subjects : List Subject) (name : List ℕ) (place : ℕ) (d : Topic) → StandForSubjects topics subjects → place < length topics
    → same_word (get_or topics place d).name name ≡ true → ((k : ℕ) → k < place → same_word (get_or topics k d).name name ≡ false)
    → IsFound topics subjects name place d
found [] subjects name place d all lt here before = absurd (omega arith)
found (t ∷ topics) [] name place d all lt here before = absurd all
found (t ∷ topics) (s ∷ subjects) name zero d all lt here before =
    let same : same_word s.name name ≡ true = ap (λ n. same_word n name) (sym all.0.name) ∙ here in
    record {
      subject = s;
      is = ap (λ b. cond b (Some s) (subject_of subjects name)) same;
      stands = all.0;
      keeps = λ topic one. (one, all.1);
      takes = λ topic event one.
          subst (λ (ss : List Subject). StandForSubjects (topic ∷ topics) ss)
          (sym (ap (λ b. cond b (taking s event ∷ subjects) (s ∷ all_taking subjects name event)) same)) (one, all.1);
    }
found (t ∷ topics) (s ∷ subjects) name (suc place) d all lt here before =
    let other : same_word s.name name ≡ false = ap (λ n. same_word n name) (sym all.0.name) ∙ before 0 (omega arith) in
    let rest = found topics subjects name place d all.1 (omega arith) here (λ k k_lt. before (suc k) (omega arith)) in
    record {
      subject = rest.subject;
      is = ap (λ b. cond b (Some s) (subject_of subjects name)) other ∙ rest.is;
      stands = rest.stands;
      keeps = λ topic one. (all.0, rest.keeps topic one);
      takes = λ topic event one.
          subst (λ (ss : List Subject). StandForSubjects (t ∷ set topics place topic) ss)
          (sym (ap (λ b. cond b (taking s event ∷ subjects) (s ∷ all_taking subjects name event)) other)) (all.0, rest.takes topic event one);
    }

-- the topic at the place that was found
pub found_at : (topics : List Topic) (subjects : List Subject) (name : List ℕ) (place : ℕ) (d : Topic) → StandForSubjects topics subjects
    → position (λ (topic : Topic). same_word topic.name name) topics ≡ Some place → (place < length topics) × IsFound topics subjects name place d
found_at topics subjects name place d all is =
    let at = position-Some (λ (topic : Topic). same_word topic.name name) topics place d is in
    (at.0, found topics subjects name place d all at.0 at.1 at.2)

-- no subject has the name
unknown : (topics : List Topic) (subjects : List Subject) (name : List ℕ) (event : Event) → StandForSubjects topics subjects
    → ((k : ℕ) (d : Topic) → k < length topics → same_word (get_or topics k d).name name ≡ false)
    → (subject_of subjects name ≡ None) × (all_taking subjects name event ≡ subjects)
unknown [] [] name event all none = (refl, refl)
unknown [] (s ∷ subjects) name event all none = absurd all
unknown (t ∷ topics) [] name event all none = absurd all
unknown (t ∷ topics) (s ∷ subjects) name event all none =
    let other : same_word s.name name ≡ false = ap (λ n. same_word n name) (sym all.0.name) ∙ none 0 t (omega arith) in
    let rest = unknown topics subjects name event all.1 (λ k d lt. none (suc k) d (omega arith)) in (
      ap (λ b. cond b (Some s) (subject_of subjects name)) other ∙ rest.0,
      ap (λ b. cond b (taking s event ∷ subjects) (s ∷ all_taking subjects name event)) other ∙ ap (λ ss. s ∷ ss) rest.1,
    )

pub unknown_to : (topics : List Topic) (subjects : List Subject) (name : List ℕ) (event : Event) → StandForSubjects topics subjects
    → position (λ (topic : Topic). same_word topic.name name) topics ≡ None
    → (subject_of subjects name ≡ None) × (all_taking subjects name event ≡ subjects)
unknown_to topics subjects name event all none =
    unknown topics subjects name event all (λ k d lt. position-None (λ (topic : Topic). same_word topic.name name) topics none k d lt)

-- some topic, where there is a place
pub some_topic : (topics : List Topic) (place : ℕ) → place < length topics → Topic
some_topic [] place lt = absurd (omega arith)
some_topic (topic ∷ topics) place lt = topic

-- the run after an event, which may have met want of memory
pub IsIn-after : (script after : Script) (state : State) (name : List ℕ) (place : ℕ) (d : Topic) (event : Event) (missed : Bool) (topic : Topic)
    → IsIn script state → (f : IsFound script.topics.items state.subjects name place d)
    → after.topics.items ≡ set script.topics.items place topic → after.moment ≡ script.moment → after.version ≡ script.version
    → StandsForSubject topic (cond missed f.subject (taking f.subject event)) → IsIn after (cond missed state (after_asked state (asked.Event name event)))
IsIn-after script after state name place d event true topic is_in f topics moment version one = record {
  subjects = subst (λ (ts : List Topic). StandForSubjects ts state.subjects) (sym topics) (f.keeps topic one);
  moment = moment ∙ is_in.moment;
  version = version ∙ is_in.version;
}
IsIn-after script after state name place d event false topic is_in f topics moment version one = record {
  subjects = subst (λ (ts : List Topic). StandForSubjects ts (all_taking state.subjects name event)) (sym topics) (f.takes topic event one);
  moment = moment ∙ is_in.moment;
  version = version ∙ is_in.version;
}

-- the run after an event of a subject that nobody knows
pub IsIn-unknown : (script after : Script) (state : State) (name : List ℕ) (event : Event)
    → IsIn script state → all_taking state.subjects name event ≡ state.subjects → after.topics.items ≡ script.topics.items → after.moment ≡ script.moment → after.version ≡ script.version
    → IsIn after (after_asked state (asked.Event name event))
IsIn-unknown script after state name event is_in none topics moment version = record {
  subjects = subst (λ (ts : List Topic). StandForSubjects ts (all_taking state.subjects name event)) (sym topics)
      (subst (λ (ss : List Subject). StandForSubjects script.topics.items ss) (sym none) is_in.subjects);
  moment = moment ∙ is_in.moment;
  version = version ∙ is_in.version;
}

-- the run after a line that was refused
pub IsIn-same : (script after : Script) (state : State) → IsIn script state → after.topics.items ≡ script.topics.items → after.moment ≡ script.moment → after.version ≡ script.version → IsIn after state
IsIn-same script after state is_in topics moment version = record {
  subjects = subst (λ (ts : List Topic). StandForSubjects ts state.subjects) (sym topics) is_in.subjects;
  moment = moment ∙ is_in.moment;
  version = version ∙ is_in.version;
}

-- what holds at Ok
pub match_ok : {T E : Type 0} (result : Result T E) (P Q : T → Type 0) → IfOk result P → ((x : T) → P x → Q x) → MatchResult result Q (λ _. Unit {0})
match_ok (Ok x) P Q one then = then x one
match_ok (Err e) P Q one then = tt
