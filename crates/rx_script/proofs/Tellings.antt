-- What a topic does that takes an event, told by the history of its subject.
use Rattle.std.proofs.Common.{◌≡◌, ◌≢◌, ℕ, Bool, true, false, cond, ◌&&◌, ◌⊎◌, inl, inr, List, [], ◌∷◌, ◌++◌, length, get_or, Result, Ok, Err, is_ok, refl, sym, ap, subst, ◌∙◌, append-nil, ◌+◌, ◌<◌, take, drop}
use Rattle.std.proofs.lemmas.List.{take_more, take-append-drop}
use Rattle.std.proofs.lemmas.Grind.{flat_map-append}
use Rattle.std.specs.List.{flat_map}
use Rattle.rx_note.specs.declared.event.Event.{Event}
use Rattle.rx_note.specs.declared.given.Given.{Given}
use Rattle.rx_note.specs.declared.rules.Rules.{Rules}
use Rattle.rx_note.specs.declared.answer.Answer.{Answer}
use Rattle.rx_note.specs.declared.refusal.Refusal.{Refusal}
use Rattle.rx_note.specs.declared.refusal.Refusal.TheVariants as refused
use Rattle.rx_history.specs.Histories.{History, answer, outs}
use Rattle.rx_hub.specs.Hubs.{HubState, HubView, StandsFor, Steps, MayMiss, takes_memory}
use Rattle.rx_script.specs.declared.topic.Topic.{Topic}
use Rattle.rx_proto.specs.declared.response.Response.TheVariants.{Refused}
use Rattle.rx_proto.specs.declared.version.Version.{Version}
use Rattle.rx_proto.specs.declared.word.Word.TheVariants as words
use Rattle.rx_proto.specs.Printing.{reply_line}
use Rattle.rx_script.specs.Printing.{given_line}
use Rattle.rx_script.specs.Scripts.{StandsForSubject}
use Rattle.rx_session.specs.Responses.{response_to}
use Rattle.rx_script.specs.Transcripts.{Subject, given_lines, event_written, takes_it_with_memory, taking}

-- an answer is Memory or another
pub is_memory : (result : Result Answer Refusal) → (result ≡ Err refused.Memory) ⊎ (result ≢ Err refused.Memory)
is_memory (Ok answer) = inr (λ e. cc)
is_memory (Err refused.Ended) = inr (λ e. cc)
is_memory (Err refused.Full) = inr (λ e. cc)
is_memory (Err refused.Spent) = inr (λ e. cc)
is_memory (Err refused.ZeroRequest) = inr (λ e. cc)
is_memory (Err refused.NoObserver) = inr (λ e. cc)
is_memory (Err refused.TooMuch) = inr (λ e. cc)
is_memory (Err refused.Memory) = inl refl

-- what a step of a topic's hub is in a script
pub record Told (topic : Topic) (hub : HubView) (event : Event) (version : Version) (answered : Result Answer Refusal) (given : List Given) (subject : Subject) : Type 0 where
  pub missed : Bool
  pub accepted : missed ≡ true → takes_it_with_memory event subject ≡ true
  pub written : reply_line (response_to answered) ++ given_lines version topic.name given
      ≡ cond missed (reply_line (Refused words.Memory)) (event_written version subject event)
  pub stands : StandsForSubject (record topic { hub = hub }) (cond missed subject (taking subject event))

both : (a b : Bool) → a ≡ true → b ≡ true → (a && b) ≡ true
both true true p q = refl
both true false p q = q
both false b p q = p

-- by the clauses of the step
pub told : (topic : Topic) (hub : HubView) (event : Event) (version : Version) (answered : Result Answer Refusal) (given : List Given) (subject : Subject)
    → (answered ≢ Err refused.Memory → (H : History) → StandsFor topic.hub.state H → Steps topic.hub.state hub.state [] given answered H (0, event))
    → (answered ≡ Err refused.Memory → (hub.state ≡ topic.hub.state) × (given ≡ []))
    → (answered ≡ Err refused.Memory → (H : History) → StandsFor topic.hub.state H → MayMiss topic.hub.state.rules H (0, event))
    → hub.state.rules ≡ topic.hub.state.rules
    → StandsForSubject topic subject → Told topic hub event version answered given subject
told topic hub event version answered given subject steps misses accepted rules stands = elim (is_memory answered) [
  | inl missed ↦ record {
    missed = true;
    accepted = λ _.
        let may = accepted missed subject.history stands.history in
        both (takes_memory event) (is_ok (answer subject.rules subject.history event)) may.0
        (ap (λ (r : Rules). is_ok (answer r subject.history event)) (sym stands.rules) ∙ may.1);
    written =
        ap (λ r. reply_line (response_to r) ++ given_lines version topic.name given) missed
        ∙ ap (λ gs. reply_line (Refused words.Memory) ++ given_lines version topic.name gs) (misses missed).1
        ∙ append-nil (reply_line (Refused words.Memory));
    stands = record {
      name = stands.name;
      rules = rules ∙ stands.rules;
      history = subst (λ (h : HubState). StandsFor h subject.history) (sym (misses missed).0) stands.history;
    };
  }
  | inr other ↦
      let step = steps other subject.history stands.history in
      let same_answer = step.answers ∙ ap (λ (r : Rules). answer r subject.history event) stands.rules in
      let same_outs = step.gives ∙ ap (λ (r : Rules). outs r subject.history (0, event)) stands.rules in
      record {
        missed = false;
        accepted = λ e. cc;
        written =
            ap (λ r. reply_line (response_to r) ++ given_lines version topic.name given) same_answer
            ∙ ap (λ gs. reply_line (response_to (answer subject.rules subject.history event)) ++ given_lines version topic.name gs) same_outs
            ∙ ap (λ name. reply_line (response_to (answer subject.rules subject.history event)) ++ given_lines version name (outs subject.rules subject.history (0, event))) stands.name;
        stands = record { name = stands.name; rules = rules ∙ stands.rules; history = step.goes_on };
      }
]

-- the lines of one note more
pub given_lines-more : (version : Version) (name : List ℕ) (given : List Given) (i : ℕ) (next : Given) → i < length given → next ≡ get_or given i next
    → given_lines version name (take (i + 1) given) ≡ given_lines version name (take i given) ++ given_line version name next.who next.note
given_lines-more version name given i next lt is =
    let line : Given → List ℕ = λ g. given_line version name g.who g.note in
    ap (flat_map line) (take_more given i next lt ∙ ap (λ g. take i given ++ g ∷ []) (sym is))
    ∙ flat_map-append line (take i given) (next ∷ [])
    ∙ ap (λ bytes. flat_map line (take i given) ++ bytes) (append-nil (line next))

-- the lines of all notes, parted behind one of them
pub given_lines-parts : (version : Version) (name : List ℕ) (given : List Given) (i : ℕ) (next : Given) → i < length given → next ≡ get_or given i next
    → (given_lines version name (take i given) ++ given_line version name next.who next.note) ++ given_lines version name (drop (i + 1) given) ≡ given_lines version name given
given_lines-parts version name given i next lt is =
    let line : Given → List ℕ = λ g. given_line version name g.who g.note in
    ap (λ bytes. bytes ++ given_lines version name (drop (i + 1) given)) (sym (given_lines-more version name given i next lt is))
    ∙ sym (flat_map-append line (take (i + 1) given) (drop (i + 1) given)) ∙ ap (flat_map line) (take-append-drop (i + 1) given)
