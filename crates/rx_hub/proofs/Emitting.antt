-- A step that accepts a note: each observer was fed what the note offers.
use Rattle.std.proofs.Common.{◌≡◌, ℕ, Bool, true, false, cond, ◌&&◌, ◌==◌, is_some, List, [], ◌∷◌, ◌++◌, Option, None, Some, Ok, Err, refl, sym, ap, subst, ◌∙◌}
use Rattle.std.specs.Option.{option_map}
use Rattle.std.specs.List.{list_any, flat_map}
use Rattle.rx_note.specs.declared.given.Given.{Given}
use Rattle.rx_note.specs.declared.note.Note.{Note}
use Rattle.rx_note.specs.declared.rules.Rules.{Rules}
use Rattle.rx_note.specs.declared.event.Event.TheVariants.{Emit}
use Rattle.rx_note.specs.declared.answer.Answer.TheVariants.{Admitted}
use Rattle.rx_note.specs.declared.refusal.Refusal.TheVariants as refused
use Rattle.rx_note.specs.Signals.{Signal, Signals, given}
use Rattle.rx_history.specs.Histories.{History, ◌▹◌, end_of, is_ended, has_room, item_count, accepts, held, is_held, followed_by, signalled, signals, addressed}
use Rattle.rx_history.proofs.Accepting.{accepted}
use Rattle.rx_subject.specs.Subjects.{SubjectState, signals_by}
use Rattle.rx_subject.specs.Subjects as subjects
use Rattle.rx_subject.proofs.Standing.{not_ended, signals-signalled}
use Rattle.rx_hub.specs.Subscriptions.{Observer, numbers, AllStand, AllFed, AllFedInto}
use Rattle.rx_hub.specs.Hubs.{HubState, StandsFor, Steps, Takes}
use Rattle.rx_hub.proofs.Tables.{gains, gains-more, AllAmong, AllAmong-self}

-- each observer was fed: its queue stands for its signals and these, and it gained what it was given
pub record Fed (table later : ℕ → Option Signals) (olds news : List Observer) (given : List Given) : Type 0 where
  pub same_numbers : numbers news ≡ numbers olds
  pub all_stand : AllStand later news
  pub all_gained : given ≡ flat_map (gains table later) (numbers olds)

pub fed : (table later : ℕ → Option Signals) (signals : List Signal) (all : List ℕ) (olds news : List Observer) (given : List Given)
    → ((o : ℕ) → list_any (λ k. k == o) all ≡ true → later o ≡ option_map (λ s. followed_by s signals) (table o))
    → AllAmong all (numbers olds) → AllStand table olds → AllFed signals olds news given → Fed table later olds news given
fed table later signals all [] [] given more among stand feeds = record { same_numbers = refl; all_stand = tt; all_gained = feeds }
fed table later signals all [] (new ∷ news) given more among stand feeds = absurd feeds
fed table later signals all (old ∷ olds) [] given more among stand feeds = absurd feeds
fed table later signals all (old ∷ olds) (new ∷ news) given more among stand feeds =
    let s = stand.0.these in
    let one = feeds.3 in
    let is : later old.who ≡ Some (followed_by s signals) =
    more old.who among.0 ∙ ap (option_map (λ t. followed_by t signals)) stand.0.are in
    let rest = fed table later signals all olds news feeds.1 more among.1 stand.1 feeds.4 in
    let mine : gains table later old.who ≡ addressed old.who feeds.0 =
    gains-more table later old.who s (followed_by s signals) feeds.0 stand.0.are is (one.serves.gives s stand.0.stand) in
    record {
      same_numbers = ap (λ k. k ∷ numbers news) one.number ∙ ap (λ ks. old.who ∷ ks) rest.same_numbers;
      all_stand = (
        record {
          these = followed_by s signals;
          are = ap later one.number ∙ is;
          stand = one.serves.goes_on s stand.0.stand;
        },
        rest.all_stand,
      );
      all_gained = feeds.2 ∙ ap (λ os. os ++ feeds.1) (sym mine) ∙ ap (λ os. gains table later old.who ++ os) rest.all_gained;
    }

both : (b c : Bool) (x y : Option Signals) → b ≡ true → c ≡ true → cond (b && c) x y ≡ x
both true true x y e f = refl
both false c x y e f = cc
both true false x y e f = cc

-- the subject goes on by a note from every history after which it finds room
abbrev pub TakesNote : SubjectState → SubjectState → ℕ → Note → ℕ → Type 0
TakesNote old new port note at =
    (rules : Rules) (H : History) → has_room rules.limits (item_count rules H) note ≡ true → subjects.StandsFor old rules H
    → subjects.StandsFor new rules (H ▹ (port, Emit note at))

-- a note is accepted
pub emit_admitted : (hub : HubState) (subject : SubjectState) (news : List Observer) (before after : List Given) (H : History) (port : ℕ) (note : Note) (at : ℕ)
    → is_some hub.subject.terminal ≡ false → has_room hub.rules.limits hub.subject.count note ≡ true → TakesNote hub.subject subject port note at
    → AllFedInto (signals_by hub.subject port note) hub.observers news before after → StandsFor hub H
    → Steps hub (record hub { subject = subject; observers = news }) before after (Ok Admitted) H (port, Emit note at)
emit_admitted hub subject news before after H port note at unended roomy takes feeds stands =
    let none : end_of H ≡ None = not_ended hub.subject hub.rules H unended stands.subject_stands in
    let is : is_ended H ≡ false = ap is_some none in
    let room : has_room hub.rules.limits (item_count hub.rules H) note ≡ true = ap (λ n. has_room hub.rules.limits n note) (sym stands.subject_stands.count_is) ∙ roomy in
    let taken : accepts hub.rules H note ≡ true = accepted hub.rules H note none room in
    let offers = signals_by hub.subject port note in
    let table : ℕ → Option Signals = signals hub.rules H in
    let later : ℕ → Option Signals = signals hub.rules (H ▹ (port, Emit note at)) in
    let told : signalled hub.rules H port note ≡ offers = sym (signals-signalled hub.subject hub.rules H port note stands.subject_stands) in
    let among : AllAmong (held hub.rules H) (numbers hub.observers) =
    subst (λ (ks : List ℕ). AllAmong (held hub.rules H) ks) (sym stands.held_are) (AllAmong-self (held hub.rules H)) in
    let done = fed table later offers (held hub.rules H) hub.observers news feeds.0
    (λ o is_among. both (is_held hub.rules H o) (accepts hub.rules H note) (option_map (λ s. followed_by s (signalled hub.rules H port note)) (table o)) (table o) is_among taken
    ∙ ap (λ signals'. option_map (λ s. followed_by s signals') (table o)) told)
    among stands.lanes_stand feeds.2 in
    record {
      answers = sym (
          ap (λ b. cond b (Err refused.Ended) (cond (has_room hub.rules.limits (item_count hub.rules H) note) (Ok Admitted) (Err refused.Spent))) is
          ∙ ap (λ b. cond b (Ok Admitted) (Err refused.Spent)) room
          );
      gives = feeds.1 ∙ ap (λ os. before ++ os) (done.all_gained ∙ ap (flat_map (gains table later)) stands.held_are);
      goes_on = record {
        subject_stands = takes hub.rules H room stands.subject_stands;
        joins_are = stands.joins_are;
        held_are = done.same_numbers ∙ stands.held_are;
        lanes_stand = done.all_stand;
      };
    }

-- the same, as the code has it
pub emit_done : (hub : HubState) (subject : SubjectState) (rules : Rules) (olds news : List Observer) (before middle after : List Given) (port : ℕ) (note : Note) (at : ℕ)
    → is_some hub.subject.terminal ≡ false → has_room hub.rules.limits hub.subject.count note ≡ true → rules ≡ hub.rules → TakesNote hub.subject subject port note at → olds ≡ hub.observers → middle ≡ before
    → AllFedInto (signals_by hub.subject port note) olds news middle after
    → Takes hub (record hub { rules = rules; subject = subject; observers = news }) before after (Ok Admitted) (port, Emit note at)
emit_done hub subject rules olds news before middle after port note at unended roomy same_rules takes same_olds same_outs feeds =
    let OfOlds : List Observer → Type 0 = λ os. AllFedInto (signals_by hub.subject port note) os news middle after in
    let OfOuts : List Given → Type 0 = λ os. AllFedInto (signals_by hub.subject port note) hub.observers news os after in
    let all_fed = subst OfOuts same_outs (subst OfOlds same_olds feeds) in
    record {
      rules = same_rules;
      took = λ H stands.
          let By : Rules → Type 0 = λ r. Steps hub (record hub { rules = r; subject = subject; observers = news }) before after (Ok Admitted) H (port, Emit note at) in
          subst By (sym same_rules) (emit_admitted hub subject news before after H port note at unended roomy takes all_fed stands);
    }
