use Rattle.std.proofs.Common.{◌≡◌, ◌≤◌, ◌++◌, List, length, option_to_list, refl, sym, ap, subst, ◌∙◌}
use Rattle.rx_note.specs.declared.event.Event.TheVariants.{Emit}
use Rattle.rx_note.specs.declared.given.Given.{Given}
use Rattle.rx_note.specs.declared.item.Item.{Item}
use Rattle.rx_note.specs.Signals.{Signal}
use Rattle.rx_history.specs.Histories.{◌▹◌}
use Rattle.rx_tape.specs.Tapes.{TapeState}
use Rattle.rx_subject.specs.Offers.{offer_signals}
use Rattle.rx_subject.specs.Subjects.{offered_by}
use Rattle.rx_subject.specs.Subjects as subjects
use Rattle.rx_subject.specs.TapeSubjects.{subject_on, pushed_all}
use Rattle.rx_subject.proofs.Taped.{pushed_items}
use Rattle.rx_hub.specs.Subscriptions.{Observer, AllFedInto}
use Rattle.rx_hub.specs.Audiences.{AudienceState, places_of, observers_on, cursors}
use Rattle.rx_hub.proofs.Being.{seats_take_more}
use Rattle.rx_hub.proofs.Places.{apart_same}
use Rattle.rx_hub.proofs.Staying.{shown, stays, on_pushed, owned_by}
use Rattle.rx_hub.proofs.audience.Audience.admit_as.Goals as goal

pub feed_all-requires-clause-ready : goal.feed_all-requires-clause-ready
feed_all-requires-clause-ready c = c.in-Ok.ensures.ready

pub feed_all-requires-clause-on : goal.feed_all-requires-clause-on
feed_all-requires-clause-on c =
    let a = c.self.inside in
    let subject = c.args.subject.now in
    let pushed = c.in-Ok-admit_offered.ensures.tape
    ∙ ap (pushed_all a.tape) (ap (λ (v : AudienceState). offered_by (subject_on v.items subject) c.args.emission.port c.args.emission.note) c.self.view_is ∙ c.requires.item) in
    on_pushed a.tape c.admit_offered.new.tape c.args.offer.now.item (places_of a.subscriptions.items) (places_of c.prepare_all.new.subscriptions.items)
    pushed c.in-Ok.ensures.places c.self.invariant.0

pub feed_all-requires-clause-apart : goal.feed_all-requires-clause-apart
feed_all-requires-clause-apart c =
    apart_same (places_of c.self.inside.subscriptions.items) (places_of c.prepare_all.new.subscriptions.items)
    (ap cursors c.in-Ok.ensures.places) c.self.invariant.1

pub invariant_of-self : goal.invariant_of-self
invariant_of-self c =
    let a = c.self.inside in
    stays a.tape a.tape (places_of a.subscriptions.items) (places_of c.forget_all.new.subscriptions.items) refl
    (c.forget_all.ensures.places ∙ c.in_default-prepare_all.ensures.places) c.forget_all.ensures.idle c.self.invariant

pub invariant_of-self-in_default-admit_offered : goal.invariant_of-self-in_default-admit_offered
invariant_of-self-in_default-admit_offered c =
    let a = c.self.inside in
    stays a.tape c.admit_offered.new.tape (places_of a.subscriptions.items) (places_of c.forget_all-in_default-admit_offered.new.subscriptions.items)
    c.in_default-admit_offered.ensures.err.1 (c.forget_all-in_default-admit_offered.ensures.places ∙ c.in-Ok.ensures.places)
    c.forget_all-in_default-admit_offered.ensures.idle c.self.invariant

pub returns-in_default-prepare_all-clause-err : goal.returns-in_default-prepare_all-clause-err
returns-in_default-prepare_all-clause-err c =
    let a = c.self.inside in
    record {
      subject = refl;
      audience =
          shown a.tape.items a.tape.items (places_of a.subscriptions.items) (places_of c.forget_all.new.subscriptions.items) refl
          (c.forget_all.ensures.places ∙ c.in_default-prepare_all.ensures.places)
          ∙ c.self.view_is;
      given = c.in_ok-reserve.ensures.items;
    }

pub returns-in_default-admit_offered-clause-err : goal.returns-in_default-admit_offered-clause-err
returns-in_default-admit_offered-clause-err c =
    let a = c.self.inside in
    let err = c.in_default-admit_offered.ensures.err in
    record {
      subject = err.0;
      audience =
          shown a.tape.items c.admit_offered.new.tape.items (places_of a.subscriptions.items) (places_of c.forget_all-in_default-admit_offered.new.subscriptions.items)
          (ap (λ (t : TapeState). t.items) err.1) (c.forget_all-in_default-admit_offered.ensures.places ∙ c.in-Ok.ensures.places)
          ∙ c.self.view_is;
      given = c.in_ok-reserve.ensures.items;
    }

pub invariant_of-self-2 : goal.invariant_of-self-2
invariant_of-self-2 c =
    let a = c.self.inside in
    let subject = c.args.subject.now in
    let olds = places_of a.subscriptions.items in
    let made = places_of c.prepare_all.new.subscriptions.items in
    let news = places_of c.feed_all.new.subscriptions.items in
    let same = c.in-Ok.ensures.places in
    let pushed = c.in-Ok-admit_offered.ensures.tape
    ∙ ap (pushed_all a.tape) (ap (λ (v : AudienceState). offered_by (subject_on v.items subject) c.args.emission.port c.args.emission.note) c.self.view_is ∙ c.requires.item) in (
      c.feed_all.ensures.on,
      apart_same olds news (c.feed_all.ensures.cursors ∙ ap cursors same) c.self.invariant.1,
      c.feed_all.ensures.owned (owned_by a.tape c.admit_offered.new.tape c.args.offer.now.item olds made pushed same c.self.invariant.2),
      c.feed_all.ensures.idle,
    )

pub returns-clause-admits : goal.returns-clause-admits
returns-clause-admits c =
    let a = c.self.inside in
    let items = a.tape.items in
    let subject = c.args.subject.now in
    let port = c.args.emission.port in
    let note = c.args.emission.note in
    let offer = c.args.offer.now in
    let offered = offered_by (subject_on items subject) port note in
    let offered_is : offered ≡ option_to_list offer.item = ap (λ (v : AudienceState). offered_by (subject_on v.items subject) port note) c.self.view_is ∙ c.requires.item in
    let tape_is =
    ap (λ (tape : TapeState). tape.items) c.in-Ok-admit_offered.ensures.tape ∙ pushed_items a.tape offered ∙ ap (λ xs. items ++ xs) offered_is in
    let fed = c.feed_all.ensures.fed items tape_is in
    let news = observers_on c.feed_all.new.tape.items (places_of c.feed_all.new.subscriptions.items) in
    let after = c.feed_all.new.outs.items in
    let olds =
    ap (observers_on items) c.in-Ok.ensures.places ∙ ap (λ (v : AudienceState). v.observers) c.self.view_is in
    let By : List Signal → List Observer → List Given → Type 0 = λ signals os gs. AllFedInto signals os news gs after in
    record {
      stands = λ rules H room stands.
          subst (λ (xs : List Item). subjects.StandsFor (subject_on xs c.admit_offered.new.self) rules (H ▹ (port, Emit note c.args.emission.at))) (sym c.feed_all.ensures.items)
          (c.in-Ok-admit_offered.ensures.stands rules H room (subst (λ (v : AudienceState). subjects.StandsFor (subject_on v.items c.args.subject.now) rules H) (sym c.self.view_is) stands));
      fed =
          subst (λ (signals : List Signal). By signals c.args.self.now.observers c.args.outs.now.items) (sym c.requires.offers)
          (subst (λ (os : List Observer). By (offer_signals offer) os c.args.outs.now.items) olds
          (subst (λ (gs : List Given). By (offer_signals offer) (observers_on items (places_of c.prepare_all.new.subscriptions.items)) gs) c.in_ok-reserve.ensures.items fed));
      within = subst (λ (xs : List Item). length c.admit_offered.new.self.stamps ≤ length xs) (sym c.feed_all.ensures.items) c.admit_offered.ensures.within;
      kind = c.admit_offered.ensures.kind;
    }

pub feed_all-requires-clause-open : goal.feed_all-requires-clause-open
feed_all-requires-clause-open c =
    let a = c.self.inside in
    seats_take_more c.args.self.now a.tape.items (places_of a.subscriptions.items) (places_of c.prepare_all.new.subscriptions.items) c.self.view_is c.in-Ok.ensures.places c.requires.open.all_open
