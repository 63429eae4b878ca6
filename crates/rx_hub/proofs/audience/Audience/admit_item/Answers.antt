use Rattle.std.proofs.Common.{◌≡◌, ◌≤◌, ◌∷◌, [], ◌++◌, ℕ, List, length, refl, sym, ap, subst, ◌∙◌, rules}
use Rattle.rx_note.specs.Signals.{Offered}
use Rattle.rx_subject.specs.Subjects as subjects
use Rattle.rx_subject.specs.TapeSubjects.{subject_on}
use Rattle.rx_hub.specs.Subscriptions.{Observer, AllFed}
use Rattle.rx_hub.specs.Audiences.{AudienceState, places_of, observers_on, gifts, Owned}
use Rattle.rx_hub.specs.Audiences as audiences
use Rattle.rx_hub.specs.Emissions.{delivery}
use Rattle.rx_hub.proofs.Admitting.{item_admitted}
use Rattle.rx_hub.proofs.Being.{seats_take_more}
use Rattle.rx_hub.proofs.Places.{apart_same}
use Rattle.rx_hub.proofs.Tight.{owned_same}
use Rattle.rx_hub.proofs.audience.Audience.admit_item.Goals as goal

pub invariant_of-self : goal.invariant_of-self
invariant_of-self c =
    let a = c.self.inside in
    let olds = places_of a.subscriptions.items in
    let news = places_of c.pass_owed_all.new.subscriptions.items in
    let same : audiences.cursors news ≡ audiences.cursors olds = c.pass_owed_all.ensures.cursors in
    (c.pass_owed_all.ensures.on a.tape c.self.invariant.0, apart_same olds news same c.self.invariant.1, owned_same a.tape olds news same c.self.invariant.2, c.pass_owed_all.ensures.idle c.self.invariant.3)

pub returns-then-are_owed-clause-admits : goal.returns-then-are_owed-clause-admits
returns-then-are_owed-clause-admits c =
    let a = c.self.inside in
    let items = a.tape.items in
    let item = c.args.item in
    let before = c.args.outs.now.items in
    let news = observers_on items (places_of c.pass_owed_all.new.subscriptions.items) in
    let old = delivery c.args.subject.now c.args.self.now before in
    let new = delivery c.pass_item.new.self (record { items = items; observers = news }) c.give_owed.new.outs.items in
    let fed = c.pass_owed_all.ensures.fed items item in
    let olds = ap (λ (v : AudienceState). v.observers) c.self.view_is in
    let publishes = c.keeps_nothing.ensures.0 c.if-keeps_nothing.true in
    item_admitted old new item c.args.at
    (λ is. cc) c.requires.next.next
    (λ from place rules H room stands. c.pass_item.ensures.stands items item.from (record { from = from; place = place; text = item.text }) rules H room
    (subst (λ (v : AudienceState). subjects.StandsFor (subject_on v.items c.args.subject.now) rules H) (sym c.self.view_is) stands)) (
      fed.0,
      c.in-Ok.ensures.given
          ∙ ap (λ os. os ++ gifts item (places_of a.subscriptions.items)) c.in_ok-reserve.ensures.items
          ∙ ap (λ gs. before ++ gs) fed.1,
      subst (λ (os : List Observer). AllFed (Offered item ∷ []) os news fed.0) olds fed.2,
    )
    (subst (λ (stamps : List ℕ). length stamps ≤ length items) (sym c.pass_item.ensures.stamps)
    (subst (λ (v : AudienceState). length c.args.subject.now.stamps ≤ length v.items) (sym c.self.view_is) c.requires.open.stamps))
    c.pass_item.ensures.kind

pub pass_item-requires : goal.pass_item-requires
pass_item-requires c = search rules

pub pass_owed_all-requires-clause-open : goal.pass_owed_all-requires-clause-open
pass_owed_all-requires-clause-open c =
    let a = c.self.inside in
    seats_take_more c.args.self.now a.tape.items (places_of a.subscriptions.items) (places_of a.subscriptions.items) c.self.view_is refl c.requires.open.all_open
