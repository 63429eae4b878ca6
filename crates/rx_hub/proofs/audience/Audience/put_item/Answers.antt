use Rattle.std.proofs.Common.{◌≡◌, ◌≤◌, ◌++◌, ◌∷◌, [], ℕ, List, Some, length, take, refl, sym, ap, subst, ◌∙◌}
use Rattle.rx_note.specs.declared.event.Event.TheVariants.{Emit}
use Rattle.rx_note.specs.declared.item.Item.{Item}
use Rattle.rx_note.specs.declared.note.Note.TheVariants.{Next}
use Rattle.rx_note.specs.declared.given.Given.{Given}
use Rattle.rx_note.specs.Signals.{Offered}
use Rattle.rx_history.specs.Histories.{◌▹◌}
use Rattle.rx_subject.specs.Subjects as subjects
use Rattle.rx_subject.specs.TapeSubjects.{subject_on}
use Rattle.rx_tape.specs.Tapes.{TapeState, pushed}
use Rattle.rx_hub.specs.Subscriptions.{Observer, AllFed}
use Rattle.rx_hub.specs.Audiences.{AudienceState, places_of, observers_on, gifts, Owned}
use Rattle.rx_hub.specs.Audiences as audiences
use Rattle.rx_hub.specs.Emissions.{delivery, IsOpen, Admits, of_item}
use Rattle.rx_hub.proofs.Admitting.{item_admitted, wrote_another}
use Rattle.rx_hub.proofs.Being.{seats_take_more}
use Rattle.rx_hub.proofs.Idle.{all_aside}
use Rattle.rx_hub.proofs.Outcomes.{on_ok, on_err}
use Rattle.rx_hub.proofs.Places.{apart_same}
use Rattle.rx_hub.proofs.Staying.{on_err_known, shown, stays, on_pushed}
use Rattle.rx_hub.proofs.Tight.{owned_same}
use Rattle.rx_hub.proofs.audience.Audience.put_item.Goals as goal

pub invariant_of-self-2 : goal.invariant_of-self-2
invariant_of-self-2 c =
    let a = c.self.inside in
    let olds = places_of a.subscriptions.items in
    let made = places_of c.give_item.new.subscriptions.items in
    let news = places_of c.pass_all.new.subscriptions.items in
    let same_made : audiences.cursors made ≡ audiences.cursors olds = ap audiences.cursors c.in-Ok.ensures.places in
    let owned : Owned (pushed a.tape c.args.item) made = owned_same a.tape olds made same_made c.self.invariant.2 in (
      c.pass_all.ensures.on,
      apart_same olds news (c.pass_all.ensures.cursors ∙ same_made) c.self.invariant.1,
      c.pass_all.ensures.owned (subst (λ (tape : TapeState). Owned tape made) (sym c.in-Ok-admit_on.ensures.tape) owned),
      c.pass_all.ensures.idle (c.in-Ok.ensures.aside c.if-not-fits.false (all_aside a.subscriptions.items c.self.invariant.3)),
    )

pub returns-in_err-reserve-clause-err : goal.returns-in_err-reserve-clause-err
returns-in_err-reserve-clause-err c = on_err_known c.from_residual.result (record { subject = refl; audience = refl; given = c.in_err-reserve.ensures.items })

pub invariant_of-self : goal.invariant_of-self
invariant_of-self c =
    let a = c.self.inside in
    stays a.tape a.tape (places_of a.subscriptions.items) (places_of c.take_back.new.subscriptions.items) refl (c.take_back.ensures.places ∙ c.in_default.ensures.places)
    c.take_back.ensures.idle c.self.invariant

pub returns-in_default-clause-err : goal.returns-in_default-clause-err
returns-in_default-clause-err c =
    let a = c.self.inside in
    record {
      subject = refl;
      audience =
          shown a.tape.items a.tape.items (places_of a.subscriptions.items) (places_of c.take_back.new.subscriptions.items) refl (c.take_back.ensures.places ∙ c.in_default.ensures.places)
          ∙ c.self.view_is;
      given =
          c.take_back.ensures.items
          ∙ ap (λ (n : ℕ). take n c.give_item.new.outs.items) (c.len-before.ensures ∙ sym c.in_ok-reserve.ensures.len)
          ∙ c.in_default.ensures.front
          ∙ c.in_ok-reserve.ensures.items;
    }

pub admit_on-requires-clause-stamps : goal.admit_on-requires-clause-stamps
admit_on-requires-clause-stamps c =
    subst (λ (v : AudienceState). length c.args.subject.now.stamps ≤ length v.items) (sym c.self.view_is) c.requires.open.stamps

pub invariant_of-self-in_default-admit_on : goal.invariant_of-self-in_default-admit_on
invariant_of-self-in_default-admit_on c =
    let a = c.self.inside in
    stays a.tape c.admit_on.new.tape (places_of a.subscriptions.items) (places_of c.take_back-in_default-admit_on.new.subscriptions.items)
    c.in_default-admit_on.ensures.err.1 (c.take_back-in_default-admit_on.ensures.places ∙ c.in-Ok.ensures.places) c.take_back-in_default-admit_on.ensures.idle c.self.invariant

pub returns-in_default-admit_on-clause-err : goal.returns-in_default-admit_on-clause-err
returns-in_default-admit_on-clause-err c =
    let a = c.self.inside in
    let err = c.in_default-admit_on.ensures.err in
    record {
      subject = err.0;
      audience =
          shown a.tape.items c.admit_on.new.tape.items (places_of a.subscriptions.items) (places_of c.take_back-in_default-admit_on.new.subscriptions.items)
          (ap (λ (t : TapeState). t.items) err.1) (c.take_back-in_default-admit_on.ensures.places ∙ c.in-Ok.ensures.places)
          ∙ c.self.view_is;
      given =
          c.take_back-in_default-admit_on.ensures.items
          ∙ ap (λ (n : ℕ). take n c.give_item.new.outs.items) (c.len-before.ensures ∙ sym c.in_ok-reserve.ensures.len)
          ∙ c.in-Ok.ensures.front
          ∙ c.in_ok-reserve.ensures.items;
    }

pub pass_all-requires-clause-on : goal.pass_all-requires-clause-on
pass_all-requires-clause-on c =
    let a = c.self.inside in
    on_pushed a.tape c.admit_on.new.tape (Some c.args.item) (places_of a.subscriptions.items) (places_of c.give_item.new.subscriptions.items)
    c.in-Ok-admit_on.ensures.tape c.in-Ok.ensures.places c.self.invariant.0

pub pass_all-requires-clause-apart : goal.pass_all-requires-clause-apart
pass_all-requires-clause-apart c =
    apart_same (places_of c.self.inside.subscriptions.items) (places_of c.give_item.new.subscriptions.items)
    (ap audiences.cursors c.in-Ok.ensures.places) c.self.invariant.1

pub returns-clause-admits : goal.returns-clause-admits
returns-clause-admits c =
    let a = c.self.inside in
    let items = a.tape.items in
    let item = c.args.item in
    let before = c.args.outs.now.items in
    let olds = places_of a.subscriptions.items in
    let later = c.pass_all.new.tape.items in
    let news = observers_on later (places_of c.pass_all.new.subscriptions.items) in
    let old = delivery c.args.subject.now c.args.self.now before in
    let new = delivery c.admit_on.new.self (record { items = later; observers = news }) c.give_item.new.outs.items in
    let fed = c.pass_all.ensures.fed items item (ap (λ (t : TapeState). t.items) c.in-Ok-admit_on.ensures.tape) (c.in-Ok.ensures.holds c.if-not-fits.false) in
    let were = ap (observers_on items) c.in-Ok.ensures.places ∙ ap (λ (v : AudienceState). v.observers) c.self.view_is in
    item_admitted old new item c.args.at c.requires.offered c.requires.next.next
    (λ from place rules H room stands.
    let note = Next (record { from = from; place = place; text = item.text }) in
    subst (λ (xs : List Item). subjects.StandsFor (subject_on xs c.admit_on.new.self) rules (H ▹ (item.from, Emit note c.args.at))) (sym c.pass_all.ensures.items)
    (c.in-Ok-admit_on.ensures.stands from place rules H room (subst (λ (v : AudienceState). subjects.StandsFor (subject_on v.items c.args.subject.now) rules H) (sym c.self.view_is) stands))) (
      fed.0,
      c.in-Ok.ensures.given c.if-not-fits.false
          ∙ ap (λ os. os ++ gifts item olds) c.in_ok-reserve.ensures.items
          ∙ ap (λ gs. before ++ gs) (ap (gifts item) (sym c.in-Ok.ensures.places) ∙ fed.1),
      subst (λ (os : List Observer). AllFed (Offered item ∷ []) os news fed.0) were fed.2,
    )
    (subst (λ (xs : List Item). length c.admit_on.new.self.stamps ≤ length xs) (sym c.pass_all.ensures.items) c.admit_on.ensures.within)
    c.admit_on.ensures.kind

pub pass_all-requires-clause-open : goal.pass_all-requires-clause-open
pass_all-requires-clause-open c =
    let a = c.self.inside in
    seats_take_more c.args.self.now a.tape.items (places_of a.subscriptions.items) (places_of c.give_item.new.subscriptions.items) c.self.view_is c.in-Ok.ensures.places c.requires.open.all_open

-- where it overflows, all is as it was before the other way is taken
pub admit_offer-requires-clause-open : goal.admit_offer-requires-clause-open
admit_offer-requires-clause-open c =
    let a = c.self.inside in
    let same = shown a.tape.items a.tape.items (places_of a.subscriptions.items) (places_of c.take_back-then-not-fits.new.subscriptions.items) refl (c.take_back-then-not-fits.ensures.places ∙ c.in-Ok.ensures.places) ∙ c.self.view_is in
    subst (λ (v : AudienceState). IsOpen c.args.subject.now v) (sym same) c.requires.open

pub returns-then-not-fits-clause-err : goal.returns-then-not-fits-clause-err
returns-then-not-fits-clause-err c =
    let a = c.self.inside in
    let same = shown a.tape.items a.tape.items (places_of a.subscriptions.items) (places_of c.take_back-then-not-fits.new.subscriptions.items) refl (c.take_back-then-not-fits.ensures.places ∙ c.in-Ok.ensures.places) ∙ c.self.view_is in
    let outs =
    c.take_back-then-not-fits.ensures.items
    ∙ ap (λ (n : ℕ). take n c.give_item.new.outs.items) (c.len-before.ensures ∙ sym c.in_ok-reserve.ensures.len)
    ∙ c.in-Ok.ensures.front
    ∙ c.in_ok-reserve.ensures.items in
    on_err c.admit_offer.result (λ known. record { subject = known.subject; audience = known.audience ∙ same; given = known.given ∙ outs }) c.admit_offer.ensures.err

pub returns-then-not-fits-clause-admits : goal.returns-then-not-fits-clause-admits
returns-then-not-fits-clause-admits c =
    let a = c.self.inside in
    let item = c.args.item in
    let same = shown a.tape.items a.tape.items (places_of a.subscriptions.items) (places_of c.take_back-then-not-fits.new.subscriptions.items) refl (c.take_back-then-not-fits.ensures.places ∙ c.in-Ok.ensures.places) ∙ c.self.view_is in
    let outs =
    c.take_back-then-not-fits.ensures.items
    ∙ ap (λ (n : ℕ). take n c.give_item.new.outs.items) (c.len-before.ensures ∙ sym c.in_ok-reserve.ensures.len)
    ∙ c.in-Ok.ensures.front
    ∙ c.in_ok-reserve.ensures.items in
    let new = delivery c.admit_offer.new.subject c.admit_offer.new.self c.admit_offer.new.outs.items in
    let By : AudienceState → List Given → Type 0 = λ audience before. Admits (delivery c.args.subject.now audience before) new (of_item item.from item.place item c.args.at) in
    on_ok c.admit_offer.result
    (λ admits.
    wrote_another (delivery c.args.subject.now c.args.self.now c.args.outs.now.items) new item c.args.at c.requires.open.open_now
    (subst (λ (v : AudienceState). By v c.args.outs.now.items) same
    (subst (λ (before : List Given). By (record { items = a.tape.items; observers = observers_on a.tape.items (places_of c.take_back-then-not-fits.new.subscriptions.items) }) before) outs admits)))
    c.admit_offer.ensures.admits
