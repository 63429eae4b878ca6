use Rattle.std.proofs.Common.{rules, ◌≡◌, ℕ, Ok, ◌+◌, ◌<◌, ◌≤◌, length, inl, inr, ◌∙◌, refl, ap, arith, Err}
use Rattle.std.proofs.lemmas.Bool.{cases_lt}
use Rattle.std.proofs.lemmas.List.{length-set}
use Rattle.rx_subject.specs.TapeSubjects.{subject_on}
use Rattle.rx_subject.proofs.Taped.{subject_kept}
use Rattle.rx_hub.specs.Audiences.{AudienceState}
use Rattle.rx_note.specs.declared.answer.Answer.TheVariants.{Asked}
use Rattle.rx_note.specs.declared.event.Event.TheVariants.{Request}
use Rattle.rx_hub.specs.Hubs.{HubState, Takes}
use Rattle.rx_hub.specs.Multicasts.{state_of}
use Rattle.rx_hub.specs.States.{state_by}
use Rattle.rx_hub.proofs.Asking.{nobody, request_zero, request_unheld, request_more, request_done, request_missed}
use Rattle.rx_hub.proofs.Being.{of_history, same_history}
use Rattle.rx_hub.proofs.multicast.Multicast.request.Goals.{After-trim}
use Rattle.rx_hub.proofs.multicast.Multicast.request.Goals as goal

pub returns-then-n-eq0-clause-takes : goal.returns-then-n-eq0-clause-takes
returns-then-n-eq0-clause-takes c port = record {
  rules = refl;
  took = λ H stands. request_zero (state_of c.args.self.now) c.args.outs.now.items H port c.args.who c.args.n c.if-n-eq0.true stands;
}

pub returns-in_default-clause-takes : goal.returns-in_default-clause-takes
returns-in_default-clause-takes c port = record {
  rules = refl;
  took = λ H stands.
      request_unheld (state_of c.args.self.now) c.args.outs.now.items H port c.args.who c.args.n (omega arith) (c.in_default.ensures.none refl) stands;
}

-- a request that is not too much
few : (n owing : ℕ) → ((0 < n) × (4294967296 ≤ owing + n) → ⊥) → 0 < n → owing + n < 4294967296
few n owing none more = elim (cases_lt (owing + n) 4294967296) [ inl lt ↦ lt | inr le ↦ absurd (none (more, le)) ]

-- the request was taken
taken : (c : After-trim) (port : ℕ) → Takes (state_of c.args.self.now) (state_by c.args.self.now.limits c.args.self.now.subject c.args.self.now.joins c.trim.new.self)
    c.args.outs.now.items c.ask.new.outs.items (Ok Asked) (port, Request c.args.who c.args.n)
taken c port =
    let old = c.args.self.now in
    let subject = old.subject in
    let place = c.in-Some.place in
    let is = c.in-Some.ensures.found in
    let more : 0 < c.args.n = omega arith in
    let asked = c.in-Ok.ensures.asked nobody in
    let stay = c.in-Ok.ensures.kept (length subject.stamps) (omega (arith, c.keep-keep.ensures)) old.within in
    let kept = c.trim.ensures.kept (length subject.stamps) (omega (arith, c.keep-keep.ensures)) stay.0 in
    request_done (state_of old) (subject_on c.trim.new.self.items subject) c.ask.new.self.observers c.trim.new.self.observers c.args.outs.now.items c.ask.new.outs.items
    port c.args.who c.args.n place nobody is.within (is.number nobody) more
    (few c.args.n _ (λ much. let no = (c.in-Ok.ensures.refuses nobody).too_much.1 much in cc) more)
    asked c.trim.ensures.observers
    (subject_kept subject c.ask.new.self.items c.trim.new.self.items kept.1 ∙ subject_kept subject old.audience.items c.ask.new.self.items stay.1)

pub invariant_of-self : goal.invariant_of-self
invariant_of-self c =
    let old = c.args.self.now in
    let asked = c.in-Ok.ensures.asked nobody in
    let same = ap length (c.trim.ensures.observers ∙ asked.news_are) ∙ length-set old.audience.observers c.in-Some.place asked.observer in
    let stay = c.in-Ok.ensures.kept (length old.subject.stamps) (omega (arith, c.keep-keep.ensures)) old.within in
    let kept = c.trim.ensures.kept (length old.subject.stamps) (omega (arith, c.keep-keep.ensures)) stay.0 in
    record {
      fits = (omega (arith, same, old.fits.0), old.fits.1);
      within = kept.0;
      stands = of_history (state_of old) _ _ _ _ _ (taken c 0) old.stands;
      tight = omega (arith, c.trim.ensures.tight, c.keep-keep.ensures);
    }

pub returns-in-Ok-clause-takes : goal.returns-in-Ok-clause-takes
returns-in-Ok-clause-takes c port = taken c.before port

-- none were asked for before the audience is
pub returns-in-Err-ZeroRequest-clause-takes : goal.returns-in-Err-ZeroRequest-clause-takes
returns-in-Err-ZeroRequest-clause-takes c port =
    let none = (c.in-Err-ZeroRequest.ensures.refuses nobody).zero.0 (ap Err c.in-Err-ZeroRequest.field-0-is) in
    absurd (omega (arith, none))

pub returns-in-Err-TooMuch-clause-takes : goal.returns-in-Err-TooMuch-clause-takes
returns-in-Err-TooMuch-clause-takes c port =
    let old = c.args.self.now in
    let place = c.in-Some.place in
    let is = c.in-Some.ensures.found in
    let much = (c.in-Err-TooMuch.ensures.refuses nobody).too_much.0 (ap Err c.in-Err-TooMuch.field-0-is) in
    let same : AudienceState → HubState = λ audience. record (state_of old) { subject = subject_on audience.items old.subject; observers = audience.observers } in
    request_more (state_of old) (same c.ask.new.self) c.args.outs.now.items c.ask.new.outs.items port c.args.who c.args.n place nobody is.within (is.number nobody) much.0 much.1
    (ap same c.in-Err-TooMuch.ensures.err.0) c.in-Err-TooMuch.ensures.err.1

pub returns-in-Err-Memory-clause-takes : goal.returns-in-Err-Memory-clause-takes
returns-in-Err-Memory-clause-takes c port =
    let old = c.args.self.now in
    let place = c.in-Some.place in
    let is = c.in-Some.ensures.found in
    let more : 0 < c.args.n = omega arith in
    let same : AudienceState → HubState = λ audience. record (state_of old) { subject = subject_on audience.items old.subject; observers = audience.observers } in
    record {
      rules = refl;
      took = request_missed (state_of old) (same c.ask.new.self) c.args.outs.now.items c.ask.new.outs.items port c.args.who c.args.n place nobody is.within (is.number nobody) more
          (few c.args.n _ (λ much. let no = (c.in-Err-Memory.ensures.refuses nobody).too_much.1 much in let is_memory = c.in-Err-Memory.field-0-is in cc) more)
          (ap same c.in-Err-Memory.ensures.err.0) c.in-Err-Memory.ensures.err.1;
    }

pub invariant_of-self-in-Err-1-clause-stands : goal.invariant_of-self-in-Err-1-clause-stands
invariant_of-self-in-Err-1-clause-stands c =
    let old = c.args.self.now in
    let same : c.ask.new.self ≡ old.audience = search rules in
    same_history old.limits old.joins refl same old.stands

pub invariant_of-self-in-Err-1-clause-tight : goal.invariant_of-self-in-Err-1-clause-tight
invariant_of-self-in-Err-1-clause-tight c =
    let old = c.args.self.now in
    let same : c.ask.new.self ≡ old.audience = search rules in
    rw same old.tight
