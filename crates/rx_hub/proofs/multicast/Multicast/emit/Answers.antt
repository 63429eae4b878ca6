use Rattle.std.proofs.Common.{◌≡◌, Ok, List, length, sym, ◌∙◌, refl, ap, subst, arith}
use Rattle.rx_note.specs.declared.kind.Kind.{Kind}
use Rattle.rx_note.specs.declared.rules.Rules.{Rules}
use Rattle.rx_note.specs.declared.event.Event.TheVariants.{Emit}
use Rattle.rx_history.specs.Histories.{◌▹◌}
use Rattle.rx_subject.specs.Subjects.{SubjectState, signals_by}
use Rattle.rx_subject.specs.Subjects as subjects
use Rattle.rx_subject.specs.TapeSubjects.{subject_on}
use Rattle.rx_subject.proofs.Taped.{subject_kept}
use Rattle.rx_hub.specs.Subscriptions.{Observer, AllFedInto}
use Rattle.rx_hub.specs.Hubs.{Takes}
use Rattle.rx_hub.specs.Multicasts.{state_of}
use Rattle.rx_hub.specs.States.{state_by}
use Rattle.rx_note.specs.declared.answer.Answer.TheVariants.{Admitted}
use Rattle.rx_hub.proofs.Quiet.{emit_ended, emit_spent}
use Rattle.rx_hub.proofs.Emitting.{emit_done}
use Rattle.rx_hub.proofs.Feeding.{AllFed-length}
use Rattle.rx_hub.proofs.Being.{of_history, same_history, all_open}
use Rattle.rx_hub.proofs.multicast.Multicast.emit.Goals.{After-trim}
use Rattle.rx_hub.proofs.multicast.Multicast.emit.Goals as goal

pub returns-then-is_ended : goal.returns-then-is_ended
returns-then-is_ended c = record {
  rules = refl;
  took = λ H stands.
      emit_ended (state_of c.args.self.now) c.args.outs.now.items H c.args.port c.args.note c.args.at (sym c.is_ended.ensures ∙ c.if-is_ended.true) stands;
}

pub returns-then-not-has_room : goal.returns-then-not-has_room
returns-then-not-has_room c = record {
  rules = refl;
  took = λ H stands.
      emit_spent (state_of c.args.self.now) c.args.outs.now.items H c.args.port c.args.note c.args.at (sym c.is_ended.ensures ∙ c.if-is_ended.false) (sym c.has_room.ensures.room ∙ c.if-not-has_room.true) stands;
}

-- the note was taken
taken : (c : After-trim) → Takes (state_of c.args.self.now) (state_by c.args.self.now.limits c.admit.new.subject c.args.self.now.joins c.trim.new.self)
    c.args.outs.now.items c.admit.new.outs.items (Ok Admitted) (c.args.port, Emit c.args.note c.args.at)
taken c =
    let old = c.args.self.now in
    let subject = c.admit.new.subject in
    let before = c.args.outs.now.items in
    let after = c.admit.new.outs.items in
    let now = subject_on c.trim.new.self.items subject in
    let kept = c.trim.ensures.kept (length subject.stamps) (omega (arith, c.keep.ensures)) c.in-Ok.ensures.admits.within in
    let same : now ≡ subject_on c.admit.new.self.items subject = subject_kept subject c.admit.new.self.items c.trim.new.self.items kept.1 in
    let ruled : Kind → Rules = λ kind. record { kind = kind; limits = old.limits } in
    let signals = signals_by (subject_on old.audience.items old.subject) c.args.port c.args.note in
    emit_done (state_of old) now (ruled subject.kind) old.audience.observers c.trim.new.self.observers before before after c.args.port c.args.note c.args.at
    (sym c.is_ended.ensures ∙ c.if-is_ended.false) (sym c.has_room.ensures.room ∙ c.if-not-has_room.false) (ap ruled c.in-Ok.ensures.admits.kind)
    (λ rules H room stands. subst (λ (s : SubjectState). subjects.StandsFor s rules (H ▹ (c.args.port, Emit c.args.note c.args.at))) (sym same) (c.in-Ok.ensures.admits.stands rules H room stands))
    refl refl
    (subst (λ (os : List Observer). AllFedInto signals old.audience.observers os before after) (sym c.trim.ensures.observers) c.in-Ok.ensures.admits.fed)

pub invariant_of-self-2 : goal.invariant_of-self-2
invariant_of-self-2 c =
    let old = c.args.self.now in
    let fed = c.in-Ok.ensures.admits.fed in
    let same = ap length c.trim.ensures.observers ∙ AllFed-length _ _ _ _ fed.2 in
    let kept = c.trim.ensures.kept (length c.admit.new.subject.stamps) (omega (arith, c.keep.ensures)) c.in-Ok.ensures.admits.within in
    record {
      fits = (omega (arith, same, old.fits.0), old.fits.1);
      within = kept.0;
      stands = of_history (state_of old) _ _ _ _ _ (taken c) old.stands;
      tight = omega (arith, c.trim.ensures.tight, c.keep.ensures);
    }

pub returns : goal.returns
returns c = taken c.before

pub admit-requires-clause-open : goal.admit-requires-clause-open
admit-requires-clause-open c =
    let unended = sym c.is_ended.ensures ∙ c.if-is_ended.false in
    record {
      open_now = unended;
      all_open = all_open (state_of c.args.self.now) c.args.self.now.stands unended;
      stamps = c.args.self.now.within;
    }

pub invariant_of-self-in_default-clause-stands : goal.invariant_of-self-in_default-clause-stands
invariant_of-self-in_default-clause-stands c =
    let old = c.args.self.now in
    same_history old.limits old.joins c.in_default.ensures.err.subject c.in_default.ensures.err.audience old.stands

pub invariant_of-self-in_default-clause-tight : goal.invariant_of-self-in_default-clause-tight
invariant_of-self-in_default-clause-tight c = rw (c.in_default.ensures.err.subject, c.in_default.ensures.err.audience) c.args.self.now.tight
