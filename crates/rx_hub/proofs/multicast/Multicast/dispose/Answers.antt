use Rattle.std.proofs.Common.{ℕ, Ok, [], ◌+◌, List, length, take, drop, ap, ◌∙◌, refl, arith}
use Rattle.std.proofs.lemmas.List.{length-append, length-take, length-drop}
use Rattle.rx_note.specs.declared.item.Item.{Item}
use Rattle.rx_subject.specs.TapeSubjects.{subject_on}
use Rattle.rx_subject.proofs.Taped.{subject_kept}
use Rattle.rx_note.specs.declared.given.Given.{Given}
use Rattle.rx_note.specs.declared.answer.Answer.TheVariants.{Left}
use Rattle.rx_note.specs.declared.event.Event.TheVariants.{Dispose}
use Rattle.rx_hub.specs.Hubs.{Takes}
use Rattle.rx_hub.specs.Multicasts.{state_of}
use Rattle.rx_hub.specs.States.{state_by}
use Rattle.rx_hub.proofs.Asking.{nobody}
use Rattle.rx_hub.proofs.Leaving.{leave_unheld, leave_done}
use Rattle.rx_hub.proofs.Being.{of_history}
use Rattle.rx_hub.proofs.multicast.Multicast.dispose.Goals.{After-trim}
use Rattle.rx_hub.proofs.multicast.Multicast.dispose.Goals as goal

pub returns-in_default : goal.returns-in_default
returns-in_default c port outs = record {
  rules = refl;
  took = λ H stands. leave_unheld (state_of c.args.self.now) outs H port c.args.who (c.in_default.ensures.none refl) stands;
}

-- the Dispose was taken
taken : (c : After-trim) (port : ℕ) (outs : List Given) → Takes (state_of c.args.self.now) (state_by c.args.self.now.limits c.args.self.now.subject c.args.self.now.joins c.trim.new.self)
    outs outs (Ok Left) (port, Dispose c.args.who)
taken c port outs =
    let old = c.args.self.now in
    let subject = old.subject in
    let is = c.in-Some.ensures.found in
    let items = ap length c.remove.ensures.items in
    let kept = c.trim.ensures.kept (length subject.stamps) (omega (arith, c.keep.ensures)) (omega (arith, old.within, items)) in
    leave_done (state_of old) (subject_on c.trim.new.self.items subject) c.remove.new.self.observers c.trim.new.self.observers outs port c.args.who c.in-Some.place nobody
    is.within (is.number nobody) c.remove.ensures.observers c.trim.ensures.observers
    (subject_kept subject c.remove.new.self.items c.trim.new.self.items kept.1 ∙ ap (λ (items : List Item). subject_on items subject) c.remove.ensures.items)

pub invariant_of-self-2 : goal.invariant_of-self-2
invariant_of-self-2 c =
    let old = c.args.self.now in
    let k = c.in-Some.place in
    let observers = old.audience.observers in
    let fewer = ap length (c.trim.ensures.observers ∙ c.remove.ensures.observers) ∙ length-append (take k observers) (drop (k + 1) observers) in
    let front = length-take k observers in
    let rest = length-drop (k + 1) observers in
    let items = ap length c.remove.ensures.items in
    let kept = c.trim.ensures.kept (length old.subject.stamps) (omega (arith, c.keep.ensures)) (omega (arith, old.within, items)) in
    record {
      fits = (omega (arith, fewer, front, rest, old.fits.0), old.fits.1);
      within = kept.0;
      stands = of_history (state_of old) _ _ _ _ _ (taken c 0 []) old.stands;
      tight = omega (arith, c.trim.ensures.tight, c.keep.ensures);
    }

pub returns : goal.returns
returns c port outs = taken c.before port outs
