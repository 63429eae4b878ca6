-- The Bye of the leave port is the first one where the drainer has not left.
use Rattle.std.proofs.Common.{◌≡◌, ◌∙◌, sym, refl, subst, ◌++◌, ◌==◌, Bool, true, false, length, length-append, None, arith}
use Rattle.std.proofs.lemmas.Bool.{ne_eqb}
use Rattle.rx_mailbox.specs.declared.letter.Post.TheVariants.{Bye}
use Rattle.rx_mailbox.specs.Letters.{letter}
use Rattle.rx_sink.specs.declared.flow.Flow.TheVariants.{Clear}
use Rattle.rx_sink.specs.Attachments.{Fine}
use Rattle.rx_drain.specs.declared.drainer.drainer_left.DrainerLeft.{DrainerLeft}
use Rattle.rx_drain.specs.Drainers.{HandlesLetter, view_of}
use Rattle.std.proofs.lemmas.List.{length-map}
use Rattle.rx_pump.specs.Opened.{all_opened, opened_port, opened_ports}
use Rattle.rx_pump.proofs.Asking.{opened-length}
use Rattle.rx_drain.proofs.Clearing.{handles_cut, handles_flushed}
use Rattle.rx_drain.proofs.Standing.{stands_idle_left, stands_idle_bye, handles_next}
use Rattle.rx_drain.proofs.drainer.one_letter.hear_bye.Goals as goal
use Rattle.rx_drain.proofs.drainer.one_letter.hear_bye.Goals.{then-left-via-then-left, then-left-via-else-left+then-from-leave}

pub returns-then-left-clause-handles : goal.returns-then-left-clause-handles
returns-then-left-clause-handles g c =
    let ended = opened_ports c.args.hands.now.ended.items in
    let a = all_opened c.args.hands.now.parts.subjects.items in
    let n = length (ended ++ a) in
    let view = view_of c.args.hands.now c.args.left None in
    let x = letter c.args.from Bye in
    let leave_is : c.args.leave ≡ n = omega (arith, c.requires.leave_is, length-append ended a, length-map c.args.hands.now.ended.items opened_port, opened-length c.args.hands.now.parts.subjects.items) in
    elim c.then-left.branch [
      | then-left-via-then-left w ↦ handles_next g.S.Sink.acts x view view (tt, λ log s. (Fine Clear, stands_idle_left g.S.Sink.acts n log x view w.if-left.true s))
      | then-left-via-else-left+then-from-leave w ↦
          (let test : (c.args.from == n) ≡ false = ne_eqb c.args.from n (λ same. w.if-from-leave.true (omega (arith, same, leave_is))) in
          handles_next g.S.Sink.acts x view view (tt, λ log s. (Fine Clear, stands_idle_bye g.S.Sink.acts n log c.args.from view w.if-left.false test s)))
    ]

pub returns-then-is_some-clause-handles : goal.returns-then-is_some-clause-handles
returns-then-is_some-clause-handles g c =
    let fault = c.flush_last-fault.result in
    let hands = c.flush_last-fault.new.hands in
    let before = view_of c.args.hands.now false None in
    let mid = view_of hands false fault in
    let left_hands : DrainerLeft _ _ = record hands { kept = c.put_all_away.new.kept; put_away = c.put_all_away.new.away } in
    let after = view_of left_hands true fault in
    let x = letter c.args.from Bye in
    let flushes = c.flush_last-fault.ensures.flushes in
    let same = c.flush_last-fault.ensures.ports in
    let from_is : c.args.from ≡ length mid.ports =
    omega (arith, c.if-from-leave.false, c.flush_last-fault.ensures.fits.leave_is, length-append (opened_ports hands.ended.items) (all_opened hands.parts.subjects.items), length-map hands.ended.items opened_port, opened-length hands.parts.subjects.items) in
    subst (λ (l : Bool). HandlesLetter g.S.Sink.acts x (view_of c.args.hands.now l None) after) (sym c.if-left.false)
    (handles_flushed g.S.Sink.acts x before mid after same flushes
    (handles_cut g.S.Sink.acts c.args.from mid after from_is refl refl c.put_all_away.ensures.kept refl refl refl refl (sym c.is_some.ensures ∙ c.if-is_some.true)
    flushes.fault c.put_all_away.ensures.closes))
