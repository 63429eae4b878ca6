use Rattle.std.proofs.Common.{◌≡◌, false, is_some, sym, ap, ◌∙◌, arith}
use Rattle.rx_note.specs.declared.item.Item.{Item}
use Rattle.rx_subject.specs.Subjects.{SubjectState, after_item}
use Rattle.rx_subject.specs.TapeSubjects.{subject_on, pushed_all}
use Rattle.rx_subject.proofs.Standing.{is_terminal, not_ended, end-counts, signals-signalled, stands_item, stands_end}
use Rattle.rx_subject.proofs.Taped.{untaped}
use Rattle.rx_subject.proofs.tape_subject.TapeSubject.admit.Goals as goal

pub returns-in_ok-offer-in-Next-clause-stands : goal.returns-in_ok-offer-in-Next-clause-stands
returns-in_ok-offer-in-Next-clause-stands c = λ rules H room stands.
    let s = subject_on c.args.tape.now.items c.args.self.now in
    let unended = not_ended s rules H (sym c.is_ended.ensures ∙ c.if-is_ended.false) stands in
    let now = c.in_ok-offer-in-Next.ensures.state ∙ ap (λ (item : Item). after_item s item c.args.at) c.next_item-item.ensures in
    let has_room_now = rw c.in-Next.is at room in
    rw (c.in-Next.is, now) (stands_item s rules H c.args.port c.in-Next.field-0 c.args.at unended has_room_now stands)

pub returns-in_ok-offer-in_default : goal.returns-in_ok-offer-in_default
returns-in_ok-offer-in_default c =
    let items = c.args.tape.now.items in
    let s = subject_on items c.args.self.now in
    let open_now : is_some c.args.self.now.terminal ≡ false = sym c.is_ended.ensures ∙ c.if-is_ended.false in
    let terminal = is_terminal c.args.note c.in_default.not-Next in
    let state = c.in_ok-offer-in_default.ensures.state items c.requires.stamps in
    let offers = c.in_ok-offer-in_default.ensures.offers items c.args.port terminal in
    record {
      ended = (λ e. cc, λ e. cc);
      err = tt;
      offers = offers;
      signalled = λ rules H stands. offers ∙ signals-signalled s rules H c.args.port c.args.note stands;
      stands = λ rules H room stands.
          rw state (stands_end s rules H c.args.port c.args.note c.args.at (not_ended s rules H open_now stands) terminal stands);
      tape = ap (pushed_all c.args.tape.now) (sym (untaped c.args.self.now.kind c.args.port c.args.self.now.count c.args.note terminal));
      within = omega (arith, c.in_ok-offer-in_default.ensures.within, c.requires.stamps);
      count = ap (λ (s : SubjectState). s.count) state ∙ sym (end-counts c.args.self.now.count c.args.note c.args.note terminal);
      kind = ap (λ (s : SubjectState). s.kind) state;
    }
