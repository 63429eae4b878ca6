use Rattle.std.proofs.Common.{◌≡◌, List, take, length, false, is_some, option_to_list, sym, ap, subst, ◌∙◌, arith}
use Rattle.std.proofs.lemmas.List.{length-append}
use Rattle.rx_note.specs.declared.item.Item.{Item}
use Rattle.rx_tape.specs.Tapes.{TapeState}
use Rattle.rx_history.specs.Histories.{Stamped, ◌▹◌, unstamped, offers_by}
use Rattle.rx_note.specs.declared.event.Event.TheVariants.{Emit}
use Rattle.rx_subject.specs.Subjects.{SubjectState, StandsFor, offered_by, after_item, after_end}
use Rattle.rx_subject.specs.TapeSubjects.{TapeSubjectState, subject_on, pushed_all}
use Rattle.rx_subject.proofs.Standing.{is_terminal, not_ended, end-counts, stands_item, stands_end}
use Rattle.rx_subject.proofs.Taped.{ended-offers, window_ended, pushed_items}
use Rattle.rx_subject.proofs.tape_subject.TapeSubject.admit_offered.Goals as goal

pub returns-in_ok-keep_item-in-Next-clause-stands : goal.returns-in_ok-keep_item-in-Next-clause-stands
returns-in_ok-keep_item-in-Next-clause-stands c = λ rules H room stands.
    let s = subject_on c.args.tape.now.items c.args.self.now in
    let unended = not_ended s rules H (sym c.is_ended.ensures ∙ c.if-is_ended.false) stands in
    let now = c.in_ok-keep_item-in-Next.ensures.state ∙ ap (λ (item : Item). after_item s item c.args.at) c.next_item-item.ensures in
    let has_room_now = rw c.in-Next.is at room in
    rw (c.in-Next.is, now) (stands_item s rules H c.args.port c.in-Next.field-0 c.args.at unended has_room_now stands)

pub returns-in_ok-put_on-in_default : goal.returns-in_ok-put_on-in_default
returns-in_ok-put_on-in_default c =
    let t = c.args.self.now in
    let items = c.args.tape.now.items in
    let later = c.put_on.new.tape.items in
    let port = c.args.port in
    let note = c.args.note in
    let s = subject_on items t in
    let open_now : is_some t.terminal ≡ false = sym c.is_ended.ensures ∙ c.if-is_ended.false in
    let terminal = is_terminal note c.in_default.not-Next in
    let last = c.in_ok-last-in_default.last in
    let kept = subst (λ (v : TapeSubjectState). option_to_list last ≡ offers_by v.kind (unstamped (take 1 v.own)) port v.count note) c.self.view_is (c.in_ok-last-in_default.ensures port c.self.inside.count terminal) in
    let offered : option_to_list last ≡ offered_by s port note = kept ∙ sym (ended-offers t.kind items t.own t.stamps port t.count note) in
    let tape = c.in_ok-put_on-in_default.ensures.ok ∙ ap (pushed_all c.args.tape.now) offered in
    let items_are = ap (λ (tape : TapeState). tape.items) tape ∙ pushed_items c.args.tape.now (offered_by s port note) in
    let more = ap length items_are ∙ length-append items (offered_by s port note) in
    let state = c.keep_end.ensures.state later (omega (arith, c.requires.stamps, more)) in
    let same : subject_on later t ≡ s =
    ap (λ (xs : List Item). subject_on xs t) items_are
    ∙ ap (λ (w : List Stamped). record s { window = w }) (window_ended t.kind items (unstamped (take 1 s.window)) t.own t.stamps port t.count note terminal) in
    let now = state ∙ ap (λ (v : SubjectState). after_end v note c.args.at) same in
    record {
      ended = (λ e. cc, λ e. cc);
      err = tt;
      stands = λ rules H room stands.
          subst (λ (v : SubjectState). StandsFor v rules (H ▹ (port, Emit note c.args.at))) (sym now)
          (stands_end s rules H port note c.args.at (not_ended s rules H open_now stands) terminal stands);
      count = ap (λ (v : SubjectState). v.count) now ∙ sym (end-counts t.count note note terminal);
      tape = tape;
      within = omega (arith, c.keep_end.ensures.within, c.requires.stamps, more);
      kind = ap (λ (v : SubjectState). v.kind) now;
    }
