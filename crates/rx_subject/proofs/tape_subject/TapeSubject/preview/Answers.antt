use Rattle.std.proofs.Common.{◌≡◌, List, false, ◌++◌, map, take, Some, is_some, option_to_list, sym, ap, subst, ◌∙◌}
use Rattle.rx_note.specs.declared.item.Item.{Item}
use Rattle.rx_note.specs.Signals.{Offered}
use Rattle.rx_history.specs.Histories.{unstamped, terminal_in, offers_by, ended_by}
use Rattle.rx_subject.specs.Offers.{offer_signals}
use Rattle.rx_subject.specs.Subjects.{signals_by, offered_by}
use Rattle.rx_subject.specs.TapeSubjects.{TapeSubjectState, subject_on}
use Rattle.rx_subject.proofs.Standing.{is_terminal, signals-signalled}
use Rattle.rx_subject.proofs.Taped.{ended-offers}
use Rattle.rx_subject.proofs.tape_subject.TapeSubject.preview.Goals as goal

pub returns-in_ok-copy-in_default : goal.returns-in_ok-copy-in_default
returns-in_ok-copy-in_default c =
    let t = c.args.self.now in
    let port = c.args.port in
    let note = c.args.note.now in
    let open_now : is_some t.terminal ≡ false = sym c.is_ended.ensures ∙ c.if-is_ended.false in
    let terminal : terminal_in note ≡ Some note = is_terminal note c.in_default.not-Next in
    let item = c.in_ok-item-in_default.item in
    let end = c.in_ok-copy-in_default.field-0 in
    let kept = subst (λ (v : TapeSubjectState). option_to_list item ≡ offers_by v.kind (unstamped (take 1 v.own)) port v.count note) c.self.view_is (c.in_ok-item-in_default.ensures port c.self.inside.count terminal) in
    let offered : (items : List Item) → option_to_list item ≡ offered_by (subject_on items t) port note = λ items. kept ∙ sym (ended-offers t.kind items t.own t.stamps port t.count note) in
    let offers : (items : List Item) → offer_signals (record { item = item; end = Some end }) ≡ signals_by (subject_on items t) port note = λ items.
    ap (λ xs. map Offered xs ++ ended_by (Some end)) (offered items)
    ∙ ap (λ e. map Offered (offered_by (subject_on items t) port note) ++ ended_by e) (ap Some c.in_ok-copy-in_default.ensures ∙ sym terminal) in
    record {
      ended = (λ e. cc, λ e. cc);
      offers = offers;
      signalled = λ items rules H stands. offers items ∙ signals-signalled (subject_on items t) rules H port note stands;
      item = offered;
    }
