use Rattle.std.proofs.Common.{◌≡◌, ◌≤◌, ◌∷◌, [], ◌++◌, ℕ, List, Some, length, map, max, option_to_list, false, refl, sym, ap, subst, ◌∙◌}
use Rattle.std.proofs.lemmas.List.{map-append}
use Rattle.rx_note.specs.declared.item.Item.{Item}
use Rattle.rx_note.specs.Signals.{Offered}
use Rattle.rx_history.specs.Histories.{stamp, opening_by, addressed, ended_by}
use Rattle.rx_subject.specs.Subjects as subjects
use Rattle.rx_subject.specs.TapeSubjects.{subject_on}
use Rattle.rx_tape.specs.Tapes.{waits}
use Rattle.rx_hub.specs.Seats.{lane_of, cursor_of, Stands, Leaves}
use Rattle.rx_hub.specs.Subscriptions.{Begins, Serves}
use Rattle.rx_hub.specs.Audiences.{AudienceState, Place, AllOn, AllIdle, Apart, Owned, place_of, places_of, observer_on, observers_on}
use Rattle.rx_hub.proofs.Idle.{idle_more}
use Rattle.rx_hub.proofs.Seats.{leaves_then}
use Rattle.rx_hub.proofs.Serving.{begins_then, given-then}
use Rattle.rx_hub.proofs.Places.{joined_on, joined_apart}
use Rattle.rx_hub.proofs.Staying.{on_err_known, shown, stays, stays_held}
use Rattle.rx_hub.proofs.Tight.{owned_joined}
use Rattle.rx_hub.proofs.audience.Audience.open.Goals as goal

pub invariant_of-self-2 : goal.invariant_of-self-2
invariant_of-self-2 c =
    let a = c.self.inside in
    let subs = a.subscriptions.items in
    let made = c.in_ok-seat.ensures in
    let later = c.end_by-last.new.tape in
    let one = place_of c.new.result in
    let same = ap (λ (p : Place). cursor_of p.seat) c.new.ensures.place ∙ c.end_by-last.ensures.cursor in
    let fresh = λ (cursor : ℕ) (is : cursor_of one.seat ≡ Some cursor). made.fresh cursor (sym same ∙ is) in
    let leaves = subst (λ moved. Leaves a.tape later moved) (sym same) (leaves_then a.tape c.open.new.tape later (cursor_of c.in_ok-seat.seat) made.leaves c.end_by-last.ensures.leaves) in
    let stands = subst (λ (p : Place). Stands later false p.seat) (sym c.new.ensures.place) c.end_by-last.ensures.stands in
    let more : places_of c.push_reserved.new.self.items ≡ places_of subs ++ one ∷ [] =
    ap places_of (c.push_reserved.ensures.items ∙ ap (λ xs. xs ++ c.new.result ∷ []) c.in_ok-reserve-2.ensures.items) ∙ map-append place_of subs (c.new.result ∷ []) in (
      subst (λ (ps : List Place). AllOn later false ps) (sym more) (joined_on a.tape later (places_of subs) one fresh leaves stands c.self.invariant.0),
      subst (λ (ps : List Place). Apart ps) (sym more) (joined_apart a.tape (places_of subs) one fresh c.self.invariant.0 c.self.invariant.1),
      subst (λ (ps : List Place). Owned later ps) (sym more) (owned_joined a.tape later (places_of subs) one leaves c.self.invariant.2),
      subst AllIdle (sym (c.push_reserved.ensures.items ∙ ap (λ xs. xs ++ c.new.result ∷ []) c.in_ok-reserve-2.ensures.items))
          (idle_more subs c.new.result c.new.ensures.idle c.self.invariant.3),
    )

pub returns-clause-joins : goal.returns-clause-joins
returns-clause-joins c =
    let a = c.self.inside in
    let subs = a.subscriptions.items in
    let items = a.tape.items in
    let who = c.args.joiner.who in
    let before = c.args.outs.now.items in
    let made = c.in_ok-seat.ensures in
    let later = c.end_by-last.new.tape in
    let seat = c.end_by-last.new.seat in
    let one : Place = record { who = who; seat = seat } in
    let opening = c.in_ok-lead.field-0 in
    let waiting = waits opening.lead items opening.back in
    let ends = ended_by opening.end in
    let given = made.begins.0 in
    let begun : Begins (lane_of c.open.new.tape.items c.in_ok-seat.seat) c.args.joiner.policy c.args.joiner.first (map Offered waiting) given = made.begins.2 in
    let ended : Serves (lane_of c.open.new.tape.items c.in_ok-seat.seat) (lane_of later.items seat) ends (option_to_list c.end_by-last.result) = c.end_by-last.ensures.serves in
    let last = option_to_list c.end_by-last.result in
    let leaves = leaves_then a.tape c.open.new.tape later (cursor_of c.in_ok-seat.seat) made.leaves c.end_by-last.ensures.leaves in
    record {
      lane = lane_of later.items seat;
      signals = map Offered waiting ++ ends;
      news_are =
          ap (λ xs. observers_on later.items (places_of xs)) (c.push_reserved.ensures.items ∙ ap (λ xs. xs ++ c.new.result ∷ []) c.in_ok-reserve-2.ensures.items)
          ∙ ap (observers_on later.items) (map-append place_of subs (c.new.result ∷ []))
          ∙ map-append (observer_on later.items) (places_of subs) (place_of c.new.result ∷ [])
          ∙ ap (λ (p : Place). observers_on later.items (places_of subs) ++ observer_on later.items p ∷ []) c.new.ensures.place
          ∙ ap (λ (xs : List Item). observers_on xs (places_of subs) ++ observer_on later.items one ∷ []) leaves.items
          ∙ ap (λ (v : AudienceState). v.observers ++ observer_on later.items one ∷ []) c.self.view_is;
      opens = λ rules H stands.
          let opens = c.in_ok-lead.ensures.opens rules H (subst (λ (v : AudienceState). subjects.StandsFor (subject_on v.items c.args.subject.now) rules H) (sym c.self.view_is) stands) in
          ap (λ xs. map Offered xs ++ ends) opens.items_are
          ∙ ap (λ end. map Offered (opening_by rules.kind rules H (max (stamp rules H) c.args.at)) ++ ended_by end) opens.end_is;
      begins = (
        given ++ last,
        given-then before c.open.new.outs.items c.put.new.outs.items who given last
            (made.begins.1 ∙ ap (λ os. os ++ addressed who given) c.in_ok-reserve.ensures.items)
            c.put.ensures.items,
        begins_then (lane_of c.open.new.tape.items c.in_ok-seat.seat) (lane_of later.items seat) c.args.joiner.policy c.args.joiner.first (map Offered waiting) ends given last
            begun ended,
      );
    }

pub opening-requires : goal.opening-requires
opening-requires c = subst (λ (v : AudienceState). length c.args.subject.now.stamps ≤ length v.items) (sym c.self.view_is) c.requires

pub returns-in_err-lead-clause-err : goal.returns-in_err-lead-clause-err
returns-in_err-lead-clause-err c = on_err_known c.from_residual.result (refl, refl)

pub returns-in_err-reserve-clause-err : goal.returns-in_err-reserve-clause-err
returns-in_err-reserve-clause-err c = on_err_known c.from_residual-in_err-reserve.result (refl, c.in_err-reserve.ensures.items)

pub invariant_of-self : goal.invariant_of-self
invariant_of-self c =
    let a = c.self.inside in
    stays a.tape a.tape (places_of a.subscriptions.items) (places_of c.reserve-2.new.self.items) refl (ap places_of c.in_err-reserve-2.ensures.items)
    (subst AllIdle (sym c.in_err-reserve-2.ensures.items) c.self.invariant.3) c.self.invariant

pub returns-in_err-reserve-2-clause-err : goal.returns-in_err-reserve-2-clause-err
returns-in_err-reserve-2-clause-err c =
    let a = c.self.inside in
    on_err_known c.from_residual-in_err-reserve-2.result (
      shown a.tape.items a.tape.items (places_of a.subscriptions.items) (places_of c.reserve-2.new.self.items) refl (ap places_of c.in_err-reserve-2.ensures.items)
          ∙ c.self.view_is,
      c.in_ok-reserve.ensures.items,
    )

pub open-requires : goal.open-requires
open-requires c = record { there = c.in_ok-lead.ensures.within }

pub invariant_of-self-in_err-seat : goal.invariant_of-self-in_err-seat
invariant_of-self-in_err-seat c =
    let a = c.self.inside in
    stays_held a.tape c.open.new.tape (places_of a.subscriptions.items) (places_of c.reserve-2.new.self.items) c.in_err-seat.ensures.err.0
    (ap places_of c.in_ok-reserve-2.ensures.items) (subst AllIdle (sym c.in_ok-reserve-2.ensures.items) c.self.invariant.3) c.self.invariant

pub returns-in_err-seat-clause-err : goal.returns-in_err-seat-clause-err
returns-in_err-seat-clause-err c =
    let a = c.self.inside in
    on_err_known c.from_residual-in_err-seat.result (
      shown a.tape.items c.open.new.tape.items (places_of a.subscriptions.items) (places_of c.reserve-2.new.self.items) c.in_err-seat.ensures.err.0.items
          (ap places_of c.in_ok-reserve-2.ensures.items)
          ∙ c.self.view_is,
      c.in_err-seat.ensures.err.1 ∙ c.in_ok-reserve.ensures.items,
    )

pub returns-in_err-seat-clause-items : goal.returns-in_err-seat-clause-items
returns-in_err-seat-clause-items c = c.in_err-seat.ensures.err.0.items ∙ ap (λ (v : AudienceState). v.items) c.self.view_is

pub returns-clause-items : goal.returns-clause-items
returns-clause-items c =
    c.end_by-last.ensures.leaves.items ∙ c.in_ok-seat.ensures.leaves.items ∙ ap (λ (v : AudienceState). v.items) c.self.view_is

pub end_by-last-requires : goal.end_by-last-requires
end_by-last-requires c = record { stands = c.in_ok-seat.ensures.stands; «open» = c.in_ok-seat.ensures.open }
