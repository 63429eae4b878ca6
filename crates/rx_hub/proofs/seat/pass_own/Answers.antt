use Rattle.std.proofs.Common.{◌≡◌, ◌<◌, ◌∷◌, [], cond, ◌||◌, true, false, Option, map, sym, ap, subst, ◌∙◌, arith}
use Rattle.std.specs.Prelude.{option_to_list}
use Rattle.rx_note.specs.declared.item.Item.{Item}
use Rattle.rx_note.specs.declared.note.Note.TheVariants.{Next}
use Rattle.rx_note.specs.Signals.{Offered}
use Rattle.rx_lane.specs.Lanes.{loses_next}
use Rattle.rx_lane.proofs.Followed.{copy_owed, copy_unowed}
use Rattle.rx_lane.proofs.Steps.{is_open, offer_later}
use Rattle.rx_hub.specs.declared.seat.Seat.TheVariants.{Own}
use Rattle.rx_hub.specs.Seats.{owing_of}
use Rattle.rx_hub.specs.Subscriptions.{Serves}
use Rattle.rx_hub.proofs.Seats.{room_for}
use Rattle.rx_hub.proofs.Serving.{Serves-one, Serves-none, Serves-behind, copy_kept}
use Rattle.rx_hub.proofs.seat.pass_own.Goals as goal

pub returns-then-is_ended-clause-serves : goal.returns-then-is_ended-clause-serves
returns-then-is_ended-clause-serves c = λ item held.
    let old = c.args.lane.now.state in
    let ended : old.ended ≡ true = sym c.is_ended.ensures.state ∙ c.if-is_ended.true in
    let none : owing_of (Own c.args.lane.now) ≡ 0 = ap (λ b. cond b 0 old.owing) ended in
    subst (λ (o : Option Item). Serves old old (Offered item ∷ []) (map Next (option_to_list o))) (sym (copy_unowed (owing_of (Own c.args.lane.now)) item none))
    (Serves-behind old item ended)

pub returns-then-owed-gt0-clause-serves : goal.returns-then-owed-gt0-clause-serves
returns-then-owed-gt0-clause-serves c = λ item held.
    let old = c.args.lane.now.state in
    let new = c.pass.new.self.state in
    let open_now : old.ended ≡ false = sym c.is_ended.ensures.state ∙ c.if-is_ended.false in
    let same : owing_of (Own c.args.lane.now) ≡ old.owing = ap (λ b. cond b 0 old.owing) open_now in
    let owed : 0 < owing_of (Own c.args.lane.now) = omega (arith, same, c.if-owed-gt0.true, c.owed.ensures.state) in
    subst (λ (o : Option Item). Serves old new (Offered item ∷ []) (map Next (option_to_list o))) (sym (copy_owed (owing_of (Own c.args.lane.now)) item owed))
    (Serves-one old new (Offered item) (Next item ∷ []) (c.pass.ensures.gives item) (c.pass.ensures.stands item))

pub returns-in-Some-clause-serves : goal.returns-in-Some-clause-serves
returns-in-Some-clause-serves c = λ item held.
    let old = c.args.lane.now.state in
    let new = c.offer.new.self.state in
    let open_now : old.ended ≡ false = sym c.is_ended.ensures.state ∙ c.if-is_ended.false in
    let same_owed : owing_of (Own c.args.lane.now) ≡ old.owing = ap (λ b. cond b 0 old.owing) open_now in
    let none : old.owing ≡ 0 = omega (arith, c.if-owed-gt0.false, c.owed.ensures.state) in
    let none_now : owing_of (Own c.args.lane.now) ≡ 0 = same_owed ∙ none in
    let same : c.in-Some.item ≡ item = copy_kept (old.ended || loses_next old) c.in-Some.item item (sym c.in-Some.is ∙ held none_now) in
    let room = room_for old.ended old.owing _ c.requires.fits open_now none in
    subst (λ (o : Option Item). Serves old new (Offered item ∷ []) (map Next (option_to_list o))) (sym (copy_unowed (owing_of (Own c.args.lane.now)) item none_now))
    (subst (λ (i : Item). Serves old new (Offered i ∷ []) []) same
    (Serves-one old new (Offered c.in-Some.item) []
    (λ s stands. (offer_later old c.in-Some.item none room s stands (is_open old s open_now stands)).gives) c.offer.ensures.stands))

pub returns-in_default-clause-serves : goal.returns-in_default-clause-serves
returns-in_default-clause-serves c = λ item held.
    let old = c.args.lane.now.state in
    let open_now : old.ended ≡ false = sym c.is_ended.ensures.state ∙ c.if-is_ended.false in
    let same_owed : owing_of (Own c.args.lane.now) ≡ old.owing = ap (λ b. cond b 0 old.owing) open_now in
    let none : owing_of (Own c.args.lane.now) ≡ 0 = omega (arith, same_owed, c.if-owed-gt0.false, c.owed.ensures.state) in
    subst (λ (o : Option Item). Serves old old (Offered item ∷ []) (map Next (option_to_list o))) (sym (copy_unowed (owing_of (Own c.args.lane.now)) item none))
    (Serves-none old item (sym c.in_default.is ∙ held none))
