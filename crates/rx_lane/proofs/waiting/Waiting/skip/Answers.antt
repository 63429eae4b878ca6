use Rattle.std.proofs.Common.{◌≡◌, ◌+◌, ◌-◌, ℕ, Some, length, min, ap, ◌∙◌, arith}
use Rattle.rx_tape.specs.Tapes.{end_of, place_of}
use Rattle.rx_tape.specs.Tapes.{waits}
use Rattle.rx_lane.proofs.Shared.{passed_over}
use Rattle.rx_lane.proofs.waiting.Waiting.skip.Goals as goal

pub returns-clause-waits : goal.returns-clause-waits
returns-clause-waits c =
    let old = c.args.self.now in
    let new = c.skip_lead-more.new.self in
    let more = c.skip_lead-more.result in
    let items = c.args.tape.now.items in
    ap (λ items. waits new.lead items (new.back - more)) c.advance_by.ensures.spares.items
    ∙ ap (λ back. waits new.lead items (back - more)) c.skip_lead-more.ensures.rest.1
    ∙ passed_over old.lead new.lead items old.back c.args.count more c.skip_lead-more.ensures.more c.skip_lead-more.ensures.lead c.requires.there (λ some. (c.requires.stands some).within)

pub returns-clause-stands_back : goal.returns-clause-stands_back
returns-clause-stands_back c = λ stands.
    let tape = c.args.tape.now in
    let old = c.args.self.now in
    let new = c.skip_lead-more.new.self in
    let more = c.skip_lead-more.result in
    let cursor_is = c.skip_lead-more.ensures.rest.0 in
    let back_is = c.skip_lead-more.ensures.rest.1 in
    let moves = c.advance_by.ensures.moves (end_of tape - old.back) (ap (place_of tape.places) cursor_is ∙ stands.place) in
    let items_is = ap length moves.spares.items in
    let further : min (end_of tape - old.back + more) (end_of tape) ≡ end_of c.advance_by.new.self - (new.back - more) =
    omega (arith, stands.within, back_is, items_is, moves.spares.front, c.skip_lead-more.ensures.more, c.requires.there) in
    record {
      within = omega (arith, stands.within, back_is, items_is);
      place = moves.place_is ∙ ap (λ (n : ℕ). Some n) further;
    }
