use Rattle.std.proofs.Common.{◌≡◌, ◌≤◌, ◌<◌, ◌+◌, ◌-◌, ◌++◌, map, take, length, option_to_list, refl, sym, subst, ap, ◌∙◌, arith}
use Rattle.std.proofs.lemmas.Bool.Decides.{nat_tests}
use Rattle.std.proofs.lemmas.List.{append-nil}
use Rattle.rx_note.specs.declared.note.Note.TheVariants.{Next}
use Rattle.rx_note.specs.Signals.{given}
use Rattle.rx_lane.specs.TapeLanes.{TapeLaneState, StandsWhereSome}
use Rattle.rx_tape.specs.Tapes.{waits}
use Rattle.rx_tape.proofs.Lasts.{waits-length}
use Rattle.rx_lane.proofs.Steps.{ask_all, ask_part}
use Rattle.rx_lane.proofs.Followed.{stands_on, stands_alike}
use Rattle.rx_lane.proofs.tape_lane.TapeLane.release.Goals as goal

pub returns-then-all-clause-gives : goal.returns-then-all-clause-gives
returns-then-all-clause-gives c = λ n owed_is s st.
    let t = c.args.tape.now in
    let w = c.args.self.now in
    let back = ap (λ (v : TapeLaneState). length (option_to_list v.lead) + v.back) c.self.view_is in
    let long = waits-length w.lead t.items w.back (λ some. (c.requires.stands some).within) in
    let all : c.args.items ≡ length (waits w.lead t.items w.back) = omega (arith, long, c.len.ensures, c.if-all.true, back) in
    let owed : c.args.items ≤ w.owing + n = grind (arith, nat_tests, c.requires.items, owed_is) in
    let last = ap option_to_list c.take.ensures.value ∙ ap (λ (v : TapeLaneState). v.last) c.self.view_is in
    (ask_all _ n c.args.items all owed s st).gives
    ∙ ap (λ notes. given s ++ (map Next (take c.args.items (waits w.lead t.items w.back)) ++ notes)) (sym last)

pub returns-else-all-clause-gives : goal.returns-else-all-clause-gives
returns-else-all-clause-gives c = λ n owed_is s st.
    let t = c.args.tape.now in
    let w = c.args.self.now in
    let long = waits-length w.lead t.items w.back (λ some. (c.requires.stands some).within) in
    let part : c.args.items < length (waits w.lead t.items w.back) = grind (arith, nat_tests, long, c.len.ensures, c.requires.items) in
    let owed : c.args.items ≡ w.owing + n = grind (arith, nat_tests, c.requires.items, owed_is) in
    (ask_part _ n c.args.items owed part s st).gives
    ∙ ap (λ notes. given s ++ notes) (sym (append-nil (map Next (take c.args.items (waits w.lead t.items w.back)))))

pub returns-else-all-clause-goes_on : goal.returns-else-all-clause-goes_on
returns-else-all-clause-goes_on c = λ n owed_is s st.
    let t = c.args.tape.now in
    let w = c.self.inside.waiting in
    let stands = subst (λ (v : TapeLaneState). StandsWhereSome t v.cursor v.back) (sym c.self.view_is) c.requires.stands in
    let long = waits-length w.lead t.items w.back (λ some. (stands some).within) in
    let part : c.args.items < length (waits w.lead t.items w.back) = grind (arith, nat_tests, long, c.len.ensures, c.requires.items) in
    let owing = ap (λ (v : TapeLaneState). v.owing) c.self.view_is in
    let owed : c.args.items ≡ c.self.inside.owed + n = grind (arith, nat_tests, c.requires.items, owed_is, owing) in
    let left : c.args.owed - c.args.items ≡ c.self.inside.owed + n - c.args.items = grind (arith, nat_tests, owed_is, owing) in
    stands_alike refl c.skip.ensures.waits refl refl left
    (ask_part _ n c.args.items owed part s (stands_on t.items c.self.view_is st)).stands
