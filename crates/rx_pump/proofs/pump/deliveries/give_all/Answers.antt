use Rattle.std.proofs.Common.{◌≡◌, ◌<◌, ℕ, [], ◌∷◌, List, length, map, reverse, refl, sym, ap, subst, ◌∙◌, arith}
use Rattle.std.proofs.lemmas.List.{reverse-reverse}
use Rattle.std.proofs.lemmas.Result.{err_from_is_err_and}
use Rattle.rx_note.specs.declared.given.Given.{Given}
use Rattle.rx_mailbox.specs.Boxes.{all_told}
use Rattle.rx_pump.specs.Marks.{give}
use Rattle.rx_pump.specs.Sends.{PutsFor}
use Rattle.rx_mailbox.proofs.Told.{told-length}
use Rattle.rx_pump.proofs.Giving.{Gave-none, Gave-more, Gave-end, Gave-stop}
use Rattle.rx_pump.proofs.pump.deliveries.give_all.Goals as goal

some_still : {X : Type 0} {m n : ℕ} (olds news : List X) → m ≡ length olds → n ≡ length news → length news ≡ length olds → 0 < m → 0 < n
some_still olds news long_olds long_news same some = omega arith

none_left : {X : Type 0} {n : ℕ} (left : List X) → n ≡ length left → n ≡ 0 → left ≡ []
none_left [] long none = refl
none_left (x ∷ left) long none = absurd (omega arith)

pub returns-in_err-send_to : goal.returns-in_err-send_to
returns-in_err-send_to g c =
    let p = err_from_is_err_and c.from_residual.result c.from_residual.ensures.1 in
    rw (p.1, p.2) (
    Gave-stop c.args.outs.now.items c.reverse.new.self.items c.loop-given.outs.items c.pop.new.self.items c.in-Some.given
    c.in_err-send_to.field-0.0 (all_told c.args.drainers.now.items) (all_told c.loop-given.drainers.items) (all_told c.send_to.new.drainers.items)
    c.reverse.ensures.items c.in-Some.ensures.items c.loop-given.invariant.gave c.in_err-send_to.ensures)

pub loop-given-init : goal.loop-given-init
loop-given-init g c = record { some = c.requires; gave = Gave-none c.reverse.new.self.items (all_told c.args.drainers.now.items) }

pub loop-given-smaller : goal.loop-given-smaller
loop-given-smaller g c = omega (arith, c.in-Some.ensures.cases)

pub loop-given-preserved : goal.loop-given-preserved
loop-given-preserved g c =
    let before = c.loop-given.invariant in
    let put = c.in_ok-send_to.ensures in
    record {
      some =
          let olds = c.loop-given.drainers in
          let news = c.send_to.new.drainers in
          some_still olds.items news.items olds.ok.0 news.ok.0 (sym (told-length news.items) ∙ put.count ∙ told-length olds.items) before.some;
      gave = Gave-more _ c.loop-given.outs.items c.pop.new.self.items c.in-Some.given (all_told c.args.drainers.now.items) (all_told c.loop-given.drainers.items) (all_told c.send_to.new.drainers.items)
          c.in-Some.ensures.items before.gave put;
    }

pub returns : goal.returns
returns g c =
    let outs = c.args.outs.now.items in
    let start = c.reverse.new.self.items in
    let order : reverse start ≡ outs = ap reverse c.reverse.ensures.items ∙ reverse-reverse outs in
    subst (λ (given : List Given). PutsFor (map give given) (all_told c.args.drainers.now.items) (all_told c.loop-given.drainers.items)) order
    (Gave-end (reverse start) c.loop-given.outs.items (all_told c.args.drainers.now.items) (all_told c.loop-given.drainers.items)
    (none_left c.loop-given.outs.items c.loop-given.outs.ok.0 c.in_default.ensures.cases.0) c.loop-given.invariant.gave)
