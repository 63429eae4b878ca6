-- A text is refused for its length, else for a line feed, and else only for lack of memory.
use Rattle.std.proofs.Common.{◌≡◌, nat_eq, true, false, refl, sym, ◌∙◌, arith}
use Rattle.std.specs.List.{list_any}
use Rattle.rx_note.proofs.text.Text.new.Goals as goal

pub returns-then-bytes-gt-MAX_TEXT-clause-too_long : goal.returns-then-bytes-gt-MAX_TEXT-clause-too_long
returns-then-bytes-gt-MAX_TEXT-clause-too_long c = (λ _. c.if-bytes-gt-MAX_TEXT.true, λ _. refl)

pub returns-then-bytes-gt-MAX_TEXT-clause-has_lf : goal.returns-then-bytes-gt-MAX_TEXT-clause-has_lf
returns-then-bytes-gt-MAX_TEXT-clause-has_lf c = (λ e. absurd cc, λ within. absurd (omega (arith, within.0)))

pub returns-then-contains-clause-has_lf : goal.returns-then-contains-clause-has_lf
returns-then-contains-clause-has_lf c = (λ _. (c.if-bytes-gt-MAX_TEXT.false, sym c.contains.ensures.value ∙ c.if-contains.true), λ _. refl)

pub of_line-requires-clause-no_lf : goal.of_line-requires-clause-no_lf
of_line-requires-clause-no_lf c = sym c.contains.ensures.value ∙ c.if-contains.false

pub returns-in-Err-clause-has_lf : goal.returns-in-Err-clause-has_lf
returns-in-Err-clause-has_lf c =
    let none : list_any (λ b. nat_eq b 10) c.args.bytes.now ≡ false = sym c.contains.ensures.value ∙ c.if-contains.false in
    (λ e. absurd cc, λ within. let some : list_any (λ b. nat_eq b 10) c.args.bytes.now ≡ true = within.1 in absurd cc)
