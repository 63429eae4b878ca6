-- A line more is a text, or it is not, and then they are not all.
use Rattle.std.proofs.Common.{◌≡◌, ◌<◌, ◌≤◌, ◌+◌, ◌∷◌, ℕ, Bool, true, false, not, IsTrue, List, [], Option, None, Some, MatchOption, length, ap, refl, subst, sym, arith}
use Rattle.std.specs.Option.{is_some}
use Rattle.std.specs.List.{AllByRecursion}
use Rattle.rx_http.specs.BodyLines.{AreTexts, IsShort}
use Rattle.rx_http.proofs.request.body_lines.are_texts.Goals as goal

-- where no line is left, all were texts
all-were : (lines rest : List (List ℕ)) (count : ℕ) → (AllByRecursion IsShort rest → AllByRecursion IsShort lines) → length lines ≡ count + length rest → count ≤ 256 → rest ≡ [] → AreTexts lines
all-were lines rest count short all few none = record {
  few = omega (arith, all, few, ap length none);
  short = short (subst (AllByRecursion IsShort) (sym none) tt);
}

-- the first of the lines that are left is a text, as all are
first-is : (rest more : List (List ℕ)) (line : List ℕ) → rest ≡ line ∷ more → AllByRecursion IsShort rest → AllByRecursion IsShort (line ∷ more)
first-is rest more line is each = subst (AllByRecursion IsShort) is each

first-too : (rest more : List (List ℕ)) (line : List ℕ) → rest ≡ line ∷ more → length line ≤ 1024 → AllByRecursion IsShort more → AllByRecursion IsShort rest
first-too rest more line is short each = subst (AllByRecursion IsShort) (sym is) (short, each)

-- all were texts where no line is left, and else there were too many
last_look : {X : Type 0} (found : Option X) (Is : X → Type 0) (none : Bool) (lines rest : List (List ℕ)) → ((x : X) → Is x → 0 < length rest) → MatchOption found (rest ≡ []) Is
    → is_some found ≡ not none → (rest ≡ [] → AreTexts lines) → (0 < length rest → AreTexts lines → ⊥) → (IsTrue none → AreTexts lines) × (AreTexts lines → IsTrue none)
last_look None Is true lines rest some is same all many = ((λ _. all is), λ _. refl)
last_look None Is false lines rest some is same all many = cc
last_look (Some x) Is true lines rest some is same all many = cc
last_look (Some x) Is false lines rest some is same all many = ((λ yes. cc), λ texts. absurd (many (some x is) texts))

pub returns-in_default : goal.returns-in_default
returns-in_default c =
    let i = c.loop.invariant in
    ((λ _. all-were _ _ c.loop.counter i.short i.count (omega arith) c.in_default.ensures), λ _. refl)

pub returns-then-line-gt-MAX_TEXT : goal.returns-then-line-gt-MAX_TEXT
returns-then-line-gt-MAX_TEXT c =
    let i = c.loop.invariant in
    ((λ is. cc), λ texts. absurd (omega (arith, (first-is _ _ _ c.in-Some.ensures (i.each texts.short)).0, c.if-line-gt-MAX_TEXT.true)))

pub loop-preserved : goal.loop-preserved
loop-preserved c =
    let i = c.loop.invariant in record {
      short = λ each. i.short (first-too _ _ _ c.in-Some.ensures c.if-line-gt-MAX_TEXT.false each);
      each = λ each. (first-is _ _ _ c.in-Some.ensures (i.each each)).1;
      count = omega (arith, i.count, ap length c.in-Some.ensures);
    }

pub returns : goal.returns
returns c =
    let i = c.loop.invariant in
    last_look c.first_line-2.result _ c.is_none.result _ _ (λ parts is. omega (arith, ap length is)) c.first_line-2.ensures c.is_none.ensures
    (all-were _ _ c.loop.counter i.short i.count c.loop.auto.counter-end) (λ more texts. omega (arith, more, texts.few, i.count, c.loop-test.false))
