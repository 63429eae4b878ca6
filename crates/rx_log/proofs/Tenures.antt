-- What is had of the nodes stays so with one entry more.
use Rattle.std.proofs.Common.{◌≡◌, ◌≢◌, ℕ, ◌+◌, ◌<◌, ◌≤◌, ◌==◌, ◌&&◌, ◌⊎◌, Bool, true, false, cond, List, [], ◌∷◌, ◌++◌, map, set, get_or, Option, None, Some, inl, inr, refl, sym, ap, subst, ◌∙◌, arith}
use Rattle.std.specs.Prelude.{nat_le}
use Rattle.std.specs.List.{All}
use Rattle.std.proofs.lemmas.Bool.{cases_lt, cases_eq, eq-eqb, ne_eqb, le-leb, and_from, and_left, and_right, cond-true, cond-false}
use Rattle.std.proofs.lemmas.List.{length-map, length-set, length_push, get_or-map, get_or-set_other, get_or_append_left}
use Rattle.std.proofs.lemmas.List.Elements.{All-push, All-set, All-map, All-weaker}
use Rattle.std.proofs.lemmas.List.Quantifiers.{any-set, Any-push}
use Rattle.rx_note.specs.declared.note.Note.{Note}
use Rattle.rx_log.specs.declared.entry.Entry.{Entry}
use Rattle.rx_log.specs.declared.entry.Entry.TheVariants.{Tenure, Own, Foreign}
use Rattle.rx_log.specs.declared.holder.Holder.{Holder}
use Rattle.rx_log.specs.declared.total.Total.{Total}
use Rattle.rx_log.specs.declared.term.Term.{Term}
use Rattle.rx_log.specs.Logs.{Log, Behind, ◌▹◌, entries, last_tenure, opens, current_tenure, holder_at, is_current, is_open, counted, counts}
use Rattle.rx_log.specs.Terms.{IsHad, next_term, renewed, with_number, blank, TakesPlace, Stands}
use Rattle.rx_log.specs.Rules.{AreAlike, HoldsTenure, HoldsNearly, Knows, IsOpenBy}
use Rattle.rx_log.proofs.Within.{current-within, none-counted}
use Rattle.rx_log.proofs.Once.{then-counted}

-- OF A LOG

-- the last tenure that counts is no later than the last one
pub current-le-last : (span node : ℕ) (L : Log) → current_tenure span node L ≤ last_tenure node L
current-le-last span node (Behind n) = omega arith
current-le-last span node (L ▹ Tenure holder base told) =
    by (current-le-last span node L) (current-within span node L) (holder.node == node) (opens span L node base)
  where
    by : current_tenure span node L ≤ last_tenure node L → current_tenure span node L ≤ entries L → (b c : Bool)
        → cond (b && c) (entries L + 1) (current_tenure span node L) ≤ cond b (entries L + 1) (last_tenure node L)
    by before within true true = omega arith
    by before within true false = omega (arith, within)
    by before within false c = before
current-le-last span node (L ▹ Own tenure number note) = current-le-last span node L
current-le-last span node (L ▹ Foreign text) = current-le-last span node L

-- no tenure stands at place 0
no-holder-at-0 : (L : Log) → holder_at 0 L ≡ None
no-holder-at-0 (Behind n) = refl
no-holder-at-0 (L ▹ Tenure holder base told) =
    cond-false (entries L + 1 == 0) (Some holder) (holder_at 0 L) (ne_eqb (entries L + 1) 0 (λ same. omega (arith, same))) ∙ no-holder-at-0 L
no-holder-at-0 (L ▹ Own tenure number note) = no-holder-at-0 L
no-holder-at-0 (L ▹ Foreign text) = no-holder-at-0 L

pub shut-at-0 : (span : ℕ) (L : Log) → is_open span L 0 ≡ false
shut-at-0 span L = and_left (is_current span L 0 (holder_at 0 L)) (nat_le (entries L + 1) (0 + span)) (ap (is_current span L 0) (no-holder-at-0 L))

-- an own entry that does not count is counted nowhere
pub counted-void : (span place tenure number : ℕ) (note : Note) (L : Log) → counts span L tenure number ≡ false → counted span place (L ▹ Own tenure number note) ≡ counted span place L
counted-void span place tenure number note L void = by (cases_eq tenure place)
  where
    by : (tenure ≡ place) ⊎ (tenure ≡ place → ⊥) → counted span place (L ▹ Own tenure number note) ≡ counted span place L
    by (inl same) = cond-false _ number (counted span place L) (and_right (tenure == place) _ (subst (λ (p : ℕ). counts span L p number ≡ false) same void))
    by (inr other) = cond-false _ number (counted span place L) (and_left (tenure == place) _ (ne_eqb tenure place other))

-- and one of another tenure not here
pub counted-other : (span place tenure number : ℕ) (note : Note) (L : Log) → (tenure ≡ place → ⊥) → counted span place (L ▹ Own tenure number note) ≡ counted span place L
counted-other span place tenure number note L other = cond-false _ number (counted span place L) (and_left (tenure == place) _ (ne_eqb tenure place other))

-- THE TERM OF ONE NODE

-- a place that is far behind stays so
alike-later : (span : ℕ) (L : Log) (entry : Entry) (a b : ℕ) → AreAlike span L a b → AreAlike span (L ▹ entry) a b
alike-later span L entry a b (inl same) = inl same
alike-later span L entry a b (inr far) = inr (omega (arith, far.0), omega (arith, far.1))

pub knows-foreign : (span : ℕ) (L : Log) (text : List ℕ) (term : Term) → Knows span L term → Knows span (L ▹ Foreign text) term
knows-foreign span L text term knows = record {
  last = alike-later span L (Foreign text) term.last (last_tenure term.holder.node L) knows.last;
  current = by knows.current;
}
  where
    by : HoldsNearly span L term → HoldsNearly span (L ▹ Foreign text) term
    by (inl holds) = inl (record { is_current = holds.is_current; holder = holds.holder; number = holds.number })
    by (inr far) = inr (omega (arith, far.0), omega (arith, far.1))

pub knows-void : (span : ℕ) (L : Log) (tenure number : ℕ) (note : Note) (term : Term) → counts span L tenure number ≡ false → Knows span L term → Knows span (L ▹ Own tenure number note) term
knows-void span L tenure number note term void knows = record {
  last = alike-later span L (Own tenure number note) term.last (last_tenure term.holder.node L) knows.last;
  current = by knows.current;
}
  where
    by : HoldsNearly span L term → HoldsNearly span (L ▹ Own tenure number note) term
    by (inl holds) = inl (record {
      is_current = holds.is_current;
      holder = holds.holder;
      number = λ some. holds.number some ∙ sym (counted-void span term.current tenure number note L void);
    })
    by (inr far) = inr (omega (arith, far.0), omega (arith, far.1))

pub knows-counted : (span : ℕ) (L : Log) (tenure number : ℕ) (note : Note) (term : Term) → counts span L tenure number ≡ true → Knows span L term
    → Knows span (L ▹ Own tenure number note) (with_number tenure number term)
knows-counted span L tenure number note term counts_so knows = by (cases_eq term.current tenure)
  where
    here : (term.current ≡ tenure) → HoldsNearly span L term → HoldsNearly span (L ▹ Own tenure number note) (record term { number = number })
    here same (inl holds) = inl (record {
      is_current = holds.is_current;
      holder = holds.holder;
      number = λ some. sym (ap (λ (p : ℕ). counted span p (L ▹ Own tenure number note)) same ∙ then-counted span tenure number note L counts_so);
    })
    here same (inr far) = inr (omega (arith, far.0), omega (arith, far.1))

    there : (term.current ≡ tenure → ⊥) → HoldsNearly span L term → HoldsNearly span (L ▹ Own tenure number note) term
    there other (inl holds) = inl (record {
      is_current = holds.is_current;
      holder = holds.holder;
      number = λ some. holds.number some ∙ sym (counted-other span term.current tenure number note L (λ e. other (sym e)));
    })
    there other (inr far) = inr (omega (arith, far.0), omega (arith, far.1))

    by : (term.current ≡ tenure) ⊎ (term.current ≡ tenure → ⊥) → Knows span (L ▹ Own tenure number note) (with_number tenure number term)
    by (inl same) = subst (Knows span (L ▹ Own tenure number note)) (sym (cond-true (term.current == tenure) (record term { number = number }) term (eq-eqb term.current tenure same)))
        (record { last = alike-later span L (Own tenure number note) term.last (last_tenure term.holder.node L) knows.last; current = here same knows.current })
    by (inr other) = subst (Knows span (L ▹ Own tenure number note)) (sym (cond-false (term.current == tenure) (record term { number = number }) term (ne_eqb term.current tenure other)))
        (record { last = alike-later span L (Own tenure number note) term.last (last_tenure term.holder.node L) knows.last; current = there other knows.current })

-- A TENURE

-- who holds a place that stands there is not changed by a later tenure
holder-stays : (span : ℕ) (L : Log) (holder : Holder) (base : ℕ) (told : Total) (term : Term) → HoldsTenure span L term
    → holder_at term.current (L ▹ Tenure holder base told) ≡ holder_at term.current L
holder-stays span L holder base told term holds =
    cond-false (entries L + 1 == term.current) (Some holder) (holder_at term.current L)
    (ne_eqb (entries L + 1) term.current (λ same. omega (arith, same, holds.is_current, current-within span term.holder.node L)))

-- of another node
knows-other : (span : ℕ) (L : Log) (holder : Holder) (base : ℕ) (told : Total) (term : Term) → (holder.node ≡ term.holder.node → ⊥)
    → Knows span L term → Knows span (L ▹ Tenure holder base told) term
knows-other span L holder base told term other knows = record {
  last = subst (AreAlike span (L ▹ Tenure holder base told) term.last) (sym last_is) (alike-later span L (Tenure holder base told) term.last (last_tenure term.holder.node L) knows.last);
  current = by knows.current;
}
  where
    unlike : (holder.node == term.holder.node) ≡ false
    unlike = ne_eqb holder.node term.holder.node other

    last_is : last_tenure term.holder.node (L ▹ Tenure holder base told) ≡ last_tenure term.holder.node L
    last_is = cond-false (holder.node == term.holder.node) (entries L + 1) (last_tenure term.holder.node L) unlike

    current_is : current_tenure span term.holder.node (L ▹ Tenure holder base told) ≡ current_tenure span term.holder.node L
    current_is = cond-false _ (entries L + 1) (current_tenure span term.holder.node L) (and_left (holder.node == term.holder.node) (opens span L term.holder.node base) unlike)

    by : HoldsNearly span L term → HoldsNearly span (L ▹ Tenure holder base told) term
    by (inl holds) = inl (record {
      is_current = holds.is_current ∙ sym current_is;
      holder = λ some. holder-stays span L holder base told term holds ∙ holds.holder some;
      number = holds.number;
    })
    by (inr far) = inr (omega (arith, far.0), omega (arith, far.1, current_is))

-- of the same node, where it does not count
knows-void-tenure : (span : ℕ) (L : Log) (holder : Holder) (base : ℕ) (told : Total) (term : Term) → holder.node ≡ term.holder.node
    → opens span L holder.node base ≡ false → HoldsNearly span L term → Knows span (L ▹ Tenure holder base told) (record term { last = entries L + 1 })
knows-void-tenure span L holder base told term same void current = record {
  last = inl (sym (cond-true (holder.node == term.holder.node) (entries L + 1) (last_tenure term.holder.node L) (eq-eqb holder.node term.holder.node same)));
  current = by current;
}
  where
    current_is : current_tenure span term.holder.node (L ▹ Tenure holder base told) ≡ current_tenure span term.holder.node L
    current_is = cond-false _ (entries L + 1) (current_tenure span term.holder.node L)
        (and_right (holder.node == term.holder.node) (opens span L term.holder.node base) (subst (λ (n : ℕ). opens span L n base ≡ false) same void))

    by : HoldsNearly span L term → HoldsNearly span (L ▹ Tenure holder base told) (record term { last = entries L + 1 })
    by (inl holds) = inl (record {
      is_current = holds.is_current ∙ sym current_is;
      holder = λ some. holder-stays span L holder base told term holds ∙ holds.holder some;
      number = holds.number;
    })
    by (inr far) = inr (omega (arith, far.0), omega (arith, far.1, current_is))

-- and where it counts
knows-opened : (span : ℕ) (L : Log) (holder : Holder) (base : ℕ) (told : Total) → opens span L holder.node base ≡ true
    → Knows span (L ▹ Tenure holder base told) (record { holder = holder; last = entries L + 1; current = entries L + 1; number = 0 })
knows-opened span L holder base told opens_so = record {
  last = inl (sym (cond-true (holder.node == holder.node) (entries L + 1) (last_tenure holder.node L) (eq-eqb holder.node holder.node refl)));
  current = inl (record {
    is_current = sym (cond-true _ (entries L + 1) (current_tenure span holder.node L) (and_from (holder.node == holder.node) (opens span L holder.node base) (eq-eqb holder.node holder.node refl) opens_so));
    holder = λ some. cond-true (entries L + 1 == entries L + 1) (Some holder) (holder_at (entries L + 1) L) (eq-eqb (entries L + 1) (entries L + 1) refl);
    number = λ some. sym (none-counted span (entries L + 1) L (omega arith));
  });
}

pub knows-next : (span : ℕ) (L : Log) (holder : Holder) (base : ℕ) (told : Total) (does_count : Bool) (term : Term) → does_count ≡ opens span L holder.node base
    → holder.node ≡ term.holder.node → HoldsNearly span L term → Knows span (L ▹ Tenure holder base told) (next_term holder (entries L + 1) does_count term)
knows-next span L holder base told true term is same current = knows-opened span L holder base told (sym is)
knows-next span L holder base told false term is same current = knows-void-tenure span L holder base told term same (sym is) current

pub knows-renewed : (span : ℕ) (L : Log) (holder : Holder) (base : ℕ) (told : Total) (does_count : Bool) (term : Term) → does_count ≡ opens span L holder.node base
    → Knows span L term → Knows span (L ▹ Tenure holder base told) (renewed holder (entries L + 1) does_count term)
knows-renewed span L holder base told does_count term is knows = by (cases_eq term.holder.node holder.node)
  where
    by : (term.holder.node ≡ holder.node) ⊎ (term.holder.node ≡ holder.node → ⊥) → Knows span (L ▹ Tenure holder base told) (renewed holder (entries L + 1) does_count term)
    by (inl same) = subst (Knows span (L ▹ Tenure holder base told)) (sym (cond-true (term.holder.node == holder.node) (next_term holder (entries L + 1) does_count term) term (eq-eqb term.holder.node holder.node same)))
        (knows-next span L holder base told does_count term is (sym same) knows.current)
    by (inr other) = subst (Knows span (L ▹ Tenure holder base told)) (sym (cond-false (term.holder.node == holder.node) (next_term holder (entries L + 1) does_count term) term (ne_eqb term.holder.node holder.node other)))
        (knows-other span L holder base told term (λ e. other (sym e)) knows)

-- THE NODES THAT ARE HAD

-- of a node that is not had nothing is had
not-had : (terms : List Term) (node : ℕ) → All (λ (term : Term). term.holder.node ≢ node) terms → IsHad terms node → ⊥
not-had terms node none had = none had.0 had.1 had.2 (ap (λ (term : Term). term.holder.node) had.3 ∙ had.4)

-- a change that keeps nodes keeps what is had
had-map : (f : Term → Term) (terms : List Term) (node : ℕ) → ((term : Term) → (f term).holder.node ≡ term.holder.node) → IsHad terms node → IsHad (map f terms) node
had-map f terms node keeps had = (
  had.0,
  f had.1,
  omega (arith, had.2, length-map terms f),
  get_or-map f terms had.0 had.1 (f had.1) had.2 ∙ ap f had.3,
  keeps had.1 ∙ had.4,
)

had-push : (terms : List Term) (term : Term) (node : ℕ) → IsHad terms node → IsHad (terms ++ term ∷ []) node
had-push terms term node had = (had.0, had.1, omega (arith, had.2, length_push terms term), get_or_append_left terms (term ∷ []) had.1 had.0 had.2 ∙ had.3, had.4)

had-set : (terms : List Term) (i : ℕ) (term : Term) (node : ℕ) (had : IsHad terms node) → (had.0 ≡ i → ⊥) → IsHad (set terms i term) node
had-set terms i term node had other =
    (had.0, had.1, omega (arith, had.2, length-set terms i term), get_or-set_other terms i had.0 term had.1 other ∙ had.3, had.4)

node-renewed : (holder : Holder) (place : ℕ) (does_count : Bool) (term : Term) → (renewed holder place does_count term).holder.node ≡ term.holder.node
node-renewed holder place does_count term = by (cases_eq term.holder.node holder.node) does_count
  where
    by : (term.holder.node ≡ holder.node) ⊎ (term.holder.node ≡ holder.node → ⊥) → (b : Bool) → (renewed holder place b term).holder.node ≡ term.holder.node
    by (inl same) true = ap (λ (t : Term). t.holder.node) (cond-true (term.holder.node == holder.node) (next_term holder place true term) term (eq-eqb term.holder.node holder.node same)) ∙ sym same
    by (inl same) false = ap (λ (t : Term). t.holder.node) (cond-true (term.holder.node == holder.node) (next_term holder place false term) term (eq-eqb term.holder.node holder.node same))
    by (inr other) b = ap (λ (t : Term). t.holder.node) (cond-false (term.holder.node == holder.node) (next_term holder place b term) term (ne_eqb term.holder.node holder.node other))

pub node-with_number : (tenure number : ℕ) (term : Term) → (with_number tenure number term).holder.node ≡ term.holder.node
node-with_number tenure number term = by (term.current == tenure)
  where
    by : (b : Bool) → (cond b (record term { number = number }) term).holder.node ≡ term.holder.node
    by true = refl
    by false = refl

-- what is had of nodes, and that something is had of each that has a tenure near
pub record Has (span : ℕ) (L : Log) (terms : List Term) : Type 0 where
  pub knows : All (Knows span L) terms
  pub near_had : (node : ℕ) → 0 < last_tenure node L → entries L < last_tenure node L + span → IsHad terms node

pub has-foreign : (span : ℕ) (L : Log) (text : List ℕ) (terms : List Term) → Has span L terms → Has span (L ▹ Foreign text) terms
has-foreign span L text terms has = record {
  knows = All-weaker (Knows span L) (Knows span (L ▹ Foreign text)) (λ term knows. knows-foreign span L text term knows) terms has.knows;
  near_had = λ node some near. has.near_had node some (omega (arith, near));
}

pub has-void : (span : ℕ) (L : Log) (tenure number : ℕ) (note : Note) (terms : List Term) → counts span L tenure number ≡ false → Has span L terms → Has span (L ▹ Own tenure number note) terms
has-void span L tenure number note terms void has = record {
  knows = All-weaker (Knows span L) (Knows span (L ▹ Own tenure number note)) (λ term knows. knows-void span L tenure number note term void knows) terms has.knows;
  near_had = λ node some near. has.near_had node some (omega (arith, near));
}

pub has-counted : (span : ℕ) (L : Log) (tenure number : ℕ) (note : Note) (terms : List Term) → counts span L tenure number ≡ true → Has span L terms
    → Has span (L ▹ Own tenure number note) (map (with_number tenure number) terms)
has-counted span L tenure number note terms counts_so has = record {
  knows = All-map (Knows span (L ▹ Own tenure number note)) (with_number tenure number) terms
      (All-weaker (Knows span L) (λ (term : Term). Knows span (L ▹ Own tenure number note) (with_number tenure number term)) (λ term knows. knows-counted span L tenure number note term counts_so knows) terms has.knows);
  near_had = λ node some near. had-map (with_number tenure number) terms node (node-with_number tenure number) (has.near_had node some (omega (arith, near)));
}

-- the last tenure of a node
last-here : (holder : Holder) (base : ℕ) (told : Total) (L : Log) (node : ℕ) → (holder.node ≡ node → ⊥) → last_tenure node (L ▹ Tenure holder base told) ≡ last_tenure node L
last-here holder base told L node other = cond-false (holder.node == node) (entries L + 1) (last_tenure node L) (ne_eqb holder.node node other)

-- of a node that is not had no tenure is near, so that nothing is right of it
pub blank-knows : (span : ℕ) (L : Log) (holder : Holder) (terms : List Term) → Has span L terms → All (λ (term : Term). term.holder.node ≢ holder.node) terms
    → HoldsNearly span L (blank holder)
blank-knows span L holder terms has none = by (cases_lt 0 (last_tenure holder.node L)) (cases_lt (entries L) (last_tenure holder.node L + span))
  where
    by : (0 < last_tenure holder.node L) ⊎ (last_tenure holder.node L ≤ 0) → (entries L < last_tenure holder.node L + span) ⊎ (last_tenure holder.node L + span ≤ entries L)
        → HoldsNearly span L (blank holder)
    by (inl some) (inl near) = absurd (not-had terms holder.node none (has.near_had holder.node some near))
    by (inr none_yet) far_or_near = inl (record {
      is_current = omega (arith, none_yet, current-le-last span holder.node L);
      holder = λ some. absurd (omega (arith, some));
      number = λ some. absurd (omega (arith, some));
    })
    by (inl some) (inr far) = inr (omega (arith, far), omega (arith, far, current-le-last span holder.node L))

-- what is near is not far behind
near-not-far : (span : ℕ) (L : Log) (term : Term) (node : ℕ) → term.holder.node ≡ node → Knows span L term → entries L + 1 < last_tenure node L + span → term.last + span < entries L + 1 → ⊥
near-not-far span L term node is knows near far = by knows.last
  where
    same : last_tenure term.holder.node L ≡ last_tenure node L
    same = ap (λ (n : ℕ). last_tenure n L) is

    by : AreAlike span L term.last (last_tenure term.holder.node L) → ⊥
    by (inl e) = omega (arith, e, same, near, far)
    by (inr gone) = omega (arith, gone.1, same, near)

pub has-stands : (span : ℕ) (L : Log) (holder : Holder) (base : ℕ) (told : Total) (does_count : Bool) (old new : List Term)
    → does_count ≡ opens span L holder.node base → Stands (entries L) span old new holder does_count → Has span L old → Has span (L ▹ Tenure holder base told) new
has-stands span L holder base told does_count old new is (inl had) has = record {
  knows = subst (All (Knows span (L ▹ Tenure holder base told))) (sym had.1)
      (All-map (Knows span (L ▹ Tenure holder base told)) (renewed holder (entries L + 1) does_count) old
      (All-weaker (Knows span L) (λ (term : Term). Knows span (L ▹ Tenure holder base told) (renewed holder (entries L + 1) does_count term))
      (λ term knows. knows-renewed span L holder base told does_count term is knows) old has.knows));
  near_had = λ node some near. subst (λ (terms : List Term). IsHad terms node) (sym had.1)
      (had-map (renewed holder (entries L + 1) does_count) old node (node-renewed holder (entries L + 1) does_count) (by node some near (cases_eq holder.node node)));
}
  where
    by : (node : ℕ) → 0 < last_tenure node (L ▹ Tenure holder base told) → entries L + 1 < last_tenure node (L ▹ Tenure holder base told) + span
        → (holder.node ≡ node) ⊎ (holder.node ≡ node → ⊥) → IsHad old node
    by node some near (inl same) = subst (IsHad old) same had.0
    by node some near (inr other) =
        has.near_had node (omega (arith, some, last-here holder base told L node other)) (omega (arith, near, last-here holder base told L node other))
has-stands span L holder base told does_count old new is (inr none) has = by none.1
  where
    knows_it : Knows span (L ▹ Tenure holder base told) (next_term holder (entries L + 1) does_count (blank holder))
    knows_it = knows-next span L holder base told does_count (blank holder) is refl (blank-knows span L holder old has none.0)

    node_is : (b : Bool) → (next_term holder (entries L + 1) b (blank holder)).holder.node ≡ holder.node
    node_is true = refl
    node_is false = refl

    olds : All (Knows span (L ▹ Tenure holder base told)) old
    olds = λ k d within. knows-other span L holder base told (get_or old k d) (λ same. none.0 k d within (sym same)) (has.knows k d within)

    by : TakesPlace (entries L) span old new (next_term holder (entries L + 1) does_count (blank holder)) → Has span (L ▹ Tenure holder base told) new
    by (inl pushed) = record {
      knows = subst (All (Knows span (L ▹ Tenure holder base told))) (sym pushed) (All-push (Knows span (L ▹ Tenure holder base told)) old _ olds knows_it);
      near_had = λ node some near. subst (λ (terms : List Term). IsHad terms node) (sym pushed) (pushed_had node some near (cases_eq holder.node node));
    }
      where
        pushed_had : (node : ℕ) → 0 < last_tenure node (L ▹ Tenure holder base told) → entries L + 1 < last_tenure node (L ▹ Tenure holder base told) + span → (holder.node ≡ node) ⊎ (holder.node ≡ node → ⊥)
            → IsHad (old ++ next_term holder (entries L + 1) does_count (blank holder) ∷ []) node
        pushed_had node some near (inl same) = Any-push (λ (t : Term). t.holder.node ≡ node) old _ (node_is does_count ∙ same)
        pushed_had node some near (inr other) = had-push old _ node (has.near_had node (omega (arith, some, last-here holder base told L node other)) (omega (arith, near, last-here holder base told L node other)))
    by (inr put) = record {
      knows = subst (All (Knows span (L ▹ Tenure holder base told))) (sym put.3) (All-set (Knows span (L ▹ Tenure holder base told)) old put.0 _ knows_it olds);
      near_had = λ node some near. subst (λ (terms : List Term). IsHad terms node) (sym put.3) (put_had node some near (cases_eq holder.node node));
    }
      where
        kept : (node : ℕ) → entries L + 1 < last_tenure node L + span → (had : IsHad old node) → had.0 ≡ put.0 → ⊥
        kept node near had same =
            let at_it = ap (λ (k : ℕ). get_or old k had.1) (sym same) ∙ had.3 in
            let far = put.2 had.1 in
            near-not-far span L had.1 node had.4
            (subst (Knows span L) had.3 (has.knows had.0 had.1 had.2)) near
            (omega (arith, far, ap (λ (t : Term). t.last) at_it))

        put_had : (node : ℕ) → 0 < last_tenure node (L ▹ Tenure holder base told) → entries L + 1 < last_tenure node (L ▹ Tenure holder base told) + span → (holder.node ≡ node) ⊎ (holder.node ≡ node → ⊥)
            → IsHad (set old put.0 (next_term holder (entries L + 1) does_count (blank holder))) node
        put_had node some near (inl same) = any-set (λ (t : Term). t.holder.node ≡ node) old put.0 _ put.1 (node_is does_count ∙ same)
        put_had node some near (inr other) =
            let still : entries L + 1 < last_tenure node L + span = omega (arith, near, last-here holder base told L node other) in
            let had = has.near_had node (omega (arith, some, last-here holder base told L node other)) (omega (arith, still)) in
            had-set old put.0 _ node had (λ same. kept node still had same)

-- AN OPEN TENURE

-- what is had of the node whose current tenure stands near
pub open-found : (span tenure : ℕ) (L : Log) (term : Term) → Knows span L term → term.current ≡ tenure → 0 < tenure → entries L + 1 ≤ tenure + span → IsOpenBy span L tenure term
open-found span tenure L term knows is some near = by knows.current
  where
    by : HoldsNearly span L term → IsOpenBy span L tenure term
    by (inr far) = absurd (omega (arith, far.0, is, near))
    by (inl holds) =
        let held = ap (λ (p : ℕ). holder_at p L) (sym is) ∙ holds.holder (omega (arith, is, some)) in
        record {
          open_so = and_from (is_current span L tenure (holder_at tenure L)) (nat_le (entries L + 1) (tenure + span))
              (ap (is_current span L tenure) held ∙ eq-eqb (current_tenure span term.holder.node L) tenure (sym holds.is_current ∙ is))
              (le-leb (entries L + 1) (tenure + span) near);
          holder = held;
          number = holds.number (omega (arith, is, some)) ∙ ap (λ (p : ℕ). counted span p L) is;
        }

-- where no node has it nothing is open
pub open-missed : (span tenure : ℕ) (L : Log) (terms : List Term) → Has span L terms → All (λ (term : Term). term.current ≢ tenure) terms
    → 0 < tenure → entries L + 1 ≤ tenure + span → is_open span L tenure ≡ false
open-missed span tenure L terms has none some near = and_left (is_current span L tenure (holder_at tenure L)) (nat_le (entries L + 1) (tenure + span)) (by (holder_at tenure L))
  where
    clash : (holder : Holder) → current_tenure span holder.node L ≡ tenure → ⊥
    clash holder is =
        let had = has.near_had holder.node (omega (arith, is, some, current-le-last span holder.node L)) (omega (arith, is, near, current-le-last span holder.node L)) in
        let knows = subst (Knows span L) had.3 (has.knows had.0 had.1 had.2) in
        let other : had.1.current ≢ tenure = λ same. none had.0 had.1 had.2 (ap (λ (t : Term). t.current) had.3 ∙ same) in
        let current_is : current_tenure span had.1.holder.node L ≡ tenure = ap (λ (n : ℕ). current_tenure span n L) had.4 ∙ is in
        elim knows.current [ inl holds ↦ other (holds.is_current ∙ current_is) | inr far ↦ omega (arith, far.1, current_is, near) ]

    by : (o : Option Holder) → is_current span L tenure o ≡ false
    by None = refl
    by (Some holder) = ne_eqb (current_tenure span holder.node L) tenure (clash holder)
