-- What counts is known from the last entries alone: who begins to read anywhere knows it two spans later.
use Rattle.std.proofs.Common.{◌≡◌, ℕ, ◌+◌, ◌<◌, ◌≤◌, ◌==◌, ◌&&◌, ◌⊎◌, Bool, true, false, cond, Option, None, Some, inl, inr, refl, sym, ap, subst, ◌∙◌, arith}
use Rattle.std.specs.Prelude.{nat_le}
use Rattle.std.proofs.lemmas.Bool.{true≢false, false≢true, ne_eqb, le-leb, cases_lt, and_left}
use Rattle.std.proofs.lemmas.Bool.Decides.{leb_tells}
use Rattle.rx_log.specs.declared.entry.Entry.{Entry}
use Rattle.rx_log.specs.declared.entry.Entry.TheVariants.{Tenure, Own, Foreign}
use Rattle.rx_log.specs.declared.holder.Holder.{Holder}
use Rattle.rx_log.specs.declared.total.Total.{Total}
use Rattle.rx_log.proofs.Within.{cond-within, tenure-within, current-within, no-holder, none-counted, far-shut}
use Rattle.rx_log.specs.Logs.{Log, Behind, ◌▹◌, entries, begun, onto, last_tenure, opens, current_tenure, holder_at, is_current, is_open, counted, counts}

-- WHAT IS KNOWN ALIKE

-- L is a whole log, M the same behind the first n entries, which M does not know
pub record IsSeen (span n : ℕ) (L M : Log) : Type 0 where
  pub same_end : entries L ≡ entries M
  pub behind : n ≤ entries L
  pub tenures : (node : ℕ) → (last_tenure node L ≡ last_tenure node M) ⊎ ((last_tenure node L ≤ n) × (last_tenure node M ≤ n))
  pub currents : (node : ℕ) → (current_tenure span node L ≡ current_tenure span node M) ⊎ ((current_tenure span node L ≤ n + span) × (current_tenure span node M ≤ n + span))
  pub holders : (place : ℕ) → n < place → holder_at place L ≡ holder_at place M
  pub numbers : (place : ℕ) → n + span < place → counted span place L ≡ counted span place M

begins-seen : (span : ℕ) (L : Log) → IsSeen span (entries L) L (Behind (entries L))
begins-seen span L = record {
  same_end = refl;
  behind = omega arith;
  tenures = λ node. inr (tenure-within node L, omega arith);
  currents = λ node. inr (omega (arith, current-within span node L), omega arith);
  holders = λ place beyond. no-holder place L beyond;
  numbers = λ place beyond. none-counted span place L (omega (arith, beyond));
}

-- ONE ENTRY MORE

pick-alike : (b c : Bool) (x y u v most : ℕ) → b ≡ c → x ≡ y → (u ≡ v) ⊎ ((u ≤ most) × (v ≤ most)) → (cond b x u ≡ cond c y v) ⊎ ((cond b x u ≤ most) × (cond c y v ≤ most))
pick-alike true true x y u v most agree same alike = inl same
pick-alike false false x y u v most agree same alike = alike
pick-alike true false x y u v most agree same alike = absurd (true≢false agree)
pick-alike false true x y u v most agree same alike = absurd (false≢true agree)

-- whoever stands near its base has its base among what is known
near-alike : (n span s a b base : ℕ) → n + span < s → (a ≡ b) ⊎ ((a ≤ n) × (b ≤ n))
    → (nat_le s (base + span) && nat_le a base) ≡ (nat_le s (base + span) && nat_le b base)
near-alike n span s a b base beyond (inl same) = ap (λ x. nat_le s (base + span) && nat_le x base) same
near-alike n span s a b base beyond (inr low) = by (leb_tells s (base + span))
  where
    by : ((nat_le s (base + span) ≡ true) × (s ≤ base + span)) ⊎ ((nat_le s (base + span) ≡ false) × (base + span < s))
        → (nat_le s (base + span) && nat_le a base) ≡ (nat_le s (base + span) && nat_le b base)
    by (inl near) = ap (λ x. nat_le s (base + span) && x) (le-leb a base (omega (arith, near.1, beyond, low.0)) ∙ sym (le-leb b base (omega (arith, near.1, beyond, low.1))))
    by (inr far) = and_left (nat_le s (base + span)) (nat_le a base) (far.0) ∙ sym (and_left (nat_le s (base + span)) (nat_le b base) (far.0))

same-place : (span : ℕ) (L M : Log) (place : ℕ) (o : Option Holder) (n : ℕ) → IsSeen span n L M → n + span < place → is_current span L place o ≡ is_current span M place o
same-place span L M place None n seen beyond = refl
same-place span L M place (Some holder) n seen beyond = by (seen.currents (holder.node))
  where
    by : (current_tenure span (holder.node) L ≡ current_tenure span (holder.node) M) ⊎ ((current_tenure span (holder.node) L ≤ n + span) × (current_tenure span (holder.node) M ≤ n + span))
        → (current_tenure span (holder.node) L == place) ≡ (current_tenure span (holder.node) M == place)
    by (inl same) = ap (λ x. x == place) same
    by (inr low) = ne_eqb (current_tenure span (holder.node) L) place (λ e. omega (arith, e, low.0, beyond))
        ∙ sym (ne_eqb (current_tenure span (holder.node) M) place (λ e. omega (arith, e, low.1, beyond)))

open-alike : (span n : ℕ) (L M : Log) (place : ℕ) → IsSeen span n L M → n + span < place → is_open span L place ≡ is_open span M place
open-alike span n L M place seen beyond =
    ap (λ x. x && nat_le (entries L + 1) (place + span)) (same-place span L M place (holder_at place L) n seen beyond ∙ ap (is_current span M place) (seen.holders place (omega (arith, beyond))))
    ∙ ap (λ x. is_current span M place (holder_at place M) && nat_le (x + 1) (place + span)) (seen.same_end)

holder-alike : (s t place : ℕ) (holder : Holder) (x y : Option Holder) → s ≡ t → x ≡ y → cond (s == place) (Some holder) x ≡ cond (t == place) (Some holder) y
holder-alike s t place holder x y same alike = ap (λ z. cond (z == place) (Some holder) x) same ∙ ap (cond (t == place) (Some holder)) alike

number-alike : (a b c : Bool) (number x y : ℕ) → b ≡ c → x ≡ y
    → cond (a && (b && (number == x + 1))) number x ≡ cond (a && (c && (number == y + 1))) number y
number-alike a b c number x y open_so same = ap (λ z. cond (a && (z && (number == x + 1))) number x) open_so ∙ ap (λ z. cond (a && (c && (number == z + 1))) number z) same

opens-alike : (span n : ℕ) (L M : Log) (node base : ℕ) → IsSeen span n L M → n + span < entries L + 1 → opens span L node base ≡ opens span M node base
opens-alike span n L M node base seen late =
    near-alike n span (entries L + 1) (last_tenure node L) (last_tenure node M) base late (seen.tenures node)
    ∙ ap (λ x. nat_le (x + 1) (base + span) && nat_le (last_tenure node M) base) (seen.same_end)

current-next : (span n : ℕ) (L M : Log) (other : Holder) (base node : ℕ) (told : Total) → IsSeen span n L M
    → (n + span < entries L + 1) ⊎ (entries L + 1 ≤ n + span)
    → (current_tenure span node (L ▹ Tenure other base told) ≡ current_tenure span node (M ▹ Tenure other base told))
    ⊎ ((current_tenure span node (L ▹ Tenure other base told) ≤ n + span) × (current_tenure span node (M ▹ Tenure other base told) ≤ n + span))
current-next span n L M other base node told seen (inl late) =
    pick-alike ((other.node == node) && opens span L node base) ((other.node == node) && opens span M node base) (entries L + 1) (entries M + 1)
    (current_tenure span node L) (current_tenure span node M) (n + span)
    (ap (λ x. (other.node == node) && x) (opens-alike span n L M node base seen late)) (ap (λ x. x + 1) (seen.same_end)) (seen.currents node)
current-next span n L M other base node told seen (inr early) =
    inr (
      cond-within ((other.node == node) && opens span L node base) (entries L + 1) (current_tenure span node L) (n + span) early (omega (arith, early, current-within span node L)),
      cond-within ((other.node == node) && opens span M node base) (entries M + 1) (current_tenure span node M) (n + span) (omega (arith, early, seen.same_end)) (omega (arith, early, seen.same_end, current-within span node M)),
    )

-- an entry more is seen alike
seen-next : (span n : ℕ) (L M : Log) (entry : Entry) → IsSeen span n L M → IsSeen span n (L ▹ entry) (M ▹ entry)
seen-next span n L M (Tenure other base told) seen = record {
  same_end = ap (λ x. x + 1) (seen.same_end);
  behind = omega (arith, seen.behind);
  tenures = λ node. pick-alike (other.node == node) (other.node == node) (entries L + 1) (entries M + 1) (last_tenure node L) (last_tenure node M) n refl
      (ap (λ x. x + 1) (seen.same_end)) (seen.tenures node);
  currents = λ node. current-next span n L M other base node told seen (cases_lt (n + span) (entries L + 1));
  holders = λ place beyond. holder-alike (entries L + 1) (entries M + 1) place other (holder_at place L) (holder_at place M) (ap (λ x. x + 1) (seen.same_end)) (seen.holders place beyond);
  numbers = λ place beyond. seen.numbers place beyond;
}
seen-next span n L M (Own tenure number note) seen = record {
  same_end = ap (λ x. x + 1) (seen.same_end);
  behind = omega (arith, seen.behind);
  tenures = λ node. seen.tenures node;
  currents = λ node. seen.currents node;
  holders = λ place beyond. seen.holders place beyond;
  numbers = λ place beyond. number-alike (tenure == place) (is_open span L place) (is_open span M place) number (counted span place L) (counted span place M)
      (open-alike span n L M place seen beyond) (seen.numbers place beyond);
}
seen-next span n L M (Foreign text) seen = record {
  same_end = ap (λ x. x + 1) (seen.same_end);
  behind = omega (arith, seen.behind);
  tenures = λ node. seen.tenures node;
  currents = λ node. seen.currents node;
  holders = λ place beyond. seen.holders place beyond;
  numbers = λ place beyond. seen.numbers place beyond;
}

-- the same of whatever was read
pub seen-onto : (span : ℕ) (L M : Log) → entries L ≡ begun M → IsSeen span (begun M) (onto L M) M
seen-onto span L (Behind n) same = let P : ℕ → Type 0 = λ m. IsSeen span m L (Behind m) in subst P same (begins-seen span L)
seen-onto span L (M ▹ entry) same = seen-next span (begun M) (onto L M) M entry (seen-onto span L M same)

counts-alike : (span n : ℕ) (L M : Log) (tenure number : ℕ) → IsSeen span n L M → n + span + span ≤ entries L → (n + span < tenure) ⊎ (tenure ≤ n + span)
    → counts span L tenure number ≡ counts span M tenure number
counts-alike span n L M tenure number seen enough (inl near) =
    ap (λ x. x && (number == counted span tenure L + 1)) (open-alike span n L M tenure seen near)
    ∙ ap (λ x. is_open span M tenure && (number == x + 1)) (seen.numbers tenure near)
counts-alike span n L M tenure number seen enough (inr far) =
    and_left (is_open span L tenure) (number == counted span tenure L + 1) (far-shut span tenure L (omega (arith, enough, far)))
    ∙ sym (and_left (is_open span M tenure) (number == counted span tenure M + 1) (far-shut span tenure M (omega (arith, enough, far, seen.same_end))))

-- WHO BEGINS ANYWHERE KNOWS: two spans later, what counts is what counts of the whole log
pub known-anywhere : (span : ℕ) (L M : Log) (tenure number : ℕ) → entries L ≡ begun M → begun M + span + span ≤ entries M
    → counts span (onto L M) tenure number ≡ counts span M tenure number
known-anywhere span L M tenure number same enough =
    let seen = seen-onto span L M same in
    counts-alike span (begun M) (onto L M) M tenure number seen (omega (arith, enough, seen.same_end)) (cases_lt (begun M + span) tenure)

-- and of a tenure that stands a span behind the beginning
pub opens-anywhere : (span : ℕ) (L M : Log) (node base : ℕ) → entries L ≡ begun M → begun M + span < entries M + 1
    → opens span (onto L M) node base ≡ opens span M node base
opens-anywhere span L M node base same enough =
    let seen = seen-onto span L M same in
    opens-alike span (begun M) (onto L M) M node base seen (omega (arith, enough, seen.same_end))

pub entries-onto : (span : ℕ) (L M : Log) → entries L ≡ begun M → entries (onto L M) ≡ entries M
entries-onto span L M same = (seen-onto span L M same).same_end
