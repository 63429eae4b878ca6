-- Where each tenure tells what its sender knew, whoever knows what a log comes to is right.
use Rattle.std.proofs.Common.{◌≡◌, ℕ, ◌+◌, ◌<◌, ◌≤◌, ◌==◌, ◌&&◌, ◌⊎◌, Bool, true, false, cond, Option, None, Some, is_some, inl, inr, refl, sym, ap, subst, ◌∙◌, arith}
use Rattle.std.specs.Prelude.{nat_le}
use Rattle.std.proofs.lemmas.Bool.{eqb-true, leb-true, le-leb, and_parts, and_from, cond-true}
use Rattle.std.proofs.lemmas.Bool.Decides.{leb_tells}
use Rattle.rx_log.specs.declared.entry.Entry.{Entry}
use Rattle.rx_log.specs.declared.entry.Entry.TheVariants.{Tenure, Own, Foreign}
use Rattle.rx_log.specs.declared.holder.Holder.{Holder}
use Rattle.rx_log.specs.declared.total.Total.{Total}
use Rattle.rx_log.specs.Logs.{Log, Behind, ◌▹◌, entries, begun, onto, up_to, opens}
use Rattle.rx_log.specs.Totals.{emitted, nothing, after, total_behind, total, is_believed, claimed, known_next, known, AllRead}
use Rattle.rx_log.proofs.Anywhere.{opens-anywhere}
use Rattle.rx_log.proofs.Totals.{total-next, split, emitted-anywhere, behind-anywhere, items-within}

-- each tenure tells what the log before its base comes to
abbrev pub IsHonest : ℕ → Log → Type 0
IsHonest span (Behind n) = Unit {0}
IsHonest span (L ▹ Tenure holder base told) = IsHonest span L × (told ≡ total span (up_to base L))
IsHonest span (L ▹ Own tenure number note) = IsHonest span L
IsHonest span (L ▹ Foreign text) = IsHonest span L

honest-before : (span : ℕ) (L : Log) (entry : Entry) → IsHonest span (L ▹ entry) → IsHonest span L
honest-before span L (Tenure holder base told) honest = honest.0
honest-before span L (Own tenure number note) honest = honest
honest-before span L (Foreign text) honest = honest

honest-up_to : (span base : ℕ) (L : Log) → IsHonest span L → IsHonest span (up_to base L)
honest-up_to span base (Behind n) honest = honest
honest-up_to span base (L ▹ entry) honest = by (honest-up_to span base L (honest-before span L entry honest)) (nat_le (entries L + 1) base)
  where
    by : IsHonest span (up_to base L) → (b : Bool) → IsHonest span (cond b (L ▹ entry) (up_to base L))
    by before true = honest
    by before false = before

-- WHEN IT IS KNOWN

-- what a tenure is believed for
record Believes (span : ℕ) (L : Log) (node base : ℕ) (told : Total) : Type 0 where
  counts : opens span L node base ≡ true
  far : begun L + span + span ≤ base
  within : base ≤ entries L
  few : told.items ≤ base

believes : (span : ℕ) (L : Log) (node base : ℕ) (told : Total) → is_believed span L node base told ≡ true → Believes span L node base told
believes span L node base told so =
    let one = and_parts (opens span L node base) (nat_le (begun L + span + span) base && (nat_le base (entries L) && nat_le told.items base)) so in
    let two = and_parts (nat_le (begun L + span + span) base) (nat_le base (entries L) && nat_le told.items base) one.1 in
    let three = and_parts (nat_le base (entries L)) (nat_le told.items base) two.1 in
    record {
      counts = one.0;
      far = leb-true (begun L + span + span) base two.0;
      within = leb-true base (entries L) three.0;
      few = leb-true told.items base three.1;
    }

some-if : (b : Bool) (t told : Total) → cond b (Some t) None ≡ Some told → (b ≡ true) × (told ≡ t)
some-if true t told is = (refl, cc)
some-if false t told is = absurd cc

-- what is known is known from the first entry on, or two spans behind the beginning
abbrev pub IsLong : ℕ → Log → Type 0
IsLong span M = (begun M ≡ 0) ⊎ (begun M + span + span ≤ entries M)

longer : (span : ℕ) (M : Log) (entry : Entry) → IsLong span M → IsLong span (M ▹ entry)
longer span M entry (inl whole) = inl whole
longer span M entry (inr long) = inr (omega (arith, long))

pub long-known : (span : ℕ) (M : Log) (told : Total) → known span M ≡ Some told → IsLong span M
long-known span (Behind n) told is = inl (eqb-true n 0 ((some-if (n == 0) nothing told is).0))
long-known span (M ▹ entry) told is = by (λ t before. long-known span M t before) (known span M) refl is
  where
    claims : (entry : Entry) → claimed span M entry ≡ Some told → IsLong span (M ▹ entry)
    claims (Tenure holder base claim) here =
        let b = believes span M holder.node base claim ((some-if (is_believed span M holder.node base claim) (total_behind span base claim M) told here).0) in
        inr (omega (arith, b.far, b.within))
    claims (Own tenure number note) here = absurd cc
    claims (Foreign text) here = absurd cc

    by : ((t : Total) → known span M ≡ Some t → IsLong span M) → (o : Option Total) → known span M ≡ o → known_next span M entry o ≡ Some told → IsLong span (M ▹ entry)
    by earlier None before here = claims entry here
    by earlier (Some t) before here = longer span M entry (earlier t before)

-- a log of no entries is the whole of what was read behind it
no-entries : (L : Log) → entries L ≡ 0 → L ≡ Behind 0
no-entries (Behind n) none = ap Behind none
no-entries (L ▹ entry) none = absurd (omega (arith, none))

onto-nothing : (M : Log) → begun M ≡ 0 → onto (Behind 0) M ≡ M
onto-nothing (Behind n) none = ap Behind (sym none)
onto-nothing (M ▹ entry) none = ap (λ (L : Log). L ▹ entry) (onto-nothing M none)

pub emitted-known : (span : ℕ) (L M : Log) (entry : Entry) → entries L ≡ begun M → IsLong span M → emitted span (onto L M) entry ≡ emitted span M entry
emitted-known span L M entry same (inl whole) =
    ap (λ (K : Log). emitted span (onto K M) entry) (no-entries L (same ∙ whole)) ∙ ap (λ (K : Log). emitted span K entry) (onto-nothing M whole)
emitted-known span L M entry same (inr long) = emitted-anywhere span L M entry same long

-- WHAT IS KNOWN IS RIGHT

empty-total : (span : ℕ) (L : Log) → entries L ≡ 0 → total span L ≡ nothing
empty-total span L none = ap (total span) (no-entries L none)

-- a tenure that is believed tells what the log comes to
believed-right : (span : ℕ) (L M : Log) (holder : Holder) (base : ℕ) (claim : Total) → entries L ≡ begun M
    → claim ≡ total span (up_to base (onto L M)) → is_believed span M holder.node base claim ≡ true
    → total_behind span base claim M ≡ total span (onto L M ▹ Tenure holder base claim)
believed-right span L M holder base claim same honest so =
    let b = believes span M holder.node base claim so in
    sym (behind-anywhere span base claim L M same b.far)
    ∙ ap (λ (t : Total). total_behind span base t (onto L M)) honest
    ∙ sym (split span base (onto L M))
    ∙ sym (total-next span (onto L M) (Tenure holder base claim))

pub known-right : (span : ℕ) (L M : Log) (told : Total) → entries L ≡ begun M → IsHonest span (onto L M) → known span M ≡ Some told
    → told ≡ total span (onto L M)
known-right span L (Behind n) told same honest is =
    let start = some-if (n == 0) nothing told is in
    start.1 ∙ sym (empty-total span L (same ∙ eqb-true n 0 start.0))
known-right span L (M ▹ entry) told same honest is =
    by (λ t before. known-right span L M t same (honest-before span (onto L M) entry honest) before) (known span M) refl is
  where
    claims : (entry : Entry) → IsHonest span (onto L M ▹ entry) → claimed span M entry ≡ Some told → told ≡ total span (onto L M ▹ entry)
    claims (Tenure holder base claim) true_so here =
        let b = some-if (is_believed span M holder.node base claim) (total_behind span base claim M) told here in
        b.1 ∙ believed-right span L M holder base claim same true_so.1 b.0
    claims (Own tenure number note) true_so here = absurd cc
    claims (Foreign text) true_so here = absurd cc

    by : ((t : Total) → known span M ≡ Some t → t ≡ total span (onto L M)) → (o : Option Total) → known span M ≡ o → known_next span M entry o ≡ Some told
        → told ≡ total span (onto L M ▹ entry)
    by earlier None before here = claims entry honest here
    by earlier (Some t) before here =
        let is_now : told ≡ after t (emitted span M entry) = cc in
        is_now
        ∙ ap (λ (u : Total). after u (emitted span M entry)) (earlier t before)
        ∙ ap (after (total span (onto L M))) (sym (emitted-known span L M entry same (long-known span M t before)))
        ∙ sym (total-next span (onto L M) entry)

-- where all were appended by this program, each tenure tells what the log before its base comes to
pub all-honest : (span : ℕ) (L : Log) → AllRead span L → IsHonest span L
all-honest span (Behind n) read = tt
all-honest span (L ▹ Tenure holder base told) read =
    let honest = all-honest span L read.0 in
    let k = read.1 in
    let there = honest-up_to span base L honest in (
      honest,
      let right = known-right span k.before k.read told k.behind (subst (IsHonest span) (sym k.whole) there) k.knows in
          right ∙ ap (total span) k.whole,
    )
all-honest span (L ▹ Own tenure number note) read = all-honest span L read
all-honest span (L ▹ Foreign text) read = all-honest span L read

-- CLAIMS: whoever began anywhere and knows what its log comes to knows what the whole log comes to
pub claims : (span : ℕ) (L M : Log) (told : Total) → entries L ≡ begun M → AllRead span (onto L M) → known span M ≡ Some told
    → told ≡ total span (onto L M)
claims span L M told same read is = known-right span L M told same (all-honest span (onto L M) read) is

-- AND IT COMES TO BE KNOWN

pub begun-within : (L : Log) → begun L ≤ entries L
begun-within (Behind n) = omega arith
begun-within (L ▹ entry) = omega (arith, begun-within L)

begun-onto : (L M : Log) → begun (onto L M) ≡ begun L
begun-onto L (Behind n) = refl
begun-onto L (M ▹ entry) = begun-onto L M

entries-up_to : (base : ℕ) (L : Log) → begun L ≤ base → entries (up_to base L) ≤ base
entries-up_to base (Behind n) low = low
entries-up_to base (L ▹ entry) low = by (entries-up_to base L low) (leb_tells (entries L + 1) base)
  where
    by : entries (up_to base L) ≤ base → ((nat_le (entries L + 1) base ≡ true) × (entries L + 1 ≤ base)) ⊎ ((nat_le (entries L + 1) base ≡ false) × (base < entries L + 1))
        → entries (cond (nat_le (entries L + 1) base) (L ▹ entry) (up_to base L)) ≤ base
    by before (inl le) = subst (λ (b : Bool). entries (cond b (L ▹ entry) (up_to base L)) ≤ base) (sym le.0) le.1
    by before (inr gt) = subst (λ (b : Bool). entries (cond b (L ▹ entry) (up_to base L)) ≤ base) (sym gt.0) before

-- from the first tenure on that counts and whose base has two spans of what is known before it
pub known-then : (span : ℕ) (L M : Log) (holder : Holder) (base : ℕ) (told : Total) → entries L ≡ begun M
    → AllRead span (onto L M ▹ Tenure holder base told) → opens span (onto L M) holder.node base ≡ true
    → begun M + span + span ≤ base → base ≤ entries M → is_some (known span (M ▹ Tenure holder base told)) ≡ true
known-then span L M holder base told same read opens_so far within = by (known span M)
  where
    there : total span (up_to base (onto L M)) ≡ told
    there = sym ((all-honest span (onto L M ▹ Tenure holder base told) read).1)

    few : told.items ≤ base
    few =
        let low = entries-up_to base (onto L M) (omega (arith, begun-onto L M, begun-within L, same, far)) in
        let items = items-within span (up_to base (onto L M)) in
        let is = ap (λ (t : Total). t.items) there in
        omega (arith, low, items, is)

    believed : is_believed span M holder.node base told ≡ true
    believed =
        and_from (opens span M holder.node base) _ (sym (opens-anywhere span L M holder.node base same (omega (arith, far, within))) ∙ opens_so)
        (and_from (nat_le (begun M + span + span) base) _ (le-leb (begun M + span + span) base far)
        (and_from (nat_le base (entries M)) _ (le-leb base (entries M) within) (le-leb told.items base few)))

    by : (o : Option Total) → is_some (known_next span M (Tenure holder base told) o) ≡ true
    by (Some t) = refl
    by None = ap is_some (cond-true (is_believed span M holder.node base told) (Some (total_behind span base told M)) None believed)
