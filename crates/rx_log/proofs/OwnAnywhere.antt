-- What is a machine's own is known from the last entries alone, as what counts is.
use Rattle.std.proofs.Common.{◌≡◌, ℕ, ◌+◌, ◌<◌, ◌≤◌, ◌==◌, ◌&&◌, ◌⊎◌, Bool, true, false, cond, Option, None, Some, inl, inr, refl, sym, ap, ◌∙◌, arith}
use Rattle.std.specs.Prelude.{nat_le}
use Rattle.std.proofs.lemmas.Bool.{cases_lt, eqb-true, and_left}
use Rattle.rx_log.specs.declared.entry.Entry.TheVariants.{Tenure, Own, Foreign}
use Rattle.rx_log.specs.declared.holder.Holder.{Holder}
use Rattle.rx_log.specs.Logs.{Log, Behind, ◌▹◌, entries, begun, onto, holder_at, is_current, is_open, counted, counts}
use Rattle.rx_log.specs.Senders.{is_held_by}
use Rattle.rx_log.specs.Machines.{is_own}
use Rattle.rx_log.proofs.Claims.{begun-within}
use Rattle.rx_log.proofs.Anywhere.{known-anywhere, seen-onto}

-- who holds a place that is not known nobody knows
holder-unknown : (place : ℕ) (M : Log) → place ≤ begun M → holder_at place M ≡ None
holder-unknown place (Behind n) low = refl
holder-unknown place (M ▹ Tenure holder base told) low =
    by (entries M + 1 == place) (λ same. omega (arith, eqb-true (entries M + 1) place same, begun-within M, low)) ∙ holder-unknown place M low
  where
    by : (b : Bool) → (b ≡ true → ⊥) → cond b (Some holder) (holder_at place M) ≡ holder_at place M
    by true never = absurd (never refl)
    by false never = refl
holder-unknown place (M ▹ Own tenure number note) low = holder-unknown place M low
holder-unknown place (M ▹ Foreign text) low = holder-unknown place M low

-- behind a place that nobody holds nothing counts
void-unknown : (span tenure number : ℕ) (M : Log) → holder_at tenure M ≡ None → counts span M tenure number ≡ false
void-unknown span tenure number M nobody =
    and_left (is_open span M tenure) (number == counted span tenure M + 1)
    (and_left (is_current span M tenure (holder_at tenure M)) (nat_le (entries M + 1) (tenure + span)) (ap (is_current span M tenure) nobody))

-- WHOSE IT IS: two spans behind the beginning, what is a holder's own is so of the whole log
pub own-anywhere : (span : ℕ) (holder : Holder) (L M : Log) (tenure number : ℕ) → entries L ≡ begun M → begun M + span + span ≤ entries M
    → is_own span holder (onto L M) tenure number ≡ is_own span holder M tenure number
own-anywhere span holder L M tenure number same enough = by (cases_lt (begun M) tenure)
  where
    alike : counts span (onto L M) tenure number ≡ counts span M tenure number
    alike = known-anywhere span L M tenure number same enough

    by : (begun M < tenure) ⊎ (tenure ≤ begun M) → is_own span holder (onto L M) tenure number ≡ is_own span holder M tenure number
    by (inl near) =
        ap (λ (b : Bool). b && is_held_by holder (holder_at tenure (onto L M))) alike
        ∙ ap (λ (o : Option Holder). counts span M tenure number && is_held_by holder o) ((seen-onto span L M same).holders tenure near)
    by (inr low) =
        let void = void-unknown span tenure number M (holder-unknown tenure M low) in
        and_left (counts span (onto L M) tenure number) (is_held_by holder (holder_at tenure (onto L M))) (alike ∙ void)
        ∙ sym (and_left (counts span M tenure number) (is_held_by holder (holder_at tenure M)) void)
