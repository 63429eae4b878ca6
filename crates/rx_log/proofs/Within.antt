-- Nothing stands beyond the end of a log.
use Rattle.std.proofs.Common.{◌≡◌, ℕ, ◌+◌, ◌<◌, ◌≤◌, ◌==◌, ◌&&◌, Bool, true, false, cond, None, Some, refl, ap, ◌∙◌, arith}
use Rattle.std.specs.Prelude.{nat_le}
use Rattle.std.proofs.lemmas.Bool.{ne_eqb, lt-leb, and_left, and_right}
use Rattle.rx_log.specs.declared.entry.Entry.TheVariants.{Tenure, Own, Foreign}
use Rattle.rx_log.specs.Logs.{Log, Behind, ◌▹◌, entries, last_tenure, opens, current_tenure, holder_at, is_current, is_open, counted}

pub cond-within : (b : Bool) (x y most : ℕ) → x ≤ most → y ≤ most → cond b x y ≤ most
cond-within true x y most low high = low
cond-within false x y most low high = high

pub tenure-within : (node : ℕ) (L : Log) → last_tenure node L ≤ entries L
tenure-within node (Behind n) = omega arith
tenure-within node (L ▹ Tenure other base told) =
    cond-within (other.node == node) (entries L + 1) (last_tenure node L) (entries L + 1) (omega arith) (omega (arith, tenure-within node L))
tenure-within node (L ▹ Own tenure number note) = omega (arith, tenure-within node L)
tenure-within node (L ▹ Foreign text) = omega (arith, tenure-within node L)

pub current-within : (span node : ℕ) (L : Log) → current_tenure span node L ≤ entries L
current-within span node (Behind n) = omega arith
current-within span node (L ▹ Tenure other base told) =
    cond-within ((other.node == node) && opens span L node base) (entries L + 1) (current_tenure span node L) (entries L + 1) (omega arith) (omega (arith, current-within span node L))
current-within span node (L ▹ Own tenure number note) = omega (arith, current-within span node L)
current-within span node (L ▹ Foreign text) = omega (arith, current-within span node L)

pub no-holder : (place : ℕ) (L : Log) → entries L < place → holder_at place L ≡ None
no-holder place (Behind n) beyond = refl
no-holder place (L ▹ Tenure holder base told) beyond =
    ap (λ b. cond b (Some holder) (holder_at place L)) (ne_eqb (entries L + 1) place (λ same. omega (arith, same, beyond)))
    ∙ no-holder place L (omega (arith, beyond))
no-holder place (L ▹ Own tenure number note) beyond = no-holder place L (omega (arith, beyond))
no-holder place (L ▹ Foreign text) beyond = no-holder place L (omega (arith, beyond))

pub not-open : (span place : ℕ) (L : Log) → entries L < place → is_open span L place ≡ false
not-open span place L beyond = and_left (is_current span L place (holder_at place L)) (nat_le (entries L + 1) (place + span)) (ap (is_current span L place) (no-holder place L beyond))

pub none-counted : (span place : ℕ) (L : Log) → entries L < place → counted span place L ≡ 0
none-counted span place (Behind n) beyond = refl
none-counted span place (L ▹ Tenure holder base told) beyond = none-counted span place L (omega (arith, beyond))
none-counted span place (L ▹ Own tenure number note) beyond =
    ap (λ b. cond b number (counted span place L)) (and_right (tenure == place) (is_open span L place && (number == counted span place L + 1))
    (and_left (is_open span L place) (number == counted span place L + 1) (not-open span place L (omega (arith, beyond)))))
    ∙ none-counted span place L (omega (arith, beyond))
none-counted span place (L ▹ Foreign text) beyond = none-counted span place L (omega (arith, beyond))

-- far behind a tenure nothing counts
pub far-shut : (span place : ℕ) (L : Log) → place + span < entries L + 1 → is_open span L place ≡ false
far-shut span place L far = and_right (is_current span L place (holder_at place L)) (nat_le (entries L + 1) (place + span)) (lt-leb (entries L + 1) (place + span) far)
