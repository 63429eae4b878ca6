-- What a log comes to, with one entry more and in two parts.
use Rattle.std.proofs.Common.{◌≡◌, ℕ, ◌+◌, ◌<◌, ◌≤◌, ◌⊎◌, Bool, true, false, cond, Option, None, Some, inl, inr, refl, sym, ap, ◌∙◌, arith}
use Rattle.std.specs.Prelude.{nat_le}
use Rattle.std.proofs.lemmas.Bool.{le-leb, lt-leb, cond-true, cond-false}
use Rattle.std.proofs.lemmas.Bool.Decides.{leb_tells}
use Rattle.rx_note.specs.declared.note.Note.{Note}
use Rattle.rx_log.specs.declared.entry.Entry.{Entry}
use Rattle.rx_log.specs.declared.entry.Entry.TheVariants.{Tenure, Own, Foreign}
use Rattle.rx_log.specs.declared.total.Total.{Total}
use Rattle.rx_log.specs.Logs.{Log, Behind, ◌▹◌, entries, begun, onto, up_to}
use Rattle.rx_log.specs.Totals.{ends, emitted, nothing, with_note, after, total_behind, total}
use Rattle.rx_log.proofs.Anywhere.{known-anywhere, entries-onto}

-- a whole log comes to what it came to, and the entry's note
pub total-next : (span : ℕ) (L : Log) (entry : Entry) → total span (L ▹ entry) ≡ after (total span L) (emitted span L entry)
total-next span L entry = cond-false (nat_le (entries L + 1) 0) nothing (after (total span L) (emitted span L entry)) (lt-leb (entries L + 1) 0 (omega arith))

-- up to its base nothing is added
pub behind-start : (span base : ℕ) (start : Total) (L : Log) → entries L ≤ base → total_behind span base start L ≡ start
behind-start span base start (Behind n) within = refl
behind-start span base start (L ▹ entry) within =
    cond-true (nat_le (entries L + 1) base) start (after (total_behind span base start L) (emitted span L entry)) (le-leb (entries L + 1) base within)

-- behind its base the entry's note is
pub behind-next : (span base : ℕ) (start : Total) (L : Log) (entry : Entry) → base ≤ entries L
    → total_behind span base start (L ▹ entry) ≡ after (total_behind span base start L) (emitted span L entry)
behind-next span base start L entry beyond =
    cond-false (nat_le (entries L + 1) base) start (after (total_behind span base start L) (emitted span L entry)) (lt-leb (entries L + 1) base (omega (arith, beyond)))

-- a log comes to what it came to up to a base, and what stands behind that
pub split : (span base : ℕ) (L : Log) → total span L ≡ total_behind span base (total span (up_to base L)) L
split span base (Behind n) = refl
split span base (L ▹ entry) = total-next span L entry ∙ by (split span base L) (nat_le (entries L + 1) base)
  where
    by : total span L ≡ total_behind span base (total span (up_to base L)) L → (b : Bool) → after (total span L) (emitted span L entry) ≡ cond b (total span (cond b (L ▹ entry) (up_to base L))) (after (total_behind span base (total span (cond b (L ▹ entry) (up_to base L))) L) (emitted span L entry))
    by before true = sym (total-next span L entry)
    by before false = ap (λ (t : Total). after t (emitted span L entry)) before

-- ANYWHERE

-- which note an entry emits is known two spans behind the beginning
pub emitted-anywhere : (span : ℕ) (L M : Log) (entry : Entry) → entries L ≡ begun M → begun M + span + span ≤ entries M
    → emitted span (onto L M) entry ≡ emitted span M entry
emitted-anywhere span L M (Tenure holder base told) same enough = refl
emitted-anywhere span L M (Own tenure number note) same enough =
    ap (λ (b : Bool). cond b (Some note) None) (known-anywhere span L M tenure number same enough)
emitted-anywhere span L M (Foreign text) same enough = refl

-- and so is what stands behind a base there
pub behind-anywhere : (span base : ℕ) (start : Total) (L M : Log) → entries L ≡ begun M → begun M + span + span ≤ base
    → total_behind span base start (onto L M) ≡ total_behind span base start M
behind-anywhere span base start L (Behind n) same far = behind-start span base start L (omega (arith, same, far))
behind-anywhere span base start L (M ▹ entry) same far = by (behind-anywhere span base start L M same far) (leb_tells (entries M + 1) base)
  where
    by : total_behind span base start (onto L M) ≡ total_behind span base start M
        → ((nat_le (entries M + 1) base ≡ true) × (entries M + 1 ≤ base)) ⊎ ((nat_le (entries M + 1) base ≡ false) × (base < entries M + 1))
        → total_behind span base start (onto L M ▹ entry) ≡ total_behind span base start (M ▹ entry)
    by before (inl low) =
        behind-start span base start (onto L M ▹ entry) (omega (arith, low.1, entries-onto span L M same))
        ∙ sym (behind-start span base start (M ▹ entry) (low.1))
    by before (inr high) =
        behind-next span base start (onto L M) entry (omega (arith, high.1, entries-onto span L M same))
        ∙ ap (λ (t : Total). after t (emitted span (onto L M) entry)) before
        ∙ ap (after (total_behind span base start M)) (emitted-anywhere span L M entry same (omega (arith, far, high.1)))
        ∙ sym (behind-next span base start M entry (omega (arith, high.1)))

-- HOW MANY

-- a note more is an item more at most
pub items-with_note : (before : Total) (is_end : Bool) → (with_note before is_end).items ≤ before.items + 1
items-with_note before is_end = by before.ended is_end
  where
    by : (b c : Bool) → (cond b before (cond c (record { items = before.items; ended = true }) (record { items = before.items + 1; ended = false }))).items ≤ before.items + 1
    by true c = omega arith
    by false true = omega arith
    by false false = omega arith

pub items-after : (before : Total) (note : Option Note) → (after before note).items ≤ before.items + 1
items-after before None = omega arith
items-after before (Some note) = items-with_note before (ends note)

-- there are no more items than entries
pub items-within : (span : ℕ) (L : Log) → (total span L).items ≤ entries L
items-within span (Behind n) = omega arith
items-within span (L ▹ entry) =
    let more = ap (λ (t : Total). t.items) (total-next span L entry) in
    omega (arith, more, items-after (total span L) (emitted span L entry), items-within span L)
