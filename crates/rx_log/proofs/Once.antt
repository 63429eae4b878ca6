-- Nothing counts twice: what counts behind a tenure only rises, and a number that counted is not the next one any more.
use Rattle.std.proofs.Common.{◌≡◌, ℕ, ◌+◌, ◌≤◌, ◌==◌, ◌&&◌, Bool, true, false, cond, refl, arith}
use Rattle.std.proofs.lemmas.Bool.{eqb-true, eq-eqb, and_parts}
use Rattle.rx_note.specs.declared.note.Note.{Note}
use Rattle.rx_log.specs.declared.entry.Entry.{Entry}
use Rattle.rx_log.specs.declared.entry.Entry.TheVariants.{Tenure, Own, Foreign}
use Rattle.rx_log.specs.Logs.{Log, Behind, ◌▹◌, onto, counted, counts, is_open}

-- who takes the next number only where it is one more has no less
next-rises : (a b c : Bool) (number count : ℕ) → (c ≡ true → number ≡ count + 1) → count ≤ cond (a && (b && c)) number count
next-rises true true true number count is_next = omega (arith, is_next refl)
next-rises true true false number count is_next = omega arith
next-rises true false c number count is_next = omega arith
next-rises false b c number count is_next = omega arith

-- one entry more takes nothing away of what counted
pub counted-rises : (span place : ℕ) (L : Log) (entry : Entry) → counted span place L ≤ counted span place (L ▹ entry)
counted-rises span place L (Tenure holder base told) = omega arith
counted-rises span place L (Own tenure number note) =
    next-rises (tenure == place) (is_open span L place) (number == counted span place L + 1) number (counted span place L) (eqb-true number (counted span place L + 1))
counted-rises span place L (Foreign text) = omega arith

-- who takes the next number, and has it, has it
next-taken : (a b c : Bool) (number count : ℕ) → a ≡ true → (b && c) ≡ true → cond (a && (b && c)) number count ≡ number
next-taken true true true number count here there = refl
next-taken true true false number count here there = cc
next-taken true false c number count here there = cc
next-taken false b c number count here there = cc

-- the number that counts next has not counted before
pub next-is-new : (span tenure number : ℕ) (L : Log) → counts span L tenure number ≡ true → number ≡ counted span tenure L + 1
next-is-new span tenure number L here =
    eqb-true number (counted span tenure L + 1) ((and_parts (is_open span L tenure) (number == counted span tenure L + 1) here).1)

-- once it stands there it has counted
pub then-counted : (span tenure number : ℕ) (note : Note) (L : Log) → counts span L tenure number ≡ true
    → counted span tenure (L ▹ Own tenure number note) ≡ number
then-counted span tenure number note L here =
    next-taken (tenure == tenure) (is_open span L tenure) (number == counted span tenure L + 1) number (counted span tenure L) (eq-eqb tenure tenure refl) here

counted-stays : (span place : ℕ) (L later : Log) → counted span place L ≤ counted span place (onto L later)
counted-stays span place L (Behind n) = omega arith
counted-stays span place L (later ▹ entry) = omega (arith, counted-stays span place L later, counted-rises span place (onto L later) entry)

-- NOTHING COUNTS TWICE: once a number counted behind a tenure, no entry of that number counts there any more, whatever comes between
pub once : (span tenure number : ℕ) (note : Note) (L later : Log) → counts span L tenure number ≡ true
    → counts span (onto (L ▹ Own tenure number note) later) tenure number ≡ true → ⊥
once span tenure number note L later first again =
    omega (
      arith,
      then-counted span tenure number note L first,
      counted-stays span tenure (L ▹ Own tenure number note) later,
      next-is-new span tenure number (onto (L ▹ Own tenure number note) later) again,
    )
