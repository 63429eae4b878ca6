-- What a machine emits is the end of what the whole log emits, wherever it began.
use Rattle.std.proofs.Common.{◌≡◌, ℕ, Bool, true, false, cond, List, [], ◌∷◌, ◌++◌, Option, None, Some, option_to_list, is_some, refl, sym, ap, ◌∙◌, append_assoc, append-nil, ◌+◌, not, count_by, arith}
use Rattle.std.proofs.lemmas.List.Sums.{sum_by-append}
use Rattle.rx_note.specs.declared.note.Note.{Note}
use Rattle.rx_note.specs.declared.note.Note.TheVariants.{Next, Completed, Failed}
use Rattle.rx_log.specs.declared.entry.Entry.{Entry}
use Rattle.rx_log.specs.declared.entry.Entry.TheVariants.{Tenure, Own, Foreign}
use Rattle.rx_log.specs.declared.total.Total.{Total}
use Rattle.rx_log.specs.declared.standing.Standing.TheVariants.{Void, Opens, Counts}
use Rattle.rx_log.specs.Logs.{Log, Behind, ◌▹◌, entries, begun, onto, opens, holder_at, counts}
use Rattle.rx_log.specs.Totals.{emitted, total, unless_ended, emissions, known, known_next, given_out, heard_of, place_in, place_of, standing, AllRead, ends, after}
use Rattle.rx_log.proofs.Totals.{total-next}
use Rattle.rx_log.proofs.Claims.{claims, emitted-known, long-known}

read-before : (span : ℕ) (L : Log) (entry : Entry) → AllRead span (L ▹ entry) → AllRead span L
read-before span L (Tenure holder base told) read = read.0
read-before span L (Own tenure number note) read = read
read-before span L (Foreign text) read = read

-- whoever knows what came before emits of the next entry what the whole log does
pub emitted-right : (span : ℕ) (L M : Log) (entry : Entry) (told : Total) → entries L ≡ begun M → AllRead span (onto L M) → known span M ≡ Some told
    → unless_ended (total span (onto L M)) (emitted span (onto L M) entry) ≡ unless_ended told (emitted span M entry)
emitted-right span L M entry told same read knows =
    ap (λ (before : Total). unless_ended before (emitted span (onto L M) entry)) (sym (claims span L M told same read knows))
    ∙ ap (unless_ended told) (emitted-known span L M entry same (long-known span M told knows))

-- what is known stays known, so that nothing was emitted before
unknown-before : (span : ℕ) (M : Log) (entry : Entry) → known span (M ▹ entry) ≡ None → known span M ≡ None
unknown-before span M entry unknown = by (known span M) refl unknown
  where
    by : (o : Option Total) → known span M ≡ o → known_next span M entry o ≡ None → known span M ≡ None
    by None is none = is
    by (Some told) is none = absurd cc

silent : (span : ℕ) (M : Log) → known span M ≡ None → heard_of span M ≡ []
silent span (Behind n) unknown = refl
silent span (M ▹ entry) unknown =
    let before = unknown-before span M entry unknown in
    ap (λ (notes : List Note). notes ++ given_out (known span M) (emitted span M entry)) (silent span M before)
    ∙ ap (λ (o : Option Total). given_out o (emitted span M entry)) before

-- A STRETCH: what a machine emitted stands at the end of what the whole log emits, each once, in order
pub stretch : (span : ℕ) (L M : Log) → entries L ≡ begun M → AllRead span (onto L M) → (before : List Note) × (emissions span (onto L M) ≡ before ++ heard_of span M)
stretch span L (Behind n) same read = (emissions span L, sym (append-nil (emissions span L)))
stretch span L (M ▹ entry) same read =
    by (stretch span L M same (read-before span (onto L M) entry read)) (known span M) refl
  where
    by : (before : List Note) × (emissions span (onto L M) ≡ before ++ heard_of span M) → (o : Option Total) → known span M ≡ o
        → (before : List Note) × (emissions span (onto L M ▹ entry) ≡ before ++ (heard_of span M ++ given_out (known span M) (emitted span M entry)))
    by before None is = (
      emissions span (onto L M ▹ entry),
      sym (ap (λ (notes : List Note). emissions span (onto L M ▹ entry) ++ notes)
          (ap (λ (notes : List Note). notes ++ given_out (known span M) (emitted span M entry)) (silent span M is) ∙ ap (λ (o : Option Total). given_out o (emitted span M entry)) is)
          ∙ append-nil (emissions span (onto L M ▹ entry))),
    )
    by before (Some told) is = (
      before.0,
      ap (λ (notes : List Note). notes ++ unless_ended (total span (onto L M)) (emitted span (onto L M) entry)) before.1
          ∙ append_assoc before.0 (heard_of span M) (unless_ended (total span (onto L M)) (emitted span (onto L M) entry))
          ∙ ap (λ (notes : List Note). before.0 ++ (heard_of span M ++ notes))
          (emitted-right span L M entry told same (read-before span (onto L M) entry read) is ∙ ap (λ (o : Option Total). given_out o (emitted span M entry)) (sym is)),
    )

-- BY HOW IT STANDS: the note of an entry is emitted exactly where its standing has a place
pub placed : (span : ℕ) (M : Log) (entry : Entry) → given_out (known span M) (emitted span M entry)
    ≡ cond (is_some (place_of (standing span M entry))) (option_to_list (emitted span M entry)) []
placed span M (Tenure holder base told) = by (known span M) (opens span M holder.node base)
  where
    by : (o : Option Total) (b : Bool) → given_out o None ≡ cond (is_some (place_of (cond b Opens Void))) [] []
    by None true = refl
    by None false = refl
    by (Some before) true = refl
    by (Some before) false = refl
placed span M (Own tenure number note) = by (known span M) (counts span M tenure number)
  where
    ended : (before : Total) (b : Bool) → cond b [] (note ∷ []) ≡ cond (is_some (cond b None (Some before.items))) (note ∷ []) []
    ended before true = refl
    ended before false = refl

    by : (o : Option Total) (b : Bool) → given_out o (cond b (Some note) None) ≡ cond (is_some (place_of (cond b (Counts (holder_at tenure M) o) Void))) (option_to_list (cond b (Some note) None)) []
    by None true = refl
    by None false = refl
    by (Some before) true = ended before before.ended
    by (Some before) false = refl
placed span M (Foreign text) = by (known span M)
  where
    by : (o : Option Total) → given_out o (emitted span M (Foreign text)) ≡ cond (is_some (place_in o)) (option_to_list (emitted span M (Foreign text))) []
    by None = refl
    by (Some before) = ended before before.ended
      where
        ended : (t : Total) (b : Bool) → cond b [] (option_to_list (emitted span M (Foreign text))) ≡ cond (is_some (cond b None (Some t.items))) (option_to_list (emitted span M (Foreign text))) []
        ended t true = refl
        ended t false = refl

-- A PLACE: the items that a log comes to are those that it emits
one-more : (before : Total) (note : Option Note) → before.items + count_by (λ (n : Note). not (ends n)) (unless_ended before note) ≡ (after before note).items
one-more before None = omega arith
one-more before (Some (Next item)) = by before.ended
  where
    by : (b : Bool) → before.items + count_by (λ (n : Note). not (ends n)) (cond b [] (Next item ∷ [])) ≡ (cond b before (record { items = before.items + 1; ended = false })).items
    by true = omega arith
    by false = omega arith
one-more before (Some Completed) = by before.ended
  where
    by : (b : Bool) → before.items + count_by (λ (n : Note). not (ends n)) (cond b [] (Completed ∷ [])) ≡ (cond b before (record { items = before.items; ended = true })).items
    by true = omega arith
    by false = omega arith
one-more before (Some (Failed text)) = by before.ended
  where
    by : (b : Bool) → before.items + count_by (λ (n : Note). not (ends n)) (cond b [] (Failed text ∷ [])) ≡ (cond b before (record { items = before.items; ended = true })).items
    by true = omega arith
    by false = omega arith

pub items-emitted : (span : ℕ) (L : Log) → count_by (λ (note : Note). not (ends note)) (emissions span L) ≡ (total span L).items
items-emitted span (Behind n) = refl
items-emitted span (L ▹ entry) =
    let more = ap (λ (t : Total). t.items) (total-next span L entry) in
    sum_by-append _ (emissions span L) (unless_ended (total span L) (emitted span L entry))
    ∙ ap (λ (n : ℕ). n + count_by (λ (note : Note). not (ends note)) (unless_ended (total span L) (emitted span L entry))) (items-emitted span L)
    ∙ one-more (total span L) (emitted span L entry)
    ∙ sym more
