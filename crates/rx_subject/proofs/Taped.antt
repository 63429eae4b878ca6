-- What a subject keeps of the last items of a tape, by their stamps.
use Rattle.std.proofs.Common.{◌≡◌, ℕ, zero, suc, ◌+◌, ◌-◌, ◌≤◌, ◌≢◌, max, Bool, true, false, cond, List, [], ◌∷◌, ◌++◌, length, take, drop, Option, None, Some, is_some, refl, sym, ap, subst, ◌∙◌, arith, append_assoc, append-nil}
use Rattle.std.proofs.lemmas.List.{length-append, length-drop, take_all}
use Rattle.rx_note.specs.declared.item.Item.{Item}
use Rattle.rx_note.specs.declared.kind.Kind.{Kind}
use Rattle.rx_note.specs.declared.kind.Kind.TheVariants.{Publish, Behavior, Async, Replay}
use Rattle.rx_note.specs.declared.note.Note.{Note}
use Rattle.rx_note.specs.declared.note.Note.TheVariants.{Next, Completed, Failed}
use Rattle.rx_note.specs.declared.rules.Rules.{Rules}
use Rattle.rx_note.specs.declared.text.Text.{Text}
use Rattle.rx_history.specs.Histories.{NoEvents, Stamped, unstamped, is_young, at_most, or_else, seed_item, terminal_in, item_in, offers_by}
use Rattle.rx_tape.specs.Tapes.{TapeState, pushed, last_items}
use Rattle.rx_tape.proofs.Lasts.{none_back, lasts-more, fewer_last}
use Rattle.rx_subject.specs.Windows.{count_kept, age_kept, from_young}
use Rattle.rx_subject.specs.Subjects.{StandsFor, items_by, subject_at_first, window_with, after_item, after_end, after_join}
use Rattle.rx_subject.specs.TapeSubjects.{TapeSubjectState, tape_subject_at_first, subject_on, taped, paired, last_stamped, window_on, old_count, beyond, pushed_all}
use Rattle.rx_subject.proofs.Keeping.{from_young-none}
use Rattle.rx_subject.proofs.Standing.{stands_first}

-- ITEMS WITH THEIR STAMPS

paired-drop : (k : ℕ) (xs : List Item) (ss : List ℕ) → length xs ≡ length ss → drop k (paired xs ss) ≡ paired (drop k xs) (drop k ss)
paired-drop zero [] [] h = refl
paired-drop zero [] (s ∷ ss) h = absurd (omega (arith, h))
paired-drop zero (x ∷ xs) [] h = absurd (omega (arith, h))
paired-drop zero (x ∷ xs) (s ∷ ss) h = refl
paired-drop (suc k) [] [] h = refl
paired-drop (suc k) [] (s ∷ ss) h = absurd (omega (arith, h))
paired-drop (suc k) (x ∷ xs) [] h = absurd (omega (arith, h))
paired-drop (suc k) (x ∷ xs) (s ∷ ss) h = paired-drop k xs ss (omega (arith, h))

paired-more : (xs : List Item) (ss : List ℕ) (x : Item) (s : ℕ) → length xs ≡ length ss → paired (xs ++ x ∷ []) (ss ++ s ∷ []) ≡ paired xs ss ++ (x, s) ∷ []
paired-more [] [] x s h = refl
paired-more [] (t ∷ ss) x s h = absurd (omega (arith, h))
paired-more (y ∷ xs) [] x s h = absurd (omega (arith, h))
paired-more (y ∷ xs) (t ∷ ss) x s h = ap (λ rest. (y, t) ∷ rest) (paired-more xs ss x s (omega (arith, h)))

paired-length : (xs : List Item) (ss : List ℕ) → length xs ≡ length ss → length (paired xs ss) ≡ length ss
paired-length [] [] h = refl
paired-length [] (s ∷ ss) h = absurd (omega (arith, h))
paired-length (x ∷ xs) [] h = absurd (omega (arith, h))
paired-length (x ∷ xs) (s ∷ ss) h = ap suc (paired-length xs ss (omega (arith, h)))

unpaired : (xs : List Item) (ss : List ℕ) → length xs ≡ length ss → unstamped (paired xs ss) ≡ xs
unpaired [] [] h = refl
unpaired [] (s ∷ ss) h = absurd (omega (arith, h))
unpaired (x ∷ xs) [] h = absurd (omega (arith, h))
unpaired (x ∷ xs) (s ∷ ss) h = ap (λ rest. x ∷ rest) (unpaired xs ss (omega (arith, h)))

-- THE LAST ITEMS

lasts-length : (items : List Item) (n : ℕ) → n ≤ length items → length (last_items items n) ≡ n
lasts-length items n h = let left = length-drop (length items - n) items in omega (arith, left, h)

pub last_stamped-length : (items : List Item) (stamps : List ℕ) → length stamps ≤ length items → length (last_stamped items stamps) ≡ length stamps
last_stamped-length items stamps h = paired-length (last_items items (length stamps)) stamps (lasts-length items (length stamps) h)

-- without their stamps
pub last_unstamped : (items : List Item) (stamps : List ℕ) → length stamps ≤ length items → unstamped (last_stamped items stamps) ≡ last_items items (length stamps)
last_unstamped items stamps h = unpaired (last_items items (length stamps)) stamps (lasts-length items (length stamps) h)

-- without the first of them
pub last_stamped-drop : (k : ℕ) (items : List Item) (stamps : List ℕ) → k ≤ length stamps → length stamps ≤ length items → last_stamped items (drop k stamps) ≡ drop k (last_stamped items stamps)
last_stamped-drop k items stamps le h =
    ap (λ n. paired (last_items items n) (drop k stamps)) (length-drop k stamps)
    ∙ ap (λ xs. paired xs (drop k stamps)) (fewer_last items (length stamps) k le (λ some. h))
    ∙ sym (paired-drop k (last_items items (length stamps)) stamps (lasts-length items (length stamps) h))

-- with one more
pub last_stamped-more : (items : List Item) (stamps : List ℕ) (item : Item) (stamp : ℕ) → length stamps ≤ length items
    → last_stamped (items ++ item ∷ []) (stamps ++ stamp ∷ []) ≡ last_stamped items stamps ++ (item, stamp) ∷ []
last_stamped-more items stamps item stamp h =
    ap (λ n. paired (last_items (items ++ item ∷ []) n) (stamps ++ stamp ∷ [])) (length-append stamps (stamp ∷ []))
    ∙ ap (λ xs. paired xs (stamps ++ stamp ∷ [])) (lasts-more items item (length stamps) h)
    ∙ paired-more (last_items items (length stamps)) stamps item stamp (lasts-length items (length stamps) h)

-- OLD STAMPS

pub old_none : (now : ℕ) (stamps : List ℕ) → old_count None now stamps ≡ 0
old_none now [] = refl
old_none now (s ∷ ss) = refl

old_within_one : (b : Bool) (n m : ℕ) → n ≤ m → cond b 0 (suc n) ≤ suc m
old_within_one true n m h = omega arith
old_within_one false n m h = omega (arith, h)

pub old_within : (bound : Option ℕ) (now : ℕ) (stamps : List ℕ) → old_count bound now stamps ≤ length stamps
old_within bound now [] = omega arith
old_within bound now (s ∷ ss) = old_within_one (is_young bound (now - s)) (old_count bound now ss) (length ss) (old_within bound now ss)

from_one : (b : Bool) (n : ℕ) (y : Stamped) (ys young : List Stamped) → young ≡ drop n ys → cond b (y ∷ ys) young ≡ drop (cond b 0 (suc n)) (y ∷ ys)
from_one true n y ys young h = refl
from_one false n y ys young h = h

from_young-paired : (bound : Option ℕ) (now : ℕ) (xs : List Item) (ss : List ℕ) → length xs ≡ length ss → from_young bound now (paired xs ss) ≡ drop (old_count bound now ss) (paired xs ss)
from_young-paired bound now [] [] h = refl
from_young-paired bound now [] (s ∷ ss) h = absurd (omega (arith, h))
from_young-paired bound now (x ∷ xs) [] h = absurd (omega (arith, h))
from_young-paired bound now (x ∷ xs) (s ∷ ss) h =
    from_one (is_young bound (now - s)) (old_count bound now ss) (x, s) (paired xs ss) (from_young bound now (paired xs ss)) (from_young-paired bound now xs ss (omega (arith, h)))

-- the items without those at the front that are too old are the last ones with young stamps
pub last_aged : (bound : Option ℕ) (now : ℕ) (items : List Item) (stamps : List ℕ) → length stamps ≤ length items
    → last_stamped items (drop (old_count bound now stamps) stamps) ≡ from_young bound now (last_stamped items stamps)
last_aged bound now items stamps h =
    last_stamped-drop (old_count bound now stamps) items stamps (old_within bound now stamps) h
    ∙ sym (from_young-paired bound now (last_items items (length stamps)) stamps (lasts-length items (length stamps) h))

-- WHAT IS KEPT

-- later
pub window_aged : (kind : Kind) (items : List Item) (own : List Stamped) (stamps : List ℕ) (now : ℕ) → length stamps ≤ length items
    → window_on kind items own (drop (old_count (age_kept kind) now stamps) stamps) ≡ from_young (age_kept kind) now (window_on kind items own stamps)
window_aged Publish items own stamps now h = last_aged None now items stamps h
window_aged (Behavior seed) items own stamps now h = last_aged None now items stamps h
window_aged Async items own stamps now h = sym (from_young-none now own)
window_aged (Replay count age) items own stamps now h = last_aged age now items stamps h

at_most-beyond : (count : Option ℕ) (xs : List Stamped) → at_most count xs ≡ drop (beyond count (length xs)) xs
at_most-beyond None [] = refl
at_most-beyond None (x ∷ xs) = refl
at_most-beyond (Some n) xs = refl

beyond-within : (count : Option ℕ) (n : ℕ) → beyond count n ≤ n
beyond-within None n = omega arith
beyond-within (Some most) n = omega arith

last_kept : (count age : Option ℕ) (now : ℕ) (items : List Item) (item : Item) (stamps all : List ℕ) → length stamps ≤ length items
    → all ≡ drop (beyond count (length (stamps ++ now ∷ []))) (stamps ++ now ∷ [])
    → last_stamped (items ++ item ∷ []) (drop (old_count age now all) all) ≡ from_young age now (at_most count (last_stamped items stamps ++ (item, now) ∷ []))
last_kept count age now items item stamps all h all_is =
    let longer = length-append stamps (now ∷ []) in
    let long = length-append items (item ∷ []) in
    let most = beyond-within count (length (stamps ++ now ∷ [])) in
    let fits : length (stamps ++ now ∷ []) ≤ length (items ++ item ∷ []) = omega (arith, h, longer, long) in
    let left = ap length all_is ∙ length-drop (beyond count (length (stamps ++ now ∷ []))) (stamps ++ now ∷ []) in
    let same = last_stamped-length (items ++ item ∷ []) (stamps ++ now ∷ []) fits in
    last_aged age now (items ++ item ∷ []) all (omega (arith, left, fits))
    ∙ ap (λ ss. from_young age now (last_stamped (items ++ item ∷ []) ss)) all_is
    ∙ ap (from_young age now) (last_stamped-drop (beyond count (length (stamps ++ now ∷ []))) (items ++ item ∷ []) (stamps ++ now ∷ []) most fits)
    ∙ ap (λ n. from_young age now (drop (beyond count n) (last_stamped (items ++ item ∷ []) (stamps ++ now ∷ [])))) (sym same)
    ∙ ap (from_young age now) (sym (at_most-beyond count (last_stamped (items ++ item ∷ []) (stamps ++ now ∷ []))))
    ∙ ap (λ xs. from_young age now (at_most count xs)) (last_stamped-more items stamps item now h)

-- where no stamp is kept no item is
none_stamped : (items : List Item) (stamps : List ℕ) → length stamps ≡ 0 → last_stamped items stamps ≡ []
none_stamped items [] h = ap (λ xs. paired xs []) (none_back items)
none_stamped items (s ∷ ss) h = absurd (omega (arith, h))

-- with an item more
pub window_more : (kind : Kind) (now : ℕ) (items : List Item) (item : Item) (own : List Stamped) (stamps all left : List ℕ)
    → kind ≢ Async → length stamps ≤ length items → beyond (count_kept kind) (length stamps) ≡ 0
    → all ≡ drop (beyond (count_kept kind) (length (stamps ++ now ∷ []))) (stamps ++ now ∷ []) → left ≡ drop (old_count (age_kept kind) now all) all
    → window_on kind (items ++ item ∷ []) own left ≡ window_with kind (window_on kind items own stamps) item now
window_more Publish now items item own stamps all left other h few all_is left_is =
    let short = ap length all_is ∙ length-drop (length (stamps ++ now ∷ []) - 0) (stamps ++ now ∷ []) in
    let none = ap length left_is ∙ length-drop (old_count None now all) all in
    none_stamped (items ++ item ∷ []) left (omega (arith, short, none)) ∙ sym (none_stamped items stamps (omega (arith, few)))
window_more (Behavior seed) now items item own stamps all left other h few all_is left_is =
    ap (last_stamped (items ++ item ∷ [])) left_is
    ∙ last_kept (Some 1) None now items item stamps all h all_is
    ∙ from_young-none now (at_most (Some 1) (last_stamped items stamps ++ (item, now) ∷ []))
window_more Async now items item own stamps all left other h few all_is left_is = absurd (other refl)
window_more (Replay count age) now items item own stamps all left other h few all_is left_is =
    ap (last_stamped (items ++ item ∷ [])) left_is
    ∙ last_kept count age now items item stamps all h all_is

-- nothing at first
none_at_first : (kind : Kind) (items : List Item) → window_on kind items [] [] ≡ []
none_at_first Publish items = none_stamped items [] refl
none_at_first (Behavior seed) items = none_stamped items [] refl
none_at_first Async items = refl
none_at_first (Replay count age) items = none_stamped items [] refl

-- so that a new subject stands for no event
pub stands_at_first : (kind : Kind) (items : List Item) (rules : Rules) → rules.kind ≡ kind → StandsFor (subject_on items (tape_subject_at_first kind)) rules NoEvents
stands_at_first kind items rules is =
    subst (λ (w : List Stamped). StandsFor (record (subject_at_first kind) { window = w }) rules NoEvents) (sym (none_at_first kind items)) (stands_first kind rules is)

-- what the subject keeps is among the last items
window_kept : (kind : Kind) (items left : List Item) (own : List Stamped) (stamps : List ℕ) → last_items left (length stamps) ≡ last_items items (length stamps)
    → window_on kind left own stamps ≡ window_on kind items own stamps
window_kept Publish items left own stamps same = ap (λ xs. paired xs stamps) same
window_kept (Behavior seed) items left own stamps same = ap (λ xs. paired xs stamps) same
window_kept Async items left own stamps same = refl
window_kept (Replay count age) items left own stamps same = ap (λ xs. paired xs stamps) same

-- so that it is as it was where others have gone
pub subject_kept : (subject : TapeSubjectState) (items left : List Item) → last_items left (length subject.stamps) ≡ last_items items (length subject.stamps)
    → subject_on left subject ≡ subject_on items subject
subject_kept subject items left same =
    ap (λ (w : List Stamped). record (subject_on items subject) { window = w }) (window_kept subject.kind items left subject.own subject.stamps same)

-- WHAT STANDS ON THE TAPE

no_item_in : (port place : ℕ) (note : Note) → terminal_in note ≡ Some note → item_in port place note ≡ []
no_item_in port place (Next item) is = absurd cc
no_item_in port place Completed is = refl
no_item_in port place (Failed text) is = refl

-- an end puts nothing there
pub untaped : (kind : Kind) (port place : ℕ) (note : Note) → terminal_in note ≡ Some note → taped kind port place note ≡ []
untaped Publish port place note is = no_item_in port place note is
untaped (Behavior seed) port place note is = no_item_in port place note is
untaped Async port place note is = refl
untaped (Replay count age) port place note is = no_item_in port place note is

-- WHAT AN EVENT LEAVES

-- a Join before the end
pub joined_on : (t : TapeSubjectState) (items : List Item) (at clock : ℕ) (stamps : List ℕ) → length t.stamps ≤ length items → is_some t.terminal ≡ false
    → clock ≡ max t.clock at → stamps ≡ drop (old_count (age_kept t.kind) clock t.stamps) t.stamps
    → subject_on items (record t { clock = clock; stamps = stamps }) ≡ after_join (subject_on items t) at
joined_on t items at clock stamps h open_now clock_is stamps_is =
    let window = window_on t.kind items t.own t.stamps in
    let aged =
    ap (window_on t.kind items t.own) (stamps_is ∙ ap (λ n. drop (old_count (age_kept t.kind) n t.stamps) t.stamps) clock_is)
    ∙ window_aged t.kind items t.own t.stamps (max t.clock at) h
    ∙ ap (λ b. cond b window (from_young (age_kept t.kind) (max t.clock at) window)) (sym open_now) in
    ap (λ (n : ℕ). record (subject_on items t) { clock = n; window = window_on t.kind items t.own stamps }) clock_is
    ∙ ap (λ (w : List Stamped). record (subject_on items t) { clock = max t.clock at; window = w }) aged

-- the end
pub ended_on : (t : TapeSubjectState) (items : List Item) (note : Note) (at clock : ℕ) (stamps : List ℕ) → length t.stamps ≤ length items
    → clock ≡ max t.clock at → stamps ≡ drop (old_count (age_kept t.kind) clock t.stamps) t.stamps
    → subject_on items (record t { terminal = Some note; clock = clock; stamps = stamps }) ≡ after_end (subject_on items t) note at
ended_on t items note at clock stamps h clock_is stamps_is =
    let aged =
    ap (window_on t.kind items t.own) (stamps_is ∙ ap (λ n. drop (old_count (age_kept t.kind) n t.stamps) t.stamps) clock_is)
    ∙ window_aged t.kind items t.own t.stamps (max t.clock at) h in
    ap (λ (n : ℕ). record (subject_on items t) { terminal = Some note; clock = n; window = window_on t.kind items t.own stamps }) clock_is
    ∙ ap (λ (w : List Stamped). record (subject_on items t) { terminal = Some note; clock = max t.clock at; window = w }) aged

-- an item
pub item_on : (t : TapeSubjectState) (items : List Item) (item : Item) (at clock : ℕ) (all left : List ℕ) → t.kind ≢ Async → length t.stamps ≤ length items
    → beyond (count_kept t.kind) (length t.stamps) ≡ 0 → clock ≡ max t.clock at
    → all ≡ drop (beyond (count_kept t.kind) (length (t.stamps ++ clock ∷ []))) (t.stamps ++ clock ∷ []) → left ≡ drop (old_count (age_kept t.kind) clock all) all
    → subject_on (items ++ item ∷ []) (record t { clock = clock; count = t.count + 1; stamps = left }) ≡ after_item (subject_on items t) item at
item_on t items item at clock all left other h few clock_is all_is left_is =
    ap (λ (w : List Stamped). record (subject_on items t) { clock = clock; count = t.count + 1; window = w }) (window_more t.kind clock items item t.own t.stamps all left other h few all_is left_is)
    ∙ ap (λ (n : ℕ). record (subject_on items t) { clock = n; count = t.count + 1; window = window_with t.kind (window_on t.kind items t.own t.stamps) item n }) clock_is

-- WHAT A JOINER BEGINS WITH

or_else-some : (xs others : List Item) → length xs ≡ 1 → or_else xs others ≡ xs
or_else-some [] others h = absurd (omega (arith, h))
or_else-some (x ∷ xs) others h = refl

-- of Behavior the last item
pub last_opens : (kind : Kind) (terminal : Option Note) (seed : Option Text) (items : List Item) (own : List Stamped) (stamps : List ℕ) (now : ℕ) → kind ≡ Behavior seed → terminal ≡ None
    → length stamps ≤ length items → length stamps ≡ 1 → last_items items 1 ≡ items_by kind terminal (window_on kind items own stamps) now
last_opens kind terminal seed items own stamps now kind_is open_now h one =
    let xs = last_stamped items stamps in
    let same : unstamped (take 1 xs) ≡ last_items items 1 =
    ap unstamped (take_all 1 xs (omega (arith, last_stamped-length items stamps h, one))) ∙ last_unstamped items stamps h ∙ ap (last_items items) one in
    sym (or_else-some (unstamped (take 1 xs)) (seed_item seed) (ap length same ∙ lasts-length items 1 (omega (arith, h, one))) ∙ same)
    ∙ ap (λ k. items_by k None (window_on k items own stamps) now) (sym kind_is)
    ∙ ap (λ e. items_by kind e (window_on kind items own stamps) now) (sym open_now)

-- of Replay those that are young enough
pub young_opens : (kind : Kind) (terminal : Option Note) (count age : Option ℕ) (items : List Item) (own : List Stamped) (stamps : List ℕ) (now n old : ℕ) → kind ≡ Replay count age → terminal ≡ None
    → length stamps ≤ length items → n ≡ length stamps → old ≡ old_count age now stamps → last_items items (n - old) ≡ items_by kind terminal (window_on kind items own stamps) now
young_opens kind terminal count age items own stamps now n old kind_is open_now h n_is old_is =
    ap (λ m. last_items items (m - old)) n_is
    ∙ ap (λ m. last_items items (length stamps - m)) old_is
    ∙ ap (last_items items) (sym (length-drop (old_count age now stamps) stamps))
    ∙ sym (last_unstamped items (drop (old_count age now stamps) stamps) (omega (arith, h, length-drop (old_count age now stamps) stamps)))
    ∙ ap unstamped (last_aged age now items stamps h)
    ∙ ap (λ k. items_by k None (window_on k items own stamps) now) (sym kind_is)
    ∙ ap (λ e. items_by kind e (window_on kind items own stamps) now) (sym open_now)

-- and once it ended all that are kept
pub all_open : (kind : Kind) (terminal : Option Note) (end : Note) (count age : Option ℕ) (items : List Item) (own : List Stamped) (stamps : List ℕ) (now n : ℕ) → kind ≡ Replay count age → terminal ≡ Some end
    → length stamps ≤ length items → n ≡ length stamps → last_items items n ≡ items_by kind terminal (window_on kind items own stamps) now
all_open kind terminal end count age items own stamps now n kind_is ended h n_is =
    ap (last_items items) n_is
    ∙ sym (last_unstamped items stamps h)
    ∙ ap (λ k. items_by k (Some end) (window_on k items own stamps) now) (sym kind_is)
    ∙ ap (λ e. items_by kind e (window_on kind items own stamps) now) (sym ended)

-- WHAT IS OFFERED ON THE TAPE

-- an item stands on the tape where it is offered at once
pub taped-offered : (kind : Kind) (last : List Item) (port place : ℕ) (item : Item) → taped kind port place (Next item) ≡ offers_by kind last port place (Next item)
taped-offered Publish last port place item = refl
taped-offered (Behavior seed) last port place item = refl
taped-offered Async last port place item = refl
taped-offered (Replay count age) last port place item = refl

-- and it is the only one
pub taped-alone : (kind : Kind) (item : Item) → kind ≢ Async → taped kind item.from item.place (Next item) ≡ item ∷ []
taped-alone Publish item other = refl
taped-alone (Behavior seed) item other = refl
taped-alone Async item other = absurd (other refl)
taped-alone (Replay count age) item other = refl

-- what Publish passes leaves it as it was, but for its clock and its count
pub passed_on : (t : TapeSubjectState) (items : List Item) (item : Item) (at : ℕ) → t.kind ≡ Publish
    → after_item (subject_on items t) item at ≡ subject_on items (record t { clock = max t.clock at; count = t.count + 1 })
passed_on t items item at publishes =
    ap (λ (w : List Stamped). record (subject_on items t) { clock = max t.clock at; count = t.count + 1; window = w })
    (ap (λ (k : Kind). window_with k (window_on t.kind items t.own t.stamps) item (max t.clock at)) publishes)

-- what an end offers is what the subject keeps itself
pub ended-offers : (kind : Kind) (items : List Item) (own : List Stamped) (stamps : List ℕ) (port place : ℕ) (note : Note)
    → offers_by kind (unstamped (take 1 (window_on kind items own stamps))) port place note ≡ offers_by kind (unstamped (take 1 own)) port place note
ended-offers Publish items own stamps port place note = refl
ended-offers (Behavior seed) items own stamps port place note = refl
ended-offers Async items own stamps port place note = refl
ended-offers (Replay count age) items own stamps port place note = refl

-- what an end puts on the tape is no item that the subject keeps there
pub window_ended : (kind : Kind) (items last : List Item) (own : List Stamped) (stamps : List ℕ) (port place : ℕ) (note : Note) → terminal_in note ≡ Some note
    → window_on kind (items ++ offers_by kind last port place note) own stamps ≡ window_on kind items own stamps
window_ended Publish items last own stamps port place note is = ap (λ more. last_stamped (items ++ more) stamps) (no_item_in port place note is) ∙ ap (λ xs. last_stamped xs stamps) (append-nil items)
window_ended (Behavior seed) items last own stamps port place note is = ap (λ more. last_stamped (items ++ more) stamps) (no_item_in port place note is) ∙ ap (λ xs. last_stamped xs stamps) (append-nil items)
window_ended Async items last own stamps port place note is = refl
window_ended (Replay count age) items last own stamps port place note is = ap (λ more. last_stamped (items ++ more) stamps) (no_item_in port place note is) ∙ ap (λ xs. last_stamped xs stamps) (append-nil items)

-- the items of a tape with several more
pub pushed_items : (tape : TapeState) (more : List Item) → (pushed_all tape more).items ≡ tape.items ++ more
pushed_items tape [] = sym (append-nil tape.items)
pushed_items tape (item ∷ more) = pushed_items (pushed tape item) more ∙ append_assoc tape.items (item ∷ []) more
