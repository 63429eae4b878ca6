-- The sinks of a log took the notes that they were to be served.
use Rattle.std.proofs.Common.{◌≡◌, ◌∙◌, sym, refl, ap, subst, ℕ, ◌+◌, ◌<◌, ◌==◌, ◌&&◌, ◌⊎◌, inl, inr, if◌then◌else◌, Bool, true, false, not, List, [], ◌∷◌, ◌++◌, append_assoc, append-nil, length, length-append, map, drop, Option, Some, None, slice_get, arith}
use Rattle.std.proofs.lemmas.List.{map-append, drop_all, drop-append-le}
use Rattle.std.specs.List.{AllByRecursion}
use Rattle.rx_mailbox.specs.declared.letter.Letter.{Letter}
use Rattle.rx_mailbox.specs.declared.letter.Post.{Post}
use Rattle.rx_mailbox.specs.declared.letter.Post.TheVariants.{Body, Bye}
use Rattle.rx_mailbox.specs.Letters.{letter}
use Rattle.rx_note.specs.declared.note.Note.{Note}
use Rattle.rx_pump.specs.declared.out.Out.{Out}
use Rattle.rx_pump.specs.declared.out.Out.TheVariants.{Attach, Give, Detach}
use Rattle.rx_pump.proofs.Placing.{slice_get-append_left, slice_get-append_right}
use Rattle.rx_sink.specs.declared.flow.Flow.{Flow}
use Rattle.rx_sink.specs.Attachments.{Attachment, Why, TookLast, Detached, Closed, FailedAtStart, FailedAt, FailedAtFlush, Mark, Fine, Fault, NoMemory, Change, Ruling, AsItWas, HoldsBack, PaysAll, LetsGo, PutsAway, Apart, is_clear, is_last, is_of, kept_for, of_others, replaced, with_note, with_flush, paid, by_answer, by_note, has_taken, by_flush, by_leaving, carried_out, ruled, attached, closed, brought}
use Rattle.rx_drain.specs.Logs.{Log, NoLetters, Next, Flush, letters, has_left, letter_change, kept_in, change, flush_change, gone_in}
use Rattle.rx_drain.proofs.Changing.{post_change}
use Rattle.rx_drain.proofs.Rulings.{answer_does, note_does, flush_does, leaving_does, all_but, all_with}
use Rattle.rx_drain.specs.Served.{Bearing, Bears, Stops, Passes, from_leave, from_subject, bearing, notes_in, TookOf, bearings, served, AttachCame, SinksTook}
use Rattle.rx_sink.proofs.Apartness.{apart_but, apart_push, apart_with, both_true, key_is, none_replaced, none_split, none_of_others}
use Rattle.rx_drain.proofs.Ending.{kept_none}

-- ONE BEARING MORE

-- serving goes on after these
abbrev opens : Bearing → Bool → Bool
opens (Bears note) later = if is_last note then false else later
opens Stops later = false
opens Passes later = later

abbrev is_open : List Bearing → Bool
is_open [] = true
is_open (b ∷ bs) = opens b (is_open bs)

bears_notes : (l : Bool) (note : Note) (later longer tail : List Note) (open_yet : Bool) → longer ≡ later ++ (if open_yet then tail else [])
    → note ∷ (if l then [] else longer) ≡ (note ∷ (if l then [] else later)) ++ (if (if l then false else open_yet) then tail else [])
bears_notes true note later longer tail open_yet is = refl
bears_notes false note later longer tail open_yet is = ap (λ notes. note ∷ notes) is

notes_more : (bs : List Bearing) (b : Bearing) → notes_in (bs ++ b ∷ []) ≡ notes_in bs ++ (if is_open bs then notes_in (b ∷ []) else [])
notes_more [] b = refl
notes_more (Bears note ∷ bs) b = bears_notes (is_last note) note (notes_in bs) (notes_in (bs ++ b ∷ [])) (notes_in (b ∷ [])) (is_open bs) (notes_more bs b)
notes_more (Stops ∷ bs) b = refl
notes_more (Passes ∷ bs) b = notes_more bs b

bears_open : (l open_yet longer one : Bool) → longer ≡ (if open_yet then one else false) → (if l then false else longer) ≡ (if (if l then false else open_yet) then one else false)
bears_open true open_yet longer one is = refl
bears_open false open_yet longer one is = is

open_more : (bs : List Bearing) (b : Bearing) → is_open (bs ++ b ∷ []) ≡ (if is_open bs then is_open (b ∷ []) else false)
open_more [] b = refl
open_more (Bears note ∷ bs) b = bears_open (is_last note) (is_open bs) (is_open (bs ++ b ∷ [])) (is_open (b ∷ [])) (open_more bs b)
open_more (Stops ∷ bs) b = refl
open_more (Passes ∷ bs) b = open_more bs b

-- ONE LETTER MORE FOR ONE ATTACHMENT

-- a sink that was put away without a fault is served no more
abbrev IsShut : Why → Bool → Type 0
IsShut TookLast open_yet = open_yet ≡ false
IsShut Detached open_yet = open_yet ≡ false
IsShut Closed open_yet = open_yet ≡ false
IsShut FailedAtStart open_yet = Unit {0}
IsShut (FailedAt note) open_yet = Unit {0}
IsShut FailedAtFlush open_yet = Unit {0}

-- one that has ended stays so
took_stays : (why : Why) (taken all more : List Note) (open_yet : Bool) → IsShut why open_yet → TookOf why taken all → TookOf why taken (all ++ (if open_yet then more else []))
took_stays TookLast taken all more open_yet shut took = took ∙ sym (append-nil all) ∙ ap (λ (t : Bool). all ++ (if t then more else [])) (sym shut)
took_stays Detached taken all more open_yet shut took = took ∙ sym (append-nil all) ∙ ap (λ (t : Bool). all ++ (if t then more else [])) (sym shut)
took_stays Closed taken all more open_yet shut took = took ∙ sym (append-nil all) ∙ ap (λ (t : Bool). all ++ (if t then more else [])) (sym shut)
took_stays FailedAtStart taken all more open_yet shut took = took
took_stays (FailedAt note) taken all more open_yet shut took = (
  took.0 ++ (if open_yet then more else []),
  sym (append_assoc taken (note ∷ took.0) (if open_yet then more else [])) ∙ ap (λ (l : List Note). l ++ (if open_yet then more else [])) took.1,
)
took_stays FailedAtFlush taken all more open_yet shut took = (
  took.0 ++ (if open_yet then more else []),
  sym (append_assoc taken took.0 (if open_yet then more else [])) ∙ ap (λ (l : List Note). l ++ (if open_yet then more else [])) took.1,
)

shut_more : (why : Why) (open_yet one : Bool) → IsShut why open_yet → IsShut why (if open_yet then one else false)
shut_more TookLast open_yet one shut = ap (λ (t : Bool). if t then one else false) shut
shut_more Detached open_yet one shut = ap (λ (t : Bool). if t then one else false) shut
shut_more Closed open_yet one shut = ap (λ (t : Bool). if t then one else false) shut
shut_more FailedAtStart open_yet one shut = tt
shut_more (FailedAt note) open_yet one shut = tt
shut_more FailedAtFlush open_yet one shut = tt

none_either : (b : Bool) → ◌≡◌ {A = List Note} (if b then [] else []) []
none_either true = refl
none_either false = refl

no_either : (b : Bool) → (if b then false else false) ≡ false
no_either true = refl
no_either false = refl

turned : (b : Bool) → (if b then false else true) ≡ not b
turned true = refl
turned false = refl

so_either : (b : Bool) → (if b then true else false) ≡ b
so_either true = refl
so_either false = refl

module _ {S : Type 0} (leave : ℕ) where
  -- an attachment whose sink is kept
  record Open (xs : List (Letter (Out S))) (a : Attachment S) : Type 0 where
    pub at : AttachCame xs a
    pub within : a.place < length xs
    pub taken : a.taken ≡ served leave a xs
    pub still : is_open (bearings leave a xs) ≡ not a.over

  -- one that has ended
  record Shut (xs : List (Letter (Out S))) (end : Attachment S × Why) : Type 0 where
    pub at : AttachCame xs end.0
    pub within : end.0.place < length xs
    pub took : TookOf end.1 end.0.taken (served leave end.0 xs)
    pub shut : IsShut end.1 (is_open (bearings leave end.0 xs))

  bearings_more : (xs : List (Letter (Out S))) (x : Letter (Out S)) (a : Attachment S) → a.place < length xs
      → bearings leave a (xs ++ x ∷ []) ≡ bearings leave a xs ++ bearing leave a x ∷ []
  bearings_more xs x a within =
      ap (map (bearing leave a)) (drop-append-le (a.place + 1) xs (x ∷ []) (omega arith)) ∙ map-append (bearing leave a) (drop (a.place + 1) xs) (x ∷ [])

  served_next : (xs : List (Letter (Out S))) (x : Letter (Out S)) (a : Attachment S) → a.place < length xs
      → served leave a (xs ++ x ∷ []) ≡ served leave a xs ++ (if is_open (bearings leave a xs) then notes_in (bearing leave a x ∷ []) else [])
  served_next xs x a within = ap notes_in (bearings_more xs x a within) ∙ notes_more (bearings leave a xs) (bearing leave a x)

  open_next : (xs : List (Letter (Out S))) (x : Letter (Out S)) (a : Attachment S) → a.place < length xs
      → is_open (bearings leave a (xs ++ x ∷ [])) ≡ (if is_open (bearings leave a xs) then is_open (bearing leave a x ∷ []) else false)
  open_next xs x a within = ap is_open (bearings_more xs x a within) ∙ open_more (bearings leave a xs) (bearing leave a x)

  longer : (xs : List (Letter (Out S))) (x : Letter (Out S)) (n : ℕ) → n < length xs → n < length (xs ++ x ∷ [])
  longer xs x n within = omega (arith, length-append xs (x ∷ []))

  -- what an open attachment is served by a letter that is this to it
  served_by : (xs : List (Letter (Out S))) (x : Letter (Out S)) (a : Attachment S) (b : Bearing) → Open xs a → a.over ≡ false → bearing leave a x ≡ b
      → served leave a (xs ++ x ∷ []) ≡ served leave a xs ++ notes_in (b ∷ [])
  served_by xs x a b o yet is =
      served_next xs x a o.within ∙ ap (λ t. served leave a xs ++ (if t then notes_in (bearing leave a x ∷ []) else [])) (o.still ∙ ap not yet)
      ∙ ap (λ t. served leave a xs ++ notes_in (t ∷ [])) is

  open_by : (xs : List (Letter (Out S))) (x : Letter (Out S)) (a : Attachment S) (b : Bearing) → Open xs a → a.over ≡ false → bearing leave a x ≡ b
      → is_open (bearings leave a (xs ++ x ∷ [])) ≡ is_open (b ∷ [])
  open_by xs x a b o yet is =
      open_next xs x a o.within ∙ ap (λ t. if t then is_open (bearing leave a x ∷ []) else false) (o.still ∙ ap not yet) ∙ ap (λ t. is_open (t ∷ [])) is

  -- one that took a terminal is served nothing, whatever comes
  served_over : (xs : List (Letter (Out S))) (x : Letter (Out S)) (a : Attachment S) → Open xs a → a.over ≡ true → served leave a (xs ++ x ∷ []) ≡ served leave a xs
  served_over xs x a o over =
      served_next xs x a o.within ∙ ap (λ t. served leave a xs ++ (if t then notes_in (bearing leave a x ∷ []) else [])) (o.still ∙ ap not over) ∙ append-nil (served leave a xs)

  shut_over : (xs : List (Letter (Out S))) (x : Letter (Out S)) (a : Attachment S) → Open xs a → a.over ≡ true → is_open (bearings leave a (xs ++ x ∷ [])) ≡ false
  shut_over xs x a o over = open_next xs x a o.within ∙ ap (λ t. if t then is_open (bearing leave a x ∷ []) else false) (o.still ∙ ap not over)

  open_over : (xs : List (Letter (Out S))) (x : Letter (Out S)) (a : Attachment S) → Open xs a → a.over ≡ true → Open (xs ++ x ∷ []) a
  open_over xs x a o over = record {
    at = slice_get-append_left xs (x ∷ []) a.place _ o.at;
    within = longer xs x a.place o.within;
    taken = o.taken ∙ sym (served_over xs x a o over);
    still = shut_over xs x a o over ∙ sym (ap not over);
  }

  open_pass : (xs : List (Letter (Out S))) (x : Letter (Out S)) (a : Attachment S) → Open xs a → bearing leave a x ≡ Passes → Open (xs ++ x ∷ []) a
  open_pass xs x a o is = record {
    at = slice_get-append_left xs (x ∷ []) a.place _ o.at;
    within = longer xs x a.place o.within;
    taken = o.taken ∙ sym (served_next xs x a o.within ∙ ap (λ t. served leave a xs ++ (if is_open (bearings leave a xs) then notes_in (t ∷ []) else [])) is
        ∙ ap (λ (l : List Note). served leave a xs ++ l) (none_either (is_open (bearings leave a xs))) ∙ append-nil (served leave a xs));
    still = open_next xs x a o.within ∙ ap (λ t. if is_open (bearings leave a xs) then is_open (t ∷ []) else false) is ∙ so_either (is_open (bearings leave a xs)) ∙ o.still;
  }

  -- nothing is due of it any more
  open_paid : (xs : List (Letter (Out S))) (a : Attachment S) → Open xs a → Open xs (paid a)
  open_paid xs a o = record { at = o.at; within = o.within; taken = o.taken; still = o.still }

  -- it took a note more
  open_note : (xs : List (Letter (Out S))) (x : Letter (Out S)) (a : Attachment S) (note : Note) (flow : Flow) → Open xs a → a.over ≡ false → bearing leave a x ≡ Bears note
      → Open (xs ++ x ∷ []) (with_note note flow a)
  open_note xs x a note flow o yet is = record {
    at = slice_get-append_left xs (x ∷ []) a.place _ o.at;
    within = longer xs x a.place o.within;
    taken = ap (λ (l : List Note). l ++ note ∷ []) o.taken ∙ sym (served_by xs x a (Bears note) o yet is ∙ ap (λ (l : List Note). served leave a xs ++ note ∷ l) (none_either (is_last note)));
    still = open_by xs x a (Bears note) o yet is ∙ turned (is_last note);
  }

  -- it was flushed
  open_flush : (xs : List (Letter (Out S))) (a : Attachment S) (flow : Flow) → Open xs a → Open xs (with_flush flow a)
  open_flush xs a flow o = record { at = o.at; within = o.within; taken = o.taken; still = o.still }

  shut_fault : (xs : List (Letter (Out S))) (x : Letter (Out S)) (a : Attachment S) (note : Note) → Open xs a → a.over ≡ false → bearing leave a x ≡ Bears note → Shut (xs ++ x ∷ []) (paid a, FailedAt note)
  shut_fault xs x a note o yet is = record {
    at = slice_get-append_left xs (x ∷ []) a.place _ o.at;
    within = longer xs x a.place o.within;
    took = (
      if is_last note then [] else [],
      ap (λ (l : List Note). l ++ note ∷ (if is_last note then [] else [])) o.taken ∙ sym (served_by xs x a (Bears note) o yet is),
    );
    shut = tt;
  }

  shut_detached : (xs : List (Letter (Out S))) (x : Letter (Out S)) (a : Attachment S) → Open xs a → a.over ≡ false → bearing leave a x ≡ Stops → Shut (xs ++ x ∷ []) (paid a, Detached)
  shut_detached xs x a o yet is = record {
    at = slice_get-append_left xs (x ∷ []) a.place _ o.at;
    within = longer xs x a.place o.within;
    took = o.taken ∙ sym (served_by xs x a Stops o yet is ∙ append-nil (served leave a xs));
    shut = open_by xs x a Stops o yet is;
  }

  shut_closed : (xs : List (Letter (Out S))) (x : Letter (Out S)) (a : Attachment S) → Open xs a → bearing leave a x ≡ Stops → Shut (xs ++ x ∷ []) (paid a, Closed)
  shut_closed xs x a o is = record {
    at = slice_get-append_left xs (x ∷ []) a.place _ o.at;
    within = longer xs x a.place o.within;
    took = o.taken ∙ sym (served_next xs x a o.within ∙ ap (λ t. served leave a xs ++ (if is_open (bearings leave a xs) then notes_in (t ∷ []) else [])) is
        ∙ ap (λ (l : List Note). served leave a xs ++ l) (none_either (is_open (bearings leave a xs))) ∙ append-nil (served leave a xs));
    shut = open_next xs x a o.within ∙ ap (λ t. if is_open (bearings leave a xs) then is_open (t ∷ []) else false) is ∙ no_either (is_open (bearings leave a xs));
  }

  -- one that took a terminal is put away with no letter
  shut_last : (xs : List (Letter (Out S))) (a : Attachment S) → Open xs a → a.over ≡ true → Shut xs (paid a, TookLast)
  shut_last xs a o over = record { at = o.at; within = o.within; took = o.taken; shut = o.still ∙ ap not over }

  -- a fault of a flush
  shut_flush : (xs : List (Letter (Out S))) (a : Attachment S) → Open xs a → Shut xs (paid a, FailedAtFlush)
  shut_flush xs a o = record { at = o.at; within = o.within; took = ([], append-nil a.taken ∙ o.taken); shut = tt }

  shut_stays : (xs : List (Letter (Out S))) (x : Letter (Out S)) (end : Attachment S × Why) → Shut xs end → Shut (xs ++ x ∷ []) end
  shut_stays xs x end s = record {
    at = slice_get-append_left xs (x ∷ []) end.0.place _ s.at;
    within = longer xs x end.0.place s.within;
    took = subst (TookOf end.1 end.0.taken) (sym (served_next xs x end.0 s.within))
        (took_stays end.1 end.0.taken (served leave end.0 xs) (notes_in (bearing leave end.0 x ∷ [])) (is_open (bearings leave end.0 xs)) s.shut s.took);
    shut = subst (IsShut end.1) (sym (open_next xs x end.0 s.within)) (shut_more end.1 (is_open (bearings leave end.0 xs)) (is_open (bearing leave end.0 x ∷ [])) s.shut);
  }

  -- a new one
  new_bearings : (xs : List (Letter (Out S))) (x : Letter (Out S)) (a : Attachment S) → a.place ≡ length xs → bearings leave a (xs ++ x ∷ []) ≡ []
  new_bearings xs x a is =
      ap (map (bearing leave a)) (drop_all (a.place + 1) (xs ++ x ∷ []) (omega (arith, is, length-append xs (x ∷ []))))

  new_at : (xs : List (Letter (Out S))) (from who : ℕ) (sink : S)
      → AttachCame (xs ++ letter from (Body (Attach who sink)) ∷ []) (brought (length xs) from who sink)
  new_at xs from who sink =
      ap (slice_get (xs ++ letter from (Body (Attach who sink)) ∷ [])) (let e : length xs ≡ length xs + 0 = omega arith in e)
      ∙ slice_get-append_right xs (letter from (Body (Attach who sink)) ∷ []) 0

  open_new : (xs : List (Letter (Out S))) (from who : ℕ) (sink : S)
      → Open (xs ++ letter from (Body (Attach who sink)) ∷ []) (brought (length xs) from who sink)
  open_new xs from who sink =
      let x = letter from (Body (Attach who sink)) in
      let none = new_bearings xs x (brought (length xs) from who sink) refl in
      record {
        at = new_at xs from who sink;
        within = omega (arith, length-append xs (x ∷ []));
        taken = sym (ap notes_in none);
        still = ap is_open none;
      }

  shut_new : (xs : List (Letter (Out S))) (from who : ℕ) (sink : S)
      → Shut (xs ++ letter from (Body (Attach who sink)) ∷ []) (brought (length xs) from who sink, FailedAtStart)
  shut_new xs from who sink =
      let x = letter from (Body (Attach who sink)) in
      record { at = new_at xs from who sink; within = omega (arith, length-append xs (x ∷ [])); took = refl; shut = tt }

  -- ONE LETTER MORE FOR SEVERAL

  abbrev AllOpen : List (Letter (Out S)) → List (Attachment S) → Type 0
  AllOpen xs kept = AllByRecursion (Open xs) kept

  abbrev AllShut : List (Letter (Out S)) → List (Attachment S × Why) → Type 0
  AllShut xs gone = AllByRecursion (Shut xs) gone

  all_stay : (xs : List (Letter (Out S))) (x : Letter (Out S)) (gone : List (Attachment S × Why)) → AllShut xs gone → AllShut (xs ++ x ∷ []) gone
  all_stay xs x [] all = tt
  all_stay xs x (end ∷ gone) all = (shut_stays xs x end all.0, all_stay xs x gone all.1)

  all_pass : (xs : List (Letter (Out S))) (x : Letter (Out S)) (kept : List (Attachment S)) → ((a : Attachment S) → bearing leave a x ≡ Passes) → AllOpen xs kept → AllOpen (xs ++ x ∷ []) kept
  all_pass xs x [] passes all = tt
  all_pass xs x (a ∷ kept) passes all = (open_pass xs x a all.0 (passes a), all_pass xs x kept passes all.1)

  all_closed : (xs : List (Letter (Out S))) (x : Letter (Out S)) (kept : List (Attachment S)) → ((a : Attachment S) → bearing leave a x ≡ Stops) → AllOpen xs kept → AllShut (xs ++ x ∷ []) (closed kept)
  all_closed xs x [] stops all = tt
  all_closed xs x (a ∷ kept) stops all = (shut_closed xs x a all.0 (stops a), all_closed xs x kept stops all.1)

pub all_append : {X : Type 0} (P : X → Type 0) (xs ys : List X) → AllByRecursion P xs → AllByRecursion P ys → AllByRecursion P (xs ++ ys)
all_append P [] ys first second = second
all_append P (x ∷ xs) ys first second = (first.0, all_append P xs ys first.1 second)

-- ONE ATTACHMENT OF AN OBSERVER

pub some_split : {X : Type 0} (b : Bool) (x y : X) (o : Option X) → (if b then Some x else o) ≡ Some y → ((b ≡ true) × (x ≡ y)) ⊎ ((b ≡ false) × (o ≡ Some y))
some_split true x y o is = inl (refl, cc)
some_split false x y o is = inr (refl, is)

module _ {S : Type 0} (leave s w : ℕ) (xs : List (Letter (Out S))) (x : Letter (Out S)) where
  -- the letter passes all others by
  abbrev PassesOthers : Type 0
  PassesOthers = (a : Attachment S) → is_of s w a ≡ false → bearing leave a x ≡ Passes

  none_pass : (kept : List (Attachment S)) → PassesOthers → kept_for s w kept ≡ None → AllOpen leave xs kept → AllOpen leave (xs ++ x ∷ []) kept
  none_pass [] others none all = tt
  none_pass (a ∷ kept) others none all =
      let parts = none_split (is_of s w a) a (kept_for s w kept) none in
      (open_pass leave xs x a all.0 (others a parts.0), none_pass kept others parts.1 all.1)

  -- the attachment of the observer, and the others after the letter
  record FoundIn (kept : List (Attachment S)) (a : Attachment S) : Type 0 where
    pub is_open_yet : Open leave xs a
    pub key : is_of s w a ≡ true
    pub rest : AllOpen leave (xs ++ x ∷ []) (of_others s w kept)
    pub with_same : Open leave (xs ++ x ∷ []) a → AllOpen leave (xs ++ x ∷ []) kept
    pub with_other : (b : Attachment S) → Open leave (xs ++ x ∷ []) b → AllOpen leave (xs ++ x ∷ []) (replaced s w b kept)
    pub apart_rest : Apart (of_others s w kept)
    pub apart_other : (b : Attachment S) → b.subject ≡ s → b.who ≡ w → Apart (replaced s w b kept)

  found_here : (c a : Attachment S) (kept : List (Attachment S)) → PassesOthers → is_of s w c ≡ true → c ≡ a → Apart (c ∷ kept) → AllOpen leave xs (c ∷ kept) → FoundIn (c ∷ kept) a
  found_here c a kept others test same apart all =
      let key = key_is s w c test in
      let none : kept_for s w kept ≡ None = subst (λ (n : ℕ). kept_for n w kept ≡ None) key.0 (subst (λ (n : ℕ). kept_for c.subject n kept ≡ None) key.1 apart.0) in
      let passed = none_pass kept others none all.1 in
      record {
        is_open_yet = subst (λ (d : Attachment S). Open leave xs d) same all.0;
        key = subst (λ (d : Attachment S). is_of s w d ≡ true) same test;
        rest = subst (λ (t : Bool). AllOpen leave (xs ++ x ∷ []) (if t then kept else c ∷ of_others s w kept)) (sym test) passed;
        with_same = λ o. (subst (λ (d : Attachment S). Open leave (xs ++ x ∷ []) d) (sym same) o, passed);
        with_other = λ b o. subst (λ (t : Bool). AllOpen leave (xs ++ x ∷ []) (if t then b ∷ kept else c ∷ replaced s w b kept)) (sym test) (o, passed);
        apart_rest = subst (λ (t : Bool). Apart (if t then kept else c ∷ of_others s w kept)) (sym test) apart.1;
        apart_other = λ b subject who. subst (λ (t : Bool). Apart (if t then b ∷ kept else c ∷ replaced s w b kept)) (sym test) (
          subst (λ (n : ℕ). kept_for n b.who kept ≡ None) (sym subject) (subst (λ (n : ℕ). kept_for s n kept ≡ None) (sym who) none),
          apart.1,
        );
      }

  found_later : (c a : Attachment S) (kept : List (Attachment S)) → PassesOthers → is_of s w c ≡ false → Apart (c ∷ kept) → AllOpen leave xs (c ∷ kept) → FoundIn kept a → FoundIn (c ∷ kept) a
  found_later c a kept others test apart all f =
      let passed = open_pass leave xs x c all.0 (others c test) in
      record {
        is_open_yet = f.is_open_yet;
        key = f.key;
        rest = subst (λ (t : Bool). AllOpen leave (xs ++ x ∷ []) (if t then kept else c ∷ of_others s w kept)) (sym test) (passed, f.rest);
        with_same = λ o. (passed, f.with_same o);
        with_other = λ b o. subst (λ (t : Bool). AllOpen leave (xs ++ x ∷ []) (if t then b ∷ kept else c ∷ replaced s w b kept)) (sym test) (passed, f.with_other b o);
        apart_rest = subst (λ (t : Bool). Apart (if t then kept else c ∷ of_others s w kept)) (sym test) (none_of_others c.subject c.who s w kept apart.0, f.apart_rest);
        apart_other = λ b subject who. subst (λ (t : Bool). Apart (if t then b ∷ kept else c ∷ replaced s w b kept)) (sym test) (
          none_replaced c.subject c.who s w b kept subject who apart.0,
          f.apart_other b subject who,
        );
      }

  found_step : (c a : Attachment S) (kept : List (Attachment S)) → PassesOthers → kept_for s w (c ∷ kept) ≡ Some a → Apart (c ∷ kept) → AllOpen leave xs (c ∷ kept)
      → (kept_for s w kept ≡ Some a → FoundIn kept a) → FoundIn (c ∷ kept) a
  found_step c a kept others is apart all next =
      elim (some_split (is_of s w c) c a (kept_for s w kept) is) [
        | inl here ↦ found_here c a kept others here.0 here.1 apart all
        | inr later ↦ found_later c a kept others later.0 apart all (next later.1)
      ]

  found_in : (kept : List (Attachment S)) (a : Attachment S) → PassesOthers → kept_for s w kept ≡ Some a → Apart kept → AllOpen leave xs kept → FoundIn kept a
  found_in [] a others is apart all = cc
  found_in (c ∷ kept) a others is apart all = found_step c a kept others is apart all (λ later. found_in kept a others later apart.1 all.1)

-- WHAT A LETTER IS

-- what a post is to the sink of an observer, where it is of the leave port or not, and of the observer's subject or not
abbrev post_bearing : {S : Type 0} → Bool → Bool → ℕ → Post (Out S) → Bearing
post_bearing leaves ours who post = if leaves then from_leave post else (if ours then from_subject who post else Passes)

passes_give : (S : Type 0) (b ours : Bool) (who w : ℕ) (note : Note) → b ≡ false → (ours && (who == w)) ≡ false → post_bearing {S = S} b ours who (Body (Give w note)) ≡ Passes
passes_give S true ours who w note other test = cc
passes_give S false false who w note other test = refl
passes_give S false true who w note other test = ap (λ t. if t then Bears note else Passes) test

bears_give : (S : Type 0) (b ours : Bool) (who w : ℕ) (note : Note) → b ≡ false → (ours && (who == w)) ≡ true → post_bearing {S = S} b ours who (Body (Give w note)) ≡ Bears note
bears_give S true ours who w note other test = cc
bears_give S false false who w note other test = cc
bears_give S false true who w note other test = ap (λ t. if t then Bears note else Passes) test

passes_detach : (S : Type 0) (b ours : Bool) (who w : ℕ) → b ≡ false → (ours && (who == w)) ≡ false → post_bearing {S = S} b ours who (Body (Detach w)) ≡ Passes
passes_detach S true ours who w other test = cc
passes_detach S false false who w other test = refl
passes_detach S false true who w other test = ap (λ t. if t then Stops else Passes) test

stops_detach : (S : Type 0) (b ours : Bool) (who w : ℕ) → b ≡ false → (ours && (who == w)) ≡ true → post_bearing {S = S} b ours who (Body (Detach w)) ≡ Stops
stops_detach S true ours who w other test = cc
stops_detach S false false who w other test = cc
stops_detach S false true who w other test = ap (λ t. if t then Stops else Passes) test

passes_attach : (S : Type 0) (b ours : Bool) (who w : ℕ) (sink : S) → b ≡ false → post_bearing b ours who (Body (Attach w sink)) ≡ Passes
passes_attach S true ours who w sink other = cc
passes_attach S false true who w sink other = refl
passes_attach S false false who w sink other = refl

passes_bye : (S : Type 0) (b ours : Bool) (who : ℕ) → b ≡ false → post_bearing {S = S} b ours who Bye ≡ Passes
passes_bye S true ours who other = cc
passes_bye S false true who other = refl
passes_bye S false false who other = refl

-- WHAT IS DONE ABOUT AN ATTACHMENT

module _ {S : Type 0} (leave : ℕ) (xs : List (Letter (Out S))) (s w : ℕ) where
  -- an open attachment of the observer
  record OpenFor (b : Attachment S) : Type 0 where
    pub subject : b.subject ≡ s
    pub who : b.who ≡ w
    pub is_open_yet : Open leave xs b

  paid_for : (b : Attachment S) → OpenFor b → OpenFor (paid b)
  paid_for b o = record { subject = o.subject; who = o.who; is_open_yet = open_paid leave xs b o.is_open_yet }

  -- the ruling leaves the attachment as the letters say
  abbrev Fits : Attachment S → Ruling S → Type 0
  Fits a AsItWas = Open leave xs a
  Fits a (HoldsBack b) = OpenFor b
  Fits a (PaysAll b) = OpenFor (paid b)
  Fits a (LetsGo b) = Shut leave xs (paid b, Detached)
  Fits a (PutsAway b why) = Shut leave xs (paid b, why)

  fits_answer : (flow : Flow) (a b : Attachment S) → OpenFor b → Fits a (by_answer flow b)
  fits_answer flow a b o =
      answer_does (Fits a) flow b (λ leaves. shut_last leave xs b o.is_open_yet (both_true b.over (is_clear flow) leaves).0) (λ held. o) (paid_for b o)

-- ONE LETTER MORE

module _ {S : Type 0} (leave : ℕ) (xs : List (Letter (Out S))) where
  -- after the letter
  record Goes (x : Letter (Out S)) (c : Change S) : Type 0 where
    pub open_ones : AllOpen leave (xs ++ x ∷ []) c.kept
    pub apart : Apart c.kept
    pub shut_ones : AllShut leave (xs ++ x ∷ []) c.gone

  module _ (kept : List (Attachment S)) (all : AllOpen leave xs kept) (apart : Apart kept) where
    goes_attach : (from w : ℕ) (sink : S) (mark : Mark) (o : Option (Attachment S)) → (from == leave) ≡ false → kept_for from w kept ≡ o
        → Goes (letter from (Body (Attach w sink))) (attached mark (brought (length xs) from w sink) o kept)
    goes_attach from w sink mark (Some other) test is = record {
      open_ones = all_pass leave xs _ kept (λ a. passes_attach S (from == leave) (a.subject == from) a.who w sink test) all;
      apart = apart;
      shut_ones = tt;
    }
    goes_attach from w sink (Fine flow) None test is = record {
      open_ones = all_append (Open leave (xs ++ letter from (Body (Attach w sink)) ∷ [])) kept (brought (length xs) from w sink ∷ [])
          (all_pass leave xs _ kept (λ a. passes_attach S (from == leave) (a.subject == from) a.who w sink test) all) (open_new leave xs from w sink, tt);
      apart = apart_push kept (brought (length xs) from w sink) is apart;
      shut_ones = tt;
    }
    goes_attach from w sink Fault None test is = record {
      open_ones = all_pass leave xs _ kept (λ a. passes_attach S (from == leave) (a.subject == from) a.who w sink test) all;
      apart = apart;
      shut_ones = (shut_new leave xs from w sink, tt);
    }
    goes_attach from w sink NoMemory None test is = record {
      open_ones = all_pass leave xs _ kept (λ a. passes_attach S (from == leave) (a.subject == from) a.who w sink test) all;
      apart = apart;
      shut_ones = tt;
    }

    goes_ruling : (from w : ℕ) (x : Letter (Out S)) (a : Attachment S) (ruling : Ruling S) (took : Bool) → FoundIn leave from w xs x kept a → Fits leave (xs ++ x ∷ []) from w a ruling
        → Goes x (carried_out from w ruling took kept)
    goes_ruling from w x a AsItWas took f fits = record { open_ones = f.with_same fits; apart = apart; shut_ones = tt }
    goes_ruling from w x a (HoldsBack b) took f fits = record { open_ones = f.with_other b fits.is_open_yet; apart = f.apart_other b fits.subject fits.who; shut_ones = tt }
    goes_ruling from w x a (PaysAll b) took f fits = record { open_ones = f.with_other (paid b) fits.is_open_yet; apart = f.apart_other (paid b) fits.subject fits.who; shut_ones = tt }
    goes_ruling from w x a (LetsGo b) took f fits = record { open_ones = f.rest; apart = f.apart_rest; shut_ones = (fits, tt) }
    goes_ruling from w x a (PutsAway b why) took f fits = record { open_ones = f.rest; apart = f.apart_rest; shut_ones = (fits, tt) }

    goes_ruled : (from w : ℕ) (x : Letter (Out S)) (rule : Attachment S → Ruling S) (took : Attachment S → Bool) (o : Option (Attachment S)) → PassesOthers leave from w xs x → kept_for from w kept ≡ o
        → ((a : Attachment S) → FoundIn leave from w xs x kept a → Fits leave (xs ++ x ∷ []) from w a (rule a)) → Goes x (ruled from w rule took o kept)
    goes_ruled from w x rule took None others is fits = record { open_ones = none_pass leave from w xs x kept others is all; apart = apart; shut_ones = tt }
    goes_ruled from w x rule took (Some a) others is fits =
        (let f = found_in leave from w xs x kept a others is apart all in
        let g = goes_ruling from w x a (rule a) (took a) f (fits a f) in record { open_ones = g.open_ones; apart = g.apart; shut_ones = g.shut_ones })

    goes_give : (from w : ℕ) (note : Note) (mark : Mark) → (from == leave) ≡ false
        → Goes (letter from (Body (Give w note))) (ruled from w (by_note mark note) (has_taken mark) (kept_for from w kept) kept)
    goes_give from w note mark test =
        let x = letter from (Body (Give w note)) in
        goes_ruled from w x (by_note mark note) (has_taken mark) (kept_for from w kept) (λ a other. passes_give S (from == leave) (a.subject == from) a.who w note test other) refl
        (λ a f.
        (let key = key_is from w a f.key in
        let bears = bears_give S (from == leave) (a.subject == from) a.who w note test f.key in
        note_does (Fits leave (xs ++ x ∷ []) from w a) mark note a (open_over leave xs x a f.is_open_yet)
        (λ flow yet. fits_answer leave (xs ++ x ∷ []) from w flow a (with_note note flow a) (record { subject = key.0; who = key.1; is_open_yet = open_note leave xs x a note flow f.is_open_yet yet bears }))
        (λ yet. shut_fault leave xs x a note f.is_open_yet yet bears)))

    goes_detach : (from w : ℕ) → (from == leave) ≡ false → Goes (letter from (Body (Detach w))) (ruled from w by_leaving (λ a. false) (kept_for from w kept) kept)
    goes_detach from w test =
        let x = letter from (Body (Detach w)) in
        goes_ruled from w x by_leaving (λ a. false) (kept_for from w kept) (λ a other. passes_detach S (from == leave) (a.subject == from) a.who w test other) refl
        (λ a f. leaving_does (Fits leave (xs ++ x ∷ []) from w a) a (λ over. shut_last leave (xs ++ x ∷ []) a (open_over leave xs x a f.is_open_yet over) over)
        (λ yet. shut_detached leave xs x a f.is_open_yet yet (stops_detach S (from == leave) (a.subject == from) a.who w test f.key)))

    goes_post : (b : Bool) (from : ℕ) (post : Post (Out S)) (mark : Mark) → (from == leave) ≡ b → Goes (letter from post) (post_change b (length xs) from post mark kept)
    goes_post true from (Body out) mark test = record {
      open_ones = all_pass leave xs _ kept (λ a. ap (λ t. post_bearing t (a.subject == from) a.who (Body out)) test) all;
      apart = apart;
      shut_ones = tt;
    }
    goes_post true from Bye mark test = record {
      open_ones = tt;
      apart = tt;
      shut_ones = all_closed leave xs _ kept (λ a. ap (λ t. post_bearing {S = S} t (a.subject == from) a.who Bye) test) all;
    }
    goes_post false from Bye mark test = record {
      open_ones = all_pass leave xs _ kept (λ a. passes_bye S (from == leave) (a.subject == from) a.who test) all;
      apart = apart;
      shut_ones = tt;
    }
    goes_post false from (Body (Attach w sink)) mark test = goes_attach from w sink mark (kept_for from w kept) test refl
    goes_post false from (Body (Give w note)) mark test = goes_give from w note mark test
    goes_post false from (Body (Detach w)) mark test = goes_detach from w test

    goes_letter : (b : Bool) (x : Letter (Out S)) (mark : Mark) → (b ≡ true → kept ≡ []) → Goes x (letter_change b leave (length xs) x mark kept)
    goes_letter true x mark none = record {
      open_ones = subst (λ (l : List (Attachment S)). AllOpen leave (xs ++ x ∷ []) l) (sym (none refl)) tt;
      apart = apart;
      shut_ones = tt;
    }
    goes_letter false x mark none = goes_post (x.from == leave) x.from x.post mark refl

-- A FLUSH

module _ {S : Type 0} where
  has_found : (P : Attachment S → Type 0) (s w : ℕ) (a : Attachment S) (kept : List (Attachment S)) → kept_for s w kept ≡ Some a → AllByRecursion P kept → P a × (is_of s w a ≡ true)
  has_found P s w a [] is all = cc
  has_found P s w a (c ∷ kept) is all =
      elim (some_split (is_of s w c) c a (kept_for s w kept) is) [
        | inl (test, same) ↦ (subst P same all.0, subst (λ (d : Attachment S). is_of s w d ≡ true) same test)
        | inr (test, next) ↦ has_found P s w a kept next all.1
      ]

module _ {S : Type 0} (leave : ℕ) (xs : List (Letter (Out S))) (kept : List (Attachment S)) (all : AllOpen leave xs kept) (apart : Apart kept) where
  -- after a flush
  record Flows (c : Change S) : Type 0 where
    pub open_ones : AllOpen leave xs c.kept
    pub apart_still : Apart c.kept
    pub shut_ones : AllShut leave xs c.gone

  flows_ruling : (s w : ℕ) (a : Attachment S) (ruling : Ruling S) (took : Bool) → Fits leave xs s w a ruling → Flows (carried_out s w ruling took kept)
  flows_ruling s w a AsItWas took fits = record { open_ones = all; apart_still = apart; shut_ones = tt }
  flows_ruling s w a (HoldsBack b) took fits = record { open_ones = all_with (Open leave xs) s w b kept fits.is_open_yet all; apart_still = apart_with s w b kept fits.subject fits.who apart; shut_ones = tt }
  flows_ruling s w a (PaysAll b) took fits =
      record { open_ones = all_with (Open leave xs) s w (paid b) kept fits.is_open_yet all; apart_still = apart_with s w (paid b) kept fits.subject fits.who apart; shut_ones = tt }
  flows_ruling s w a (LetsGo b) took fits = record { open_ones = all_but (Open leave xs) s w kept all; apart_still = apart_but s w kept apart; shut_ones = (fits, tt) }
  flows_ruling s w a (PutsAway b why) took fits = record { open_ones = all_but (Open leave xs) s w kept all; apart_still = apart_but s w kept apart; shut_ones = (fits, tt) }

  flows : (s w : ℕ) (mark : Mark) (o : Option (Attachment S)) → kept_for s w kept ≡ o → Flows (ruled s w (by_flush mark) (λ a. false) o kept)
  flows s w mark None is = record { open_ones = all; apart_still = apart; shut_ones = tt }
  flows s w mark (Some a) is =
      let f = has_found (Open leave xs) s w a kept is all in
      let key = key_is s w a f.1 in
      let fits = flush_does (Fits leave xs s w a) mark a
      (λ flow. fits_answer leave xs s w flow a (with_flush flow a) (record { subject = key.0; who = key.1; is_open_yet = open_flush leave xs a flow f.0 })) (shut_flush leave xs a f.0) in
      let g = flows_ruling s w a (by_flush mark a) false fits in record { open_ones = g.open_ones; apart_still = g.apart_still; shut_ones = g.shut_ones }

-- ALL LETTERS

module _ {S : Type 0} (leave : ℕ) where
  record Holds (log : Log S) : Type 0 where
    pub open_ones : AllOpen leave (letters log) (kept_in leave log)
    pub apart : Apart (kept_in leave log)
    pub shut_ones : AllShut leave (letters log) (gone_in leave log)

  holds : (log : Log S) → Holds log
  holds NoLetters = record { open_ones = tt; apart = tt; shut_ones = tt }
  holds (Next log x mark) =
      let h = holds log in
      let g = goes_letter leave (letters log) (kept_in leave log) h.open_ones h.apart (has_left leave log) x mark (kept_none leave log) in
      record {
        open_ones = g.open_ones;
        apart = g.apart;
        shut_ones = all_append (Shut leave (letters log ++ x ∷ [])) (gone_in leave log) (change leave log x mark).gone (all_stay leave (letters log) x (gone_in leave log) h.shut_ones) g.shut_ones;
      }
  holds (Flush log s w mark) =
      let h = holds log in
      let g = flows leave (letters log) (kept_in leave log) h.open_ones h.apart s w mark (kept_for s w (kept_in leave log)) refl in
      record {
        open_ones = g.open_ones;
        apart = g.apart_still;
        shut_ones = all_append (Shut leave (letters log)) (gone_in leave log) (flush_change leave log s w mark).gone h.shut_ones g.shut_ones;
      }

-- no two that are kept are of one observer
pub apart_in : {S : Type 0} (leave : ℕ) (log : Log S) → Apart (kept_in leave log)
apart_in leave log = (holds leave log).apart

all_weaker : {X : Type 0} (P Q : X → Type 0) (xs : List X) → ((x : X) → P x → Q x) → AllByRecursion P xs → AllByRecursion Q xs
all_weaker P Q [] weaker all = tt
all_weaker P Q (x ∷ xs) weaker all = (weaker x all.0, all_weaker P Q xs weaker all.1)

pub each_sink_took : {S : Type 0} (leave : ℕ) (log : Log S) → SinksTook leave log
each_sink_took leave log =
    let h = holds leave log in
    record {
      kept_at = all_weaker (Open leave (letters log)) _ (kept_in leave log) (λ a o. o.at) h.open_ones;
      gone_at = all_weaker (Shut leave (letters log)) _ (gone_in leave log) (λ end s. s.at) h.shut_ones;
      kept_took = all_weaker (Open leave (letters log)) _ (kept_in leave log) (λ a o. o.taken) h.open_ones;
      gone_took = all_weaker (Shut leave (letters log)) _ (gone_in leave log) (λ end s. s.took) h.shut_ones;
    }
