-- What is sent for each attachment of a log.
use Rattle.std.proofs.Common.{◌≡◌, ◌≢◌, ◌∙◌, sym, refl, ap, subst, ℕ, zero, suc, ◌+◌, ◌≤◌, ◌==◌, ◌⊎◌, inl, inr, if◌then◌else◌, Bool, true, false, List, [], ◌∷◌, ◌++◌, append_assoc, append-nil, length, replicate, Option, Some, None, slice_get, eq-eqb, arith}
use Rattle.std.proofs.lemmas.Bool.Decides.{eqb_tells}
use Rattle.std.proofs.lemmas.List.{map-append, replicate_more}
use Rattle.std.specs.List.{AllByRecursion}
use Rattle.rx_mailbox.specs.declared.letter.Letter.{Letter}
use Rattle.rx_mailbox.specs.declared.letter.Post.{Post}
use Rattle.rx_mailbox.specs.declared.letter.Post.TheVariants.{Body, Bye}
use Rattle.rx_mailbox.specs.Letters.{letter}
use Rattle.rx_note.specs.declared.event.Event.{Event}
use Rattle.rx_note.specs.declared.event.Event.TheVariants.{Request, Dispose}
use Rattle.rx_note.specs.declared.note.Note.{Note}
use Rattle.rx_pump.specs.declared.out.Out.{Out}
use Rattle.rx_pump.specs.declared.out.Out.TheVariants.{Attach, Give, Detach}
use Rattle.rx_pump.proofs.Placing.{slice_get-append_left, slice_get-append_right}
use Rattle.rx_sink.specs.declared.flow.Flow.{Flow}
use Rattle.rx_sink.specs.Attachments.{Attachment, Why, Detached, FailedAtStart, Mark, Fine, Fault, NoMemory, Sent, Change, Ruling, AsItWas, HoldsBack, PaysAll, LetsGo, PutsAway, is_last, is_of, kept_for, of_others, replaced, with_note, with_flush, paid, request, requests, dispose, parting, partings, by_note, has_taken, by_flush, by_leaving, sends_by, carried_out, ruled, attached, closed, brought}
use Rattle.rx_drain.specs.Logs.{Log, NoLetters, Next, Flush, letters, has_left, letter_change, kept_in, change, flush_change, gone_in, sent_in}
use Rattle.rx_drain.proofs.Changing.{post_change, post_by}
use Rattle.rx_drain.proofs.Rulings.{About, about_note, about_flush, about_leaving, all_but, answer_does, note_does, flush_does, leaving_does}
use Rattle.rx_drain.specs.Once.{times, found_by, missed_by, place_by, letter_by, found_in, missed_at}
use Rattle.rx_drain.specs.Served.{AttachCame}
use Rattle.rx_drain.specs.Sent.{item_requests, at_end, sent_for, to_subject, asked, dues, asked_in_all, IsSentForEach}
use Rattle.rx_drain.proofs.Counting.{times-append, kept_places, gone_places, below, others_places, same, once, once_in_all, misses}
use Rattle.rx_drain.proofs.Taking.{all_append, some_split}

-- EVENTS OF A PLACE

sent_append : (n : ℕ) (xs ys : List Sent) → sent_for n (xs ++ ys) ≡ sent_for n xs ++ sent_for n ys
sent_append n [] ys = refl
sent_append n (s ∷ xs) ys =
    let here : List (ℕ × Event) = (if s.place == n then (s.subject, s.event) ∷ [] else []) in
    ap (λ l. here ++ l) (sent_append n xs ys) ∙ sym (append_assoc here (sent_for n xs) (sent_for n ys))

sent_other : (n : ℕ) (s : Sent) → n ≢ s.place → sent_for n (s ∷ []) ≡ []
sent_other n s other =
    elim (eqb_tells s.place n) [
      | inl (test, is) ↦ absurd (other (sym is))
      | inr (test, apart) ↦ ap (λ t. (if t then (s.subject, s.event) ∷ [] else []) ++ []) test
    ]

sent_here : (s : Sent) → sent_for s.place (s ∷ []) ≡ (s.subject, s.event) ∷ []
sent_here s = ap (λ t. (if t then (s.subject, s.event) ∷ [] else []) ++ []) (eq-eqb s.place s.place refl)

-- events of another place change nothing
keep : (n : ℕ) (xs ys : List Sent) (all : List (ℕ × Event)) → sent_for n ys ≡ [] → sent_for n xs ≡ all → sent_for n (xs ++ ys) ≡ all
keep n xs ys all none is = sent_append n xs ys ∙ ap (λ l. sent_for n xs ++ l) none ∙ append-nil (sent_for n xs) ∙ is

-- the same, with what is due
keep_due : (n : ℕ) (xs ys : List Sent) (due all : List (ℕ × Event)) → sent_for n ys ≡ [] → sent_for n xs ++ due ≡ all → sent_for n (xs ++ ys) ++ due ≡ all
keep_due n xs ys due all none is = ap (λ l. l ++ due) (sent_append n xs ys ∙ ap (λ l. sent_for n xs ++ l) none ∙ append-nil (sent_for n xs)) ∙ is

-- all events are of this place
abbrev Only : ℕ → List Sent → Type 0
Only m ys = (n : ℕ) → n ≢ m → sent_for n ys ≡ []

all_keep : {X : Type 0} (place : X → ℕ) (expected : X → List (ℕ × Event)) (xs ys : List Sent) (m : ℕ) (zs : List X) → Only m ys
    → AllByRecursion (λ z. place z ≢ m) zs → AllByRecursion (λ z. sent_for (place z) xs ≡ expected z) zs
    → AllByRecursion (λ z. sent_for (place z) (xs ++ ys) ≡ expected z) zs
all_keep place expected xs ys m [] only apart all = tt
all_keep place expected xs ys m (z ∷ zs) only apart all =
    (keep (place z) xs ys (expected z) (only (place z) apart.0) all.0, all_keep place expected xs ys m zs only apart.1 all.1)

all_keep_due : {X : Type 0} (place : X → ℕ) (due expected : X → List (ℕ × Event)) (xs ys : List Sent) (m : ℕ) (zs : List X) → Only m ys
    → AllByRecursion (λ z. place z ≢ m) zs → AllByRecursion (λ z. sent_for (place z) xs ++ due z ≡ expected z) zs
    → AllByRecursion (λ z. sent_for (place z) (xs ++ ys) ++ due z ≡ expected z) zs
all_keep_due place due expected xs ys m [] only apart all = tt
all_keep_due place due expected xs ys m (z ∷ zs) only apart all =
    (keep_due (place z) xs ys (due z) (expected z) (only (place z) apart.0) all.0, all_keep_due place due expected xs ys m zs only apart.1 all.1)

item_requests_more : (who : ℕ) (notes : List Note) (note : Note) → item_requests who (notes ++ note ∷ []) ≡ item_requests who notes ++ (if is_last note then [] else Request who 1 ∷ [])
item_requests_more who [] note = append-nil (if is_last note then [] else Request who 1 ∷ [])
item_requests_more who (first ∷ notes) note =
    let here : List Event = (if is_last first then [] else Request who 1 ∷ []) in
    ap (λ l. here ++ l) (item_requests_more who notes note) ∙ sym (append_assoc here (item_requests who notes) (if is_last note then [] else Request who 1 ∷ []))

times_self : (n : ℕ) → times n (n ∷ []) ≡ 1
times_self n = ap (λ t. (if t then 1 else 0) + 0) (eq-eqb n n refl)

-- REQUESTS THAT ARE DUE

module _ {S : Type 0} where
  many_here : (m : ℕ) (a : Attachment S) → sent_for a.place (replicate m (request a)) ≡ to_subject a (replicate m (Request a.who 1))
  many_here zero a = refl
  many_here (suc m) a =
      ap (λ t. (if t then (a.subject, Request a.who 1) ∷ [] else []) ++ sent_for a.place (replicate m (request a))) (eq-eqb a.place a.place refl)
      ∙ ap (λ (l : List (ℕ × Event)). (a.subject, Request a.who 1) ∷ l) (many_here m a)

  many_other : (m n : ℕ) (a : Attachment S) → n ≢ a.place → sent_for n (replicate m (request a)) ≡ []
  many_other zero n a other = refl
  many_other (suc m) n a other =
      sent_append n (request a ∷ []) (replicate m (request a)) ∙ ap (λ l. l ++ sent_for n (replicate m (request a))) (sent_other n (request a) other) ∙ many_other m n a other

  parting_here : (a : Attachment S) → sent_for a.place (parting a) ≡ dues a ++ (a.subject, Dispose a.who) ∷ []
  parting_here a =
      sent_append a.place (requests a) (dispose a ∷ []) ∙ ap (λ l. l ++ sent_for a.place (dispose a ∷ [])) (many_here a.due a) ∙ ap (λ l. dues a ++ l) (sent_here (dispose a))

  parting_other : (n : ℕ) (a : Attachment S) → n ≢ a.place → sent_for n (parting a) ≡ []
  parting_other n a other =
      sent_append n (requests a) (dispose a ∷ []) ∙ ap (λ l. l ++ sent_for n (dispose a ∷ [])) (many_other a.due n a other) ∙ sent_other n (dispose a) other

  partings_append : (xs ys : List (Attachment S)) → partings (xs ++ ys) ≡ partings xs ++ partings ys
  partings_append [] ys = refl
  partings_append (a ∷ xs) ys = ap (λ l. parting a ++ l) (partings_append xs ys) ∙ sym (append_assoc (parting a) (partings xs) (partings ys))

module _ {S : Type 0} where
  abbrev Asked : List Sent → List (Attachment S) → Type 0
  Asked xs kept = AllByRecursion (λ a. sent_for a.place xs ++ dues a ≡ asked a) kept

  abbrev AskedAll : List Sent → List (Attachment S × Why) → Type 0
  AskedAll xs gone = AllByRecursion (λ end. sent_for end.0.place xs ≡ asked_in_all end) gone

  none_kept : (n : ℕ) (kept : List (Attachment S)) → times n (kept_places kept) ≡ 0 → AllByRecursion (λ a. a.place ≢ n) kept
  none_kept n [] none = tt
  none_kept n (a ∷ kept) none =
      elim (eqb_tells a.place n) [
        | inl (test, is) ↦
            (let e : times n (kept_places (a ∷ kept)) ≡ 1 + times n (kept_places kept) = ap (λ t. (if t then 1 else 0) + times n (kept_places kept)) test in
            let no : ⊥ = omega (arith, e, none) in absurd no)
        | inr (test, apart) ↦
            (let e : times n (kept_places (a ∷ kept)) ≡ 0 + times n (kept_places kept) = ap (λ t. (if t then 1 else 0) + times n (kept_places kept)) test in
            (apart, none_kept n kept (omega (arith, e, none))))
      ]

  none_gone : (n : ℕ) (gone : List (Attachment S × Why)) → times n (gone_places gone) ≡ 0 → AllByRecursion (λ end. end.0.place ≢ n) gone
  none_gone n [] none = tt
  none_gone n (end ∷ gone) none =
      elim (eqb_tells end.0.place n) [
        | inl (test, is) ↦
            (let e : times n (gone_places (end ∷ gone)) ≡ 1 + times n (gone_places gone) = ap (λ t. (if t then 1 else 0) + times n (gone_places gone)) test in
            let no : ⊥ = omega (arith, e, none) in absurd no)
        | inr (test, apart) ↦
            (let e : times n (gone_places (end ∷ gone)) ≡ 0 + times n (gone_places gone) = ap (λ t. (if t then 1 else 0) + times n (gone_places gone)) test in
            (apart, none_gone n gone (omega (arith, e, none))))
      ]

  -- nothing is sent
  idle_kept : (xs : List Sent) (kept : List (Attachment S)) → Asked xs kept → Asked (xs ++ []) kept
  idle_kept xs kept all = subst (λ (l : List Sent). Asked l kept) (sym (append-nil xs)) all

  idle_gone : (xs : List Sent) (gone : List (Attachment S × Why)) → AskedAll xs gone → AskedAll (xs ++ []) (gone ++ [])
  idle_gone xs gone all =
      subst (λ (l : List Sent). AskedAll l (gone ++ [])) (sym (append-nil xs)) (subst (λ (l : List (Attachment S × Why)). AskedAll xs l) (sym (append-nil gone)) all)

  -- THE ATTACHMENT OF AN OBSERVER

  found_step : (P : Attachment S → Type 0) (s w : ℕ) (c a : Attachment S) (kept : List (Attachment S)) → kept_for s w (c ∷ kept) ≡ Some a → P c
      → (kept_for s w kept ≡ Some a → P a) → P a
  found_step P s w c a kept is here later =
      elim (some_split (is_of s w c) c a (kept_for s w kept) is) [
        | inl (test, is) ↦ subst P is here
        | inr (test, next) ↦ later next
      ]

  found_has : (P : Attachment S → Type 0) (s w : ℕ) (a : Attachment S) (kept : List (Attachment S)) → kept_for s w kept ≡ Some a → AllByRecursion P kept → P a
  found_has P s w a [] is all = cc
  found_has P s w a (c ∷ kept) is all = found_step P s w c a kept is all.0 (λ later. found_has P s w a kept later all.1)

  -- it is left out, and events of its place are sent
  asked_others : (s w : ℕ) (a : Attachment S) (kept : List (Attachment S)) (xs ys : List Sent) → kept_for s w kept ≡ Some a → times a.place (kept_places kept) ≤ 1
      → Only a.place ys → Asked xs kept → Asked (xs ++ ys) (of_others s w kept)
  asked_others s w a kept xs ys is few only all =
      let count = others_places a.place s w a kept is in
      let none : times a.place (kept_places (of_others s w kept)) ≡ 0 = omega (arith, count, times_self a.place, few) in
      all_keep_due (λ (d : Attachment S). d.place) dues asked xs ys a.place (of_others s w kept) only (none_kept a.place (of_others s w kept) none)
      (all_but (λ d. sent_for d.place xs ++ dues d ≡ asked d) s w kept all)

  replaced_step : (s w : ℕ) (c a b : Attachment S) (kept : List (Attachment S)) (xs ys : List Sent) → kept_for s w (c ∷ kept) ≡ Some a
      → times a.place (kept_places (c ∷ kept)) ≤ 1 → Only a.place ys → Asked xs (c ∷ kept) → sent_for b.place (xs ++ ys) ++ dues b ≡ asked b
      → (kept_for s w kept ≡ Some a → times a.place (kept_places kept) ≤ 1 → Asked (xs ++ ys) (replaced s w b kept))
      → Asked (xs ++ ys) (replaced s w b (c ∷ kept))
  replaced_step s w c a b kept xs ys is few only all now later =
      elim (some_split (is_of s w c) c a (kept_for s w kept) is) [
        | inl (test, same) ↦
            (let head = eq-eqb c.place a.place (ap (λ (d : Attachment S). d.place) same) in
            let e : times a.place (kept_places (c ∷ kept)) ≡ 1 + times a.place (kept_places kept) = ap (λ t. (if t then 1 else 0) + times a.place (kept_places kept)) head in
            let none : times a.place (kept_places kept) ≡ 0 = omega (arith, e, few) in
            subst (λ (t : Bool). Asked (xs ++ ys) (if t then b ∷ kept else c ∷ replaced s w b kept)) (sym test)
            (now, all_keep_due (λ (d : Attachment S). d.place) dues asked xs ys a.place kept only (none_kept a.place kept none) all.1))
        | inr (test, next) ↦
            (let count = others_places a.place s w a kept next in
            let tail : 1 ≤ times a.place (kept_places kept) = omega (arith, count, times_self a.place) in
            let apart : c.place ≢ a.place = λ same.
            (let e : times a.place (kept_places (c ∷ kept)) ≡ 1 + times a.place (kept_places kept) =
            ap (λ t. (if t then 1 else 0) + times a.place (kept_places kept)) (eq-eqb c.place a.place same) in omega (arith, e, few, tail)) in
            let fewer : times a.place (kept_places kept) ≤ 1 = omega (arith, few) in
            subst (λ (t : Bool). Asked (xs ++ ys) (if t then b ∷ kept else c ∷ replaced s w b kept)) (sym test)
            (keep_due c.place xs ys (dues c) (asked c) (only c.place apart) all.0, later next fewer))
      ]

  -- another stands in its place, and events of its place are sent
  asked_replaced : (s w : ℕ) (a b : Attachment S) (kept : List (Attachment S)) (xs ys : List Sent) → kept_for s w kept ≡ Some a
      → times a.place (kept_places kept) ≤ 1 → Only a.place ys → Asked xs kept → sent_for b.place (xs ++ ys) ++ dues b ≡ asked b → Asked (xs ++ ys) (replaced s w b kept)
  asked_replaced s w a b [] xs ys is few only all now = cc
  asked_replaced s w a b (c ∷ kept) xs ys is few only all now =
      replaced_step s w c a b kept xs ys is few only all now (λ next fewer. asked_replaced s w a b kept xs ys next fewer only all.1 now)

-- ONE LETTER MORE

past : {X : Type 0} (xs : List X) (x : X) → slice_get xs (length xs) ≡ Some x → ⊥
past [] x is = cc
past (y ∷ xs) x is = past xs x is

module _ {S : Type 0} where
  -- no two attachments have one place
  abbrev Few : List (Attachment S) → List (Attachment S × Why) → Type 0
  Few kept gone = (n : ℕ) → times n (kept_places kept) + times n (gone_places gone) ≤ 1

  -- nothing was sent for the place, or just where a sink found no memory there the disposal of its observer
  abbrev Other : List ℕ → List Sent → List (Letter (Out S)) → ℕ → Type 0
  Other missed xs received n =
      ((times n missed ≡ 0) × (sent_for n xs ≡ []))
      ⊎ ((times n missed ≡ 1) × (a : Attachment S) × (a.place ≡ n) × AttachCame received a × (sent_for n xs ≡ to_subject a (Dispose a.who ∷ [])))

  record Told (xs : List Sent) (gone : List (Attachment S × Why)) (c : Change S) : Type 0 where
    pub still : Asked (xs ++ c.sends) c.kept
    pub ended : AskedAll (xs ++ c.sends) (gone ++ c.gone)

  -- by a ruling that puts it away its observer is disposed of
  abbrev Disposes : Ruling S → Type 0
  Disposes AsItWas = Unit {0}
  Disposes (HoldsBack a) = Unit {0}
  Disposes (PaysAll a) = Unit {0}
  Disposes (LetsGo a) = Unit {0}
  Disposes (PutsAway a why) = at_end a.who why ≡ Dispose a.who ∷ []

  disposes_note : (mark : Mark) (note : Note) (a : Attachment S) → Disposes (by_note mark note a)
  disposes_note mark note a = note_does Disposes mark note a (λ over. tt) (λ flow yet. answer_does Disposes flow (with_note note flow a) (λ leaves. refl) (λ held. tt) tt) (λ yet. refl)

  disposes_flush : (mark : Mark) (a : Attachment S) → Disposes (by_flush mark a)
  disposes_flush mark a = flush_does Disposes mark a (λ flow. answer_does Disposes flow (with_flush flow a) (λ leaves. refl) (λ held. tt) tt) refl

  disposes_leaving : (a : Attachment S) → Disposes (by_leaving a)
  disposes_leaving a = leaving_does Disposes a (λ over. refl) (λ yet. tt)

  -- DISPOSALS AT THE END

  none_sent : (n : ℕ) (kept : List (Attachment S)) → AllByRecursion (λ a. a.place ≢ n) kept → sent_for n (partings kept) ≡ []
  none_sent n [] apart = refl
  none_sent n (a ∷ kept) apart =
      sent_append n (parting a) (partings kept) ∙ ap (λ l. l ++ sent_for n (partings kept)) (parting_other n a (λ same. apart.0 (sym same)))
      ∙ none_sent n kept apart.1

  gone_left : (xs : List Sent) (kept : List (Attachment S)) (gone : List (Attachment S × Why)) → Few kept gone → AskedAll xs gone → AskedAll (xs ++ partings kept) gone
  gone_left xs kept [] few all = tt
  gone_left xs kept (end ∷ gone) few all =
      let n = end.0.place in
      let one : times n (gone_places (end ∷ gone)) ≡ 1 + times n (gone_places gone) = ap (λ t. (if t then 1 else 0) + times n (gone_places gone)) (eq-eqb n n refl) in
      let none : times n (kept_places kept) ≡ 0 = omega (arith, one, few n) in (
        keep n xs (partings kept) (asked_in_all end) (none_sent n kept (none_kept n kept none)) all.0,
        gone_left xs kept gone (λ m. omega (arith, few m)) all.1,
      )

  closing_one : (pre rest : List (Attachment S)) (a : Attachment S) → ((n : ℕ) → times n (kept_places (pre ++ a ∷ rest)) ≤ 1)
      → sent_for a.place (partings (pre ++ a ∷ rest)) ≡ dues a ++ (a.subject, Dispose a.who) ∷ []
  closing_one pre rest a few =
      let n = a.place in
      let parts : times n (kept_places (pre ++ a ∷ rest)) ≡ times n (kept_places pre) + times n (kept_places (a ∷ rest)) =
      ap (times n) (map-append (λ (b : Attachment S). b.place) pre (a ∷ rest)) ∙ times-append n (kept_places pre) (kept_places (a ∷ rest)) in
      let one : times n (kept_places (a ∷ rest)) ≡ 1 + times n (kept_places rest) = ap (λ t. (if t then 1 else 0) + times n (kept_places rest)) (eq-eqb n n refl) in
      let before = none_sent n pre (none_kept n pre (omega (arith, parts, one, few n))) in
      let after = none_sent n rest (none_kept n rest (omega (arith, parts, one, few n))) in
      ap (sent_for n) (partings_append pre (a ∷ rest)) ∙ sent_append n (partings pre) (partings (a ∷ rest))
      ∙ ap (λ l. l ++ sent_for n (partings (a ∷ rest))) before ∙ sent_append n (parting a) (partings rest)
      ∙ ap (λ l. l ++ sent_for n (partings rest)) (parting_here a) ∙ ap (λ l. (dues a ++ (a.subject, Dispose a.who) ∷ []) ++ l) after
      ∙ append-nil (dues a ++ (a.subject, Dispose a.who) ∷ [])

  -- what was sent, what is due, and more
  in_all : (xs ys : List Sent) (a : Attachment S) (more : List Event) → sent_for a.place xs ++ dues a ≡ asked a → sent_for a.place ys ≡ dues a ++ to_subject a more
      → sent_for a.place (xs ++ ys) ≡ to_subject a (item_requests a.who a.taken ++ more)
  in_all xs ys a more so_far now =
      sent_append a.place xs ys ∙ ap (λ l. sent_for a.place xs ++ l) now ∙ sym (append_assoc (sent_for a.place xs) (dues a) (to_subject a more))
      ∙ ap (λ l. l ++ to_subject a more) so_far ∙ sym (map-append (λ (event : Event). (a.subject, event)) (item_requests a.who a.taken) more)

  closing : (xs : List Sent) (pre post : List (Attachment S)) → ((n : ℕ) → times n (kept_places (pre ++ post)) ≤ 1) → Asked xs post
      → AskedAll (xs ++ partings (pre ++ post)) (closed post)
  closing xs pre [] few all = tt
  closing xs pre (a ∷ post) few all =
      let same : (pre ++ a ∷ []) ++ post ≡ pre ++ a ∷ post = append_assoc pre (a ∷ []) post in (
        in_all xs (partings (pre ++ a ∷ post)) a (Dispose a.who ∷ []) all.0 (closing_one pre post a few),
        subst (λ (l : List (Attachment S)). AskedAll (xs ++ partings l) (closed post)) same
            (closing xs (pre ++ a ∷ []) post (λ n. subst (λ (l : List (Attachment S)). times n (kept_places l) ≤ 1) (sym same) (few n)) all.1),
      )

  module _ (xs : List Sent) (kept : List (Attachment S)) (gone : List (Attachment S × Why)) (few : Few kept gone) (kept_all : Asked xs kept) (gone_all : AskedAll xs gone) where
    told_idle : Told xs gone (record { kept = kept; gone = []; sends = []; missed = false; took = false })
    told_idle = record { still = idle_kept xs kept kept_all; ended = idle_gone xs gone gone_all }

    -- events of a place where none of those that have ended stands
    gone_stays : (ys : List Sent) (m : ℕ) → Only m ys → times m (gone_places gone) ≡ 0 → AskedAll (xs ++ ys) gone
    gone_stays ys m only none = all_keep (λ (end : Attachment S × Why). end.0.place) asked_in_all xs ys m gone only (none_gone m gone none) gone_all

    gone_only : (ys : List Sent) → AskedAll (xs ++ ys) gone → AskedAll (xs ++ ys) (gone ++ [])
    gone_only ys all = subst (λ (l : List (Attachment S × Why)). AskedAll (xs ++ ys) l) (sym (append-nil gone)) all

    gone_more : (ys : List Sent) (end : Attachment S × Why) → AskedAll (xs ++ ys) gone → sent_for end.0.place (xs ++ ys) ≡ asked_in_all end → AskedAll (xs ++ ys) (gone ++ end ∷ [])
    gone_more ys end all now = all_append (λ (e : Attachment S × Why). sent_for e.0.place (xs ++ ys) ≡ asked_in_all e) gone (end ∷ []) all (now, tt)

    told_attach : (place from w : ℕ) (sink : S) (mark : Mark) (o : Option (Attachment S)) → sent_for place xs ≡ [] → times place (kept_places kept) ≡ 0 → times place (gone_places gone) ≡ 0
        → Told xs gone (attached mark (brought place from w sink) o kept)
    told_attach place from w sink mark (Some other) fresh unkept unended = told_idle
    told_attach place from w sink (Fine flow) None fresh unkept unended =
        let a = brought place from w sink in
        record {
          still = all_append (λ (b : Attachment S). sent_for b.place (xs ++ []) ++ dues b ≡ asked b) kept (a ∷ []) (idle_kept xs kept kept_all) (keep_due place xs [] [] [] refl (append-nil (sent_for place xs) ∙ fresh), tt);
          ended = idle_gone xs gone gone_all;
        }
    told_attach place from w sink Fault None fresh unkept unended =
        let a = brought place from w sink in
        let ys = dispose a ∷ [] in
        record {
          still = all_keep_due (λ (d : Attachment S). d.place) dues asked xs ys place kept (λ n other. sent_other n (dispose a) other) (none_kept place kept unkept) kept_all;
          ended = gone_more ys (a, FailedAtStart) (gone_stays ys place (λ n other. sent_other n (dispose a) other) unended)
              (sent_append place xs ys ∙ ap (λ l. l ++ sent_for place ys) fresh ∙ sent_here (dispose a));
        }
    told_attach place from w sink NoMemory None fresh unkept unended =
        let a = brought place from w sink in
        let ys = dispose a ∷ [] in
        record {
          still = all_keep_due (λ (d : Attachment S). d.place) dues asked xs ys place kept (λ n other. sent_other n (dispose a) other) (none_kept place kept unkept) kept_all;
          ended = gone_only ys (gone_stays ys place (λ n other. sent_other n (dispose a) other) unended);
        }

    module _ (s w : ℕ) (a : Attachment S) (is : kept_for s w kept ≡ Some a) where
      few_here : times a.place (kept_places kept) ≤ 1
      few_here = omega (arith, few a.place)

      none_there : times a.place (gone_places gone) ≡ 0
      none_there = (let count = others_places a.place s w a kept is in omega (arith, count, times_self a.place, few a.place))

      so_far : sent_for a.place xs ++ dues a ≡ asked a
      so_far = found_has (λ (d : Attachment S). sent_for d.place xs ++ dues d ≡ asked d) s w a kept is kept_all

      -- one item more, for which one more is due, or a terminal, for which nothing is due
      note_due : (l : Bool) (note : Note) (flow : Flow) → is_last note ≡ l → sent_for a.place xs ++ dues (with_note note flow a) ≡ asked (with_note note flow a)
      note_due false note flow last =
          ap (λ l. sent_for a.place xs ++ to_subject a (replicate (if l then a.due else a.due + 1) (Request a.who 1))) last
          ∙ ap (λ l. sent_for a.place xs ++ to_subject a l) (sym (replicate_more a.due (Request a.who 1)))
          ∙ ap (λ l. sent_for a.place xs ++ l) (map-append (λ (event : Event). (a.subject, event)) (replicate a.due (Request a.who 1)) (Request a.who 1 ∷ []))
          ∙ sym (append_assoc (sent_for a.place xs) (dues a) (to_subject a (Request a.who 1 ∷ []))) ∙ ap (λ l. l ++ to_subject a (Request a.who 1 ∷ [])) so_far
          ∙ sym (map-append (λ (event : Event). (a.subject, event)) (item_requests a.who a.taken) (Request a.who 1 ∷ []))
          ∙ ap (to_subject a) (sym (item_requests_more a.who a.taken note ∙ ap (λ t. item_requests a.who a.taken ++ (if t then [] else Request a.who 1 ∷ [])) last))
      note_due true note flow last =
          ap (λ l. sent_for a.place xs ++ to_subject a (replicate (if l then a.due else a.due + 1) (Request a.who 1))) last
          ∙ so_far ∙ ap (to_subject a) (sym (item_requests_more a.who a.taken note ∙ ap (λ t. item_requests a.who a.taken ++ (if t then [] else Request a.who 1 ∷ [])) last ∙ append-nil (item_requests a.who a.taken)))

      -- it goes on, and is asked for all that is due
      told_cleared : (b : Attachment S) (took : Bool) → b.place ≡ a.place → sent_for b.place xs ++ dues b ≡ asked b
          → Told xs gone (record { kept = replaced s w (paid b) kept; gone = []; sends = requests b; missed = false; took = took })
      told_cleared b took place now =
          let only : Only a.place (requests b) = λ n other. many_other b.due n b (λ same. other (same ∙ place)) in
          record {
            still = asked_replaced s w a (paid b) kept xs (requests b) is few_here only kept_all
                (append-nil (sent_for b.place (xs ++ requests b)) ∙ sent_append b.place xs (requests b) ∙ ap (λ l. sent_for b.place xs ++ l) (many_here b.due b) ∙ now);
            ended = gone_only (requests b) (gone_stays (requests b) a.place only none_there);
          }

      -- it goes on, and nothing is asked for
      told_waits : (b : Attachment S) (took : Bool) → sent_for b.place xs ++ dues b ≡ asked b
          → Told xs gone (record { kept = replaced s w b kept; gone = []; sends = []; missed = false; took = took })
      told_waits b took now = record {
        still = asked_replaced s w a b kept xs [] is few_here (λ n other. refl) kept_all (keep_due b.place xs [] (dues b) (asked b) refl now);
        ended = gone_only [] (gone_stays [] a.place (λ n other. refl) none_there);
      }

      -- it has ended
      told_ended : (b : Attachment S) (why : Why) (took : Bool) → b.place ≡ a.place → at_end b.who why ≡ Dispose b.who ∷ [] → sent_for b.place xs ++ dues b ≡ asked b
          → Told xs gone (record { kept = of_others s w kept; gone = (paid b, why) ∷ []; sends = parting b; missed = false; took = took })
      told_ended b why took place end now =
          let only : Only a.place (parting b) = λ n other. parting_other n b (λ same. other (same ∙ place)) in
          record {
            still = asked_others s w a kept xs (parting b) is few_here only kept_all;
            ended = gone_more (parting b) (paid b, why) (gone_stays (parting b) a.place only none_there)
                (in_all xs (parting b) b (Dispose b.who ∷ []) now (parting_here b) ∙ ap (λ l. to_subject b (item_requests b.who b.taken ++ l)) (sym end));
          }

      -- what is due of what the attachment has come to is still to be sent for its place
      record Owes (b : Attachment S) : Type 0 where
        pub place : b.place ≡ a.place
        pub now : sent_for b.place xs ++ dues b ≡ asked b

      owes_same : Owes a
      owes_same = record { place = refl; now = so_far }

      owes_note : (note : Note) (flow : Flow) → Owes (with_note note flow a)
      owes_note note flow = record { place = refl; now = note_due (is_last note) note flow refl }

      owes_flush : (flow : Flow) → Owes (with_flush flow a)
      owes_flush flow = record { place = refl; now = so_far }

      told_ruling : (ruling : Ruling S) (took : Bool) → About Owes ruling → Disposes ruling → Told xs gone (carried_out s w ruling took kept)
      told_ruling AsItWas took owes ends = record { still = idle_kept xs kept kept_all; ended = idle_gone xs gone gone_all }
      told_ruling (HoldsBack b) took owes ends = (let t = told_waits b took owes.now in record { still = t.still; ended = t.ended })
      told_ruling (PaysAll b) took owes ends = (let t = told_cleared b took owes.place owes.now in record { still = t.still; ended = t.ended })
      told_ruling (LetsGo b) took owes ends =
          let only : Only a.place (requests b) = λ n other. many_other b.due n b (λ same. other (same ∙ owes.place)) in
          record {
            still = asked_others s w a kept xs (requests b) is few_here only kept_all;
            ended = gone_more (requests b) (paid b, Detached) (gone_stays (requests b) a.place only none_there)
                (in_all xs (requests b) b [] owes.now (many_here b.due b ∙ sym (append-nil (dues b))));
          }
      told_ruling (PutsAway b why) took owes ends = (let t = told_ended b why took owes.place ends owes.now in record { still = t.still; ended = t.ended })

    told_ruled : (s w : ℕ) (rule : Attachment S → Ruling S) (took : Attachment S → Bool) (o : Option (Attachment S)) → kept_for s w kept ≡ o
        → ((a : Attachment S) (is : kept_for s w kept ≡ Some a) → About (Owes s w a is) (rule a)) → ((a : Attachment S) → Disposes (rule a)) → Told xs gone (ruled s w rule took o kept)
    told_ruled s w rule took None is owes ends = told_idle
    told_ruled s w rule took (Some a) is owes ends = told_ruling s w a is (rule a) (took a) (owes a is) (ends a)

    told_give : (s w : ℕ) (note : Note) (mark : Mark) → Told xs gone (ruled s w (by_note mark note) (has_taken mark) (kept_for s w kept) kept)
    told_give s w note mark =
        told_ruled s w (by_note mark note) (has_taken mark) (kept_for s w kept) refl
        (λ a is. about_note (Owes s w a is) mark note a (owes_same s w a is) (owes_note s w a is note)) (disposes_note mark note)

    told_flush : (s w : ℕ) (mark : Mark) → Told xs gone (ruled s w (by_flush mark) (λ a. false) (kept_for s w kept) kept)
    told_flush s w mark =
        told_ruled s w (by_flush mark) (λ a. false) (kept_for s w kept) refl
        (λ a is. about_flush (Owes s w a is) mark a (owes_same s w a is) (owes_flush s w a is)) (disposes_flush mark)

    told_detach : (s w : ℕ) → Told xs gone (ruled s w by_leaving (λ a. false) (kept_for s w kept) kept)
    told_detach s w = told_ruled s w by_leaving (λ a. false) (kept_for s w kept) refl (λ a is. about_leaving (Owes s w a is) a (owes_same s w a is)) disposes_leaving

    told_post : (b : Bool) (place from : ℕ) (post : Post (Out S)) (mark : Mark) → sent_for place xs ≡ [] → times place (kept_places kept) ≡ 0 → times place (gone_places gone) ≡ 0
        → Told xs gone (post_change b place from post mark kept)
    told_post true place from (Body out) mark fresh unkept unended = told_idle
    told_post true place from Bye mark fresh unkept unended = record {
      still = tt;
      ended = all_append (λ (e : Attachment S × Why). sent_for e.0.place (xs ++ partings kept) ≡ asked_in_all e) gone (closed kept)
          (gone_left xs kept gone few gone_all) (closing xs [] kept (λ n. omega (arith, few n)) kept_all);
    }
    told_post false place from Bye mark fresh unkept unended = told_idle
    told_post false place from (Body (Attach w sink)) mark fresh unkept unended = told_attach place from w sink mark (kept_for from w kept) fresh unkept unended
    told_post false place from (Body (Give w note)) mark fresh unkept unended = told_give from w note mark
    told_post false place from (Body (Detach w)) mark fresh unkept unended = told_detach from w

    told_letter : (b : Bool) (leave place : ℕ) (x : Letter (Out S)) (mark : Mark) → sent_for place xs ≡ [] → times place (kept_places kept) ≡ 0 → times place (gone_places gone) ≡ 0
        → Told xs gone (letter_change b leave place x mark kept)
    told_letter true leave place x mark fresh unkept unended = told_idle
    told_letter false leave place x mark fresh unkept unended = told_post (x.from == leave) place x.from x.post mark fresh unkept unended

  -- OTHER PLACES

  -- what a letter sends for a place at which no attachment stands: nothing, or just where its sink found no memory a disposal
  abbrev Quiet : ℕ → ℕ → List ℕ → Letter (Out S) → Change S → Type 0
  Quiet n place missed x c =
      ((times n missed ≡ 0) × (sent_for n c.sends ≡ []))
      ⊎ ((times n missed ≡ 1) × (from : ℕ) × (w : ℕ) × (sink : S) × (place ≡ n) × (x ≡ letter from (Body (Attach w sink))) × (sent_for n c.sends ≡ (from, Dispose w) ∷ []))

  module _ (n : ℕ) (kept : List (Attachment S)) (apart : AllByRecursion (λ a. a.place ≢ n) kept) where
    quiet_attach : (place from w : ℕ) (sink : S) (mark : Mark) (o : Option (Attachment S))
        → times n (gone_places (attached mark (brought place from w sink) o kept).gone) ≡ 0
        → Quiet n place (place_by missed_by mark place o) (letter from (Body (Attach w sink))) (attached mark (brought place from w sink) o kept)
    quiet_attach place from w sink mark (Some other) none = inl (refl, refl)
    quiet_attach place from w sink (Fine flow) None none = inl (refl, refl)
    quiet_attach place from w sink Fault None none =
        inl (refl, sent_other n (dispose (brought place from w sink)) (λ same. (let a = none_gone n ((brought place from w sink, FailedAtStart) ∷ []) none in a.0 (sym same))))
    quiet_attach place from w sink NoMemory None none =
        elim (eqb_tells place n) [
          | inl (test, same) ↦ inr (
            ap (λ t. (if t then 1 else 0) + 0) test,
            from,
            w,
            sink,
            same,
            refl,
            subst (λ (m : ℕ). sent_for m (dispose (brought place from w sink) ∷ []) ≡ (from, Dispose w) ∷ []) same (sent_here (dispose (brought place from w sink))),
          )
          | inr (test, other) ↦ inl (ap (λ t. (if t then 1 else 0) + 0) test, sent_other n (dispose (brought place from w sink)) (λ same. other (sym same)))
        ]

    quiet_ruling : (ruling : Ruling S) → About (λ (b : Attachment S). b.place ≢ n) ruling → sent_for n (sends_by ruling) ≡ []
    quiet_ruling AsItWas other = refl
    quiet_ruling (HoldsBack b) other = refl
    quiet_ruling (PaysAll b) other = many_other b.due n b (λ same. other (sym same))
    quiet_ruling (LetsGo b) other = many_other b.due n b (λ same. other (sym same))
    quiet_ruling (PutsAway b why) other = parting_other n b (λ same. other (sym same))

    quiet_ruled : (s w : ℕ) (rule : Attachment S → Ruling S) (took : Attachment S → Bool) (o : Option (Attachment S)) → kept_for s w kept ≡ o
        → ((a : Attachment S) → a.place ≢ n → About (λ (b : Attachment S). b.place ≢ n) (rule a)) → sent_for n (ruled s w rule took o kept).sends ≡ []
    quiet_ruled s w rule took None is other = refl
    quiet_ruled s w rule took (Some a) is other = quiet_ruling (rule a) (other a (found_has (λ (d : Attachment S). d.place ≢ n) s w a kept is apart))

    quiet_give : (s w : ℕ) (note : Note) (mark : Mark) → sent_for n (ruled s w (by_note mark note) (has_taken mark) (kept_for s w kept) kept).sends ≡ []
    quiet_give s w note mark =
        quiet_ruled s w (by_note mark note) (has_taken mark) (kept_for s w kept) refl (λ a other. about_note (λ (b : Attachment S). b.place ≢ n) mark note a other (λ flow. other))

    quiet_flush : (s w : ℕ) (mark : Mark) → sent_for n (ruled s w (by_flush mark) (λ a. false) (kept_for s w kept) kept).sends ≡ []
    quiet_flush s w mark =
        quiet_ruled s w (by_flush mark) (λ a. false) (kept_for s w kept) refl (λ a other. about_flush (λ (b : Attachment S). b.place ≢ n) mark a other (λ flow. other))

    quiet_detach : (s w : ℕ) → sent_for n (ruled s w by_leaving (λ a. false) (kept_for s w kept) kept).sends ≡ []
    quiet_detach s w = quiet_ruled s w by_leaving (λ a. false) (kept_for s w kept) refl (λ a other. about_leaving (λ (b : Attachment S). b.place ≢ n) a other)

    quiet_post : (b : Bool) (place from : ℕ) (post : Post (Out S)) (mark : Mark) → times n (gone_places (post_change b place from post mark kept).gone) ≡ 0
        → Quiet n place (post_by missed_by b place from post mark kept) (letter from post) (post_change b place from post mark kept)
    quiet_post true place from (Body out) mark none = inl (refl, refl)
    quiet_post true place from Bye mark none = inl (refl, none_sent n kept apart)
    quiet_post false place from Bye mark none = inl (refl, refl)
    quiet_post false place from (Body (Attach w sink)) mark none = quiet_attach place from w sink mark (kept_for from w kept) none
    quiet_post false place from (Body (Give w note)) mark none = inl (refl, quiet_give from w note mark)
    quiet_post false place from (Body (Detach w)) mark none = inl (refl, quiet_detach from w)

    quiet_letter : (b : Bool) (leave place : ℕ) (x : Letter (Out S)) (mark : Mark) → times n (gone_places (letter_change b leave place x mark kept).gone) ≡ 0
        → Quiet n place (letter_by missed_by b leave place x mark kept) x (letter_change b leave place x mark kept)
    quiet_letter true leave place x mark none = inl (refl, refl)
    quiet_letter false leave place x mark none = quiet_post (x.from == leave) place x.from x.post mark none

  -- nothing was sent for a place to come, and no sink missed there
  fresh_place : (missed : List ℕ) (xs : List Sent) (received : List (Letter (Out S))) → Other missed xs received (length received)
      → (times (length received) missed ≡ 0) × (sent_for (length received) xs ≡ [])
  fresh_place missed xs received (inl none) = none
  fresh_place missed xs received (inr (one, a, place, stands, is)) =
      absurd (past received _ (subst (λ (n : ℕ). slice_get received n ≡ Some (letter a.subject (Body (Attach a.who a.sink)))) place stands))

  other_stays : (missed more : List ℕ) (xs ys : List Sent) (received : List (Letter (Out S))) (x : Letter (Out S)) (n : ℕ) → times n more ≡ 0 → sent_for n ys ≡ []
      → Other missed xs received n → Other (missed ++ more) (xs ++ ys) (received ++ x ∷ []) n
  other_stays missed more xs ys received x n no_more none (inl (zero_yet, is)) = inl (omega (arith, zero_yet, no_more, times-append n missed more), keep n xs ys [] none is)
  other_stays missed more xs ys received x n no_more none (inr (one, a, place, stands, is)) = inr (
    omega (arith, one, no_more, times-append n missed more),
    a,
    place,
    slice_get-append_left received (x ∷ []) a.place _ stands,
    keep n xs ys (to_subject a (Dispose a.who ∷ [])) none is,
  )

  other_keeps : (missed : List ℕ) (xs ys : List Sent) (received : List (Letter (Out S))) (n : ℕ) → sent_for n ys ≡ [] → Other missed xs received n → Other missed (xs ++ ys) received n
  other_keeps missed xs ys received n none (inl (zero_yet, is)) = inl (zero_yet, keep n xs ys [] none is)
  other_keeps missed xs ys received n none (inr (one, a, place, stands, is)) = inr (one, a, place, stands, keep n xs ys (to_subject a (Dispose a.who ∷ [])) none is)

  other_next : (missed more : List ℕ) (xs : List Sent) (received : List (Letter (Out S))) (x : Letter (Out S)) (n : ℕ) (c : Change S) → Quiet n (length received) more x c
      → Other missed xs received n → Other missed xs received (length received) → Other (missed ++ more) (xs ++ c.sends) (received ++ x ∷ []) n
  other_next missed more xs received x n c (inl (no_more, none)) other fresh = other_stays missed more xs c.sends received x n no_more none other
  other_next missed more xs received x n c (inr (one_more, from, w, sink, place, is, one)) other fresh =
      let before = subst (λ (m : ℕ). (times m missed ≡ 0) × (sent_for m xs ≡ [])) place (fresh_place missed xs received fresh) in
      let at : slice_get (received ++ x ∷ []) (length received) ≡ Some x =
      ap (slice_get (received ++ x ∷ [])) (let e : length received ≡ length received + 0 = omega arith in e) ∙ slice_get-append_right received (x ∷ []) 0 in
      inr (
        omega (arith, before.0, one_more, times-append n missed more),
        brought (length received) from w sink,
        place,
        at ∙ ap (λ (y : Letter (Out S)). Some y) is,
        sent_append n xs c.sends ∙ ap (λ l. l ++ sent_for n c.sends) before.1 ∙ one,
      )

-- ALL LETTERS

module _ {S : Type 0} (leave : ℕ) where
  record Holds (log : Log S) : Type 0 where
    pub kept : Asked (sent_in leave log) (kept_in leave log)
    pub gone : AskedAll (sent_in leave log) (gone_in leave log)
    pub others : (n : ℕ) → times n (kept_places (kept_in leave log)) + times n (gone_places (gone_in leave log)) ≡ 0
        → Other (missed_at leave log) (sent_in leave log) (letters log) n

  few_in : (log : Log S) → Few (kept_in leave log) (gone_in leave log)
  few_in log n = omega (arith, same leave log n, once leave log n)

  none_yet : (log : Log S) → times (length (letters log)) (kept_places (kept_in leave log)) + times (length (letters log)) (gone_places (gone_in leave log)) ≡ 0
  none_yet log = omega (arith, same leave log (length (letters log)), below leave log (length (letters log)) (omega arith))

  holds_others : (log : Log S) (x : Letter (Out S)) (mark : Mark) → Holds log → (n : ℕ)
      → times n (kept_places (kept_in leave (Next log x mark))) + times n (gone_places (gone_in leave (Next log x mark))) ≡ 0
      → Other (missed_at leave (Next log x mark)) (sent_in leave (Next log x mark)) (letters (Next log x mark)) n
  holds_others log x mark h n none =
      let c = change leave log x mark in
      let after = same leave (Next log x mark) n in
      let before = same leave log n in
      let found = times-append n (found_in leave log) (letter_by found_by (has_left leave log) leave (length (letters log)) x mark (kept_in leave log)) in
      let gone = ap (times n) (map-append (λ (end : Attachment S × Why). end.0.place) (gone_in leave log) c.gone) ∙ times-append n (gone_places (gone_in leave log)) (gone_places c.gone) in
      let was : times n (kept_places (kept_in leave log)) + times n (gone_places (gone_in leave log)) ≡ 0 = omega (arith, none, after, before, found) in
      let quiet = quiet_letter n (kept_in leave log) (none_kept n (kept_in leave log) (omega (arith, was))) (has_left leave log) leave (length (letters log)) x mark (omega (arith, none, gone)) in
      other_next (missed_at leave log) (letter_by missed_by (has_left leave log) leave (length (letters log)) x mark (kept_in leave log)) (sent_in leave log) (letters log) x n c quiet (h.others n was) (h.others (length (letters log)) (none_yet log))

  -- a flush sends for the attachments that are kept alone
  other_flush : (log : Log S) (s w : ℕ) (mark : Mark) → Holds log → (n : ℕ)
      → times n (kept_places (kept_in leave (Flush log s w mark))) + times n (gone_places (gone_in leave (Flush log s w mark))) ≡ 0
      → Other (missed_at leave log) (sent_in leave (Flush log s w mark)) (letters log) n
  other_flush log s w mark h n none =
      let c = flush_change leave log s w mark in
      let after = same leave (Flush log s w mark) n in
      let before = same leave log n in
      let was : times n (kept_places (kept_in leave log)) + times n (gone_places (gone_in leave log)) ≡ 0 = omega (arith, none, after, before) in
      let quiet = quiet_flush n (kept_in leave log) (none_kept n (kept_in leave log) (omega (arith, was))) s w mark in
      other_keeps (missed_at leave log) (sent_in leave log) c.sends (letters log) n quiet (h.others n was)

  holds : (log : Log S) → Holds log
  holds NoLetters = record { kept = tt; gone = tt; others = λ n none. inl (refl, refl) }
  holds (Next log x mark) =
      let h = holds log in
      let fresh = (fresh_place (missed_at leave log) (sent_in leave log) (letters log) (h.others (length (letters log)) (none_yet log))).1 in
      let none = none_yet log in
      let t = told_letter (sent_in leave log) (kept_in leave log) (gone_in leave log) (few_in log) h.kept h.gone (has_left leave log) leave (length (letters log)) x mark fresh
      (omega (arith, none)) (omega (arith, none)) in
      record { kept = t.still; gone = t.ended; others = holds_others log x mark h }
  holds (Flush log s w mark) =
      let h = holds log in
      let t = told_flush (sent_in leave log) (kept_in leave log) (gone_in leave log) (few_in log) h.kept h.gone s w mark in
      record { kept = t.still; gone = t.ended; others = other_flush log s w mark h }

-- a place that was missed, or was not
module _ {S : Type 0} where
  was_missed : (missed : List ℕ) (xs : List Sent) (received : List (Letter (Out S))) (n : ℕ) → times n missed ≡ 1 → Other missed xs received n
      → (a : Attachment S) × (a.place ≡ n) × AttachCame received a × (sent_for n xs ≡ to_subject a (Dispose a.who ∷ []))
  was_missed missed xs received n one (inl (none, is)) = absurd (omega (arith, one, none))
  was_missed missed xs received n one (inr (_, a, place, stands, is)) = (a, place, stands, is)

  was_not : (missed : List ℕ) (xs : List Sent) (received : List (Letter (Out S))) (n : ℕ) → times n missed ≡ 0 → Other missed xs received n → sent_for n xs ≡ []
  was_not missed xs received n none (inl (_, is)) = is
  was_not missed xs received n none (inr (one, a, place, stands, is)) = absurd (omega (arith, one, none))

pub each_is_sent_for : {S : Type 0} (leave : ℕ) (log : Log S) → IsSentForEach leave log
each_is_sent_for leave log =
    let h = holds leave log in
    let places = λ (n : ℕ). times-append n (kept_places (kept_in leave log)) (gone_places (gone_in leave log)) in
    record {
      kept = h.kept;
      gone = h.gone;
      missed = λ n one. was_missed (missed_at leave log) (sent_in leave log) (letters log) n one (h.others n (omega (arith, one, once_in_all leave log n, same leave log n)));
      others = λ n none.
          (let all = places n in was_not (missed_at leave log) (sent_in leave log) (letters log) n (omega (arith, none)) (h.others n (omega (arith, none, all))));
      once = λ n. (let all = places n in omega (arith, all, once_in_all leave log n, same leave log n));
      misses = misses leave log;
    }
