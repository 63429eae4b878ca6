-- Each sink of a log that found its place is kept or was put away, once.
use Rattle.std.proofs.Common.{◌≡◌, ◌≢◌, ◌∙◌, sym, refl, ap, subst, ℕ, ◌+◌, ◌≤◌, ◌==◌, ◌⊎◌, inl, inr, if◌then◌else◌, Bool, true, false, List, [], ◌∷◌, ◌++◌, length, length-append, map, Option, Some, None, arith}
use Rattle.std.proofs.lemmas.Bool.Decides.{eqb_tells}
use Rattle.std.proofs.lemmas.List.{map-append}
use Rattle.rx_mailbox.specs.declared.letter.Letter.{Letter}
use Rattle.rx_mailbox.specs.declared.letter.Post.{Post}
use Rattle.rx_mailbox.specs.declared.letter.Post.TheVariants.{Body, Bye}
use Rattle.rx_pump.specs.declared.out.Out.{Out}
use Rattle.rx_pump.specs.declared.out.Out.TheVariants.{Attach, Give, Detach}
use Rattle.rx_sink.specs.Attachments.{Attachment, Why, Mark, Fine, Fault, NoMemory, Change, Ruling, AsItWas, HoldsBack, PaysAll, LetsGo, PutsAway, is_of, kept_for, of_others, replaced, paid, by_note, has_taken, by_flush, by_leaving, carried_out, ruled, attached, closed, brought}
use Rattle.rx_drain.specs.Logs.{Log, NoLetters, Next, Flush, letters, has_left, letter_change, kept_in, change, flush_change, gone_in, one_if, missed_in}
use Rattle.rx_drain.proofs.Changing.{post_change, post_by}
use Rattle.rx_drain.proofs.Rulings.{About, about_note, about_flush, about_leaving}
use Rattle.rx_drain.specs.Once.{times, found_by, missed_by, place_by, letter_by, places_by, found_in, missed_at, EachOnce}
use Rattle.rx_drain.proofs.Taking.{some_split}
use Rattle.rx_sink.proofs.Counts.{none_missed}

pub times-append : (n : ℕ) (xs ys : List ℕ) → times n (xs ++ ys) ≡ times n xs + times n ys
times-append n [] ys = (let e : times n ys ≡ 0 + times n ys = omega arith in e)
times-append n (m ∷ xs) ys = (let ih = times-append n xs ys in omega (arith, ih))

times_other : (n m : ℕ) → m ≢ n → times n (m ∷ []) ≡ 0
times_other n m other =
    elim (eqb_tells m n) [
      | inl (test, same) ↦ absurd (other same)
      | inr (test, apart) ↦ ap (λ t. (if t then 1 else 0) + 0) test
    ]

times_one : (n m : ℕ) → times n (m ∷ []) ≤ 1
times_one n m =
    elim (eqb_tells m n) [
      | inl (test, same) ↦ (let e : times n (m ∷ []) ≡ 1 = ap (λ t. (if t then 1 else 0) + 0) test in omega (arith, e))
      | inr (test, apart) ↦ (let e : times n (m ∷ []) ≡ 0 = ap (λ t. (if t then 1 else 0) + 0) test in omega (arith, e))
    ]

-- a letter finds no other place than its own
none_other : (n place : ℕ) (found : List ℕ) → place ≢ n → (found ≡ []) ⊎ (found ≡ place ∷ []) → times n found ≡ 0
none_other n place found other (inl is) = ap (times n) is
none_other n place found other (inr is) = ap (times n) is ∙ times_other n place other

one_at_most : (n place : ℕ) (found : List ℕ) → (found ≡ []) ⊎ (found ≡ place ∷ []) → times n found ≤ 1
one_at_most n place found (inl is) = (let e : times n found ≡ 0 = ap (times n) is in omega (arith, e))
one_at_most n place found (inr is) = (let e : times n found ≡ times n (place ∷ []) = ap (times n) is in omega (arith, e, times_one n place))

once_by : (n place before one : ℕ) → before ≤ 1 → one ≤ 1 → (place ≤ n → before ≡ 0) → (place ≢ n → one ≡ 0) → (place ≡ n) ⊎ (place ≢ n) → before + one ≤ 1
once_by n place before one few single fresh other (inl same) = (let none = fresh (omega (arith, same)) in omega (arith, none, single))
once_by n place before one few single fresh other (inr apart) = (let none = other apart in omega (arith, none, few))

same_or : (m n : ℕ) → (m ≡ n) ⊎ (m ≢ n)
same_or m n = elim (eqb_tells m n) [ inl (test, same) ↦ inl same | inr (test, apart) ↦ inr apart ]

found_single : (mark : Mark) (place : ℕ) → (found_by mark place ≡ []) ⊎ (found_by mark place ≡ place ∷ [])
found_single (Fine flow) place = inr refl
found_single Fault place = inr refl
found_single NoMemory place = inl refl

both_single : (mark : Mark) (place : ℕ) → (found_by mark place ++ missed_by mark place ≡ []) ⊎ (found_by mark place ++ missed_by mark place ≡ place ∷ [])
both_single (Fine flow) place = inr refl
both_single Fault place = inr refl
both_single NoMemory place = inr refl

-- found or missed
abbrev both_by : Mark → ℕ → List ℕ
both_by mark place = found_by mark place ++ missed_by mark place

module _ {S : Type 0} where
  -- WHICH PLACES

  module _ (by : Mark → ℕ → List ℕ) (single : (mark : Mark) (place : ℕ) → (by mark place ≡ []) ⊎ (by mark place ≡ place ∷ [])) where
    place_cases : (mark : Mark) (place : ℕ) (o : Option (Attachment S)) → (place_by by mark place o ≡ []) ⊎ (place_by by mark place o ≡ place ∷ [])
    place_cases mark place (Some other) = inl refl
    place_cases mark place None = single mark place

    post_cases : (b : Bool) (place from : ℕ) (post : Post (Out S)) (mark : Mark) (kept : List (Attachment S))
        → (post_by by b place from post mark kept ≡ []) ⊎ (post_by by b place from post mark kept ≡ place ∷ [])
    post_cases true place from post mark kept = inl refl
    post_cases false place from (Body (Attach who sink)) mark kept = place_cases mark place (kept_for from who kept)
    post_cases false place from (Body (Give who note)) mark kept = inl refl
    post_cases false place from (Body (Detach who)) mark kept = inl refl
    post_cases false place from Bye mark kept = inl refl

    letter_cases : (b : Bool) (leave place : ℕ) (x : Letter (Out S)) (mark : Mark) (kept : List (Attachment S))
        → (letter_by by b leave place x mark kept ≡ []) ⊎ (letter_by by b leave place x mark kept ≡ place ∷ [])
    letter_cases true leave place x mark kept = inl refl
    letter_cases false leave place x mark kept = post_cases (x.from == leave) place x.from x.post mark kept

    -- the places so far are below the length
    below_by : (leave : ℕ) (log : Log S) (n : ℕ) → length (letters log) ≤ n → times n (places_by by leave log) ≡ 0
    below_by leave NoLetters n past = refl
    below_by leave (Flush log s w mark) n past = below_by leave log n past
    below_by leave (Next log x mark) n past =
        let found = letter_by by (has_left leave log) leave (length (letters log)) x mark (kept_in leave log) in
        let count = length-append (letters log) (x ∷ []) in
        let later : length (letters log) ≤ n = omega (arith, past, count) in
        let apart : length (letters log) ≢ n = λ same. omega (arith, past, count, same) in
        let first = below_by leave log n later in
        let second = none_other n (length (letters log)) found apart (letter_cases (has_left leave log) leave (length (letters log)) x mark (kept_in leave log)) in
        times-append n (places_by by leave log) found ∙ (let e : times n (places_by by leave log) + times n found ≡ 0 = omega (arith, first, second) in e)

    -- and no two are the same
    once_each : (leave : ℕ) (log : Log S) (n : ℕ) → times n (places_by by leave log) ≤ 1
    once_each leave NoLetters n = omega arith
    once_each leave (Flush log s w mark) n = once_each leave log n
    once_each leave (Next log x mark) n =
        let place = length (letters log) in
        let found = letter_by by (has_left leave log) leave place x mark (kept_in leave log) in
        let cases = letter_cases (has_left leave log) leave place x mark (kept_in leave log) in
        let both = once_by n place (times n (places_by by leave log)) (times n found) (once_each leave log n) (one_at_most n place found cases)
        (below_by leave log n) (λ apart. none_other n place found apart cases) (same_or place n) in
        omega (arith, times-append n (places_by by leave log) found, both)

  -- the places found so far are below the length
  pub below : (leave : ℕ) (log : Log S) (n : ℕ) → length (letters log) ≤ n → times n (found_in leave log) ≡ 0
  below leave log n past = below_by found_by found_single leave log n past

  pub once : (leave : ℕ) (log : Log S) (n : ℕ) → times n (found_in leave log) ≤ 1
  once leave log n = once_each found_by found_single leave log n

  -- FOUND OR MISSED

  place_both : (mark : Mark) (place : ℕ) (o : Option (Attachment S)) (n : ℕ)
      → times n (place_by both_by mark place o) ≡ times n (place_by found_by mark place o) + times n (place_by missed_by mark place o)
  place_both mark place (Some other) n = refl
  place_both mark place None n = times-append n (found_by mark place) (missed_by mark place)

  post_both : (b : Bool) (place from : ℕ) (post : Post (Out S)) (mark : Mark) (kept : List (Attachment S)) (n : ℕ)
      → times n (post_by both_by b place from post mark kept) ≡ times n (post_by found_by b place from post mark kept) + times n (post_by missed_by b place from post mark kept)
  post_both true place from post mark kept n = refl
  post_both false place from (Body (Attach who sink)) mark kept n = place_both mark place (kept_for from who kept) n
  post_both false place from (Body (Give who note)) mark kept n = refl
  post_both false place from (Body (Detach who)) mark kept n = refl
  post_both false place from Bye mark kept n = refl

  letter_both : (b : Bool) (leave place : ℕ) (x : Letter (Out S)) (mark : Mark) (kept : List (Attachment S)) (n : ℕ)
      → times n (letter_by both_by b leave place x mark kept) ≡ times n (letter_by found_by b leave place x mark kept) + times n (letter_by missed_by b leave place x mark kept)
  letter_both true leave place x mark kept n = refl
  letter_both false leave place x mark kept n = post_both (x.from == leave) place x.from x.post mark kept n

  all_both : (leave : ℕ) (log : Log S) (n : ℕ) → times n (places_by both_by leave log) ≡ times n (found_in leave log) + times n (missed_at leave log)
  all_both leave NoLetters n = refl
  all_both leave (Flush log s w mark) n = all_both leave log n
  all_both leave (Next log x mark) n =
      let place = length (letters log) in
      let kept = kept_in leave log in
      let left = has_left leave log in
      omega (
        arith,
        all_both leave log n,
        letter_both left leave place x mark kept n,
        times-append n (places_by both_by leave log) (letter_by both_by left leave place x mark kept),
        times-append n (found_in leave log) (letter_by found_by left leave place x mark kept),
        times-append n (missed_at leave log) (letter_by missed_by left leave place x mark kept),
      )

  -- no place is found and missed, and none twice
  pub once_in_all : (leave : ℕ) (log : Log S) (n : ℕ) → times n (found_in leave log) + times n (missed_at leave log) ≤ 1
  once_in_all leave log n = (let one = once_each both_by both_single leave log n in omega (arith, one, all_both leave log n))

  -- as many were missed as are counted
  place_misses : (mark : Mark) (place : ℕ) (a : Attachment S) (o : Option (Attachment S)) (kept : List (Attachment S))
      → length (place_by missed_by mark place o) ≡ one_if (attached mark a o kept).missed
  place_misses mark place a (Some other) kept = refl
  place_misses (Fine flow) place a None kept = refl
  place_misses Fault place a None kept = refl
  place_misses NoMemory place a None kept = refl

  post_misses : (b : Bool) (place from : ℕ) (post : Post (Out S)) (mark : Mark) (kept : List (Attachment S))
      → length (post_by missed_by b place from post mark kept) ≡ one_if (post_change b place from post mark kept).missed
  post_misses true place from (Body out) mark kept = refl
  post_misses true place from Bye mark kept = refl
  post_misses false place from (Body (Attach who sink)) mark kept = place_misses mark place (brought place from who sink) (kept_for from who kept) kept
  post_misses false place from (Body (Give who note)) mark kept = sym (ap one_if (none_missed from who (by_note mark note) (has_taken mark) (kept_for from who kept) kept))
  post_misses false place from (Body (Detach who)) mark kept = sym (ap one_if (none_missed from who by_leaving (λ a. false) (kept_for from who kept) kept))
  post_misses false place from Bye mark kept = refl

  letter_misses : (b : Bool) (leave place : ℕ) (x : Letter (Out S)) (mark : Mark) (kept : List (Attachment S))
      → length (letter_by missed_by b leave place x mark kept) ≡ one_if (letter_change b leave place x mark kept).missed
  letter_misses true leave place x mark kept = refl
  letter_misses false leave place x mark kept = post_misses (x.from == leave) place x.from x.post mark kept

  pub misses : (leave : ℕ) (log : Log S) → length (missed_at leave log) ≡ missed_in leave log
  misses leave NoLetters = refl
  misses leave (Flush log s w mark) =
      let none = ap one_if (none_missed s w (by_flush mark) (λ a. false) (kept_for s w (kept_in leave log)) (kept_in leave log)) in
      omega (arith, misses leave log, none)
  misses leave (Next log x mark) =
      let now = letter_by missed_by (has_left leave log) leave (length (letters log)) x mark (kept_in leave log) in
      omega (arith, misses leave log, letter_misses (has_left leave log) leave (length (letters log)) x mark (kept_in leave log), length-append (missed_at leave log) now)

  -- KEPT OR ENDED

  abbrev pub kept_places : List (Attachment S) → List ℕ
  kept_places kept = map (λ a. a.place) kept

  abbrev pub gone_places : List (Attachment S × Why) → List ℕ
  gone_places gone = map (λ end. end.0.place) gone

  others_step : (n s w : ℕ) (c a : Attachment S) (kept : List (Attachment S)) → kept_for s w (c ∷ kept) ≡ Some a
      → (kept_for s w kept ≡ Some a → times n (kept_places (of_others s w kept)) + times n (a.place ∷ []) ≡ times n (kept_places kept))
      → times n (kept_places (of_others s w (c ∷ kept))) + times n (a.place ∷ []) ≡ times n (kept_places (c ∷ kept))
  others_step n s w c a kept is next =
      elim (some_split (is_of s w c) c a (kept_for s w kept) is) [
        | inl (test, same) ↦
            subst (λ (t : Bool). times n (kept_places (if t then kept else c ∷ of_others s w kept)) + times n (a.place ∷ []) ≡ times n (kept_places (c ∷ kept))) (sym test)
            (subst (λ (d : Attachment S). times n (kept_places kept) + times n (d.place ∷ []) ≡ times n (kept_places (c ∷ kept))) same (omega arith))
        | inr (test, later) ↦
            subst (λ (t : Bool). times n (kept_places (if t then kept else c ∷ of_others s w kept)) + times n (a.place ∷ []) ≡ times n (kept_places (c ∷ kept))) (sym test)
            (let ih = next later in omega (arith, ih))
      ]

  pub others_places : (n s w : ℕ) (a : Attachment S) (kept : List (Attachment S)) → kept_for s w kept ≡ Some a
      → times n (kept_places (of_others s w kept)) + times n (a.place ∷ []) ≡ times n (kept_places kept)
  others_places n s w a [] is = cc
  others_places n s w a (c ∷ kept) is = others_step n s w c a kept is (others_places n s w a kept)

  replaced_step : (n s w : ℕ) (c a b : Attachment S) (kept : List (Attachment S)) → b.place ≡ a.place → kept_for s w (c ∷ kept) ≡ Some a
      → (kept_for s w kept ≡ Some a → times n (kept_places (replaced s w b kept)) ≡ times n (kept_places kept))
      → times n (kept_places (replaced s w b (c ∷ kept))) ≡ times n (kept_places (c ∷ kept))
  replaced_step n s w c a b kept place is next =
      elim (some_split (is_of s w c) c a (kept_for s w kept) is) [
        | inl (test, same) ↦
            subst (λ (t : Bool). times n (kept_places (if t then b ∷ kept else c ∷ replaced s w b kept)) ≡ times n (kept_places (c ∷ kept))) (sym test)
            (ap (λ (m : ℕ). times n (m ∷ kept_places kept)) (place ∙ sym (ap (λ (d : Attachment S). d.place) same)))
        | inr (test, later) ↦
            subst (λ (t : Bool). times n (kept_places (if t then b ∷ kept else c ∷ replaced s w b kept)) ≡ times n (kept_places (c ∷ kept))) (sym test)
            (ap (λ (m : ℕ). (if c.place == n then 1 else 0) + m) (next later))
      ]

  replaced_places : (n s w : ℕ) (a b : Attachment S) (kept : List (Attachment S)) → b.place ≡ a.place → kept_for s w kept ≡ Some a
      → times n (kept_places (replaced s w b kept)) ≡ times n (kept_places kept)
  replaced_places n s w a b [] place is = cc
  replaced_places n s w a b (c ∷ kept) place is = replaced_step n s w c a b kept place is (replaced_places n s w a b kept place)

  pub closed_places : (kept : List (Attachment S)) → gone_places (closed kept) ≡ kept_places kept
  closed_places [] = refl
  closed_places (a ∷ kept) = ap (λ (l : List ℕ). a.place ∷ l) (closed_places kept)

  -- what a letter brings is kept or has ended after it, and what was kept before
  abbrev pub Moves : ℕ → List (Attachment S) → List ℕ → Change S → Type 0
  Moves n kept found c = times n (kept_places c.kept) + times n (gone_places c.gone) ≡ times n (kept_places kept) + times n found

  moves_attach : (n place : ℕ) (mark : Mark) (a : Attachment S) (o : Option (Attachment S)) (kept : List (Attachment S)) → a.place ≡ place
      → Moves n kept (place_by found_by mark place o) (attached mark a o kept)
  moves_attach n place mark a (Some other) kept is = refl
  moves_attach n place (Fine flow) a None kept is =
      let added = ap (times n) (map-append (λ (b : Attachment S). b.place) kept (a ∷ [])) ∙ times-append n (kept_places kept) (a.place ∷ []) in
      let one : times n (a.place ∷ []) ≡ times n (place ∷ []) = ap (λ (m : ℕ). times n (m ∷ [])) is in
      omega (arith, added, one)
  moves_attach n place Fault a None kept is = ap (λ (m : ℕ). times n (kept_places kept) + times n (m ∷ [])) is
  moves_attach n place NoMemory a None kept is = refl

  moves_ruling : (n s w : ℕ) (ruling : Ruling S) (took : Bool) (a : Attachment S) (kept : List (Attachment S)) → kept_for s w kept ≡ Some a → About (λ b. b.place ≡ a.place) ruling
      → Moves n kept [] (carried_out s w ruling took kept)
  moves_ruling n s w AsItWas took a kept is place = refl
  moves_ruling n s w (HoldsBack b) took a kept is place = ap (λ (m : ℕ). m + 0) (replaced_places n s w a b kept place is)
  moves_ruling n s w (PaysAll b) took a kept is place = ap (λ (m : ℕ). m + 0) (replaced_places n s w a (paid b) kept place is)
  moves_ruling n s w (LetsGo b) took a kept is place =
      (let e = others_places n s w a kept is in let p : times n (b.place ∷ []) ≡ times n (a.place ∷ []) = ap (λ (m : ℕ). times n (m ∷ [])) place in omega (arith, e, p))
  moves_ruling n s w (PutsAway b why) took a kept is place =
      (let e = others_places n s w a kept is in let p : times n (b.place ∷ []) ≡ times n (a.place ∷ []) = ap (λ (m : ℕ). times n (m ∷ [])) place in omega (arith, e, p))

  moves_ruled : (n s w : ℕ) (rule : Attachment S → Ruling S) (took : Attachment S → Bool) (o : Option (Attachment S)) (kept : List (Attachment S)) → kept_for s w kept ≡ o
      → ((a : Attachment S) → About (λ b. b.place ≡ a.place) (rule a)) → Moves n kept [] (ruled s w rule took o kept)
  moves_ruled n s w rule took None kept is place = refl
  moves_ruled n s w rule took (Some a) kept is place = moves_ruling n s w (rule a) (took a) a kept is (place a)

  moves_post : (n : ℕ) (b : Bool) (place from : ℕ) (post : Post (Out S)) (mark : Mark) (kept : List (Attachment S))
      → Moves n kept (post_by found_by b place from post mark kept) (post_change b place from post mark kept)
  moves_post n true place from (Body out) mark kept = refl
  moves_post n true place from Bye mark kept = (let e : times n (gone_places (closed kept)) ≡ times n (kept_places kept) = ap (times n) (closed_places kept) in omega (arith, e))
  moves_post n false place from (Body (Attach who sink)) mark kept = moves_attach n place mark (brought place from who sink) (kept_for from who kept) kept refl
  moves_post n false place from (Body (Give who note)) mark kept = moves_ruled n from who (by_note mark note) (has_taken mark) (kept_for from who kept) kept refl (λ a. about_note (λ b. b.place ≡ a.place) mark note a refl (λ flow. refl))
  moves_post n false place from (Body (Detach who)) mark kept = moves_ruled n from who by_leaving (λ a. false) (kept_for from who kept) kept refl (λ a. about_leaving (λ b. b.place ≡ a.place) a refl)
  moves_post n false place from Bye mark kept = refl

  pub moves_letter : (n : ℕ) (b : Bool) (leave place : ℕ) (x : Letter (Out S)) (mark : Mark) (kept : List (Attachment S))
      → Moves n kept (letter_by found_by b leave place x mark kept) (letter_change b leave place x mark kept)
  moves_letter n true leave place x mark kept = refl
  moves_letter n false leave place x mark kept = moves_post n (x.from == leave) place x.from x.post mark kept

  pub same : (leave : ℕ) (log : Log S) (n : ℕ) → times n (kept_places (kept_in leave log)) + times n (gone_places (gone_in leave log)) ≡ times n (found_in leave log)
  same leave NoLetters n = refl
  same leave (Next log x mark) n =
      let c = change leave log x mark in
      let before = same leave log n in
      let step = moves_letter n (has_left leave log) leave (length (letters log)) x mark (kept_in leave log) in
      let gone = ap (times n) (map-append (λ (end : Attachment S × Why). end.0.place) (gone_in leave log) c.gone) ∙ times-append n (gone_places (gone_in leave log)) (gone_places c.gone) in
      let found = times-append n (found_in leave log) (letter_by found_by (has_left leave log) leave (length (letters log)) x mark (kept_in leave log)) in
      omega (arith, before, step, gone, found)
  same leave (Flush log s w mark) n =
      let c = flush_change leave log s w mark in
      let before = same leave log n in
      let step = moves_ruled n s w (by_flush mark) (λ a. false) (kept_for s w (kept_in leave log)) (kept_in leave log) refl (λ a. about_flush (λ b. b.place ≡ a.place) mark a refl (λ flow. refl)) in
      let gone = ap (times n) (map-append (λ (end : Attachment S × Why). end.0.place) (gone_in leave log) c.gone) ∙ times-append n (gone_places (gone_in leave log)) (gone_places c.gone) in
      omega (arith, before, step, gone)

  pub each_sink_once : (leave : ℕ) (log : Log S) → EachOnce leave log
  each_sink_once leave log = record {
    same = λ n. times-append n (kept_places (kept_in leave log)) (gone_places (gone_in leave log)) ∙ same leave log n;
    once = once leave log;
  }
