-- Behind what ends an observer it is sent nothing more.
use Rattle.std.proofs.Common.{◌≡◌, ◌∙◌, sym, refl, ap, subst, ℕ, zero, suc, ◌+◌, ◌<◌, ◌≤◌, ◌==◌, ◌&&◌, ◌||◌, if◌then◌else◌, Bool, true, false, not, cond, List, [], ◌∷◌, ◌++◌, append_assoc, append-nil, map, Option, Some, None, is_some, Result, Ok, Err, arith, ◌⊎◌, inl, inr}
use Rattle.std.proofs.lemmas.Bool.Decides.{nat_tests}
use Rattle.std.specs.List.{filter, list_any}
use Rattle.std.specs.Prelude.{nat_le, nat_lt}
use Rattle.rx_note.specs.declared.answer.Answer.{Answer}
use Rattle.rx_note.specs.declared.answer.Answer.TheVariants.{Admitted, Joined, Asked, Left}
use Rattle.rx_note.specs.declared.event.Event.{Event}
use Rattle.rx_note.specs.declared.event.Event.TheVariants.{Emit, Join, Request, Dispose}
use Rattle.rx_note.specs.declared.given.Given.{Given}
use Rattle.rx_note.specs.declared.note.Note.{Note}
use Rattle.rx_note.specs.declared.note.Note.TheVariants.{Next, Completed, Failed}
use Rattle.rx_note.specs.declared.refusal.Refusal.{Refusal}
use Rattle.rx_note.specs.declared.refusal.Refusal.TheVariants as refused
use Rattle.rx_note.specs.declared.rules.Rules.{Rules}
use Rattle.rx_history.specs.Histories.{Entry, History, NoEvents, ◌▹◌, Roster, admits, answer, given_to, held, is_held, joins, line_of, outs, roster_of, signals, waiting_for, with_one_more}
use Rattle.rx_history.specs.Delivery.{IsTerminal, notes_for}
use Rattle.rx_history.proofs.Delivered.{given_then_waiting, nothing_follows_a_dispose, nothing_follows_a_terminal, terminal_is_last}
use Rattle.rx_history.proofs.Entries.{held_made}
use Rattle.rx_history.proofs.Gaining.{outs_are_given}
use Rattle.rx_history.proofs.Numbers.{signals_unmade}
use Rattle.rx_pump.specs.declared.call.Call.{Call}
use Rattle.rx_pump.specs.declared.out.Out.{Out}
use Rattle.rx_pump.specs.declared.out.Out.TheVariants.{Attach, Give, Detach}
use Rattle.rx_pump.specs.Marks.{Marked, NoLetters, Made, Refused, Ended, history_of, leaver, attach_of, give, detach_of, sent_by, outs_in}
use Rattle.rx_sink.specs.Attachments.{is_last}
use Rattle.rx_drain.specs.Served.{Bears, Passes, out_bearing}
use Rattle.rx_server.proofs.Hearing.{borne, call_gives, cut, Cut, given_notes, none_in, notes_to, notes_to-append, detach_bears}

-- WHO IS GIVEN NOTHING MORE

-- a terminal was given, or the observer left
abbrev pub Over : Rules → History → ℕ → Type 0
Over rules H who =
    ((front : List Note) × (note : Note) × IsTerminal note × (given_to rules H who ≡ front ++ note ∷ []))
    ⊎ ((who < joins rules H) × (is_held rules H who ≡ false))

over_same : (rules : Rules) (H : History) (who : ℕ) (entry : Entry) → Over rules H who → given_to rules (H ▹ entry) who ≡ given_to rules H who
over_same rules H who entry (inl (front, note, is, ends)) = nothing_follows_a_terminal rules H who front note entry is ends
over_same rules H who entry (inr (made, left)) = (nothing_follows_a_dispose rules H who entry made left).0

one_more_joins : (b : Bool) (roster : Roster) → roster.joins ≤ (cond b (with_one_more roster) roster).joins
one_more_joins true roster = omega arith
one_more_joins false roster = omega arith

joins_grow : (rules : Rules) (H : History) (entry : Entry) → joins rules H ≤ joins rules (H ▹ entry)
joins_grow rules H (port, Emit note at) = omega arith
joins_grow rules H (port, Join policy first at) = one_more_joins (admits rules.limits (roster_of rules.limits H)) (roster_of rules.limits H)
joins_grow rules H (port, Request who n) = omega arith
joins_grow rules H (port, Dispose who) = omega arith

over_stays : (rules : Rules) (H : History) (who : ℕ) (entry : Entry) → Over rules H who → Over rules (H ▹ entry) who
over_stays rules H who entry (inl (front, note, is, ends)) =
    inl (front, note, is, nothing_follows_a_terminal rules H who front note entry is ends ∙ ends)
over_stays rules H who entry (inr (made, left)) =
    inr (omega (arith, made, joins_grow rules H entry), (nothing_follows_a_dispose rules H who entry made left).1)

-- an observer that is held was made
unmade_is_not_held : (rules : Rules) (H : History) (who : ℕ) → is_held rules H who ≡ true → joins rules H ≤ who → ⊥
unmade_is_not_held rules H who held beyond =
    let some = held_made rules H who held in
    let none : false ≡ true = sym (ap is_some (signals_unmade rules H who beyond)) ∙ some in
    cc

held_number_by : (rules : Rules) (H : History) (who : ℕ) (b : Bool) → nat_lt who (joins rules H) ≡ b → is_held rules H who ≡ true → who < joins rules H
held_number_by rules H who true is held = grind (arith, nat_tests)
held_number_by rules H who false is held =
    let beyond : joins rules H ≤ who = grind (arith, nat_tests) in
    absurd (unmade_is_not_held rules H who held beyond)

-- who has left is not held
not_among : (who k : ℕ) (ks : List ℕ) (b : Bool) → (k == who) ≡ b → list_any (λ k. k == who) (filter (λ k. not (k == who)) ks) ≡ false
    → list_any (λ k. k == who) (cond (not b) (k ∷ filter (λ k. not (k == who)) ks) (filter (λ k. not (k == who)) ks)) ≡ false
not_among who k ks true is later = later
not_among who k ks false is later = ap (λ b. b || list_any (λ k. k == who) (filter (λ k. not (k == who)) ks)) is ∙ later

left_now : (who : ℕ) (ks : List ℕ) → list_any (λ k. k == who) (filter (λ k. not (k == who)) ks) ≡ false
left_now who [] = refl
left_now who (k ∷ ks) = not_among who k ks (k == who) refl (left_now who ks)

-- a terminal stands at the end of what was given
empty_front : (front back : List Note) → front ++ back ≡ [] → front ≡ []
empty_front [] back none = refl
empty_front (note ∷ front) back none = cc

terminal_behind : (rules : Rules) (H : History) (who : ℕ) (front : List Note) (note : Note) (back : List Note) → IsTerminal note
    → given_to rules H who ≡ front ++ note ∷ back → back ≡ []
terminal_behind rules H who front note back is given =
    let waits = waiting_for rules H who in
    empty_front back waits
    (terminal_is_last rules H who front note (back ++ waits) is
    (sym (given_then_waiting rules H who) ∙ ap (λ (l : List Note). l ++ waits) given ∙ append_assoc front (note ∷ back) waits))

last_is_terminal : (note : Note) → is_last note ≡ true → IsTerminal note
last_is_terminal (Next item) is = cc
last_is_terminal Completed is = refl
last_is_terminal (Failed text) is = refl

both_of : (a b : Bool) → (a && b) ≡ true → (a ≡ true) × (b ≡ true)
both_of true b both = (refl, both)
both_of false b both = cc

dispose_of : (event : Event) (who : ℕ) → leaver event ≡ Some who → event ≡ Dispose who
dispose_of (Emit note at) who is = cc
dispose_of (Join policy first at) who is = cc
dispose_of (Request other n) who is = cc
dispose_of (Dispose other) who is = cc

disposed_was_held : (b : Bool) (answered : Answer) → (cond b (Ok Left) (Err refused.NoObserver)) ≡ Ok answered → b ≡ true
disposed_was_held true answered is = refl
disposed_was_held false answered is = cc

disposed_is_over : (rules : Rules) (H : History) (port who : ℕ) (answered : Answer) → answer rules H (Dispose who) ≡ Ok answered → Over rules (H ▹ (port, Dispose who)) who
disposed_is_over rules H port who answered is =
    let before = disposed_was_held (is_held rules H who) answered is in
    let made = held_number_by rules H who (nat_lt who (joins rules H)) refl before in
    inr (omega (arith, made, joins_grow rules H (port, Dispose who)), left_now who (held rules H))

append_self : (xs ys : List Note) → xs ++ ys ≡ xs → ys ≡ []
append_self [] ys is = is
append_self (x ∷ xs) ys is =
    let tails : xs ++ ys ≡ xs = cc in
    append_self xs ys tails

-- what an entry gives to whom nothing more is given
over_gives : (rules : Rules) (H : History) (who : ℕ) (entry : Entry) → Over rules H who → notes_for who (outs rules H entry) ≡ []
over_gives rules H who entry over =
    append_self (given_to rules H who) (notes_for who (outs rules H entry)) (sym (outs_are_given rules H who entry) ∙ over_same rules H who entry over)

-- WHAT ENDS AN OBSERVER

shut_note : (who other : ℕ) (note : Note) → ((who == other) && is_last note) ≡ true → (is_last note ≡ true) × (borne (if who == other then Bears note else Passes) ≡ note ∷ [])
shut_note who other note is =
    let both = both_of (who == other) (is_last note) is in
    (both.1, ap (λ b. borne (if b then Bears note else Passes)) both.0)

module _ {S : Type 0} where
  -- behind which an observer is sent nothing more: its leaving, and a terminal
  abbrev pub shuts : ℕ → Out S → Bool
  shuts who (Attach other sink) = false
  shuts who (Give other note) = (who == other) && is_last note
  shuts who (Detach other) = who == other

  gives_only : (gs : List Given) (first : List (Out S)) (out : Out S) (rest : List (Out S)) → map give gs ≡ first ++ out ∷ rest → (other : ℕ) × (note : Note) × (out ≡ Give other note)
  gives_only [] first out rest is = absurd (none_in first out rest is)
  gives_only (g ∷ gs) [] out rest is =
      let it : Give g.who g.note ≡ out = cc in
      (g.who, g.note, sym it)
  gives_only (g ∷ gs) (f ∷ first) out rest is =
      let tails : map give gs ≡ first ++ out ∷ rest = cc in
      gives_only gs first out rest tails

  shut_by_note : (gs : List Given) (first : List (Out S)) (out : Out S) (rest : List (Out S)) (who : ℕ) → map give gs ≡ first ++ out ∷ rest → shuts who out ≡ true
      → (note : Note) × IsTerminal note × (notes_for who gs ≡ notes_to who first ++ note ∷ notes_to who rest)
  shut_by_note gs first out rest who is shut =
      let only = gives_only gs first out rest is in
      let note = shut_note who only.0 only.1 (sym (ap (shuts who) only.2) ∙ shut) in (
        only.1,
        last_is_terminal only.1 note.0,
        sym (given_notes S who gs) ∙ ap (notes_to who) is ∙ notes_to-append who first (out ∷ rest)
            ∙ ap (λ (l : List Note). notes_to who first ++ (l ++ notes_to who rest)) (ap (λ o. borne (out_bearing who o)) only.2 ∙ note.1),
      )

  attach_is_open : (answered : Result Answer Refusal) (came : Option S) (first : List (Out S)) (out : Out S) (rest : List (Out S)) (who : ℕ)
      → attach_of answered came ≡ first ++ out ∷ rest → shuts who out ≡ false
  attach_is_open (Ok (Joined other)) (Some sink) [] out rest who is =
      let it : Attach other sink ≡ out = cc in
      ap (shuts who) (sym it)
  attach_is_open (Ok (Joined other)) (Some sink) (f ∷ first) out rest who is =
      let tails : [] ≡ first ++ out ∷ rest = cc in
      absurd (none_in first out rest tails)
  attach_is_open (Ok (Joined other)) None first out rest who is = absurd (none_in first out rest is)
  attach_is_open (Ok Admitted) came first out rest who is = absurd (none_in first out rest is)
  attach_is_open (Ok Asked) came first out rest who is = absurd (none_in first out rest is)
  attach_is_open (Ok Left) came first out rest who is = absurd (none_in first out rest is)
  attach_is_open (Err refusal) came first out rest who is = absurd (none_in first out rest is)

  shut_by_leaving : (leaver : Option ℕ) (answered : Result Answer Refusal) (first : List (Out S)) (out : Out S) (rest : List (Out S)) → detach_of leaver answered ≡ first ++ out ∷ rest
      → (other : ℕ) × (left : Answer) × (leaver ≡ Some other) × (answered ≡ Ok left) × (out ≡ Detach other) × (rest ≡ [])
  shut_by_leaving (Some other) (Ok left) [] out rest is =
      let it : Detach other ≡ out = cc in
      let tails : [] ≡ rest = cc in
      (other, left, refl, refl, sym it, sym tails)
  shut_by_leaving (Some other) (Ok left) (f ∷ first) out rest is =
      let tails : [] ≡ first ++ out ∷ rest = cc in
      absurd (none_in first out rest tails)
  shut_by_leaving (Some other) (Err refusal) first out rest is = absurd (none_in first out rest is)
  shut_by_leaving None answered first out rest is = absurd (none_in first out rest is)

  -- IN WHAT ONE CALL SENDS

  abbrev Ends : Rules → History → ℕ → List (Out S) → Type 0
  Ends rules H who rest = (notes_to who rest ≡ []) × Over rules H who

  note_ends : (rules : Rules) (H : History) (port : ℕ) (call : Call S) (who : ℕ) (first : List (Out S)) (out : Out S) (more rest : List (Out S)) → shuts who out ≡ true
      → Cut (attach_of (answer rules H call.event) call.sink) (map give (outs rules H (port, call.event))) first out more
      → rest ≡ more ++ detach_of (leaver call.event) (answer rules H call.event) → Ends rules (H ▹ (port, call.event)) who rest
  note_ends rules H port call who first out more rest shut (inl (m, is, later)) parts =
      let no : false ≡ true = sym (attach_is_open (answer rules H call.event) call.sink first out m who is) ∙ shut in
      absurd (let bad : false ≡ true = no in cc)
  note_ends rules H port call who first out more rest shut (inr (m, is, sent)) parts =
      let gs = outs rules H (port, call.event) in
      let by = shut_by_note gs m out more who sent shut in
      let last = detach_of {S = S} (leaver call.event) (answer rules H call.event) in
      let now : given_to rules (H ▹ (port, call.event)) who ≡ (given_to rules H who ++ notes_to who m) ++ by.0 ∷ notes_to who more =
      outs_are_given rules H who (port, call.event) ∙ ap (λ (l : List Note). given_to rules H who ++ l) by.2
      ∙ sym (append_assoc (given_to rules H who) (notes_to who m) (by.0 ∷ notes_to who more)) in
      let none = terminal_behind rules (H ▹ (port, call.event)) who (given_to rules H who ++ notes_to who m) by.0 (notes_to who more) by.1 now in (
        ap (notes_to who) parts ∙ notes_to-append who more last ∙ ap (λ (l : List Note). l ++ notes_to who last) none ∙ detach_bears S who (leaver call.event) (answer rules H call.event),
        inl (given_to rules H who ++ notes_to who m, by.0, by.1, now ∙ ap (λ (l : List Note). (given_to rules H who ++ notes_to who m) ++ by.0 ∷ l) none),
      )

  call_ends : (rules : Rules) (H : History) (port : ℕ) (call : Call S) (who : ℕ) (first : List (Out S)) (out : Out S) (rest : List (Out S)) → shuts who out ≡ true
      → Cut (attach_of (answer rules H call.event) call.sink ++ map give (outs rules H (port, call.event))) (detach_of (leaver call.event) (answer rules H call.event)) first out rest
      → Ends rules (H ▹ (port, call.event)) who rest
  call_ends rules H port call who first out rest shut (inl (more, is, parts)) =
      note_ends rules H port call who first out more rest shut
      (cut (attach_of (answer rules H call.event) call.sink) (map give (outs rules H (port, call.event))) first out more is) parts
  call_ends rules H port call who first out rest shut (inr (more, is, sent)) =
      let by = shut_by_leaving (leaver call.event) (answer rules H call.event) more out rest sent in
      let own : (who == by.0) ≡ true = sym (ap (shuts who) by.4) ∙ shut in
      let same : by.0 ≡ who = grind (arith, nat_tests) in
      let event : call.event ≡ Dispose who = dispose_of call.event who (by.2 ∙ ap Some same) in
      let answered : answer rules H (Dispose who) ≡ Ok by.1 = ap (answer rules H) (sym event) ∙ by.3 in
      (ap (notes_to who) by.5, subst (λ (e : Event). Over rules (H ▹ (port, e)) who) (sym event) (disposed_is_over rules H port who by.1 answered))

  -- IN ALL THAT A SUBJECT SENDS

  letter_ends : (rules : Rules) (B : Marked S) (port : ℕ) (call : Call S) (who : ℕ) (first : List (Out S)) (out : Out S) (rest : List (Out S)) → shuts who out ≡ true
      → ((more : List (Out S)) → outs_in rules B ≡ first ++ out ∷ more → Ends rules (history_of B) who more)
      → Cut (outs_in rules B) (sent_by rules (history_of B) port call) first out rest → Ends rules (history_of B ▹ (port, call.event)) who rest
  letter_ends rules B port call who first out rest shut earlier (inl (more, is, parts)) =
      let H = history_of B in
      let before = earlier more is in (
        ap (notes_to who) parts ∙ notes_to-append who more (sent_by rules H port call) ∙ ap (λ (l : List Note). l ++ notes_to who (sent_by rules H port call)) before.0
            ∙ call_gives rules H port call who ∙ over_gives rules H who (port, call.event) before.1,
        over_stays rules H who (port, call.event) before.1,
      )
  letter_ends rules B port call who first out rest shut earlier (inr (more, is, sent)) =
      let H = history_of B in
      call_ends rules H port call who more out rest shut
      (cut (attach_of (answer rules H call.event) call.sink ++ map give (outs rules H (port, call.event))) (detach_of (leaver call.event) (answer rules H call.event)) more out rest sent)

  pub shut_ends : (rules : Rules) (B : Marked S) (who : ℕ) (first : List (Out S)) (out : Out S) (rest : List (Out S)) → shuts who out ≡ true → outs_in rules B ≡ first ++ out ∷ rest
      → Ends rules (history_of B) who rest
  shut_ends rules NoLetters who first out rest shut is = absurd (none_in first out rest is)
  shut_ends rules (Made B port call) who first out rest shut is =
      letter_ends rules B port call who first out rest shut (λ more earlier. shut_ends rules B who first out more shut earlier)
      (cut (outs_in rules B) (sent_by rules (history_of B) port call) first out rest is)
  shut_ends rules (Refused B port call) who first out rest shut is = shut_ends rules B who first out rest shut is
  shut_ends rules (Ended B port) who first out rest shut is = shut_ends rules B who first out rest shut is
