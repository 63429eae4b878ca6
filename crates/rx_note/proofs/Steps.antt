-- What each signal gives, and what it leaves.
use Rattle.std.proofs.Common.{◌≡◌, ℕ, ◌+◌, ◌-◌, ◌<◌, ◌≤◌, Bool, false, true, inl, inr, cond, leb, List, [], ◌∷◌, ◌++◌, length, map, take, drop, None, option_to_list, refl, sym, ap, ◌∙◌, arith}
use Rattle.std.proofs.lemmas.Bool.{cases_lt, cond-true, cond-false, le-leb, lt-leb}
use Rattle.std.proofs.lemmas.Bool.Decides.{nat_tests}
use Rattle.std.proofs.lemmas.List.{append-nil, length-append, length-drop, length-take, take_all, take_at, drop_at, drop_all, drop-drop}
use Rattle.rx_note.specs.declared.item.Item.{Item}
use Rattle.rx_note.specs.declared.note.Note.{Note}
use Rattle.rx_note.specs.declared.note.Note.TheVariants.{Next}
use Rattle.rx_note.specs.declared.strategy.Strategy.{Strategy}
use Rattle.rx_note.specs.Signals.{Signal, Requested, Offered, Ended, Signals, ◌▸◌, policy_of, demand, terminal_of, goes_ahead, line_items, ending, released, given, waiting_items, waiting_end, owed}
use Rattle.rx_note.specs.Queues.{queued}
use Rattle.rx_note.proofs.Lines.{line_items-owed, line_items-queued, line_items-ended, line_items-ahead, owed-rest}
use Rattle.rx_note.proofs.Released.{released-open, released-item, released-end, released-end_waits, released-more}

cond_same : (b : Bool) (last : List Note) → cond b last last ≡ last
cond_same true last = refl
cond_same false last = refl

-- the signal gives these notes, and then these items wait, this ending, and so many are owed
pub record Becomes (s : Signals) (signal : Signal) (notes : List Note) (items : List Item) (last : List Note) (owing : ℕ) : Type 0 where
  pub gives : given (s ▸ signal) ≡ given s ++ notes
  pub leaves : waiting_items (s ▸ signal) ≡ items
  pub holds : waiting_end (s ▸ signal) ≡ last
  pub owes : owed (s ▸ signal) ≡ owing

-- before the end no ending waits
pub waiting_end-open : (s : Signals) → terminal_of s ≡ None → waiting_end s ≡ []
waiting_end-open s open_now =
    ap (λ last. cond (leb (length (line_items s)) (demand s)) [] last) (ap option_to_list open_now)
    ∙ cond_same (leb (length (line_items s)) (demand s)) []

-- an item that is owed is given at once, by any strategy
pub offer_given : (s : Signals) (item : Item) → terminal_of s ≡ None → 0 < owed s → Becomes s (Offered item) (Next item ∷ []) (waiting_items s) (waiting_end s) (owed s - 1)
offer_given s item open_now h =
    let short : length (line_items s) < demand s = omega (arith, owed-rest s) in
    let behind : line_items (s ▸ Offered item) ≡ line_items s ++ item ∷ [] = line_items-owed s item open_now short in
    let none : ending s ≡ [] = ap option_to_list open_now in
    record {
      gives =
          ap (λ items. released (demand s) items (ending s)) behind
          ∙ ap (released (demand s) (line_items s ++ item ∷ [])) none
          ∙ released-item (demand s) (line_items s) item short
          ∙ ap (λ last. released (demand s) (line_items s) last ++ Next item ∷ []) (sym none);
      leaves =
          ap (drop (demand s)) behind
          ∙ drop_all (demand s) (line_items s ++ item ∷ []) (omega (arith, length-append (line_items s) (item ∷ [])))
          ∙ sym (drop_all (demand s) (line_items s) (omega arith));
      holds = waiting_end-open (s ▸ Offered item) open_now ∙ sym (waiting_end-open s open_now);
      owes = omega (arith, owed-rest (s ▸ Offered item), owed-rest s, ap length behind, length-append (line_items s) (item ∷ []));
    }

-- an item that is not owed is queued, and nothing is given
pub offer_waits : (g : Strategy) (s : Signals) (item : Item) → (policy_of s).strategy ≡ g → terminal_of s ≡ None → owed s ≡ 0 → Becomes s (Offered item) [] (queued g (waiting_items s) item) (waiting_end s) (owed s)
offer_waits g s item e open_now h =
    let long : demand s ≤ length (line_items s) = omega (arith, owed-rest s) in
    let first : List Item = take (demand s) (line_items s) in
    let rest : List Item = queued g (waiting_items s) item in
    let parts : line_items (s ▸ Offered item) ≡ first ++ rest = line_items-queued g s item e open_now long in
    let none : ending s ≡ [] = ap option_to_list open_now in
    let count : length first ≡ demand s = omega (arith, length-take (demand s) (line_items s)) in
    record {
      gives =
          ap (λ items. released (demand s) items (ending s)) parts
          ∙ ap (released (demand s) (first ++ rest)) none
          ∙ released-open (demand s) (first ++ rest)
          ∙ ap (map Next) (take_at first rest (demand s) count)
          ∙ sym (released-open (demand s) (line_items s))
          ∙ ap (released (demand s) (line_items s)) (sym none)
          ∙ sym (append-nil (given s));
      leaves = ap (drop (demand s)) parts ∙ drop_at first rest (demand s) count;
      holds = waiting_end-open (s ▸ Offered item) open_now ∙ sym (waiting_end-open s open_now);
      owes = omega (arith, owed-rest (s ▸ Offered item), owed-rest s, ap length parts, length-append first rest);
    }

-- a terminal that no item is ahead of is given at once
pub end_given : (s : Signals) (terminal : Note) → goes_ahead (policy_of s).errors terminal ≡ false → terminal_of s ≡ None → length (waiting_items s) ≡ 0 → Becomes s (Ended terminal) (terminal ∷ []) (waiting_items s) (waiting_end s) (owed s)
end_given s terminal behind open_now h =
    let same : line_items (s ▸ Ended terminal) ≡ line_items s = line_items-ended s terminal behind open_now in
    let short : length (line_items s) ≤ demand s = omega (arith, length-drop (demand s) (line_items s)) in
    record {
      gives =
          ap (λ items. released (demand s) items (terminal ∷ [])) same
          ∙ released-end (demand s) (line_items s) (terminal ∷ []) short
          ∙ ap (λ last. released (demand s) (line_items s) last ++ terminal ∷ []) (sym (ap option_to_list open_now));
      leaves = ap (drop (demand s)) same;
      holds =
          ap (λ items. cond (leb (length items) (demand s)) [] (terminal ∷ [])) same
          ∙ cond-true (leb (length (line_items s)) (demand s)) [] (terminal ∷ []) (le-leb (length (line_items s)) (demand s) short)
          ∙ sym (waiting_end-open s open_now);
      owes = ap (λ items. demand s - length (take (demand s) items)) same;
    }

-- a terminal behind items waits
pub end_waits : (s : Signals) (terminal : Note) → goes_ahead (policy_of s).errors terminal ≡ false → terminal_of s ≡ None → 0 < length (waiting_items s) → Becomes s (Ended terminal) [] (waiting_items s) (terminal ∷ []) (owed s)
end_waits s terminal behind open_now h =
    let same : line_items (s ▸ Ended terminal) ≡ line_items s = line_items-ended s terminal behind open_now in
    let long : demand s < length (line_items s) = omega (arith, length-drop (demand s) (line_items s)) in
    record {
      gives =
          ap (λ items. released (demand s) items (terminal ∷ [])) same
          ∙ released-end_waits (demand s) (line_items s) (terminal ∷ []) long
          ∙ ap (released (demand s) (line_items s)) (sym (ap option_to_list open_now))
          ∙ sym (append-nil (given s));
      leaves = ap (drop (demand s)) same;
      holds =
          ap (λ items. cond (leb (length items) (demand s)) [] (terminal ∷ [])) same
          ∙ cond-false (leb (length (line_items s)) (demand s)) [] (terminal ∷ []) (lt-leb (length (line_items s)) (demand s) long);
      owes = ap (λ items. demand s - length (take (demand s) items)) same;
    }

-- an error ahead is given at once, and nothing waits any more
pub end_ahead : (s : Signals) (terminal : Note) → goes_ahead (policy_of s).errors terminal ≡ true → terminal_of s ≡ None → Becomes s (Ended terminal) (terminal ∷ []) [] [] (owed s)
end_ahead s terminal ahead open_now =
    let front : List Item = take (demand s) (line_items s) in
    let cut : line_items (s ▸ Ended terminal) ≡ front = line_items-ahead s terminal ahead open_now in
    let short : length front ≤ demand s = omega (arith, length-take (demand s) (line_items s)) in
    let same : take (demand s) front ≡ front = take_all (demand s) front short in
    record {
      gives =
          ap (λ items. released (demand s) items (terminal ∷ [])) cut
          ∙ released-end (demand s) front (terminal ∷ []) short
          ∙ ap (λ notes. notes ++ terminal ∷ []) (released-open (demand s) front ∙ ap (map Next) same ∙ sym (released-open (demand s) (line_items s)))
          ∙ ap (λ last. released (demand s) (line_items s) last ++ terminal ∷ []) (sym (ap option_to_list open_now));
      leaves = ap (drop (demand s)) cut ∙ drop_all (demand s) front short;
      holds =
          ap (λ items. cond (leb (length items) (demand s)) [] (terminal ∷ [])) cut
          ∙ cond-true (leb (length front) (demand s)) [] (terminal ∷ []) (le-leb (length front) (demand s) short);
      owes = ap (λ items. demand s - length (take (demand s) items)) cut ∙ ap (λ items. demand s - length items) same;
    }

drop-owed : (s : Signals) (n : ℕ) → drop (demand s + n) (line_items s) ≡ drop (owed s + n) (waiting_items s)
drop-owed s n =
    elim (cases_lt (demand s) (length (line_items s))) [
      | inl h ↦
          let k : owed s + n ≡ n = omega (arith, owed-rest s) in
          sym (drop-drop n (demand s) (line_items s)) ∙ ap (λ m. drop m (waiting_items s)) (sym k)
      | inr h ↦
          drop_all (demand s + n) (line_items s) (omega arith)
          ∙ sym (drop_all (owed s + n) (waiting_items s) (omega (arith, length-drop (demand s) (line_items s))))
    ]

end_within : (d n k items : ℕ) (last : List Note) → k ≡ d - items → cond (leb items (d + n)) [] last ≡ cond (leb (items - d) (k + n)) [] (cond (leb items d) [] last)
end_within d n k items last e = grind (arith, nat_tests)

-- a request releases as many of what waits as are then owed
pub ask_releases : (s : Signals) (n : ℕ) → Becomes s (Requested n) (released (owed s + n) (waiting_items s) (waiting_end s)) (drop (owed s + n) (waiting_items s)) (cond (leb (length (waiting_items s)) (owed s + n)) [] (waiting_end s)) (owed s + n - length (waiting_items s))
ask_releases s n = record {
  gives =
      released-more (demand s) n (line_items s) (ending s)
      ∙ ap (λ k. given s ++ released (k + n) (waiting_items s) (waiting_end s)) (sym (owed-rest s));
  leaves = drop-owed s n;
  holds =
      end_within (demand s) n (owed s) (length (line_items s)) (ending s) (owed-rest s)
      ∙ ap (λ k. cond (leb k (owed s + n)) [] (waiting_end s)) (sym (length-drop (demand s) (line_items s)));
  owes = omega (arith, owed-rest (s ▸ Requested n), owed-rest s, length-drop (demand s) (line_items s));
}
