-- What each sink of a closed server took is a front of what the definitions give its observer.
use Rattle.std.proofs.Common.{◌≡◌, ◌∙◌, sym, refl, ap, subst, ℕ, zero, suc, ◌+◌, ◌%◌, ◌==◌, Bool, true, false, cond, if◌then◌else◌, List, [], ◌∷◌, ◌++◌, append_assoc, append-nil, length, map, drop, Option, Some, None, slice_get, Result, Ok, Err, arith, ◌⊎◌, inl, inr}
use Rattle.std.proofs.lemmas.Bool.Decides.{nat_tests}
use Rattle.std.specs.List.{AllByRecursion, filter}
use Rattle.std.specs.Option.{option_map_or}
use Rattle.std.specs.Prelude.{nat_le, nat_lt, not}
use Rattle.rx_note.specs.declared.answer.Answer.{Answer}
use Rattle.rx_note.specs.declared.answer.Answer.TheVariants.{Admitted, Joined, Asked, Left}
use Rattle.rx_note.specs.declared.event.Event.{Event}
use Rattle.rx_note.specs.declared.event.Event.TheVariants.{Emit, Join, Request, Dispose}
use Rattle.rx_note.specs.declared.given.Given.{Given}
use Rattle.rx_note.specs.declared.note.Note.{Note}
use Rattle.rx_note.specs.declared.refusal.Refusal.{Refusal}
use Rattle.rx_note.specs.declared.refusal.Refusal.TheVariants as refused
use Rattle.rx_note.specs.declared.rules.Rules.{Rules}
use Rattle.rx_note.specs.Signals.{given}
use Rattle.rx_history.specs.Histories.{History, NoEvents, ◌▹◌, answer, given_to, held, is_ended, is_held, has_room, item_count, joins, outs, owed_to, signals}
use Rattle.rx_history.specs.Delivery.{notes_for}
use Rattle.rx_history.proofs.Gaining.{notes_for-append, outs_are_given}
use Rattle.rx_history.proofs.Numbers.{signals_unmade}
use Rattle.rx_mailbox.specs.declared.letter.Letter.{Letter}
use Rattle.rx_mailbox.specs.declared.letter.Post.{Post}
use Rattle.rx_mailbox.specs.declared.letter.Post.TheVariants.{Body, Bye}
use Rattle.rx_mailbox.specs.Boxes.{Outgoing}
use Rattle.rx_mailbox.specs.Letters.{letter, posts, share, ends}
use Rattle.rx_mailbox.specs.Passes.{SettledView, inbox_in}
use Rattle.rx_pump.specs.declared.call.Call.{Call}
use Rattle.rx_pump.specs.declared.out.Out.{Out}
use Rattle.rx_pump.specs.declared.out.Out.TheVariants.{Attach, Give, Detach}
use Rattle.rx_pump.specs.Marks.{Marked, NoLetters, Made, Refused, Ended, history_of, leaver, attach_of, give, detach_of, sent_by, outs_in, who_of, for_drainer, route}
use Rattle.rx_sink.specs.Acts.{Acts}
use Rattle.rx_sink.specs.Attachments.{Attachment, Why, TookLast, Detached, Closed, FailedAtStart, FailedAt, FailedAtFlush, is_last}
use Rattle.rx_drain.specs.declared.drainer.drain_end.DrainEnd.{DrainEnd}
use Rattle.rx_drain.specs.Logs.{Log, letters, gone_in}
use Rattle.rx_drain.specs.Served.{Bearing, Bears, Stops, Passes, out_bearing, from_leave, from_subject, bearing, serving, notes_in, TookOf, bearings, served, AttachCame}
use Rattle.rx_drain.proofs.Taking.{each_sink_took}
use Rattle.rx_server.specs.Hearing.{IsFrontOf}

-- FRONTS

pub front_then : (first second all : List Note) → IsFrontOf first second → IsFrontOf second all → IsFrontOf first all
front_then first second all (more, one) (rest, two) =
    (more ++ rest, sym (append_assoc first more rest) ∙ ap (λ (l : List Note). l ++ rest) one ∙ two)

pub front_of : (notes all same : List Note) → all ≡ same → IsFrontOf notes all → IsFrontOf notes same
front_of notes all same is (rest, parts) = (rest, parts ∙ is)

-- what a sink took is a front of what it was to be served
pub took_front : (why : Why) (taken all : List Note) → TookOf why taken all → IsFrontOf taken all
took_front TookLast taken all took = ([], append-nil taken ∙ took)
took_front Detached taken all took = ([], append-nil taken ∙ took)
took_front Closed taken all took = ([], append-nil taken ∙ took)
took_front FailedAtStart taken all took = (all, ap (λ (l : List Note). l ++ all) took)
took_front (FailedAt note) taken all (rest, parts) = (note ∷ rest, parts)
took_front FailedAtFlush taken all (rest, parts) = (rest, parts)

-- WHAT LETTERS BEAR

-- the note that is borne, if there is one
abbrev pub borne : Bearing → List Note
borne (Bears note) = note ∷ []
borne Stops = []
borne Passes = []

abbrev pub all_borne : List Bearing → List Note
all_borne [] = []
all_borne (b ∷ bs) = borne b ++ all_borne bs

bears_front : (is_the_last : Bool) (note : Note) (later all : List Note) → IsFrontOf later all → IsFrontOf (note ∷ (if is_the_last then [] else later)) (note ∷ all)
bears_front true note later all front = (all, refl)
bears_front false note later all (rest, parts) = (rest, ap (λ (l : List Note). note ∷ l) parts)

notes_front : (bs : List Bearing) → IsFrontOf (notes_in bs) (all_borne bs)
notes_front [] = ([], refl)
notes_front (Bears note ∷ bs) = bears_front (is_last note) note (notes_in bs) (all_borne bs) (notes_front bs)
notes_front (Stops ∷ bs) = (all_borne bs, refl)
notes_front (Passes ∷ bs) = notes_front bs

-- NUMBERS AND ANSWERS

pub same_way : (n m : ℕ) → (n == m) ≡ (m == n)
same_way n m = grind (arith, nat_tests)

pub not_by : (n d who other : ℕ) (b : Bool) → (who == other) ≡ b → (who % n == d) ≡ true → (other % n == d) ≡ false → b ≡ false
not_by n d who other false is own apart = refl
not_by n d who other true is own apart =
    let same : who ≡ other = grind (arith, nat_tests) in
    let both : true ≡ false = sym own ∙ ap (λ (k : ℕ). k % n == d) same ∙ apart in
    both

not_its : (n d who other : ℕ) → (who % n == d) ≡ true → (other % n == d) ≡ false → (who == other) ≡ false
not_its n d who other own apart = not_by n d who other (who == other) refl own apart

pub stops_bear : (b : Bool) → borne (if b then Stops else Passes) ≡ []
stops_bear true = refl
stops_bear false = refl

-- only a Join that was accepted makes an observer, and its number is how many there were
no_join_emits : (over room : Bool) (who : ℕ) → (if over then Err refused.Ended else (if room then Ok Admitted else Err refused.Spent)) ≡ Ok (Joined who) → ⊥
no_join_emits true room who is = cc
no_join_emits false true who is = cc
no_join_emits false false who is = cc

no_join_asks : (zero_asked unknown enough : Bool) (who : ℕ)
    → (if zero_asked then Err refused.ZeroRequest else (if unknown then Err refused.NoObserver else (if enough then Ok Asked else Err refused.TooMuch))) ≡ Ok (Joined who) → ⊥
no_join_asks true unknown enough who is = cc
no_join_asks false true enough who is = cc
no_join_asks false false true who is = cc
no_join_asks false false false who is = cc

no_join_leaves : (known : Bool) (who : ℕ) → (if known then Ok Left else Err refused.NoObserver) ≡ Ok (Joined who) → ⊥
no_join_leaves true who is = cc
no_join_leaves false who is = cc

join_counts : (full room : Bool) (count who : ℕ) → (if full then Err refused.Full else (if room then Ok (Joined count) else Err refused.Spent)) ≡ Ok (Joined who) → count ≡ who
join_counts true room count who is = cc
join_counts false true count who is = cc
join_counts false false count who is = cc

joined_number : (rules : Rules) (H : History) (event : Event) (who : ℕ) → answer rules H event ≡ Ok (Joined who) → joins rules H ≡ who
joined_number rules H (Emit note at) who is = absurd (no_join_emits (is_ended H) (has_room rules.limits (item_count rules H) note) who is)
joined_number rules H (Join policy first at) who is =
    join_counts (not (nat_lt (length (held rules H)) rules.limits.observers)) (nat_lt (joins rules H) rules.limits.joins) (joins rules H) who is
joined_number rules H (Request other n) who is =
    absurd (no_join_asks (n == 0) (not (is_held rules H other)) (nat_le (owed_to rules H other + n) 4294967295) who is)
joined_number rules H (Dispose other) who is = absurd (no_join_leaves (is_held rules H other) who is)

-- a list that ends has nothing behind its end
pub none_in : {A : Type 0} (first : List A) (x : A) (rest : List A) → [] ≡ first ++ x ∷ rest → ⊥
none_in [] x rest is = cc
none_in (f ∷ first) x rest is = cc

unmade : (rules : Rules) (H : History) → given_to rules H (joins rules H) ≡ []
unmade rules H =
    let none : signals rules H (joins rules H) ≡ None = signals_unmade rules H (joins rules H) (omega arith) in
    ap (λ s. option_map_or given s []) none

pub no_item : {A : Type 0} (n : ℕ) (x : A) → slice_get [] n ≡ Some x → ⊥
no_item n x at = cc

module _ {S : Type 0} where
  -- the notes for an observer among what a subject sends
  abbrev pub notes_to : ℕ → List (Out S) → List Note
  notes_to who [] = []
  notes_to who (out ∷ outs) = borne (out_bearing who out) ++ notes_to who outs

  pub notes_to-append : (who : ℕ) (first more : List (Out S)) → notes_to who (first ++ more) ≡ notes_to who first ++ notes_to who more
  notes_to-append who [] more = refl
  notes_to-append who (out ∷ first) more =
      ap (λ (l : List Note). borne (out_bearing who out) ++ l) (notes_to-append who first more)
      ∙ sym (append_assoc (borne (out_bearing who out)) (notes_to who first) (notes_to who more))

  -- and among letters of its port
  abbrev pub notes_among : ℕ → List (Letter (Out S)) → List Note
  notes_among who [] = []
  notes_among who (x ∷ xs) = borne (from_subject who x.post) ++ notes_among who xs

  pub among_posts : (who p : ℕ) (outs : List (Out S)) → notes_among who (posts p outs ++ letter p Bye ∷ []) ≡ notes_to who outs
  among_posts who p [] = refl
  among_posts who p (out ∷ outs) = ap (λ (l : List Note). borne (out_bearing who out) ++ l) (among_posts who p outs)

  leave_bears : (post : Post (Out S)) → borne (from_leave post) ≡ []
  leave_bears (Body out) = refl
  leave_bears Bye = refl

  -- what one letter bears to a sink, where the leave port is another one than its subject's
  one_letter : (leave who subject from : ℕ) (post : Post (Out S)) (later : List Note) (rest : List (Letter (Out S))) (of_leave of_subject : Bool)
      → (from == leave) ≡ of_leave → (from == subject) ≡ of_subject → (subject == leave) ≡ false → later ≡ notes_among who (share subject rest)
      → borne (if from == leave then from_leave post else (if subject == from then from_subject who post else Passes)) ++ later
      ≡ notes_among who (share subject (letter from post ∷ rest))
  one_letter leave who subject from post later rest true true by_leave by_subject apart same = absurd (grind (arith, nat_tests))
  one_letter leave who subject from post later rest true false by_leave by_subject apart same =
      ap (λ b. borne (if b then from_leave post else (if subject == from then from_subject who post else Passes)) ++ later) by_leave
      ∙ ap (λ (l : List Note). l ++ later) (leave_bears post) ∙ same
      ∙ sym (ap (λ b. notes_among who (cond b (letter from post ∷ share subject rest) (share subject rest))) by_subject)
  one_letter leave who subject from post later rest false true by_leave by_subject apart same =
      ap (λ b. borne (if b then from_leave post else (if subject == from then from_subject who post else Passes)) ++ later) by_leave
      ∙ ap (λ b. borne (if b then from_subject who post else Passes) ++ later) (same_way subject from ∙ by_subject)
      ∙ ap (λ (l : List Note). borne (from_subject who post) ++ l) same
      ∙ sym (ap (λ b. notes_among who (cond b (letter from post ∷ share subject rest) (share subject rest))) by_subject)
  one_letter leave who subject from post later rest false false by_leave by_subject apart same =
      ap (λ b. borne (if b then from_leave post else (if subject == from then from_subject who post else Passes)) ++ later) by_leave
      ∙ ap (λ b. borne (if b then from_subject who post else Passes) ++ later) (same_way subject from ∙ by_subject)
      ∙ same
      ∙ sym (ap (λ b. notes_among who (cond b (letter from post ∷ share subject rest) (share subject rest))) by_subject)

  one_apart : (leave who subject from : ℕ) (post : Post (Out S)) (of_leave of_subject : Bool) → (from == leave) ≡ of_leave → (subject == from) ≡ of_subject → (subject == leave) ≡ true
      → borne (if from == leave then from_leave post else (if subject == from then from_subject who post else Passes)) ≡ []
  one_apart leave who subject from post true of_subject by_leave by_subject same =
      ap (λ b. borne (if b then from_leave post else (if subject == from then from_subject who post else Passes))) by_leave ∙ leave_bears post
  one_apart leave who subject from post false true by_leave by_subject same = absurd (grind (arith, nat_tests))
  one_apart leave who subject from post false false by_leave by_subject same =
      ap (λ b. borne (if b then from_leave post else (if subject == from then from_subject who post else Passes))) by_leave
      ∙ ap (λ b. borne (if b then from_subject who post else Passes)) by_subject

  pub letters_bear : (leave : ℕ) (a : Attachment S) (xs : List (Letter (Out S))) → (a.subject == leave) ≡ false
      → all_borne (map (bearing leave a) xs) ≡ notes_among a.who (share a.subject xs)
  letters_bear leave a [] apart = refl
  letters_bear leave a (x ∷ xs) apart =
      one_letter leave a.who a.subject x.from x.post (all_borne (map (bearing leave a) xs)) xs (x.from == leave) (x.from == a.subject) refl refl apart (letters_bear leave a xs apart)

  letters_bear_none : (leave : ℕ) (a : Attachment S) (xs : List (Letter (Out S))) → (a.subject == leave) ≡ true → all_borne (map (bearing leave a) xs) ≡ []
  letters_bear_none leave a [] same = refl
  letters_bear_none leave a (x ∷ xs) same =
      ap (λ (l : List Note). l ++ all_borne (map (bearing leave a) xs)) (one_apart leave a.who a.subject x.from x.post (x.from == leave) (a.subject == x.from) refl refl same)
      ∙ letters_bear_none leave a xs same

  pub served_by : (leave : ℕ) (a : Attachment S) (xs : List (Letter (Out S))) (same : Bool) → (a.subject == leave) ≡ same
      → IsFrontOf (notes_in (map (bearing leave a) xs)) (notes_among a.who (share a.subject xs))
  served_by leave a xs true same =
      let bs = map (bearing leave a) xs in
      front_then (notes_in bs) [] (notes_among a.who (share a.subject xs)) (front_of (notes_in bs) (all_borne bs) [] (letters_bear_none leave a xs same) (notes_front bs))
      (notes_among a.who (share a.subject xs), refl)
  served_by leave a xs false apart =
      let bs = map (bearing leave a) xs in
      front_of (notes_in bs) (all_borne bs) (notes_among a.who (share a.subject xs)) (letters_bear leave a xs apart) (notes_front bs)

  -- BEHIND THE ATTACH

  -- what a port's own letters are behind one of them
  pub share_own : (p : ℕ) (x : Letter (Out S)) (rest : List (Letter (Out S))) → (x.from == p) ≡ true → share p (x ∷ rest) ≡ x ∷ share p rest
  share_own p x rest own = ap (λ b. cond b (x ∷ share p rest) (share p rest)) own

  abbrev onto : Bool → Letter (Out S) → List (Letter (Out S)) → List (Letter (Out S))
  onto b y before = cond b (y ∷ before) before

  onto_share : (b : Bool) (y : Letter (Out S)) (before later : List (Letter (Out S))) → cond b (y ∷ (before ++ later)) (before ++ later) ≡ onto b y before ++ later
  onto_share true y before later = refl
  onto_share false y before later = refl

  pub share_behind : (p n : ℕ) (x : Letter (Out S)) (xs : List (Letter (Out S))) → slice_get xs n ≡ Some x → (x.from == p) ≡ true
      → (before : List (Letter (Out S))) × (share p xs ≡ before ++ x ∷ share p (drop (suc n) xs))
  share_behind p n x [] at own = absurd (no_item n x at)
  share_behind p zero x (y ∷ ys) at own =
      let it : y ≡ x = cc in
      ([], ap (λ z. share p (z ∷ ys)) it ∙ share_own p x ys own)
  share_behind p (suc n) x (y ∷ ys) at own =
      let later = share_behind p n x ys at own in (
        onto (y.from == p) y later.0,
        ap (λ l. cond (y.from == p) (y ∷ l) l) later.1 ∙ onto_share (y.from == p) y later.0 (x ∷ share p (drop (suc n) ys)),
      )

  abbrev first_post : List (Letter (Out S)) → Post (Out S)
  first_post [] = Bye
  first_post (x ∷ xs) = x.post

  abbrev ends_first : List (Letter (Out S)) → Bool
  ends_first [] = false
  ends_first (x ∷ xs) = ends x.post

  bye_alone : (p : ℕ) (out : Out S) (rest : List (Letter (Out S))) → letter p Bye ∷ [] ≡ letter p (Body out) ∷ rest → ⊥
  bye_alone p out rest is =
      let no : true ≡ false = ap ends_first is in
      cc

  -- the outs of a port behind one of them
  pub posts_behind : (p : ℕ) (outs : List (Out S)) (before : List (Letter (Out S))) (out : Out S) (rest : List (Letter (Out S)))
      → posts p outs ++ letter p Bye ∷ [] ≡ before ++ letter p (Body out) ∷ rest
      → (first : List (Out S)) × (more : List (Out S)) × (outs ≡ first ++ out ∷ more) × (rest ≡ posts p more ++ letter p Bye ∷ [])
  posts_behind p [] [] out rest is = absurd (bye_alone p out rest is)
  posts_behind p [] (b ∷ before) out rest is =
      let tails : [] ≡ before ++ letter p (Body out) ∷ rest = cc in
      absurd (none_in before (letter p (Body out)) rest tails)
  posts_behind p (o ∷ outs) [] out rest is =
      let bodies : Body o ≡ Body out = ap first_post is in
      let it : o ≡ out = cc in
      let same : posts p outs ++ letter p Bye ∷ [] ≡ rest = cc in
      ([], outs, ap (λ z. z ∷ outs) it, sym same)
  posts_behind p (o ∷ outs) (b ∷ before) out rest is =
      let tails : posts p outs ++ letter p Bye ∷ [] ≡ before ++ letter p (Body out) ∷ rest = cc in
      let later = posts_behind p outs before out rest tails in
      (o ∷ later.0, later.1, ap (λ l. o ∷ l) later.2, later.3)

  -- and of all outs those behind it, of which the drainer's are these
  abbrev pub Behind : (Out S → Bool) → List (Out S) → Out S → List (Out S) → Type 0
  Behind test outs out more =
      (before : List (Out S)) × (behind : List (Out S)) × (outs ≡ before ++ out ∷ behind) × (filter test behind ≡ more) × (test out ≡ true)

  one_behind : (test : Out S → Bool) (o : Out S) (outs : List (Out S)) (out : Out S) (more first : List (Out S)) (b : Bool) → test o ≡ b
      → ((first : List (Out S)) → filter test outs ≡ first ++ out ∷ more → Behind test outs out more)
      → cond b (o ∷ filter test outs) (filter test outs) ≡ first ++ out ∷ more → Behind test (o ∷ outs) out more
  one_behind test o outs out more first false passes later is =
      let rest = later first is in
      (o ∷ rest.0, rest.1, ap (λ l. o ∷ l) rest.2, rest.3, rest.4)
  one_behind test o outs out more [] true passes later is =
      let it : o ≡ out = cc in
      let same : filter test outs ≡ more = cc in
      ([], outs, ap (λ z. z ∷ outs) it, same, ap test (sym it) ∙ passes)
  one_behind test o outs out more (f ∷ first) true passes later is =
      let tails : filter test outs ≡ first ++ out ∷ more = cc in
      let rest = later first tails in
      (o ∷ rest.0, rest.1, ap (λ l. o ∷ l) rest.2, rest.3, rest.4)

  pub outs_behind : (test : Out S → Bool) (outs : List (Out S)) (out : Out S) (more first : List (Out S)) → filter test outs ≡ first ++ out ∷ more → Behind test outs out more
  outs_behind test [] out more first is = absurd (none_in first out more is)
  outs_behind test (o ∷ outs) out more first is = one_behind test o outs out more first (test o) refl (λ f i. outs_behind test outs out more f i) is

  -- to the drainer of an observer go all its notes
  other_bears : (n d who : ℕ) (out : Out S) → (who % n == d) ≡ true → (who_of out % n == d) ≡ false → borne (out_bearing who out) ≡ []
  other_bears n d who (Attach other sink) own apart = refl
  other_bears n d who (Give other note) own apart = ap (λ b. borne (if b then Bears note else Passes)) (not_its n d who other own apart)
  other_bears n d who (Detach other) own apart = ap (λ b. borne (if b then Stops else Passes)) (not_its n d who other own apart)

  one_to : (n d who : ℕ) (out : Out S) (outs : List (Out S)) (b : Bool) → (who_of out % n == d) ≡ b → (who % n == d) ≡ true → notes_to who (for_drainer n d outs) ≡ notes_to who outs
      → notes_to who (cond b (out ∷ for_drainer n d outs) (for_drainer n d outs)) ≡ notes_to who (out ∷ outs)
  one_to n d who out outs true is own same = ap (λ (l : List Note). borne (out_bearing who out) ++ l) same
  one_to n d who out outs false is own same = same ∙ ap (λ (l : List Note). l ++ notes_to who outs) (sym (other_bears n d who out own is))

  pub to_its_drainer : (n d who : ℕ) (outs : List (Out S)) → (who % n == d) ≡ true → notes_to who (for_drainer n d outs) ≡ notes_to who outs
  to_its_drainer n d who [] own = refl
  to_its_drainer n d who (out ∷ outs) own = one_to n d who out outs (who_of out % n == d) refl own (to_its_drainer n d who outs own)

-- WHAT A SUBJECT SENDS AN OBSERVER

module _ (S : Type 0) where
  one_given : (who : ℕ) (g : Given) (gs : List Given) (b : Bool) → (g.who == who) ≡ b → notes_to {S = S} who (map give gs) ≡ notes_for who gs
      → borne (if who == g.who then Bears g.note else Passes) ++ notes_to {S = S} who (map give gs) ≡ notes_for who (g ∷ gs)
  one_given who g gs true own same =
      ap (λ b. borne (if b then Bears g.note else Passes) ++ notes_to {S = S} who (map give gs)) (same_way who g.who ∙ own)
      ∙ ap (λ (l : List Note). g.note ∷ l) same ∙ sym (ap (λ b. cond b (g.note ∷ notes_for who gs) (notes_for who gs)) own)
  one_given who g gs false other same =
      ap (λ b. borne (if b then Bears g.note else Passes) ++ notes_to {S = S} who (map give gs)) (same_way who g.who ∙ other)
      ∙ same ∙ sym (ap (λ b. cond b (g.note ∷ notes_for who gs) (notes_for who gs)) other)

  pub given_notes : (who : ℕ) (gs : List Given) → notes_to {S = S} who (map give gs) ≡ notes_for who gs
  given_notes who [] = refl
  given_notes who (g ∷ gs) = one_given who g gs (g.who == who) refl (given_notes who gs)

  pub detach_bears : (who : ℕ) (leaver : Option ℕ) (answered : Result Answer Refusal) → notes_to {S = S} who (detach_of leaver answered) ≡ []
  detach_bears who (Some other) (Ok answered) = ap (λ (l : List Note). l ++ []) (stops_bear (who == other))
  detach_bears who (Some other) (Err refusal) = refl
  detach_bears who None answered = refl

module _ {S : Type 0} where
  pub attach_bears : (who : ℕ) (answered : Result Answer Refusal) (sink : Option S) → notes_to who (attach_of answered sink) ≡ []
  attach_bears who (Ok (Joined other)) (Some sink) = refl
  attach_bears who (Ok (Joined other)) None = refl
  attach_bears who (Ok Admitted) sink = refl
  attach_bears who (Ok Asked) sink = refl
  attach_bears who (Ok Left) sink = refl
  attach_bears who (Err refusal) sink = refl

  pub call_gives : (rules : Rules) (H : History) (port : ℕ) (call : Call S) (who : ℕ) → notes_to who (sent_by rules H port call) ≡ notes_for who (outs rules H (port, call.event))
  call_gives rules H port call who =
      let answered = answer rules H call.event in
      let gs = outs rules H (port, call.event) in
      let gives : List (Out S) = map give gs in
      let last = detach_of {S = S} (leaver call.event) answered in
      notes_to-append who (attach_of answered call.sink ++ gives) last
      ∙ ap (λ (l : List Note). l ++ notes_to who last)
      (notes_to-append who (attach_of answered call.sink) (gives) ∙ ap (λ (l : List Note). l ++ notes_to who (gives)) (attach_bears who answered call.sink))
      ∙ ap (λ (l : List Note). notes_to who (gives) ++ l) (detach_bears S who (leaver call.event) answered)
      ∙ append-nil (notes_to who (gives)) ∙ given_notes S who gs

  -- all that the letters send an observer is what their history gives it
  pub outs_give : (rules : Rules) (B : Marked S) (who : ℕ) → notes_to who (outs_in rules B) ≡ given_to rules (history_of B) who
  outs_give rules NoLetters who = refl
  outs_give rules (Made B port call) who =
      notes_to-append who (outs_in rules B) (sent_by rules (history_of B) port call)
      ∙ ap (λ (l : List Note). l ++ notes_to who (sent_by rules (history_of B) port call)) (outs_give rules B who)
      ∙ ap (λ (l : List Note). given_to rules (history_of B) who ++ l) (call_gives rules (history_of B) port call who)
      ∙ sym (outs_are_given rules (history_of B) who (port, call.event))
  outs_give rules (Refused B port call) who = outs_give rules B who
  outs_give rules (Ended B port) who = outs_give rules B who

  -- BEFORE AN OBSERVER JOINED IT WAS SENT NOTHING

  -- behind what a call sends first comes no Attach
  detach_alone : (leaver : Option ℕ) (answered : Result Answer Refusal) (first : List (Out S)) (who : ℕ) (sink : S) (rest : List (Out S))
      → detach_of leaver answered ≡ first ++ Attach who sink ∷ rest → ⊥
  detach_alone (Some other) (Ok answered) [] who sink rest is = cc
  detach_alone (Some other) (Ok answered) (f ∷ first) who sink rest is =
      let tails : [] ≡ first ++ Attach who sink ∷ rest = cc in
      none_in first (Attach who sink) rest tails
  detach_alone (Some other) (Err refusal) first who sink rest is = none_in first (Attach who sink) rest is
  detach_alone None answered first who sink rest is = none_in first (Attach who sink) rest is

  no_attach : (gs : List Given) (leaver : Option ℕ) (answered : Result Answer Refusal) (first : List (Out S)) (who : ℕ) (sink : S) (rest : List (Out S))
      → map give gs ++ detach_of leaver answered ≡ first ++ Attach who sink ∷ rest → ⊥
  no_attach [] leaver answered first who sink rest is = detach_alone leaver answered first who sink rest is
  no_attach (g ∷ gs) leaver answered [] who sink rest is = cc
  no_attach (g ∷ gs) leaver answered (f ∷ first) who sink rest is =
      let tails : map give gs ++ detach_of leaver answered ≡ first ++ Attach who sink ∷ rest = cc in
      no_attach gs leaver answered first who sink rest tails

  attach_first : (answered : Result Answer Refusal) (came : Option S) (gs : List Given) (leaver : Option ℕ) (first : List (Out S)) (who : ℕ) (sink : S) (rest : List (Out S))
      → attach_of answered came ++ map give gs ++ detach_of leaver answered ≡ first ++ Attach who sink ∷ rest → (answered ≡ Ok (Joined who)) × (first ≡ [])
  attach_first (Ok (Joined other)) (Some own) gs leaver [] who sink rest is =
      let same : other ≡ who = cc in
      (ap (λ (n : ℕ). Ok (Joined n)) same, refl)
  attach_first (Ok (Joined other)) (Some own) gs leaver (f ∷ first) who sink rest is =
      let tails : map give gs ++ detach_of leaver (Ok (Joined other)) ≡ first ++ Attach who sink ∷ rest = cc in
      absurd (no_attach gs leaver (Ok (Joined other)) first who sink rest tails)
  attach_first (Ok (Joined other)) None gs leaver first who sink rest is = absurd (no_attach gs leaver (Ok (Joined other)) first who sink rest is)
  attach_first (Ok Admitted) came gs leaver first who sink rest is = absurd (no_attach gs leaver (Ok Admitted) first who sink rest is)
  attach_first (Ok Asked) came gs leaver first who sink rest is = absurd (no_attach gs leaver (Ok Asked) first who sink rest is)
  attach_first (Ok Left) came gs leaver first who sink rest is = absurd (no_attach gs leaver (Ok Left) first who sink rest is)
  attach_first (Err refusal) came gs leaver first who sink rest is = absurd (no_attach gs leaver (Err refusal) first who sink rest is)

  -- where a list of two parts is cut
  abbrev pub Cut : List (Out S) → List (Out S) → List (Out S) → Out S → List (Out S) → Type 0
  Cut xs ys first x rest = ((more : List (Out S)) × (xs ≡ first ++ x ∷ more) × (rest ≡ more ++ ys)) ⊎ ((more : List (Out S)) × (first ≡ xs ++ more) × (ys ≡ more ++ x ∷ rest))

  cut_later : (y o : Out S) (xs ys first : List (Out S)) (x : Out S) (rest : List (Out S)) → y ≡ o → Cut xs ys first x rest → Cut (y ∷ xs) ys (o ∷ first) x rest
  cut_later y o xs ys first x rest same (inl (more, is, later)) = inl (more, ap (λ l. y ∷ l) is ∙ ap (λ z. z ∷ (first ++ x ∷ more)) same, later)
  cut_later y o xs ys first x rest same (inr (more, is, later)) = inr (more, ap (λ l. o ∷ l) is ∙ ap (λ z. z ∷ (xs ++ more)) (sym same), later)

  pub cut : (xs ys first : List (Out S)) (x : Out S) (rest : List (Out S)) → xs ++ ys ≡ first ++ x ∷ rest → Cut xs ys first x rest
  cut [] ys first x rest is = inr (first, refl, is)
  cut (y ∷ xs) ys [] x rest is =
      let it : y ≡ x = cc in
      let tails : xs ++ ys ≡ rest = cc in
      inl (xs, ap (λ z. z ∷ xs) it, sym tails)
  cut (y ∷ xs) ys (o ∷ first) x rest is =
      let it : y ≡ o = cc in
      let tails : xs ++ ys ≡ first ++ x ∷ rest = cc in
      cut_later y o xs ys first x rest it (cut xs ys first x rest tails)

  cut_attach : (rules : Rules) (B : Marked S) (port : ℕ) (call : Call S) (who : ℕ) (sink : S) (first rest : List (Out S))
      → ((more : List (Out S)) → outs_in rules B ≡ first ++ Attach who sink ∷ more → notes_to who first ≡ [])
      → Cut (outs_in rules B) (sent_by rules (history_of B) port call) first (Attach who sink) rest → notes_to who first ≡ []
  cut_attach rules B port call who sink first rest earlier (inl (more, is, later)) = earlier more is
  cut_attach rules B port call who sink first rest earlier (inr (more, is, sent)) =
      let H = history_of B in
      let it = attach_first (answer rules H call.event) call.sink (outs rules H (port, call.event)) (leaver call.event) more who sink rest sent in
      ap (notes_to who) is ∙ ap (λ l. notes_to who (outs_in rules B ++ l)) it.1 ∙ ap (notes_to who) (append-nil (outs_in rules B)) ∙ outs_give rules B who
      ∙ ap (given_to rules H) (sym (joined_number rules H call.event who it.0)) ∙ unmade rules H

  before_attach : (rules : Rules) (B : Marked S) (who : ℕ) (sink : S) (first rest : List (Out S)) → outs_in rules B ≡ first ++ Attach who sink ∷ rest → notes_to who first ≡ []
  before_attach rules NoLetters who sink first rest is = absurd (none_in first (Attach who sink) rest is)
  before_attach rules (Made B port call) who sink first rest is =
      cut_attach rules B port call who sink first rest (λ more earlier. before_attach rules B who sink first more earlier)
      (cut (outs_in rules B) (sent_by rules (history_of B) port call) first (Attach who sink) rest is)
  before_attach rules (Refused B port call) who sink first rest is = before_attach rules B who sink first rest is
  before_attach rules (Ended B port) who sink first rest is = before_attach rules B who sink first rest is

  -- behind its Attach come all notes of an observer
  pub behind_attach : (rules : Rules) (B : Marked S) (who : ℕ) (sink : S) (first rest : List (Out S)) → outs_in rules B ≡ first ++ Attach who sink ∷ rest
      → notes_to who rest ≡ given_to rules (history_of B) who
  behind_attach rules B who sink first rest is =
      sym (ap (λ (l : List Note). l ++ notes_to who rest) (before_attach rules B who sink first rest is))
      ∙ sym (notes_to-append who first (Attach who sink ∷ rest)) ∙ ap (notes_to who) (sym is) ∙ outs_give rules B who

  -- ONE SINK

  -- behind its Attach the drainer was sent all notes of the observer, for whom it is the right one
  pub notes_behind : (rules : Rules) (n d : ℕ) (B : Marked S) (xs : List (Letter (Out S))) (a : Attachment S)
      → share a.subject xs ≡ posts a.subject (route rules n d B) ++ letter a.subject Bye ∷ [] → AttachCame xs a
      → (notes_among a.who (share a.subject (drop (a.place + 1) xs)) ≡ given_to rules (history_of B) a.who) × ((a.who % n == d) ≡ true)
  notes_behind rules n d B xs a came at =
      let own : (a.subject == a.subject) ≡ true = grind (arith, nat_tests) in
      let attach = Attach a.who a.sink in
      let behind = share_behind a.subject a.place (letter a.subject (Body attach)) xs at own in
      let later = share a.subject (drop (suc a.place) xs) in
      let sent = posts_behind a.subject (route rules n d B) behind.0 attach later (sym came ∙ behind.1) in
      let all = outs_behind (λ out. who_of out % n == d) (outs_in rules B) attach sent.1 sent.0 sent.2 in
      let one : suc a.place ≡ a.place + 1 = omega arith in
      let notes : notes_among a.who later ≡ given_to rules (history_of B) a.who =
      ap (notes_among a.who) sent.3 ∙ among_posts a.who a.subject sent.1 ∙ ap (notes_to a.who) (sym all.3) ∙ to_its_drainer n d a.who all.1 all.4
      ∙ behind_attach rules B a.who a.sink all.0 all.1 all.2 in
      (ap (λ (k : ℕ). notes_among a.who (share a.subject (drop k xs))) (sym one) ∙ notes, all.4)

  hears_one : (rules : Rules) (n d : ℕ) (B : Marked S) (leave : ℕ) (xs : List (Letter (Out S))) (a : Attachment S)
      → share a.subject xs ≡ posts a.subject (route rules n d B) ++ letter a.subject Bye ∷ [] → AttachCame xs a → IsFrontOf (served leave a xs) (given_to rules (history_of B) a.who)
  hears_one rules n d B leave xs a came at =
      front_of (served leave a xs) (notes_among a.who (share a.subject (drop (a.place + 1) xs))) (given_to rules (history_of B) a.who)
      (notes_behind rules n d B xs a came at).0 (served_by leave a (drop (a.place + 1) xs) (a.subject == leave) refl)

  pub hears_each : (rules : Rules) (n d : ℕ) (B : Marked S) (p leave : ℕ) (xs : List (Letter (Out S))) (gone : List (Attachment S × Why))
      → share p xs ≡ posts p (route rules n d B) ++ letter p Bye ∷ []
      → AllByRecursion (λ end. AttachCame xs end.0) gone → AllByRecursion (λ end. TookOf end.1 end.0.taken (served leave end.0 xs)) gone
      → AllByRecursion (λ end. end.0.subject ≡ p → IsFrontOf end.0.taken (given_to rules (history_of B) end.0.who)) gone
  hears_each rules n d B p leave xs [] came at took = tt
  hears_each rules n d B p leave xs (end ∷ gone) came (at, later_at) (took, later_took) = (
    λ same.
        let own = subst (λ (k : ℕ). share k xs ≡ posts k (route rules n d B) ++ letter k Bye ∷ []) (sym same) came in
        front_then end.0.taken (served leave end.0 xs) (given_to rules (history_of B) end.0.who) (took_front end.1 end.0.taken (served leave end.0 xs) took)
        (hears_one rules n d B leave xs end.0 own at),
    hears_each rules n d B p leave xs gone came later_at later_took,
  )
