-- Many requests for one item each that come as one letter are made by one call of the hub.
use Rattle.std.proofs.Common.{◌≡◌, ◌∙◌, sym, refl, ap, subst, ℕ, suc, ◌+◌, ◌-◌, ◌^◌, ◌<◌, ◌≤◌, ◌%◌, ◌==◌, cond, not, nat_le, min, Bool, true, false, List, [], ◌∷◌, ◌++◌, append-nil, append_assoc, length, map, replicate, Option, Some, None, Result, Ok, Err, MatchResult, slice_get, inl, inr, arith, if◌then◌else◌}
use Rattle.std.proofs.lemmas.Bool.Decides.{nat_tests}
use Rattle.std.proofs.lemmas.List.{length-map, length-replicate, map-append}
use Rattle.std.proofs.lemmas.Option.{slice_get_within}
use Rattle.rx_note.specs.declared.answer.Answer.{Answer}
use Rattle.rx_note.specs.declared.answer.Answer.TheVariants.{Asked}
use Rattle.rx_note.specs.declared.event.Event.TheVariants.{Request}
use Rattle.rx_note.specs.declared.given.Given.{Given}
use Rattle.rx_note.specs.declared.refusal.Refusal.{Refusal}
use Rattle.rx_note.specs.declared.refusal.Refusal.TheVariants as refusals
use Rattle.rx_note.specs.declared.rules.Rules.{Rules}
use Rattle.rx_history.specs.Histories.{History, ◌▹◌, Entry, answer, outs, is_held, owed_to}
use Rattle.rx_hub.specs.Hubs.{HubState, HubView, StandsFor, MayMiss, is_miss}
use Rattle.rx_hub.specs.Runs.{made, step_outs, misses_with, IsAnswer, after_run, run_outs, AreAnswers, misses_after, missed_in, TakesEach, RequestsEach}
use Rattle.rx_mailbox.specs.declared.letter.Letter.{Letter}
use Rattle.rx_mailbox.specs.declared.letter.Post.TheVariants.{Body}
use Rattle.rx_mailbox.specs.Letters.{letter, posts}
use Rattle.rx_mailbox.specs.Boxes.{Outgoing, Incoming}
use Rattle.rx_pump.specs.declared.call.Call.{Call}
use Rattle.rx_pump.specs.declared.out.Out.{Out}
use Rattle.rx_pump.specs.declared.pump.pump_fault.PumpFault.{PumpFault}
use Rattle.rx_pump.specs.declared.pump.pump_fault.PumpFault.TheVariants.{DrainerGone}
use Rattle.rx_pump.specs.declared.reply.Reply.{Reply}
use Rattle.rx_pump.specs.Opened.{ask, opened_letter}
use Rattle.rx_pump.specs.Marks.{Marked, Made, Refused, letters_of, body_count, refused_in, history_of, AreAcceptable, give, outs_in, who_of, replies, to_port}
use Rattle.rx_pump.specs.Sends.{SendsOuts}
use Rattle.rx_pump.specs.Pumps.{counted, PumpView, HavePut, port_place, AreSame, before_last, without_last, IsBefore, PutAll, HavePutUpTo, Pumps, HasReceived, Makes}
use Rattle.rx_pump.proofs.Calls.{no_attach}
use Rattle.rx_pump.proofs.Pumping.{HaveSent, AreSame-puts, routed-more}
use Rattle.rx_pump.proofs.Turning.{all_made, is_behind, keeps}

-- a request is not answered that memory is wanting
told : (h t : Bool) → is_miss (cond (not h) (Err refusals.NoObserver) (cond t (Ok Asked) (Err refusals.TooMuch))) ≡ false
told true true = refl
told true false = refl
told false t = refl

-- the count of the Memory answers, up to its greatest value
one_missed : (b : Bool) (n : ℕ) → (if b then min (counted n + 1) (2 ^ 64 - 1) else counted n) ≡ counted (n + (if b then 1 else 0))
one_missed true n = omega arith
one_missed false n = omega arith

counted_after : (n : ℕ) (results : List (Result Answer Refusal)) → misses_after (counted n) results ≡ counted (n + missed_in results)
counted_after n [] = omega arith
counted_after n (result ∷ results) =
    let one : ℕ = if is_miss result then 1 else 0 in
    let all : n + one + missed_in results ≡ n + (one + missed_in results) = omega arith in
    ap (λ m. misses_after m results) (one_missed (is_miss result) n) ∙ counted_after (n + one) results ∙ ap counted all

module _ {S : Type 0} where
  -- ONE MARK

  -- a call that was made, or refused for want of memory
  abbrev mark : Marked S → ℕ → Call S → Bool → Marked S
  mark B port call true = Refused B port call
  mark B port call false = Made B port call

  mark_letters : (B : Marked S) (port : ℕ) (call : Call S) (b : Bool) → letters_of (mark B port call b) ≡ letters_of B ++ letter port (Body call) ∷ []
  mark_letters B port call true = refl
  mark_letters B port call false = refl

  mark_last : (B : Marked S) (port : ℕ) (call : Call S) (b : Bool) → before_last (mark B port call b) ≡ B
  mark_last B port call true = refl
  mark_last B port call false = refl

  mark_count : (B : Marked S) (port : ℕ) (call : Call S) (b : Bool) → body_count (mark B port call b) ≡ body_count B + 1
  mark_count B port call true = refl
  mark_count B port call false = refl

  mark_refused : (B : Marked S) (port : ℕ) (call : Call S) (b : Bool) → refused_in (mark B port call b) ≡ refused_in B + (if b then 1 else 0)
  mark_refused B port call true = refl
  mark_refused B port call false = omega arith

  mark_history : (B : Marked S) (K : History) (port : ℕ) (call : Call S) (b : Bool) → history_of B ≡ K
      → history_of (mark B port call b) ≡ (if b then K else K ▹ (port, call.event))
  mark_history B K port call true is = is
  mark_history B K port call false is = ap (λ H. H ▹ (port, call.event)) is

  -- a port is told no reply to a call of another
  not_told : (rules : Rules) (B : Marked S) (port p : ℕ) (reply : Reply S) → (port == p) ≡ false → replies rules p B ++ to_port port p reply ≡ replies rules p B
  not_told rules B port p reply other =
      ap (λ b. replies rules p B ++ (if b then reply ∷ [] else [])) other ∙ append-nil (replies rules p B)

  mark_outs : (rules : Rules) (B : Marked S) (K : History) (port ticket who : ℕ) (b : Bool) → history_of B ≡ K
      → outs_in rules (mark B port (ask ticket who) b) ≡ outs_in rules B ++ map give (if b then [] else outs rules K (port, Request who 1))
  mark_outs rules B K port ticket who true is = sym (append-nil (outs_in rules B))
  mark_outs rules B K port ticket who false is =
      let notes : History → List (Out S) = λ H. map give (outs rules H (port, Request who 1)) in
      ap (λ l. outs_in rules B ++ l)
      (append-nil _ ∙ ap (λ l. l ++ notes (history_of B)) (sym (no_attach (answer rules (history_of B) (Request who 1)))) ∙ ap notes is)

  mark_replies : (rules : Rules) (B : Marked S) (port p : ℕ) (call : Call S) (b : Bool) → (port == p) ≡ false → replies rules p (mark B port call b) ≡ replies rules p B
  mark_replies rules B port p call true other = not_told rules B port p _ other
  mark_replies rules B port p call false other = not_told rules B port p _ other

  mark_acceptable : (rules : Rules) (B : Marked S) (K : History) (port ticket who : ℕ) (result : Result Answer Refusal) (b : Bool) → is_miss result ≡ b → history_of B ≡ K
      → IsAnswer rules K (port, Request who 1) result → AreAcceptable rules B → AreAcceptable rules (mark B port (ask ticket who) b)
  mark_acceptable rules B K port ticket who result false miss is answers acceptable = acceptable
  mark_acceptable rules B K port ticket who result true miss is (inl same) acceptable =
      let never : is_miss result ≡ false = ap is_miss same ∙ told (is_held rules K who) (nat_le (owed_to rules K who + 1) 4294967295) in cc
  mark_acceptable rules B K port ticket who result true miss is (inr missed) acceptable =
      (acceptable, subst (λ (H : History). MayMiss rules H (port, Request who 1)) (sym is) missed.1)

  -- SEVERAL MARKS

  -- the same call several times, answered so
  abbrev marked : Marked S → ℕ → Call S → List (Result Answer Refusal) → Marked S
  marked B port call [] = B
  marked B port call (result ∷ results) = marked (mark B port call (is_miss result)) port call results

  marked_letters : (B : Marked S) (port : ℕ) (call : Call S) (results : List (Result Answer Refusal))
      → letters_of (marked B port call results) ≡ letters_of B ++ posts port (replicate (length results) call)
  marked_letters B port call [] = sym (append-nil (letters_of B))
  marked_letters B port call (result ∷ results) =
      let rest = posts port (replicate (length results) call) in
      marked_letters (mark B port call (is_miss result)) port call results
      ∙ ap (λ l. l ++ rest) (mark_letters B port call (is_miss result))
      ∙ append_assoc (letters_of B) (letter port (Body call) ∷ []) rest

  marked_last : (B : Marked S) (port : ℕ) (call : Call S) (results : List (Result Answer Refusal)) → without_last (length results) (marked B port call results) ≡ B
  marked_last B port call [] = refl
  marked_last B port call (result ∷ results) =
      ap before_last (marked_last (mark B port call (is_miss result)) port call results) ∙ mark_last B port call (is_miss result)

  marked_count : (B : Marked S) (port : ℕ) (call : Call S) (results : List (Result Answer Refusal)) → body_count (marked B port call results) ≡ body_count B + length results
  marked_count B port call [] = omega arith
  marked_count B port call (result ∷ results) =
      omega (arith, marked_count (mark B port call (is_miss result)) port call results, mark_count B port call (is_miss result))

  marked_refused : (B : Marked S) (port : ℕ) (call : Call S) (results : List (Result Answer Refusal)) → refused_in (marked B port call results) ≡ refused_in B + missed_in results
  marked_refused B port call [] = omega arith
  marked_refused B port call (result ∷ results) =
      omega (arith, marked_refused (mark B port call (is_miss result)) port call results, mark_refused B port call (is_miss result))

  marked_history : (B : Marked S) (K : History) (port : ℕ) (call : Call S) (results : List (Result Answer Refusal)) → history_of B ≡ K
      → history_of (marked B port call results) ≡ after_run K (replicate (length results) (port, call.event)) results
  marked_history B K port call [] is = is
  marked_history B K port call (result ∷ results) is =
      marked_history (mark B port call (is_miss result)) (made K (port, call.event) result) port call results (mark_history B K port call (is_miss result) is)

  marked_outs : (rules : Rules) (B : Marked S) (K : History) (port ticket who : ℕ) (results : List (Result Answer Refusal)) → history_of B ≡ K
      → outs_in rules (marked B port (ask ticket who) results) ≡ outs_in rules B ++ map give (run_outs rules K (replicate (length results) (port, Request who 1)) results)
  marked_outs rules B K port ticket who [] is = sym (append-nil (outs_in rules B))
  marked_outs rules B K port ticket who (result ∷ results) is =
      let entry : Entry = (port, Request who 1) in
      let first = step_outs rules K entry result in
      let rest = run_outs rules (made K entry result) (replicate (length results) entry) results in
      marked_outs rules (mark B port (ask ticket who) (is_miss result)) (made K entry result) port ticket who results (mark_history B K port (ask ticket who) (is_miss result) is)
      ∙ ap (λ l. l ++ map give rest) (mark_outs rules B K port ticket who (is_miss result) is)
      ∙ append_assoc (outs_in rules B) (map give first) (map give rest)
      ∙ ap (λ l. outs_in rules B ++ l) (sym (map-append give first rest))

  marked_replies : (rules : Rules) (B : Marked S) (port p : ℕ) (call : Call S) (results : List (Result Answer Refusal)) → (port == p) ≡ false
      → replies rules p (marked B port call results) ≡ replies rules p B
  marked_replies rules B port p call [] other = refl
  marked_replies rules B port p call (result ∷ results) other =
      marked_replies rules (mark B port call (is_miss result)) port p call results other ∙ mark_replies rules B port p call (is_miss result) other

  marked_acceptable : (rules : Rules) (B : Marked S) (K : History) (port ticket who : ℕ) (results : List (Result Answer Refusal)) → history_of B ≡ K
      → AreAnswers rules K (replicate (length results) (port, Request who 1)) results → AreAcceptable rules B → AreAcceptable rules (marked B port (ask ticket who) results)
  marked_acceptable rules B K port ticket who [] is answers acceptable = acceptable
  marked_acceptable rules B K port ticket who (result ∷ results) is answers acceptable =
      marked_acceptable rules (mark B port (ask ticket who) (is_miss result)) (made K (port, Request who 1) result) port ticket who results
      (mark_history B K port (ask ticket who) (is_miss result) is) answers.1
      (mark_acceptable rules B K port ticket who result (is_miss result) refl is answers.0 acceptable)

  -- WHAT IS PUT

  -- the notes of all were sent, or a drainer is gone; no port has a reply put
  pub sent_each : (outcome : Result (Unit {0}) ℕ) (fault : Option PumpFault) (rules : Rules) (received : List (Letter (Call S))) (B more : Marked S) (notes : List (Out S)) (before after : List (Outgoing (Out S))) (callers : List (Outgoing (Reply S)))
      → 0 < length before → outs_in rules B ++ notes ≡ outs_in rules more → ((p : ℕ) → p < length callers → replies rules p more ≡ replies rules p B)
      → IsBefore (length callers) received B more → PutAll rules B before callers → SendsOuts notes outcome before after
      → MatchResult outcome (λ _. fault ≡ None) (λ place. fault ≡ Some (DrainerGone place))
      → HavePutUpTo fault rules received more after callers × AreSame before after
  sent_each (Ok done) fault rules received B more notes before after callers some sends same behind put puts is = (
    subst (λ (f : Option PumpFault). HavePutUpTo f rules received more after callers) (sym is) (record {
      routed = routed-more (outs_in rules B) notes (outs_in rules more) before after sends put.routed puts;
      replied = λ p port at. put.replied p port at ∙ ap (posts port.number) (sym (same p (slice_get_within callers p port at)));
    }),
    AreSame-puts _ before after puts,
  )
  sent_each (Err place) fault rules received B more notes before after callers some sends same behind put stop is =
      let count : length after ≡ length before = stop.put.count in
      let gone : who_of stop.next % length after ≡ place = ap (λ n. who_of stop.next % n) count ∙ stop.gone in (
        subst (λ (f : Option PumpFault). HavePutUpTo f rules received more after callers) (sym is) (record {
          named = subst (λ (k : ℕ). k < length after) gone (omega (arith, some, count));
          before = B;
          is_before = behind;
          done = stop.done;
          next = stop.next;
          rest = stop.rest;
          parts = append_assoc (outs_in rules B) stop.done (stop.next ∷ stop.rest) ∙ ap (λ l. outs_in rules B ++ l) stop.parts ∙ sends;
          gone = gone;
          routed = routed-more (outs_in rules B) stop.done (outs_in rules B ++ stop.done) before after refl put.routed stop.put;
          replied = put.replied;
        }),
        AreSame-puts _ before after stop.put,
      )

  -- THE LETTER

  pub Makes-each : (before after : PumpView S) (port ticket who n missed : ℕ) (notes : List Given) (outcome : Result (Unit {0}) ℕ) (x : Letter (Call S))
      → 0 < length before.drainers → length before.replies ≤ port → opened_letter (length before.replies) x ≡ posts port (replicate n (ask ticket who))
      → RequestsEach before.hub after.hub port who n [] notes missed
      → after.hub.state.rules ≡ before.hub.state.rules → after.inbox ≡ before.inbox → after.misses_before ≡ before.misses_before → after.replies ≡ before.replies
      → after.calls ≡ counted (before.calls + n) → after.refused ≡ counted (before.refused + missed)
      → SendsOuts (map give notes) outcome before.drainers after.drainers
      → MatchResult outcome (λ _. after.fault ≡ None) (λ place. after.fault ≡ Some (DrainerGone place)) → Makes before x after
  Makes-each before after port ticket who n missed notes outcome x some silent stands_for did same_rules inbox misses_before same_replies calls refused sends fault B r =
      let rules = before.hub.state.rules in
      let received = before.inbox.received in
      let results = did.results in
      let entry : Entry = (port, Request who 1) in
      let call : Call S = ask ticket who in
      let more : Marked S = marked B port call results in
      let K : History = history_of B in
      let ran : TakesEach rules after.hub.state K (replicate (length results) entry) results [] notes =
      subst (λ (k : ℕ). TakesEach rules after.hub.state K (replicate k entry) results [] notes) (sym did.count) (did.each K r.accounts.stands) in
      let all_notes : outs_in rules B ++ map give notes ≡ outs_in rules more =
      ap (λ l. outs_in rules B ++ map give l) ran.gives ∙ sym (marked_outs rules B K port ticket who results refl) in
      let opened_are : opened_letter (length before.replies) x ≡ posts port (replicate (length results) call) =
      stands_for ∙ ap (λ k. posts port (replicate k call)) (sym did.count) in
      let many : length (posts port (replicate (length results) call)) ≡ length results =
      length-map (replicate (length results) call) (λ (body : Call S). letter port (Body body)) ∙ length-replicate (length results) call in
      let behind : IsBefore (length before.replies) received B more =
      is_behind before x B more r (ap (λ (l : List (Letter (Call S))). without_last (length l) more) opened_are ∙ ap (λ k. without_last k more) many ∙ marked_last B port call results) in
      let unheard : (p : ℕ) → p < length before.replies → replies rules p more ≡ replies rules p B =
      λ p within. marked_replies rules B port p call results (differs port p (omega arith)) in
      let put = sent_each outcome after.fault rules received B more (map give notes) before.drainers after.drainers before.replies some all_notes unheard behind r.put sends fault in
      let callers : AreSame before.replies after.replies = ap (λ (l : List (Outgoing (Reply S))). map port_place l) same_replies in (
        more,
        record {
          accounts = record {
            letters = all_made before after x B more r inbox callers (marked_letters B port call results ∙ ap (λ l. letters_of B ++ l) (sym opened_are));
            stands = subst (λ (H : History). StandsFor after.hub.state H) (sym (marked_history B K port call results refl)) ran.goes_on;
            misses =
                did.misses ∙ ap (λ m. misses_after m results) r.accounts.misses ∙ counted_after (before.misses_before + refused_in B) results
                ∙ ap counted (sum_of before after B more results misses_before (marked_refused B port call results));
            acceptable = subst (λ (q : Rules). AreAcceptable q more) (sym same_rules) (marked_acceptable rules B K port ticket who results refl ran.answers r.accounts.acceptable);
          };
          calls = calls ∙ ap (λ m. counted (m + n)) r.calls ∙ counted_sum (body_count B) n (body_count more) (omega (arith, marked_count B port call results, did.count));
          refused = refused ∙ ap (λ m. counted (m + missed)) r.refused ∙ counted_sum (refused_in B) missed (refused_in more) (omega (arith, marked_refused B port call results, did.missed_are));
          put =
              subst (λ (l : List (Outgoing (Reply S))). HavePutUpTo after.fault after.hub.state.rules after.inbox.received more after.drainers l) (sym same_replies)
              (subst (λ (i : Incoming (Call S)). HavePutUpTo after.fault after.hub.state.rules i.received more after.drainers before.replies) (sym inbox)
              (subst (λ (q : Rules). HavePutUpTo after.fault q received more after.drainers before.replies) (sym same_rules) put.0));
        },
        keeps before after same_rules inbox misses_before put.1 callers,
      )
    where
      differs : (port p : ℕ) → p < port → (port == p) ≡ false
      differs port p less = grind (arith, nat_tests)

      sum_of : (before after : PumpView S) (B more : Marked S) (results : List (Result Answer Refusal)) → after.misses_before ≡ before.misses_before → refused_in more ≡ refused_in B + missed_in results
          → before.misses_before + refused_in B + missed_in results ≡ after.misses_before + refused_in more
      sum_of before after B more results same refused = omega arith

      counted_sum : (a n b : ℕ) → b ≡ a + n → counted (counted a + n) ≡ counted b
      counted_sum a n b is = omega arith
