-- What the calls do to the sinks that are kept and put away.
use Rattle.std.proofs.Common.{◌≡◌, ◌∙◌, sym, refl, ap, subst, if◌then◌else◌, ◌+◌, ◌&&◌, ℕ, zero, suc, Bool, true, false, not, List, [], ◌∷◌, ◌++◌, append-nil, append_assoc, get_or, reverse, map, replicate, Some, None, slice_get, Result, Ok, Err, is_ok, MatchResult, Option}
use Rattle.std.proofs.Math.ListN.{set}
use Rattle.std.proofs.lemmas.Fn.{FoldsTo-push}
use Rattle.std.proofs.lemmas.List.{map-append, reverse-append, reverse-reverse}
use Rattle.std.proofs.lemmas.Option.{get_or_from_slice_get}
use Rattle.std.specs.List.{AllZip, FoldsTo}
use Rattle.rx_note.specs.declared.event.Event.{Event}
use Rattle.rx_note.specs.declared.event.Event.TheVariants.{Request, Dispose}
use Rattle.rx_note.specs.declared.note.Note.{Note}
use Rattle.rx_sink.specs.declared.asks.Asks.{Asks}
use Rattle.rx_sink.specs.declared.flow.Flow.{Flow}
use Rattle.rx_sink.specs.declared.flow.Flow.TheVariants.{Clear, Ready, Stuck, Held}
use Rattle.rx_sink.specs.declared.kept.Kept.{Kept}
use Rattle.rx_sink.specs.declared.put_away.PutAway.{PutAway}
use Rattle.rx_sink.specs.declared.sink.SinkFault.{SinkFault}
use Rattle.rx_sink.specs.Acts.{Acts, Step, Takes, Flushes, notes_by, last_by, Makes, Took, raised}
use Rattle.rx_sink.specs.Attachments.{Attachment, Why, TookLast, Detached, Closed, FailedAtStart, FailedAt, FailedAtFlush, Mark, Fine, Fault, NoMemory, Sent, Change, Ruling, AsItWas, HoldsBack, PaysAll, LetsGo, PutsAway, is_clear, is_held_back, is_last, may_wait, brought, kept_for, by_answer, by_taking, by_note, has_taken, by_flush, by_leaving, carried_out, ruled, attached, unchanged, with_note, with_flush, paid, request, requests, dispose, parting, of_others, replaced, closed}
use Rattle.rx_sink.specs.KeptSinks.{IsKept, Last, IsPutAway, Stand, Did, Pushes, PartsOne, MayPart, EndsAct, PaysDue, TakesNote, FaultedAt, FaultedAtFlush, IsFlushed, addressed, tallied, events_asked}
use Rattle.rx_sink.proofs.Apartness.{apart_but, apart_push, apart_with}
use Rattle.rx_sink.proofs.Finding.{AllZip-more, Found, remove-set, set-same, slice_get-set}

module _ {S Rest : Type 0} (acts : Acts S Rest) where
  notes_more : (steps : List Step) (step : Step) → notes_by (steps ++ step ∷ []) ≡ notes_by steps ++ notes_by (step ∷ [])
  notes_more [] step = refl
  notes_more (Takes note flow ∷ steps) step = ap (λ (l : List Note). note ∷ l) (notes_more steps step)
  notes_more (Flushes flow ∷ steps) step = notes_more steps step

  last_more : (before : Option Step) (steps : List Step) (step : Step) → last_by before (steps ++ step ∷ []) ≡ Some step
  last_more before [] step = refl
  last_more before (other ∷ steps) step = last_more (Some other) steps step

  -- a sink took one note more
  pub Took-more : (sink : S) (who : ℕ) (notes : List Note) (last : Option Step) (before now : S) (note : Note) (flow : Flow)
      → Took acts sink who notes last before → acts.took before note flow now → acts.faults now ≡ acts.faults before
      → Took acts sink who (notes ++ note ∷ []) (Some (Takes note flow)) now
  Took-more sink who notes last before now note flow took more same = record {
    begun = took.begun;
    start = took.start;
    steps = took.steps ++ Takes note flow ∷ [];
    notes_are = notes_more took.steps (Takes note flow) ∙ ap (λ (l : List Note). l ++ note ∷ []) took.notes_are;
    last_is = last_more None took.steps (Takes note flow);
    made = FoldsTo-push (Makes acts) took.begun took.steps before (Takes note flow) now took.made more;
    faultless = same ∙ took.faultless;
  }

  -- it was flushed
  pub Took-flush : (sink : S) (who : ℕ) (notes : List Note) (last : Option Step) (before now : S) (flow : Flow)
      → Took acts sink who notes last before → acts.flushed before flow now → acts.faults now ≡ acts.faults before
      → Took acts sink who notes (Some (Flushes flow)) now
  Took-flush sink who notes last before now flow took more same = record {
    begun = took.begun;
    start = took.start;
    steps = took.steps ++ Flushes flow ∷ [];
    notes_are = notes_more took.steps (Flushes flow) ∙ append-nil (notes_by took.steps) ∙ took.notes_are;
    last_is = last_more None took.steps (Flushes flow);
    made = FoldsTo-push (Makes acts) took.begun took.steps before (Flushes flow) now took.made more;
    faultless = same ∙ took.faultless;
  }

  -- one more was put away
  pub away_more : (gone : List (Attachment S × Why)) (away away_after : List (PutAway Rest)) (a : Attachment S) (why : Why) (one : Kept S)
      → AllZip (IsPutAway acts) gone away → one.subject ≡ a.subject → one.who ≡ a.who → Last acts a why one.sink → Pushes acts one away away_after
      → AllZip (IsPutAway acts) (gone ++ (a, why) ∷ []) away_after
  away_more gone away away_after a why one zip subject who was pushed =
      subst (AllZip (IsPutAway acts) (gone ++ (a, why) ∷ [])) (sym pushed.2)
      (AllZip-more (IsPutAway acts) gone away (a, why) _ zip (record { subject = subject; who = who; last = one.sink; was = was; rest = pushed.1 }))

  -- nothing happened
  pub unchanged_stands : (held : List (Attachment S)) (gone : List (Attachment S × Why)) (kept : List (Kept S)) (away : List (PutAway Rest))
      → Stand acts held gone kept away → Did acts (unchanged held) gone kept away []
  unchanged_stands held gone kept away stand = record {
    stand = record { kept_are = stand.kept_are; away_are = subst (λ (l : List (Attachment S × Why)). AllZip (IsPutAway acts) l away) (sym (append-nil gone)) stand.away_are; apart = stand.apart };
    sends = refl;
  }

  -- WHAT IS ASKED

  asked_are : (n subject who : ℕ) (s : Sent) → s.subject ≡ subject → s.event ≡ Request who 1
      → map (λ event. (subject, event)) (replicate n (Request who 1)) ≡ addressed (replicate n s)
  asked_are zero subject who s subject_is event_is = refl
  asked_are (suc n) subject who s subject_is event_is =
      ap (λ (l : List (ℕ × Event)). (subject, Request who 1) ∷ l) (asked_are n subject who s subject_is event_is)
      ∙ ap (λ (m : ℕ). (m, Request who 1) ∷ addressed (replicate n s)) (sym subject_is)
      ∙ ap (λ (e : Event). (s.subject, e) ∷ addressed (replicate n s)) (sym event_is)

  -- all that is due
  sends_due : (subject who : ℕ) (a : Attachment S) → a.subject ≡ subject → a.who ≡ who
      → map (λ event. (subject, event)) (events_asked (record { who = who; items = a.due; leaves = false })) ≡ addressed (requests a)
  sends_due subject who a subject_is who_is =
      ap (map (λ event. (subject, event))) (append-nil (replicate a.due (Request who 1)))
      ∙ asked_are a.due subject who (request a) subject_is (ap (λ (n : ℕ). Request n 1) who_is)

  -- and that the observer be let go
  sends_parting : (subject who : ℕ) (a : Attachment S) → a.subject ≡ subject → a.who ≡ who
      → map (λ event. (subject, event)) (events_asked (record { who = who; items = a.due; leaves = true })) ≡ addressed (parting a)
  sends_parting subject who a subject_is who_is =
      map-append (λ (event : Event). (subject, event)) (replicate a.due (Request who 1)) (Dispose who ∷ [])
      ∙ ap (λ (l : List (ℕ × Event)). l ++ (subject, Dispose who) ∷ []) (asked_are a.due subject who (request a) subject_is (ap (λ (n : ℕ). Request n 1) who_is))
      ∙ ap (λ (n : ℕ). addressed (requests a) ++ (n, Dispose who) ∷ []) (sym subject_is)
      ∙ ap (λ (n : ℕ). addressed (requests a) ++ (a.subject, Dispose n) ∷ []) (sym who_is)
      ∙ sym (map-append (λ (s : Sent). (s.subject, s.event)) (requests a) (dispose a ∷ []))

  -- where nothing waits nothing is held back
  clear_pays : (flow : Flow) (over : Bool) (due : ℕ) → (over && is_clear flow) ≡ true → is_held_back flow due ≡ false
  clear_pays Clear over due is = refl
  clear_pays Ready over due is = refl
  clear_pays Stuck true due is = cc
  clear_pays Stuck false due is = cc
  clear_pays Held true due is = cc
  clear_pays Held false due is = cc

  -- what an answer has done: it is put away, or what is due is held back, or asked for
  abbrev answer_by : Bool → Bool → Attachment S → Ruling S
  answer_by leaves held_back b = if leaves then PutsAway b TookLast else (if held_back then HoldsBack b else PaysAll b)

  -- ONE ATTACHMENT CHANGED

  module _ (subject who place : ℕ) (held : List (Attachment S)) (gone : List (Attachment S × Why)) (kept : List (Kept S)) (away : List (PutAway Rest))
      (stand : Stand acts held gone kept away) (f : Found acts subject who held kept place) where
    -- it goes on as another, with this sink
    kept_on : (b : Attachment S) (now : Kept S) (sends : List Sent) (took : Bool) (events : List (ℕ × Event)) → b.subject ≡ subject → b.who ≡ who → IsKept acts b now → events ≡ addressed sends
        → Did acts (record { kept = replaced subject who b held; gone = []; sends = sends; missed = false; took = took }) gone (set kept place now) away events
    kept_on b now sends took events of_subject of_who tie sent = record {
      stand = record {
        kept_are = f.with_other b now tie;
        away_are = subst (λ (l : List (Attachment S × Why)). AllZip (IsPutAway acts) l away) (sym (append-nil gone)) stand.away_are;
        apart = apart_with subject who b held of_subject of_who stand.apart;
      };
      sends = sent;
    }

    -- what was put away is the sink that was written at the place
    parted_one : (kept_after : List (Kept S)) (away_after : List (PutAway Rest)) (now : Kept S) (leaves : Bool) (asks : Asks)
        → (parts : PartsOne acts place leaves (set kept place now) kept_after away away_after asks) → parts.one ≡ now
    parted_one kept_after away_after now leaves asks parts =
        let there : slice_get (set kept place now) place ≡ Some now = slice_get-set kept place f.one now f.at in
        let both : Some parts.one ≡ Some now = sym parts.stood ∙ there in cc

    -- the sink, which has come to another state, was put away
    put_off : (kept_after : List (Kept S)) (away_after : List (PutAway Rest)) (now : Kept S) (b : Attachment S) (why : Why) (leaves : Bool) (asks : Asks) (sends : List Sent) (took : Bool) (events : List (ℕ × Event))
        → now.subject ≡ b.subject → now.who ≡ b.who → Last acts b why now.sink
        → PartsOne acts place leaves (set kept place now) kept_after away away_after asks → events ≡ addressed sends
        → Did acts (record { kept = of_others subject who held; gone = (b, why) ∷ []; sends = sends; missed = false; took = took }) gone kept_after away_after events
    put_off kept_after away_after now b why leaves asks sends took events same_subject same_who was parts sent =
        let one_is = parted_one kept_after away_after now leaves asks parts in
        record {
          stand = record {
            kept_are = subst (AllZip (IsKept acts) (of_others subject who held)) (sym (parts.removed ∙ remove-set kept place now)) f.rest;
            away_are = away_more gone away away_after b why parts.one stand.away_are (ap (λ (k : Kept S). k.subject) one_is ∙ same_subject) (ap (λ (k : Kept S). k.who) one_is ∙ same_who)
                (subst (λ (k : Kept S). Last acts b why k.sink) (sym one_is) was) parts.pushed;
            apart = apart_but subject who held stand.apart;
          };
          sends = sent;
        }

    -- what is asked at that
    parted_asks : (kept_after : List (Kept S)) (away_after : List (PutAway Rest)) (now : Kept S) (leaves : Bool) (asks : Asks) → now.who ≡ f.one.who → now.due ≡ f.one.due
        → PartsOne acts place leaves (set kept place now) kept_after away away_after asks → asks ≡ record { who = who; items = f.a.due; leaves = leaves }
    parted_asks kept_after away_after now leaves asks same_who same_due parts =
        let one_is = parted_one kept_after away_after now leaves asks parts in
        parts.asked
        ∙ ap (λ (n : ℕ). record { who = n; items = parts.one.due; leaves = leaves }) (ap (λ (k : Kept S). k.who) one_is ∙ same_who ∙ f.tie.who ∙ f.key.1)
        ∙ ap (λ (n : ℕ). record { who = who; items = n; leaves = leaves }) (ap (λ (k : Kept S). k.due) one_is ∙ same_due ∙ f.tie.due)

    -- it was put away, and all is asked for that is due, and that its observer be let go
    pub parted : (kept_after : List (Kept S)) (away_after : List (PutAway Rest)) (now : Kept S) (why : Why) (asks : Asks)
        → now.subject ≡ f.one.subject → now.who ≡ f.one.who → now.due ≡ f.one.due → Last acts (paid f.a) why now.sink
        → PartsOne acts place true (set kept place now) kept_after away away_after asks
        → Did acts (record { kept = of_others subject who held; gone = (paid f.a, why) ∷ []; sends = parting f.a; missed = false; took = false }) gone kept_after away_after (map (λ event. (subject, event)) (events_asked asks))
    parted kept_after away_after now why asks same_subject same_who same_due was parts =
        put_off kept_after away_after now (paid f.a) why true asks (parting f.a) false _ (same_subject ∙ f.tie.subject) (same_who ∙ f.tie.who) was parts
        (ap (λ (e : Asks). map (λ event. (subject, event)) (events_asked e)) (parted_asks kept_after away_after now true asks same_who same_due parts)
        ∙ sends_parting subject who f.a f.key.0 f.key.1)

    -- WHAT A SINK ANSWERED

    -- the sink came to this state, which is that of the attachment but for what is due, and answered so
    record Answers (flow : Flow) (b : Attachment S) (now : Kept S) (asks : Asks) : Type 0 where
      pub of_subject : b.subject ≡ subject
      pub of_who : b.who ≡ who
      pub same_subject : now.subject ≡ b.subject
      pub same_who : now.who ≡ b.who
      pub same_over : now.over ≡ b.over
      pub same_may_wait : now.may_wait ≡ may_wait b.last
      pub took : Took acts b.sink b.who b.taken b.last now.sink
      pub pays : PaysDue flow b.due now asks

    asks_are : (flow : Flow) (b : Attachment S) (now : Kept S) (asks : Asks) (leaves held_back : Bool)
        → Answers flow b now asks → (b.over && is_clear flow) ≡ leaves → is_held_back flow b.due ≡ held_back
        → asks ≡ record { who = who; items = if held_back then 0 else b.due; leaves = leaves }
    asks_are flow b now asks leaves held_back is leaves_is held_is =
        is.pays.asked
        ∙ ap (λ (n : ℕ). record { who = n; items = if is_held_back flow b.due then 0 else b.due; leaves = now.over && is_clear flow }) (is.same_who ∙ is.of_who)
        ∙ ap (λ (h : Bool). record { who = who; items = if h then 0 else b.due; leaves = now.over && is_clear flow }) held_is
        ∙ ap (λ (l : Bool). record { who = who; items = if held_back then 0 else b.due; leaves = l }) (ap (λ (o : Bool). o && is_clear flow) is.same_over ∙ leaves_is)

    pays_did : (flow : Flow) (b : Attachment S) (now : Kept S) (asks : Asks) (leaves held_back : Bool) (took : Bool) (kept_after : List (Kept S)) (away_after : List (PutAway Rest))
        → Answers flow b now asks → (b.over && is_clear flow) ≡ leaves → is_held_back flow b.due ≡ held_back
        → MayPart acts leaves place (set kept place now) kept_after away away_after
        → Did acts (carried_out subject who (answer_by leaves held_back b) took held) gone kept_after away_after (map (λ event. (subject, event)) (events_asked asks))
    pays_did flow b now asks true held_back took kept_after away_after is leaves_is held_is may =
        let asks_is = asks_are flow b now asks true false is leaves_is (clear_pays flow b.over b.due leaves_is) in
        put_off kept_after away_after now (paid b) TookLast true may.0 (parting b) took _ is.same_subject is.same_who is.took may.1
        (ap (λ (e : Asks). map (λ event. (subject, event)) (events_asked e)) asks_is ∙ sends_parting subject who b is.of_subject is.of_who)
    pays_did flow b now asks false true took kept_after away_after is leaves_is held_is may =
        let asks_is = asks_are flow b now asks false true is leaves_is held_is in
        let P : List (Kept S) → List (PutAway Rest) → Type 0 = λ l m. Did acts (carried_out subject who (HoldsBack b) took held) gone l m (map (λ event. (subject, event)) (events_asked asks)) in
        subst (λ (l : List (Kept S)). P l away_after) (sym may.0) (subst (λ (m : List (PutAway Rest)). P (set kept place now) m) (sym may.1)
        (kept_on b now [] took _ is.of_subject is.of_who (record {
          subject = is.same_subject;
          who = is.same_who;
          due = is.pays.due ∙ ap (λ (h : Bool). if h then b.due else 0) held_is;
          over = is.same_over;
          waits = is.same_may_wait;
          took = is.took;
        }) (ap (λ (e : Asks). map (λ event. (subject, event)) (events_asked e)) asks_is)))
    pays_did flow b now asks false false took kept_after away_after is leaves_is held_is may =
        let asks_is = asks_are flow b now asks false false is leaves_is held_is in
        let P : List (Kept S) → List (PutAway Rest) → Type 0 = λ l m. Did acts (carried_out subject who (PaysAll b) took held) gone l m (map (λ event. (subject, event)) (events_asked asks)) in
        subst (λ (l : List (Kept S)). P l away_after) (sym may.0) (subst (λ (m : List (PutAway Rest)). P (set kept place now) m) (sym may.1)
        (kept_on (paid b) now (requests b) took _ is.of_subject is.of_who (record {
          subject = is.same_subject;
          who = is.same_who;
          due = is.pays.due ∙ ap (λ (h : Bool). if h then b.due else 0) held_is;
          over = is.same_over;
          waits = is.same_may_wait;
          took = is.took;
        }) (ap (λ (e : Asks). map (λ event. (subject, event)) (events_asked e)) asks_is ∙ sends_due subject who b is.of_subject is.of_who)))

    answer_did : (flow : Flow) (b : Attachment S) (now : Kept S) (said asks : Asks) (took : Bool) (kept_after : List (Kept S)) (away_after : List (PutAway Rest))
        → Answers flow b now said → (asks ≡ said) × MayPart acts said.leaves place (set kept place now) kept_after away away_after
        → Did acts (carried_out subject who (by_answer flow b) took held) gone kept_after away_after (map (λ event. (subject, event)) (events_asked asks))
    answer_did flow b now said asks took kept_after away_after is may =
        let leaves_is : said.leaves ≡ (b.over && is_clear flow) = ap (λ (e : Asks). e.leaves) (asks_are flow b now said (b.over && is_clear flow) (is_held_back flow b.due) is refl refl) in
        subst (λ (e : Asks). Did acts (carried_out subject who (by_answer flow b) took held) gone kept_after away_after (map (λ event. (subject, event)) (events_asked e))) (sym may.0)
        (pays_did flow b now said (b.over && is_clear flow) (is_held_back flow b.due) took kept_after away_after is refl refl
        (subst (λ (l : Bool). MayPart acts l place (set kept place now) kept_after away away_after) leaves_is may.1))

    -- A NOTE

    due_more : (flow : Flow) (m n : ℕ) (now : Kept S) (asks : Asks) → m ≡ n → PaysDue flow m now asks → PaysDue flow n now asks
    due_more flow m n now asks is pays = subst (λ (k : ℕ). PaysDue flow k now asks) is pays

    noted : (note : Note) (flow : Flow) (now : Kept S) (asks : Asks) → acts.took f.one.sink note flow now.sink → acts.faults now.sink ≡ acts.faults f.one.sink
        → now.subject ≡ f.one.subject → now.who ≡ f.one.who → now.over ≡ is_last note → now.may_wait ≡ true → PaysDue flow (if is_last note then f.one.due else f.one.due + 1) now asks
        → Answers flow (with_note note flow f.a) now asks
    noted note flow now asks took faultless same_subject same_who over waits pays = record {
      of_subject = f.key.0;
      of_who = f.key.1;
      same_subject = same_subject ∙ f.tie.subject;
      same_who = same_who ∙ f.tie.who;
      same_over = over;
      same_may_wait = waits;
      took = Took-more f.a.sink f.a.who f.a.taken f.a.last f.one.sink now.sink note flow f.tie.took took faultless;
      pays = due_more flow _ _ now asks (ap (λ (n : ℕ). if is_last note then n else n + 1) f.tie.due) pays;
    }

    -- a rule about the attachment that was found
    by_rule : (rule : Attachment S → Ruling S) (takes : Attachment S → Bool) → carried_out subject who (rule f.a) (takes f.a) held ≡ ruled subject who rule takes (kept_for subject who held) held
    by_rule rule takes = sym (ap (λ o. ruled subject who rule takes o held) f.found)

    -- it took no terminal yet
    noted_open : (mark : Mark) (note : Note) → f.one.over ≡ false
        → carried_out subject who (by_taking mark note f.a) (has_taken mark f.a) held ≡ ruled subject who (by_note mark note) (has_taken mark) (kept_for subject who held) held
    noted_open mark note open_yet =
        sym (ap (λ (b : Bool). carried_out subject who (if b then AsItWas else by_taking mark note f.a) (has_taken mark f.a) held) (sym f.tie.over ∙ open_yet)) ∙ by_rule (by_note mark note) (has_taken mark)

    -- the sink took it, or that was a fault
    pub notified_one : (r : Result Asks SinkFault) (n : ℕ) (note : Note) (now : Kept S) (asks : Asks) (kept_after : List (Kept S)) (away_after : List (PutAway Rest)) → f.one.over ≡ false
        → MatchResult r (λ said. TakesNote acts note f.one now said) (λ _. FaultedAt acts note f.one now)
        → now.subject ≡ f.one.subject → now.who ≡ f.one.who → EndsAct acts place r (set kept place now) kept_after away away_after asks
        → (mark : Mark) × Did acts (ruled subject who (by_note mark note) (has_taken mark) (kept_for subject who held) held) gone kept_after away_after (map (λ event. (subject, event)) (events_asked asks))
        × ((if is_ok r then raised n else n) ≡ tallied n (ruled subject who (by_note mark note) (has_taken mark) (kept_for subject who held) held).took)
    notified_one (Ok said) n note now asks kept_after away_after open_yet did same_subject same_who ends =
        let is = noted note did.flow now said did.took did.faultless same_subject same_who did.over did.may_wait did.pays in
        let same = noted_open (Fine did.flow) note open_yet in (
          Fine did.flow,
          subst (λ (c : Change S). Did acts c gone kept_after away_after (map (λ event. (subject, event)) (events_asked asks))) same
              (answer_did did.flow (with_note note did.flow f.a) now said asks (not f.a.over) kept_after away_after is ends),
          subst (λ (c : Change S). raised n ≡ tallied n c.took) same (ap (λ (b : Bool). tallied n (not b)) (sym (sym f.tie.over ∙ open_yet))),
        )
    notified_one (Err fault) n note now asks kept_after away_after open_yet did same_subject same_who ends =
        let same = noted_open Fault note open_yet in (
          Fault,
          subst (λ (c : Change S). Did acts c gone kept_after away_after (map (λ event. (subject, event)) (events_asked asks))) same
              (parted kept_after away_after now (FailedAt note) asks same_subject same_who did.due (f.one.sink, f.tie.took, did.faulted, did.rose) ends),
          subst (λ (c : Change S). n ≡ tallied n c.took) same refl,
        )

    -- it took a terminal before
    pub notified_over : (n : ℕ) (note : Note) (asks : Asks) → f.one.over ≡ true → asks ≡ record { who = who; items = 0; leaves = false }
        → Did acts (ruled subject who (by_note Fault note) (has_taken Fault) (kept_for subject who held) held) gone kept away (map (λ event. (subject, event)) (events_asked asks))
        × (n ≡ tallied n (ruled subject who (by_note Fault note) (has_taken Fault) (kept_for subject who held) held).took)
    notified_over n note asks over none =
        let same : unchanged held ≡ ruled subject who (by_note Fault note) (has_taken Fault) (kept_for subject who held) held =
        sym (ap (λ (b : Bool). carried_out subject who (if b then AsItWas else by_taking Fault note f.a) false held) (sym f.tie.over ∙ over)) ∙ by_rule (by_note Fault note) (has_taken Fault) in (
          subst (λ (e : Asks). Did acts (ruled subject who (by_note Fault note) (has_taken Fault) (kept_for subject who held) held) gone kept away (map (λ event. (subject, event)) (events_asked e))) (sym none)
              (subst (λ (c : Change S). Did acts c gone kept away []) same (unchanged_stands held gone kept away stand)),
          subst (λ (c : Change S). n ≡ tallied n c.took) same refl,
        )

    -- A FLUSH

    pub flushed_one : (r : Result Asks SinkFault) (now : Kept S) (asks : Asks) (kept_after : List (Kept S)) (away_after : List (PutAway Rest))
        → MatchResult r (λ said. IsFlushed acts f.one now said) (λ _. FaultedAtFlush acts f.one now)
        → now.subject ≡ f.one.subject → now.who ≡ f.one.who → EndsAct acts place r (set kept place now) kept_after away away_after asks
        → (mark : Mark) × Did acts (ruled subject who (by_flush mark) (λ a. false) (kept_for subject who held) held) gone kept_after away_after (map (λ event. (subject, event)) (events_asked asks))
    flushed_one (Ok said) now asks kept_after away_after did same_subject same_who ends = (
      Fine did.flow,
      subst (λ (c : Change S). Did acts c gone kept_after away_after (map (λ event. (subject, event)) (events_asked asks))) (by_rule (by_flush (Fine did.flow)) (λ a. false))
          (answer_did did.flow (with_flush did.flow f.a) now said asks false kept_after away_after (record {
            of_subject = f.key.0;
            of_who = f.key.1;
            same_subject = same_subject ∙ f.tie.subject;
            same_who = same_who ∙ f.tie.who;
            same_over = did.over ∙ f.tie.over;
            same_may_wait = did.may_wait;
            took = Took-flush f.a.sink f.a.who f.a.taken f.a.last f.one.sink now.sink did.flow f.tie.took did.did did.faultless;
            pays = due_more did.flow f.one.due f.a.due now said f.tie.due did.pays;
          }) ends),
    )
    flushed_one (Err fault) now asks kept_after away_after did same_subject same_who ends = (
      Fault,
      subst (λ (c : Change S). Did acts c gone kept_after away_after (map (λ event. (subject, event)) (events_asked asks))) (by_rule (by_flush Fault) (λ a. false))
          (parted kept_after away_after now FailedAtFlush asks same_subject same_who did.due (f.one.sink, f.tie.took, did.faulted, did.rose) ends),
    )

    -- AN OBSERVER LEFT

    let_go_one : (l : Bool) (kept_after : List (Kept S)) (away_after : List (PutAway Rest)) (asks : Asks) → PartsOne acts place l (set kept place f.one) kept_after away away_after asks
        → Did acts (carried_out subject who (if l then PutsAway f.a TookLast else LetsGo f.a) false held) gone kept_after away_after (map (λ event. (subject, event)) (events_asked asks))
    let_go_one false kept_after away_after asks parts =
        put_off kept_after away_after f.one (paid f.a) Detached false asks (requests f.a) false _ f.tie.subject f.tie.who f.tie.took parts
        (ap (λ (e : Asks). map (λ event. (subject, event)) (events_asked e)) (parted_asks kept_after away_after f.one false asks refl refl parts) ∙ sends_due subject who f.a f.key.0 f.key.1)
    let_go_one true kept_after away_after asks parts = parted kept_after away_after f.one TookLast asks refl refl refl f.tie.took parts

    pub detached_one : (kept_after : List (Kept S)) (away_after : List (PutAway Rest)) (asks : Asks) → PartsOne acts place f.one.over kept kept_after away away_after asks
        → Did acts (ruled subject who by_leaving (λ a. false) (kept_for subject who held) held) gone kept_after away_after (map (λ event. (subject, event)) (events_asked asks))
    detached_one kept_after away_after asks parts =
        subst (λ (c : Change S). Did acts c gone kept_after away_after (map (λ event. (subject, event)) (events_asked asks)))
        (ap (λ (b : Bool). carried_out subject who (if b then PutsAway f.a TookLast else LetsGo f.a) false held) f.tie.over ∙ by_rule by_leaving (λ a. false))
        (let_go_one f.one.over kept_after away_after asks
        (subst (λ (l : List (Kept S)). PartsOne acts place f.one.over l kept_after away away_after asks) (sym (set-same kept place f.one f.at)) parts))

  -- NOBODY IS KEPT FOR THE OBSERVER

  nothing_there : (held : List (Attachment S)) (gone : List (Attachment S × Why)) (kept : List (Kept S)) (away : List (PutAway Rest)) (subject who : ℕ) (asks : Asks) (c : Change S)
      → Stand acts held gone kept away → asks ≡ record { who = who; items = 0; leaves = false } → c ≡ unchanged held → Did acts c gone kept away (map (λ event. (subject, event)) (events_asked asks))
  nothing_there held gone kept away subject who asks c stand none is =
      subst (λ (e : Asks). Did acts c gone kept away (map (λ event. (subject, event)) (events_asked e))) (sym none)
      (subst (λ (d : Change S). Did acts d gone kept away []) (sym is) (unchanged_stands held gone kept away stand))

  pub notified_nobody : (n subject who : ℕ) (held : List (Attachment S)) (gone : List (Attachment S × Why)) (kept : List (Kept S)) (away : List (PutAway Rest)) (note : Note) (asks : Asks)
      → Stand acts held gone kept away → kept_for subject who held ≡ None → asks ≡ record { who = who; items = 0; leaves = false }
      → Did acts (ruled subject who (by_note Fault note) (has_taken Fault) (kept_for subject who held) held) gone kept away (map (λ event. (subject, event)) (events_asked asks))
      × (n ≡ tallied n (ruled subject who (by_note Fault note) (has_taken Fault) (kept_for subject who held) held).took)
  notified_nobody n subject who held gone kept away note asks stand none empty = (
    nothing_there held gone kept away subject who asks _ stand empty (ap (λ o. ruled subject who (by_note Fault note) (has_taken Fault) o held) none),
    sym (ap (λ o. tallied n (ruled subject who (by_note Fault note) (has_taken Fault) o held).took) none),
  )

  pub flushed_nobody : (subject who : ℕ) (held : List (Attachment S)) (gone : List (Attachment S × Why)) (kept : List (Kept S)) (away : List (PutAway Rest)) (asks : Asks)
      → Stand acts held gone kept away → kept_for subject who held ≡ None → asks ≡ record { who = who; items = 0; leaves = false }
      → (mark : Mark) × Did acts (ruled subject who (by_flush mark) (λ a. false) (kept_for subject who held) held) gone kept away (map (λ event. (subject, event)) (events_asked asks))
  flushed_nobody subject who held gone kept away asks stand none empty =
      (Fault, nothing_there held gone kept away subject who asks _ stand empty (ap (λ o. ruled subject who (by_flush Fault) (λ a. false) o held) none))

  pub detached_nobody : (subject who : ℕ) (held : List (Attachment S)) (gone : List (Attachment S × Why)) (kept : List (Kept S)) (away : List (PutAway Rest)) (asks : Asks)
      → Stand acts held gone kept away → kept_for subject who held ≡ None → asks ≡ record { who = who; items = 0; leaves = false }
      → Did acts (ruled subject who by_leaving (λ a. false) (kept_for subject who held) held) gone kept away (map (λ event. (subject, event)) (events_asked asks))
  detached_nobody subject who held gone kept away asks stand none empty =
      nothing_there held gone kept away subject who asks _ stand empty (ap (λ o. ruled subject who by_leaving (λ a. false) o held) none)

  -- what was asked, said otherwise
  pub said_so : (c : Change S) (gone : List (Attachment S × Why)) (kept : List (Kept S)) (away : List (PutAway Rest)) (subject : ℕ) (asks same : Asks) → asks ≡ same
      → Did acts c gone kept away (map (λ event. (subject, event)) (events_asked same)) → Did acts c gone kept away (map (λ event. (subject, event)) (events_asked asks))
  said_so c gone kept away subject asks same is did = subst (λ (e : Asks). Did acts c gone kept away (map (λ event. (subject, event)) (events_asked e))) (sym is) did

  -- A SINK CAME

  pub attached_beside : (place subject who : ℕ) (sink : S) (held : List (Attachment S)) (gone : List (Attachment S × Why)) (kept : List (Kept S)) (away : List (PutAway Rest)) (at : ℕ)
      → Stand acts held gone kept away → (f : Found acts subject who held kept at) (mark : Mark)
      → Did acts (attached mark (brought place subject who sink) (kept_for subject who held) held) gone kept away []
  attached_beside place subject who sink held gone kept away at stand f mark =
      let P : Change S → Type 0 = λ change. Did acts change gone kept away [] in
      subst P (sym (ap (λ o. attached mark (brought place subject who sink) o held) f.found)) (unchanged_stands held gone kept away stand)

  pub attached_fine : (place subject who : ℕ) (sink now : S) (held : List (Attachment S)) (gone : List (Attachment S × Why)) (kept kept_after : List (Kept S)) (away away_after : List (PutAway Rest))
      → Stand acts held gone kept away → kept_for subject who held ≡ None → acts.started sink who now → acts.faults now ≡ acts.faults sink
      → kept_after ≡ kept ++ record { subject = subject; who = who; sink = now; due = 0; over = false; may_wait = true } ∷ [] → away_after ≡ away
      → Did acts (attached (Fine Clear) (brought place subject who sink) (kept_for subject who held) held) gone kept_after away_after []
  attached_fine place subject who sink now held gone kept kept_after away away_after stand none started same kept_is away_is =
      let P : Change S → Type 0 = λ change. Did acts change gone kept_after away_after [] in
      let a = brought place subject who sink in
      subst P (sym (ap (λ o. attached (Fine Clear) a o held) none)) (record {
        stand = record {
          kept_are = subst (AllZip (IsKept acts) (held ++ a ∷ [])) (sym kept_is)
              (AllZip-more (IsKept acts) held kept a _ stand.kept_are (record { subject = refl; who = refl; due = refl; over = refl; waits = refl; took = record { begun = now; start = started; steps = []; notes_are = refl; last_is = refl; made = refl; faultless = same } }));
          away_are = subst (λ (l : List (PutAway Rest)). AllZip (IsPutAway acts) (gone ++ []) l) (sym away_is)
              (subst (λ (l : List (Attachment S × Why)). AllZip (IsPutAway acts) l away) (sym (append-nil gone)) stand.away_are);
          apart = apart_push held a none stand.apart;
        };
        sends = refl;
      })

  pub attached_fault : (place subject who : ℕ) (sink now : S) (held : List (Attachment S)) (gone : List (Attachment S × Why)) (kept kept_after : List (Kept S)) (away away_after : List (PutAway Rest)) (rest : Rest)
      → Stand acts held gone kept away → kept_for subject who held ≡ None → acts.start_faulted sink who now → acts.faults now ≡ raised (acts.faults sink) → acts.finished now rest
      → kept_after ≡ kept → away_after ≡ away ++ record { subject = subject; who = who; rest = rest } ∷ []
      → Did acts (attached Fault (brought place subject who sink) (kept_for subject who held) held) gone kept_after away_after ((subject, Dispose who) ∷ [])
  attached_fault place subject who sink now held gone kept kept_after away away_after rest stand none faulted rose finished kept_is away_is =
      let P : Change S → Type 0 = λ change. Did acts change gone kept_after away_after ((subject, Dispose who) ∷ []) in
      let a = brought place subject who sink in
      subst P (sym (ap (λ o. attached Fault a o held) none)) (record {
        stand = record {
          kept_are = subst (AllZip (IsKept acts) held) (sym kept_is) stand.kept_are;
          away_are = subst (AllZip (IsPutAway acts) (gone ++ (a, FailedAtStart) ∷ [])) (sym away_is)
              (AllZip-more (IsPutAway acts) gone away (a, FailedAtStart) _ stand.away_are (record { subject = refl; who = refl; last = now; was = (refl, faulted, rose); rest = finished }));
          apart = stand.apart;
        };
        sends = refl;
      })

  pub attached_nowhere : (place subject who : ℕ) (sink : S) (held : List (Attachment S)) (gone : List (Attachment S × Why)) (kept kept_after : List (Kept S)) (away away_after : List (PutAway Rest))
      → Stand acts held gone kept away → kept_for subject who held ≡ None → kept_after ≡ kept → away_after ≡ away
      → Did acts (attached NoMemory (brought place subject who sink) (kept_for subject who held) held) gone kept_after away_after ((subject, Dispose who) ∷ [])
  attached_nowhere place subject who sink held gone kept kept_after away away_after stand none kept_is away_is =
      let P : Change S → Type 0 = λ change. Did acts change gone kept_after away_after ((subject, Dispose who) ∷ []) in
      subst P (sym (ap (λ o. attached NoMemory (brought place subject who sink) o held) none)) (record {
        stand = record {
          kept_are = subst (AllZip (IsKept acts) held) (sym kept_is) stand.kept_are;
          away_are = subst (λ (l : List (PutAway Rest)). AllZip (IsPutAway acts) (gone ++ []) l) (sym away_is)
              (subst (λ (l : List (Attachment S × Why)). AllZip (IsPutAway acts) l away) (sym (append-nil gone)) stand.away_are);
          apart = stand.apart;
        };
        sends = refl;
      })

-- what is read at a place is what stands there
pub same_one : {X : Type 0} (xs : List X) (i : ℕ) (x y : X) → slice_get xs i ≡ Some x → y ≡ get_or xs i y → x ≡ y
same_one xs i x y stands read = sym (get_or_from_slice_get xs i x y stands) ∙ sym read

-- ALL SINKS

module _ {S Rest : Type 0} (acts : Acts S Rest) where
  -- these sinks were put away one after another
  abbrev pub PushesAll : List (PutAway Rest) → List (Kept S) → List (PutAway Rest) → Type 0
  PushesAll away ones away_after = FoldsTo (λ before one after. Pushes acts one before after) away ones away_after

  -- of all sinks those before the ones that are left were put away; those left stand from the last to the first
  pub record Emptied (all left : List (Kept S)) (away away_after : List (PutAway Rest)) : Type 0 where
    pub done : List (Kept S)
    pub parts : done ++ reverse left ≡ all
    pub pushed : PushesAll away done away_after

  pub Emptied-none : (left : List (Kept S)) (away : List (PutAway Rest)) → Emptied (reverse left) left away away
  Emptied-none left away = record { done = []; parts = refl; pushed = refl }

  -- the last of those left comes next
  pub Emptied-more : (all old left : List (Kept S)) (one : Kept S) (away now after : List (PutAway Rest))
      → old ≡ left ++ one ∷ [] → Pushes acts one now after → Emptied all old away now → Emptied all left away after
  Emptied-more all old left one away now after popped pushed e = record {
    done = e.done ++ one ∷ [];
    parts = append_assoc e.done (one ∷ []) (reverse left)
        ∙ ap (λ l. e.done ++ l) (sym (reverse-append left (one ∷ []))) ∙ ap (λ l. e.done ++ reverse l) (sym popped) ∙ e.parts;
    pushed = FoldsTo-push (λ before one after. Pushes acts one before after) away e.done now one after e.pushed pushed;
  }

  all_closed : (held : List (Attachment S)) (gone : List (Attachment S × Why)) (kept : List (Kept S)) (away away_after : List (PutAway Rest))
      → AllZip (IsKept acts) held kept → AllZip (IsPutAway acts) gone away → PushesAll away kept away_after
      → AllZip (IsPutAway acts) (gone ++ closed held) away_after
  all_closed [] gone [] away away_after zip gone_zip pushed =
      subst (λ (l : List (PutAway Rest)). AllZip (IsPutAway acts) (gone ++ []) l) pushed
      (subst (λ (l : List (Attachment S × Why)). AllZip (IsPutAway acts) l away) (sym (append-nil gone)) gone_zip)
  all_closed [] gone (one ∷ kept) away away_after zip gone_zip pushed = absurd zip
  all_closed (a ∷ held) gone [] away away_after zip gone_zip pushed = absurd zip
  all_closed (a ∷ held) gone (one ∷ kept) away away_after zip gone_zip pushed =
      subst (λ (l : List (Attachment S × Why)). AllZip (IsPutAway acts) l away_after) (append_assoc gone ((paid a, Closed) ∷ []) (closed held))
      (all_closed held (gone ++ (paid a, Closed) ∷ []) kept pushed.0 away_after zip.1
      (away_more acts gone away pushed.0 (paid a) Closed one gone_zip zip.0.subject zip.0.who zip.0.took pushed.1) pushed.2)

  -- all were put away
  pub left_stands : (kept start left : List (Kept S)) (away away_after : List (PutAway Rest)) (held : List (Attachment S)) (gone : List (Attachment S × Why))
      → start ≡ reverse kept → left ≡ [] → Emptied (reverse start) left away away_after
      → Stand acts held gone kept away → Stand acts [] (gone ++ closed held) left away_after
  left_stands kept start left away away_after held gone turned none e stand =
      let done : e.done ≡ kept = sym (append-nil e.done) ∙ ap (λ l. e.done ++ reverse l) (sym none) ∙ e.parts ∙ ap reverse turned ∙ reverse-reverse kept in
      record {
        kept_are = subst (AllZip (IsKept acts) []) (sym none) tt;
        away_are = all_closed held gone kept away away_after stand.kept_are stand.away_are (subst (λ (l : List (Kept S)). PushesAll away l away_after) done e.pushed);
        apart = tt;
      }
