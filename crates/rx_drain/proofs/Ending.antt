-- What a drainer is before its first turn, after each, and what it leaves.
use Rattle.std.proofs.Common.{◌≡◌, ◌∙◌, sym, refl, ap, subst, ℕ, ◌+◌, ◌==◌, ◌||◌, ◌&&◌, ◌⊎◌, inl, inr, cond, Bool, true, false, List, [], ◌∷◌, ◌++◌, append_assoc, append-nil, length, map, Option, Some, None, is_some, arith}
use Rattle.std.proofs.Math.Bool.{or-false}
use Rattle.std.proofs.lemmas.List.Elements.{filter-append}
use Rattle.std.proofs.lemmas.List.Folds.{list_any-append}
use Rattle.std.specs.List.{All, AllByRecursion, AllZip}
use Rattle.rx_mailbox.specs.declared.letter.Letter.{Letter}
use Rattle.rx_mailbox.specs.declared.letter.Post.{Post}
use Rattle.rx_mailbox.specs.declared.letter.Post.TheVariants.{Body, Bye}
use Rattle.rx_mailbox.specs.Letters.{share, ends, has_bye}
use Rattle.rx_mailbox.specs.Boxes.{Outgoing, Incoming, HasEachBye, incoming, with_letter, with_letters}
use Rattle.rx_pump.specs.declared.call.Call.{Call}
use Rattle.rx_pump.specs.declared.out.Out.{Out}
use Rattle.rx_pump.specs.Opened.{opened_ports}
use Rattle.rx_pump.specs.Pumps.{AreSame, port_place}
use Rattle.rx_mailbox.specs.PortRows.{IsFresh}
use Rattle.rx_pump.proofs.Asking.{AreSame-opened}
use Rattle.rx_pump.proofs.Pumping.{HavePut-fresh, AreSame-length}
use Rattle.rx_sink.specs.declared.kept.Kept.{Kept}
use Rattle.rx_sink.specs.declared.put_away.PutAway.{PutAway}
use Rattle.rx_sink.specs.Acts.{Acts}
use Rattle.rx_sink.specs.Attachments.{Attachment, Mark, flushing}
use Rattle.rx_sink.specs.KeptSinks.{IsKept, IsPutAway, addressed}
use Rattle.rx_drain.specs.declared.drainer.drain_end.DrainEnd.{DrainEnd}
use Rattle.rx_drain.specs.declared.drainer.drain_fault.DrainFault.{DrainFault}
use Rattle.rx_drain.specs.declared.drainer.drain_fault.DrainFault.TheVariants.{InboxGone}
use Rattle.rx_drain.specs.declared.drainer.drain_stop.DrainStop.{DrainStop}
use Rattle.rx_drain.specs.Logs.{Log, NoLetters, Next, Flush, letters, has_left, letter_change, kept_in, sent_in}
use Rattle.rx_drain.proofs.Changing.{post_change}
use Rattle.rx_drain.specs.Credit.{IsPaid, AreAllPaid}
use Rattle.rx_drain.specs.Drainers.{DrainerView, HaveSent, SentUpTo, StandsForLog, Drains, IsDrained, HandlesLetter, FlushesAll, HasGoneOn, Pays, KeepsDrainer, TakesMore, TakesSome, forgetful, view_of}
use Rattle.rx_drain.specs.Serving.{HasDrained, DrainerHasStopped}

pub bool_cases : (b : Bool) → (b ≡ true) ⊎ (b ≡ false)
bool_cases true = inl refl
bool_cases false = inr refl

module _ {S : Type 0} where
  -- the leave port's Bye came where it was received
  left_step : (b : Bool) (x : Letter (Out S)) → has_bye (cond b (x ∷ []) []) ≡ (b && ends x.post)
  left_step true x = or-false (ends x.post)
  left_step false x = refl

  pub left_by_bye : (leave : ℕ) (log : Log S) → has_left leave log ≡ has_bye (share leave (letters log))
  left_by_bye leave NoLetters = refl
  left_by_bye leave (Flush log s w mark) = left_by_bye leave log
  left_by_bye leave (Next log x mark) =
      ap (λ b. b || (x.from == leave && ends x.post)) (left_by_bye leave log)
      ∙ ap (λ b. has_bye (share leave (letters log)) || b) (sym (left_step (x.from == leave) x))
      ∙ sym (list_any-append (λ (y : Letter (Out S)). ends y.post) (share leave (letters log)) (cond (x.from == leave) (x ∷ []) []))
      ∙ ap has_bye (sym (filter-append (λ (y : Letter (Out S)). y.from == leave) (letters log) (x ∷ [])))

  -- from then on no sink is kept
  closed_by : (leave place from : ℕ) (post : Post (Out S)) (mark : Mark) (kept : List (Attachment S)) (b : Bool)
      → (from == leave) ≡ b → (b && ends post) ≡ true → (post_change b place from post mark kept).kept ≡ []
  closed_by leave place from (Body out) mark kept true is bye = cc
  closed_by leave place from Bye mark kept true is bye = refl
  closed_by leave place from post mark kept false is bye = cc

  kept_step : (leave : ℕ) (log : Log S) (x : Letter (Out S)) (mark : Mark) (b : Bool) → has_left leave log ≡ b
      → (b || (x.from == leave && ends x.post)) ≡ true → (has_left leave log ≡ true → kept_in leave log ≡ [])
      → (letter_change b leave (length (letters log)) x mark (kept_in leave log)).kept ≡ []
  kept_step leave log x mark true was is before = before was
  kept_step leave log x mark false was is before = closed_by leave (length (letters log)) x.from x.post mark (kept_in leave log) (x.from == leave) refl is

  pub kept_none : (leave : ℕ) (log : Log S) → has_left leave log ≡ true → kept_in leave log ≡ []
  kept_none leave NoLetters is = refl
  kept_none leave (Flush log s w mark) is = ap (λ (k : List (Attachment S)). ((flushing s w).changed mark k).kept) (kept_none leave log is)
  kept_none leave (Next log x mark) is = kept_step leave log x mark (has_left leave log) refl is (kept_none leave log)

module _ {S Rest : Type 0} (acts : Acts S Rest) where
  -- A NEW DRAINER

  pub drained_fresh : (view : DrainerView S Rest) → view.inbox.received ≡ [] → All IsFresh view.ports → view.kept ≡ [] → view.away ≡ [] → view.misses ≡ 0 → view.taken ≡ 0
      → view.left ≡ false → view.fault ≡ None → IsDrained acts view
  drained_fresh view received fresh kept away misses taken left whole = (
    NoLetters,
    record {
      received = received;
      stands = record {
        left = left;
        sent = subst (λ (f : Option DrainFault). SentUpTo f view.left [] view.ports) (sym whole)
            (subst (λ (l : Bool). HaveSent l (λ d. []) view.ports) (sym left) (HavePut-fresh view.ports fresh));
        sinks = record { kept_are = subst (AllZip (IsKept acts) []) (sym kept) tt; away_are = subst (AllZip (IsPutAway acts) []) (sym away) tt; apart = tt };
        missed = misses;
        took = taken;
      };
    },
    λ none. tt,
  )

  -- the same, but that nothing of what its sinks leave is kept
  pub drained_forgetful : (view : DrainerView S Rest) → IsDrained acts view → IsDrained acts (forgetful view)
  drained_forgetful view (log, d, paid) = (
    log,
    record {
      received = d.received;
      stands = record { left = d.stands.left; sent = d.stands.sent; sinks = d.stands.sinks; missed = d.stands.missed; took = d.stands.took };
    },
    paid,
  )

  -- A TURN

  -- the same, whatever the inbox
  stands_too : (leave : ℕ) (log : Log S) (before after : DrainerView S Rest) → after ≡ record before { inbox = after.inbox } → StandsForLog acts leave log before → StandsForLog acts leave log after
  stands_too leave log before after is s =
      subst (λ (v : DrainerView S Rest). StandsForLog acts leave log v) (sym is) (record { left = s.left; sent = s.sent; sinks = s.sinks; missed = s.missed; took = s.took })

  -- no letter came
  pub drained_gone : (before after : DrainerView S Rest) → before.fault ≡ None → after ≡ record before { fault = Some InboxGone } → IsDrained acts before → IsDrained acts after
  drained_gone before after whole is (log, d, paid) =
      subst (λ (v : DrainerView S Rest). IsDrained acts v) (sym is) (
        log,
        record {
          received = d.received;
          stands = record {
            left = d.stands.left;
            sent = subst (λ (f : Option DrainFault). SentUpTo f before.left (addressed (sent_in (length before.ports) log)) before.ports) whole d.stands.sent;
            sinks = d.stands.sinks;
            missed = d.stands.missed;
            took = d.stands.took;
          };
        },
        λ none. cc,
      )

  -- a letter came
  pub goes_letter : (before mid after : DrainerView S Rest) (x : Letter (Out S)) → before.fault ≡ None
      → mid ≡ record before { inbox = mid.inbox; fault = None } → mid.inbox ≡ with_letter before.inbox x → after.inbox ≡ mid.inbox
      → AreSame mid.ports after.ports → HandlesLetter acts x mid after → HasGoneOn acts before after
  goes_letter before mid after x whole mid_is received kept same handles log d =
      let P : DrainerView S Rest → Type 0 = λ v. StandsForLog acts (length v.ports) log v in
      let base : P (record before { inbox = mid.inbox; fault = None }) = record {
        left = d.stands.left;
        sent = subst (λ (f : Option DrainFault). SentUpTo f before.left (addressed (sent_in (length before.ports) log)) before.ports) whole d.stands.sent;
        sinks = d.stands.sinks;
        missed = d.stands.missed;
        took = d.stands.took;
      } in
      let next = handles.1 log (subst P (sym mid_is) base) in
      let count : length mid.ports ≡ length after.ports = sym (AreSame-length mid.ports after.ports same) in (
        Next next.0 x next.2,
        record {
          received = ap (λ (i : Incoming (Out S)). i.received) (kept ∙ received) ∙ ap (λ (l : List (Letter (Out S))). l ++ x ∷ []) (d.received ∙ sym next.1);
          stands = subst (λ (n : ℕ). StandsForLog acts n (Next next.0 x next.2) after) count next.3;
        },
      )

  -- nothing came
  pub goes_nowhere : (view : DrainerView S Rest) → HasGoneOn acts view view
  goes_nowhere view log d = (log, d)

  -- more came
  pub goes_further : (first second third : DrainerView S Rest) → HasGoneOn acts first second → HasGoneOn acts second third → HasGoneOn acts first third
  goes_further first second third a b log d = (let one = a log d in b one.0 one.1)

  -- sinks were flushed
  pub pays_flushed : (before after : DrainerView S Rest) → after.inbox ≡ before.inbox → AreSame before.ports after.ports → FlushesAll acts before after → Pays acts before after
  pays_flushed before after kept same flushes log d =
      let f = flushes.stands log d.stands in
      let count : length before.ports ≡ length after.ports = sym (AreSame-length before.ports after.ports same) in (
        f.0,
        record {
          received = ap (λ (i : Incoming (Out S)). i.received) kept ∙ d.received ∙ sym f.1;
          stands = subst (λ (n : ℕ). StandsForLog acts n f.0 after) count f.2;
        },
        λ none. subst (λ (n : ℕ). AreAllPaid n f.0) count (f.3 none),
      )

  -- before the drainer left, and without a fault
  pub pays_open : (view : Bool → Option DrainFault → DrainerView S Rest) (after : DrainerView S Rest) (left : Bool) (fault : Option DrainFault)
      → left ≡ false → is_some fault ≡ false → Pays acts (view false None) after → Pays acts (view left fault) after
  pays_open view after false None open_yet whole pays = pays
  pays_open view after false (Some fault) open_yet whole pays = cc
  pays_open view after true fault open_yet whole pays = cc

  -- no sink is kept any more
  pub pays_left : (view : DrainerView S Rest) → view.left ≡ true → Pays acts view view
  pays_left view left log d =
      (log, d, λ none. subst (AllByRecursion IsPaid) (sym (kept_none (length view.ports) log (sym d.stands.left ∙ left))) tt)

  -- there is a fault
  pub pays_fault : (view : DrainerView S Rest) → is_some view.fault ≡ true → Pays acts view view
  pays_fault view some log d = (log, d, λ none. (let no : is_some view.fault ≡ false = ap is_some none in cc))

  -- LETTERS RECEIVED

  pub takes_none : (a : Incoming (Out S)) → TakesMore a a
  takes_none a = ([], ap (λ (l : List (Letter (Out S))). incoming a.box a.ports l) (sym (append-nil a.received)))

  pub takes_then : (a b mid c : Incoming (Out S)) (x : Letter (Out S)) → TakesMore a b → mid ≡ with_letter b x → c ≡ mid → TakesMore a c
  takes_then a b mid c x (xs, more) received kept = (
    xs ++ x ∷ [],
    kept ∙ received ∙ ap (λ (i : Incoming (Out S)). with_letter i x) more ∙ ap (λ (l : List (Letter (Out S))). incoming a.box a.ports l) (append_assoc a.received xs (x ∷ [])),
  )

  pub takes_both : (a b c : Incoming (Out S)) → TakesMore a b → TakesMore b c → TakesMore a c
  takes_both a b c (xs, first) (ys, then) = (
    xs ++ ys,
    then ∙ ap (λ (i : Incoming (Out S)). with_letters i ys) first ∙ ap (λ (l : List (Letter (Out S))). incoming a.box a.ports l) (append_assoc a.received xs ys),
  )

  pub takes_single : (a mid c : Incoming (Out S)) (x : Letter (Out S)) → mid ≡ with_letter a x → c ≡ mid → TakesSome a c
  takes_single a mid c x received kept = (x, [], kept ∙ received)

  pub takes_one_and : (a b c : Incoming (Out S)) → TakesSome a b → TakesMore b c → TakesSome a c
  takes_one_and a b c (x, xs, first) (ys, then) = (
    x,
    xs ++ ys,
    then ∙ ap (λ (i : Incoming (Out S)). with_letters i ys) first ∙ ap (λ (l : List (Letter (Out S))). incoming a.box a.ports l) (append_assoc a.received (x ∷ xs) ys),
  )

  -- a turn
  pub drained_turn : (first second third : DrainerView S Rest) → HasGoneOn acts first second → Pays acts second third → IsDrained acts first → IsDrained acts third
  drained_turn first second third a b (log, d, paid) =
      let one = a log d in
      let two = b one.0 one.1 in (two.0, two.1, two.2)

  -- AT THE END

  empty_zip : (held : List (Attachment S)) (kept : List (Kept S)) → held ≡ [] → AllZip (IsKept acts) held kept → kept ≡ []
  empty_zip [] [] is zip = refl
  empty_zip [] (one ∷ kept) is zip = absurd zip
  empty_zip (a ∷ held) kept is zip = cc

  -- the drainer was told to leave
  pub told_to_leave : (view : DrainerView S Rest) → view.inbox.ports ≡ length view.ports + 1 → HasEachBye view.inbox → IsDrained acts view → view.left ≡ true
  told_to_leave view senders each (log, d, paid) =
      d.stands.left ∙ left_by_bye (length view.ports) log ∙ ap (λ (l : List (Letter (Out S))). has_bye (share (length view.ports) l)) (sym d.received)
      ∙ each (length view.ports) (omega (arith, senders))

  -- and keeps no sink
  pub keeps_none : (view : DrainerView S Rest) → view.left ≡ true → IsDrained acts view → view.kept ≡ []
  keeps_none view left_is (log, d, paid) =
      empty_zip (kept_in (length view.ports) log) view.kept (kept_none (length view.ports) log (sym d.stands.left ∙ left_is)) d.stands.sinks.kept_are

  drains_end : (log : Log S) (inbox : Incoming (Out S)) (ports : List (Outgoing (Call S))) (away : List (PutAway Rest)) (keeps : Bool) (misses taken : ℕ)
      (all : List (Outgoing (Call S))) (kept : List (Kept S)) (left : Bool) (fault : Option DrainFault)
      → all ≡ ports → kept ≡ [] → left ≡ true → fault ≡ None
      → Drains acts (record { inbox = inbox; ports = all; kept = kept; away = away; keeps = keeps; misses = misses; taken = taken; left = left; fault = fault }) log
      → Drains acts (record { inbox = inbox; ports = ports; kept = []; away = away; keeps = keeps; misses = misses; taken = taken; left = true; fault = None }) log
  drains_end log inbox ports away keeps misses taken all kept left fault all_is kept_is left_is fault_is d =
      subst (λ (f : Option DrainFault). Drains acts (record { inbox = inbox; ports = ports; kept = []; away = away; keeps = keeps; misses = misses; taken = taken; left = true; fault = f }) log) fault_is
      (subst (λ (l : Bool). Drains acts (record { inbox = inbox; ports = ports; kept = []; away = away; keeps = keeps; misses = misses; taken = taken; left = l; fault = fault }) log) left_is
      (subst (λ (k : List (Kept S)). Drains acts (record { inbox = inbox; ports = ports; kept = k; away = away; keeps = keeps; misses = misses; taken = taken; left = left; fault = fault }) log) kept_is
      (subst (λ (p : List (Outgoing (Call S))). Drains acts (record { inbox = inbox; ports = p; kept = kept; away = away; keeps = keeps; misses = misses; taken = taken; left = left; fault = fault }) log) all_is d)))

  pub served_end : (view : DrainerView S Rest) (rest : List (Outgoing (Call S))) (end : DrainEnd S Rest)
      → end.inbox ≡ view.inbox → view.ports ≡ opened_ports end.ports.items ++ rest → rest ≡ [] → end.put_away.items ≡ view.away → end.put_away.keeps ≡ view.keeps → end.places.misses ≡ view.misses → end.taken ≡ view.taken
      → view.left ≡ true → view.fault ≡ None → HasEachBye view.inbox → IsDrained acts view → HasDrained acts view end
  served_end view rest end inbox ports none away keeps misses taken left_is whole each (log, d, paid) =
      let all : view.ports ≡ opened_ports end.ports.items = ports ∙ ap (λ l. opened_ports end.ports.items ++ l) none ∙ append-nil (opened_ports end.ports.items) in
      let drains = drains_end log view.inbox (opened_ports end.ports.items) view.away view.keeps view.misses view.taken view.ports view.kept view.left view.fault all (keeps_none view left_is (log, d, paid)) left_is whole d in
      let P : Incoming (Out S) → List (PutAway Rest) → Bool → ℕ → ℕ → Type 0 =
      λ i w k m t. Drains acts (record { inbox = i; ports = opened_ports end.ports.items; kept = []; away = w; keeps = k; misses = m; taken = t; left = true; fault = None }) log in (
        log,
        record {
          drains = subst (λ i. P i end.put_away.items end.put_away.keeps end.places.misses end.taken) (sym inbox)
              (subst (λ w. P view.inbox w end.put_away.keeps end.places.misses end.taken) (sym away) (subst (λ k. P view.inbox view.away k end.places.misses end.taken) (sym keeps)
              (subst (λ m. P view.inbox view.away view.keeps m end.taken) (sym misses) (subst (λ t. P view.inbox view.away view.keeps view.misses t) (sym taken) drains))));
          each_bye = subst (λ (i : Incoming (Out S)). HasEachBye i) (sym inbox) each;
          over = λ _. inbox;
          places = record {
            box = ap (λ (i : Incoming (Out S)). i.box) inbox;
            count = ap (λ (i : Incoming (Out S)). i.ports) inbox;
            ports = ap (map port_place) (sym all);
            keeps = keeps;
          };
          ports = sym (AreSame-opened end.ports.items) ∙ ap (map port_place) (sym all);
        },
      )

  -- where the Bye of each port had come before, nothing was taken
  abbrev pub TakesNone : DrainerView S Rest → DrainerView S Rest → Type 0
  TakesNone before after = HasEachBye before.inbox → after.inbox ≡ before.inbox

  over_before : (before after : DrainerView S Rest) (inbox : Incoming (Out S)) → TakesNone before after → (HasEachBye after.inbox → inbox ≡ after.inbox) → HasEachBye before.inbox
      → inbox ≡ before.inbox
  over_before before after inbox none over each = over (subst (λ (i : Incoming (Out S)). HasEachBye i) (sym (none each)) each) ∙ none each

  -- what a drainer leaves after some turns is what it leaves before them
  pub served_kept : (before after : DrainerView S Rest) (end : DrainEnd S Rest) → KeepsDrainer before after → TakesNone before after → HasDrained acts after end → HasDrained acts before end
  served_kept before after end kept none (log, s) = (
    log,
    record {
      drains = s.drains;
      each_bye = s.each_bye;
      over = λ each. over_before before after end.inbox none s.over each;
      places = record { box = s.places.box ∙ kept.box; count = s.places.count ∙ kept.count; ports = s.places.ports ∙ kept.ports; keeps = s.places.keeps ∙ kept.keeps };
      ports = s.ports ∙ kept.ports;
    },
  )

  -- the same of a drainer that stops
  pub stopped_kept : (before after : DrainerView S Rest) (stop : DrainStop S Rest) → KeepsDrainer before after
      → (stop.fault ≡ InboxGone → before.fault ≡ None → ¬ HasEachBye stop.left.parts.inbox) → DrainerHasStopped acts after stop → DrainerHasStopped acts before stop
  stopped_kept before after stop kept waited (log, s) =
      let count : length after.ports ≡ length before.ports = AreSame-length before.ports after.ports kept.ports in (
        log,
        record {
          drains = subst (λ (n : ℕ). Drains acts (view_of stop.left (has_left n log) (Some stop.fault)) log) count s.drains;
          places =
              let p = subst (λ (n : ℕ). KeepsDrainer after (view_of stop.left (has_left n log) (Some stop.fault))) count s.places in
              record { box = p.box ∙ kept.box; count = p.count ∙ kept.count; ports = p.ports ∙ kept.ports; keeps = p.keeps ∙ kept.keeps };
          waited = waited;
        },
      )
