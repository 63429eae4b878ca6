-- What a drainer stands for after one letter more.
use Rattle.std.proofs.Common.{◌≡◌, ◌∙◌, sym, refl, ap, subst, ℕ, zero, suc, zero-add, ◌+◌, ◌-◌, ◌^◌, ◌<◌, ◌==◌, ◌||◌, ◌&&◌, ◌⊎◌, inl, inr, min, Bool, true, false, List, [], ◌∷◌, ◌++◌, append_assoc, append-nil, length, length-append, map, replicate, Option, Some, None, is_some, slice_get, eq-eqb, arith}
use Rattle.std.proofs.lemmas.List.{map-append}
use Rattle.std.proofs.lemmas.Option.{slice_get_within}
use Rattle.std.specs.List.{AllZip}
use Rattle.rx_mailbox.specs.declared.letter.Letter.{Letter}
use Rattle.rx_mailbox.specs.declared.letter.Post.{Post}
use Rattle.rx_mailbox.specs.declared.letter.Post.TheVariants.{Body, Bye}
use Rattle.rx_mailbox.specs.Letters.{letter, ends}
use Rattle.rx_mailbox.specs.Boxes.{Outgoing}
use Rattle.rx_note.specs.declared.event.Event.{Event}
use Rattle.rx_note.specs.declared.event.Event.TheVariants.{Request, Dispose}
use Rattle.rx_pump.specs.declared.call.Call.{Call}
use Rattle.rx_pump.specs.declared.out.Out.{Out}
use Rattle.rx_pump.specs.declared.out.Out.TheVariants.{Attach, Give, Detach}
use Rattle.rx_pump.specs.Pumps.{AreSame, port_place}
use Rattle.rx_mailbox.specs.PortRows.{Puts, with_bye, EndsSome}
use Rattle.rx_pump.proofs.Pumping.{HavePut-puts, HavePut-same, AreSame-puts}
use Rattle.rx_pump.proofs.Leaving.{AreSame-byes, HaveEnded-byes, HaveEndedSome-some, EndsSome-first}
use Rattle.rx_sink.specs.declared.flow.Flow.TheVariants.{Clear}
use Rattle.rx_sink.specs.declared.kept.Kept.{Kept}
use Rattle.rx_sink.specs.Acts.{Acts}
use Rattle.rx_sink.specs.Attachments.{Attachment, Why, Mark, Fine, Change, flushing, kept_for, unchanged, left, closed, dispose, requests, parting, partings, request, by_flush}
use Rattle.rx_sink.specs.KeptSinks.{Stand, Tends, IsKept, IsPutAway, addressed, sinks, tallied}
use Rattle.rx_sink.proofs.Counts.{none_missed, none_taken}
use Rattle.rx_drain.specs.declared.drainer.drain_fault.DrainFault.{DrainFault}
use Rattle.rx_drain.specs.declared.drainer.drain_fault.DrainFault.TheVariants.{InboxGone, SubjectGone}
use Rattle.rx_drain.specs.Calls.{calls_to, parting_of, partings_of, SendsEvents}
use Rattle.rx_drain.specs.Logs.{Log, Next, Flush, letters, has_left, out_change, service_of, letter_change, kept_in, change, flush_change, gone_in, sent_in, missed_in, one_if, taken_in, put_by}
use Rattle.rx_drain.proofs.Changing.{post_change}
use Rattle.rx_drain.specs.Drainers.{DrainerView, IsOfSubject, HaveSent, SentUpTo, StandsForLog, HandlesLetter}
use Rattle.rx_drain.proofs.Events.{calls_to-append}

tallied-more : (m n : ℕ) (more : Bool) → m ≡ min n (2 ^ 64 - 1) → tallied m more ≡ min (n + one_if more) (2 ^ 64 - 1)
tallied-more m n false is = omega (arith, is)
tallied-more m n true is = omega (arith, is)

-- what a subject sends comes to its own observers
of_subject : {S : Type 0} (place subject : ℕ) (out : Out S) → (service_of place subject out).subject ≡ subject
of_subject place subject (Attach who sink) = refl
of_subject place subject (Give who note) = refl
of_subject place subject (Detach who) = refl

-- WHAT THE PORTS HAVE PUT

-- an element of two lists joined is in the first, or in the second
split_place : {X : Type 0} (xs ys : List X) (i : ℕ) (x : X) → slice_get (xs ++ ys) i ≡ Some x
    → (slice_get xs i ≡ Some x) ⊎ ((j : ℕ) × (i ≡ length xs + j) × (slice_get ys j ≡ Some x))
split_place [] ys i x is = inr (i, sym (zero-add i), is)
split_place (y ∷ xs) ys zero x is = inl is
split_place (y ∷ xs) ys (suc i) x is =
    elim (split_place xs ys i x is) [
      | inl here ↦ inl here
      | inr there ↦ (let later : suc i ≡ suc (length xs) + there.0 = omega (arith, there.1) in inr (there.0, later, there.2))
    ]

module _ {S : Type 0} where
  -- the same events
  sent_same : (fault : Option DrainFault) (left : Bool) (first second : List (ℕ × Event)) (ports : List (Outgoing (Call S)))
      → first ≡ second → SentUpTo fault left first ports → SentUpTo fault left second ports
  sent_same fault left first second ports same have = subst (λ (events : List (ℕ × Event)). SentUpTo fault left events ports) same have

  -- without a fault, before the drainer left and in other words all were sent
  pub sent_whole : (fault : Option DrainFault) (left : Bool) (events : List (ℕ × Event)) (ports : List (Outgoing (Call S)))
      → fault ≡ None → left ≡ false → SentUpTo fault left events ports → HaveSent false (λ d. calls_to d events) ports
  sent_whole fault left events ports whole open_yet have =
      subst (λ (l : Bool). HaveSent l (λ d. calls_to d events) ports) open_yet (subst (λ (f : Option DrainFault). SentUpTo f left events ports) whole have)

  -- some events more were sent
  puts_more : (all events : List (ℕ × Event)) (a b : List (Outgoing (Call S)))
      → HaveSent false (λ d. calls_to d all) a → Puts (λ d. calls_to d events) a b → HaveSent false (λ d. calls_to d (all ++ events)) b
  puts_more all events a b have put =
      HavePut-same _ _ b (λ d. sym (calls_to-append d all events)) (HavePut-puts (λ d. calls_to d all) (λ d. calls_to d events) a b have put)

  -- or the first of them
  have_more : (fault : Option DrainFault) (all events : List (ℕ × Event)) (a b : List (Outgoing (Call S)))
      → HaveSent false (λ d. calls_to d all) a → SendsEvents fault events a b → SentUpTo fault false (all ++ events) b
  have_more None all events a b have p = puts_more all events a b have p
  have_more (Some InboxGone) all events a b have p = absurd p
  have_more (Some (SubjectGone place)) all events a b have p = inl (record {
    named = subst (λ (n : ℕ). place < n) (sym p.put.count) p.named;
    done = all ++ p.done;
    next = p.next;
    rest = p.rest;
    parts = append_assoc all p.done ((place, p.next) ∷ p.rest) ∙ ap (λ l. all ++ l) p.parts;
    sent = puts_more all p.done a b have p.put;
  })

  -- the ports are those before
  pub same_sent : (fault : Option DrainFault) (events : List (ℕ × Event)) (ended a b : List (Outgoing (Call S))) → SendsEvents fault events a b → AreSame (ended ++ a) (ended ++ b)
  same_sent None events ended a b p =
      map-append port_place ended b ∙ ap (λ l. map port_place ended ++ l) (AreSame-puts (λ d. calls_to d events) a b p) ∙ sym (map-append port_place ended a)
  same_sent (Some InboxGone) events ended a b p = absurd p
  same_sent (Some (SubjectGone place)) events ended a b p =
      map-append port_place ended b ∙ ap (λ l. map port_place ended ++ l) (AreSame-puts (λ d. calls_to d p.done) a b p.put) ∙ sym (map-append port_place ended a)

  -- a fault at that is that of a subject
  pub of_sent : (fault : Option DrainFault) (events : List (ℕ × Event)) (a b : List (Outgoing (Call S))) → SendsEvents fault events a b → IsOfSubject fault
  of_sent None events a b p = tt
  of_sent (Some InboxGone) events a b p = absurd p
  of_sent (Some (SubjectGone place)) events a b p = tt

  -- ENDING

  -- the ports that are open before the drainer leaves are all
  all_open : (ended a : List (Outgoing (Call S))) → ended ≡ [] → ended ++ a ≡ a
  all_open ended a none = ap (λ l. l ++ a) none

  -- all have ended
  all_ended : (ended mid ended_after rest : List (Outgoing (Call S))) → ended ≡ [] → ended_after ≡ ended ++ map with_bye mid → rest ≡ [] → ended_after ++ rest ≡ map with_bye mid
  all_ended ended mid ended_after rest none after_is empty =
      ap (λ l. ended_after ++ l) empty ∙ append-nil ended_after ∙ after_is ∙ ap (λ l. l ++ map with_bye mid) none

  pub same_ended : (events : List (ℕ × Event)) (ended a mid ended_after rest : List (Outgoing (Call S)))
      → ended ≡ [] → SendsEvents None events a mid → ended_after ≡ ended ++ map with_bye mid → rest ≡ [] → AreSame (ended ++ a) (ended_after ++ rest)
  same_ended events ended a mid ended_after rest none put after_is empty =
      ap (map port_place) (all_ended ended mid ended_after rest none after_is empty) ∙ AreSame-byes mid ∙ AreSame-puts (λ d. calls_to d events) a mid put
      ∙ sym (ap (map port_place) (all_open ended a none))

  pub same_half : (events : List (ℕ × Event)) (ended a mid ended_after rest : List (Outgoing (Call S)))
      → ended ≡ [] → SendsEvents None events a mid → EndsSome mid rest ended ended_after → AreSame (ended ++ a) (ended_after ++ rest)
  same_half events ended a mid ended_after rest none put ends0 =
      let ends = EndsSome-first mid rest ended ended_after none ends0 in
      ap (λ (l : List (Outgoing (Call S))). map port_place (l ++ rest)) ends.ended ∙ map-append port_place (map with_bye ends.done) rest
      ∙ ap (λ l. l ++ map port_place rest) (AreSame-byes ends.done) ∙ sym (map-append port_place ends.done rest) ∙ ap (map port_place) ends.parts
      ∙ AreSame-puts (λ d. calls_to d events) a mid put ∙ sym (ap (map port_place) (all_open ended a none))

  -- what stopped is stopped once the drainer leaves
  pub still_stopped : (fault : DrainFault) (events : List (ℕ × Event)) (ports : List (Outgoing (Call S))) → SentUpTo (Some fault) false events ports → IsOfSubject (Some fault)
      → SentUpTo (Some fault) true events ports
  still_stopped InboxGone events ports have is = absurd is
  still_stopped (SubjectGone place) events ports (inl stopped) is = inl stopped
  still_stopped (SubjectGone place) events ports (inr ended) is = (let both = ended.is_left in cc)

  -- the first events were sent, and no port ended
  pub sent_in_part : (fault : Option DrainFault) (all events : List (ℕ × Event)) (ended a b : List (Outgoing (Call S)))
      → is_some fault ≡ true → ended ≡ [] → HaveSent false (λ d. calls_to d all) (ended ++ a) → SendsEvents fault events a b
      → SentUpTo fault true (all ++ events) (ended ++ b)
  sent_in_part None all events ended a b some none have p = cc
  sent_in_part (Some fault) all events ended a b some none have p =
      subst (SentUpTo (Some fault) true (all ++ events)) (sym (all_open ended b none))
      (still_stopped fault (all ++ events) b (have_more (Some fault) all events a b (subst (HaveSent false (λ d. calls_to d all)) (all_open ended a none) have) p) (of_sent (Some fault) events a b p))

  -- all were sent, and all ports have ended
  pub sent_ended : (all events : List (ℕ × Event)) (ended a mid ended_after rest : List (Outgoing (Call S)))
      → ended ≡ [] → HaveSent false (λ d. calls_to d all) (ended ++ a) → SendsEvents None events a mid → ended_after ≡ ended ++ map with_bye mid → rest ≡ []
      → SentUpTo None true (all ++ events) (ended_after ++ rest)
  sent_ended all events ended a mid ended_after rest none have put after_is empty =
      subst (HaveSent true (λ d. calls_to d (all ++ events))) (sym (all_ended ended mid ended_after rest none after_is empty))
      (HaveEnded-byes _ mid (puts_more all events a mid (subst (HaveSent false (λ d. calls_to d all)) (all_open ended a none) have) put))

  -- all were sent, and some ports have ended
  pub sent_half : (place : ℕ) (all events : List (ℕ × Event)) (ended a mid ended_after rest : List (Outgoing (Call S)))
      → ended ≡ [] → HaveSent false (λ d. calls_to d all) (ended ++ a) → SendsEvents None events a mid → EndsSome mid rest ended ended_after → place ≡ length ended_after
      → SentUpTo (Some (SubjectGone place)) true (all ++ events) (ended_after ++ rest)
  sent_half place all events ended a mid ended_after rest none have put ends0 place_is =
      let ends = EndsSome-first mid rest ended ended_after none ends0 in
      let some = HaveEndedSome-some (λ d. calls_to d (all ++ events)) mid rest ended_after
      (puts_more all events a mid (subst (HaveSent false (λ d. calls_to d all)) (all_open ended a none) have) put) ends in
      inr (record {
        named = omega (arith, place_is, length-append ended_after rest, ends.some);
        is_left = refl;
        ended = λ d port before is.
            elim (split_place ended_after rest d port is) as (λ _. port.own ≡ put_by true port.number (calls_to d (all ++ events))) [
              | inl here ↦ some.first d port here
              | inr there ↦ absurd (let at = there.1 in omega (arith, at, place_is, before))
            ];
        others = λ d port from is.
            elim (split_place ended_after rest d port is) as (λ _. port.own ≡ put_by false port.number (calls_to d (all ++ events))) [
              | inl here ↦ absurd (let within = slice_get_within ended_after d port here in omega (arith, within, place_is, from))
              | inr there ↦ subst (λ (n : ℕ). port.own ≡ put_by false port.number (calls_to n (all ++ events))) (sym there.1) (some.others there.0 port there.2)
            ];
      })

  -- the events with those of a letter more
  sent_next : (leave : ℕ) (log : Log S) (x : Letter (Out S)) (mark : Mark)
      → addressed (sent_in leave log) ++ addressed (change leave log x mark).sends ≡ addressed (sent_in leave (Next log x mark))
  sent_next leave log x mark = sym (map-append _ (sent_in leave log) (change leave log x mark).sends)

-- ONE LETTER MORE

module _ {S Rest : Type 0} (acts : Acts S Rest) where
  -- the sinks and the ports of a drainer after a change
  record Changed (leave : ℕ) (log : Log S) (after : DrainerView S Rest) (c : Change S) : Type 0 where
    pub sent : SentUpTo after.fault after.left (addressed (sent_in leave log) ++ addressed c.sends) after.ports
    pub sinks : Stand acts c.kept (gone_in leave log ++ c.gone) after.kept after.away
    pub missed : after.misses ≡ min (missed_in leave log + one_if c.missed) (2 ^ 64 - 1)
    pub took : after.taken ≡ min (taken_in leave log + one_if c.took) (2 ^ 64 - 1)

  stands_next : (leave : ℕ) (log : Log S) (x : Letter (Out S)) (mark : Mark) (after : DrainerView S Rest) (c : Change S)
      → change leave log x mark ≡ c → after.left ≡ has_left leave (Next log x mark) → Changed leave log after c → StandsForLog acts leave (Next log x mark) after
  stands_next leave log x mark after c is left_is changed =
      let now = subst (Changed leave log after) (sym is) changed in
      record {
        left = left_is;
        sent = sent_same after.fault after.left _ _ after.ports (sent_next leave log x mark) now.sent;
        sinks = now.sinks;
        missed = now.missed;
        took = now.took;
      }

  -- nothing changes
  idle : (leave : ℕ) (log : Log S) (view : DrainerView S Rest) → StandsForLog acts leave log view → Changed leave log view (unchanged (kept_in leave log))
  idle leave log view s = record {
    sent = sent_same view.fault view.left _ _ view.ports (sym (append-nil (addressed (sent_in leave log)))) s.sent;
    sinks = record {
      kept_are = s.sinks.kept_are;
      away_are = subst (λ (l : List (Attachment S × Why)). AllZip (IsPutAway acts) l view.away) (sym (append-nil (gone_in leave log))) s.sinks.away_are;
      apart = s.sinks.apart;
    };
    missed = omega (arith, s.missed);
    took = omega (arith, s.took);
  }

  -- a letter after the Bye of the leave port
  pub stands_idle_left : (leave : ℕ) (log : Log S) (x : Letter (Out S)) (view : DrainerView S Rest) → view.left ≡ true → StandsForLog acts leave log view → StandsForLog acts leave (Next log x (Fine Clear)) view
  stands_idle_left leave log x view left_is s =
      let was : has_left leave log ≡ true = sym s.left ∙ left_is in
      stands_next leave log x (Fine Clear) view _ (ap (λ b. letter_change b leave (length (letters log)) x (Fine Clear) (kept_in leave log)) was)
      (left_is ∙ sym (ap (λ b. b || (x.from == leave && ends x.post)) was)) (idle leave log view s)

  -- a body of the leave port before that
  pub stands_idle_leave : (leave : ℕ) (log : Log S) (from : ℕ) (out : Out S) (view : DrainerView S Rest)
      → view.left ≡ false → (from == leave) ≡ true → StandsForLog acts leave log view → StandsForLog acts leave (Next log (letter from (Body out)) (Fine Clear)) view
  stands_idle_leave leave log from out view left_is test s =
      let was : has_left leave log ≡ false = sym s.left ∙ left_is in
      stands_next leave log (letter from (Body out)) (Fine Clear) view _
      (ap (λ b. letter_change b leave (length (letters log)) (letter from (Body out)) (Fine Clear) (kept_in leave log)) was
      ∙ ap (λ b. post_change b (length (letters log)) from (Body out) (Fine Clear) (kept_in leave log)) test)
      (left_is ∙ sym (ap (λ b. b || (from == leave && false)) was ∙ ap (λ b. b && false) test)) (idle leave log view s)

  -- a Bye of a subject before that
  pub stands_idle_bye : (leave : ℕ) (log : Log S) (from : ℕ) (view : DrainerView S Rest)
      → view.left ≡ false → (from == leave) ≡ false → StandsForLog acts leave log view → StandsForLog acts leave (Next log (letter from Bye) (Fine Clear)) view
  stands_idle_bye leave log from view left_is test s =
      let was : has_left leave log ≡ false = sym s.left ∙ left_is in
      stands_next leave log (letter from Bye) (Fine Clear) view _
      (ap (λ b. letter_change b leave (length (letters log)) (letter from Bye) (Fine Clear) (kept_in leave log)) was
      ∙ ap (λ b. post_change b (length (letters log)) from Bye (Fine Clear) (kept_in leave log)) test)
      (left_is ∙ sym (ap (λ b. b || (from == leave && true)) was ∙ ap (λ b. b && true) test)) (idle leave log view s)

  -- a letter of a subject before that
  pub stands_served : (leave : ℕ) (log : Log S) (from : ℕ) (out : Out S) (before after : DrainerView S Rest) (ended a b : List (Outgoing (Call S))) (events : List Event) (back : Option S)
      → ended ≡ [] → before.ports ≡ ended ++ a → after.ports ≡ ended ++ b → before.left ≡ false → after.left ≡ false → before.fault ≡ None → (from == leave) ≡ false
      → ((place : ℕ) → Tends acts (service_of place from out) (sinks before.kept before.away before.misses before.taken) (sinks after.kept after.away after.misses after.taken) events back)
      → SendsEvents after.fault (map (λ event. (from, event)) events) a b
      → StandsForLog acts leave log before → (mark : Mark) × StandsForLog acts leave (Next log (letter from (Body out)) mark) after
  stands_served leave log from out before after ended a b events back none before_ports after_ports left_is left_after whole test serves sends s =
      let was : has_left leave log ≡ false = sym s.left ∙ left_is in
      let place = length (letters log) in
      let did = serves place (kept_in leave log) (gone_in leave log) s.sinks in
      let mark = did.mark in
      let c = out_change place from out mark (kept_in leave log) in
      let sent = addressed (sent_in leave log) in
      let have : HaveSent false (λ d. calls_to d sent) a =
      subst (HaveSent false (λ d. calls_to d sent)) (before_ports ∙ all_open ended a none) (sent_whole before.fault before.left sent before.ports whole left_is s.sent) in
      let told : map (λ event. (from, event)) events ≡ addressed c.sends = ap (λ (n : ℕ). map (λ event. (n, event)) events) (sym (of_subject place from out)) ∙ did.did.sends in
      let have_now : SentUpTo after.fault false (sent ++ addressed c.sends) b =
      sent_same after.fault false _ _ b (ap (λ (l : List (ℕ × Event)). sent ++ l) told) (have_more after.fault sent _ a b have sends) in (
        mark,
        stands_next leave log (letter from (Body out)) mark after c
            (ap (λ k. letter_change k leave place (letter from (Body out)) mark (kept_in leave log)) was ∙ ap (λ k. post_change k place from (Body out) mark (kept_in leave log)) test)
            (left_after ∙ sym (ap (λ k. k || (from == leave && false)) was ∙ ap (λ k. k && false) test))
            (record {
              sent = subst (λ (l : Bool). SentUpTo after.fault l (sent ++ addressed c.sends) after.ports) (sym left_after)
                  (subst (SentUpTo after.fault false (sent ++ addressed c.sends)) (sym (after_ports ∙ all_open ended b none)) have_now);
              sinks = did.did.stand;
              missed = did.misses ∙ tallied-more before.misses (missed_in leave log) c.missed s.missed;
              took = did.taken ∙ tallied-more before.taken (taken_in leave log) c.took s.took;
            }),
      )

  -- the sink of an observer was flushed, before the Bye of the leave port
  pub stands_flushed : (leave : ℕ) (log : Log S) (subject who : ℕ) (before after : DrainerView S Rest) (ended a b : List (Outgoing (Call S))) (events : List Event)
      → ended ≡ [] → before.ports ≡ ended ++ a → after.ports ≡ ended ++ b → before.left ≡ false → after.left ≡ false → before.fault ≡ None
      → after.misses ≡ before.misses → after.taken ≡ before.taken
      → ((misses taken : ℕ) → Tends acts (flushing subject who) (sinks before.kept before.away misses taken) (sinks after.kept after.away misses taken) events None)
      → SendsEvents after.fault (map (λ event. (subject, event)) events) a b
      → StandsForLog acts leave log before → (mark : Mark) × StandsForLog acts leave (Flush log subject who mark) after
  stands_flushed leave log subject who before after ended a b events none before_ports after_ports left_is left_after whole same_misses same_taken flushes sends s =
      let did = flushes before.misses before.taken (kept_in leave log) (gone_in leave log) s.sinks in
      let mark = did.mark in
      let c = flush_change leave log subject who mark in
      let no_miss : one_if c.missed ≡ 0 = ap one_if (none_missed subject who (by_flush mark) (λ a. false) (kept_for subject who (kept_in leave log)) (kept_in leave log)) in
      let no_note : one_if c.took ≡ 0 = ap one_if (none_taken subject who (by_flush mark) (kept_for subject who (kept_in leave log)) (kept_in leave log)) in
      let sent = addressed (sent_in leave log) in
      let have : HaveSent false (λ d. calls_to d sent) a =
      subst (HaveSent false (λ d. calls_to d sent)) (before_ports ∙ all_open ended a none) (sent_whole before.fault before.left sent before.ports whole left_is s.sent) in
      let have_now : SentUpTo after.fault false (sent ++ addressed c.sends) b =
      sent_same after.fault false _ _ b (ap (λ (l : List (ℕ × Event)). sent ++ l) did.did.sends) (have_more after.fault sent _ a b have sends) in
      let sent_now : sent ++ addressed c.sends ≡ addressed (sent_in leave (Flush log subject who mark)) = sym (map-append _ (sent_in leave log) c.sends) in (
        mark,
        record {
          left = left_after ∙ sym left_is ∙ s.left;
          sent = sent_same after.fault after.left _ _ after.ports sent_now
              (subst (λ (l : Bool). SentUpTo after.fault l (sent ++ addressed c.sends) after.ports) (sym left_after)
              (subst (SentUpTo after.fault false (sent ++ addressed c.sends)) (sym (after_ports ∙ all_open ended b none)) have_now));
          sinks = did.did.stand;
          missed = omega (arith, same_misses, s.missed, no_miss);
          took = omega (arith, same_taken, s.took, no_note);
        },
      )

  -- what is due of kept sinks is what is due of the attachments, and so are their observers
  many_are : (n subject who : ℕ) (a : Attachment S) → subject ≡ a.subject → who ≡ a.who
      → map (λ event. (subject, event)) (replicate n (Request who 1)) ≡ addressed (replicate n (request a))
  many_are zero subject who a subject_is who_is = refl
  many_are (suc n) subject who a subject_is who_is =
      ap (λ (l : List (ℕ × Event)). (subject, Request who 1) ∷ l) (many_are n subject who a subject_is who_is)
      ∙ ap (λ (m : ℕ). (m, Request who 1) ∷ addressed (replicate n (request a))) subject_is ∙ ap (λ (m : ℕ). (a.subject, Request m 1) ∷ addressed (replicate n (request a))) who_is

  parting_is : (a : Attachment S) (one : Kept S) → IsKept acts a one → parting_of one ≡ addressed (parting a)
  parting_is a one tie =
      map-append (λ (event : Event). (one.subject, event)) (replicate one.due (Request one.who 1)) (Dispose one.who ∷ [])
      ∙ ap (λ l. l ++ (one.subject, Dispose one.who) ∷ []) (many_are one.due one.subject one.who a tie.subject tie.who)
      ∙ ap (λ (n : ℕ). addressed (replicate n (request a)) ++ (one.subject, Dispose one.who) ∷ []) tie.due
      ∙ ap (λ (n : ℕ). addressed (requests a) ++ (n, Dispose one.who) ∷ []) tie.subject ∙ ap (λ (n : ℕ). addressed (requests a) ++ (a.subject, Dispose n) ∷ []) tie.who
      ∙ sym (map-append _ (requests a) (dispose a ∷ []))

  partings_are : (held : List (Attachment S)) (kept : List (Kept S)) → AllZip (IsKept acts) held kept → partings_of kept ≡ addressed (partings held)
  partings_are [] [] zip = refl
  partings_are [] (one ∷ kept) zip = absurd zip
  partings_are (a ∷ held) [] zip = absurd zip
  partings_are (a ∷ held) (one ∷ kept) zip =
      ap (λ l. l ++ partings_of kept) (parting_is a one zip.0) ∙ ap (λ l. addressed (parting a) ++ l) (partings_are held kept zip.1)
      ∙ sym (map-append _ (parting a) (partings held))

  -- the Bye of the leave port
  pub stands_left : (leave : ℕ) (log : Log S) (from : ℕ) (before after : DrainerView S Rest)
      → from ≡ leave → before.left ≡ false → after.left ≡ true → after.kept ≡ [] → after.misses ≡ before.misses → after.taken ≡ before.taken
      → ((held : List (Attachment S)) (gone : List (Attachment S × Why)) → Stand acts held gone before.kept before.away → Stand acts [] (gone ++ closed held) after.kept after.away)
      → (SentUpTo before.fault before.left (addressed (sent_in leave log)) before.ports
      → SentUpTo after.fault true (addressed (sent_in leave log) ++ partings_of before.kept) after.ports)
      → StandsForLog acts leave log before → (mark : Mark) × StandsForLog acts leave (Next log (letter from Bye) mark) after
  stands_left leave log from before after from_is left_is left_after empty same_misses same_taken closes sends s =
      let was : has_left leave log ≡ false = sym s.left ∙ left_is in
      let test : (from == leave) ≡ true = eq-eqb from leave from_is in
      let c = left (kept_in leave log) in
      let events : partings_of before.kept ≡ addressed c.sends = partings_are (kept_in leave log) before.kept s.sinks.kept_are in (
        Fine Clear,
        stands_next leave log (letter from Bye) (Fine Clear) after c
            (ap (λ k. letter_change k leave (length (letters log)) (letter from Bye) (Fine Clear) (kept_in leave log)) was ∙ ap (λ k. post_change k (length (letters log)) from Bye (Fine Clear) (kept_in leave log)) test)
            (left_after ∙ sym (ap (λ k. k || (from == leave && true)) was ∙ ap (λ k. k && true) test))
            (record {
              sent = subst (λ (l : Bool). SentUpTo after.fault l (addressed (sent_in leave log) ++ addressed c.sends) after.ports) (sym left_after)
                  (sent_same after.fault true _ _ after.ports (ap (λ (l : List (ℕ × Event)). addressed (sent_in leave log) ++ l) events) (sends s.sent));
              sinks = closes (kept_in leave log) (gone_in leave log) s.sinks;
              missed = omega (arith, same_misses, s.missed);
              took = omega (arith, same_taken, s.took);
            }),
      )

  -- HANDLED

  -- no sink was flushed before it
  pub handles_next : (x : Letter (Out S)) (before after : DrainerView S Rest)
      → IsOfSubject after.fault
      × ((log : Log S) → StandsForLog acts (length before.ports) log before → (mark : Mark) × StandsForLog acts (length before.ports) (Next log x mark) after)
      → HandlesLetter acts x before after
  handles_next x before after h = (h.0, λ log s. (let next = h.1 log s in (log, refl, next.0, next.1)))

  -- the letter is this body
  pub handles_body : (x : Letter (Out S)) (out : Out S) (before after : DrainerView S Rest) → x.post ≡ Body out → HandlesLetter acts (letter x.from (Body out)) before after → HandlesLetter acts x before after
  handles_body x out before after is h = subst (λ (post : Post (Out S)). HandlesLetter acts (letter x.from post) before after) (sym is) h

  -- the letter is a Bye
  pub handles_bye : (x : Letter (Out S)) (before after : DrainerView S Rest) → x.post ≡ Bye → HandlesLetter acts (letter x.from Bye) before after → HandlesLetter acts x before after
  handles_bye x before after is h = subst (λ (post : Post (Out S)). HandlesLetter acts (letter x.from post) before after) (sym is) h
