-- What a drainer stands for after flushes of its sinks.
use Rattle.std.proofs.Common.{◌≡◌, ◌∙◌, sym, refl, ap, subst, ℕ, zero, suc, ◌≤◌, Bool, true, false, List, [], ◌∷◌, ◌++◌, append_assoc, length, drop, Option, Some, None, slice_get, is_some, inl, inr, arith}
use Rattle.std.specs.List.{AllByRecursion, AllZip}
use Rattle.rx_mailbox.specs.declared.letter.Letter.{Letter}
use Rattle.rx_mailbox.specs.declared.letter.Post.TheVariants.{Bye}
use Rattle.rx_mailbox.specs.Letters.{letter}
use Rattle.rx_mailbox.specs.Boxes.{Outgoing}
use Rattle.rx_note.specs.declared.event.Event.{Event}
use Rattle.rx_pump.specs.declared.call.Call.{Call}
use Rattle.rx_pump.specs.declared.out.Out.{Out}
use Rattle.rx_pump.specs.Pumps.{AreSame}
use Rattle.rx_pump.proofs.Pumping.{AreSame-length}
use Rattle.rx_sink.specs.declared.kept.Kept.{Kept}
use Rattle.rx_sink.specs.Acts.{Acts}
use Rattle.rx_sink.specs.Attachments.{Attachment, Why, closed}
use Rattle.rx_sink.specs.KeptSinks.{IsKept, Stand, addressed}
use Rattle.rx_drain.specs.declared.drainer.drain_fault.DrainFault.{DrainFault}
use Rattle.rx_drain.specs.declared.drainer.drain_fault.DrainFault.TheVariants.{InboxGone, SubjectGone}
use Rattle.rx_drain.specs.Calls.{partings_of}
use Rattle.rx_drain.specs.Credit.{AreAllPaid, IsPaid}
use Rattle.rx_drain.specs.Logs.{Log, Next, Flush, letters, kept_in, sent_in}
use Rattle.rx_drain.specs.Drainers.{DrainerView, IsOfSubject, SentUpTo, StandsForLog, HandlesLetter, HandlesNext, HearsBye, FlushesAt, FlushesAll}
use Rattle.rx_drain.proofs.Crediting.{paid_by_flush, paid_without}
use Rattle.rx_drain.proofs.Standing.{handles_next, stands_left}

zip_length : {A B : Type 0} (R : A → B → Type 0) (xs : List A) (ys : List B) → AllZip R xs ys → length xs ≡ length ys
zip_length R [] [] zip = refl
zip_length R [] (y ∷ ys) zip = absurd zip
zip_length R (x ∷ xs) [] zip = absurd zip
zip_length R (x ∷ xs) (y ∷ ys) zip = ap suc (zip_length R xs ys zip.1)

none_from : {X : Type 0} (P : X → Type 0) (xs : List X) (i : ℕ) → length xs ≤ i → AllByRecursion P (drop i xs)
none_from P [] zero past = tt
none_from P [] (suc i) past = tt
none_from P (x ∷ xs) zero past = (let no : ⊥ = omega (arith, past) in absurd no)
none_from P (x ∷ xs) (suc i) past = none_from P xs i (omega (arith, past))

some_fault : (fault : Option DrainFault) → is_some fault ≡ true → fault ≡ None → ⊥
some_fault None some none = cc
some_fault (Some f) some none = cc

module _ {S Rest : Type 0} (acts : Acts S Rest) where
  -- ONE AFTER ANOTHER

  -- from all for which the drainer stood it came to this by some flushes, and of the sinks from this place on only stuck ones
  -- are left unpaid
  pub record Flushing (place : ℕ) (before now : DrainerView S Rest) : Type 0 where
    pub stands : (log : Log S) → StandsForLog acts (length before.ports) log before
        → (more : Log S) × (letters more ≡ letters log) × StandsForLog acts (length before.ports) more now × AllByRecursion IsPaid (drop place (kept_in (length before.ports) more))

  -- none was flushed yet
  pub Flushing-none : (place : ℕ) (before : DrainerView S Rest) → length before.kept ≤ place → Flushing place before before
  Flushing-none place before past = record {
    stands = λ log s.
        (let same = zip_length (IsKept acts) (kept_in (length before.ports) log) before.kept s.sinks.kept_are in
        (log, refl, s, none_from IsPaid (kept_in (length before.ports) log) place (omega (arith, past, same))));
  }

  -- nothing waits in the one at the next place
  pub Flushing-past : (place next : ℕ) (before now : DrainerView S Rest) (one : Kept S) → place ≡ suc next → slice_get now.kept next ≡ Some one → one.may_wait ≡ false
      → Flushing place before now → Flushing next before now
  Flushing-past place next before now one place_is at clear f = record {
    stands = λ log s.
        (let n = length before.ports in
        let g = f.stands log s in
        let behind = subst (λ (i : ℕ). AllByRecursion IsPaid (drop i (kept_in n g.0))) place_is g.3 in
        (g.0, g.1, g.2, paid_without acts n g.0 now.kept g.2.sinks.kept_are next one at clear behind));
  }

  -- the one at the next place was flushed
  pub Flushing-more : (place next : ℕ) (before now after : DrainerView S Rest) → place ≡ suc next → AreSame before.ports now.ports → FlushesAt acts next now after
      → Flushing place before now → Flushing next before after
  Flushing-more place next before now after place_is same at f = record {
    stands = λ log s.
        (let n = length before.ports in
        let count : length now.ports ≡ n = AreSame-length before.ports now.ports same in
        let g = f.stands log s in
        let behind = subst (λ (i : ℕ). AllByRecursion IsPaid (drop i (kept_in n g.0))) place_is g.3 in
        let one = at.stands g.0 (subst (λ (m : ℕ). StandsForLog acts m g.0 now) (sym count) g.2) in (
          Flush g.0 at.one.subject at.one.who one.0,
          g.1,
          subst (λ (m : ℕ). StandsForLog acts m (Flush g.0 at.one.subject at.one.who one.0) after) count one.1,
          paid_by_flush acts n g.0 now.kept g.2.sinks.kept_are next at.one one.0 at.stood behind,
        ));
  }

  -- as before, where that was no fault
  pub Flushing-whole : (place : ℕ) (before : DrainerView S Rest) (now : Option DrainFault → DrainerView S Rest) (fault : Option DrainFault) → is_some fault ≡ false
      → Flushing place before (now fault) → Flushing place before (now None)
  Flushing-whole place before now None whole f = f
  Flushing-whole place before now (Some fault) whole f = cc

  -- all were
  pub Flushing-all : (before now : DrainerView S Rest) → now.fault ≡ None → Flushing 0 before now → FlushesAll acts before now
  Flushing-all before now whole f = record {
    fault = subst IsOfSubject (sym whole) tt;
    stands = λ log s. (let g = f.stands log s in (g.0, g.1, g.2, λ none. g.3));
  }

  -- a subject is gone
  pub Flushing-fault : (place next : ℕ) (before now after : DrainerView S Rest) → place ≡ suc next → AreSame before.ports now.ports → FlushesAt acts next now after → is_some after.fault ≡ true
      → Flushing place before now → FlushesAll acts before after
  Flushing-fault place next before now after place_is same at some f =
      let g = Flushing-more place next before now after place_is same at f in
      record {
        fault = at.fault;
        stands = λ log s. (let h = g.stands log s in (h.0, h.1, h.2, λ none. absurd (some_fault after.fault some none)));
      }

  -- SEVERAL TIMES

  -- from all for which the drainer stood it came to this by some flushes
  abbrev pub ComesTo : DrainerView S Rest → DrainerView S Rest → Type 0
  ComesTo before now = (log : Log S) → StandsForLog acts (length before.ports) log before → (more : Log S) × (letters more ≡ letters log) × StandsForLog acts (length before.ports) more now

  pub comes_nowhere : (view : DrainerView S Rest) → ComesTo view view
  comes_nowhere view log s = (log, refl, s)

  -- it was flushed once more
  pub flushes_again : (before now after : DrainerView S Rest) → AreSame before.ports now.ports → ComesTo before now → FlushesAll acts now after → FlushesAll acts before after
  flushes_again before now after same comes flushes =
      let count : length now.ports ≡ length before.ports = AreSame-length before.ports now.ports same in
      record {
        fault = flushes.fault;
        stands = λ log s.
            (let c = comes log s in
            let f = flushes.stands c.0 (subst (λ (m : ℕ). StandsForLog acts m c.0 now) (sym count) c.2) in
            (f.0, f.1 ∙ c.1, subst (λ (m : ℕ). StandsForLog acts m f.0 after) count f.2, λ none. subst (λ (m : ℕ). AreAllPaid m f.0) count (f.3 none)));
      }

  -- and goes on, where that was no fault
  pub comes_again : (before now : DrainerView S Rest) (after : Option DrainFault → DrainerView S Rest) (fault : Option DrainFault) → is_some fault ≡ false → AreSame before.ports now.ports
      → ComesTo before now → FlushesAll acts now (after fault) → FlushesAll acts before (after None)
  comes_again before now after None whole same comes flushes = flushes_again before now (after None) same comes flushes
  comes_again before now after (Some fault) whole same comes flushes = cc

  pub comes_by : (before after : DrainerView S Rest) → FlushesAll acts before after → ComesTo before after
  comes_by before after flushes log s = (let f = flushes.stands log s in (f.0, f.1, f.2))

  -- BEFORE A LETTER

  pub bye_flushed : (from : ℕ) (before mid after : DrainerView S Rest) → AreSame before.ports mid.ports → FlushesAll acts before mid → mid.fault ≡ None
      → HandlesNext acts (letter from Bye) mid after → HearsBye acts from before after
  bye_flushed from before mid after same flushes none handles log s =
      let n = length before.ports in
      let count : length mid.ports ≡ n = AreSame-length before.ports mid.ports same in
      let f = flushes.stands log s in
      let h = handles.1 f.0 (subst (λ (m : ℕ). StandsForLog acts m f.0 mid) (sym count) f.2) in
      (f.0, f.1, f.3 none, h.0, subst (λ (m : ℕ). StandsForLog acts m (Next f.0 (letter from Bye) h.0) after) count h.1)

  pub handles_flushed : (x : Letter (Out S)) (before mid after : DrainerView S Rest) → AreSame before.ports mid.ports → FlushesAll acts before mid → HandlesLetter acts x mid after
      → HandlesLetter acts x before after
  handles_flushed x before mid after same flushes handles =
      let n = length before.ports in
      let count : length mid.ports ≡ n = AreSame-length before.ports mid.ports same in (
        handles.0,
        λ log s.
            (let f = flushes.stands log s in
            let h = handles.1 f.0 (subst (λ (m : ℕ). StandsForLog acts m f.0 mid) (sym count) f.2) in
            (h.0, h.1 ∙ f.1, h.2, subst (λ (m : ℕ). StandsForLog acts m (Next h.0 x h.2) after) count h.3)),
      )

  -- what stopped is stopped where more would follow, and a Bye
  cut_left : (fault : Option DrainFault) (all more : List (ℕ × Event)) (ports : List (Outgoing (Call S))) → is_some fault ≡ true → IsOfSubject fault
      → SentUpTo fault false all ports → SentUpTo fault true (all ++ more) ports
  cut_left None all more ports some is have = cc
  cut_left (Some InboxGone) all more ports some is have = absurd is
  cut_left (Some (SubjectGone place)) all more ports some is (inl stopped) = inl (record {
    named = stopped.named;
    done = stopped.done;
    next = stopped.next;
    rest = stopped.rest ++ more;
    parts = sym (append_assoc stopped.done ((place, stopped.next) ∷ stopped.rest) more) ∙ ap (λ l. l ++ more) stopped.parts;
    sent = stopped.sent;
  })
  cut_left (Some (SubjectGone place)) all more ports some is (inr ended) = (let both = ended.is_left in cc)

  -- the Bye of the leave port, where a subject is gone
  pub handles_cut : (from : ℕ) (before after : DrainerView S Rest) → from ≡ length before.ports → before.left ≡ false → after.left ≡ true → after.kept ≡ []
      → after.misses ≡ before.misses → after.taken ≡ before.taken → after.ports ≡ before.ports → after.fault ≡ before.fault
      → is_some before.fault ≡ true → IsOfSubject before.fault
      → ((held : List (Attachment S)) (gone : List (Attachment S × Why)) → Stand acts held gone before.kept before.away → Stand acts [] (gone ++ closed held) after.kept after.away)
      → HandlesLetter acts (letter from Bye) before after
  handles_cut from before after from_is left_is left_after empty same_misses same_taken same_ports same_fault some is closes =
      handles_next acts (letter from Bye) before after (
        subst IsOfSubject (sym same_fault) is,
        λ log s. stands_left acts (length before.ports) log from before after from_is left_is left_after empty same_misses same_taken closes
            (λ have.
            subst (λ (f : Option DrainFault). SentUpTo f true (addressed (sent_in (length before.ports) log) ++ partings_of before.kept) after.ports) (sym same_fault)
            (subst (SentUpTo before.fault true (addressed (sent_in (length before.ports) log) ++ partings_of before.kept)) (sym same_ports)
            (cut_left before.fault (addressed (sent_in (length before.ports) log)) (partings_of before.kept) before.ports some is
            (subst (λ (l : Bool). SentUpTo before.fault l (addressed (sent_in (length before.ports) log)) before.ports) left_is have)))) s,
      )
