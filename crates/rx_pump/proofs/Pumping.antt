-- What a pump did with the letters so far, and with one letter more.
use Rattle.std.proofs.Common.{◌≡◌, ◌∙◌, sym, refl, ap, subst, ℕ, ◌+◌, ◌-◌, ◌^◌, ◌<◌, ◌%◌, ◌==◌, min, List, [], ◌∷◌, ◌++◌, append_assoc, length, map, Option, Some, None, slice_get, inl, inr, arith}
use Rattle.std.proofs.lemmas.Bool.Decides.{eqb_tells}
use Rattle.std.proofs.lemmas.List.{map-append, length-map}
use Rattle.std.proofs.lemmas.List.Elements.{filter-append}
use Rattle.std.proofs.lemmas.Option.{slice_get_within, get_or_from_slice_get, slice_get-map}
use Rattle.std.specs.List.{All}
use Rattle.std.specs.Option.{option_map}
use Rattle.rx_note.specs.declared.rules.Rules.{Rules}
use Rattle.rx_mailbox.specs.declared.letter.Letter.{Letter}
use Rattle.rx_mailbox.specs.declared.letter.Post.TheVariants.{Body}
use Rattle.rx_mailbox.specs.Letters.{letter, posts}
use Rattle.rx_mailbox.specs.Boxes.{Outgoing, with_more}
use Rattle.rx_pump.specs.declared.call.Call.{Call}
use Rattle.rx_pump.specs.declared.out.Out.{Out}
use Rattle.rx_pump.specs.declared.pump.pump_fault.PumpFault.{PumpFault}
use Rattle.rx_pump.specs.declared.pump.pump_fault.PumpFault.TheVariants.{InboxGone, DrainerGone, CallerGone}
use Rattle.rx_pump.specs.declared.reply.Reply.{Reply}
use Rattle.rx_pump.specs.Marks.{Marked, outs_in, replies, for_drainer, who_of, to_port}
use Rattle.rx_pump.specs.Sends.{PutsFor}
use Rattle.rx_mailbox.specs.PortRows.{Puts}
use Rattle.rx_pump.specs.Turns.{Ports, Sends}
use Rattle.rx_pump.specs.Pumps.{counted, HavePut, port_place, AreSame, before_last, IsBefore, PutAll, HavePutUpTo}
use Rattle.rx_mailbox.specs.PortRows.{IsFresh}
use Rattle.rx_pump.proofs.Placing.{same_by_place}

-- what a map gave it gave of something
pub option_map_some : {A B : Type 0} (f : A → B) (o : Option A) (y : B) → option_map f o ≡ Some y → (x : A) × (o ≡ Some x) × (f x ≡ y)
option_map_some f None y is = cc
option_map_some f (Some x) y is = (x, refl, cc)

option_map-after : {A B : Type 0} (f : A → A) (g : A → B) (o : Option A) → ((x : A) → g (f x) ≡ g x) → option_map g (option_map f o) ≡ option_map g o
option_map-after f g None same = refl
option_map-after f g (Some x) same = ap Some (same x)

module _ {X : Type 0} where
  -- a port that put nothing has nothing in its list
  pub HavePut-fresh : (ports : List (Outgoing X)) → All IsFresh ports → HavePut (λ _. []) ports
  HavePut-fresh ports fresh d port is =
      ap (λ (p : Outgoing X). p.own) (sym (get_or_from_slice_get ports d port port is)) ∙ (fresh d port (slice_get_within ports d port is)).0

  -- the ports put more
  pub HavePut-puts : (all more : ℕ → List X) (before after : List (Outgoing X)) → HavePut all before → Puts more before after → HavePut (λ d. all d ++ more d) after
  HavePut-puts all more before after have put d port is =
      let old = option_map_some (with_more (more d)) (slice_get before d) port (sym (put.at d) ∙ is) in
      let number : old.0.number ≡ port.number = ap (λ (p : Outgoing X). p.number) old.2 in
      sym (ap (λ (p : Outgoing X). p.own) old.2)
      ∙ ap (λ own. own ++ posts old.0.number (more d)) (have d old.0 old.1)
      ∙ sym (map-append (λ body. letter old.0.number (Body body)) (all d) (more d))
      ∙ ap (λ n. posts n (all d ++ more d)) number

  -- the same bodies
  pub HavePut-same : (first second : ℕ → List X) (ports : List (Outgoing X)) → ((d : ℕ) → first d ≡ second d) → HavePut first ports → HavePut second ports
  HavePut-same first second ports same have d port is = have d port is ∙ ap (posts port.number) (same d)

  -- ports that put bodies are the same ports
  pub AreSame-puts : (bodies : ℕ → List X) (before after : List (Outgoing X)) → Puts bodies before after → AreSame before after
  AreSame-puts bodies before after put =
      same_by_place _ _ (λ d. slice_get-map port_place after d ∙ ap (option_map port_place) (put.at d) ∙ option_map-after _ _ (slice_get before d) (λ port. refl) ∙ sym (slice_get-map port_place before d))

  -- there are as many
  pub AreSame-length : (before after : List (Outgoing X)) → AreSame before after → length after ≡ length before
  AreSame-length before after same = sym (length-map after port_place) ∙ ap length same ∙ length-map before port_place

-- what comes by a port is told to this port
to_port-own : {X : Type 0} (port p : ℕ) (x : X) → p ≡ port → to_port port p x ≡ x ∷ []
to_port-own port p x same = elim (eqb_tells port p) [ inl (test, is) ↦ rw test refl | inr (test, other) ↦ absurd (other (sym same)) ]

-- COUNTS

pub counted-more : (n : ℕ) → min (counted n + 1) (2 ^ 64 - 1) ≡ counted (n + 1)
counted-more n = omega arith

pub counted-plus : (before n : ℕ) → min (counted (before + n) + 1) (2 ^ 64 - 1) ≡ counted (before + (n + 1))
counted-plus before n = omega arith

module _ {S : Type 0} where
  -- WHAT THE PORTS PUT

  -- one letter more is among the marked ones, and sends these outs and this reply
  pub record IsMore (rules : Rules) (B more : Marked S) (outs : List (Out S)) (port : ℕ) (reply : Reply S) : Type 0 where
    pub before : before_last more ≡ B
    pub sends : outs_in rules B ++ outs ≡ outs_in rules more
    pub replies_are : (p : ℕ) → replies rules p B ++ to_port port p reply ≡ replies rules p more

  -- the same ports, which have put what one letter more sends, or stopped there
  pub record HaveSent (fault : Option PumpFault) (rules : Rules) (received : List (Letter (Call S))) (more : Marked S) (before after : Ports S) : Type 0 where
    pub put : HavePutUpTo fault rules received more after.drainers after.replies
    pub drainers : AreSame before.drainers after.drainers
    pub callers : AreSame before.replies after.replies

  for_drainer-append : (n d : ℕ) (first second : List (Out S)) → for_drainer n d first ++ for_drainer n d second ≡ for_drainer n d (first ++ second)
  for_drainer-append n d first second = sym (filter-append (λ out. who_of out % n == d) first second)

  -- the drainers were sent some outs more
  pub routed-more : (outs more all : List (Out S)) (before after : List (Outgoing (Out S))) → outs ++ more ≡ all
      → HavePut (λ d. for_drainer (length before) d outs) before → PutsFor more before after → HavePut (λ d. for_drainer (length after) d all) after
  routed-more outs more all before after all_are have put =
      HavePut-same _ _ after
      (λ d. for_drainer-append (length before) d outs more ∙ ap (for_drainer (length before) d) all_are ∙ ap (λ n. for_drainer n d all) (sym put.count))
      (HavePut-puts _ _ before after have put)

  pub HaveSent-of : (fault : Option PumpFault) (rules : Rules) (received : List (Letter (Call S))) (B more : Marked S) (outs : List (Out S)) (port : ℕ) (reply : Reply S) (before after : Ports S)
      → 0 < length before.drainers → IsMore rules B more outs port reply → IsBefore (length before.replies) received B more → PutAll rules B before.drainers before.replies
      → Sends fault outs port reply before after → HaveSent fault rules received more before after
  HaveSent-of None rules received B more outs port reply before after some is behind put sends = record {
    put = record {
      routed = routed-more (outs_in rules B) outs (outs_in rules more) before.drainers after.drainers is.sends put.routed sends.0;
      replied = HavePut-same _ _ after.replies is.replies_are (HavePut-puts _ _ before.replies after.replies put.replied sends.1);
    };
    drainers = AreSame-puts _ before.drainers after.drainers sends.0;
    callers = AreSame-puts _ before.replies after.replies sends.1;
  }
  HaveSent-of (Some InboxGone) rules received B more outs port reply before after some is behind put sends = absurd sends
  HaveSent-of (Some (DrainerGone place)) rules received B more outs port reply before after some is behind put sends =
      let stop = sends.0 in
      let count : length after.drainers ≡ length before.drainers = stop.put.count in
      let gone : who_of stop.next % length after.drainers ≡ place = ap (λ n. who_of stop.next % n) count ∙ stop.gone in
      record {
        put = record {
          named = subst (λ (k : ℕ). k < length after.drainers) gone (omega (arith, some, count));
          before = B;
          is_before = subst (λ (callers : List (Outgoing (Reply S))). IsBefore (length callers) received B more) (sym sends.1) behind;
          done = stop.done;
          next = stop.next;
          rest = stop.rest;
          parts = append_assoc (outs_in rules B) stop.done (stop.next ∷ stop.rest) ∙ ap (λ l. outs_in rules B ++ l) stop.parts ∙ is.sends;
          gone = gone;
          routed = routed-more (outs_in rules B) stop.done (outs_in rules B ++ stop.done) before.drainers after.drainers refl put.routed stop.put;
          replied = subst (HavePut (λ p. replies rules p B)) (sym sends.1) put.replied;
        };
        drainers = AreSame-puts _ before.drainers after.drainers stop.put;
        callers = ap (map port_place) sends.1;
      }
  HaveSent-of (Some (CallerGone place)) rules received B more outs port reply before after some is behind put sends = record {
    put = record {
      named = subst (λ (callers : List (Outgoing (Reply S))). place < length callers) (sym sends.1) (subst (λ (k : ℕ). k < length before.replies) (sym sends.2) sends.3);
      next = reply;
      gone = ap (λ (first : Marked S). replies rules place first ++ reply ∷ []) is.before
          ∙ ap (λ l. replies rules place B ++ l) (sym (to_port-own port place reply sends.2)) ∙ is.replies_are place;
      routed = routed-more (outs_in rules B) outs (outs_in rules more) before.drainers after.drainers is.sends put.routed sends.0;
      replied = subst (HavePut (λ p. replies rules p (before_last more))) (sym sends.1)
          (HavePut-same _ _ before.replies (λ p. ap (λ (first : Marked S). replies rules p first) (sym is.before)) put.replied);
    };
    drainers = AreSame-puts _ before.drainers after.drainers sends.0;
    callers = ap (map port_place) sends.1;
  }
