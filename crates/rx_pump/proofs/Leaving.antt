-- What a pump leaves: ports that have ended, and ports that are left.
use Rattle.std.proofs.Common.{◌≡◌, ◌∙◌, sym, refl, ap, subst, ℕ, ◌+◌, zero-add, ◌⊎◌, List, [], ◌∷◌, ◌++◌, append-nil, length, map, Option, Some, None, slice_get, inl, inr, arith}
use Rattle.std.proofs.lemmas.List.{map-append, length-map}
use Rattle.std.proofs.lemmas.Option.{slice_get-map}
use Rattle.rx_mailbox.specs.declared.letter.Letter.{Letter}
use Rattle.rx_mailbox.specs.declared.letter.Post.TheVariants.{Bye}
use Rattle.rx_mailbox.specs.Letters.{letter, posts}
use Rattle.rx_mailbox.specs.Boxes.{Outgoing, Incoming, all_told, HasEachBye}
use Rattle.rx_note.specs.declared.rules.Rules.{Rules}
use Rattle.rx_hub.specs.Hubs.{HubView}
use Rattle.rx_pump.specs.declared.call.Call.{Call}
use Rattle.rx_pump.specs.declared.pump.pump_end.PumpEnd.{PumpEnd}
use Rattle.rx_pump.specs.declared.pump.pump_fault.PumpFault.{PumpFault}
use Rattle.rx_pump.specs.declared.pump.pump_fault.PumpFault.TheVariants.{InboxGone, DrainerGone, CallerGone}
use Rattle.rx_pump.specs.declared.out.Out.{Out}
use Rattle.rx_pump.specs.declared.reply.Reply.{Reply}
use Rattle.rx_pump.specs.declared.pump.pump_stop.PumpStop.{PumpStop}
use Rattle.rx_pump.specs.Marks.{Marked, route, replies}
use Rattle.rx_mailbox.specs.PortRows.{with_bye, EndsSome}
use Rattle.rx_pump.specs.Pumps.{PumpView, HavePut, HavePutUpTo, AreSame, port_place, Accounts, Pumps, IsPumped, KeepsPump}
use Rattle.rx_pump.specs.Serving.{HaveEnded, HaveEndedSome, HasPumped, StopsInTurn, IsNextToEnd, StopsAtEnd, PumpHasStopped}
use Rattle.rx_pump.proofs.Placing.{slice_get-append_left, slice_get-append_right}
use Rattle.rx_pump.proofs.Pumping.{HavePut-same, AreSame-length, option_map_some}
use Rattle.rx_mailbox.proofs.Told.{told-length}
use Rattle.rx_pump.proofs.Turning.{PutAll-whole}

module _ {X : Type 0} where
  -- ports that have put their bodies have ended once they put a Bye
  pub HaveEnded-byes : (bodies : ℕ → List X) (ports : List (Outgoing X)) → HavePut bodies ports → HaveEnded bodies (map with_bye ports)
  HaveEnded-byes bodies ports have d port is =
      let old = option_map_some with_bye (slice_get ports d) port (sym (slice_get-map with_bye ports d) ∙ is) in
      sym (ap (λ (p : Outgoing X). p.own) old.2)
      ∙ ap (λ own. own ++ letter old.0.number Bye ∷ []) (have d old.0 old.1)
      ∙ ap (λ n. posts n (bodies d) ++ letter n Bye ∷ []) (ap (λ (p : Outgoing X). p.number) old.2)

  -- ports that put a Bye are the same ports
  pub AreSame-byes : (ports : List (Outgoing X)) → AreSame ports (map with_bye ports)
  AreSame-byes [] = refl
  AreSame-byes (port ∷ ports) = ap (λ places. port_place port ∷ places) (AreSame-byes ports)

  -- the first have ended, and they and those that are left are the same ports
  pub AreSame-some : (ports left ended : List (Outgoing X)) → EndsSome ports left [] ended → AreSame ports (ended ++ left)
  AreSame-some ports left ended ends =
      ap (λ (l : List (Outgoing X)). map port_place (l ++ left)) ends.ended ∙ map-append port_place (map with_bye ends.done) left
      ∙ ap (λ l. l ++ map port_place left) (AreSame-byes ends.done) ∙ sym (map-append port_place ends.done left) ∙ ap (map port_place) ends.parts

  -- none has ended, or all have
  pub AreSame-none : (ports left ended : List (Outgoing X)) → left ≡ ports → ended ≡ [] → AreSame ports (ended ++ left)
  AreSame-none ports left ended same none = ap (λ (l : List (Outgoing X)). map port_place (l ++ left)) none ∙ ap (map port_place) same

  pub AreSame-all : (ports left ended : List (Outgoing X)) → left ≡ [] → ended ≡ map with_bye ports → AreSame ports (ended ++ left)
  AreSame-all ports left ended none all =
      ap (λ (l : List (Outgoing X)). map port_place (ended ++ l)) none ∙ ap (map port_place) (append-nil ended ∙ all) ∙ AreSame-byes ports

  -- those that are left when the first have ended
  pub HaveEndedSome-some : (bodies : ℕ → List X) (ports left ended : List (Outgoing X)) → HavePut bodies ports → EndsSome ports left [] ended → HaveEndedSome bodies ended left
  HaveEndedSome-some bodies ports left ended have ends =
      let all : HavePut bodies (ends.done ++ left) = subst (HavePut bodies) (sym ends.parts) have in
      let count : length ended ≡ length ends.done = ap length ends.ended ∙ length-map ends.done with_bye in
      record {
        first = subst (HaveEnded bodies) (sym ends.ended) (HaveEnded-byes bodies ends.done (λ d port is. all d port (slice_get-append_left ends.done left d port is)));
        others = λ d port is. all (length ended + d) port (ap (λ n. slice_get (ends.done ++ left) (n + d)) count ∙ slice_get-append_right ends.done left d ∙ is);
      }

  -- none had ended before
  pub EndsSome-first : (ports left before after : List (Outgoing X)) → before ≡ [] → EndsSome ports left before after → EndsSome ports left [] after
  EndsSome-first ports left before after none ends = subst (λ (first : List (Outgoing X)). EndsSome ports left first after) none ends

  -- none has ended
  pub HaveEndedSome-none : (bodies : ℕ → List X) (ports left ended : List (Outgoing X)) → left ≡ ports → ended ≡ [] → HavePut bodies ports → HaveEndedSome bodies ended left
  HaveEndedSome-none bodies ports left ended same none have = record {
    first = subst (HaveEnded bodies) (sym none) (λ d port is. cc);
    others = subst (HavePut (λ d. bodies (length ended + d))) (sym same)
        (HavePut-same bodies _ ports (λ d. ap bodies (sym (zero-add d) ∙ ap (λ (l : List (Outgoing X)). length l + d) (sym none))) have);
  }

  -- all have ended
  pub HaveEndedSome-all : (bodies : ℕ → List X) (ports left ended : List (Outgoing X)) → left ≡ [] → ended ≡ map with_bye ports → HavePut bodies ports → HaveEndedSome bodies ended left
  HaveEndedSome-all bodies ports left ended none ended_are have = record {
    first = subst (HaveEnded bodies) (sym ended_are) (HaveEnded-byes bodies ports have);
    others = subst (HavePut (λ d. bodies (length ended + d))) (sym none) (λ d port is. cc);
  }

  -- the same bodies
  pub HaveEndedSome-same : (first second : ℕ → List X) (ended left : List (Outgoing X)) → ((d : ℕ) → first d ≡ second d) → HaveEndedSome first ended left → HaveEndedSome second ended left
  HaveEndedSome-same first second ended left same s = record {
    first = λ d port is. s.first d port is ∙ ap (λ bodies. posts port.number bodies ++ letter port.number Bye ∷ []) (same d);
    others = HavePut-same _ _ left (λ d. same (length ended + d)) s.others;
  }

some_is_not_none : (fault : Option PumpFault) (met : PumpFault) → fault ≡ Some met → fault ≡ None → ⊥
some_is_not_none fault met is none = cc

module _ {S : Type 0} where
  -- the same marks account for the same hub and inbox
  accounts_same : {hub hub_after : HubView} {inbox inbox_after : Incoming (Call S)} (callers misses_before : ℕ) (B : Marked S)
      → hub_after ≡ hub → inbox_after ≡ inbox → Accounts callers hub inbox.received misses_before B → Accounts callers hub_after inbox_after.received misses_before B
  accounts_same {hub} {hub_after} {inbox} {inbox_after} callers misses_before B same_hub same_inbox a =
      subst (λ (h : HubView). Accounts callers h inbox_after.received misses_before B) (sym same_hub) (subst (λ (i : Incoming (Call S)). Accounts callers hub i.received misses_before B) (sym same_inbox) a)

  -- a turn stopped, and no port has ended
  pub PumpHasStopped-turn : (pump : PumpView S) (stop : PumpStop S)
      → stop.parts.hub ≡ pump.hub → stop.parts.inbox ≡ pump.inbox → (all_told stop.parts.drainers.items) ≡ pump.drainers → (all_told stop.parts.replies.items) ≡ pump.replies
      → stop.ended_drainers.items ≡ [] → stop.ended_replies.items ≡ [] → pump.fault ≡ Some stop.fault → IsPumped pump → PumpHasStopped pump stop
  PumpHasStopped-turn pump stop hub inbox drainers callers no_drainers no_callers fault (B, p) = (
    B,
    record {
      accounts = accounts_same (length pump.replies) pump.misses_before B hub inbox p.accounts;
      came = inl (record {
        no_drainers = no_drainers;
        no_callers = no_callers;
        put = subst (λ (ports : List (Outgoing (Out S))). HavePutUpTo (Some stop.fault) pump.hub.state.rules stop.parts.inbox.received B ports (all_told stop.parts.replies.items)) (sym drainers)
            (subst (λ (ports : List (Outgoing (Reply S))). HavePutUpTo (Some stop.fault) pump.hub.state.rules stop.parts.inbox.received B pump.drainers ports) (sym callers)
            (subst (λ (i : Incoming (Call S)). HavePutUpTo (Some stop.fault) pump.hub.state.rules i.received B pump.drainers pump.replies) (sym inbox)
            (subst (λ (f : Option PumpFault). HavePutUpTo f pump.hub.state.rules pump.inbox.received B pump.drainers pump.replies) fault p.put)));
        waited = λ gone whole. absurd (some_is_not_none pump.fault stop.fault fault whole);
      });
      rules = ap (λ (h : HubView). h.state.rules) hub;
      box = ap (λ (i : Incoming (Call S)). i.box) inbox;
      ports = ap (λ (i : Incoming (Call S)). i.ports) inbox;
      drainers = AreSame-none pump.drainers (all_told stop.parts.drainers.items) stop.ended_drainers.items drainers no_drainers;
      callers = AreSame-none pump.replies (all_told stop.parts.replies.items) stop.ended_replies.items callers no_callers;
    },
  )

  -- a drainer was gone when its port was to end
  pub PumpHasStopped-drainers : (pump : PumpView S) (stop : PumpStop S) (place : ℕ)
      → stop.parts.hub ≡ pump.hub → stop.parts.inbox ≡ pump.inbox → EndsSome pump.drainers (all_told stop.parts.drainers.items) [] stop.ended_drainers.items
      → (all_told stop.parts.replies.items) ≡ pump.replies → stop.ended_replies.items ≡ [] → stop.fault ≡ DrainerGone place → place ≡ length stop.ended_drainers.items
      → HasEachBye pump.inbox → pump.fault ≡ None → IsPumped pump → PumpHasStopped pump stop
  PumpHasStopped-drainers pump stop place hub inbox ends callers no_callers fault place_is each_bye whole (B, p) =
      let put = PutAll-whole pump B whole p in (
        B,
        record {
          accounts = accounts_same (length pump.replies) pump.misses_before B hub inbox p.accounts;
          came = inr (record {
            each_bye = subst (λ (i : Incoming (Call S)). HasEachBye i) (sym inbox) each_bye;
            over = λ _. inbox;
            routed = HaveEndedSome-some _ pump.drainers (all_told stop.parts.drainers.items) stop.ended_drainers.items put.routed ends;
            replied = HaveEndedSome-none _ pump.replies (all_told stop.parts.replies.items) stop.ended_replies.items callers no_callers put.replied;
            next = subst (λ (f : PumpFault). IsNextToEnd f stop) (sym fault) (place_is, omega (arith, ends.some, told-length stop.parts.drainers.items), no_callers);
          });
          rules = ap (λ (h : HubView). h.state.rules) hub;
          box = ap (λ (i : Incoming (Call S)). i.box) inbox;
          ports = ap (λ (i : Incoming (Call S)). i.ports) inbox;
          drainers = AreSame-some pump.drainers (all_told stop.parts.drainers.items) stop.ended_drainers.items ends;
          callers = AreSame-none pump.replies (all_told stop.parts.replies.items) stop.ended_replies.items callers no_callers;
        },
      )

  -- a caller was gone when its port was to end
  pub PumpHasStopped-replies : (pump : PumpView S) (stop : PumpStop S) (place : ℕ)
      → stop.parts.hub ≡ pump.hub → stop.parts.inbox ≡ pump.inbox → stop.parts.drainers.items ≡ [] → stop.ended_drainers.items ≡ map with_bye pump.drainers
      → EndsSome pump.replies (all_told stop.parts.replies.items) [] stop.ended_replies.items → stop.fault ≡ CallerGone place → place ≡ length stop.ended_replies.items
      → HasEachBye pump.inbox → pump.fault ≡ None → IsPumped pump → PumpHasStopped pump stop
  PumpHasStopped-replies pump stop place hub inbox no_drainers drainers ends fault place_is each_bye whole (B, p) =
      let put = PutAll-whole pump B whole p in (
        B,
        record {
          accounts = accounts_same (length pump.replies) pump.misses_before B hub inbox p.accounts;
          came = inr (record {
            each_bye = subst (λ (i : Incoming (Call S)). HasEachBye i) (sym inbox) each_bye;
            over = λ _. inbox;
            routed = HaveEndedSome-all _ pump.drainers (all_told stop.parts.drainers.items) stop.ended_drainers.items (ap all_told no_drainers) drainers put.routed;
            replied = HaveEndedSome-some _ pump.replies (all_told stop.parts.replies.items) stop.ended_replies.items put.replied ends;
            next = subst (λ (f : PumpFault). IsNextToEnd f stop) (sym fault) (place_is, omega (arith, ends.some, told-length stop.parts.replies.items), no_drainers);
          });
          rules = ap (λ (h : HubView). h.state.rules) hub;
          box = ap (λ (i : Incoming (Call S)). i.box) inbox;
          ports = ap (λ (i : Incoming (Call S)). i.ports) inbox;
          drainers = AreSame-all pump.drainers (all_told stop.parts.drainers.items) stop.ended_drainers.items (ap all_told no_drainers) drainers;
          callers = AreSame-some pump.replies (all_told stop.parts.replies.items) stop.ended_replies.items ends;
        },
      )

  -- all ports have ended
  pub HasPumped-all : (pump : PumpView S) (left : PumpEnd S)
      → left.hub ≡ pump.hub → left.inbox ≡ pump.inbox → left.drainers.items ≡ map with_bye pump.drainers → left.replies.items ≡ map with_bye pump.replies
      → left.calls ≡ pump.calls → left.refused ≡ pump.refused → HasEachBye pump.inbox → pump.fault ≡ None → IsPumped pump → HasPumped pump left
  HasPumped-all pump left hub inbox drainers callers calls refused each_bye whole (B, p) = (
    B,
    record {
      accounts = accounts_same (length pump.replies) pump.misses_before B hub inbox p.accounts;
      each_bye = subst (λ (i : Incoming (Call S)). HasEachBye i) (sym inbox) each_bye;
      over = λ _. inbox;
      calls = calls ∙ p.calls;
      refused = refused ∙ p.refused;
      routed = subst (HaveEnded _) (sym drainers) (HaveEnded-byes _ pump.drainers (PutAll-whole pump B whole p).routed);
      replied = subst (HaveEnded _) (sym callers) (HaveEnded-byes _ pump.replies (PutAll-whole pump B whole p).replied);
      rules = ap (λ (h : HubView). h.state.rules) hub;
      box = ap (λ (i : Incoming (Call S)). i.box) inbox;
      ports = ap (λ (i : Incoming (Call S)). i.ports) inbox;
      drainers = ap (map port_place) drainers ∙ AreSame-byes pump.drainers;
      callers = ap (map port_place) callers ∙ AreSame-byes pump.replies;
    },
  )

  -- what is told of routes by the rules and the number of drainers
  same_routes : {rules rules_after : Rules} {n n_after : ℕ} (B : Marked S) → rules_after ≡ rules → n_after ≡ n → (d : ℕ) → route rules_after n_after d B ≡ route rules n d B
  same_routes {rules} {rules_after} {n} {n_after} B same_rules same_count d = ap (λ r. route r n_after d B) same_rules ∙ ap (λ k. route rules k d B) same_count

  -- what was taken by some turns, where the Bye of each port had come before, is nothing
  abbrev pub TakesNone : PumpView S → PumpView S → Type 0
  TakesNone before after = HasEachBye before.inbox → after.inbox ≡ before.inbox

  over_before : (before after : PumpView S) (inbox : Incoming (Call S)) → TakesNone before after → (HasEachBye after.inbox → inbox ≡ after.inbox) → HasEachBye before.inbox
      → inbox ≡ before.inbox
  over_before before after inbox none over each = over (subst (λ (i : Incoming (Call S)). HasEachBye i) (sym (none each)) each) ∙ none each

  -- what the pump leaves after some turns is what it leaves before them
  pub HasPumped-kept : (before after : PumpView S) (left : PumpEnd S) → KeepsPump before after → TakesNone before after → HasPumped after left → HasPumped before left
  HasPumped-kept before after left kept none (B, s) = (
    B,
    record {
      accounts = subst (λ (n : ℕ). Accounts n left.hub left.inbox.received before.misses_before B) (AreSame-length before.replies after.replies kept.callers)
          (subst (λ (n : ℕ). Accounts (length after.replies) left.hub left.inbox.received n B) kept.misses_before s.accounts);
      each_bye = s.each_bye;
      over = λ each. over_before before after left.inbox none s.over each;
      calls = s.calls;
      refused = s.refused;
      routed = λ d port is. s.routed d port is ∙ ap (λ bodies. posts port.number bodies ++ letter port.number Bye ∷ []) (same_routes B kept.rules (AreSame-length before.drainers after.drainers kept.drainers) d);
      replied = λ q port is. s.replied q port is ∙ ap (λ rules. posts port.number (replies rules q B) ++ letter port.number Bye ∷ []) kept.rules;
      rules = s.rules ∙ kept.rules;
      box = s.box ∙ kept.box;
      ports = s.ports ∙ kept.ports;
      drainers = s.drainers ∙ kept.drainers;
      callers = s.callers ∙ kept.callers;
    },
  )

  -- the same of a pump that stops when its ports are to end
  at_end : (before after : PumpView S) (stop : PumpStop S) (B : Marked S) → KeepsPump before after → TakesNone before after → StopsAtEnd after stop B → StopsAtEnd before stop B
  at_end before after stop B kept none s = record {
    each_bye = s.each_bye;
    over = λ each. over_before before after stop.parts.inbox none s.over each;
    routed = HaveEndedSome-same _ _ stop.ended_drainers.items (all_told stop.parts.drainers.items)
        (same_routes B kept.rules (AreSame-length before.drainers after.drainers kept.drainers)) s.routed;
    replied = HaveEndedSome-same _ _ stop.ended_replies.items (all_told stop.parts.replies.items) (λ q. ap (λ rules. replies rules q B) kept.rules) s.replied;
    next = s.next;
  }

  -- and in a turn
  in_turn : (before after : PumpView S) (stop : PumpStop S) (B : Marked S) → KeepsPump before after
      → (stop.fault ≡ InboxGone → before.fault ≡ None → (after.fault ≡ None) ⊎ ¬ HasEachBye stop.parts.inbox) → StopsInTurn after stop B → StopsInTurn before stop B
  in_turn before after stop B kept waited s = record {
    no_drainers = s.no_drainers;
    no_callers = s.no_callers;
    put = subst (λ (r : Rules). HavePutUpTo (Some stop.fault) r stop.parts.inbox.received B (all_told stop.parts.drainers.items) (all_told stop.parts.replies.items)) kept.rules s.put;
    waited = λ gone whole. elim (waited gone whole) as (λ _. ¬ HasEachBye stop.parts.inbox) [ inl none ↦ s.waited gone none | inr not_each ↦ not_each ];
  }

  -- the same of a pump that stops
  pub PumpHasStopped-kept : (before after : PumpView S) (stop : PumpStop S) → KeepsPump before after → TakesNone before after
      → (stop.fault ≡ InboxGone → before.fault ≡ None → (after.fault ≡ None) ⊎ ¬ HasEachBye stop.parts.inbox) → PumpHasStopped after stop → PumpHasStopped before stop
  PumpHasStopped-kept before after stop kept none waited (B, s) = (
    B,
    record {
      accounts = subst (λ (n : ℕ). Accounts n stop.parts.hub stop.parts.inbox.received before.misses_before B) (AreSame-length before.replies after.replies kept.callers)
          (subst (λ (n : ℕ). Accounts (length after.replies) stop.parts.hub stop.parts.inbox.received n B) kept.misses_before s.accounts);
      came = elim s.came [
        | inl turned ↦ inl (in_turn before after stop B kept waited turned)
        | inr ended ↦ inr (at_end before after stop B kept none ended)
      ];
      rules = s.rules ∙ kept.rules;
      box = s.box ∙ kept.box;
      ports = s.ports ∙ kept.ports;
      drainers = s.drainers ∙ kept.drainers;
      callers = s.callers ∙ kept.callers;
    },
  )
