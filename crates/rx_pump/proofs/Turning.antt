-- One turn of a pump.
use Rattle.std.proofs.Common.{◌≡◌, ◌∙◌, sym, refl, ap, subst, ℕ, ◌+◌, ◌-◌, ◌^◌, ◌<◌, ◌≤◌, min, is_some, Bool, true, false, List, [], ◌∷◌, ◌++◌, append-nil, append_assoc, length, vec_len, Option, Some, None, inl, inr, arith, if◌then◌else◌}
use Rattle.rx_note.specs.declared.rules.Rules.{Rules}
use Rattle.rx_hub.specs.Hubs.{HubView}
use Rattle.rx_mailbox.specs.declared.letter.Letter.{Letter}
use Rattle.rx_mailbox.specs.declared.letter.Post.TheVariants.{Body, Bye}
use Rattle.rx_mailbox.specs.Letters.{letter}
use Rattle.rx_mailbox.specs.Boxes.{Outgoing, Incoming, with_letter, all_told}
use Rattle.rx_pump.specs.declared.call.Call.{Call}
use Rattle.rx_pump.specs.declared.out.Out.{Out}
use Rattle.rx_pump.specs.declared.pump.pump_fault.PumpFault.{PumpFault}
use Rattle.rx_pump.specs.declared.pump.pump_fault.PumpFault.TheVariants.{InboxGone, DrainerGone, CallerGone}
use Rattle.rx_pump.specs.declared.pump.pump_parts.PumpParts.{PumpParts}
use Rattle.rx_pump.specs.declared.reply.Reply.{Reply}
use Rattle.rx_pump.specs.Opened.{opened, opened_letter}
use Rattle.rx_pump.specs.Marks.{Marked, NoLetters, Made, Refused, Ended, letters_of, body_count, refused_in, AreAcceptable, history_of, outs_in, sent_by, reply_made, reply_refused}
use Rattle.rx_pump.specs.Turns.{Ports, ports_of, Sends, IsMade, IsRefused, HandlesCall}
use Rattle.rx_pump.specs.Pumps.{counted, PumpView, AreSame, PutAll, HavePutUpTo, IsBefore, without_last, Accounts, Pumps, IsPumped, AreFresh, fresh_pump, pump_with, KeepsPump, HasReceived, Makes}
use Rattle.rx_mailbox.proofs.Told.{told-fresh, told-length}
use Rattle.rx_pump.proofs.Opening.{opened-more, opened-bye}
use Rattle.rx_pump.proofs.Pumping.{AreSame-length, HavePut-fresh, IsMore, HaveSent, HaveSent-of, counted-more, counted-plus}

module _ {S : Type 0} where
  -- the ports of a pump
  abbrev pub ports_in : PumpView S → Ports S
  ports_in pump = record { drainers = pump.drainers; replies = pump.replies }

  -- a pump before its first turn
  pub IsPumped-fresh : (hub : HubView) (inbox : Incoming (Call S)) (drainers : List (Outgoing (Out S))) (callers : List (Outgoing (Reply S))) (misses : ℕ)
      → AreFresh hub inbox drainers callers → misses ≡ hub.misses → misses < 2 ^ 64
      → IsPumped (record (fresh_pump hub inbox drainers callers) { misses_before = misses })
  IsPumped-fresh hub inbox drainers callers misses fresh misses_are fits = (
    NoLetters,
    record {
      accounts = record { letters = sym (ap (opened (length callers)) fresh.inbox_is); stands = fresh.hub_is; misses = omega (arith, misses_are, fits); acceptable = tt };
      calls = refl;
      refused = refl;
      put = record { routed = HavePut-fresh drainers fresh.drainers_are; replied = HavePut-fresh callers fresh.callers_are };
    },
  )

  -- the same of the ports as they are told
  pub IsPumped-told : (hub : HubView) (inbox : Incoming (Call S)) (drainers : List (Outgoing (Out S))) (callers : List (Outgoing (Reply S))) (misses : ℕ)
      → AreFresh hub inbox drainers callers → misses ≡ hub.misses → misses < 2 ^ 64
      → IsPumped (record (fresh_pump hub inbox (all_told drainers) (all_told callers)) { misses_before = misses })
  IsPumped-told hub inbox drainers callers misses fresh misses_are fits =
      subst (λ (ports : List (Outgoing (Out S))). IsPumped (record (fresh_pump hub inbox ports (all_told callers)) { misses_before = misses })) (sym (told-fresh drainers fresh.drainers_are))
      (subst (λ (ports : List (Outgoing (Reply S))). IsPumped (record (fresh_pump hub inbox drainers ports) { misses_before = misses })) (sym (told-fresh callers fresh.callers_are))
      (IsPumped-fresh hub inbox drainers callers misses fresh misses_are fits))

  -- a pump without a fault has put all
  pub PutAll-whole : (pump : PumpView S) (B : Marked S) → pump.fault ≡ None → Pumps pump B → PutAll pump.hub.state.rules B pump.drainers pump.replies
  PutAll-whole pump B whole p = subst (λ (f : Option PumpFault). HavePutUpTo f pump.hub.state.rules pump.inbox.received B pump.drainers pump.replies) whole p.put

  -- no letter came
  pub IsPumped-gone : (before after : PumpView S) → before.fault ≡ None → after ≡ record before { fault = Some InboxGone } → IsPumped before → IsPumped after
  IsPumped-gone before after whole after_is (B, p) =
      subst (λ (pump : PumpView S). IsPumped pump) (sym after_is)
      (B, record { accounts = p.accounts; calls = p.calls; refused = p.refused; put = PutAll-whole before B whole p })

  -- a letter came: what it stands for is not made yet
  pub Pumps-came : (before : PumpView S) (x : Letter (Call S)) (B : Marked S) → before.fault ≡ None → Pumps before B
      → HasReceived (record before { inbox = with_letter before.inbox x }) x B
  Pumps-came before x B whole p = record {
    earlier = before.inbox.received;
    came = refl;
    accounts = p.accounts;
    calls = p.calls;
    refused = p.refused;
    put = PutAll-whole before B whole p;
  }

  -- a Bye came
  pub IsPumped-bye : (before after : PumpView S) (x : Letter (Call S)) → before.fault ≡ None → x.post ≡ Bye → after ≡ record before { inbox = with_letter before.inbox x }
      → IsPumped before → IsPumped after
  IsPumped-bye before after x whole bye after_is (B, p) =
      let x_is : x ≡ letter x.from Bye = ap (λ post. letter x.from post) bye in
      let callers = length before.replies in
      let put = PutAll-whole before B whole p in
      let stands_for : opened_letter callers x ≡ letter x.from Bye ∷ [] = ap (opened_letter callers) x_is ∙ opened-bye callers x.from in
      subst (λ (pump : PumpView S). IsPumped pump) (sym after_is) (
        Ended B x.from,
        record {
          accounts = record {
            letters = ap (λ l. l ++ letter x.from Bye ∷ []) p.accounts.letters ∙ ap (λ l. opened callers before.inbox.received ++ l) (sym stands_for)
                ∙ sym (opened-more callers before.inbox.received x);
            stands = p.accounts.stands;
            misses = p.accounts.misses;
            acceptable = p.accounts.acceptable;
          };
          calls = p.calls;
          refused = p.refused;
          put = subst (λ (f : Option PumpFault). HavePutUpTo f before.hub.state.rules (with_letter before.inbox x).received (Ended B x.from) before.drainers before.replies) (sym whole)
              (record { routed = put.routed; replied = put.replied });
        },
      )

  -- what a call does to a pump that was received before
  pub record TakesCall (before after : PumpView S) (was_refused : Bool) (port : ℕ) (call : Call S) : Type 0 where
    pub some : 0 < length before.drainers
    pub inbox : after.inbox ≡ before.inbox
    pub calls : after.calls ≡ min (before.calls + 1) (2 ^ 64 - 1)
    pub refused : after.refused ≡ (if was_refused then min (before.refused + 1) (2 ^ 64 - 1) else before.refused)
    pub misses_before : after.misses_before ≡ before.misses_before
    pub handles : HandlesCall before.hub after.hub (ports_in before) (ports_in after) was_refused after.fault port call

  -- what a call sends that was made, and one that was refused
  more_made : (rules : Rules) (B : Marked S) (port : ℕ) (call : Call S)
      → IsMore rules B (Made B port call) (sent_by rules (history_of B) port call) port (reply_made rules (history_of B) port call)
  more_made rules B port call = record { before = refl; sends = refl; replies_are = λ p. refl }

  more_refused : (rules : Rules) (B : Marked S) (port : ℕ) (call : Call S) → IsMore rules B (Refused B port call) [] port (reply_refused rules (history_of B) call)
  more_refused rules B port call = record { before = refl; sends = append-nil (outs_in rules B); replies_are = λ p. refl }

  -- marks behind which stand those of the letter received last
  pub is_behind : (pump : PumpView S) (x : Letter (Call S)) (B more : Marked S) → HasReceived pump x B
      → without_last (length (opened_letter (length pump.replies) x)) more ≡ B → IsBefore (length pump.replies) pump.inbox.received B more
  is_behind pump x B more r marks = record { earlier = r.earlier; last = x; came = r.came; marks = marks }

  -- of a letter that stands for itself
  one_behind : (pump : PumpView S) (x : Letter (Call S)) (B more : Marked S) → HasReceived pump x B → opened_letter (length pump.replies) x ≡ x ∷ []
      → without_last 1 more ≡ B → IsBefore (length pump.replies) pump.inbox.received B more
  one_behind pump x B more r alone one = is_behind pump x B more r (ap (λ (l : List (Letter (Call S))). without_last (length l) more) alone ∙ one)

  -- the letters of these marks are those that were received
  pub all_made : (before after : PumpView S) (x : Letter (Call S)) (B more : Marked S) → HasReceived before x B → after.inbox ≡ before.inbox → AreSame before.replies after.replies
      → letters_of more ≡ letters_of B ++ opened_letter (length before.replies) x → letters_of more ≡ opened (length after.replies) after.inbox.received
  all_made before after x B more r inbox same letters =
      let callers = length before.replies in
      letters ∙ ap (λ l. l ++ opened_letter callers x) r.accounts.letters ∙ sym (opened-more callers r.earlier x)
      ∙ ap (opened callers) (r.came ∙ ap (λ (i : Incoming (Call S)). i.received) (sym inbox))
      ∙ ap (λ n. opened n after.inbox.received) (sym (AreSame-length before.replies after.replies same))

  -- the same pump
  pub keeps : (before after : PumpView S) → after.hub.state.rules ≡ before.hub.state.rules → after.inbox ≡ before.inbox → after.misses_before ≡ before.misses_before
      → AreSame before.drainers after.drainers → AreSame before.replies after.replies → KeepsPump before after
  keeps before after rules inbox misses_before drainers callers = record {
    rules = rules;
    box = ap (λ (i : Incoming (Call S)). i.box) inbox;
    ports = ap (λ (i : Incoming (Call S)). i.ports) inbox;
    drainers = drainers;
    callers = callers;
    misses_before = misses_before;
  }

  made : (before after : PumpView S) (port : ℕ) (call : Call S) (B : Marked S) → TakesCall before after false port call → HasReceived before (letter port (Body call)) B
      → opened_letter (length before.replies) (letter port (Body call)) ≡ letter port (Body call) ∷ []
      → IsMade before.hub after.hub (ports_in before) (ports_in after) after.fault port call (history_of B) → Pumps after (Made B port call) × KeepsPump before after
  made before after port call B took r alone did =
      let rules = took.handles.rules in
      let received = before.inbox.received in
      let behind = one_behind before (letter port (Body call)) B (Made B port call) r alone refl in
      let sent_now = HaveSent-of after.fault before.hub.state.rules received B (Made B port call) _ port _ (ports_in before) (ports_in after) took.some (more_made before.hub.state.rules B port call) behind r.put did.sends in (
        record {
          accounts = record {
            letters = all_made before after (letter port (Body call)) B (Made B port call) r took.inbox sent_now.callers (ap (λ l. letters_of B ++ l) (sym alone));
            stands = did.goes_on;
            misses = did.misses ∙ r.accounts.misses ∙ ap (λ n. counted (n + refused_in B)) (sym took.misses_before);
            acceptable = subst (λ (r : Rules). AreAcceptable r B) (sym rules) r.accounts.acceptable;
          };
          calls = took.calls ∙ ap (λ n. min (n + 1) (2 ^ 64 - 1)) r.calls ∙ counted-more (body_count B);
          refused = took.refused ∙ r.refused;
          put = subst (λ (i : Incoming (Call S)). HavePutUpTo after.fault after.hub.state.rules i.received (Made B port call) after.drainers after.replies) (sym took.inbox)
              (subst (λ (r : Rules). HavePutUpTo after.fault r received (Made B port call) after.drainers after.replies) (sym rules) sent_now.put);
        },
        keeps before after rules took.inbox took.misses_before sent_now.drainers sent_now.callers,
      )

  refused_one : (before after : PumpView S) (port : ℕ) (call : Call S) (B : Marked S) → TakesCall before after true port call → HasReceived before (letter port (Body call)) B
      → opened_letter (length before.replies) (letter port (Body call)) ≡ letter port (Body call) ∷ []
      → IsRefused before.hub after.hub (ports_in before) (ports_in after) after.fault port call (history_of B) → Pumps after (Refused B port call) × KeepsPump before after
  refused_one before after port call B took r alone did =
      let rules = took.handles.rules in
      let received = before.inbox.received in
      let behind = one_behind before (letter port (Body call)) B (Refused B port call) r alone refl in
      let sent_now = HaveSent-of after.fault before.hub.state.rules received B (Refused B port call) _ port _ (ports_in before) (ports_in after) took.some (more_refused before.hub.state.rules B port call) behind r.put did.sends in (
        record {
          accounts = record {
            letters = all_made before after (letter port (Body call)) B (Refused B port call) r took.inbox sent_now.callers (ap (λ l. letters_of B ++ l) (sym alone));
            stands = did.stays;
            misses = did.misses ∙ ap (λ n. min (n + 1) (2 ^ 64 - 1)) r.accounts.misses ∙ counted-plus before.misses_before (refused_in B)
                ∙ ap (λ n. counted (n + (refused_in B + 1))) (sym took.misses_before);
            acceptable = subst (λ (r : Rules). AreAcceptable r (Refused B port call)) (sym rules) (r.accounts.acceptable, did.acceptable);
          };
          calls = took.calls ∙ ap (λ n. min (n + 1) (2 ^ 64 - 1)) r.calls ∙ counted-more (body_count B);
          refused = took.refused ∙ ap (λ n. min (n + 1) (2 ^ 64 - 1)) r.refused ∙ counted-more (refused_in B);
          put = subst (λ (i : Incoming (Call S)). HavePutUpTo after.fault after.hub.state.rules i.received (Refused B port call) after.drainers after.replies) (sym took.inbox)
              (subst (λ (r : Rules). HavePutUpTo after.fault r received (Refused B port call) after.drainers after.replies) (sym rules) sent_now.put);
        },
        keeps before after rules took.inbox took.misses_before sent_now.drainers sent_now.callers,
      )

  -- a letter that stands for itself was made
  pub Makes-call : (before after : PumpView S) (was_refused : Bool) (port : ℕ) (call : Call S) → TakesCall before after was_refused port call
      → opened_letter (length before.replies) (letter port (Body call)) ≡ letter port (Body call) ∷ [] → Makes before (letter port (Body call)) after
  Makes-call before after false port call took alone B r =
      let did = made before after port call B took r alone (took.handles.took (history_of B) r.accounts.stands) in (Made B port call, did.0, did.1)
  Makes-call before after true port call took alone B r =
      let did = refused_one before after port call B took r alone (took.handles.took (history_of B) r.accounts.stands) in (Refused B port call, did.0, did.1)

  -- a letter came, and what it stands for was made
  pub IsPumped-letter : (before mid after : PumpView S) (x : Letter (Call S)) → before.fault ≡ None → mid ≡ record before { inbox = with_letter before.inbox x }
      → Makes mid x after → IsPumped before → IsPumped after × KeepsPump before after
  IsPumped-letter before mid after x whole mid_is makes (B, p) =
      let came = Pumps-came before x B whole p in
      let end = subst (λ (pump : PumpView S). Makes pump x after) mid_is makes B came in
      let kept = end.2 in
      ((end.0, end.1), record { rules = kept.rules; box = kept.box; ports = kept.ports; drainers = kept.drainers; callers = kept.callers; misses_before = kept.misses_before })

  -- the call that parts of a pump handled
  pub took_call : (before after : PumpParts S) (calls refused calls_after refused_after : ℕ) (was_refused : Bool) (fault : Option PumpFault) (port : ℕ) (call : Call S) (misses_before : ℕ)
      → 0 < vec_len before.drainers → after.inbox ≡ before.inbox → calls_after ≡ counted (calls + 1) → refused_after ≡ (if was_refused then counted (refused + 1) else refused)
      → HandlesCall before.hub after.hub (ports_of before) (ports_of after) was_refused fault port call
      → TakesCall (pump_with before calls refused misses_before None) (pump_with after calls_after refused_after misses_before fault) was_refused port call
  took_call before after calls refused calls_after refused_after was_refused fault port call misses_before some inbox calls_are refused_are handles = record {
    some = omega (arith, some, told-length before.drainers.items);
    inbox = inbox;
    calls = calls_are;
    refused = refused_are;
    misses_before = refl;
    handles = handles;
  }
