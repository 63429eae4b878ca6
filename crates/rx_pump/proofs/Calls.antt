-- One call: what the hub answered and gave, and what the ports put.
use Rattle.std.proofs.Common.{◌≡◌, ◌≢◌, ◌≤◌, ◌⊎◌, ◌∙◌, sym, refl, ap, subst, ℕ, ◌+◌, ◌-◌, ◌^◌, min, Bool, true, false, List, [], ◌++◌, map, option_to_list, Option, Some, None, Result, Ok, Err, MatchResult, length, append-nil, inl, inr}
use Rattle.rx_note.specs.declared.answer.Answer.{Answer}
use Rattle.rx_note.specs.declared.answer.Answer.TheVariants as answers
use Rattle.rx_note.specs.declared.event.Event.TheVariants.{Request}
use Rattle.rx_note.specs.declared.given.Given.{Given}
use Rattle.rx_note.specs.declared.refusal.Refusal.{Refusal}
use Rattle.rx_note.specs.declared.refusal.Refusal.TheVariants as refusals
use Rattle.rx_history.specs.Histories.{History, ◌▹◌, item_count, answer}
use Rattle.rx_hub.specs.Hubs.{HubView, StandsFor, Steps, MayMiss, is_miss}
use Rattle.rx_pump.specs.declared.call.Call.{Call}
use Rattle.rx_pump.specs.declared.out.Out.{Out}
use Rattle.rx_pump.specs.declared.pump.pump_fault.PumpFault.{PumpFault}
use Rattle.rx_pump.specs.declared.pump.pump_fault.PumpFault.TheVariants.{DrainerGone}
use Rattle.rx_pump.specs.declared.reply.Reply.{Reply}
use Rattle.rx_mailbox.specs.Boxes.{Outgoing}
use Rattle.rx_pump.specs.Marks.{attach_of, detach_of, leaver, give, sent_by, sent_back, reply_to, reply_made, reply_refused, to_port}
use Rattle.rx_pump.specs.Sends.{SendsOuts}
use Rattle.rx_mailbox.specs.PortRows.{Puts}
use Rattle.rx_pump.proofs.Putting.{Puts-no_place}
use Rattle.rx_pump.specs.Turns.{Ports, Sends, IsMade, IsRefused, HandlesCall}

-- an answer is Memory, or it is not
pub miss_or_not : (answered : Result Answer Refusal)
    → ((answered ≡ Err refusals.Memory) × (is_miss answered ≡ true)) ⊎ ((answered ≢ Err refusals.Memory) × (is_miss answered ≡ false))
miss_or_not (Ok a) = inr ((λ same. cc), refl)
miss_or_not (Err refusals.Ended) = inr ((λ same. cc), refl)
miss_or_not (Err refusals.Full) = inr ((λ same. cc), refl)
miss_or_not (Err refusals.Spent) = inr ((λ same. cc), refl)
miss_or_not (Err refusals.ZeroRequest) = inr ((λ same. cc), refl)
miss_or_not (Err refusals.NoObserver) = inr ((λ same. cc), refl)
miss_or_not (Err refusals.TooMuch) = inr ((λ same. cc), refl)
miss_or_not (Err refusals.Memory) = inl (refl, refl)

-- a hub has counted the items of each history that it stands for
count_for : (hub after : HubView) (H : History) → after.state.rules ≡ hub.state.rules → StandsFor after.state H → after.state.subject.count ≡ item_count hub.state.rules H
count_for hub after H same stands = stands.subject_stands.count_is ∙ ap (λ rules. item_count rules H) same

module _ {S : Type 0} where
  -- what the hub did with a call's event
  pub record Stepped (hub after : HubView) (answered : Result Answer Refusal) (given : List Given) (port : ℕ) (call : Call S) : Type 0 where
    pub step : answered ≢ Err refusals.Memory → (H : History) → StandsFor hub.state H → Steps hub.state after.state [] given answered H (port, call.event)
    pub kept : answered ≢ Err refusals.Memory → after.misses ≡ hub.misses
    pub missed : answered ≡ Err refusals.Memory → (after ≡ record { state = hub.state; misses = min (hub.misses + 1) (2 ^ 64 - 1) }) × (given ≡ [])
    pub accepted : answered ≡ Err refusals.Memory → (H : History) → StandsFor hub.state H → MayMiss hub.state.rules H (port, call.event)
    pub rules : after.state.rules ≡ hub.state.rules

  -- what is sent for a call that was answered so and gave this
  abbrev pub outs_for : Result Answer Refusal → List Given → Call S → List (Out S)
  outs_for answered given call = attach_of answered call.sink ++ map give given ++ detach_of (leaver call.event) answered

  -- nobody leaves by a refused call
  no_detach : (leaving : Option ℕ) → detach_of {S = S} leaving (Err refusals.Memory) ≡ []
  no_detach None = refl
  no_detach (Some who) = refl

  -- a call that was refused sends nothing
  refused_sends : (given : List Given) (leaving : Option ℕ) (sink : Option S) (answered : Result Answer Refusal) → answered ≡ Err refusals.Memory → given ≡ []
      → attach_of answered sink ++ map give given ++ detach_of leaving answered ≡ []
  refused_sends given leaving sink answered memory none =
      ap (λ a. attach_of a sink ++ map give given ++ detach_of leaving a) memory ∙ ap (λ l. map give l ++ detach_of leaving (Err refusals.Memory)) none ∙ no_detach leaving

  made : (hub after : HubView) (before then : Ports S) (answered : Result Answer Refusal) (given : List Given) (items : ℕ) (fault : Option PumpFault) (port : ℕ) (call : Call S) (H : History)
      → Stepped hub after answered given port call → answered ≢ Err refusals.Memory → StandsFor hub.state H
      → items ≡ after.state.subject.count → Sends fault (outs_for answered given call) port (reply_to call answered items) before then
      → IsMade hub after before then fault port call H
  made hub after before then answered given items fault port call H stepped other stands items_are sends =
      let step = stepped.step other H stands in
      let told = answer hub.state.rules H call.event in
      let counted : items ≡ item_count hub.state.rules (H ▹ (port, call.event)) = items_are ∙ count_for hub after (H ▹ (port, call.event)) stepped.rules step.goes_on in
      let sent : outs_for answered given call ≡ sent_by hub.state.rules H port call =
      ap (λ a. attach_of a call.sink ++ map give given ++ detach_of (leaver call.event) a) step.answers
      ∙ ap (λ l. attach_of told call.sink ++ map give l ++ detach_of (leaver call.event) told) step.gives in
      record {
        goes_on = step.goes_on;
        misses = stepped.kept other;
        sends =
            subst (λ (l : List (Out S)). Sends fault l port (reply_made hub.state.rules H port call) before then) sent
            (subst (λ (n : ℕ). Sends fault (outs_for answered given call) port (reply_to call told n) before then) counted
            (subst (λ (a : Result Answer Refusal). Sends fault (outs_for answered given call) port (reply_to call a items) before then) step.answers sends));
      }

  refused : (hub after : HubView) (before then : Ports S) (answered : Result Answer Refusal) (given : List Given) (items : ℕ) (fault : Option PumpFault) (port : ℕ) (call : Call S) (H : History)
      → Stepped hub after answered given port call → answered ≡ Err refusals.Memory → StandsFor hub.state H
      → items ≡ after.state.subject.count → Sends fault (outs_for answered given call) port (reply_to call answered items) before then
      → IsRefused hub after before then fault port call H
  refused hub after before then answered given items fault port call H stepped memory stands items_are sends =
      let missed = stepped.missed memory in
      let nothing : outs_for answered given call ≡ [] = refused_sends given (leaver call.event) call.sink answered memory missed.1 in
      let stays : StandsFor after.state H = subst (λ (hub_after : HubView). StandsFor hub_after.state H) (sym missed.0) stands in
      let counted : items ≡ item_count hub.state.rules H = items_are ∙ count_for hub after H stepped.rules stays in
      record {
        stays = stays;
        misses = ap (λ (hub_after : HubView). hub_after.misses) missed.0;
        acceptable = stepped.accepted memory H stands;
        sends =
            subst (λ (l : List (Out S)). Sends fault l port (reply_refused hub.state.rules H call) before then) nothing
            (subst (λ (n : ℕ). Sends fault (outs_for answered given call) port (reply_to call (Err refusals.Memory) n) before then) counted
            (subst (λ (a : Result Answer Refusal). Sends fault (outs_for answered given call) port (reply_to call a items) before then) memory sends));
      }

  handled : (hub after : HubView) (before then : Ports S) (answered : Result Answer Refusal) (given : List Given) (items : ℕ) (fault : Option PumpFault) (port : ℕ) (call : Call S)
      → Stepped hub after answered given port call
      → items ≡ after.state.subject.count → Sends fault (outs_for answered given call) port (reply_to call answered items) before then
      → HandlesCall hub after before then (is_miss answered) fault port call
  handled hub after before then answered given items fault port call stepped items_are sends = record {
    rules = stepped.rules;
    took = λ H stands. elim (miss_or_not answered) [
      | inl (memory, test) ↦ rw test (refused hub after before then answered given items fault port call H stepped memory stands items_are sends)
      | inr (other, test) ↦ rw test (made hub after before then answered given items fault port call H stepped other stands items_are sends)
    ];
  }

  -- a call was handled, and its sink went either way
  pub handled_with : (hub after : HubView) (before then : Ports S) (answered : Result Answer Refusal) (given : List Given) (first last : Option (Out S)) (back : Option S) (leaving : Option ℕ)
      (items : ℕ) (was_refused : Bool) (fault : Option PumpFault) (port : ℕ) (call : Call S)
      → was_refused ≡ is_miss answered → option_to_list first ≡ attach_of answered call.sink → back ≡ sent_back answered call.sink
      → leaving ≡ leaver call.event → option_to_list last ≡ detach_of leaving answered
      → Stepped hub after answered given port call → items ≡ after.state.subject.count
      → Sends fault (option_to_list first ++ map give given ++ option_to_list last) port (record { ticket = call.ticket; result = answered; sink = back; items = items }) before then
      → HandlesCall hub after before then was_refused fault port call
  handled_with hub after before then answered given first last back leaving items was_refused fault port call refused_is first_is back_is leaving_is last_is stepped items_are sends =
      let last_of : option_to_list last ≡ detach_of (leaver call.event) answered = last_is ∙ ap (λ o. detach_of o answered) leaving_is in
      let outs : option_to_list first ++ map give given ++ option_to_list last ≡ outs_for answered given call =
      ap (λ l. l ++ map give given ++ option_to_list last) first_is ∙ ap (λ l. attach_of answered call.sink ++ map give given ++ l) last_of in
      subst (λ (b : Bool). HandlesCall hub after before then b fault port call) (sym refused_is)
      (handled hub after before then answered given items fault port call stepped items_are
      (subst (λ (l : List (Out S)). Sends fault l port (reply_to call answered items) before then) outs
      (subst (λ (sink : Option S). Sends fault (option_to_list first ++ map give given ++ option_to_list last) port (record { ticket = call.ticket; result = answered; sink = sink; items = items }) before then) back_is
      sends)))

  -- a call that brings no sink has none attached
  pub no_attach : (answered : Result Answer Refusal) → [] ≡ attach_of {S = S} answered None
  no_attach (Ok answers.Admitted) = refl
  no_attach (Ok (answers.Joined who)) = refl
  no_attach (Ok answers.Asked) = refl
  no_attach (Ok answers.Left) = refl
  no_attach (Err refusal) = refl

  -- the notes were sent, or a drainer is gone; from a port with no place for a reply none was put
  pub sends_notes : (notes : List (Out S)) (outcome : Result (Unit {0}) ℕ) (fault : Option PumpFault) (port : ℕ) (reply : Reply S) (before then : Ports S)
      → SendsOuts notes outcome before.drainers then.drainers → then.replies ≡ before.replies → length before.replies ≤ port
      → MatchResult outcome (λ _. fault ≡ None) (λ place. fault ≡ Some (DrainerGone place)) → Sends fault notes port reply before then
  sends_notes notes (Ok done) fault port reply before then puts same silent is =
      subst (λ (f : Option PumpFault). Sends f notes port reply before then) (sym is)
      (puts, subst (λ (l : List (Outgoing (Reply S))). Puts (λ p. to_port port p reply) before.replies l) (sym same) (Puts-no_place before.replies port reply silent))
  sends_notes notes (Err place) fault port reply before then stops same silent is =
      subst (λ (f : Option PumpFault). Sends f notes port reply before then) (sym is) (stops, same)
