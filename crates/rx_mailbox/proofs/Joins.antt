-- What the joining of ended ports shows.
use Rattle.std.proofs.Common.{◌≡◌, ◌≢◌, ◌⊎◌, ◌*◌, ◌<◌, ◌≤◌, ◌==◌, ℕ, suc, Bool, true, cond, List, [], ◌∷◌, ◌++◌, length, refl, sym, ap, ◌∙◌, subst, inl, inr, ⊎_elim, ne_eqb, arith}
use mathlib.Core.Option.{some}
use Rattle.std.specs.List.{All, Contains, count_by, sum_by}
use Rattle.std.proofs.lemmas.Bool.{cases_eq, cases_lt}
use Rattle.std.proofs.lemmas.List.{append-nil}
use Rattle.std.proofs.lemmas.List.Elements.{All-nil, All-cons, All-push, All-contains, All-weaker, Contains-push, Contains-append_left, filter-append}
use Rattle.std.proofs.lemmas.List.Sums.{sum_by-le}
use Rattle.rx_mailbox.specs.declared.letter.batch.Batch.{Batch}
use Rattle.rx_mailbox.specs.declared.letter.Letter.{Letter}
use Rattle.rx_mailbox.specs.declared.channel.rule.View.{View}
use Rattle.rx_mailbox.specs.declared.channel.rule.View.TheVariants.{Receives}
use Rattle.rx_mailbox.specs.Letters.{share, has_bye, NothingAfterBye}
use Rattle.rx_mailbox.specs.Batches.{unpacked}
use Rattle.rx_mailbox.specs.Boxes.{Outgoing, Incoming, HasBye, HasEachBye}
use Rattle.rx_mailbox.specs.Steps.{noted, Shows}
use Rattle.rx_mailbox.specs.Passes.{own_of, made_of, taken_of, notes_of, IsPort, IsReader, IsNoted, KeepsNotes, LeavesEmpty}
use Rattle.rx_mailbox.specs.Settling.{IsEachOnce, GotAll}
use Rattle.rx_mailbox.proofs.Batches.{share-unpacked}
use Rattle.rx_mailbox.proofs.Steps.{shows}
use Rattle.rx_mailbox.proofs.Letters.{end_is_nil, no_letters, nothing_after}

added_nothing : {X : Type 0} (xs ys : List X) → xs ++ ys ≡ xs → ys ≡ []
added_nothing [] ys e = e
added_nothing (x ∷ xs) ys e = let rest : xs ++ ys ≡ xs = cc in added_nothing xs ys rest

module _ {B : Type 0} where
  -- where a port's Bye was received, all that it put was
  whole_share : (port : ℕ) (taken queue own : List (Letter B)) → NothingAfterBye (share port (taken ++ queue)) → share port (taken ++ queue) ≡ own → has_bye (share port taken) ≡ true → share port taken ≡ own
  whole_share port taken queue own ended is bye =
      let parts = filter-append _ taken queue in
      let none : share port queue ≡ [] = nothing_after (share port taken) (share port queue) (subst NothingAfterBye parts ended) bye in
      sym (append-nil (share port taken)) ∙ ap (λ l. share port taken ++ l) (sym none) ∙ sym parts ∙ is

  -- the inbox's view after a joining
  pub joined : (v w : View B) (port : ℕ) (ended : Bool) → IsReader v → IsPort port ended w → noted v w ≡ Receives (made_of v) (taken_of v) (notes_of v ++ (port, own_of w) ∷ [])
  joined v w port ended reader sender =
      subst (λ u. noted u w ≡ Receives (made_of v) (taken_of v) (notes_of v ++ (port, own_of w) ∷ [])) (sym reader.view_is)
      (ap (λ u. noted (Receives (made_of v) (taken_of v) (notes_of v)) u) sender.view_is)

  -- what the reading after a joining shows of the port, where its Bye was received
  pub got_all : (v w u : View B) (port : ℕ) (ended : Bool) (queue : List (Letter B)) → IsReader v → IsPort port ended w → u ≡ noted v w → Shows u queue → has_bye (share port (taken_of v)) ≡ true → share port (taken_of v) ≡ own_of w
  got_all v w u port ended queue reader sender is shows bye =
      let shown = subst (λ x. Shows x queue) (is ∙ joined v w port ended reader sender) shows in
      whole_share port (taken_of v) queue (own_of w) (shown.0 port) (All-contains (λ (note : ℕ × List (Letter B)). share note.0 (taken_of v ++ queue) ≡ note.1) _ (port, own_of w) shown.1 (Contains-push (notes_of v) (port, own_of w))) bye

  -- a number is that of one of the ports, or of none
  named : (ports : List (Outgoing B)) (number : ℕ) → ((port : Outgoing B) × Contains ports port × (port.number ≡ number)) ⊎ All (λ port. port.number ≢ number) ports
  named [] number = inr (All-nil (λ (p : Outgoing B). p.number ≢ number))
  named (port ∷ ports) number = ⊎_elim
      (λ same. inl (port, (0, omega arith, refl), same))
      (λ apart. ⊎_elim (λ t. inl (t.0, (suc t.1.0, (let k = t.1.1 in omega arith), t.1.2), t.2)) (λ none. inr (All-cons (λ (p : Outgoing B). p.number ≢ number) port ports apart none)) (named ports number))
      (cases_eq port.number number)

  -- where one port has a number, it is one of them
  pub found : (ports : List (Outgoing B)) (number : ℕ) → count_by (λ port. port.number == number) ports ≡ 1 → (port : Outgoing B) × Contains ports port × (port.number ≡ number)
  found ports number one = ⊎_elim
      (λ t. t)
      (λ none.
      let f : Outgoing B → ℕ = λ port. cond (port.number == number) 1 0 in
      let small : All (λ port. f port ≤ 0) ports = All-weaker (λ (port : Outgoing B). port.number ≢ number) (λ port. f port ≤ 0)
      (λ port apart. let zero : f port ≡ 0 = ap (λ b. cond b 1 0) (ne_eqb port.number number apart) in omega arith) ports none in
      let bound : sum_by f ports ≤ length ports * 0 = sum_by-le f 0 ports small in
      absurd (omega arith))
      (named ports number)

  -- the same of an equal number and an equal list
  pub IsEachOnce-same : (made other : ℕ) (ports others : List (Outgoing B)) → made ≡ other → ports ≡ others → IsEachOnce made ports → IsEachOnce other others
  IsEachOnce-same made other ports others n e each = subst (λ k. IsEachOnce k others) n (subst (λ l. IsEachOnce made l) e each)

  -- of each port of a box, its Bye was received
  pub byes_of_all : (inbox : Incoming B) (ports : List (Outgoing B)) → IsEachOnce inbox.ports ports → HasEachBye inbox → All (λ port. HasBye inbox port.number) ports
  byes_of_all inbox ports once byes = All-weaker (λ (port : Outgoing B). port.number < inbox.ports) (λ port. HasBye inbox port.number) (λ port below. byes port.number below) ports once.0

module _ {B : Type 0} where
  -- a joining loses no note
  pub joined_keeps : (v w u : View (Batch B)) (port : ℕ) (ended : Bool) → IsReader v → IsPort port ended w → u ≡ noted v w → KeepsNotes v u
  joined_keeps v w u port ended reader sender is =
      subst (λ (x : View (Batch B)). KeepsNotes v x) (sym (is ∙ joined v w port ended reader sender)) (record {
        made = refl;
        taken = refl;
        notes = λ note here. Contains-append_left (notes_of v) ((port, own_of w) ∷ []) note here;
      })

  -- a port that was joined is noted
  pub joined_notes : (v w u : View (Batch B)) (port : Outgoing B) (number : ℕ) (ended : Bool) (queue : List (Letter (Batch B))) → IsReader v → IsPort number ended w → u ≡ noted v w → Shows u queue
      → number ≡ port.number → unpacked (own_of w) ≡ port.own → has_bye (share number (taken_of v)) ≡ true → IsNoted u port
  joined_notes v w u port number ended queue reader sender is shows same own bye =
      let whole = is ∙ joined v w number ended reader sender in
      let came : share number (taken_of v) ≡ own_of w = got_all v w u number ended queue reader sender is shows bye in
      subst (λ (x : View (Batch B)). IsNoted x port) (sym whole) (record {
        own = own_of w;
        noted = subst (λ n. Contains (notes_of v ++ (number, own_of w) ∷ []) (n, own_of w)) same (Contains-push (notes_of v) (number, own_of w));
        came = ap (λ n. share n (taken_of v)) (sym same) ∙ came;
        unpacks = own;
      })

  -- a port stays noted
  pub noted_still : (v w : View (Batch B)) (port : Outgoing B) → KeepsNotes v w → IsNoted v port → IsNoted w port
  noted_still v w port keeps is = record {
    own = is.own;
    noted = keeps.notes (port.number, is.own) is.noted;
    came = ap (λ l. share port.number l) keeps.taken ∙ is.came;
    unpacks = is.unpacks;
  }

  pub noted_more : (v w : View (Batch B)) (ports : List (Outgoing B)) (port : Outgoing B) → KeepsNotes v w → IsNoted w port → All (IsNoted v) ports → All (IsNoted w) (ports ++ port ∷ [])
  noted_more v w ports port keeps last noted_yet = All-push (IsNoted w) ports port (All-weaker (IsNoted v) (IsNoted w) (λ p here. noted_still v w p keeps here) ports noted_yet) last

  pub keeps_both : (u v w : View (Batch B)) → KeepsNotes u v → KeepsNotes v w → KeepsNotes u w
  keeps_both u v w first then = record {
    made = then.made ∙ first.made;
    taken = then.taken ∙ first.taken;
    notes = λ note here. then.notes note (first.notes note here);
  }

  -- of a noted port all was received that it put
  pub noted_came : (v : View (Batch B)) (inbox : Incoming B) (port : Outgoing B) → unpacked (taken_of v) ≡ inbox.received → IsNoted v port → GotAll inbox port
  noted_came v inbox port received is =
      ap (λ l. share port.number l) (sym received) ∙ share-unpacked port.number (taken_of v) ∙ ap unpacked is.came ∙ is.unpacks

  -- where each port is noted, the rule leaves the queue empty
  pub leaves_empty : (v : View (Batch B)) (made : ℕ) (ports : List (Outgoing B)) → IsReader v → made_of v ≡ made → All (IsNoted v) ports → IsEachOnce made ports → LeavesEmpty v
  leaves_empty v made ports reader made_is noted_all once queue views pass rule at =
      let shown = shows pass (made_of v) (taken_of v) (notes_of v) queue views rule (at ∙ ap some reader.view_is) in
      no_letters queue (λ number. ⊎_elim
      (λ below.
      let t = found ports number (once.1 number below) in
      let is = All-contains (IsNoted v) ports t.0 noted_all t.1 in
      let put : share t.0.number (taken_of v ++ queue) ≡ is.own = All-contains (λ (note : ℕ × List (Letter (Batch B))). share note.0 (taken_of v ++ queue) ≡ note.1) (notes_of v) (t.0.number, is.own) shown.1 is.noted in
      ap (λ n. share n queue) (sym t.2) ∙ added_nothing (share t.0.number (taken_of v)) (share t.0.number queue) (sym (filter-append _ (taken_of v) queue) ∙ put ∙ sym is.came))
      (λ above. end_is_nil (share number (taken_of v)) (share number queue) (sym (filter-append _ (taken_of v) queue) ∙ shown.2 number (omega arith)))
      (cases_lt number made))
