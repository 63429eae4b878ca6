-- The replies to a port go with its calls, one by one; and that to an accepted item tells its place.
use Rattle.std.proofs.Common.{◌≡◌, ◌∙◌, sym, refl, ap, ℕ, ◌==◌, List, [], ◌∷◌, ◌++◌, append_assoc, append-nil, ◌+◌, Bool, true, false, ◌&&◌, not, if◌then◌else◌, Ok, Err, map, subst, inl, inr}
use Rattle.std.proofs.lemmas.Bool.Decides.{eqb_tells}
use Rattle.std.proofs.lemmas.List.{map-append}
use Rattle.std.proofs.lemmas.List.Elements.{filter-append}
use Rattle.rx_note.specs.declared.answer.Answer.TheVariants.{Admitted}
use Rattle.rx_note.specs.declared.event.Event.{Event}
use Rattle.rx_note.specs.declared.event.Event.TheVariants.{Emit}
use Rattle.rx_note.specs.declared.item.Item.{Item}
use Rattle.rx_note.specs.declared.note.Note.TheVariants.{Next}
use Rattle.rx_note.specs.declared.refusal.Refusal.TheVariants as refusals
use Rattle.rx_note.specs.declared.rules.Rules.{Rules}
use Rattle.rx_history.specs.Histories.{History, ◌▹◌, item_count, is_ended, has_room, answer}
use Rattle.rx_history.specs.Delivery.{emitted}
use Rattle.rx_history.proofs.Accepting.{item_count-accepted}
use Rattle.rx_history.proofs.Offers.{emitted-accepted}
use Rattle.rx_mailbox.specs.declared.letter.Letter.{Letter}
use Rattle.rx_mailbox.specs.declared.letter.Post.TheVariants.{Body, Bye}
use Rattle.rx_mailbox.specs.Letters.{letter, share}
use Rattle.rx_pump.specs.declared.call.Call.{Call}
use Rattle.rx_pump.specs.declared.reply.Reply.{Reply}
use Rattle.rx_pump.specs.Marks.{Marked, NoLetters, Made, Refused, Ended, letters_of, history_of, replies, reply_made, reply_refused, to_port}
use Rattle.rx_pump.specs.Desks.{ticket_in, tickets_in}

module _ {S : Type 0} where
  pub tickets_in-append : (xs ys : List (Letter (Call S))) → tickets_in (xs ++ ys) ≡ tickets_in xs ++ tickets_in ys
  tickets_in-append [] ys = refl
  tickets_in-append (x ∷ xs) ys = ap (λ l. ticket_in x.post ++ l) (tickets_in-append xs ys) ∙ sym (append_assoc (ticket_in x.post) (tickets_in xs) (tickets_in ys))

  -- the tickets of a port's share with one letter more
  tickets-more : (p : ℕ) (letters : List (Letter (Call S))) (x : Letter (Call S)) → tickets_in (share p (letters ++ x ∷ [])) ≡ tickets_in (share p letters) ++ tickets_in (share p (x ∷ []))
  tickets-more p letters x = ap tickets_in (filter-append (λ (y : Letter (Call S)). y.from == p) letters (x ∷ [])) ∙ tickets_in-append (share p letters) (share p (x ∷ []))

  -- one call has one reply
  one_reply : (p port : ℕ) (call : Call S) (reply : Reply S) → reply.ticket ≡ call.ticket
      → map (λ r. r.ticket) (to_port port p reply) ≡ tickets_in (share p (letter port (Body call) ∷ []))
  one_reply p port call reply same = elim (eqb_tells port p) [
    | inl (test, at) ↦ rw test (ap (λ ticket. ticket ∷ []) same)
    | inr (test, other) ↦ rw test refl
  ]

  -- a Bye has none
  no_reply : (p : ℕ) (x : Letter (Call S)) → x.post ≡ Bye → tickets_in (share p (x ∷ [])) ≡ []
  no_reply p x bye = elim (eqb_tells x.from p) [
    | inl (test, at) ↦ rw test (ap (λ post. ticket_in post ++ []) bye)
    | inr (test, other) ↦ rw test refl
  ]

  -- a body more has a reply more
  replied_more : (p port : ℕ) (call : Call S) (reply : Reply S) (earlier : List (Reply S)) (letters : List (Letter (Call S))) → reply.ticket ≡ call.ticket
      → map (λ r. r.ticket) earlier ≡ tickets_in (share p letters)
      → map (λ r. r.ticket) (earlier ++ to_port port p reply) ≡ tickets_in (share p (letters ++ letter port (Body call) ∷ []))
  replied_more p port call reply earlier letters same so_far =
      map-append (λ r. r.ticket) earlier (to_port port p reply)
      ∙ ap (λ l. l ++ map (λ r. r.ticket) (to_port port p reply)) so_far
      ∙ ap (λ l. tickets_in (share p letters) ++ l) (one_reply p port call reply same)
      ∙ sym (tickets-more p letters (letter port (Body call)))

  -- each call is replied to once, in its order
  pub each_call_is_replied : (rules : Rules) (p : ℕ) (B : Marked S) → map (λ reply. reply.ticket) (replies rules p B) ≡ tickets_in (share p (letters_of B))
  each_call_is_replied rules p NoLetters = refl
  each_call_is_replied rules p (Made B port call) =
      replied_more p port call (reply_made rules (history_of B) port call) (replies rules p B) (letters_of B) refl (each_call_is_replied rules p B)
  each_call_is_replied rules p (Refused B port call) =
      replied_more p port call (reply_refused rules (history_of B) call) (replies rules p B) (letters_of B) refl (each_call_is_replied rules p B)
  each_call_is_replied rules p (Ended B port) =
      each_call_is_replied rules p B ∙ sym (append-nil (tickets_in (share p (letters_of B))))
      ∙ ap (λ l. tickets_in (share p (letters_of B)) ++ l) (sym (no_reply p (letter port Bye) refl)) ∙ sym (tickets-more p (letters_of B) (letter port Bye))

-- A PLACE

-- an emission that was admitted was accepted
admitted : (ended room : Bool) → (if ended then Err refusals.Ended else (if room then Ok Admitted else Err refusals.Spent)) ≡ Ok Admitted → (not ended && room) ≡ true
admitted true room told = cc
admitted false true told = refl
admitted false false told = cc

-- an item that was admitted is emitted at the next place, which is then counted
place_of : (rules : Rules) (H : History) (port at : ℕ) (item : Item) → answer rules H (Emit (Next item) at) ≡ Ok Admitted
    → (place : ℕ) × (item_count rules (H ▹ (port, Emit (Next item) at)) ≡ place + 1)
    × (emitted rules (H ▹ (port, Emit (Next item) at)) ≡ emitted rules H ++ record item { from = port; place = place } ∷ [])
place_of rules H port at item told =
    let accepted = admitted (is_ended H) (has_room rules.limits (item_count rules H) (Next item)) told in
    (item_count rules H, item_count-accepted rules H port (Next item) at accepted, emitted-accepted rules H port (Next item) at accepted)

module _ {S : Type 0} where
  -- the reply to an accepted item tells its place
  pub reply_tells_the_place : (rules : Rules) (H : History) (port at : ℕ) (item : Item) (call : Call S) → call.event ≡ Emit (Next item) at → answer rules H call.event ≡ Ok Admitted
      → (place : ℕ) × ((reply_made rules H port call).items ≡ place + 1)
      × (emitted rules (H ▹ (port, call.event)) ≡ emitted rules H ++ record item { from = port; place = place } ∷ [])
  reply_tells_the_place rules H port at item call is told =
      subst (λ (event : Event). (place : ℕ) × (item_count rules (H ▹ (port, event)) ≡ place + 1) × (emitted rules (H ▹ (port, event)) ≡ emitted rules H ++ record item { from = port; place = place } ∷ []))
      (sym is) (place_of rules H port at item (subst (λ (event : Event). answer rules H event ≡ Ok Admitted) is told))
