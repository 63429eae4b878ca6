-- The tickets of a desk's ports, once one more was put and once some have ended.
use Rattle.std.proofs.Common.{◌≡◌, ◌∙◌, sym, ap, subst, ℕ, ◌+◌, ◌<◌, ◌≤◌, List, [], ◌∷◌, ◌++◌, append-nil, length, map, get_or, Some, slice_get, Result, Ok, Err, inl, inr, arith}
use Rattle.std.proofs.lemmas.Bool.Decides.{eqb_tells}
use Rattle.std.proofs.lemmas.List.Elements.{All-append, All-cons, All-nil, All-same, All-tail, All-weaker}
use Rattle.std.proofs.lemmas.Option.{get_or_from_slice_get, slice_get-get_or}
use Rattle.std.specs.List.{All}
use Rattle.std.specs.Option.{option_map}
use Rattle.rx_mailbox.specs.declared.letter.Letter.{Letter}
use Rattle.rx_mailbox.specs.declared.letter.Post.{Post}
use Rattle.rx_mailbox.specs.declared.letter.Post.TheVariants.{Body, Bye}
use Rattle.rx_mailbox.specs.Letters.{letter, posts}
use Rattle.rx_mailbox.specs.Boxes.{Outgoing, Incoming, with_more}
use Rattle.rx_pump.specs.declared.call.Call.{Call}
use Rattle.rx_pump.specs.declared.call_desk.call_error.CallError.{CallError}
use Rattle.rx_pump.specs.declared.call_desk.call_error.CallError.TheVariants.{SubjectGone, Strange}
use Rattle.rx_pump.specs.declared.reply.Reply.{Reply}
use Rattle.rx_pump.specs.Desks.{DeskView, AreUpTo, IsUpTo, KeepsDesk, ReceivesReply, Rise, TicketsRise, ticket_in, tickets_in}
use Rattle.rx_pump.specs.Marks.{to_port}
use Rattle.rx_mailbox.specs.PortRows.{IsFresh}
use Rattle.rx_mailbox.specs.PortRows.{with_bye, Puts, EndsSome}
use Rattle.rx_pump.proofs.Pumping.{AreSame-puts}
use Rattle.rx_pump.proofs.Replied.{tickets_in-append}
use Rattle.rx_pump.proofs.Answering.{Rise-push}

-- what holds of each element of two lists holds of the second's
All-second : {X : Type 0} (P : X → Type 0) (xs ys : List X) → All P (xs ++ ys) → All P ys
All-second P [] ys all = all
All-second P (x ∷ xs) ys all = All-second P xs ys (All-tail P x (xs ++ ys) all)

-- and of the first's
All-first : {X : Type 0} (P : X → Type 0) (xs ys : List X) → All P (xs ++ ys) → All P xs
All-first P [] ys all = All-nil P
All-first P (x ∷ xs) ys all = All-cons P x xs (all 0 x (omega arith)) (All-first P xs ys (All-tail P x (xs ++ ys) all))

module _ {S : Type 0} where
  -- no letter of a list has a ticket above this one
  abbrev pub LettersUpTo : ℕ → List (Letter (Call S)) → Type 0
  LettersUpTo ticket letters = All (λ x. IsUpTo ticket x.post) letters

  -- the ports that are left have no ticket above
  pub AreUpTo-left : (ticket : ℕ) (ports left before after : List (Outgoing (Call S))) → EndsSome ports left before after → AreUpTo ticket ports → AreUpTo ticket left
  AreUpTo-left ticket ports left before after ends up =
      let P : Outgoing (Call S) → Type 0 = λ port. LettersUpTo ticket port.own in
      All-second P ends.done left (All-same P (ends.done ++ left) ports ends.parts up)

  -- a ticket that is not above one is not above a greater one
  IsUpTo-more : (ticket : ℕ) (post : Post (Call S)) → IsUpTo ticket post → IsUpTo (ticket + 1) post
  IsUpTo-more ticket (Body call) up = omega (arith, up)
  IsUpTo-more ticket Bye up = tt

  -- what one port puts of a call
  LettersUpTo-post : (ticket number subject place : ℕ) (call : Call S) → call.ticket ≤ ticket → LettersUpTo ticket (posts number (to_port subject place call))
  LettersUpTo-post ticket number subject place call up = elim (eqb_tells subject place) [
    | inl (test, same) ↦ rw test (All-cons (λ (x : Letter (Call S)). IsUpTo ticket x.post) _ [] up (All-nil (λ (x : Letter (Call S)). IsUpTo ticket x.post)))
    | inr (test, other) ↦ rw test (All-nil (λ (x : Letter (Call S)). IsUpTo ticket x.post))
  ]

  -- once the next call was put no ticket is above its ticket
  pub AreUpTo-sent : (ticket subject : ℕ) (call : Call S) (before after : List (Outgoing (Call S)))
      → call.ticket ≡ ticket + 1 → Puts (λ place. to_port subject place call) before after → AreUpTo ticket before → AreUpTo (ticket + 1) after
  AreUpTo-sent ticket subject call before after next put up k d within =
      let P : Letter (Call S) → Type 0 = λ x. IsUpTo (ticket + 1) x.post in
      let count : length after ≡ length before = put.count in
      let inside : k < length before = omega (arith, count, within) in
      let old = get_or before k d in
      let at : slice_get after k ≡ Some (with_more (to_port subject k call) old) = put.at k ∙ ap (option_map (with_more (to_port subject k call))) (slice_get-get_or before k d inside) in
      let now : get_or after k d ≡ with_more (to_port subject k call) old = get_or_from_slice_get after k _ d at in
      let own : (get_or after k d).own ≡ old.own ++ posts old.number (to_port subject k call) = ap (λ (p : Outgoing (Call S)). p.own) now in
      let fits : call.ticket ≤ ticket + 1 = omega (arith, next) in
      All-same P _ _ own
      (All-append P old.own _
      (All-weaker (λ (x : Letter (Call S)). IsUpTo ticket x.post) P (λ x. IsUpTo-more ticket x.post) old.own (up k d inside))
      (LettersUpTo-post (ticket + 1) old.number subject k call fits))

  -- RISING TICKETS

  below_post : (ticket n : ℕ) (post : Post (Call S)) → ticket < n → IsUpTo ticket post → All (λ m. m < n) (ticket_in post)
  below_post ticket n (Body call) less up = All-cons (λ m. m < n) call.ticket [] (omega (arith, less, up)) (All-nil (λ m. m < n))
  below_post ticket n Bye less up = All-nil (λ m. m < n)

  -- tickets that are not above one are below a greater one
  tickets_below : (ticket n : ℕ) (letters : List (Letter (Call S))) → ticket < n → LettersUpTo ticket letters → All (λ m. m < n) (tickets_in letters)
  tickets_below ticket n [] less up = All-nil (λ m. m < n)
  tickets_below ticket n (x ∷ xs) less up =
      All-append (λ m. m < n) (ticket_in x.post) (tickets_in xs) (below_post ticket n x.post less (up 0 x (omega arith)))
      (tickets_below ticket n xs less (All-tail (λ (y : Letter (Call S)). IsUpTo ticket y.post) x xs up))

  -- what one port puts of the next call keeps its tickets rising
  Rise-post : (ticket number subject place : ℕ) (call : Call S) (own : List (Letter (Call S))) → call.ticket ≡ ticket + 1 → LettersUpTo ticket own → Rise (tickets_in own)
      → Rise (tickets_in (own ++ posts number (to_port subject place call)))
  Rise-post ticket number subject place call own next up rise = elim (eqb_tells subject place) [
    | inl (test, same) ↦
        rw test (subst Rise (sym (tickets_in-append own (letter number (Body call) ∷ [])))
        (Rise-push (tickets_in own) call.ticket rise (tickets_below ticket call.ticket own (omega (arith, next)) up)))
    | inr (test, other) ↦ rw test (subst (λ (l : List (Letter (Call S))). Rise (tickets_in l)) (sym (append-nil own)) rise)
  ]

  -- once the next call was put the tickets rise
  pub TicketsRise-sent : (ticket subject : ℕ) (call : Call S) (before after : List (Outgoing (Call S)))
      → call.ticket ≡ ticket + 1 → Puts (λ place. to_port subject place call) before after → AreUpTo ticket before → TicketsRise before → TicketsRise after
  TicketsRise-sent ticket subject call before after next put up rise k d within =
      let count : length after ≡ length before = put.count in
      let inside : k < length before = omega (arith, count, within) in
      let old = get_or before k d in
      let at : slice_get after k ≡ Some (with_more (to_port subject k call) old) = put.at k ∙ ap (option_map (with_more (to_port subject k call))) (slice_get-get_or before k d inside) in
      let now : get_or after k d ≡ with_more (to_port subject k call) old = get_or_from_slice_get after k _ d at in
      subst (λ (p : Outgoing (Call S)). Rise (tickets_in p.own)) (sym now) (Rise-post ticket old.number subject k call old.own next (up k d inside) (rise k d inside))

  -- new ports put nothing, so none has a ticket
  pub AreUpTo-fresh : (ports : List (Outgoing (Call S))) → All IsFresh ports → AreUpTo 0 ports
  AreUpTo-fresh ports fresh = All-weaker IsFresh (λ (port : Outgoing (Call S)). All (λ x. IsUpTo 0 x.post) port.own)
      (λ port none. subst (λ l. All (λ (x : Letter (Call S)). IsUpTo 0 x.post) l) (sym none.0) (All-nil (λ (x : Letter (Call S)). IsUpTo 0 x.post))) ports fresh

  pub TicketsRise-fresh : (ports : List (Outgoing (Call S))) → All IsFresh ports → TicketsRise ports
  TicketsRise-fresh ports fresh = All-weaker IsFresh (λ (port : Outgoing (Call S)). Rise (tickets_in port.own))
      (λ port none. subst (λ (l : List (Letter (Call S))). Rise (tickets_in l)) (sym none.0) (λ i j d before within. absurd (omega arith))) ports fresh

  -- a Bye has no ticket
  pub TicketsRise-byes : (ports : List (Outgoing (Call S))) → TicketsRise ports → TicketsRise (map with_bye ports)
  TicketsRise-byes [] rise = All-nil (λ (port : Outgoing (Call S)). Rise (tickets_in port.own))
  TicketsRise-byes (port ∷ ports) rise =
      let P : Outgoing (Call S) → Type 0 = λ p. Rise (tickets_in p.own) in
      All-cons P (with_bye port) (map with_bye ports)
      (subst Rise (sym (tickets_in-append port.own (letter port.number Bye ∷ []) ∙ append-nil (tickets_in port.own))) (rise 0 port (omega arith)))
      (TicketsRise-byes ports (All-tail P port ports rise))

  -- of ports of which some have ended the tickets rise
  pub TicketsRise-left : (ports left before after : List (Outgoing (Call S))) → EndsSome ports left before after → TicketsRise ports → TicketsRise left
  TicketsRise-left ports left before after ends rise =
      let P : Outgoing (Call S) → Type 0 = λ p. Rise (tickets_in p.own) in
      All-second P ends.done left (All-same P (ends.done ++ left) ports ends.parts rise)

  pub TicketsRise-all : (ports before after : List (Outgoing (Call S))) → after ≡ before ++ map with_bye ports → TicketsRise ports → TicketsRise before → TicketsRise after
  TicketsRise-all ports before after ended rise rose =
      let P : Outgoing (Call S) → Type 0 = λ p. Rise (tickets_in p.own) in
      All-same P after (before ++ map with_bye ports) ended (All-append P before (map with_bye ports) rose (TicketsRise-byes ports rise))

  pub TicketsRise-ended : (ports left before after : List (Outgoing (Call S))) → EndsSome ports left before after → TicketsRise ports → TicketsRise before → TicketsRise after
  TicketsRise-ended ports left before after ends rise rose =
      let P : Outgoing (Call S) → Type 0 = λ p. Rise (tickets_in p.own) in
      TicketsRise-all ends.done before after ends.ended (All-first P ends.done left (All-same P (ends.done ++ left) ports ends.parts rise)) rose

  -- receiving leaves the box
  ReceivesReply-box : (before after : Incoming (Reply S)) (subject ticket : ℕ) (answered : Result (Reply S) (CallError S)) → ReceivesReply before after subject ticket answered
      → (after.box ≡ before.box) × (after.ports ≡ before.ports)
  ReceivesReply-box before after subject ticket (Ok reply) r = (ap (λ (i : Incoming (Reply S)). i.box) r.0, ap (λ (i : Incoming (Reply S)). i.ports) r.0)
  ReceivesReply-box before after subject ticket (Err (SubjectGone back)) r = (ap (λ (i : Incoming (Reply S)). i.box) r.0, ap (λ (i : Incoming (Reply S)). i.ports) r.0)
  ReceivesReply-box before after subject ticket (Err (Strange back)) r = (ap (λ (i : Incoming (Reply S)). i.box) r.1, ap (λ (i : Incoming (Reply S)). i.ports) r.1)

  -- a call leaves the boxes
  pub KeepsDesk-call : (before after : DeskView S) (subject ticket : ℕ) (call : Call S) (answered : Result (Reply S) (CallError S))
      → Puts (λ place. to_port subject place call) before.ports after.ports → ReceivesReply before.inbox after.inbox subject ticket answered → after.ended ≡ before.ended → KeepsDesk before after
  KeepsDesk-call before after subject ticket call answered put received ended =
      let box = ReceivesReply-box before.inbox after.inbox subject ticket answered received in
      record { ports = AreSame-puts _ before.ports after.ports put; box = box.0; count = box.1; ended = ended }

  -- a call that was put without a wait leaves them too
  pub KeepsDesk-sent : (before after : DeskView S) (subject : ℕ) (call : Call S) → Puts (λ place. to_port subject place call) before.ports after.ports → after.inbox ≡ before.inbox → after.ended ≡ before.ended
      → KeepsDesk before after
  KeepsDesk-sent before after subject call put inbox ended =
      record { ports = AreSame-puts _ before.ports after.ports put; box = ap (λ (i : Incoming (Reply S)). i.box) inbox; count = ap (λ (i : Incoming (Reply S)). i.ports) inbox; ended = ended }
