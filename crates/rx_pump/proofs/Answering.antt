-- The reply with the ticket of a call is the reply to that call.
use Rattle.std.proofs.Common.{◌≡◌, ◌∙◌, sym, refl, ap, subst, ℕ, ◌+◌, ◌<◌, ◌==◌, ◌⊎◌, List, [], ◌∷◌, ◌++◌, append-nil, length, length-append, map, get_or, Option, None, Some, Ok, false, slice_get, inl, inr, arith}
use Rattle.std.specs.List.{All, Contains}
use Rattle.std.specs.Option.{option_map}
use Rattle.std.proofs.Math.Seq.{get_or-append_seam}
use Rattle.std.proofs.lemmas.Bool.Decides.{eqb_tells}
use Rattle.std.proofs.lemmas.List.{get_or-map, get_or_append_left, length-map}
use Rattle.std.proofs.lemmas.List.Elements.{All-cons, All-contains, All-nil, All-tail, Contains-append_left, Contains-push, Contains-push_cases, filter-append}
use Rattle.std.proofs.lemmas.List.Quantifiers.{all_pairs_push}
use Rattle.rx_note.specs.declared.event.Event.{Event}
use Rattle.rx_note.specs.declared.rules.Rules.{Rules}
use Rattle.rx_mailbox.specs.declared.letter.Letter.{Letter}
use Rattle.rx_mailbox.specs.declared.letter.Post.{Post}
use Rattle.rx_mailbox.specs.declared.letter.Post.TheVariants.{Body, Bye}
use Rattle.rx_mailbox.specs.Letters.{letter, share, posts}
use Rattle.rx_mailbox.specs.Boxes.{Outgoing, Incoming, with_letter, with_more}
use Rattle.rx_pump.specs.declared.call.Call.{Call}
use Rattle.rx_pump.specs.declared.reply.Reply.{Reply}
use Rattle.rx_pump.specs.Marks.{Marked, NoLetters, Made, Refused, Ended, letters_of, history_of, replies, reply_made, reply_refused, to_port}
use Rattle.rx_pump.specs.Desks.{DeskView, Awaits, Called, IsPosted, next_call, ticket_in, tickets_in, Rise}
use Rattle.rx_pump.specs.Replying.{IsReplyTo, Meets, PutsMore}
use Rattle.rx_pump.proofs.Pumping.{option_map_some}
use Rattle.rx_pump.proofs.Replied.{tickets_in-append, each_call_is_replied}

-- RISING NUMBERS

-- one more, above all before it
pub Rise-push : (ns : List ℕ) (n : ℕ) → Rise ns → All (λ m. m < n) ns → Rise (ns ++ n ∷ [])
Rise-push ns n rise below = all_pairs_push (λ a b. a < b) ns n rise (λ k d within. below k d within)

-- those before the last
Rise-before : (ns : List ℕ) (n : ℕ) → Rise (ns ++ n ∷ []) → Rise ns
Rise-before ns n rise i j d before within =
    let count = length-append ns (n ∷ []) in
    let first = get_or_append_left ns (n ∷ []) d i (omega (arith, before, within)) in
    let second = get_or_append_left ns (n ∷ []) d j within in
    let rises = rise i j d before (omega (arith, within, count)) in
    omega (arith, first, second, rises)

-- they are below it
Rise-below : (ns : List ℕ) (n : ℕ) → Rise (ns ++ n ∷ []) → All (λ m. m < n) ns
Rise-below ns n rise i d within =
    let count = length-append ns (n ∷ []) in
    let first = get_or_append_left ns (n ∷ []) d i within in
    let last = get_or-append_seam ns n [] d in
    let rises = rise i (length ns) d within (omega (arith, count)) in
    omega (arith, first, last, rises)

-- SHARES

module _ {X : Type 0} where
  own_letter : (p port : ℕ) (post : Post X) → port ≡ p → share p (letter port post ∷ []) ≡ letter p post ∷ []
  own_letter p port post same = elim (eqb_tells port p) [
    | inl (test, is) ↦ rw test (ap (λ from. letter from post ∷ []) same)
    | inr (test, other) ↦ absurd (other same)
  ]

  no_letter : (p port : ℕ) (post : Post X) → ¬ (port ≡ p) → share p (letter port post ∷ []) ≡ []
  no_letter p port post apart = elim (eqb_tells port p) [
    | inl (test, is) ↦ absurd (apart is)
    | inr (test, other) ↦ rw test refl
  ]

  -- the share of a port with a letter more of its own
  share-own : (p port : ℕ) (post : Post X) (letters : List (Letter X)) → port ≡ p → share p (letters ++ letter port post ∷ []) ≡ share p letters ++ letter p post ∷ []
  share-own p port post letters same =
      filter-append (λ (y : Letter X). y.from == p) letters (letter port post ∷ []) ∙ ap (λ l. share p letters ++ l) (own_letter p port post same)

  -- and with a letter more of another
  share-other : (p port : ℕ) (post : Post X) (letters : List (Letter X)) → ¬ (port ≡ p) → share p (letters ++ letter port post ∷ []) ≡ share p letters
  share-other p port post letters apart =
      filter-append (λ (y : Letter X). y.from == p) letters (letter port post ∷ []) ∙ ap (λ l. share p letters ++ l) (no_letter p port post apart) ∙ append-nil (share p letters)

  own_port : (p port : ℕ) (x : X) → port ≡ p → to_port port p x ≡ x ∷ []
  own_port p port x same = elim (eqb_tells port p) [ inl (test, is) ↦ rw test refl | inr (test, other) ↦ absurd (other same) ]

  other_port : (p port : ℕ) (x : X) → ¬ (port ≡ p) → to_port port p x ≡ []
  other_port p port x apart = elim (eqb_tells port p) [ inl (test, is) ↦ absurd (apart is) | inr (test, other) ↦ rw test refl ]

  same_body : (p : ℕ) (x y : X) → letter p (Body x) ≡ letter p (Body y) → x ≡ y
  same_body p x y same = (let posts : Body x ≡ Body y = ap (λ (l : Letter X). l.post) same in cc)

  not_bye : (p : ℕ) (x : X) → letter p Bye ≡ letter p (Body x) → ⊥
  not_bye p x same = (let posts : Bye ≡ Body x = ap (λ (l : Letter X). l.post) same in cc)

  -- a body among the bodies that were put
  body_of : (port : ℕ) (bodies : List X) (body : X) → Contains (posts port bodies) (letter port (Body body)) → Contains bodies body
  body_of port bodies body (i, within, is) =
      let count = length-map bodies (λ x. letter port (Body x)) in
      let inside : i < length bodies = omega (arith, count, within) in
      let read = get_or-map (λ x. letter port (Body x)) bodies i body (letter port (Body body)) inside in
      (i, inside, same_body port (get_or bodies i body) body (sym read ∙ is))

module _ {S : Type 0} where
  -- TICKETS BELOW ONE

  -- a post has a ticket below this one, if it has one
  abbrev IsBelow : ℕ → Post (Call S) → Type 0
  IsBelow ticket (Body call) = call.ticket < ticket
  IsBelow ticket Bye = Unit {0}

  below_first : (ticket : ℕ) (post : Post (Call S)) (more : List ℕ) → All (λ m. m < ticket) (ticket_in post ++ more) → IsBelow ticket post × All (λ m. m < ticket) more
  below_first ticket (Body call) more below = (below 0 call.ticket (omega arith), All-tail (λ m. m < ticket) call.ticket more below)
  below_first ticket Bye more below = (tt, below)

  -- so of letters
  below_each : (ticket : ℕ) (letters : List (Letter (Call S))) → All (λ m. m < ticket) (tickets_in letters) → All (λ x. IsBelow ticket x.post) letters
  below_each ticket [] below = All-nil (λ (x : Letter (Call S)). IsBelow ticket x.post)
  below_each ticket (x ∷ xs) below =
      let parts = below_first ticket x.post (tickets_in xs) below in
      All-cons (λ (y : Letter (Call S)). IsBelow ticket y.post) x xs parts.0 (below_each ticket xs parts.1)

  -- and of replies
  below_replies : (ticket : ℕ) (given : List (Reply S)) → All (λ m. m < ticket) (map (λ r. r.ticket) given) → All (λ r. r.ticket < ticket) given
  below_replies ticket [] below = All-nil (λ (r : Reply S). r.ticket < ticket)
  below_replies ticket (r ∷ rs) below =
      All-cons (λ (q : Reply S). q.ticket < ticket) r rs (below 0 r.ticket (omega arith)) (below_replies ticket rs (All-tail (λ m. m < ticket) r.ticket (map (λ q. q.ticket) rs) below))

  -- ONE CALL MORE

  -- what the letters before the last say
  abbrev Before : ℕ → List (Letter (Call S)) → List (Reply S) → Call S → Reply S → Type 0 → Type 0
  Before p letters earlier call reply So = Rise (tickets_in (share p letters)) → Contains (share p letters) (letter p (Body call)) → Contains earlier reply → So

  -- a call more of the same port: it is the call and its reply the reply, or both come before
  of_port : (p : ℕ) (made call : Call S) (given reply : Reply S) (letters : List (Letter (Call S))) (earlier : List (Reply S)) (So : Type 0)
      → given.ticket ≡ made.ticket → map (λ r. r.ticket) earlier ≡ tickets_in (share p letters)
      → Rise (tickets_in (share p letters) ++ made.ticket ∷ [])
      → Contains (share p letters ++ letter p (Body made) ∷ []) (letter p (Body call)) → Contains (earlier ++ given ∷ []) reply → reply.ticket ≡ call.ticket
      → Before p letters earlier call reply So → ((made ≡ call) × (reply ≡ given)) ⊎ So
  of_port p made call given reply letters earlier So ticket so_far rise stands replied same before =
      let tickets = tickets_in (share p letters) in
      let below = Rise-below tickets made.ticket rise in
      let old_call : Contains (share p letters) (letter p (Body call)) → call.ticket < made.ticket = λ old.
      All-contains (λ (x : Letter (Call S)). IsBelow made.ticket x.post) (share p letters) (letter p (Body call)) (below_each made.ticket (share p letters) below) old in
      let old_reply : Contains earlier reply → reply.ticket < made.ticket = λ old.
      All-contains (λ (r : Reply S). r.ticket < made.ticket) earlier reply
      (below_replies made.ticket earlier (subst (λ (l : List ℕ). All (λ m. m < made.ticket) l) (sym so_far) below)) old in
      elim (Contains-push_cases (share p letters) (letter p (Body made)) (letter p (Body call)) stands) as (λ _. ((made ≡ call) × (reply ≡ given)) ⊎ So) [
        | inl old ↦ elim (Contains-push_cases earlier given reply replied) as (λ _. ((made ≡ call) × (reply ≡ given)) ⊎ So) [
          | inl older ↦ inr (before (Rise-before tickets made.ticket rise) old older)
          | inr new ↦
              let less = old_call old in
              let its : given.ticket ≡ reply.ticket = ap (λ (r : Reply S). r.ticket) new in
              absurd (omega (arith, less, its, ticket, same))
        ]
        | inr last ↦
            let is : made ≡ call = same_body p made call last in
            elim (Contains-push_cases earlier given reply replied) as (λ _. ((made ≡ call) × (reply ≡ given)) ⊎ So) [
              | inl older ↦
                  let less = old_reply older in
                  let its : made.ticket ≡ call.ticket = ap (λ (c : Call S). c.ticket) is in
                  absurd (omega (arith, less, its, same))
              | inr new ↦ inl (is, sym new)
            ]
      ]

  -- a call more of any port
  one_more : (p port : ℕ) (made call : Call S) (given reply : Reply S) (letters : List (Letter (Call S))) (earlier : List (Reply S)) (So : Type 0)
      → given.ticket ≡ made.ticket → map (λ r. r.ticket) earlier ≡ tickets_in (share p letters)
      → Rise (tickets_in (share p (letters ++ letter port (Body made) ∷ [])))
      → Contains (share p (letters ++ letter port (Body made) ∷ [])) (letter p (Body call)) → Contains (earlier ++ to_port port p given) reply → reply.ticket ≡ call.ticket
      → Before p letters earlier call reply So → ((port ≡ p) × (made ≡ call) × (reply ≡ given)) ⊎ So
  one_more p port made call given reply letters earlier So ticket so_far rise stands replied same before = elim (eqb_tells port p) as (λ _. ((port ≡ p) × (made ≡ call) × (reply ≡ given)) ⊎ So) [
    | inl (test, is) ↦
        let shares = share-own p port (Body made) letters is in
        let tickets : tickets_in (share p (letters ++ letter port (Body made) ∷ [])) ≡ tickets_in (share p letters) ++ made.ticket ∷ [] =
        ap tickets_in shares ∙ tickets_in-append (share p letters) (letter p (Body made) ∷ []) in
        elim (of_port p made call given reply letters earlier So ticket so_far (subst Rise tickets rise)
        (subst (λ (l : List (Letter (Call S))). Contains l (letter p (Body call))) shares stands)
        (subst (λ (l : List (Reply S)). Contains (earlier ++ l) reply) (own_port p port given is) replied) same before) as (λ _. ((port ≡ p) × (made ≡ call) × (reply ≡ given)) ⊎ So) [
          | inl both ↦ inl (is, both.0, both.1)
          | inr so ↦ inr so
        ]
    | inr (test, other) ↦
        let shares = share-other p port (Body made) letters other in
        inr (before (subst (λ (l : List (Letter (Call S))). Rise (tickets_in l)) shares rise)
        (subst (λ (l : List (Letter (Call S))). Contains l (letter p (Body call))) shares stands)
        (subst (λ (l : List (Reply S)). Contains l reply) (ap (λ l. earlier ++ l) (other_port p port given other) ∙ append-nil earlier) replied))
  ]

  -- a Bye more of a port
  bye_more : (p port : ℕ) (call : Call S) (letters : List (Letter (Call S))) → Contains (share p (letters ++ letter port Bye ∷ [])) (letter p (Body call)) → Contains (share p letters) (letter p (Body call))
  bye_more p port call letters stands = elim (eqb_tells port p) as (λ _. Contains (share p letters) (letter p (Body call))) [
    | inl (test, is) ↦
        elim (Contains-push_cases (share p letters) (letter p Bye) (letter p (Body call)) (subst (λ (l : List (Letter (Call S))). Contains l (letter p (Body call))) (share-own p port Bye letters is) stands))
        as (λ _. Contains (share p letters) (letter p (Body call))) [ inl old ↦ old | inr last ↦ absurd (not_bye p call last) ]
    | inr (test, other) ↦ subst (λ (l : List (Letter (Call S))). Contains l (letter p (Body call))) (share-other p port Bye letters other) stands
  ]

  bye_tickets : (p port : ℕ) (letters : List (Letter (Call S))) → tickets_in (share p (letters ++ letter port Bye ∷ [])) ≡ tickets_in (share p letters)
  bye_tickets p port letters = elim (eqb_tells port p) [
    | inl (test, is) ↦ ap tickets_in (share-own p port Bye letters is) ∙ tickets_in-append (share p letters) (letter p Bye ∷ []) ∙ append-nil (tickets_in (share p letters))
    | inr (test, other) ↦ ap tickets_in (share-other p port Bye letters other)
  ]

  -- where the tickets of a port's calls rise, the reply that has the ticket of a call is the reply to just that call
  pub each_reply_is_to_its_call : (rules : Rules) (p : ℕ) (B : Marked S) (call : Call S) (reply : Reply S) → Rise (tickets_in (share p (letters_of B)))
      → Contains (share p (letters_of B)) (letter p (Body call)) → Contains (replies rules p B) reply → reply.ticket ≡ call.ticket → IsReplyTo rules p B call reply
  each_reply_is_to_its_call rules p NoLetters call reply rise stands replied same = absurd (let within = stands.1 in omega (arith, within))
  each_reply_is_to_its_call rules p (Made B port made) call reply rise stands replied same =
      one_more p port made call (reply_made rules (history_of B) port made) reply (letters_of B) (replies rules p B) _ refl (each_call_is_replied rules p B) rise stands replied same
      (λ rise_before stood had. each_reply_is_to_its_call rules p B call reply rise_before stood had same)
  each_reply_is_to_its_call rules p (Refused B port made) call reply rise stands replied same =
      one_more p port made call (reply_refused rules (history_of B) made) reply (letters_of B) (replies rules p B) _ refl (each_call_is_replied rules p B) rise stands replied same
      (λ rise_before stood had. each_reply_is_to_its_call rules p B call reply rise_before stood had same)
  each_reply_is_to_its_call rules p (Ended B port) call reply rise stands replied same =
      each_reply_is_to_its_call rules p B call reply (subst Rise (bye_tickets p port (letters_of B)) rise) (bye_more p port call (letters_of B) stands) replied same

  -- A DESK'S CALL

  -- the call stands among what its port put
  call_put : (before after : DeskView S) (subject : ℕ) (call : Call S) (port : Outgoing (Call S))
      → slice_get after.ports subject ≡ option_map (with_more (to_port subject subject call)) (slice_get before.ports subject) → slice_get after.ports subject ≡ Some port
      → Contains port.own (letter port.number (Body call))
  call_put before after subject call port put at =
      let old = option_map_some (with_more (to_port subject subject call)) (slice_get before.ports subject) port (sym put ∙ at) in
      let number : old.0.number ≡ port.number = ap (λ (p : Outgoing (Call S)). p.number) old.2 in
      let own : old.0.own ++ letter port.number (Body call) ∷ [] ≡ port.own =
      ap (λ n. old.0.own ++ letter n (Body call) ∷ []) (sym number)
      ∙ ap (λ calls. old.0.own ++ posts old.0.number calls) (sym (own_port subject subject call refl))
      ∙ ap (λ (p : Outgoing (Call S)). p.own) old.2 in
      subst (λ (l : List (Letter (Call S))). Contains l (letter port.number (Body call))) own (Contains-push old.0.own (letter port.number (Body call)))

  -- the reply stands among what the pump replied
  reply_came : (before after : Incoming (Reply S)) (subject : ℕ) (reply : Reply S) (given : List (Reply S)) (more : List (Letter (Reply S)))
      → after ≡ with_letter before (letter subject (Body reply)) → share subject after.received ++ more ≡ posts subject given ++ letter subject Bye ∷ [] → Contains given reply
  reply_came before after subject reply given more took came =
      let received : share subject after.received ≡ share subject before.received ++ letter subject (Body reply) ∷ [] =
      ap (λ (i : Incoming (Reply S)). share subject i.received) took ∙ share-own subject subject (Body reply) before.received refl in
      let has : Contains (share subject after.received) (letter subject (Body reply)) =
      subst (λ (l : List (Letter (Reply S))). Contains l (letter subject (Body reply))) (sym received) (Contains-push (share subject before.received) (letter subject (Body reply))) in
      let all = subst (λ (l : List (Letter (Reply S))). Contains l (letter subject (Body reply))) came (Contains-append_left (share subject after.received) more (letter subject (Body reply)) has) in
      elim (Contains-push_cases (posts subject given) (letter subject Bye) (letter subject (Body reply)) all) as (λ _. Contains given reply) [
        | inl put ↦ body_of subject given reply put
        | inr last ↦ absurd (not_bye subject reply last)
      ]

  -- what a call of a desk was answered is the reply to just that call
  pub each_call_has_its_answer : (rules : Rules) (B : Marked S) (before after : DeskView S) (subject : ℕ) (event : Event) (sink : Option S) (reply : Reply S) (port : Outgoing (Call S))
      → Called before after subject event sink (Ok reply) → Meets rules B subject after port → IsReplyTo rules port.number B (next_call before event sink) reply
  each_call_has_its_answer rules B before after subject event sink reply port called meets =
      let call = next_call before event sink in
      let stands : Contains (share port.number (letters_of B)) (letter port.number (Body call)) =
      subst (λ (l : List (Letter (Call S))). Contains l (letter port.number (Body call))) (sym meets.calls)
      (Contains-append_left port.own meets.later (letter port.number (Body call)) (call_put before after subject call port (called.0.put.at subject) meets.at)) in
      let replied : Contains (replies rules port.number B) reply = reply_came before.inbox after.inbox subject reply (replies rules port.number B) meets.more called.1 meets.came in
      each_reply_is_to_its_call rules port.number B call reply meets.rise stands replied called.2

  -- what a desk is answered to a call that it posted is the reply to just that call
  pub each_post_has_its_answer : (rules : Rules) (B : Marked S) (before posted waiting after : DeskView S) (subject : ℕ) (event : Event) (reply : Reply S) (port : Outgoing (Call S))
      → IsPosted before posted subject event → PutsMore subject posted after → waiting.is_over ≡ false → Awaits waiting after subject (before.tickets + 1) (Ok reply)
      → Meets rules B subject after port → IsReplyTo rules port.number B (next_call before event None) reply
  each_post_has_its_answer rules B before posted waiting after subject event reply port put puts_more goes awaits meets =
      let call = next_call before event None in
      let same : puts_more.port_after ≡ port = let both = sym puts_more.at_after ∙ meets.at in cc in
      let number : puts_more.port.number ≡ port.number = sym puts_more.number ∙ ap (λ (p : Outgoing (Call S)). p.number) same in
      let own : puts_more.port.own ++ puts_more.more ≡ port.own = sym puts_more.own ∙ ap (λ (p : Outgoing (Call S)). p.own) same in
      let first : Contains puts_more.port.own (letter port.number (Body call)) =
      subst (λ (n : ℕ). Contains puts_more.port.own (letter n (Body call))) number
      (call_put before posted subject call puts_more.port (put.sent.put.at subject) puts_more.at) in
      let still : Contains port.own (letter port.number (Body call)) =
      subst (λ (l : List (Letter (Call S))). Contains l (letter port.number (Body call))) own (Contains-append_left puts_more.port.own puts_more.more (letter port.number (Body call)) first) in
      let stands : Contains (share port.number (letters_of B)) (letter port.number (Body call)) =
      subst (λ (l : List (Letter (Call S))). Contains l (letter port.number (Body call))) (sym meets.calls)
      (Contains-append_left port.own meets.later (letter port.number (Body call)) still) in
      let received = (awaits.receives goes).0 in
      let replied : Contains (replies rules port.number B) reply = reply_came waiting.inbox after.inbox subject reply (replies rules port.number B) meets.more received.0 meets.came in
      each_reply_is_to_its_call rules port.number B call reply meets.rise stands replied received.1
