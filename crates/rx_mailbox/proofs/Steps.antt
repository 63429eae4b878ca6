-- Each step of a box keeps its rule.
use Rattle.std.proofs.Common.{◌≡◌, ◌≢◌, ◌+◌, ◌<◌, ◌≤◌, ℕ, Bool, false, Option, Some, None, List, [], ◌∷◌, ◌++◌, length, set, refl, sym, ap, ◌∙◌, subst, append_assoc, ⊎_elim, arith}
use Rattle.std.proofs.lemmas.Bool.{cases_Bool, cases_eq, cases_lt}
use Rattle.std.proofs.lemmas.List.Elements.{All-nil, All-push, All-weaker}
use Rattle.std.specs.List.{All}
use mathlib.Core.Option.{some}
use lib.ListN.{get_elem?}
use Rattle.atomic_table.proofs.Lists.{at_set}
use Rattle.crossbeam_channel.specs.Fifo.{Pushes, Pops, Forks, Merges, Learns}
use Rattle.rx_mailbox.specs.declared.letter.Letter.{Letter}
use Rattle.rx_mailbox.specs.declared.channel.rule.View.{View}
use Rattle.rx_mailbox.specs.declared.channel.rule.View.TheVariants.{Sends, Receives, Spent}
use Rattle.rx_mailbox.specs.Letters.{share, has_bye, NothingAfterBye}
use Rattle.rx_mailbox.specs.Rule.{KeepsShares}
use Rattle.rx_mailbox.specs.Steps.{one_more, new_port, PutsLetter, TakesLetter, noted, Shows}
use Rattle.rx_mailbox.specs.Passes.{own_of, made_of, taken_of, notes_of, IsPort, IsReader}
use Rattle.rx_mailbox.proofs.Letters.{end_is_nil, share-own, share-other, share-middle, NothingAfterBye-push, nothing_after}
use Rattle.rx_mailbox.proofs.Passes.{put, put-here, put-else, Each, Each-set, Each-push}

-- a port that has no pass still has none
still_none : (seat : ℕ → Option ℕ) (port q : ℕ) → seat q ≡ None → put port None seat q ≡ None
still_none seat port q none = ⊎_elim (λ same. put-here port q None seat same) (λ apart. put-else port q None seat apart ∙ none) (cases_eq q port)

-- THE RULE BY PASSES
-- `all` are the letters that were ever put, in order, and `seat` gives the unspent pass of each port

module _ {B : Type 0} (all : List (Letter B)) (seat : ℕ → Option ℕ) where
  -- a port that was not made has no pass and put nothing
  abbrev IsUnmade : ℕ → Type 0
  IsUnmade port = (seat port ≡ None) × (share port all ≡ [])

  -- a joined port has no pass any more, and put the letters that its note has
  abbrev FitsNote : ℕ → ℕ × List (Letter B) → Type 0
  FitsNote made note = (seat note.0 ≡ None) × (share note.0 all ≡ note.1) × (note.0 < made)

  -- what a pass knows is so, where `reader` is the inbox's pass and `received` what it took
  abbrev Fits : ℕ → List (Letter B) → ℕ → View B → Type 0
  Fits reader received pass (Sends port own) = (seat port ≡ Some pass) × (share port all ≡ own)
  Fits reader received pass (Receives made taken notes) =
      (pass ≡ reader) × (taken ≡ received) × ((port : ℕ) → made ≤ port → IsUnmade port) × All (FitsNote made) notes
  Fits reader received pass Spent = Unit {0}

  -- no port goes on after its Bye, and what each pass knows is so
  record Keeps (reader : ℕ) (received : List (Letter B)) (views : List (View B)) : Type 0 where
    pub ended : (port : ℕ) → NothingAfterBye (share port all)
    pub known : (pass : ℕ) (v : View B) → get_elem? views pass ≡ some v → Fits reader received pass v

module _ {B : Type 0} where
  -- the rule, told pass by pass
  abbrev ByPasses : List (Letter B) → List (View B) → Type 0
  ByPasses queue views = (seat : ℕ → Option ℕ) × (reader : ℕ) × (received : List (Letter B)) × Keeps (received ++ queue) seat reader received views

  fits_by : (queue : List (Letter B)) (views : List (View B)) (h : KeepsShares queue views) (pass : ℕ) (v : View B) → get_elem? views pass ≡ some v
      → Fits (h.received ++ queue) h.seat h.reader h.received pass v
  fits_by queue views h pass (Sends port own) at = h.sends pass port own at
  fits_by queue views h pass (Receives made taken notes) at =
      let is = h.receives pass made taken notes at in (is.0, is.1, h.unmade pass made taken notes at, h.noted pass made taken notes at)
  fits_by queue views h pass Spent at = tt

  by_passes : (queue : List (Letter B)) (views : List (View B)) → KeepsShares queue views → ByPasses queue views
  by_passes queue views h = (h.seat, h.reader, h.received, record { ended = h.one_bye; known = fits_by queue views h })

  from_passes : (queue : List (Letter B)) (views : List (View B)) → ByPasses queue views → KeepsShares queue views
  from_passes queue views k = record {
    reader = k.1;
    received = k.2;
    seat = k.0;
    sends = λ pass port own at. k.3.known pass (Sends port own) at;
    receives = λ pass made taken notes at. (let is = k.3.known pass (Receives made taken notes) at in (is.0, is.1));
    unmade = λ pass made taken notes at. (let is = k.3.known pass (Receives made taken notes) at in is.2);
    noted = λ pass made taken notes at. (let is = k.3.known pass (Receives made taken notes) at in is.3);
    one_bye = k.3.ended;
  }

module _ {B : Type 0} where
  -- the pass of a port, which is not the inbox's, still fits where its port's seat and share stay
  port_fits : (all later : List (Letter B)) (seat after : ℕ → Option ℕ) (reader next : ℕ) (received taken : List (Letter B)) (j : ℕ) (u : View B)
      → ((q : ℕ) → seat q ≡ Some j → (after q ≡ Some j) × (share q later ≡ share q all))
      → j ≢ reader → Fits all seat reader received j u → Fits later after next taken j u
  port_fits all later seat after reader next received taken j (Sends port own) stays apart h = let s = stays port h.0 in (s.0, s.1 ∙ h.1)
  port_fits all later seat after reader next received taken j (Receives made got notes) stays apart h = absurd (apart h.0)
  port_fits all later seat after reader next received taken j Spent stays apart h = tt

  -- another pass still fits where a port whose pass it is not put a letter
  others_fit : (all later : List (Letter B)) (seat : ℕ → Option ℕ) (reader : ℕ) (received : List (Letter B)) (port pass j : ℕ) (u : View B)
      → ((q : ℕ) → q ≢ port → share q later ≡ share q all)
      → seat port ≡ Some pass → j ≢ pass → Fits all seat reader received j u → Fits later seat reader received j u
  others_fit all later seat reader received port pass j (Sends q own) stays at apart h =
      (h.0, stays q (λ same. apart (let e : Some j ≡ Some pass = sym h.0 ∙ ap seat same ∙ at in cc)) ∙ h.1)
  others_fit all later seat reader received port pass j (Receives made got notes) stays at apart h =
      let other : (q : ℕ) → seat q ≡ None → q ≢ port = λ q none same. let e : None ≡ Some pass = sym none ∙ ap seat same ∙ at in cc in (
        h.0,
        h.1,
        (λ q unmade. let n = h.2 q unmade in (n.0, stays q (other q n.0) ∙ n.1)),
        All-weaker (FitsNote all seat made) (FitsNote later seat made) (λ note t. (t.0, stays note.0 (other note.0 t.0) ∙ t.1, t.2)) notes h.3,
      )
  others_fit all later seat reader received port pass j Spent stays at apart h = tt

  -- an empty box, and the inbox's pass
  pub begins : KeepsShares {B = B} [] (Receives 0 [] [] ∷ [])
  begins = from_passes [] (Receives 0 [] [] ∷ []) (
    (λ _. None),
    0,
    [],
    record {
      ended = λ port. tt;
      known = Each-push (Fits [] (λ _. None) 0 []) [] (Receives 0 [] []) (refl, refl, (λ port _. (refl, refl)), All-nil _) (λ pass v none. cc);
    },
  )

  -- a letter is put by a port that has not ended
  pub puts : (n pass port : ℕ) (own : List (Letter B)) (x : Letter B) → x.from ≡ port → has_bye own ≡ false → Pushes KeepsShares n pass (Sends port own) x (PutsLetter (Sends port own) x)
  puts n pass port own x from open_yet queue views room rule at =
      let h = by_passes queue views rule in
      let all = h.2 ++ queue in
      let mine = h.3.known pass (Sends port own) at in
      let after : View B = Sends port (own ++ x ∷ []) in
      let grown : Keeps (all ++ x ∷ []) h.0 h.1 h.2 (set views pass after) = record {
        ended = λ q. ⊎_elim
            (λ (same : x.from ≡ q). subst NothingAfterBye (sym (share-own q x all same))
            (NothingAfterBye-push (share q all) x (ap has_bye (ap (λ k. share k all) (sym same ∙ from) ∙ mine.1) ∙ open_yet) (h.3.ended q)))
            (λ apart. subst NothingAfterBye (sym (share-other q x all apart)) (h.3.ended q))
            (cases_eq x.from q);
        known = Each-set (Fits (all ++ x ∷ []) h.0 h.1 h.2) views pass after
            (mine.0, share-own port x all from ∙ ap (λ l. l ++ x ∷ []) mine.1)
            (λ j u apart e. others_fit all (all ++ x ∷ []) h.0 h.1 h.2 port pass j u (λ q other. share-other q x all (λ same. other (sym same ∙ from))) mine.0 apart (h.3.known j u e));
      } in
      (after, from_passes (queue ++ x ∷ []) (set views pass after) (h.0, h.1, h.2, subst (λ l. Keeps l h.0 h.1 h.2 (set views pass after)) (append_assoc h.2 queue (x ∷ [])) grown), refl)

  -- a letter of the queue comes from a port that was made
  made_one : (all : List (Letter B)) (seat : ℕ → Option ℕ) (made : ℕ) (x : Letter B) (before after : List (Letter B)) → all ≡ before ++ x ∷ after → ((port : ℕ) → made ≤ port → IsUnmade all seat port) → x.from < made
  made_one all seat made x before after is unmade = ⊎_elim
      (λ below. below)
      (λ above. let none : x ∷ share x.from after ≡ [] = end_is_nil (share x.from before) (x ∷ share x.from after) (sym (share-middle x before after) ∙ ap (share x.from) (sym is) ∙ (unmade x.from above).1) in cc)
      (cases_lt x.from made)

  -- a letter of the queue comes from a port whose Bye was not received
  open_one : (x : Letter B) (before after : List (Letter B)) → NothingAfterBye (share x.from (before ++ x ∷ after)) → has_bye (share x.from before) ≡ false
  open_one x before after ended = ⊎_elim
      (λ bye. let none : x ∷ share x.from after ≡ [] = nothing_after (share x.from before) (x ∷ share x.from after) (subst NothingAfterBye (share-middle x before after) ended) bye in cc)
      (λ open_yet. open_yet)
      (cases_Bool (has_bye (share x.from before)))

  -- the inbox takes the front letter
  pub takes : (pass made : ℕ) (taken : List (Letter B)) (notes : List (ℕ × List (Letter B))) → Pops KeepsShares pass (Receives made taken notes) (TakesLetter (Receives made taken notes))
  takes pass made taken notes x queue views rule at =
      let h = by_passes (x ∷ queue) views rule in
      let mine = h.3.known pass (Receives made taken notes) at in
      let after : View B = Receives made (taken ++ x ∷ []) notes in
      let all = h.2 ++ x ∷ queue in
      let received = h.2 ++ x ∷ [] in
      let kept : Keeps all h.0 pass received (set views pass after) = record {
        ended = h.3.ended;
        known = Each-set (Fits all h.0 pass received) views pass after
            (refl, ap (λ l. l ++ x ∷ []) mine.1, mine.2, mine.3)
            (λ j u apart e. port_fits all all h.0 h.0 h.1 pass h.2 received j u (λ q s. (s, refl)) (λ is. apart (is ∙ sym mine.0)) (h.3.known j u e));
      } in (
        after,
        from_passes queue (set views pass after) (h.0, pass, received, subst (λ l. Keeps l h.0 pass received (set views pass after)) (sym (append_assoc h.2 (x ∷ []) queue)) kept),
        (
          refl,
          made_one all h.0 made x h.2 queue refl mine.2,
          ap (λ l. has_bye (share x.from l)) mine.1 ∙ open_one x h.2 queue (h.3.ended x.from),
        ),
      )

  -- a port is made
  pub forks : (pass made : ℕ) (taken : List (Letter B)) (notes : List (ℕ × List (Letter B))) → Forks KeepsShares pass (Receives made taken notes) (Receives (made + 1) taken notes) (Sends made [])
  forks pass made taken notes queue views rule at =
      let h = by_passes queue views rule in
      let mine = h.3.known pass (Receives made taken notes) at in
      let left : View B = Receives (made + 1) taken notes in
      let all = h.2 ++ queue in
      let views_left = set views pass left in
      let seat = put made (Some (length views_left)) h.0 in
      let here = mine.2 made (omega arith) in
      let elsewhere : (q : ℕ) → q ≢ made → seat q ≡ h.0 q = λ q other. put-else made q (Some (length views_left)) h.0 other in
      from_passes queue (views_left ++ Sends made [] ∷ []) (
        seat,
        h.1,
        h.2,
        record {
          ended = h.3.ended;
          known = Each-push (Fits all seat h.1 h.2) views_left (Sends made []) (put-here made made (Some (length views_left)) h.0 refl, here.1)
              (Each-set (Fits all seat h.1 h.2) views pass left (
                mine.0,
                mine.1,
                (λ q above. let n = mine.2 q (omega arith) in (elsewhere q (λ same. absurd (omega arith)) ∙ n.0, n.1)),
                All-weaker (FitsNote all h.0 made) (FitsNote all seat (made + 1))
                    (λ note t. (elsewhere note.0 (λ same. let below : note.0 < made = t.2 in absurd (omega arith)) ∙ t.0, t.1, (let below : note.0 < made = t.2 in omega arith))) notes mine.3,
              )
              (λ j u apart e. port_fits all all h.0 seat h.1 h.1 h.2 h.2 j u
              (λ q s. (elsewhere q (λ same. let none : Some j ≡ None = sym s ∙ ap h.0 same ∙ here.0 in cc) ∙ s, refl))
              (λ is. apart (is ∙ sym mine.0)) (h.3.known j u e)));
        },
      )

  -- an ended port is joined
  pub merges : (pass made : ℕ) (taken : List (Letter B)) (notes : List (ℕ × List (Letter B))) (other port : ℕ) (own : List (Letter B))
      → Merges KeepsShares pass (Receives made taken notes) other (Sends port own) (Receives made taken (notes ++ (port, own) ∷ [])) Spent
  merges pass made taken notes other port own queue views rule at apart at_other =
      let h = by_passes queue views rule in
      let mine = h.3.known pass (Receives made taken notes) at in
      let both : View B = Receives made taken (notes ++ (port, own) ∷ []) in
      let all = h.2 ++ queue in
      let views_both = set views pass both in
      let was : get_elem? views other ≡ some (Sends port own) = ⊎_elim (λ t. absurd (apart t.0)) (λ t. t.1) (at_set views pass other both (Sends port own) at_other) in
      let theirs = h.3.known other (Sends port own) was in
      let seat = put port None h.0 in
      let below : port < made = ⊎_elim (λ l. l) (λ above. let none : None ≡ Some other = sym (mine.2 port above).0 ∙ theirs.0 in cc) (cases_lt port made) in
      let joined : Each (λ j u. j ≢ other → Fits all seat h.1 h.2 j u) views_both = Each-set _ views pass both
      (λ _. (
        mine.0,
        mine.1,
        (λ q above. let n = mine.2 q above in (still_none h.0 port q n.0, n.1)),
        All-push (FitsNote all seat made) notes (port, own)
            (All-weaker (FitsNote all h.0 made) (FitsNote all seat made) (λ note t. (still_none h.0 port note.0 t.0, t.1, t.2)) notes mine.3)
            (put-here port port None h.0 refl, theirs.1, below),
      ))
      (λ j u not_mine e not_theirs. port_fits all all h.0 seat h.1 h.1 h.2 h.2 j u
      (λ q s. (put-else port q None h.0 (λ same. not_theirs (let e2 : Some j ≡ Some other = sym s ∙ ap h.0 same ∙ theirs.0 in cc)) ∙ s, refl))
      (λ is. not_mine (is ∙ sym mine.0)) (h.3.known j u e)) in
      from_passes queue (set views_both other Spent) (
        seat,
        h.1,
        h.2,
        record { ended = h.3.ended; known = Each-set (Fits all seat h.1 h.2) views_both other Spent tt (λ j u not_theirs e. joined j u e not_theirs) },
      )

  -- the rule is read by the inbox's pass
  pub shows : (pass made : ℕ) (taken : List (Letter B)) (notes : List (ℕ × List (Letter B))) → Learns KeepsShares pass (Receives made taken notes) (Shows (Receives made taken notes))
  shows pass made taken notes queue views rule at =
      let h = by_passes queue views rule in
      let mine = h.3.known pass (Receives made taken notes) at in
      let all = h.2 ++ queue in
      subst (λ l. Shows (Receives made l notes) queue) (sym mine.1) (
        h.3.ended,
        All-weaker (FitsNote all h.0 made) (λ note. share note.0 all ≡ note.1) (λ note t. t.1) notes mine.3,
        λ port above. (mine.2 port above).1,
      )

  -- a port that has not ended may put a letter of its own
  pub may_put : (n pass port : ℕ) (v : View B) (x : Letter B) → IsPort port false v → x.from ≡ port → Pushes KeepsShares n pass v x (PutsLetter v x)
  may_put n pass port v x is from = subst (λ u. Pushes KeepsShares n pass u x (PutsLetter u x)) (sym is.view_is) (puts n pass port (own_of v) x from is.bye)

  -- the inbox may take the front letter
  pub may_take : (pass : ℕ) (v : View B) → IsReader v → Pops KeepsShares pass v (TakesLetter v)
  may_take pass v is = subst (λ u. Pops KeepsShares pass u (TakesLetter u)) (sym is.view_is) (takes pass (made_of v) (taken_of v) (notes_of v))

  -- the inbox may make a port
  pub may_split : (pass : ℕ) (v : View B) → IsReader v → Forks KeepsShares pass v (one_more v) (new_port v)
  may_split pass v is = subst (λ u. Forks KeepsShares pass u (one_more u) (new_port u)) (sym is.view_is) (forks pass (made_of v) (taken_of v) (notes_of v))

  -- the inbox may join a port
  pub may_join : (pass : ℕ) (v : View B) (other port : ℕ) (ended : Bool) (w : View B) → IsReader v → IsPort port ended w → Merges KeepsShares pass v other w (noted v w) Spent
  may_join pass v other port ended w is ends = subst (λ u. Merges KeepsShares pass u other w (noted u w) Spent) (sym is.view_is)
      (subst (λ u. Merges KeepsShares pass (Receives (made_of v) (taken_of v) (notes_of v)) other u (noted (Receives (made_of v) (taken_of v) (notes_of v)) u) Spent) (sym ends.view_is)
      (merges pass (made_of v) (taken_of v) (notes_of v) other port (own_of w)))

  -- the inbox may read the rule
  pub may_show : (pass : ℕ) (v : View B) → IsReader v → Learns KeepsShares pass v (Shows v)
  may_show pass v is = subst (λ u. Learns KeepsShares pass u (Shows u)) (sym is.view_is) (shows pass (made_of v) (taken_of v) (notes_of v))

  -- a view that is written out as the inbox's is the inbox's
  pub is_reader : (v : View B) (made : ℕ) (taken : List (Letter B)) (notes : List (ℕ × List (Letter B))) → v ≡ Receives made taken notes → IsReader v
  is_reader v made taken notes is = subst (λ (u : View B). IsReader u) (sym is) (record { view_is = refl })
