-- What the workers of a crew served, as they end one after another.
use Rattle.std.proofs.Common.{◌≡◌, ◌⊎◌, ◌∙◌, sym, refl, ap, subst, ℕ, suc, ◌+◌, ◌<◌, ◌≤◌, ◌%◌, Bool, true, false, List, [], ◌∷◌, ◌++◌, append_assoc, append-nil, length, map, reverse, slice_get, get_or, drop, Option, None, Some, IfSome, Result, Ok, Err, inl, inr, arith}
use Rattle.std.specs.Option.{option_map}
use Rattle.std.specs.List.{All, AllZip}
use Rattle.std.proofs.lemmas.List.{length-append, length-map, length-reverse, reverse-append, map-append}
use Rattle.std.proofs.lemmas.List.Elements.{All-nil, All-pop}
use Rattle.std.proofs.lemmas.Option.{same_Some}
use Rattle.std.proofs.lemmas.Slice.Zip.{AllZip-long}
use Rattle.rx_config.specs.declared.config.Config.{Config}
use Rattle.rx_mailbox.specs.Boxes.{Box, Incoming, Outgoing, incoming, outgoing, with_more}
use Rattle.rx_mailbox.specs.Letters.{letter, posts}
use Rattle.rx_mailbox.specs.Settling.{GotAll}
use Rattle.rx_mailbox.specs.declared.letter.Letter.{Letter}
use Rattle.rx_mailbox.specs.declared.letter.Post.TheVariants.{Bye}
use Rattle.rx_pump.specs.Desks.{DeskView, KeepsDesk}
use Rattle.rx_mailbox.specs.PortRows.{with_bye}
use Rattle.rx_desk.specs.declared.client_sink.ClientSink.{ClientSink}
use Rattle.rx_workers.specs.Accepting.{dealt_to, Deals, AcceptsAll}
use Rattle.rx_workers.specs.Crews.{AreOut, IsPortOf, NamesLast, worker_desk, first_lost}
use Rattle.rx_workers.specs.Service.{DealsUntil, NotHired, AllHired, EndsEarly, FirstEndsEarly, HasServedJust, HaveServedFrom, HaveServedAll, IsNewOver, Reception, Surroundings, NeverBegan, GoneBefore, EarlyOfAll, EarlyOfFewer, ServesUntil, fault_in, port_to, reception, session_over, with_lost}
use Rattle.rx_desk.specs.SessionDesks.{SessionView, no_queue}
use Rattle.rx_workers.specs.Telling.{IsTold}
use Rattle.rx_workers.specs.Workers.{Peers, HasServed, HasEnded, worker_at_end}
use Rattle.rx_workers.specs.Working.{WorkerView, worker, HasWorked, state, came}
use Rattle.rx_workers.specs.declared.crew.acceptor.AcceptStop.{AcceptStop}
use Rattle.rx_workers.specs.declared.crew.acceptor.AcceptStop.TheVariants.{NoConnection, WorkerGone}
use Rattle.rx_workers.specs.declared.crew.serve_fault.ServeFault.{ServeFault}
use Rattle.rx_workers.specs.declared.crew.serve_fault.ServeFault.TheVariants.{NoDesk, Accept, Thread, Memory}
use Rattle.rx_workers.specs.declared.worker.worker_end.WorkerEnd.{WorkerEnd}
use Rattle.rx_workers.proofs.Received.{IsFrom, bodies, bodies-posts, share-all, works_came}

-- LISTS

-- the first and the rest of lists that are the same
same_head : {X : Type 0} (x y : X) (xs ys : List X) → x ∷ xs ≡ y ∷ ys → x ≡ y
same_head x y xs ys same = ap (λ l. get_or l 0 x) same

same_tail : {X : Type 0} (x y : X) (xs ys : List X) → x ∷ xs ≡ y ∷ ys → xs ≡ ys
same_tail x y xs ys same = ap (drop 1) same

-- the last one behind others
last_first : {X : Type 0} (all left : List X) (x : X) → all ≡ left ++ x ∷ [] → reverse all ≡ x ∷ reverse left
last_first all left x is = ap reverse is ∙ reverse-append left (x ∷ [])

-- of two lists of which each place is known, from the last one on
pub pair_last : {A B : Type 0} (R : A → B → Type 0) (all left : List A) (x : A) (more rest : List B) (y : B) → all ≡ left ++ x ∷ [] → more ≡ rest ++ y ∷ []
    → AllZip R (reverse all) (reverse more) → R x y × AllZip R (reverse left) (reverse rest)
pair_last {A = A} {B = B} R all left x more rest y is more_is both =
    subst (λ (ys : List B). AllZip R (x ∷ reverse left) ys) (last_first more rest y more_is) (subst (λ (xs : List A). AllZip R xs (reverse more)) (last_first all left x is) both)

-- what is made of each, in the other order
map-reverse : {A B : Type 0} (f : A → B) (xs : List A) → map f (reverse xs) ≡ reverse (map f xs)
map-reverse f [] = refl
map-reverse {B = B} f (x ∷ xs) =
    ap (map f) (reverse-append (x ∷ []) xs) ∙ map-append f (reverse xs) (x ∷ []) ∙ ap (λ (l : List B). l ++ f x ∷ []) (map-reverse f xs)
    ∙ sym (reverse-append (f x ∷ []) (map f xs))

-- A BOX THAT SETTLED

module _ {C W : Type 0} where
  -- the inbox of a worker that has ended, of whose one port all was received
  settled_inbox : (inbox : Incoming (C × W)) (box : Box (C × W)) (xs : List (C × W)) → inbox.box ≡ box → inbox.ports ≡ 1 → All (IsFrom 1) inbox.received
      → GotAll inbox (with_bye (outgoing box 0 (posts 0 xs))) → inbox ≡ incoming box 1 (posts 0 xs ++ letter 0 Bye ∷ [])
  settled_inbox inbox box xs box_is ports_are from got =
      ap (λ b. incoming b inbox.ports inbox.received) box_is
      ∙ ap (λ (n : ℕ). incoming box n inbox.received) ports_are
      ∙ ap (λ (l : List (Letter (C × W))). incoming box 1 l) (sym (share-all inbox.received from) ∙ got)

module _ {M C W : Type 0} (around : Peers M C W) where
  -- the box of a worker that has ended is the one that it had
  pub ended_box : (one : WorkerView (Unit {0}) C W) (end : WorkerEnd C W) → HasEnded around one end → end.inbox.box ≡ one.inbox.box
  ended_box one end ended =
      (works_came (λ _ moment _. IsTold around.tells moment) around.remaining around.contents ended.2.deeds (state one.session one.inbox [] 0 true)
      (state (worker_at_end one ended.0 ended.1 end).session end.inbox ended.2.clients end.sessions false) ended.2.works).box

module _ {M C W : Type 0} (around : Peers M C W) (config : Config) where
  -- what an inbox of a new worker has received
  received_new : (desk : DeskView (ClientSink W)) (one : WorkerView (Unit {0}) C W) (end : WorkerEnd C W) (xs : List (C × W)) (port : Outgoing (C × W)) (ended : HasEnded around one end)
      → IsNewOver config desk one → port ≡ outgoing one.inbox.box 0 (posts 0 xs) → GotAll end.inbox (with_bye port)
      → (end.inbox ≡ incoming one.inbox.box 1 (posts 0 xs ++ letter 0 Bye ∷ [])) × (came ended.2.deeds ≡ xs)
  received_new desk one end xs port ended new port_is got =
      let h = works_came (λ _ moment _. IsTold around.tells moment) around.remaining around.contents ended.2.deeds
      (state one.session one.inbox [] 0 true)
      (state (worker_at_end one ended.0 ended.1 end).session end.inbox ended.2.clients end.sessions false) ended.2.works in
      let ports_are : one.inbox.ports ≡ 1 = ap (λ (i : Incoming (C × W)). i.ports) new.inbox in
      let none : one.inbox.received ≡ [] = ap (λ (i : Incoming (C × W)). i.received) new.inbox in
      let nothing : All (IsFrom one.inbox.ports) one.inbox.received = subst (λ (l : List (Letter (C × W))). All (IsFrom one.inbox.ports) l) (sym none) (All-nil (IsFrom one.inbox.ports)) in
      let from : All (IsFrom 1) end.inbox.received = subst (λ (n : ℕ). All (IsFrom n) end.inbox.received) ports_are (h.from nothing) in
      let all : GotAll end.inbox (with_bye (outgoing one.inbox.box 0 (posts 0 xs))) = subst (λ (p : Outgoing (C × W)). GotAll end.inbox (with_bye p)) port_is got in
      let inbox : end.inbox ≡ incoming one.inbox.box 1 (posts 0 xs ++ letter 0 Bye ∷ []) = settled_inbox end.inbox one.inbox.box xs h.box (h.ports ∙ ports_are) from all in
      let bodies_are : bodies end.inbox.received ≡ came ended.2.deeds = h.bodies_are ∙ ap (λ (l : List (Letter (C × W))). bodies l ++ came ended.2.deeds) none in
      (inbox, sym bodies_are ∙ ap (λ (i : Incoming (C × W)). bodies i.received) inbox ∙ bodies-posts xs)

  -- THE WORKER OF A DESK that ended, and whose box settled
  pub served_just : (desk : DeskView (ClientSink W)) (one : WorkerView (Unit {0}) C W) (end : WorkerEnd C W) (xs : List (C × W)) (port : Outgoing (C × W)) → HasEnded around one end
      → IsNewOver config desk one → port ≡ outgoing one.inbox.box 0 (posts 0 xs) → GotAll end.inbox (with_bye port)
      → HasServedJust around config xs desk end.desk
  served_just desk one end xs port ended new port_is got =
      let H : WorkerView (Unit {0}) C W → Type 0 = λ w. (h : HasServed around one w end.sessions) × (came h.deeds ≡ xs) in
      let inbox = received_new desk one end xs port ended new port_is got in
      let session : (worker_at_end one ended.0 ended.1 end).session ≡ session_over config end.desk ended.0 ended.1 =
      ap (λ (s : SessionView (Unit {0}) (ClientSink W)). record { subjects = s.subjects; window = s.window; moments = tt; calls = end.desk; joined = ended.0; queue = ended.1 }) new.session in
      let start : H (worker_at_end one ended.0 ended.1 end) = (ended.2, inbox.1) in
      let left : H (worker (session_over config end.desk ended.0 ended.1) end.inbox) = subst (λ (s : SessionView (Unit {0}) (ClientSink W)). H (worker s end.inbox)) session start in
      let whole : H (worker (session_over config end.desk ended.0 ended.1) (incoming one.inbox.box 1 (posts 0 xs ++ letter 0 Bye ∷ []))) =
      subst (λ (i : Incoming (C × W)). H (worker (session_over config end.desk ended.0 ended.1) i)) inbox.0 left in
      record { one = one; joined = ended.0; queue = ended.1; sessions = end.sessions; is_new = new; worked = whole.0; came_are = whole.1 }

  -- WORKER BY WORKER

  -- one more desk, behind others
  served_from_push : (n d k : ℕ) (xs : List (C × W)) (desks backs : List (DeskView (ClientSink W))) (desk back : DeskView (ClientSink W)) → k ≡ d + length desks
      → HaveServedFrom around config n d xs desks backs → HasServedJust around config (dealt_to n k 0 xs) desk back
      → HaveServedFrom around config n d xs (desks ++ desk ∷ []) (backs ++ back ∷ [])
  served_from_push n d k xs [] [] desk back is so one = (subst (λ (m : ℕ). HasServedJust around config (dealt_to n m 0 xs) desk back) (omega (arith, is)) one, tt)
  served_from_push n d k xs [] (b ∷ backs) desk back is so one = absurd so
  served_from_push n d k xs (e ∷ desks) [] desk back is so one = absurd so
  served_from_push n d k xs (e ∷ desks) (b ∷ backs) desk back is so one =
      (so.0, served_from_push n (d + 1) k xs desks backs desk back (omega (arith, is)) so.1 one)

module _ {C W : Type 0} where
  -- ports, of which the first is that at place d of n, by which what was dealt was sent
  abbrev pub dealt_by : ℕ → ℕ → List (C × W) → List (Outgoing (C × W)) → List (Outgoing (C × W))
  dealt_by n d xs [] = []
  dealt_by n d xs (port ∷ ports) = with_more (dealt_to n d 0 xs) port ∷ dealt_by n (d + 1) xs ports

  -- what each put, told place by place, is what was dealt
  puts_dealt : (n d : ℕ) (xs : List (C × W)) (before after : List (Outgoing (C × W))) → length after ≡ length before
      → ((i : ℕ) → slice_get after i ≡ option_map (with_more (dealt_to n (d + i) 0 xs)) (slice_get before i)) → after ≡ dealt_by n d xs before
  puts_dealt n d xs [] [] count at = refl
  puts_dealt n d xs [] (a ∷ after) count at = absurd (omega (arith, count))
  puts_dealt n d xs (p ∷ before) [] count at = absurd (omega (arith, count))
  puts_dealt n d xs (p ∷ before) (a ∷ after) count at =
      let place : d + 0 ≡ d = omega arith in
      let first : a ≡ with_more (dealt_to n d 0 xs) p = same_Some a (with_more (dealt_to n (d + 0) 0 xs) p) (at 0) ∙ ap (λ (k : ℕ). with_more (dealt_to n k 0 xs) p) place in
      ap (λ (q : Outgoing (C × W)). q ∷ after) first
      ∙ ap (λ (l : List (Outgoing (C × W))). with_more (dealt_to n d 0 xs) p ∷ l)
      (puts_dealt n (d + 1) xs before after (omega (arith, count)) (λ i. at (suc i) ∙ ap (λ (k : ℕ). option_map (with_more (dealt_to n k 0 xs)) (slice_get before i)) (omega arith)))

  -- so what an acceptor dealt
  pub deals_dealt : (xs : List (C × W)) (before after : List (Outgoing (C × W))) → Deals xs before after → after ≡ dealt_by (length before) 0 xs before
  deals_dealt xs before after deals =
      puts_dealt (length before) 0 xs before after deals.count (λ i. deals.at i ∙ ap (λ (k : ℕ). option_map (with_more (dealt_to (length before) k 0 xs)) (slice_get before i)) (omega arith))

module _ {M C W : Type 0} (around : Peers M C W) (config : Config) where
  -- the workers of the first desks have ended, and served what was dealt to them; those that are left hold what was dealt to them
  pub record HaveServedSome (n : ℕ) (xs : List (C × W)) (all here : List (DeskView (ClientSink W))) (workers : List (WorkerView (Unit {0}) C W)) (ports : List (Outgoing (C × W))) : Type 0 where
    pub kept : List (DeskView (ClientSink W))
    pub parts : kept ++ map worker_desk (reverse workers) ≡ all
    pub served : HaveServedFrom around config n 0 xs kept here
    pub new : All (λ one. IsNewOver config (worker_desk one) one) workers
    pub waits : reverse ports ≡ dealt_by n (length kept) xs (map port_to (reverse workers))

  -- none has ended yet
  pub some-none : (xs : List (C × W)) (here : List (DeskView (ClientSink W))) (workers : List (WorkerView (Unit {0}) C W)) (ports : List (Outgoing (C × W))) → here ≡ []
      → All (λ one. IsNewOver config (worker_desk one) one) workers → Deals xs (reverse (map port_to workers)) (reverse ports)
      → HaveServedSome (length workers) xs (map worker_desk (reverse workers)) here workers ports
  some-none xs here workers ports none new deals = record {
    kept = [];
    parts = refl;
    served = subst (λ (l : List (DeskView (ClientSink W))). HaveServedFrom around config (length workers) 0 xs [] l) (sym none) tt;
    new = new;
    waits =
        let n : length (reverse (map port_to workers)) ≡ length workers = length-reverse (map port_to workers) ∙ length-map workers port_to in
        deals_dealt xs (reverse (map port_to workers)) (reverse ports) deals
        ∙ ap (λ (k : ℕ). dealt_by k 0 xs (reverse (map port_to workers))) n
        ∙ ap (λ (l : List (Outgoing (C × W))). dealt_by (length workers) 0 xs l) (sym (map-reverse port_to workers));
  }

  -- the last worker's port holds what was dealt to it
  pub some-port : (n : ℕ) (xs : List (C × W)) (all here : List (DeskView (ClientSink W))) (workers left : List (WorkerView (Unit {0}) C W)) (ports rest : List (Outgoing (C × W)))
      → (one : WorkerView (Unit {0}) C W) (port : Outgoing (C × W)) → workers ≡ left ++ one ∷ [] → ports ≡ rest ++ port ∷ []
      → (so : HaveServedSome n xs all here workers ports) → (port ≡ outgoing one.inbox.box 0 (posts 0 (dealt_to n (length so.kept) 0 xs))) × (reverse rest ≡ dealt_by n (length so.kept + 1) xs (map port_to (reverse left)))
  some-port n xs all here workers left ports rest one port took took_port so =
      let k = length so.kept in
      let whole : port ∷ reverse rest ≡ with_more (dealt_to n k 0 xs) (port_to one) ∷ dealt_by n (k + 1) xs (map port_to (reverse left)) =
      sym (last_first ports rest port took_port) ∙ so.waits ∙ ap (λ (ws : List (WorkerView (Unit {0}) C W)). dealt_by n k xs (map port_to ws)) (last_first workers left one took) in (
        same_head port (with_more (dealt_to n k 0 xs) (port_to one)) (reverse rest) (dealt_by n (k + 1) xs (map port_to (reverse left))) whole,
        same_tail port (with_more (dealt_to n k 0 xs) (port_to one)) (reverse rest) (dealt_by n (k + 1) xs (map port_to (reverse left))) whole,
      )

  -- one more has ended, and its box settled
  pub some-one : (n : ℕ) (xs : List (C × W)) (all here after : List (DeskView (ClientSink W))) (workers left : List (WorkerView (Unit {0}) C W)) (ports rest : List (Outgoing (C × W)))
      → (one : WorkerView (Unit {0}) C W) (port : Outgoing (C × W)) (back : DeskView (ClientSink W)) → workers ≡ left ++ one ∷ [] → ports ≡ rest ++ port ∷ [] → after ≡ here ++ back ∷ []
      → ((ys : List (C × W)) → IsNewOver config (worker_desk one) one → port ≡ outgoing one.inbox.box 0 (posts 0 ys) → HasServedJust around config ys (worker_desk one) back)
      → HaveServedSome n xs all here workers ports → HaveServedSome n xs all after left rest
  some-one n xs all here after workers left ports rest one port back took took_port put served so =
      let P : WorkerView (Unit {0}) C W → Type 0 = λ one. IsNewOver config (worker_desk one) one in
      let news = All-pop P workers left (Some one) took so.new in
      let p = some-port n xs all here workers left ports rest one port took took_port so in
      let k = length so.kept in
      let just : HasServedJust around config (dealt_to n k 0 xs) (worker_desk one) back = served (dealt_to n k 0 xs) news.1 p.0 in
      let count : length (so.kept ++ worker_desk one ∷ []) ≡ k + 1 = length-append so.kept (worker_desk one ∷ []) in
      record {
        kept = so.kept ++ worker_desk one ∷ [];
        parts =
            append_assoc so.kept (worker_desk one ∷ []) (map worker_desk (reverse left))
            ∙ ap (λ (ws : List (WorkerView (Unit {0}) C W)). so.kept ++ map worker_desk ws) (sym (last_first workers left one took))
            ∙ so.parts;
        served =
            subst (λ (l : List (DeskView (ClientSink W))). HaveServedFrom around config n 0 xs (so.kept ++ worker_desk one ∷ []) l) (sym put)
            (served_from_push around config n 0 k xs so.kept here (worker_desk one) back (omega arith) so.served just);
        new = news.0;
        waits = p.1 ∙ ap (λ (m : ℕ). dealt_by n m xs (map port_to (reverse left))) (sym count);
      }

  -- all have ended
  pub some-all : (n : ℕ) (xs : List (C × W)) (all here : List (DeskView (ClientSink W))) (workers : List (WorkerView (Unit {0}) C W)) (ports : List (Outgoing (C × W))) → workers ≡ [] → n ≡ length all
      → HaveServedSome n xs all here workers ports → HaveServedAll around config xs all here
  some-all n xs all here workers ports none count so =
      let whole : so.kept ≡ all = sym (append-nil so.kept) ∙ ap (λ (ws : List (WorkerView (Unit {0}) C W)). so.kept ++ map worker_desk (reverse ws)) (sym none) ∙ so.parts in
      subst (λ (m : ℕ). HaveServedFrom around config m 0 xs all here) count
      (subst (λ (l : List (DeskView (ClientSink W))). HaveServedFrom around config n 0 xs l here) whole so.served)

  -- as many desks came back as served
  served_from-long : (n d : ℕ) (xs : List (C × W)) (desks backs : List (DeskView (ClientSink W))) → HaveServedFrom around config n d xs desks backs → length backs ≡ length desks
  served_from-long n d xs [] [] so = refl
  served_from-long n d xs [] (back ∷ backs) so = absurd so
  served_from-long n d xs (desk ∷ desks) [] so = absurd so
  served_from-long n d xs (desk ∷ desks) (back ∷ backs) so = (let rest = served_from-long n (d + 1) xs desks backs so.1 in omega (arith, rest))

  -- one more has ended, and is the first that did so early
  pub first-early : (n : ℕ) (xs : List (C × W)) (all here after : List (DeskView (ClientSink W))) (workers left : List (WorkerView (Unit {0}) C W)) (ports rest : List (Outgoing (C × W)))
      → (one : WorkerView (Unit {0}) C W) (port : Outgoing (C × W)) (back : DeskView (ClientSink W)) (place : ℕ) → n ≡ length all → place ≡ length here
      → workers ≡ left ++ one ∷ [] → ports ≡ rest ++ port ∷ [] → after ≡ here ++ back ∷ []
      → ((ys : List (C × W)) → IsNewOver config (worker_desk one) one → port ≡ outgoing one.inbox.box 0 (posts 0 ys) → EndsEarly around config ys (worker_desk one) back)
      → HaveServedSome n xs all here workers ports → FirstEndsEarly around config xs place all after
  first-early n xs all here after workers left ports rest one port back place count place_is took took_port put early so =
      let P : WorkerView (Unit {0}) C W → Type 0 = λ one. IsNewOver config (worker_desk one) one in
      let new = (All-pop P workers left (Some one) took so.new).1 in
      let p = some-port n xs all here workers left ports rest one port took took_port so in
      let k = length so.kept in
      record {
        before = so.kept;
        desk = worker_desk one;
        behind = map worker_desk (reverse left);
        parts = ap (λ (ws : List (WorkerView (Unit {0}) C W)). so.kept ++ map worker_desk ws) (sym (last_first workers left one took)) ∙ so.parts;
        place_is = place_is ∙ served_from-long n 0 xs so.kept here so.served;
        backs = here;
        back = back;
        later = [];
        parts_after = sym put;
        served = subst (λ (m : ℕ). HaveServedFrom around config m 0 xs so.kept here) count so.served;
        early = subst (λ (m : ℕ). EndsEarly around config (dealt_to m k 0 xs) (worker_desk one) back) count (early (dealt_to n k 0 xs) new p.0);
      }

  -- and others end behind it
  pub first-push : (xs : List (C × W)) (place : ℕ) (all here after : List (DeskView (ClientSink W))) (back : DeskView (ClientSink W)) → after ≡ here ++ back ∷ []
      → FirstEndsEarly around config xs place all here → FirstEndsEarly around config xs place all after
  first-push xs place all here after back put first = record {
    before = first.before;
    desk = first.desk;
    behind = first.behind;
    parts = first.parts;
    place_is = first.place_is;
    backs = first.backs;
    back = first.back;
    later = first.later ++ back ∷ [];
    parts_after =
        sym (append_assoc first.backs (first.back ∷ first.later) (back ∷ []))
        ∙ ap (λ (ds : List (DeskView (ClientSink W))). ds ++ back ∷ []) first.parts_after
        ∙ sym put;
    served = first.served;
    early = first.early;
  }

-- THE PORTS OF A CREW

module _ {C W : Type 0} where
  -- a new worker is one over its own desk
  pub new_own : (config : Config) (desk : DeskView (ClientSink W)) (one : WorkerView (Unit {0}) C W) → IsNewOver config desk one → IsNewOver config (worker_desk one) one
  new_own config desk one new =
      let is : worker_desk one ≡ desk = ap (λ (s : SessionView (Unit {0}) (ClientSink W)). s.calls) new.session in
      record { session = new.session ∙ ap (λ d. session_over config d None no_queue) (sym is); inbox = new.inbox; room = new.room }

  -- the port of one worker more
  pub ports_more : (workers workers_after : List (WorkerView (Unit {0}) C W)) (ports ports_after : List (Outgoing (C × W))) (one : WorkerView (Unit {0}) C W) (port : Outgoing (C × W))
      → ports ≡ map port_to workers → port ≡ port_to one → workers_after ≡ workers ++ one ∷ [] → ports_after ≡ ports ++ port ∷ [] → ports_after ≡ map port_to workers_after
  ports_more workers workers_after ports ports_after one port are is put put_port =
      put_port
      ∙ ap (λ (ps : List (Outgoing (C × W))). ps ++ port ∷ []) are
      ∙ ap (λ (p : Outgoing (C × W)). map port_to workers ++ p ∷ []) is
      ∙ sym (map-append port_to workers (one ∷ []))
      ∙ sym (ap (map port_to) put)

  -- ports by which what was dealt was sent are those of the workers
  dealt_ports : (n d : ℕ) (xs : List (C × W)) (workers : List (WorkerView (Unit {0}) C W)) → AllZip IsPortOf workers (dealt_by n d xs (map port_to workers))
  dealt_ports n d xs [] = tt
  dealt_ports n d xs (one ∷ workers) = (refl, dealt_ports n (d + 1) xs workers)

  new_ports : (workers : List (WorkerView (Unit {0}) C W)) → AllZip IsPortOf workers (map port_to workers)
  new_ports [] = tt
  new_ports (one ∷ workers) = (refl, new_ports workers)

  -- so are those by which nothing was sent
  pub ports_new : (workers : List (WorkerView (Unit {0}) C W)) (ports : List (Outgoing (C × W))) → ports ≡ map port_to workers → AllZip IsPortOf (reverse workers) (reverse ports)
  ports_new workers ports are =
      subst (λ (ps : List (Outgoing (C × W))). AllZip IsPortOf (reverse workers) ps) (map-reverse port_to workers ∙ ap reverse (sym are)) (new_ports (reverse workers))

  deals_ports : (xs : List (C × W)) (workers : List (WorkerView (Unit {0}) C W)) (ports : List (Outgoing (C × W))) → Deals xs (reverse (map port_to workers)) (reverse ports)
      → AllZip IsPortOf (reverse workers) (reverse ports)
  deals_ports xs workers ports deals =
      let n = length (reverse (map port_to workers)) in
      let are : reverse ports ≡ dealt_by n 0 xs (map port_to (reverse workers)) =
      deals_dealt xs (reverse (map port_to workers)) (reverse ports) deals ∙ ap (dealt_by n 0 xs) (sym (map-reverse port_to workers)) in
      subst (λ (ps : List (Outgoing (C × W))). AllZip IsPortOf (reverse workers) ps) (sym are) (dealt_ports n 0 xs (reverse workers))

module _ {L C W : Type 0} (accepts : L → C × W → L → Type 0) (fails : L → L → Type 0) where
  -- however an acceptor stopped
  pub accepts_ports : (count : ℕ) (stop : Result (Unit {0}) AcceptStop) (listener after : L) (workers : List (WorkerView (Unit {0}) C W)) (ports : List (Outgoing (C × W)))
      → AcceptsAll accepts fails count stop listener after (reverse (map port_to workers)) (reverse ports) → AllZip IsPortOf (reverse workers) (reverse ports)
  accepts_ports count (Ok _) listener after workers ports all = deals_ports all.0 workers ports all.3
  accepts_ports count (Err NoConnection) listener after workers ports all = deals_ports all.0 workers ports all.5
  accepts_ports count (Err (WorkerGone place)) listener after workers ports all = deals_ports all.0 workers ports all.5

-- THE FIRST THAT WAS LOST

-- there is none
abbrev IsNone : Option ℕ → Type 0
IsNone None = Unit {0}
IsNone (Some place) = ⊥

pub first_lost-none : (lost : Option ℕ) (place : ℕ) (has_all : Bool) → first_lost lost place has_all ≡ None → (lost ≡ None) × (has_all ≡ true)
first_lost-none None place true is = (refl, refl)
first_lost-none None place false is = absurd (subst IsNone (sym is) tt)
first_lost-none (Some first) place has_all is = absurd (subst IsNone (sym is) tt)

pub none_lost : (place : ℕ) → ¬ (None ≡ Some place)
none_lost place is = subst IsNone is tt

-- the first is one of before, or this one
pub first_lost-some : (lost : Option ℕ) (place : ℕ) (has_all : Bool) (first : ℕ) → first_lost lost place has_all ≡ Some first
    → (lost ≡ Some first) ⊎ ((lost ≡ None) × (has_all ≡ false) × (first ≡ place))
first_lost-some None place true first is = absurd (none_lost first is)
first_lost-some None place false first is = inr (refl, refl, sym (same_Some place first is))
first_lost-some (Some one) place has_all first is = inl is

pub first_lost-within : (lost : Option ℕ) (place : ℕ) (has_all : Bool) (n m : ℕ) → IfSome lost (λ k. k < n) → n ≤ m → place < m → IfSome (first_lost lost place has_all) (λ k. k < m)
first_lost-within None place true n m within more here = tt
first_lost-within None place false n m within more here = here
first_lost-within (Some first) place has_all n m within more here = omega (arith, within, more)

-- HOW SERVING ENDED

-- nothing is kept of nothing
kept_none : {S : Type 0} (kept here : List (DeskView S)) → here ≡ [] → AllZip KeepsDesk kept here → kept ≡ []
kept_none [] here none all = refl
kept_none (desk ∷ kept) [] none all = absurd all
kept_none (desk ∷ kept) (back ∷ here) none all = let no : ⊥ = (let count = ap length none in omega (arith, count)) in absurd no

module _ {C W : Type 0} where
  -- all desks were handed to workers
  pub handed_all : (desks here : List (DeskView (ClientSink W))) (workers : List (WorkerView (Unit {0}) C W)) → here ≡ [] → AreOut desks here workers → map worker_desk (reverse workers) ≡ desks
  handed_all desks here workers none out = subst (λ (kept : List (DeskView (ClientSink W))). kept ++ map worker_desk (reverse workers) ≡ desks) (kept_none out.kept here none out.same) out.parts

  -- to as many
  pub workers_count : (desks : List (DeskView (ClientSink W))) (workers : List (WorkerView (Unit {0}) C W)) → map worker_desk (reverse workers) ≡ desks → length workers ≡ length desks
  workers_count desks workers all = sym (length-reverse workers) ∙ sym (length-map (reverse workers) worker_desk) ∙ ap length all

  -- the desks that are here are some of all
  pub here_some : (desks here : List (DeskView (ClientSink W))) (workers : List (WorkerView (Unit {0}) C W)) → AreOut desks here workers → length here ≤ length desks
  here_some desks here workers out =
      let same : length here ≡ length out.kept = AllZip-long KeepsDesk out.kept here out.same in
      let all : length out.kept + length (map worker_desk (reverse workers)) ≡ length desks = sym (length-append out.kept (map worker_desk (reverse workers))) ∙ ap length out.parts in
      omega (arith, same, all)

module _ {L M C W : Type 0} (around : Surroundings L M C W) (config : Config) where
  -- what is known of the desks that came back, where no worker was lost
  abbrev pub ServedUnlessLost : Option ℕ → List (DeskView (ClientSink W)) → List (DeskView (ClientSink W)) → List (DeskView (ClientSink W)) → List (WorkerView (Unit {0}) C W) → List (Outgoing (C × W)) → Type 0
  ServedUnlessLost lost desks here after workers ports =
      lost ≡ None → here ≡ [] → (xs : List (C × W)) → Deals xs (reverse (map port_to workers)) (reverse ports) → HaveServedAll around.workers config xs desks after

  -- and where one was
  abbrev pub FirstIfLost : Option ℕ → List (DeskView (ClientSink W)) → List (DeskView (ClientSink W)) → List (DeskView (ClientSink W)) → List (WorkerView (Unit {0}) C W) → List (Outgoing (C × W)) → Type 0
  FirstIfLost lost desks here after workers ports =
      (place : ℕ) → lost ≡ Some place → here ≡ [] → (xs : List (C × W)) → Deals xs (reverse (map port_to workers)) (reverse ports) → FirstEndsEarly around.workers config xs place desks after

  -- the next connection was for a worker that is gone
  gone_so : (place : ℕ) (before after : Reception L W) (workers : List (WorkerView (Unit {0}) C W)) (ports : List (Outgoing (C × W)))
      → 0 < length before.desks → length (reverse (map port_to workers)) ≡ length before.desks
      → AcceptsAll around.accepts around.fails config.connections (Err (WorkerGone place)) before.listener after.listener (reverse (map port_to workers)) (reverse ports)
      → ServesUntil around config (Err (Thread place)) before after
  gone_so place before after workers ports some count all =
      let place_is : place ≡ length all.0 % length before.desks = all.4 ∙ ap (λ (n : ℕ). length all.0 % n) count in
      let within : length all.0 % length before.desks < length before.desks = omega arith in
      record {
        within = subst (λ (n : ℕ). n < length before.desks) (sym place_is) within;
        how = GoneBefore (record { connections = all.0; lost = all.1; fewer = all.2; accepted = all.3; worker = place_is });
      }

  -- no worker was hired for one of the desks
  hired_so : (fault : ServeFault) (lost : Option ℕ) (before after : Reception L W) (here : List (DeskView (ClientSink W)))
      → 0 < length before.desks → length here ≤ length before.desks → NamesLast (length here) fault → after.listener ≡ before.listener
      → ServesUntil around config (with_lost (Err fault) lost) before after
  hired_so NoDesk lost before after here some most names same = absurd names
  hired_so Accept lost before after here some most names same = absurd names
  hired_so (Thread place) None before after here some most names same = record { within = omega (arith, names, most); how = NeverBegan same }
  hired_so (Thread place) (Some first) before after here some most names same = record { within = omega (arith, names, most); how = NeverBegan same }
  hired_so Memory None before after here some most names same = record { some_desk = some; untouched = same }
  hired_so Memory (Some first) before after here some most names same = record { some_desk = some; untouched = same }

  -- by how the acceptor stopped
  stopped_so : (stop : Result (Unit {0}) AcceptStop) (lost : Option ℕ) (before after : Reception L W) (here : List (DeskView (ClientSink W))) (workers : List (WorkerView (Unit {0}) C W)) (ports : List (Outgoing (C × W)))
      → 0 < length before.desks → here ≡ [] → length (reverse (map port_to workers)) ≡ length before.desks → IfSome lost (λ place. place < length before.desks)
      → AcceptsAll around.accepts around.fails config.connections stop before.listener after.listener (reverse (map port_to workers)) (reverse ports)
      → ServedUnlessLost lost before.desks here after.desks workers ports → FirstIfLost lost before.desks here after.desks workers ports
      → ServesUntil around config (with_lost (fault_in stop) lost) before after
  stopped_so (Ok _) None before after here workers ports some none count within all so first =
      record { connections = all.0; accepted = record { all = all.1; accepted = all.2 }; served = so refl none all.0 all.3 }
  stopped_so (Ok _) (Some place) before after here workers ports some none count within all so first =
      record { within = within; how = EarlyOfAll all.0 (record { all = all.1; accepted = all.2 }) (first place refl none all.0 all.3) }
  stopped_so (Err NoConnection) None before after here workers ports some none count within all so first =
      record { connections = all.0; accepted = record { fewer = all.2; last = all.1; accepted = all.3; failed = all.4 }; served = so refl none all.0 all.5 }
  stopped_so (Err NoConnection) (Some place) before after here workers ports some none count within all so first =
      record { within = within; how = EarlyOfFewer all.0 (record { fewer = all.2; last = all.1; accepted = all.3; failed = all.4 }) (first place refl none all.0 all.5) }
  stopped_so (Err (WorkerGone place)) None before after here workers ports some none count within all so first = gone_so place before after workers ports some count all
  stopped_so (Err (WorkerGone place)) (Some lost) before after here workers ports some none count within all so first = gone_so place before after workers ports some count all

  -- by how dealing ended
  pub ended_so : (dealt result : Result (Unit {0}) ServeFault) (lost : Option ℕ) (listener listener_after : L) (desks here after : List (DeskView (ClientSink W))) (workers : List (WorkerView (Unit {0}) C W)) (ports : List (Outgoing (C × W)))
      → 0 < length desks → length after ≡ length desks → AreOut desks here workers → IfSome lost (λ place. place < length after)
      → DealsUntil around.accepts around.fails config.connections dealt listener listener_after here workers ports
      → ServedUnlessLost lost (map worker_desk (reverse workers)) here after workers ports → FirstIfLost lost (map worker_desk (reverse workers)) here after workers ports
      → result ≡ with_lost dealt lost → ServesUntil around config result (reception listener desks) (reception listener_after after)
  ended_so dealt result lost listener listener_after desks here after workers ports some count out within (NotHired fault dealt_is names same) so first result_is =
      let is : with_lost (Err fault) lost ≡ result = ap (λ (d : Result (Unit {0}) ServeFault). with_lost d lost) (sym dealt_is) ∙ sym result_is in
      subst (λ (r : Result (Unit {0}) ServeFault). ServesUntil around config r (reception listener desks) (reception listener_after after)) is
      (hired_so fault lost (reception listener desks) (reception listener_after after) here some (here_some desks here workers out) names same)
  ended_so dealt result lost listener listener_after desks here after workers ports some count out within (AllHired stop dealt_is none accepted) so first result_is =
      let is : with_lost (fault_in stop) lost ≡ result = ap (λ (d : Result (Unit {0}) ServeFault). with_lost d lost) (sym dealt_is) ∙ sym result_is in
      let all : map worker_desk (reverse workers) ≡ desks = handed_all desks here workers none out in
      let crew : length (reverse (map port_to workers)) ≡ length desks = length-reverse (map port_to workers) ∙ length-map workers port_to ∙ workers_count desks workers all in
      let places : IfSome lost (λ place. place < length desks) = subst (λ (n : ℕ). IfSome lost (λ place. place < n)) count within in
      let served : ServedUnlessLost lost desks here after workers ports = subst (λ (ds : List (DeskView (ClientSink W))). ServedUnlessLost lost ds here after workers ports) all so in
      let firsts : FirstIfLost lost desks here after workers ports = subst (λ (ds : List (DeskView (ClientSink W))). FirstIfLost lost ds here after workers ports) all first in
      subst (λ (r : Result (Unit {0}) ServeFault). ServesUntil around config r (reception listener desks) (reception listener_after after)) is
      (stopped_so stop lost (reception listener desks) (reception listener_after after) here workers ports some none crew places accepted served firsts)
