-- What came back of all boxes of a server, and what stands once they have settled.
use Rattle.std.proofs.Common.{◌≡◌, ◌∙◌, sym, refl, ap, subst, ℕ, ◌<◌, List, [], ◌∷◌, ◌++◌, length, map, slice_get, Some, arith}
use Rattle.std.proofs.lemmas.List.{length-map}
use Rattle.std.proofs.lemmas.List.Elements.{All-head, All-tail, All-weaker}
use Rattle.std.proofs.lemmas.Option.{slice_get_within}
use Rattle.std.specs.List.{All, AllZip}
use Rattle.rx_mailbox.specs.Boxes.{Box, HasEachBye, Incoming, Outgoing}
use Rattle.rx_mailbox.specs.Passes.{SettledView, inbox_in}
use Rattle.rx_mailbox.specs.Settling.{GotAll}
use Rattle.rx_pump.specs.declared.call.Call.{Call}
use Rattle.rx_pump.specs.declared.call_desk.ended_desk.EndedDesk.{EndedDesk}
use Rattle.rx_pump.specs.declared.out.Out.{Out}
use Rattle.rx_pump.specs.declared.pump.pump_end.PumpEnd.{PumpEnd}
use Rattle.rx_pump.specs.declared.reply.Reply.{Reply}
use Rattle.rx_drain.specs.declared.drainer.drain_end.DrainEnd.{DrainEnd}
use Rattle.rx_mailbox.specs.Rests.{ReceivesMore}
use Rattle.rx_mailbox.specs.Parts.{AreOfOneBox, PartsView, Settles, dealt, dealt_each, with_inboxes}
use Rattle.rx_mailbox.proofs.Gathered.{AllInboxes, AllPorts, dealt-all, dealt-inboxes, dealt-of, dealt_each-all, dealt_each-count, dealt_each-inboxes, dealt_each-of, empty-inboxes, empty-ports, with_inboxes-all, with_inboxes-count, with_inboxes-ports, inboxes-of, inboxes_of, of-one-box, ports-of, ports-same, received-none, settled-at, settled-came, settled-empty, settled-got}
use Rattle.rx_mailbox.proofs.Rows.{dealt-count}
use Rattle.rx_server.specs.declared.close.rooms.Rooms.{Rooms}
use Rattle.rx_server.specs.declared.close.settled_boxes.SettledBoxes.{SettledBoxes}
use Rattle.rx_server.specs.Leaving.{AreRow, HasItsBoxes, HasLeft}
use Rattle.rx_server.specs.Returning.{HaveComeBack, number_of}
use Rattle.rx_server.specs.Rooms.{HoldBoxes}
use Rattle.rx_server.specs.Servers.{AreRepliesOf, GotEach, HaveSettled}
use Rattle.rx_server.specs.Wirings.{Wiring}
use Rattle.rx_server.proofs.Returning.{All-made, All-source, desk-number, desk-ports, desk-row, returns-at, returns-count, returns-inboxes, returns-ports}

-- rows that were dealt one after another
pub rows-dealt : {B X : Type 0} (f : X → List (Outgoing B)) (xs ys : List X) (boxes : List (PartsView B))
    → dealt_each (map f (xs ++ ys)) boxes ≡ dealt_each (map f ys) (dealt_each (map f xs) boxes)
rows-dealt f [] ys boxes = refl
rows-dealt f (x ∷ xs) ys boxes = rows-dealt f xs ys (dealt (f x) boxes)

-- what is made of what is made of each
map-twice : {X Y Z : Type 0} (f : Y → Z) (g : X → Y) (xs : List X) → map f (map g xs) ≡ map (λ x. f (g x)) xs
map-twice f g [] = refl
map-twice {Z = Z} f g (x ∷ xs) = ap (λ (l : List Z). f (g x) ∷ l) (map-twice f g xs)

module _ {B : Type 0} where
  -- a row has a port for each box
  pub row-count : (boxes : List (Box B)) (ports : List (Outgoing B)) (n : ℕ) → length boxes ≡ n → AreRow boxes ports → length ports ≡ n
  row-count boxes ports n count are = sym (length-map ports (λ (port : Outgoing B). port.box)) ∙ ap length are ∙ count

  -- what is left of as many as there are boxes
  pub ends-count : {X : Type 0} (boxes : List (Box B)) (f : X → Box B) (ends : List X) → map f ends ≡ boxes → length ends ≡ length boxes
  ends-count boxes f ends are = sym (length-map ends f) ∙ ap length are

  -- an inbox that was whole is the box
  pub whole : {X : Type 0} (f : X → Incoming B) (ends : List X) (boxes : List (SettledView B)) → All (λ end. HasEachBye (f end)) ends
      → AllZip (λ inbox box. ReceivesMore inbox (inbox_in box)) (map f ends) boxes → AllZip (λ end box. inbox_in box ≡ f end) ends boxes
  whole f [] [] done all = tt
  whole f [] (box ∷ boxes) done all = absurd all
  whole f (end ∷ ends) [] done all = absurd all
  whole f (end ∷ ends) (box ∷ boxes) done all =
      (received-none (f end) (inbox_in box) (All-head (λ end. HasEachBye (f end)) end ends done) all.0, whole f ends boxes (All-tail (λ end. HasEachBye (f end)) end ends done) all.1)

module _ {S Rest : Type 0} (w : Wiring S) (rooms : Rooms S Rest) (ended : List (EndedDesk S)) (left : HasLeft w rooms ended) where
  abbrev calls_of_desks : List (List (Outgoing (Call S)))
  calls_of_desks = map (λ desk. desk.ports.items) (ended ++ rooms.desks.items)

  abbrev calls_of_drainers : List (List (Outgoing (Call S)))
  calls_of_drainers = map (λ end. end.ports.items) rooms.drainers.items

  abbrev outs_of_pumps : List (List (Outgoing (Out S)))
  outs_of_pumps = map (λ end. end.drainers.items) rooms.pumps.items

  abbrev answers_of_pumps : List (List (Outgoing (Reply S)))
  answers_of_pumps = map (λ end. end.replies.items) rooms.pumps.items

  -- all came back
  abbrev pub CameBack : List (PartsView (Call S)) → List (PartsView (Out S)) → List (PartsView (Reply S)) → Type 0
  CameBack subjects drainers replies = HaveComeBack rooms.returned rooms.leaves.items (ended ++ rooms.desks.items) rooms.pumps.items rooms.drainers.items subjects drainers replies

  module _ (subjects : List (PartsView (Call S))) (drainers : List (PartsView (Out S))) (replies : List (PartsView (Reply S))) (came : CameBack subjects drainers replies) where
    -- COUNTS

    pub subjects-count : length subjects ≡ length w.subjects
    subjects-count =
        ap length came.subjects_are ∙ dealt_each-count calls_of_desks (dealt_each calls_of_drainers (with_inboxes (map (λ end. end.inbox) rooms.pumps.items) rooms.returned.subjects.items))
        ∙ dealt_each-count calls_of_drainers (with_inboxes (map (λ end. end.inbox) rooms.pumps.items) rooms.returned.subjects.items)
        ∙ with_inboxes-count (map (λ end. end.inbox) rooms.pumps.items) rooms.returned.subjects.items ∙ left.nothing_came.subject_count

    pub drainers-count : length drainers ≡ length w.drainers
    drainers-count =
        ap length came.drainers_are ∙ dealt-count rooms.leaves.items (with_inboxes (map (λ end. end.inbox) rooms.drainers.items) (dealt_each outs_of_pumps rooms.returned.drainers.items))
        ∙ with_inboxes-count (map (λ end. end.inbox) rooms.drainers.items) (dealt_each outs_of_pumps rooms.returned.drainers.items)
        ∙ dealt_each-count outs_of_pumps rooms.returned.drainers.items ∙ left.nothing_came.drainer_count

    pub replies-count : length replies ≡ length w.replies
    replies-count =
        returns-count (dealt_each answers_of_pumps rooms.returned.replies.items) (ended ++ rooms.desks.items) replies came.replies_are
        ∙ dealt_each-count answers_of_pumps rooms.returned.replies.items ∙ left.nothing_came.reply_count

    -- there is room for as many boxes as came back
    pub boxes-fit : HoldBoxes (length subjects) (length drainers) (length replies) rooms.settled
    boxes-fit =
        subst (λ n. HoldBoxes n (length drainers) (length replies) rooms.settled) (sym subjects-count)
        (subst (λ n. HoldBoxes (length w.subjects) n (length replies) rooms.settled) (sym drainers-count)
        (subst (λ n. HoldBoxes (length w.subjects) (length w.drainers) n rooms.settled) (sym replies-count) left.none_settled))

    -- INBOXES

    subject-inboxes : inboxes_of subjects ≡ map Some (map (λ end. end.inbox) rooms.pumps.items)
    subject-inboxes =
        ap inboxes_of came.subjects_are ∙ dealt_each-inboxes calls_of_desks (dealt_each calls_of_drainers (with_inboxes (map (λ end. end.inbox) rooms.pumps.items) rooms.returned.subjects.items))
        ∙ dealt_each-inboxes calls_of_drainers (with_inboxes (map (λ end. end.inbox) rooms.pumps.items) rooms.returned.subjects.items)
        ∙ with_inboxes-all (map (λ end. end.inbox) rooms.pumps.items) rooms.returned.subjects.items
        (length-map rooms.pumps.items (λ end. end.inbox) ∙ ends-count w.subjects (λ end. end.inbox.box) rooms.pumps.items left.pumps ∙ sym left.nothing_came.subject_count)

    drainer-inboxes : inboxes_of drainers ≡ map Some (map (λ end. end.inbox) rooms.drainers.items)
    drainer-inboxes =
        ap inboxes_of came.drainers_are ∙ dealt-inboxes rooms.leaves.items (with_inboxes (map (λ end. end.inbox) rooms.drainers.items) (dealt_each outs_of_pumps rooms.returned.drainers.items))
        ∙ with_inboxes-all (map (λ end. end.inbox) rooms.drainers.items) (dealt_each outs_of_pumps rooms.returned.drainers.items)
        (length-map rooms.drainers.items (λ end. end.inbox) ∙ ends-count w.drainers (λ end. end.inbox.box) rooms.drainers.items left.drainers
        ∙ sym (dealt_each-count outs_of_pumps rooms.returned.drainers.items ∙ left.nothing_came.drainer_count))

    -- ONE BOX EACH

    abbrev Of : {B : Type 0} → Box B → Outgoing B → Type 0
    Of x port = port.box ≡ x

    pub subjects-fit : All AreOfOneBox subjects
    subjects-fit =
        let start = empty-ports Of _ w.subjects rooms.returned.subjects.items (sym left.nothing_came.subject_count) left.nothing_came.subjects_empty in
        let with_inboxes_ports = ports-same Of w.subjects rooms.returned.subjects.items (with_inboxes (map (λ end. end.inbox) rooms.pumps.items) rooms.returned.subjects.items)
        (with_inboxes-ports (map (λ end. end.inbox) rooms.pumps.items) rooms.returned.subjects.items) start in
        let by_drainers = dealt_each-of Of w.subjects calls_of_drainers (with_inboxes (map (λ end. end.inbox) rooms.pumps.items) rooms.returned.subjects.items)
        (All-made (AllZip Of w.subjects) (λ end. end.ports.items) rooms.drainers.items
        (All-weaker (λ (end : DrainEnd S Rest). AreRow w.subjects end.ports.items) (λ (end : DrainEnd S Rest). AllZip Of w.subjects end.ports.items) (λ end are. ports-of w.subjects end.ports.items are) rooms.drainers.items left.to_subjects)) with_inboxes_ports in
        let by_desks = dealt_each-of Of w.subjects calls_of_desks (dealt_each calls_of_drainers (with_inboxes (map (λ end. end.inbox) rooms.pumps.items) rooms.returned.subjects.items))
        (All-made (AllZip Of w.subjects) (λ desk. desk.ports.items) (ended ++ rooms.desks.items)
        (All-weaker (HasItsBoxes w) (λ (desk : EndedDesk S). AllZip Of w.subjects desk.ports.items) (λ desk has. ports-of w.subjects desk.ports.items (desk-row w desk has)) (ended ++ rooms.desks.items) left.desks)) by_drainers in
        let ports = subst (λ (l : List (PartsView (Call S))). AllPorts Of w.subjects l) (sym came.subjects_are) by_desks in
        of-one-box w.subjects subjects ports (subst (AllInboxes w.subjects) (sym subject-inboxes) (inboxes-of w.subjects (map (λ end. end.inbox) rooms.pumps.items) (map-twice (λ inbox. inbox.box) (λ end. end.inbox) rooms.pumps.items ∙ left.pumps)))

    pub drainers-fit : All AreOfOneBox drainers
    drainers-fit =
        let start = empty-ports Of _ w.drainers rooms.returned.drainers.items (sym left.nothing_came.drainer_count) left.nothing_came.drainers_empty in
        let by_pumps = dealt_each-of Of w.drainers outs_of_pumps rooms.returned.drainers.items
        (All-made (AllZip Of w.drainers) (λ end. end.drainers.items) rooms.pumps.items
        (All-weaker (λ (end : PumpEnd S). AreRow w.drainers end.drainers.items) (λ (end : PumpEnd S). AllZip Of w.drainers end.drainers.items) (λ end are. ports-of w.drainers end.drainers.items are) rooms.pumps.items left.to_drainers)) start in
        let with_inboxes_ports = ports-same Of w.drainers (dealt_each outs_of_pumps rooms.returned.drainers.items) (with_inboxes (map (λ end. end.inbox) rooms.drainers.items) (dealt_each outs_of_pumps rooms.returned.drainers.items))
        (with_inboxes-ports (map (λ end. end.inbox) rooms.drainers.items) (dealt_each outs_of_pumps rooms.returned.drainers.items)) by_pumps in
        let by_leaves = dealt-of Of w.drainers rooms.leaves.items (with_inboxes (map (λ end. end.inbox) rooms.drainers.items) (dealt_each outs_of_pumps rooms.returned.drainers.items))
        (ports-of w.drainers rooms.leaves.items left.leaves) with_inboxes_ports in
        let ports = subst (λ (l : List (PartsView (Out S))). AllPorts Of w.drainers l) (sym came.drainers_are) by_leaves in
        of-one-box w.drainers drainers ports (subst (AllInboxes w.drainers) (sym drainer-inboxes) (inboxes-of w.drainers (map (λ end. end.inbox) rooms.drainers.items) (map-twice (λ inbox. inbox.box) (λ end. end.inbox) rooms.drainers.items ∙ left.drainers)))

    pub replies-fit : All AreOfOneBox replies
    replies-fit =
        let start = empty-ports Of _ w.replies rooms.returned.replies.items (sym left.nothing_came.reply_count) left.nothing_came.replies_empty in
        let before = dealt_each answers_of_pumps rooms.returned.replies.items in
        let by_pumps = dealt_each-of Of w.replies answers_of_pumps rooms.returned.replies.items
        (All-made (AllZip Of w.replies) (λ end. end.replies.items) rooms.pumps.items
        (All-weaker (λ (end : PumpEnd S). AreRow w.replies end.replies.items) (λ (end : PumpEnd S). AllZip Of w.replies end.replies.items) (λ end are. ports-of w.replies end.replies.items are) rooms.pumps.items left.to_desks)) start in
        let ports = ports-same Of w.replies before replies (returns-ports before (ended ++ rooms.desks.items) replies came.replies_are) by_pumps in
        let none = empty-inboxes _ w.replies rooms.returned.replies.items (sym left.nothing_came.reply_count) left.nothing_came.replies_empty in
        let inboxes = subst (AllInboxes w.replies) (sym (dealt_each-inboxes answers_of_pumps rooms.returned.replies.items)) none in
        of-one-box w.replies replies ports
        (returns-inboxes w.replies before (ended ++ rooms.desks.items) replies
        (All-weaker (HasItsBoxes w) (λ (desk : EndedDesk S). slice_get w.replies (number_of desk.ports.items) ≡ Some desk.inbox.box)
        (λ desk has. ap (slice_get w.replies) (desk-number w desk has left.some) ∙ has.inbox) (ended ++ rooms.desks.items) left.desks) inboxes came.replies_are)

    -- SETTLED

    module _ (boxes : SettledBoxes S) (subjects_settled : AllZip Settles subjects boxes.subjects.items) (drainers_settled : AllZip Settles drainers boxes.drainers.items) (replies_settled : AllZip Settles replies boxes.replies.items) where
      abbrev Got : {B : Type 0} → SettledView B → Outgoing B → Type 0
      Got box port = GotAll (inbox_in box) port

      -- what the boxes of the subjects received
      calls-got : All (GotEach boxes.subjects.items) calls_of_desks × All (GotEach boxes.subjects.items) calls_of_drainers
      calls-got =
          let with_inboxes_subjects = with_inboxes (map (λ end. end.inbox) rooms.pumps.items) rooms.returned.subjects.items in
          let with_inboxes_count = with_inboxes-count (map (λ end. end.inbox) rooms.pumps.items) rooms.returned.subjects.items ∙ left.nothing_came.subject_count in
          let all = subst (λ (l : List (PartsView (Call S))). AllPorts Got boxes.subjects.items l) came.subjects_are (settled-got subjects boxes.subjects.items subjects_settled) in
          let later_count = dealt_each-count calls_of_drainers with_inboxes_subjects ∙ with_inboxes_count in
          let desks = dealt_each-all Got boxes.subjects.items calls_of_desks (dealt_each calls_of_drainers with_inboxes_subjects)
          (All-made (λ (ports : List (Outgoing (Call S))). length ports ≡ length (dealt_each calls_of_drainers with_inboxes_subjects)) (λ desk. desk.ports.items) (ended ++ rooms.desks.items)
          (All-weaker (HasItsBoxes w) (λ (desk : EndedDesk S). length desk.ports.items ≡ length (dealt_each calls_of_drainers with_inboxes_subjects))
          (λ desk has. row-count w.subjects desk.ports.items (length (dealt_each calls_of_drainers with_inboxes_subjects)) (sym later_count) (desk-row w desk has)) (ended ++ rooms.desks.items) left.desks)) all in
          let drainers_too = dealt_each-all Got boxes.subjects.items calls_of_drainers with_inboxes_subjects
          (All-made (λ (ports : List (Outgoing (Call S))). length ports ≡ length with_inboxes_subjects) (λ end. end.ports.items) rooms.drainers.items
          (All-weaker (λ (end : DrainEnd S Rest). AreRow w.subjects end.ports.items) (λ (end : DrainEnd S Rest). length end.ports.items ≡ length with_inboxes_subjects)
          (λ end are. row-count w.subjects end.ports.items (length with_inboxes_subjects) (sym with_inboxes_count) are) rooms.drainers.items left.to_subjects)) desks.1 in
          (desks.0, drainers_too.0)

      -- what the boxes of the drainers received
      outs-got : GotEach boxes.drainers.items rooms.leaves.items × All (GotEach boxes.drainers.items) outs_of_pumps
      outs-got =
          let before = dealt_each outs_of_pumps rooms.returned.drainers.items in
          let inboxes = map (λ end. end.inbox) rooms.drainers.items in
          let before_count = dealt_each-count outs_of_pumps rooms.returned.drainers.items ∙ left.nothing_came.drainer_count in
          let all = subst (λ (l : List (PartsView (Out S))). AllPorts Got boxes.drainers.items l) came.drainers_are (settled-got drainers boxes.drainers.items drainers_settled) in
          let leaves_count = row-count w.drainers rooms.leaves.items (length (with_inboxes inboxes before)) (sym (with_inboxes-count inboxes before ∙ before_count)) left.leaves in
          let leaves_too = dealt-all Got boxes.drainers.items rooms.leaves.items (with_inboxes inboxes before) leaves_count all in
          let rest = ports-same Got boxes.drainers.items (with_inboxes inboxes before) before (sym (with_inboxes-ports inboxes before)) leaves_too.1 in
          let pumps = dealt_each-all Got boxes.drainers.items outs_of_pumps rooms.returned.drainers.items
          (All-made (λ (ports : List (Outgoing (Out S))). length ports ≡ length rooms.returned.drainers.items) (λ end. end.drainers.items) rooms.pumps.items
          (All-weaker (λ (end : PumpEnd S). AreRow w.drainers end.drainers.items) (λ (end : PumpEnd S). length end.drainers.items ≡ length rooms.returned.drainers.items)
          (λ end are. row-count w.drainers end.drainers.items (length rooms.returned.drainers.items) (sym left.nothing_came.drainer_count) are) rooms.pumps.items left.to_drainers)) rest in
          (leaves_too.0, pumps.0)

      -- what the boxes of the replies received
      answers-got : All (GotEach boxes.replies.items) answers_of_pumps
      answers-got =
          let before = dealt_each answers_of_pumps rooms.returned.replies.items in
          let rest = ports-same Got boxes.replies.items replies before (sym (returns-ports before (ended ++ rooms.desks.items) replies came.replies_are)) (settled-got replies boxes.replies.items replies_settled) in
          let pumps = dealt_each-all Got boxes.replies.items answers_of_pumps rooms.returned.replies.items
          (All-made (λ (ports : List (Outgoing (Reply S))). length ports ≡ length rooms.returned.replies.items) (λ end. end.replies.items) rooms.pumps.items
          (All-weaker (λ (end : PumpEnd S). AreRow w.replies end.replies.items) (λ (end : PumpEnd S). length end.replies.items ≡ length rooms.returned.replies.items)
          (λ end are. row-count w.replies end.replies.items (length rooms.returned.replies.items) (sym left.nothing_came.reply_count) are) rooms.pumps.items left.to_desks)) rest in
          pumps.0

      -- the box of the replies to a desk
      replies-of : (desk : EndedDesk S) → HasItsBoxes w desk → slice_get (inboxes_of replies) (number_of desk.ports.items) ≡ Some (Some desk.inbox) → AreRepliesOf boxes.replies.items desk
      replies-of desk has at =
          let here = settled-at replies boxes.replies.items has.number desk.inbox replies_settled
          (ap (slice_get (inboxes_of replies)) (sym (desk-number w desk has left.some)) ∙ at) in
          record { number = has.number; ports = desk-ports w desk has; box = here.0; stood = here.1; received = here.2 }

      pub have-settled : HaveSettled boxes rooms.leaves.items (ended ++ rooms.desks.items) rooms.pumps.items rooms.drainers.items
      have-settled =
          let before = dealt_each answers_of_pumps rooms.returned.replies.items in
          let before_count = dealt_each-count answers_of_pumps rooms.returned.replies.items ∙ left.nothing_came.reply_count in
          let within = All-weaker (HasItsBoxes w) (λ (desk : EndedDesk S). number_of desk.ports.items < length before)
          (λ desk has. let number = desk-number w desk has left.some in let below = slice_get_within w.replies has.number desk.inbox.box has.inbox in omega (arith, number, below, before_count))
          (ended ++ rooms.desks.items) left.desks in
          let at = returns-at before (ended ++ rooms.desks.items) replies within came.replies_are in
          record {
            of_pumps = whole (λ end. end.inbox) rooms.pumps.items boxes.subjects.items left.pumps_done
                (settled-came subjects (map (λ end. end.inbox) rooms.pumps.items) boxes.subjects.items subjects_settled subject-inboxes);
            of_drainers = whole (λ end. end.inbox) rooms.drainers.items boxes.drainers.items left.drainers_done
                (settled-came drainers (map (λ end. end.inbox) rooms.drainers.items) boxes.drainers.items drainers_settled drainer-inboxes);
            of_desks = λ k d within_k. replies-of _ (left.desks k d within_k) (at k d within_k);
            subjects_empty = settled-empty subjects boxes.subjects.items subjects_settled;
            drainers_empty = settled-empty drainers boxes.drainers.items drainers_settled;
            replies_empty = settled-empty replies boxes.replies.items replies_settled;
            by_desks = All-source (GotEach boxes.subjects.items) (λ desk. desk.ports.items) (ended ++ rooms.desks.items) calls-got.0;
            by_drainers = All-source (GotEach boxes.subjects.items) (λ end. end.ports.items) rooms.drainers.items calls-got.1;
            to_drainers = All-source (GotEach boxes.drainers.items) (λ end. end.drainers.items) rooms.pumps.items outs-got.1;
            to_leave = outs-got.0;
            to_desks = All-source (GotEach boxes.replies.items) (λ end. end.replies.items) rooms.pumps.items answers-got;
          }
