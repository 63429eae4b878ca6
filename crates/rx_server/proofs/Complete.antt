-- The boxes of a server settle just where each of its desks came back once.
use Rattle.std.proofs.Common.{◌≡◌, ◌==◌, ◌∙◌, sym, refl, ap, subst, ℕ, Bool, zero, suc, ◌⊎◌, ◌+◌, ◌<◌, ◌≤◌, List, [], ◌∷◌, ◌++◌, length, map, slice_get, Some, inl, inr, ⊎_elim, arith}
use Rattle.std.specs.Option.{option_map}
use Rattle.std.proofs.lemmas.List.{length-map}
use Rattle.std.proofs.lemmas.List.Elements.{All-cons, All-contains, All-head, All-map, All-nil, All-same, All-tail, All-weaker}
use Rattle.std.proofs.lemmas.Option.{slice_get-map, slice_get_within}
use Rattle.std.proofs.lemmas.Slice.Zip.{AllZip-long}
use Rattle.std.specs.List.{All, AllZip, Contains, count_by, enumerate_from, range_with_len, zip}
use Rattle.rx_hub.specs.Hubs.{HubView}
use Rattle.rx_mailbox.specs.Boxes.{Box, Incoming, Outgoing}
use Rattle.rx_mailbox.specs.Passes.{SettledView}
use Rattle.rx_mailbox.specs.Settling.{IsEachOnce}
use Rattle.rx_pump.specs.declared.call.Call.{Call}
use Rattle.rx_pump.specs.declared.call_desk.ended_desk.EndedDesk.{EndedDesk}
use Rattle.rx_pump.specs.declared.out.Out.{Out}
use Rattle.rx_pump.specs.declared.pump.pump_end.PumpEnd.{PumpEnd}
use Rattle.rx_pump.specs.declared.reply.Reply.{Reply}
use Rattle.rx_pump.specs.Desks.{DeskView}
use Rattle.rx_pump.specs.Pumps.{PumpView}
use Rattle.rx_mailbox.specs.PortRows.{with_bye}
use Rattle.rx_pump.specs.Serving as pump_serving
use Rattle.rx_sink.specs.Acts.{Acts}
use Rattle.rx_drain.specs.declared.drainer.drain_end.DrainEnd.{DrainEnd}
use Rattle.rx_drain.specs.Drainers.{DrainerView}
use Rattle.rx_drain.specs.Serving as drainer_serving
use Rattle.rx_mailbox.specs.Parts.{FirstUnsettled, PartsView, Settles, dealt_each, with_inboxes}
use Rattle.rx_mailbox.proofs.Gathered.{dealt-inboxes, dealt_each-count, dealt_each-inboxes, with_inboxes-all, with_inboxes-count, with_inboxes-ports, inboxes_of}
use Rattle.rx_server.specs.declared.close.close_fault.CloseCause.{CloseCause}
use Rattle.rx_server.specs.declared.close.close_fault.CloseCause.TheVariants.{Unsettled}
use Rattle.rx_server.specs.declared.close.close_fault.CloseFault.{CloseFault}
use Rattle.rx_server.specs.declared.close.returned.Returned.{Returned}
use Rattle.rx_server.specs.declared.wired.start_fault.Role.{Role}
use Rattle.rx_server.specs.declared.wired.start_fault.Role.TheVariants.{Drainer, Pump, Worker}
use Rattle.rx_server.specs.Leaving.{HasItsBoxes}
use Rattle.rx_server.specs.Returning.{AreEmpty, CameTwice, EachDeskOnce, HaveComeBack, HaveSettledSo, IsUnsettledAt, Unsettles, number_of}
use Rattle.rx_server.specs.Servers.{IsEndOf, IsWhole, ServerView}
use Rattle.rx_server.specs.Wirings.{Wiring, desk_of, drainer_of, ports_at, pump_of}
use Rattle.rx_server.proofs.Arriving.{all-at}
use Rattle.rx_server.proofs.Desks.{bye-places, end-boxes}
use Rattle.rx_server.proofs.Ending.{desks-many, drainers-many, pumps-many}
use Rattle.rx_server.proofs.Joining.{hubs-count, zip-count}
use Rattle.rx_server.proofs.Numbers.{AreEach, HaveNumbers, IsRow, each-both, each-one, each-port, each-range, each-settles, each-turned, first-before, first-settled, found, none-yet, numbers-dealt_each, numbers-same, row-new, row-stays, settled-once, times-behind, times-made, twice}
use Rattle.rx_server.proofs.Returning.{All-here, All-made, desk-number, desk-ports, desk-row, returns-at, returns-count, returns-ports}

-- ROWS OF THE PARTS OF A SERVER

module _ {S : Type 0} (w : Wiring S) where
  -- what pumps left has rows of their numbers, and each of their inboxes has all its ports
  pump-rows : (k : ℕ) (xs : List (HubView × Box (Call S))) (ends : List (PumpEnd S)) → AllZip pump_serving.HasPumped (map (pump_of w) (enumerate_from k xs)) ends
      → AllZip (IsRow (length w.drainers)) (range_with_len k (length xs)) (map (λ end. end.drainers.items) ends)
      × AllZip (IsRow (length w.replies)) (range_with_len k (length xs)) (map (λ end. end.replies.items) ends)
  pump-rows k [] [] all = (tt, tt)
  pump-rows k [] (end ∷ ends) all = absurd all
  pump-rows k (x ∷ xs) [] all = absurd all
  pump-rows k (x ∷ xs) (end ∷ ends) all =
      let rest = pump-rows (k + 1) xs ends all.1 in (
        (row-stays (length w.drainers) k _ end.drainers.items all.0.1.drainers (row-new k w.drainers), rest.0),
        (row-stays (length w.replies) k _ end.replies.items all.0.1.callers (row-new k w.replies), rest.1),
      )

  pump-inboxes : (k : ℕ) (xs : List (HubView × Box (Call S))) (ends : List (PumpEnd S)) → AllZip pump_serving.HasPumped (map (pump_of w) (enumerate_from k xs)) ends
      → All (λ inbox. inbox.ports ≡ length w.replies + length w.drainers) (map (λ end. end.inbox) ends)
  pump-inboxes k [] [] all = All-nil (λ inbox. inbox.ports ≡ length w.replies + length w.drainers)
  pump-inboxes k [] (end ∷ ends) all = absurd all
  pump-inboxes k (x ∷ xs) [] all = absurd all
  pump-inboxes k (x ∷ xs) (end ∷ ends) all =
      All-cons (λ inbox. inbox.ports ≡ length w.replies + length w.drainers) end.inbox (map (λ end. end.inbox) ends)
      all.0.1.ports (pump-inboxes (k + 1) xs ends all.1)

  -- and so has what desks left
  desk-rows : 0 < length w.subjects → (desks : List (EndedDesk S)) → All (HasItsBoxes w) desks
      → AllZip (IsRow (length w.subjects)) (map (λ desk. number_of desk.ports.items) desks) (map (λ desk. desk.ports.items) desks)
  desk-rows some [] have = tt
  desk-rows some (desk ∷ desks) have =
      let has = All-head (HasItsBoxes w) desk desks have in (
        record {
          many = sym (length-map desk.ports.items (λ port. port.box)) ∙ ap length (desk-row w desk has);
          same = subst (λ n. All (λ port. port.number ≡ n) desk.ports.items) (sym (desk-number w desk has some)) (desk-ports w desk has);
        },
        desk-rows some desks (All-tail (HasItsBoxes w) desk desks have),
      )

module _ {S Rest : Type 0} (acts : Acts S Rest) (w : Wiring S) (keeps : Bool) where
  -- and drainers, of the numbers behind those of the desks
  drainer-rows : (k from : ℕ) (boxes : List (Box (Out S))) (ends : List (DrainEnd S Rest)) → length w.replies + k ≡ from → AllZip (drainer_serving.HasDrained acts) (map (drainer_of w keeps) (enumerate_from k boxes)) ends
      → AllZip (IsRow (length w.subjects)) (range_with_len from (length boxes)) (map (λ end. end.ports.items) ends)
  drainer-rows k from [] [] is all = tt
  drainer-rows k from [] (end ∷ ends) is all = absurd all
  drainer-rows k from (box ∷ boxes) [] is all = absurd all
  drainer-rows k from (box ∷ boxes) (end ∷ ends) is all = (
    row-stays (length w.subjects) from (ports_at (length w.replies + k) w.subjects) end.ports.items all.0.1.ports (subst (λ n. IsRow {B = Call S} (length w.subjects) n (ports_at (length w.replies + k) w.subjects)) is (row-new (length w.replies + k) w.subjects)),
    drainer-rows (k + 1) (from + 1) boxes ends (omega (arith, is)) all.1,
  )

  drainer-inboxes : (k : ℕ) (boxes : List (Box (Out S))) (ends : List (DrainEnd S Rest)) → AllZip (drainer_serving.HasDrained acts) (map (drainer_of w keeps) (enumerate_from k boxes)) ends
      → All (λ inbox. inbox.ports ≡ length w.subjects + 1) (map (λ end. end.inbox) ends)
  drainer-inboxes k [] [] all = All-nil (λ inbox. inbox.ports ≡ length w.subjects + 1)
  drainer-inboxes k [] (end ∷ ends) all = absurd all
  drainer-inboxes k (box ∷ boxes) [] all = absurd all
  drainer-inboxes k (box ∷ boxes) (end ∷ ends) all =
      All-cons (λ inbox. inbox.ports ≡ length w.subjects + 1) end.inbox (map (λ end. end.inbox) ends)
      all.0.1.places.count (drainer-inboxes (k + 1) boxes ends all.1)

-- DESKS

module _ {S : Type 0} where
  -- where each came back once, none came twice
  not-twice : (made : ℕ) (desks : List (EndedDesk S)) → All (λ desk. number_of desk.ports.items < made) desks → EachDeskOnce made desks → ¬ CameTwice desks
  not-twice made desks below each came =
      let f : EndedDesk S → ℕ = λ desk. number_of desk.ports.items in
      let within : f came.one < made = All-here (λ desk. f desk < made) came.first came.one (came.between ++ came.other ∷ came.rest) (subst (All (λ desk. f desk < made)) (sym came.parts) below) in
      let once = subst (λ l. count_by (λ desk. f desk == f came.one) l ≡ 1) (sym came.parts) (each (f came.one) within) in
      let two = twice f (f came.one) came.first came.one came.between came.other came.rest refl (sym came.same) in
      omega (arith, once, two)

-- WHAT IS WANTING

module _ {S Rest : Type 0} (acts : Acts S Rest) (server : ServerView S Rest) (whole : IsWhole server) (pump_ends : List (PumpEnd S)) (drain_ends : List (DrainEnd S Rest)) (desks : List (EndedDesk S))
    (pumped : AllZip pump_serving.HasPumped server.pumps pump_ends) (drained : AllZip (drainer_serving.HasDrained acts) server.drainers drain_ends) (own : All (IsEndOf server.made) desks) where
  abbrev w : Wiring S
  w = whole.wiring

  abbrev number : EndedDesk S → ℕ
  number desk = number_of desk.ports.items

  -- the parts as they were wired
  some : 0 < length w.subjects
  some = omega (arith, whole.some, whole.wired.boxes.subjects)

  has-boxes : All (HasItsBoxes w) desks
  has-boxes = All-weaker (IsEndOf server.made) (HasItsBoxes w) (λ end is. end-boxes w server.made end whole.wired.desks_are is) desks own

  below : All (λ desk. number desk < length w.replies) desks
  below =
      All-weaker (HasItsBoxes w) (λ desk. number desk < length w.replies)
      (λ desk has. let same = desk-number w desk has some in let within = slice_get_within w.replies has.number desk.inbox.box has.inbox in omega (arith, same, within)) desks has-boxes

  pumps-wired : AllZip pump_serving.HasPumped (map (pump_of w) (enumerate_from 0 (zip whole.hubs w.subjects))) pump_ends
  pumps-wired = subst (λ (l : List (PumpView S)). AllZip pump_serving.HasPumped l pump_ends) whole.wired.pumps_are pumped

  drainers-wired : AllZip (drainer_serving.HasDrained acts) (map (drainer_of w whole.keeps) (enumerate_from 0 w.drainers)) drain_ends
  drainers-wired = subst (λ (l : List (DrainerView S Rest)). AllZip (drainer_serving.HasDrained acts) l drain_ends) whole.wired.drainers_are drained

  -- there are as many as boxes
  hubs-many : length (zip whole.hubs w.subjects) ≡ length w.subjects
  hubs-many = zip-count whole.hubs w.subjects (hubs-count server.config.subjects.items whole.hubs whole.wired.hubs_are ∙ sym whole.wired.boxes.subjects)

  pump-ends-many : length pump_ends ≡ length w.subjects
  pump-ends-many = AllZip-long pump_serving.HasPumped server.pumps pump_ends pumped ∙ pumps-many acts server whole

  drain-ends-many : length drain_ends ≡ length w.drainers
  drain-ends-many = AllZip-long (drainer_serving.HasDrained acts) server.drainers drain_ends drained ∙ drainers-many acts server whole

  -- the inbox of a desk has a port of each pump
  desk-inbox : (end : EndedDesk S) → IsEndOf server.made end → end.inbox.ports ≡ length w.subjects
  desk-inbox end is =
      let P = λ (desk : DeskView S). desk.inbox.ports ≡ length w.subjects in
      let made = All-same P server.made (map (desk_of w) (enumerate_from 0 w.replies)) whole.wired.desks_are (All-map P (desk_of w) (enumerate_from 0 w.replies) (λ i d within. refl)) in
      is.count ∙ all-at P server.made is.number is.one made is.stood

  module _ (start : Returned S) (nothing : AreEmpty (length pump_ends) (length drain_ends) (length server.made) start) (calls : List (PartsView (Call S))) (outs : List (PartsView (Out S)))
      (answers : List (PartsView (Reply S))) (came : HaveComeBack start (map with_bye server.leaves) desks pump_ends drain_ends calls outs answers) where
    -- THE BOXES OF THE SUBJECTS

    abbrev pump_inboxes : List (Incoming (Call S))
    pump_inboxes = map (λ end. end.inbox) pump_ends

    abbrev calls_of_drainers : List (List (Outgoing (Call S)))
    calls_of_drainers = map (λ end. end.ports.items) drain_ends

    abbrev calls_of_desks : List (List (Outgoing (Call S)))
    calls_of_desks = map (λ desk. desk.ports.items) desks

    abbrev call_numbers : List ℕ
    call_numbers = range_with_len (length w.replies) (length w.drainers) ++ map number desks

    with_inboxes-many : length (with_inboxes pump_inboxes start.subjects.items) ≡ length w.subjects
    with_inboxes-many = with_inboxes-count pump_inboxes start.subjects.items ∙ nothing.subject_count ∙ pump-ends-many

    calls-numbers : HaveNumbers call_numbers calls
    calls-numbers =
        let first = with_inboxes pump_inboxes start.subjects.items in
        let none = numbers-same [] start.subjects.items first (with_inboxes-ports pump_inboxes start.subjects.items) (none-yet (length server.made + length drain_ends) start.subjects.items nothing.subjects_empty) in
        let zeroth : length w.replies + 0 ≡ length w.replies = omega arith in
        let by_drainers = numbers-dealt_each (length w.subjects) [] (range_with_len (length w.replies) (length w.drainers)) calls_of_drainers first with_inboxes-many
        (drainer-rows acts w whole.keeps 0 (length w.replies) w.drainers drain_ends zeroth drainers-wired) none in
        let by_desks = numbers-dealt_each (length w.subjects) (range_with_len (length w.replies) (length w.drainers)) (map number desks) calls_of_desks (dealt_each calls_of_drainers first)
        (dealt_each-count calls_of_drainers first ∙ with_inboxes-many) (desk-rows w some desks has-boxes) by_drainers in
        subst (HaveNumbers call_numbers) (sym came.subjects_are) by_desks

    calls-inboxes : inboxes_of calls ≡ map Some pump_inboxes
    calls-inboxes =
        let first = with_inboxes pump_inboxes start.subjects.items in
        ap inboxes_of came.subjects_are ∙ dealt_each-inboxes calls_of_desks (dealt_each calls_of_drainers first) ∙ dealt_each-inboxes calls_of_drainers first
        ∙ with_inboxes-all pump_inboxes start.subjects.items (length-map pump_ends (λ end. end.inbox) ∙ sym nothing.subject_count)

    desks-each : EachDeskOnce (length server.made) desks → AreEach 0 (length w.replies) (map number desks)
    desks-each each = record {
      within = All-made (λ n. (0 ≤ n) × (n < 0 + length w.replies)) number desks
          (All-weaker (λ desk. number desk < length w.replies) (λ desk. (0 ≤ number desk) × (number desk < 0 + length w.replies)) (λ desk is. (omega arith, omega (arith, is))) desks below);
      once = λ n low high. times-made number n desks ∙ each n (omega (arith, high, desks-many acts server whole));
    }

    calls-settle : EachDeskOnce (length server.made) desks → (settled : List (SettledView (Call S))) (place : ℕ) → ¬ FirstUnsettled calls settled place
    calls-settle each =
        let zeroth : length w.replies ≡ 0 + length w.replies = omega arith in
        let drainers = subst (λ n. AreEach n (length w.drainers) (range_with_len (length w.replies) (length w.drainers))) zeroth (each-range (length w.replies) (length w.drainers)) in
        each-settles (length w.replies + length w.drainers) call_numbers calls pump_inboxes calls-inboxes (pump-inboxes w 0 (zip whole.hubs w.subjects) pump_ends pumps-wired) calls-numbers
        (each-turned 0 (length w.replies + length w.drainers) (map number desks) (range_with_len (length w.replies) (length w.drainers))
        (each-both 0 (length w.replies) (length w.drainers) (map number desks) (range_with_len (length w.replies) (length w.drainers)) (desks-each each) drainers))

    calls-some : 0 < length calls
    calls-some =
        let count = ap length came.subjects_are ∙ dealt_each-count calls_of_desks (dealt_each calls_of_drainers (with_inboxes pump_inboxes start.subjects.items))
        ∙ dealt_each-count calls_of_drainers (with_inboxes pump_inboxes start.subjects.items) ∙ with_inboxes-many in
        omega (arith, some, count)

    -- one that settled tells that each desk came back once
    desks-from : (parts : PartsView (Call S)) (box : SettledView (Call S)) → slice_get calls 0 ≡ Some parts → Settles parts box → EachDeskOnce (length server.made) desks
    desks-from parts box stood settles n within =
        let low : n < length w.replies = omega (arith, within, desks-many acts server whole) in
        sym (times-made number n desks) ∙ sym (times-behind (length w.replies) (length w.drainers) n (map number desks) low)
        ∙ settled-once (length w.replies + length w.drainers) call_numbers calls pump_inboxes calls-inboxes (pump-inboxes w 0 (zip whole.hubs w.subjects) pump_ends pumps-wired) calls-numbers
        0 parts box stood settles n (omega (arith, low))

    calls-settled : (settled : List (SettledView (Call S))) → AllZip Settles calls settled → EachDeskOnce (length server.made) desks
    calls-settled settled all = let one = first-settled calls settled calls-some all in desks-from one.0 one.1 one.2 one.3

    -- the first that cannot settle is the first of all, and a desk is wanting
    calls-unsettled : (settled : List (SettledView (Call S))) (place : ℕ) → FirstUnsettled calls settled place → (place ≡ 0) × ¬ EachDeskOnce (length server.made) desks
    calls-unsettled settled zero first = (refl, λ each. calls-settle each settled zero first)
    calls-unsettled settled (suc place) first =
        let one = first-before place calls settled calls-some first.before in
        absurd (calls-settle (desks-from one.0 one.1 one.2 one.3) settled (suc place) first)

    -- THE BOXES OF THE DRAINERS

    abbrev drainer_inboxes : List (Incoming (Out S))
    drainer_inboxes = map (λ end. end.inbox) drain_ends

    abbrev outs_of_pumps : List (List (Outgoing (Out S)))
    outs_of_pumps = map (λ end. end.drainers.items) pump_ends

    abbrev out_numbers : List ℕ
    out_numbers = range_with_len 0 (length w.subjects) ++ length w.subjects ∷ []

    rows-of-pumps : AllZip (IsRow (length w.drainers)) (range_with_len 0 (length w.subjects)) outs_of_pumps
        × AllZip (IsRow (length w.replies)) (range_with_len 0 (length w.subjects)) (map (λ end. end.replies.items) pump_ends)
    rows-of-pumps =
        subst (λ n. AllZip (IsRow (length w.drainers)) (range_with_len 0 n) outs_of_pumps × AllZip (IsRow (length w.replies)) (range_with_len 0 n) (map (λ end. end.replies.items) pump_ends)) hubs-many
        (pump-rows w 0 (zip whole.hubs w.subjects) pump_ends pumps-wired)

    leave-row : IsRow (length w.drainers) (length w.subjects) (map with_bye server.leaves)
    leave-row =
        row-stays (length w.drainers) (length w.subjects) server.leaves (map with_bye server.leaves) (bye-places server.leaves)
        (subst (IsRow (length w.drainers) (length w.subjects)) (sym whole.wired.leaves_are) (row-new (length w.subjects) w.drainers))

    outs-numbers : HaveNumbers out_numbers outs
    outs-numbers =
        let dealt_ = dealt_each outs_of_pumps start.drainers.items in
        let many = nothing.drainer_count ∙ drain-ends-many in
        let none = none-yet (length pump_ends + 1) start.drainers.items nothing.drainers_empty in
        let by_pumps = numbers-dealt_each (length w.drainers) [] (range_with_len 0 (length w.subjects)) outs_of_pumps start.drainers.items many rows-of-pumps.0 none in
        let with_inboxes_ = numbers-same (range_with_len 0 (length w.subjects)) dealt_ (with_inboxes drainer_inboxes dealt_) (with_inboxes-ports drainer_inboxes dealt_) by_pumps in
        subst (HaveNumbers out_numbers) (sym came.drainers_are)
        (numbers-dealt_each (length w.drainers) (range_with_len 0 (length w.subjects)) (length w.subjects ∷ []) (map with_bye server.leaves ∷ []) (with_inboxes drainer_inboxes dealt_)
        (with_inboxes-count drainer_inboxes dealt_ ∙ dealt_each-count outs_of_pumps start.drainers.items ∙ many) (leave-row, tt) with_inboxes_)

    outs-inboxes : inboxes_of outs ≡ map Some drainer_inboxes
    outs-inboxes =
        let dealt_ = dealt_each outs_of_pumps start.drainers.items in
        ap inboxes_of came.drainers_are ∙ dealt-inboxes (map with_bye server.leaves) (with_inboxes drainer_inboxes dealt_)
        ∙ with_inboxes-all drainer_inboxes dealt_ (length-map drain_ends (λ end. end.inbox) ∙ sym (dealt_each-count outs_of_pumps start.drainers.items ∙ nothing.drainer_count))

    outs-settle : (settled : List (SettledView (Out S))) (place : ℕ) → ¬ FirstUnsettled outs settled place
    outs-settle =
        let zeroth : length w.subjects ≡ 0 + length w.subjects = omega arith in
        each-settles (length w.subjects + 1) out_numbers outs drainer_inboxes outs-inboxes (drainer-inboxes acts w whole.keeps 0 w.drainers drain_ends drainers-wired) outs-numbers
        (each-both 0 (length w.subjects) 1 (range_with_len 0 (length w.subjects)) (length w.subjects ∷ []) (each-range 0 (length w.subjects))
        (subst (λ n. AreEach n 1 (length w.subjects ∷ [])) zeroth (each-one (length w.subjects))))

    -- THE BOXES OF THE REPLIES

    abbrev before : List (PartsView (Reply S))
    before = dealt_each (map (λ end. end.replies.items) pump_ends) start.replies.items

    before-many : length before ≡ length w.replies
    before-many = dealt_each-count (map (λ end. end.replies.items) pump_ends) start.replies.items ∙ nothing.reply_count ∙ desks-many acts server whole

    answers-numbers : HaveNumbers (range_with_len 0 (length w.subjects)) answers
    answers-numbers =
        numbers-same (range_with_len 0 (length w.subjects)) before answers (returns-ports before desks answers came.replies_are)
        (numbers-dealt_each (length w.replies) [] (range_with_len 0 (length w.subjects)) (map (λ end. end.replies.items) pump_ends) start.replies.items
        (nothing.reply_count ∙ desks-many acts server whole) rows-of-pumps.1 (none-yet (length pump_ends) start.replies.items nothing.replies_empty))

    -- the desk of a box, and its inbox, came back
    desk-at : EachDeskOnce (length server.made) desks → (place : ℕ) (parts : PartsView (Reply S)) → slice_get answers place ≡ Some parts
        → (desk : EndedDesk S) × Contains desks desk × (number desk ≡ place) × (parts.inbox ≡ Some desk.inbox)
    desk-at each place parts stood =
        let count = returns-count before desks answers came.replies_are in
        let within = slice_get_within answers place parts stood in
        let one = found number place desks (each place (omega (arith, within, count, before-many, desks-many acts server whole))) in
        let at = returns-at before desks answers (All-weaker (λ desk. number desk < length w.replies) (λ desk. number desk < length before) (λ desk is. omega (arith, is, before-many)) desks below) came.replies_are in
        let here : slice_get (inboxes_of answers) place ≡ Some (Some one.0.inbox) =
        subst (λ n. slice_get (inboxes_of answers) n ≡ Some (Some one.0.inbox)) one.2 (All-contains (λ desk. slice_get (inboxes_of answers) (number desk) ≡ Some (Some desk.inbox)) desks one.0 at one.1) in
        let mine : slice_get (inboxes_of answers) place ≡ Some parts.inbox = slice_get-map (λ parts. parts.inbox) answers place ∙ ap (option_map (λ parts. parts.inbox)) stood in
        let both : Some parts.inbox ≡ Some (Some one.0.inbox) = sym mine ∙ here in
        (one.0, one.1, one.2, cc)

    answers-settle : EachDeskOnce (length server.made) desks → (settled : List (SettledView (Reply S))) (place : ℕ) → ¬ FirstUnsettled answers settled place
    answers-settle each settled place first =
        let one = desk-at each place first.parts first.stood in
        let ports : one.0.inbox.ports ≡ length w.subjects = desk-inbox one.0 (All-contains (IsEndOf server.made) desks one.0 own one.1) in
        let numbers = all-at (λ (parts : PartsView (Reply S)). map (λ port. port.number) parts.ports ≡ range_with_len 0 (length w.subjects)) answers place first.parts answers-numbers first.stood in
        let once = each-port (length w.subjects) first.parts.ports (range_with_len 0 (length w.subjects)) numbers (each-range 0 (length w.subjects)) in
        first.cannot one.0.inbox one.3 (subst (λ n. IsEachOnce n first.parts.ports) (sym ports) once)

    -- ALL BOXES

    -- only the first box cannot settle, and then a desk is wanting
    stops-wanting : (role : Role) (place : ℕ) → IsUnsettledAt role place calls outs answers → (role ≡ Pump) × (place ≡ 0) × ¬ EachDeskOnce (length server.made) desks
    stops-wanting Pump place stops = let first = calls-unsettled stops.0 place stops.1 in (refl, first.0, first.1)
    stops-wanting Drainer place stops = absurd (outs-settle stops.1.0 place stops.1.1)
    stops-wanting Worker place stops = absurd (answers-settle (calls-settled stops.0.0 stops.0.1) stops.2.0 place stops.2.1)

  -- where a box did not settle
  pub lacks-one : (fault : CloseFault) → Unsettles (length server.made) (map with_bye server.leaves) desks pump_ends drain_ends fault
      → (fault ≡ record { thread = Pump; index = 0; cause = Unsettled }) × ¬ EachDeskOnce (length server.made) desks
  lacks-one fault why =
      let wanting : (fault.thread ≡ Pump) × (fault.index ≡ 0) × ¬ EachDeskOnce (length server.made) desks = ⊎_elim
      (λ came. (came.1, came.2, not-twice-here came.0))
      (λ first. stops-wanting first.start first.nothing_came first.calls first.outs first.answers first.came fault.thread fault.index first.stops)
      why.1 in
      (one-fault fault wanting.0 wanting.1 why.0, wanting.2)
    where
      one-fault : (f : CloseFault) → f.thread ≡ Pump → f.index ≡ 0 → f.cause ≡ Unsettled → f ≡ record { thread = Pump; index = 0; cause = Unsettled }
      one-fault f thread index cause =
          ap (λ (role : Role). record { thread = role; index = f.index; cause = f.cause }) thread
          ∙ ap (λ (n : ℕ). record { thread = Pump; index = n; cause = f.cause }) index
          ∙ ap (λ (c : CloseCause). record { thread = Pump; index = 0; cause = c }) cause

      not-twice-here : CameTwice desks → ¬ EachDeskOnce (length server.made) desks
      not-twice-here came each =
          not-twice (length server.made) desks
          (All-weaker (λ desk. number desk < length w.replies) (λ desk. number desk < length server.made) (λ desk is. omega (arith, is, desks-many acts server whole)) desks below) each came

  -- and where they settled, each desk came back once
  pub came-each : (settled : List (SettledView (Call S))) → HaveSettledSo (length server.made) (map with_bye server.leaves) desks pump_ends drain_ends settled → EachDeskOnce (length server.made) desks
  came-each settled so = calls-settled so.start so.nothing_came so.calls so.outs so.answers so.came settled so.settle
