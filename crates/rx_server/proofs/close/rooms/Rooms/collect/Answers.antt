use Rattle.std.proofs.Common.{◌≡◌, ◌∙◌, ◌+◌, ◌<◌, ◌++◌, ℕ, List, sym, ap, subst, length, map, None, arith}
use Rattle.std.proofs.lemmas.List.{length-map}
use Rattle.std.proofs.lemmas.List.Elements.{All-weaker}
use Rattle.std.proofs.lemmas.Option.{slice_get_within}
use Rattle.std.proofs.lemmas.Result.{err_from_is_err_and}
use Rattle.std.specs.List.{All, FoldsTo}
use Rattle.rx_pump.specs.declared.call_desk.ended_desk.EndedDesk.{EndedDesk}
use Rattle.rx_pump.specs.declared.pump.pump_end.PumpEnd.{PumpEnd}
use Rattle.rx_drain.specs.declared.drainer.drain_end.DrainEnd.{DrainEnd}
use Rattle.rx_mailbox.specs.Parts.{HasRoom, IsEmpty, LacksInbox, PartsView, dealt, dealt_each, with_inboxes, missing}
use Rattle.rx_mailbox.proofs.Gathered.{dealt_each-count, with_inboxes-count}
use Rattle.rx_mailbox.proofs.Room.{dealt_each-lacks, dealt_each-missing, dealt_each-none, dealt_each-room, empty-lacks, empty-missing, empty-room, with_inboxes-room, not-full}
use Rattle.rx_server.specs.Leaving.{AreRow, HasItsBoxes}
use Rattle.rx_server.specs.Returning.{ReturnsInbox, number_of}
use Rattle.rx_server.proofs.Returning.{All-back, All-front, FoldsTo-append, again-behind, again-front, came-twice, desk-number, desk-row, returns-count}
use Rattle.rx_server.proofs.Settled.{ends-count, row-count, rows-dealt}
use Rattle.rx_server.proofs.close.rooms.Rooms.collect.Goals as goal

pub return_pumps-subjects-requires-clause-drainers : goal.return_pumps-subjects-requires-clause-drainers
return_pumps-subjects-requires-clause-drainers g c =
    let w = c.requires.0 in
    let left = c.requires.1 in
    let n = length c.args.self.returned.drainers.items in
    All-weaker (λ (end : PumpEnd _). AreRow w.drainers end.drainers.items) (λ (end : PumpEnd _). length end.drainers.items ≡ n)
    (λ end are. row-count w.drainers end.drainers.items n (sym left.nothing_came.drainer_count) are) c.args.self.pumps.items left.to_drainers

pub return_pumps-subjects-requires-clause-replies : goal.return_pumps-subjects-requires-clause-replies
return_pumps-subjects-requires-clause-replies g c =
    let w = c.requires.0 in
    let left = c.requires.1 in
    let n = length c.args.self.returned.replies.items in
    All-weaker (λ (end : PumpEnd _). AreRow w.replies end.replies.items) (λ (end : PumpEnd _). length end.replies.items ≡ n)
    (λ end are. row-count w.replies end.replies.items n (sym left.nothing_came.reply_count) are) c.args.self.pumps.items left.to_desks

pub return_pumps-subjects-requires-clause-inboxes : goal.return_pumps-subjects-requires-clause-inboxes
return_pumps-subjects-requires-clause-inboxes g c =
    let came = c.requires.1.nothing_came in
    All-weaker (IsEmpty _) (λ (parts : PartsView _). parts.inbox ≡ None) (λ parts is. is.no_inbox) c.args.self.returned.subjects.items came.subjects_empty

pub return_pumps-subjects-requires-clause-drainers_fit : goal.return_pumps-subjects-requires-clause-drainers_fit
return_pumps-subjects-requires-clause-drainers_fit g c =
    let w = c.requires.0 in
    let left = c.requires.1 in
    let ends = ends-count w.subjects (λ end. end.inbox.box) c.args.self.pumps.items left.pumps in
    All-weaker (HasRoom (length w.subjects + 1)) (HasRoom (length c.args.self.pumps.items)) (λ parts has. omega (arith, has, ends)) c.args.self.returned.drainers.items
    (empty-room (length w.subjects + 1) c.args.self.returned.drainers.items left.nothing_came.drainers_empty)

pub return_pumps-subjects-requires-clause-replies_fit : goal.return_pumps-subjects-requires-clause-replies_fit
return_pumps-subjects-requires-clause-replies_fit g c =
    let w = c.requires.0 in
    let left = c.requires.1 in
    let ends = ends-count w.subjects (λ end. end.inbox.box) c.args.self.pumps.items left.pumps in
    All-weaker (HasRoom (length w.subjects)) (HasRoom (length c.args.self.pumps.items)) (λ parts has. omega (arith, has, ends)) c.args.self.returned.replies.items
    (empty-room (length w.subjects) c.args.self.returned.replies.items left.nothing_came.replies_empty)

pub return_drainers-taken-requires-clause-count : goal.return_drainers-taken-requires-clause-count
return_drainers-taken-requires-clause-count g c =
    let w = c.requires.0 in
    let left = c.requires.1 in
    let d1 = ap length c.return_pumps-subjects.ensures.drainers ∙ dealt_each-count (map (λ end. end.drainers.items) c.args.self.pumps.items) c.args.self.returned.drainers.items in
    let ends = ends-count w.drainers (λ end. end.inbox.box) c.args.self.drainers.items left.drainers in
    omega (arith, ends, d1, left.nothing_came.drainer_count)

pub return_drainers-taken-requires-clause-ports : goal.return_drainers-taken-requires-clause-ports
return_drainers-taken-requires-clause-ports g c =
    let w = c.requires.0 in
    let left = c.requires.1 in
    let s1 = ap length c.return_pumps-subjects.ensures.subjects ∙ with_inboxes-count (map (λ end. end.inbox) c.args.self.pumps.items) c.args.self.returned.subjects.items in
    let n = length c.return_pumps-subjects.new.subjects.items in
    All-weaker (λ (end : DrainEnd _ _). AreRow w.subjects end.ports.items) (λ (end : DrainEnd _ _). length end.ports.items ≡ n)
    (λ end are. row-count w.subjects end.ports.items n (sym (s1 ∙ left.nothing_came.subject_count)) are) c.args.self.drainers.items left.to_subjects

pub return_drainers-taken-requires-clause-inboxes : goal.return_drainers-taken-requires-clause-inboxes
return_drainers-taken-requires-clause-inboxes g c =
    let came = c.requires.1.nothing_came in
    subst (All (λ parts. parts.inbox ≡ None)) (sym c.return_pumps-subjects.ensures.drainers)
    (dealt_each-none (map (λ end. end.drainers.items) c.args.self.pumps.items) c.args.self.returned.drainers.items
    (All-weaker (IsEmpty _) (λ (parts : PartsView _). parts.inbox ≡ None) (λ parts is. is.no_inbox) c.args.self.returned.drainers.items came.drainers_empty))

pub return_drainers-taken-requires-clause-ports_fit : goal.return_drainers-taken-requires-clause-ports_fit
return_drainers-taken-requires-clause-ports_fit g c =
    let w = c.requires.0 in
    let left = c.requires.1 in
    let ends = ends-count w.drainers (λ end. end.inbox.box) c.args.self.drainers.items left.drainers in
    let inboxes = map (λ end. end.inbox) c.args.self.pumps.items in
    let room = with_inboxes-room (length w.replies + length w.drainers) inboxes c.args.self.returned.subjects.items
    (empty-room (length w.replies + length w.drainers) c.args.self.returned.subjects.items left.nothing_came.subjects_empty) in
    subst (All (HasRoom (length c.args.self.drainers.items))) (sym c.return_pumps-subjects.ensures.subjects)
    (All-weaker (HasRoom (length w.replies + length w.drainers)) (HasRoom (length c.args.self.drainers.items)) (λ parts has. omega (arith, has, ends)) (with_inboxes inboxes c.args.self.returned.subjects.items) room)

pub deal-requires : goal.deal-requires
deal-requires g c =
    let w = c.requires.0 in
    let left = c.requires.1 in
    let d1 = ap length c.return_pumps-subjects.ensures.drainers ∙ dealt_each-count (map (λ end. end.drainers.items) c.args.self.pumps.items) c.args.self.returned.drainers.items in
    let d2 = ap length c.return_drainers-taken.ensures.drainers ∙ with_inboxes-count (map (λ end. end.inbox) c.args.self.drainers.items) c.return_pumps-subjects.new.drainers.items ∙ d1 in
    row-count w.drainers c.args.self.leaves.items (length c.return_drainers-taken.new.drainers.items) (sym (d2 ∙ left.nothing_came.drainer_count)) left.leaves

-- there is room for the ports that tell the drainers to leave
pub unreachable-requires : goal.unreachable-requires
unreachable-requires g c =
    let w = c.requires.0 in
    let left = c.requires.1 in
    let rows = map (λ end. end.drainers.items) c.args.self.pumps.items in
    let inboxes = map (λ end. end.inbox) c.args.self.drainers.items in
    let ends = length-map c.args.self.pumps.items (λ end. end.drainers.items) ∙ ends-count w.subjects (λ end. end.inbox.box) c.args.self.pumps.items left.pumps in
    let start = c.args.self.returned.drainers.items in
    let room = dealt_each-room 1 rows start
    (All-weaker (HasRoom (length w.subjects + 1)) (HasRoom (length rows + 1)) (λ parts has. omega (arith, has, ends)) start
    (empty-room (length w.subjects + 1) start left.nothing_came.drainers_empty)) in
    let all = subst (All (HasRoom 1)) (sym (c.return_drainers-taken.ensures.drainers ∙ ap (with_inboxes inboxes) c.return_pumps-subjects.ensures.drainers))
    (with_inboxes-room 1 inboxes (dealt_each rows start) room) in
    not-full 0 _ c.return_drainers-taken.new.drainers.items all c.in_default.ensures.0

pub return_desks-requires-clause-ports : goal.return_desks-requires-clause-ports
return_desks-requires-clause-ports g c =
    let w = c.requires.0 in
    let left = c.requires.1 in
    let s1 = ap length c.return_pumps-subjects.ensures.subjects ∙ with_inboxes-count (map (λ end. end.inbox) c.args.self.pumps.items) c.args.self.returned.subjects.items in
    let s2 = ap length c.return_drainers-taken.ensures.subjects ∙ dealt_each-count (map (λ end. end.ports.items) c.args.self.drainers.items) c.return_pumps-subjects.new.subjects.items ∙ s1 in
    let n = length c.return_drainers-taken.new.subjects.items in
    All-weaker (HasItsBoxes w) (λ (desk : EndedDesk _). length desk.ports.items ≡ n)
    (λ desk has. row-count w.subjects desk.ports.items n (sym (s2 ∙ left.nothing_came.subject_count)) (desk-row w desk has)) c.args.ended.items (All-front (HasItsBoxes w) c.args.ended.items c.args.self.desks.items left.desks)

pub return_desks-requires-clause-numbers : goal.return_desks-requires-clause-numbers
return_desks-requires-clause-numbers g c =
    let w = c.requires.0 in
    let left = c.requires.1 in
    let r1 = ap length c.return_pumps-subjects.ensures.replies ∙ dealt_each-count (map (λ end. end.replies.items) c.args.self.pumps.items) c.args.self.returned.replies.items in
    let n = length c.return_pumps-subjects.new.replies.items in
    All-weaker (HasItsBoxes w) (λ (desk : EndedDesk _). number_of desk.ports.items < n)
    (λ desk has. let number = desk-number w desk has left.some in let below = slice_get_within w.replies has.number desk.inbox.box has.inbox in omega (arith, number, below, r1, left.nothing_came.reply_count)) c.args.ended.items (All-front (HasItsBoxes w) c.args.ended.items c.args.self.desks.items left.desks)

pub return_desks-requires-clause-room : goal.return_desks-requires-clause-room
return_desks-requires-clause-room g c =
    let w = c.requires.0 in
    let left = c.requires.1 in
    let rows = map (λ end. end.ports.items) c.args.self.drainers.items in
    let inboxes = map (λ end. end.inbox) c.args.self.pumps.items in
    let ends = length-map c.args.self.drainers.items (λ end. end.ports.items) ∙ ends-count w.drainers (λ end. end.inbox.box) c.args.self.drainers.items left.drainers in
    let start = c.args.self.returned.subjects.items in
    let n = missing c.return_pumps-subjects.new.replies.items in
    let count : n ≡ length w.replies =
    ap missing c.return_pumps-subjects.ensures.replies
    ∙ dealt_each-missing (map (λ end. end.replies.items) c.args.self.pumps.items) c.args.self.returned.replies.items
    ∙ empty-missing (length w.subjects) c.args.self.returned.replies.items left.nothing_came.replies_empty ∙ left.nothing_came.reply_count in
    let with_inboxes_room = with_inboxes-room (length rows + n) inboxes start
    (All-weaker (HasRoom (length w.replies + length w.drainers)) (HasRoom (length rows + n)) (λ parts has. omega (arith, has, ends, count)) start
    (empty-room (length w.replies + length w.drainers) start left.nothing_came.subjects_empty)) in
    subst (All (HasRoom n)) (sym (c.return_drainers-taken.ensures.subjects ∙ ap (dealt_each rows) c.return_pumps-subjects.ensures.subjects))
    (dealt_each-room n rows (with_inboxes inboxes start) with_inboxes_room)

-- a desk came back twice
pub returns-in_err-return_desks-clause-twice : goal.returns-in_err-return_desks-clause-twice
returns-in_err-return_desks-clause-twice g c =
    let left = c.requires.1 in
    let p = err_from_is_err_and c.from_residual.result c.from_residual.ensures.1 in
    let start = dealt_each (map (λ end. end.replies.items) c.args.self.pumps.items) c.args.self.returned.replies.items in
    rw (p.1, p.2) (
      c.in_err-return_desks.ensures.returned.0,
      came-twice c.return_pumps-subjects.new.replies.items (c.args.ended.items ++ c.args.self.desks.items)
          (subst (λ (l : List _). (place : ℕ) → LacksInbox place l) (sym c.return_pumps-subjects.ensures.replies)
          (λ place. dealt_each-lacks place (map (λ end. end.replies.items) c.args.self.pumps.items) c.args.self.returned.replies.items (empty-lacks _ place c.args.self.returned.replies.items left.nothing_came.replies_empty)))
          (again-front c.return_pumps-subjects.new.replies.items c.args.ended.items c.args.self.desks.items c.in_err-return_desks.ensures.returned.1),
    )

pub return_desks-requires-2-clause-ports : goal.return_desks-requires-2-clause-ports
return_desks-requires-2-clause-ports g c =
    let w = c.requires.0 in
    let left = c.requires.1 in
    let s1 = ap length c.return_pumps-subjects.ensures.subjects ∙ with_inboxes-count (map (λ end. end.inbox) c.args.self.pumps.items) c.args.self.returned.subjects.items in
    let s2 = ap length c.return_drainers-taken.ensures.subjects ∙ dealt_each-count (map (λ end. end.ports.items) c.args.self.drainers.items) c.return_pumps-subjects.new.subjects.items ∙ s1 in
    let s3 = ap length c.in_ok-return_desks.ensures.returned.ports ∙ dealt_each-count (map (λ desk. desk.ports.items) c.args.ended.items) c.return_drainers-taken.new.subjects.items ∙ s2 in
    let n = length c.return_desks.new.subjects.items in
    All-weaker (HasItsBoxes w) (λ (desk : EndedDesk _). length desk.ports.items ≡ n)
    (λ desk has. row-count w.subjects desk.ports.items n (sym (s3 ∙ left.nothing_came.subject_count)) (desk-row w desk has)) c.args.self.desks.items (All-back (HasItsBoxes w) c.args.ended.items c.args.self.desks.items left.desks)

pub return_desks-requires-2-clause-numbers : goal.return_desks-requires-2-clause-numbers
return_desks-requires-2-clause-numbers g c =
    let w = c.requires.0 in
    let left = c.requires.1 in
    let r1 = ap length c.return_pumps-subjects.ensures.replies ∙ dealt_each-count (map (λ end. end.replies.items) c.args.self.pumps.items) c.args.self.returned.replies.items in
    let r2 = returns-count c.return_pumps-subjects.new.replies.items c.args.ended.items c.return_desks.new.replies.items c.in_ok-return_desks.ensures.returned.inboxes ∙ r1 in
    let n = length c.return_desks.new.replies.items in
    All-weaker (HasItsBoxes w) (λ (desk : EndedDesk _). number_of desk.ports.items < n)
    (λ desk has. let number = desk-number w desk has left.some in let below = slice_get_within w.replies has.number desk.inbox.box has.inbox in omega (arith, number, below, r2, left.nothing_came.reply_count)) c.args.self.desks.items (All-back (HasItsBoxes w) c.args.ended.items c.args.self.desks.items left.desks)

pub return_desks-requires-2-clause-room : goal.return_desks-requires-2-clause-room
return_desks-requires-2-clause-room g c = c.in_ok-return_desks.ensures.room

pub returns-in_err-return_desks-2-clause-twice : goal.returns-in_err-return_desks-2-clause-twice
returns-in_err-return_desks-2-clause-twice g c =
    let left = c.requires.1 in
    let p = err_from_is_err_and c.from_residual-in_err-return_desks-2.result c.from_residual-in_err-return_desks-2.ensures.1 in
    rw (p.1, p.2) (
      c.in_err-return_desks-2.ensures.returned.0,
      came-twice c.return_pumps-subjects.new.replies.items (c.args.ended.items ++ c.args.self.desks.items)
          (subst (λ (l : List _). (place : ℕ) → LacksInbox place l) (sym c.return_pumps-subjects.ensures.replies)
          (λ place. dealt_each-lacks place (map (λ end. end.replies.items) c.args.self.pumps.items) c.args.self.returned.replies.items (empty-lacks _ place c.args.self.returned.replies.items left.nothing_came.replies_empty)))
          (again-behind c.return_pumps-subjects.new.replies.items c.return_desks.new.replies.items c.args.ended.items c.args.self.desks.items c.in_ok-return_desks.ensures.returned.inboxes c.in_err-return_desks-2.ensures.returned.1),
    )

pub returns-clause-came : goal.returns-clause-came
returns-clause-came g c =
    let calls_of = λ (desk : EndedDesk _). desk.ports.items in
    record {
      subjects_are =
          c.in_ok-return_desks-2.ensures.returned.ports ∙ ap (dealt_each (map calls_of c.args.self.desks.items)) c.in_ok-return_desks.ensures.returned.ports
          ∙ sym (rows-dealt calls_of c.args.ended.items c.args.self.desks.items c.return_drainers-taken.new.subjects.items)
          ∙ ap (dealt_each (map calls_of (c.args.ended.items ++ c.args.self.desks.items)))
          (c.return_drainers-taken.ensures.subjects ∙ ap (dealt_each (map (λ end. end.ports.items) c.args.self.drainers.items)) c.return_pumps-subjects.ensures.subjects);
      drainers_are =
          c.in-Ok.ensures ∙ ap (dealt c.args.self.leaves.items)
          (c.return_drainers-taken.ensures.drainers ∙ ap (with_inboxes (map (λ end. end.inbox) c.args.self.drainers.items)) c.return_pumps-subjects.ensures.drainers);
      replies_are = FoldsTo-append _ _ c.args.ended.items c.args.self.desks.items c.return_desks.new.replies.items c.return_desks-2.new.replies.items
          (subst (λ start. FoldsTo ReturnsInbox start c.args.ended.items c.return_desks.new.replies.items) c.return_pumps-subjects.ensures.replies c.in_ok-return_desks.ensures.returned.inboxes)
          c.in_ok-return_desks-2.ensures.returned.inboxes;
    }
