use Rattle.std.proofs.Common.{◌≡◌, ◌∙◌, [], ◌∷◌, ◌++◌, sym, ap, subst, length, length-append, map, append_assoc, List, arith}
use Rattle.std.proofs.lemmas.List.{length-map, map_push}
use Rattle.std.specs.List.{All}
use Rattle.std.specs.Vec.Iter.{into_iter_items}
use Rattle.rx_mailbox.specs.Boxes.{Incoming}
use Rattle.rx_pump.specs.declared.pump.pump_end.PumpEnd.{PumpEnd}
use Rattle.rx_mailbox.specs.Parts.{HasRoom, LacksInbox, dealt, dealt_each, with_inboxes, placed}
use Rattle.rx_mailbox.proofs.Gathered.{dealt_each-count, dealt_each-more, with_inboxes-count, with_inboxes-more}
use Rattle.rx_mailbox.proofs.Room.{dealt-room, with_inboxes-lacks, not-full}
use Rattle.rx_server.specs.declared.close.report.SubjectReport.{SubjectReport}
use Rattle.rx_server.specs.Servers.{report_of}
use Rattle.rx_server.proofs.Returning.{All-here}
use Rattle.rx_server.proofs.close.returned.return_pumps.Goals as goal

pub put_inbox-requires : goal.put_inbox-requires
put_inbox-requires g c =
    let before = c.loop-end.invariant in
    let place = ap length before.listed ∙ length-map c.loop-end.yielded report_of in
    let all = ap length before.ends in
    let parts = length-append c.loop-end.yielded (into_iter_items c.loop-end.end-iterator) in
    let subjects = ap length before.inboxes ∙ with_inboxes-count (map (λ end. end.inbox) c.loop-end.yielded) c.args.subjects.now.items in
    omega (arith, place, all, parts, subjects, c.requires.count, c.len-place.ensures, c.loop-end.reports.ok, ap length c.in-Some.ensures.steps.0)

pub deal-requires : goal.deal-requires
deal-requires g c =
    let before = c.loop-end.invariant in
    let parts = ap (λ (l : List _). c.loop-end.yielded ++ l) (sym c.in-Some.ensures.steps.0) ∙ before.ends in
    let P = λ (end : PumpEnd _). length end.drainers.items ≡ length c.args.drainers.now.items in
    All-here P c.loop-end.yielded c.in-Some.end (into_iter_items c.next.new.self) (subst (λ (l : List _). All P l) (sym parts) c.requires.drainers)
    ∙ sym (ap length before.outs ∙ dealt_each-count (map (λ end. end.drainers.items) c.loop-end.yielded) c.args.drainers.now.items)

pub deal-requires-in-loop-end : goal.deal-requires-in-loop-end
deal-requires-in-loop-end g c =
    let before = c.loop-end.invariant in
    let parts = ap (λ (l : List _). c.loop-end.yielded ++ l) (sym c.in-Some.ensures.steps.0) ∙ before.ends in
    let P = λ (end : PumpEnd _). length end.replies.items ≡ length c.args.replies.now.items in
    All-here P c.loop-end.yielded c.in-Some.end (into_iter_items c.next.new.self) (subst (λ (l : List _). All P l) (sym parts) c.requires.replies)
    ∙ sym (ap length before.answers ∙ dealt_each-count (map (λ end. end.replies.items) c.loop-end.yielded) c.args.replies.now.items)

-- no inbox comes back twice, and there is room for each row
pub unreachable-requires : goal.unreachable-requires
unreachable-requires g c =
    let before = c.loop-end.invariant in
    let inbox_of = λ (end : PumpEnd _). end.inbox in
    let listed : length c.loop-end.reports.items ≡ length c.loop-end.yielded = ap length before.listed ∙ length-map c.loop-end.yielded report_of in
    let place : c.len-place.result ≡ length (map inbox_of c.loop-end.yielded) =
    omega (arith, listed, c.len-place.ensures, c.loop-end.reports.ok, length-map c.loop-end.yielded inbox_of) in
    c.in_default.ensures.twice
    (subst (λ n. LacksInbox n c.loop-end.subjects.items) (sym place)
    (subst (LacksInbox (length (map inbox_of c.loop-end.yielded))) (sym before.inboxes)
    (with_inboxes-lacks (map inbox_of c.loop-end.yielded) c.args.subjects.now.items c.requires.inboxes)))

pub unreachable-requires-in_default-deal : goal.unreachable-requires-in_default-deal
unreachable-requires-in_default-deal g c =
    let n = length (into_iter_items c.next.new.self) in
    not-full n _ c.loop-end.drainers.items
    (subst (λ (l : List _). All (HasRoom (length l)) c.loop-end.drainers.items) c.in-Some.ensures.steps.0 c.loop-end.invariant.drainers_fit) c.in_default-deal.ensures.0

pub unreachable-requires-in_default-deal-2 : goal.unreachable-requires-in_default-deal-2
unreachable-requires-in_default-deal-2 g c =
    let n = length (into_iter_items c.next.new.self) in
    not-full n _ c.loop-end.replies.items
    (subst (λ (l : List _). All (HasRoom (length l)) c.loop-end.replies.items) c.in-Some.ensures.steps.0 c.loop-end.invariant.replies_fit) c.in_default-deal-2.ensures.0

pub loop-end-preserved : goal.loop-end-preserved
loop-end-preserved g c =
    let before = c.loop-end.invariant in
    let inbox_of = λ (end : PumpEnd _). end.inbox in
    let outs_of = λ (end : PumpEnd _). end.drainers.items in
    let answers_of = λ (end : PumpEnd _). end.replies.items in
    let listed : length c.loop-end.reports.items ≡ length c.loop-end.yielded = ap length before.listed ∙ length-map c.loop-end.yielded report_of in
    let place : c.len-place.result ≡ length (map inbox_of c.loop-end.yielded) =
    omega (arith, listed, c.len-place.ensures, c.loop-end.reports.ok, length-map c.loop-end.yielded inbox_of) in
    record {
      ends =
          append_assoc c.loop-end.yielded (c.in-Some.end ∷ []) (into_iter_items c.next.new.self)
          ∙ ap (λ (l : List _). c.loop-end.yielded ++ l) (sym c.in-Some.ensures.steps.0) ∙ before.ends;
      listed =
          c.push_reserved.ensures.items ∙ ap (λ (l : List _). l ++ c.report_of.result ∷ []) before.listed
          ∙ ap (λ (r : SubjectReport). map report_of c.loop-end.yielded ++ r ∷ []) c.report_of.ensures
          ∙ sym (map_push report_of c.loop-end.yielded c.in-Some.end);
      room = omega (arith, before.room, c.push_reserved.ensures.capacity, c.push_reserved.ensures.len, ap length c.in-Some.ensures.steps.0);
      inboxes =
          c.in-Ok.ensures.put ∙ ap (λ n. placed n c.in-Some.end.inbox c.loop-end.subjects.items) place
          ∙ ap (placed (length (map inbox_of c.loop-end.yielded)) c.in-Some.end.inbox) before.inboxes
          ∙ with_inboxes-more (map inbox_of c.loop-end.yielded) c.in-Some.end.inbox c.args.subjects.now.items
          ∙ ap (λ (l : List (Incoming _)). with_inboxes l c.args.subjects.now.items) (sym (map_push inbox_of c.loop-end.yielded c.in-Some.end));
      outs =
          c.in-Ok-deal.ensures ∙ ap (dealt c.in-Some.end.drainers.items) before.outs
          ∙ sym (dealt_each-more (map outs_of c.loop-end.yielded) c.in-Some.end.drainers.items c.args.drainers.now.items)
          ∙ ap (λ (rows : List (List _)). dealt_each rows c.args.drainers.now.items) (sym (map_push outs_of c.loop-end.yielded c.in-Some.end));
      drainers_fit =
          let n = length (into_iter_items c.next.new.self) in
          subst (All (HasRoom n)) (sym c.in-Ok-deal.ensures)
          (dealt-room n c.in-Some.end.drainers.items c.loop-end.drainers.items
          (subst (λ (l : List _). All (HasRoom (length l)) c.loop-end.drainers.items) c.in-Some.ensures.steps.0 before.drainers_fit));
      replies_fit =
          let n = length (into_iter_items c.next.new.self) in
          subst (All (HasRoom n)) (sym c.in-Ok-deal-2.ensures)
          (dealt-room n c.in-Some.end.replies.items c.loop-end.replies.items
          (subst (λ (l : List _). All (HasRoom (length l)) c.loop-end.replies.items) c.in-Some.ensures.steps.0 before.replies_fit));
      answers =
          c.in-Ok-deal-2.ensures ∙ ap (dealt c.in-Some.end.replies.items) before.answers
          ∙ sym (dealt_each-more (map answers_of c.loop-end.yielded) c.in-Some.end.replies.items c.args.replies.now.items)
          ∙ ap (λ (rows : List (List _)). dealt_each rows c.args.replies.now.items) (sym (map_push answers_of c.loop-end.yielded c.in-Some.end));
    }
