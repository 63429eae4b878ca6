use Rattle.std.proofs.Common.{◌≡◌, ◌∙◌, [], ◌∷◌, ◌++◌, sym, ap, subst, length, length-append, map, append_assoc, List, arith}
use Rattle.std.proofs.lemmas.List.{length-map, map_push}
use Rattle.std.proofs.lemmas.List.Sums.{sum_by_push}
use Rattle.std.specs.List.{All}
use Rattle.std.specs.Vec.Iter.{into_iter_items}
use Rattle.rx_mailbox.specs.Boxes.{Incoming}
use Rattle.rx_drain.specs.declared.drainer.drain_end.DrainEnd.{DrainEnd}
use Rattle.rx_mailbox.specs.Parts.{HasRoom, LacksInbox, dealt, dealt_each, with_inboxes, placed}
use Rattle.rx_mailbox.proofs.Gathered.{dealt_each-count, dealt_each-more, with_inboxes-count, with_inboxes-more}
use Rattle.rx_mailbox.proofs.Room.{dealt-room, with_inboxes-lacks, not-full}
use Rattle.rx_server.proofs.Returning.{All-here}
use Rattle.rx_server.proofs.close.returned.return_drainers.Goals as goal

pub put_inbox-requires : goal.put_inbox-requires
put_inbox-requires g c =
    let before = c.loop-end.invariant in
    let listed = ap length before.listed ∙ length-map c.loop-end.yielded (λ end. end.put_away) in
    let all = ap length before.ends in
    let parts = length-append c.loop-end.yielded (into_iter_items c.loop-end.end-iterator) in
    let drainers = ap length before.inboxes ∙ with_inboxes-count (map (λ end. end.inbox) c.loop-end.yielded) c.args.drainers.now.items in
    omega (arith, listed, all, parts, drainers, c.requires.count, c.len-place.ensures, c.loop-end.lists.ok, ap length c.in-Some.ensures.steps.0)

pub deal-requires : goal.deal-requires
deal-requires g c =
    let before = c.loop-end.invariant in
    let parts = ap (λ (l : List _). c.loop-end.yielded ++ l) (sym c.in-Some.ensures.steps.0) ∙ before.ends in
    let P = λ (end : DrainEnd _ _). length end.ports.items ≡ length c.args.subjects.now.items in
    All-here P c.loop-end.yielded c.in-Some.end (into_iter_items c.next.new.self) (subst (λ (l : List _). All P l) (sym parts) c.requires.ports)
    ∙ sym (ap length before.calls ∙ dealt_each-count (map (λ end. end.ports.items) c.loop-end.yielded) c.args.subjects.now.items)

-- no inbox comes back twice, and there is room for each row
pub unreachable-requires : goal.unreachable-requires
unreachable-requires g c =
    let before = c.loop-end.invariant in
    let inbox_of = λ (end : DrainEnd _ _). end.inbox in
    let listed = ap length before.listed ∙ length-map c.loop-end.yielded (λ end. end.put_away) in
    let place : c.len-place.result ≡ length (map inbox_of c.loop-end.yielded) =
    omega (arith, listed, c.len-place.ensures, c.loop-end.lists.ok, length-map c.loop-end.yielded inbox_of) in
    c.in_default.ensures.twice
    (subst (λ n. LacksInbox n c.loop-end.drainers.items) (sym place)
    (subst (LacksInbox (length (map inbox_of c.loop-end.yielded))) (sym before.inboxes)
    (with_inboxes-lacks (map inbox_of c.loop-end.yielded) c.args.drainers.now.items c.requires.inboxes)))

pub unreachable-requires-in_default-deal : goal.unreachable-requires-in_default-deal
unreachable-requires-in_default-deal g c =
    let n = length (into_iter_items c.next.new.self) in
    not-full n _ c.loop-end.subjects.items
    (subst (λ (l : List _). All (HasRoom (length l)) c.loop-end.subjects.items) c.in-Some.ensures.steps.0 c.loop-end.invariant.ports_fit) c.in_default-deal.ensures.0

pub loop-end-preserved : goal.loop-end-preserved
loop-end-preserved g c =
    let before = c.loop-end.invariant in
    let listed = ap length before.listed ∙ length-map c.loop-end.yielded (λ end. end.put_away) in
    let place : c.len-place.result ≡ length (map (λ (end : DrainEnd _ _). end.inbox) c.loop-end.yielded) =
    omega (arith, listed, c.len-place.ensures, c.loop-end.lists.ok, length-map c.loop-end.yielded (λ (end : DrainEnd _ _). end.inbox)) in
    record {
      ends =
          append_assoc c.loop-end.yielded (c.in-Some.end ∷ []) (into_iter_items c.next.new.self)
          ∙ ap (λ (l : List _). c.loop-end.yielded ++ l) (sym c.in-Some.ensures.steps.0) ∙ before.ends;
      taken = omega (arith, before.taken, c.saturating_add-taken.ensures, sum_by_push (λ (end : DrainEnd _ _). end.taken) c.loop-end.yielded c.in-Some.end);
      listed =
          c.push_reserved.ensures.items ∙ ap (λ (l : List _). l ++ c.in-Some.end.put_away ∷ []) before.listed
          ∙ sym (map_push (λ (end : DrainEnd _ _). end.put_away) c.loop-end.yielded c.in-Some.end);
      room = omega (arith, before.room, c.push_reserved.ensures.capacity, c.push_reserved.ensures.len, ap length c.in-Some.ensures.steps.0);
      inboxes =
          c.in-Ok.ensures.put ∙ ap (λ n. placed n c.in-Some.end.inbox c.loop-end.drainers.items) place
          ∙ ap (placed (length (map (λ (end : DrainEnd _ _). end.inbox) c.loop-end.yielded)) c.in-Some.end.inbox) before.inboxes
          ∙ with_inboxes-more (map (λ (end : DrainEnd _ _). end.inbox) c.loop-end.yielded) c.in-Some.end.inbox c.args.drainers.now.items
          ∙ ap (λ (l : List (Incoming _)). with_inboxes l c.args.drainers.now.items) (sym (map_push (λ (end : DrainEnd _ _). end.inbox) c.loop-end.yielded c.in-Some.end));
      ports_fit =
          let n = length (into_iter_items c.next.new.self) in
          subst (All (HasRoom n)) (sym c.in-Ok-deal.ensures)
          (dealt-room n c.in-Some.end.ports.items c.loop-end.subjects.items
          (subst (λ (l : List _). All (HasRoom (length l)) c.loop-end.subjects.items) c.in-Some.ensures.steps.0 before.ports_fit));
      calls =
          c.in-Ok-deal.ensures ∙ ap (dealt c.in-Some.end.ports.items) before.calls
          ∙ sym (dealt_each-more (map (λ (end : DrainEnd _ _). end.ports.items) c.loop-end.yielded) c.in-Some.end.ports.items c.args.subjects.now.items)
          ∙ ap (λ (rows : List (List _)). dealt_each rows c.args.subjects.now.items) (sym (map_push (λ (end : DrainEnd _ _). end.ports.items) c.loop-end.yielded c.in-Some.end));
    }
