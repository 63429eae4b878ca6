use Rattle.std.proofs.Common.{◌≡◌, ◌∙◌, suc, ◌<◌, [], ◌∷◌, ◌++◌, sym, ap, subst, length, map, append_assoc, List, arith}
use Rattle.std.proofs.lemmas.Fn.{FoldsTo-push}
use Rattle.std.proofs.lemmas.List.{map_push}
use Rattle.std.specs.List.{All}
use Rattle.std.specs.Vec.Iter.{into_iter_items}
use Rattle.rx_pump.specs.declared.call_desk.ended_desk.EndedDesk.{EndedDesk}
use Rattle.rx_mailbox.specs.Parts.{HasRoom, LacksInbox, dealt, dealt_each, missing, placed}
use Rattle.rx_mailbox.proofs.Gathered.{dealt_each-count, dealt_each-more}
use Rattle.rx_mailbox.proofs.Room.{dealt-room, not-full, placed-missing}
use Rattle.rx_server.specs.Returning.{ReturnsInbox, number_of}
use Rattle.rx_server.proofs.Returning.{All-here, returns-count}
use Rattle.rx_server.proofs.close.returned.return_desks.Goals as goal

pub deal-requires : goal.deal-requires
deal-requires g c =
    let before = c.loop-desk.invariant in
    let parts = ap (λ (l : List _). c.loop-desk.yielded ++ l) (sym c.in-Some.ensures.steps.0) ∙ before.desks in
    let has = All-here (λ (desk : EndedDesk _). length desk.ports.items ≡ length c.args.subjects.now.items) c.loop-desk.yielded c.in-Some.desk (into_iter_items c.next.new.self)
    (subst (λ (l : List _). All (λ (desk : EndedDesk _). length desk.ports.items ≡ length c.args.subjects.now.items) l) (sym parts) c.requires.ports) in
    has ∙ sym (ap length before.ports ∙ dealt_each-count (map (λ desk. desk.ports.items) c.loop-desk.yielded) c.args.subjects.now.items)

pub put_inbox-requires : goal.put_inbox-requires
put_inbox-requires g c =
    let before = c.loop-desk.invariant in
    let parts = ap (λ (l : List _). c.loop-desk.yielded ++ l) (sym c.in-Some.ensures.steps.0) ∙ before.desks in
    let P = λ (desk : EndedDesk _). number_of desk.ports.items < length c.args.replies.now.items in
    let has = All-here P c.loop-desk.yielded c.in-Some.desk (into_iter_items c.next.new.self) (subst (λ (l : List _). All P l) (sym parts) c.requires.numbers) in
    let count = returns-count c.args.replies.now.items c.loop-desk.yielded c.loop-desk.replies.items before.inboxes in
    omega (arith, has, count, c.number_of-number.ensures)

-- one more inbox came back, so there is room for one more row
pub unreachable-requires : goal.unreachable-requires
unreachable-requires g c =
    let before = c.loop-desk.invariant in
    let parts_are = ap (λ (l : List _). c.loop-desk.yielded ++ l) (sym c.in-Some.ensures.steps.0) ∙ before.desks in
    let P = λ (desk : EndedDesk _). number_of desk.ports.items < length c.args.replies.now.items in
    let has = All-here P c.loop-desk.yielded c.in-Some.desk (into_iter_items c.next.new.self) (subst (λ (l : List _). All P l) (sym parts_are) c.requires.numbers) in
    let count = returns-count c.args.replies.now.items c.loop-desk.yielded c.loop-desk.replies.items before.inboxes in
    let within : c.number_of-number.result < length c.loop-desk.replies.items = omega (arith, has, count, c.number_of-number.ensures) in
    let place = c.number_of-number.result in
    let fewer = placed-missing place c.in-Some.desk.inbox c.loop-desk.replies.items within c.in-Ok.ensures.once
    ∙ ap (λ (l : List _). suc (missing l)) (sym c.in-Ok.ensures.put) in
    not-full (missing c.put_inbox.new.boxes.items) _ c.loop-desk.subjects.items
    (subst (λ n. All (HasRoom n) c.loop-desk.subjects.items) fewer before.room) c.in_default-deal.ensures.0

pub returns-in_default-clause-returned : goal.returns-in_default-clause-returned
returns-in_default-clause-returned g c =
    let before = c.loop-desk.invariant in (
      c.unsettled.ensures,
      record {
        first = c.loop-desk.yielded;
        desk = c.in-Some.desk;
        rest = into_iter_items c.next.new.self;
        parts = ap (λ (l : List _). c.loop-desk.yielded ++ l) (sym c.in-Some.ensures.steps.0) ∙ before.desks;
        came = c.loop-desk.replies.items;
        inboxes = before.inboxes;
        there = subst (λ n. ¬ LacksInbox n c.loop-desk.replies.items) c.number_of-number.ensures c.in_default.ensures.twice;
      },
    )

pub loop-desk-preserved : goal.loop-desk-preserved
loop-desk-preserved g c =
    let before = c.loop-desk.invariant in
    let ports_of = λ (desk : EndedDesk _). desk.ports.items in
    let parts_are = ap (λ (l : List _). c.loop-desk.yielded ++ l) (sym c.in-Some.ensures.steps.0) ∙ before.desks in
    let P = λ (desk : EndedDesk _). number_of desk.ports.items < length c.args.replies.now.items in
    let has = All-here P c.loop-desk.yielded c.in-Some.desk (into_iter_items c.next.new.self) (subst (λ (l : List _). All P l) (sym parts_are) c.requires.numbers) in
    let count = returns-count c.args.replies.now.items c.loop-desk.yielded c.loop-desk.replies.items before.inboxes in
    let within : c.number_of-number.result < length c.loop-desk.replies.items = omega (arith, has, count, c.number_of-number.ensures) in
    let number = c.number_of-number.ensures in
    record {
      desks =
          append_assoc c.loop-desk.yielded (c.in-Some.desk ∷ []) (into_iter_items c.next.new.self)
          ∙ ap (λ (l : List _). c.loop-desk.yielded ++ l) (sym c.in-Some.ensures.steps.0) ∙ before.desks;
      ports =
          c.in-Ok-deal.ensures ∙ ap (dealt c.in-Some.desk.ports.items) before.ports
          ∙ sym (dealt_each-more (map ports_of c.loop-desk.yielded) c.in-Some.desk.ports.items c.args.subjects.now.items)
          ∙ ap (λ (rows : List (List _)). dealt_each rows c.args.subjects.now.items) (sym (map_push ports_of c.loop-desk.yielded c.in-Some.desk));
      inboxes = FoldsTo-push ReturnsInbox c.args.replies.now.items c.loop-desk.yielded c.loop-desk.replies.items c.in-Some.desk c.put_inbox.new.boxes.items before.inboxes (
        subst (λ n. LacksInbox n c.loop-desk.replies.items) number c.in-Ok.ensures.once,
        c.in-Ok.ensures.put ∙ ap (λ n. placed n c.in-Some.desk.inbox c.loop-desk.replies.items) number,
      );
      room =
          let fewer = placed-missing c.number_of-number.result c.in-Some.desk.inbox c.loop-desk.replies.items within c.in-Ok.ensures.once
          ∙ ap (λ (l : List _). suc (missing l)) (sym c.in-Ok.ensures.put) in
          subst (All (HasRoom (missing c.put_inbox.new.boxes.items))) (sym c.in-Ok-deal.ensures)
          (dealt-room (missing c.put_inbox.new.boxes.items) c.in-Some.desk.ports.items c.loop-desk.subjects.items (subst (λ n. All (HasRoom n) c.loop-desk.subjects.items) fewer before.room));
    }
