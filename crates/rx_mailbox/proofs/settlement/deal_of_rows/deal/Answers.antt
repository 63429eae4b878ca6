use Rattle.std.proofs.Common.{◌≡◌, ◌∙◌, ◌<◌, sym, ap, List, [], ◌∷◌, ◌++◌, append_assoc, get_or, length, length-append, slice_get, slice_set, subst, take, Some, arith}
use Rattle.std.proofs.Math.Seq.{take-append_seam}
use Rattle.std.proofs.lemmas.List.{set-get_or}
use Rattle.std.specs.Vec.Iter.{into_iter_items}
use Rattle.rx_mailbox.specs.Parts.{IsFullAt, PartsView, dealt, with_port}
use Rattle.rx_mailbox.proofs.Rows.{dealt-behind, dealt-count, dealt-more, parts-at}
use Rattle.rx_mailbox.proofs.settlement.deal_of_rows.deal.Goals as goal

pub index_mut-requires : goal.index_mut-requires
index_mut-requires g c =
    let before = c.loop-port.invariant in
    let boxes = ap length before.boxes ∙ dealt-count c.loop-port.yielded c.args.boxes.now.items in
    omega (arith, boxes, before.place, c.requires, ap length before.ports, length-append c.loop-port.yielded (into_iter_items c.loop-port.port-iterator), ap length c.in-Some.ensures.steps.0, c.loop-port.boxes.ok)

pub loop-port-preserved : goal.loop-port-preserved
loop-port-preserved g c =
    let before = c.loop-port.invariant in
    let old = c.args.boxes.now.items in
    let within : length c.loop-port.yielded < length old =
    omega (arith, c.requires, ap length before.ports, length-append c.loop-port.yielded (into_iter_items c.loop-port.port-iterator), ap length c.in-Some.ensures.steps.0) in
    let is : c.index_mut.result.now ≡ get_or old (length c.loop-port.yielded) c.index_mut.result.now =
    c.index_mut.ensures.value ∙ ap (λ (l : List (PartsView _)). get_or l c.loop-port.place c.index_mut.result.now) before.boxes
    ∙ ap (λ n. get_or (dealt c.loop-port.yielded old) n c.index_mut.result.now) before.place ∙ dealt-behind c.loop-port.yielded old c.index_mut.result.now in
    record {
      ports =
          append_assoc c.loop-port.yielded (c.in-Some.port ∷ []) (into_iter_items c.next.new.self)
          ∙ ap (λ (l : List _). c.loop-port.yielded ++ l) (sym c.in-Some.ensures.steps.0) ∙ before.ports;
      boxes =
          ap (λ (parts : PartsView _). slice_set c.loop-port.boxes.items c.loop-port.place parts) (c.put_port.ensures.put c.if-not-put_port.false ∙ ap (with_port c.in-Some.port) is)
          ∙ ap (λ (l : List (PartsView _)). slice_set l c.loop-port.place (with_port c.in-Some.port (get_or old (length c.loop-port.yielded) c.index_mut.result.now))) before.boxes
          ∙ ap (λ n. slice_set (dealt c.loop-port.yielded old) n (with_port c.in-Some.port (get_or old (length c.loop-port.yielded) c.index_mut.result.now))) before.place
          ∙ dealt-more c.loop-port.yielded c.in-Some.port old c.index_mut.result.now within;
      place = omega (arith, before.place, length-append c.loop-port.yielded (c.in-Some.port ∷ []));
    }

pub returns-then-not-put_port : goal.returns-then-not-put_port
returns-then-not-put_port g c =
    let before = c.loop-port.invariant in
    let old = c.args.boxes.now.items in
    let within : length c.loop-port.yielded < length old =
    omega (arith, c.requires, ap length before.ports, length-append c.loop-port.yielded (into_iter_items c.loop-port.port-iterator), ap length c.in-Some.ensures.steps.0) in
    let is : c.index_mut.result.now ≡ get_or old (length c.loop-port.yielded) c.index_mut.result.now =
    c.index_mut.ensures.value ∙ ap (λ (l : List (PartsView _)). get_or l c.loop-port.place c.index_mut.result.now) before.boxes
    ∙ ap (λ n. get_or (dealt c.loop-port.yielded old) n c.index_mut.result.now) before.place ∙ dealt-behind c.loop-port.yielded old c.index_mut.result.now in
    let at = parts-at old (length c.loop-port.yielded) c.index_mut.result.now within is in
    let full : IsFullAt c.loop-port.place old = (c.index_mut.result.now, subst (λ n. slice_get old n ≡ Some c.index_mut.result.now) (sym before.place) at, c.put_port.ensures.full c.if-not-put_port.true) in
    let first : take c.loop-port.place c.args.ports.items ≡ c.loop-port.yielded =
    ap (take c.loop-port.place) (sym before.ports) ∙ ap (λ n. take n (c.loop-port.yielded ++ into_iter_items c.loop-port.port-iterator)) before.place
    ∙ take-append_seam c.loop-port.yielded (into_iter_items c.loop-port.port-iterator) in (
      full,
      ap (λ (parts : PartsView _). slice_set c.loop-port.boxes.items c.loop-port.place parts) (c.put_port.ensures.same c.if-not-put_port.true ∙ c.index_mut.ensures.value)
          ∙ set-get_or c.loop-port.boxes.items c.loop-port.place c.index_mut.result.now ∙ before.boxes ∙ ap (λ (l : List _). dealt l old) (sym first),
    )
