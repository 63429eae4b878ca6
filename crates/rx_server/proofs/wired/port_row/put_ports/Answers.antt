use Rattle.std.proofs.Common.{◌<◌, ◌∙◌, sym, refl, ap, subst, List, get_or, length, slice_set, arith}
use Rattle.std.proofs.lemmas.List.Edits.{map_over_more}
use Rattle.std.proofs.lemmas.List.Elements.{All-get_or}
use Rattle.rx_server.specs.Wirings.{RowView, behind, next_port}
use Rattle.rx_server.proofs.Rows.{read-more, untouched}
use Rattle.rx_server.proofs.wired.port_row.put_ports.Goals as goal

pub loop-place-init : goal.loop-place-init
loop-place-init g c = record {
  rows = refl;
  ports = c.requires.none;
  count = omega (arith, ap length c.requires.none, c.args.ports.now.ok);
  room = c.requires.room;
}

pub loop-place-preserved : goal.loop-place-preserved
loop-place-preserved g c =
    let before = c.loop-place.invariant in
    let within : c.loop-place.place < length c.args.rows.now.items = omega arith in
    record {
      rows =
          ap (λ (row : RowView _). slice_set c.loop-place.rows.items c.loop-place.place row) c.next_port.ensures.left
          ∙ map_over_more (behind 1) c.args.rows.now.items c.loop-place.rows.items c.loop-place.place c.index_mut.result.now within before.rows c.index_mut.ensures.value;
      ports = read-more (behind 1) next_port c.args.rows.now.items c.loop-place.rows.items c.loop-place.place c.index_mut.result.now
          c.loop-place.ports.items c.push_reserved.new.self.items c.next_port.result within before.rows c.index_mut.ensures.value before.ports c.push_reserved.ensures.items c.next_port.ensures.port;
      count = omega (arith, before.count, c.push_reserved.ensures.len);
      room = omega (arith, before.room, c.push_reserved.ensures.capacity);
    }

pub next_port-requires : goal.next_port-requires
next_port-requires g c =
    let before = c.loop-place.invariant in
    let within : c.loop-place.place < length c.args.rows.now.items = omega arith in
    let is = c.index_mut.ensures.value ∙ ap (λ (l : List (RowView _)). get_or l c.loop-place.place c.index_mut.result.now) before.rows
    ∙ untouched (behind 1) c.args.rows.now.items c.loop-place.place c.index_mut.result.now in
    subst (λ (row : RowView _). 0 < row.count) (sym is)
    (All-get_or (λ (row : RowView _). 0 < row.count) c.args.rows.now.items c.loop-place.place c.index_mut.result.now within c.requires.rows)
