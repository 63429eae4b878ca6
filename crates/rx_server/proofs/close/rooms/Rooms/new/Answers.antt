use Rattle.std.proofs.Common.{ap, length, arith}
use Rattle.rx_server.proofs.close.rooms.Rooms.new.Goals as goal

pub returns-clause-rooms : goal.returns-clause-rooms
returns-clause-rooms g c =
    let desks = c.in_ok-room.ensures in
    let leaves = c.in_ok-room-2.ensures in
    let pumps = c.in_ok-room-3.ensures in
    let drainers = c.in_ok-room-4.ensures in
    let subjects = c.in_ok-room-5.ensures in
    let put_away = c.in_ok-room-6.ensures in
    record {
      no_leaves = leaves.items;
      no_pumps = pumps.items;
      no_drainers = drainers.items;
      no_subjects = subjects.items;
      none_put_away = put_away.items;
      desks_fit = omega (arith, desks.capacity, ap length desks.items, c.in_ok-room.field-0.ok);
      leaves_fit = leaves.capacity;
      pumps_fit = pumps.capacity;
      drainers_fit = drainers.capacity;
      subjects_fit = subjects.capacity;
      put_away_fits = put_away.capacity;
      nothing_came = c.in_ok-room-7.ensures;
      none_settled = c.in_ok-room-8.ensures;
    }
