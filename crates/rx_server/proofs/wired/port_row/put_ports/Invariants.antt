use Rattle.std.proofs.Common.{◌≡◌, ◌≤◌, ◌++◌, map, take, drop, vec_len, vec_capacity}
use Rattle.rx_server.specs.Wirings.{behind, next_port}
use Rattle.rx_server.proofs.wired.port_row.put_ports.Given as goal

-- the rows before this place have handed out their next port, and there is room for those of the others
abbrev pub invariant-loop-place : goal.invariant-loop-place
invariant-loop-place g l = record {
  rows : l.rows.items ≡ map (behind 1) (take l.place l.fn.rows.items) ++ drop l.place l.fn.rows.items;
  ports : l.ports.items ≡ map next_port (take l.place l.fn.rows.items);
  count : vec_len l.ports ≡ l.place;
  room : vec_len l.fn.rows ≤ vec_capacity l.ports;
}
