-- How the threads and the desks of a server are joined by boxes (this project's own rule).
use Rattle.std.specs.Prelude.{◌≡◌, ◌+◌, ◌-◌, ◌*◌, max, ℕ, Bool, List, [], ◌∷◌, map, length, Option, None, Some}
use Rattle.std.specs.List.{All, enumerate_from, range_with_len, zip}
use Rattle.rx_history.specs.Histories.{NoEvents}
use Rattle.rx_hub.specs.Hubs.{HubView, StandsFor}
use Rattle.rx_mailbox.specs.Boxes.{Box, Outgoing, Incoming, outgoing, incoming, capacity_of}
use Rattle.rx_pump.specs.declared.call.Call.{Call}
use Rattle.rx_pump.specs.declared.out.Out.{Out}
use Rattle.rx_pump.specs.declared.reply.Reply.{Reply}
use Rattle.rx_pump.specs.Pumps.{PumpView, fresh_pump}
use Rattle.rx_pump.specs.Desks.{DeskView, fresh_desk}
use Rattle.rx_drain.specs.Drainers.{DrainerView, fresh_drainer}
use Rattle.rx_config.specs.declared.config.Config.{Config}
use Rattle.rx_config.specs.declared.http.Http.{Http}
use Rattle.rx_config.specs.declared.subject_config.SubjectConfig.{SubjectConfig}

-- PORTS BEFORE THEY ARE HANDED OUT

-- the ports of a box that are left: the number of the next one, and how many there are
pub record RowView (B : Type 0) : Type 0 where
  pub box : Box B
  pub next : ℕ
  pub count : ℕ

module _ {B : Type 0} where
  -- a new port of each box, all of one number
  abbrev pub ports_at : ℕ → List (Box B) → List (Outgoing B)
  ports_at number boxes = map (λ box. outgoing box number []) boxes

  -- the ports of a box, so many from this number on
  abbrev pub ports_from : Box B → ℕ → ℕ → List (Outgoing B)
  ports_from box next count = map (λ number. outgoing box number []) (range_with_len next count)

  -- the ports of a box of which none was handed out
  abbrev pub whole_row : ℕ → Box B → RowView B
  whole_row count box = record { box = box; next = 0; count = count }

  -- the next port
  abbrev pub next_port : RowView B → Outgoing B
  next_port row = outgoing row.box row.next []

  -- the ports behind the first so many
  abbrev pub behind : ℕ → RowView B → RowView B
  behind number row = record { box = row.box; next = row.next + number; count = row.count - number }

  -- the ports of which so many come before
  abbrev pub row_ports : ℕ → List (RowView B) → List (Outgoing B)
  row_ports number rows = map (λ row. outgoing row.box (row.next + number) []) rows

  -- boxes of one capacity and number of senders, with their inboxes and all their ports
  pub record AreOpened (count capacity senders : ℕ) (boxes : List (Box B)) (inboxes : List (Incoming B)) (rows : List (RowView B)) : Type 0 where
    pub count_is : length boxes ≡ count
    pub capacities : All (λ box. capacity_of box ≡ capacity) boxes
    pub inboxes_are : inboxes ≡ map (λ box. incoming box senders []) boxes
    pub rows_are : rows ≡ map (whole_row senders) boxes

-- THE SIZES

-- the greatest of some numbers
abbrev pub greatest : List ℕ → ℕ
greatest [] = 0
greatest (n ∷ ns) = max n (greatest ns)

-- the most observers that a subject of the configuration takes
abbrev pub most_observers : List SubjectConfig → ℕ
most_observers subjects = greatest (map (λ subject. subject.rules.limits.observers) subjects)

-- so many desks, and one for a face, if there is one
abbrev pub desks_with : ℕ → Option Http → ℕ
desks_with workers None = workers
desks_with workers (Some http) = workers + 1

-- how many desks a server has: one for each worker, and behind these one for its face
abbrev pub desk_count : Config → ℕ
desk_count config = desks_with config.workers config.http

-- a drainer's box has room for two letters of each item that the observers of all subjects may have asked for, with two more
-- for each observer, and for a letter of each desk
abbrev pub drainer_capacity : Config → ℕ
drainer_capacity config =
    2 * length config.subjects.items * most_observers config.subjects.items * (config.window + 2) + desk_count config

-- THE BOXES OF A SERVER

-- the box of each subject, of each drainer, and of the replies to each desk
pub record Wiring (S : Type 0) : Type 0 where
  pub subjects : List (Box (Call S))
  pub drainers : List (Box (Out S))
  pub replies : List (Box (Reply S))

module _ {S : Type 0} where
  -- the boxes are as many and as large as the configuration says
  pub record IsSizedFor (config : Config) (w : Wiring S) : Type 0 where
    pub subjects : length w.subjects ≡ length config.subjects.items
    pub drainers : length w.drainers ≡ config.drainers
    pub replies : length w.replies ≡ desk_count config
    pub subject_capacities : All (λ box. capacity_of box ≡ 64) w.subjects
    pub drainer_capacities : All (λ box. capacity_of box ≡ drainer_capacity config) w.drainers
    pub reply_capacities : All (λ box. capacity_of box ≡ length config.subjects.items) w.replies

  -- the pump of the subject of this number, with its hub and its box: to the box send the desks and then the drainers
  abbrev pub pump_at : Wiring S → ℕ → HubView → Box (Call S) → PumpView S
  pump_at w number hub box = fresh_pump hub (incoming box (length w.replies + length w.drainers) []) (ports_at number w.drainers) (ports_at number w.replies)

  -- the desk of this number, with the box of its replies: to the box send the pumps
  abbrev pub desk_at : Wiring S → ℕ → Box (Reply S) → DeskView S
  desk_at w number box = fresh_desk (ports_at number w.subjects) (incoming box (length w.subjects) [])

  -- the same of numbered hubs and boxes
  abbrev pub pump_of : Wiring S → ℕ × (HubView × Box (Call S)) → PumpView S
  pump_of w x = pump_at w x.0 x.1.0 x.1.1

  abbrev pub desk_of : Wiring S → ℕ × Box (Reply S) → DeskView S
  desk_of w x = desk_at w x.0 x.1

  -- the ports by which the drainers are told to leave: to a drainer's box send the pumps, and last this one
  abbrev pub leave_ports : Wiring S → List (Outgoing (Out S))
  leave_ports w = ports_at (length w.subjects) w.drainers

  -- the pumps of the subjects with these hubs
  abbrev pub pumps_of : Wiring S → List HubView → List (PumpView S)
  pumps_of w hubs = map (pump_of w) (enumerate_from 0 (zip hubs w.subjects))

  -- the desks
  abbrev pub desks_of : Wiring S → List (DeskView S)
  desks_of w = map (desk_of w) (enumerate_from 0 w.replies)

module _ {S Rest : Type 0} where
  -- the drainer of this number, which keeps what its sinks leave or not, with its box: to the box send the pumps, and last who
  -- tells it to leave
  abbrev pub drainer_at : Wiring S → Bool → ℕ → Box (Out S) → DrainerView S Rest
  drainer_at w keeps number box = fresh_drainer keeps (incoming box (length w.subjects + 1) []) (ports_at (length w.replies + number) w.subjects)

  -- the same of numbered boxes
  abbrev pub drainer_of : Wiring S → Bool → ℕ × Box (Out S) → DrainerView S Rest
  drainer_of w keeps x = drainer_at w keeps x.0 x.1

  -- the drainers
  abbrev pub drainers_of : Wiring S → Bool → List (DrainerView S Rest)
  drainers_of w keeps = map (drainer_of w keeps) (enumerate_from 0 w.drainers)

-- THE HUBS

-- the hubs have the rules of the subjects, and no event yet
pub record AreHubsOf (subjects : List SubjectConfig) (hubs : List HubView) : Type 0 where
  pub rules : map (λ hub. hub.state.rules) hubs ≡ map (λ subject. subject.rules) subjects
  pub fresh : All (λ hub. StandsFor hub.state NoEvents) hubs
  pub misses : All (λ hub. hub.misses ≡ 0) hubs

-- THE WHOLE

-- what boxes join: the pumps, the drainers, the ports by which these are told to leave, and the desks
pub record Parts (S Rest : Type 0) : Type 0 where
  pub pumps : List (PumpView S)
  pub drainers : List (DrainerView S Rest)
  pub leaves : List (Outgoing (Out S))
  pub desks : List (DeskView S)

module _ {S Rest : Type 0} where
  abbrev pub joined_parts : List (PumpView S) → List (DrainerView S Rest) → List (Outgoing (Out S)) → List (DeskView S) → Parts S Rest
  joined_parts pumps drainers leaves desks = record { pumps = pumps; drainers = drainers; leaves = leaves; desks = desks }

  -- the parts are those of a configuration, joined by these boxes and with these hubs, and the drainers keep what their sinks
  -- leave or not; they have done nothing yet
  pub record IsWired (config : Config) (w : Wiring S) (hubs : List HubView) (keeps : Bool) (parts : Parts S Rest) : Type 0 where
    pub boxes : IsSizedFor config w
    pub hubs_are : AreHubsOf config.subjects.items hubs
    pub pumps_are : parts.pumps ≡ pumps_of w hubs
    pub drainers_are : parts.drainers ≡ drainers_of w keeps
    pub leaves_are : parts.leaves ≡ leave_ports w
    pub desks_are : parts.desks ≡ desks_of w
