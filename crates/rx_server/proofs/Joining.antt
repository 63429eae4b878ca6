-- The parts of a server are those of its wiring.
use Rattle.std.proofs.Common.{◌≡◌, ◌∙◌, sym, refl, ap, subst, ℕ, Bool, suc, ◌+◌, ◌-◌, ◌<◌, ◌≤◌, max, List, [], ◌∷◌, ◌++◌, Option, None, Some, get_or, length, map, take, true, arith}
use Rattle.std.proofs.lemmas.Bool.Decides.{nat_tests}
use Rattle.std.proofs.lemmas.List.{length-map, map_more}
use Rattle.std.proofs.lemmas.List.Elements.{All-cons, All-map, All-nil, All-same}
use Rattle.std.proofs.lemmas.List.FromFn.{length-enumerate_from}
use Rattle.std.specs.List.{All, enumerate_from, zip}
use Rattle.std.specs.Ordering.{nat_cmp, ord_max}
use Rattle.rx_hub.specs.Hubs.{HubView, are_in_range}
use Rattle.rx_mailbox.specs.Boxes.{Box, Outgoing, Incoming, outgoing, incoming}
use Rattle.rx_note.specs.declared.limits.Limits.{Limits}
use Rattle.rx_pump.specs.declared.call.Call.{Call}
use Rattle.rx_pump.specs.declared.out.Out.{Out}
use Rattle.rx_pump.specs.declared.reply.Reply.{Reply}
use Rattle.rx_pump.specs.Pumps.{PumpView, fresh_pump}
use Rattle.rx_pump.specs.Desks.{DeskView, fresh_desk}
use Rattle.rx_drain.specs.Drainers.{DrainerView, fresh_drainer}
use Rattle.rx_config.specs.declared.config.Config.{Config}
use Rattle.rx_config.specs.declared.http.Http.{Http}
use Rattle.rx_config.specs.declared.subject_config.SubjectConfig.{SubjectConfig}
use Rattle.rx_server.specs.declared.close.rooms.Rooms.{Rooms}
use Rattle.rx_server.specs.declared.wired.Boxes.{Boxes}
use Rattle.rx_workers.specs.Crews.{IsFor}
use Rattle.rx_server.specs.OpenBoxes.{AreOpenFor}
use Rattle.rx_server.specs.Rooms.{AreRooms}
use Rattle.rx_server.specs.Wirings.{AreHubsOf, AreOpened, IsSizedFor, RowView, Wiring, behind, desk_count, desk_of, desks_of, desks_with, drainer_of, drainers_of, greatest, leave_ports, most_observers, next_port, ports_at, pump_of, pumps_of, row_ports, whole_row}
use Rattle.rx_server.proofs.Rows.{ports-behind}

module _ {B : Type 0} where
  -- of new boxes the port of each number is the new port of that number
  pub row-whole : (n count : ℕ) (boxes : List (Box B)) → row_ports n (map (whole_row count) boxes) ≡ ports_at n boxes
  row-whole n count [] = refl
  row-whole n count (box ∷ boxes) =
      let number : 0 + n ≡ n = omega arith in
      ap (λ (m : ℕ). outgoing box m [] ∷ row_ports n (map (whole_row count) boxes)) number
      ∙ ap (λ (l : List (Outgoing B)). outgoing box n [] ∷ l) (row-whole n count boxes)

  -- and behind the first ones that of the number which follows them
  pub row-behind : (k n count : ℕ) (boxes : List (Box B)) → row_ports n (map (behind k) (map (whole_row count) boxes)) ≡ ports_at (k + n) boxes
  row-behind k n count [] = refl
  row-behind k n count (box ∷ boxes) =
      let number : 0 + k + n ≡ k + n = omega arith in
      ap (λ (m : ℕ). outgoing box m [] ∷ row_ports n (map (behind k) (map (whole_row count) boxes))) number
      ∙ ap (λ (l : List (Outgoing B)). outgoing box (k + n) [] ∷ l) (row-behind k n count boxes)

-- parts that are made alike of numbered items
pub numbered : {X Y D : Type 0} (F : ℕ × Y → D) (G : ℕ × X → D) (g : X → Y) → ((n : ℕ) (x : X) → F (n, g x) ≡ G (n, x))
    → (k : ℕ) (xs : List X) → map F (enumerate_from k (map g xs)) ≡ map G (enumerate_from k xs)
numbered F G g same k [] = refl
numbered {X = X} {Y = Y} {D = D} F G g same k (x ∷ xs) =
    ap (λ (d : D). d ∷ map F (enumerate_from (k + 1) (map g xs))) (same k x)
    ∙ ap (λ (l : List D). G (k, x) ∷ l) (numbered F G g same (k + 1) xs)

-- items beside others that were made
pub beside : {H X Y : Type 0} (g : X → Y) (hs : List H) (xs : List X) → zip hs (map g xs) ≡ map (λ p. (p.0, g p.1)) (zip hs xs)
beside g [] xs = refl
beside g (h ∷ hs) [] = refl
beside {H = H} {X = X} {Y = Y} g (h ∷ hs) (x ∷ xs) = ap (λ (l : List (H × Y)). (h, g x) ∷ l) (beside g hs xs)

-- as many as there are of both
pub zip-count : {H X : Type 0} (hs : List H) (xs : List X) → length hs ≡ length xs → length (zip hs xs) ≡ length xs
zip-count [] [] same = refl
zip-count [] (x ∷ xs) same = same
zip-count (h ∷ hs) [] same = refl
zip-count (h ∷ hs) (x ∷ xs) same = let rest : length hs ≡ length xs = omega arith in ap suc (zip-count hs xs rest)

module _ {S : Type 0} where
  -- the pumps
  pub pumps-wired : (w : Wiring S) (senders a b : ℕ) (hubs : List HubView) (inboxes : List (Incoming (Call S))) (drainers : List (RowView (Out S))) (replies : List (RowView (Reply S))) (pumps : List (PumpView S))
      → senders ≡ length w.replies + length w.drainers → inboxes ≡ map (λ box. incoming box senders []) w.subjects
      → drainers ≡ map (whole_row a) w.drainers → replies ≡ map (whole_row b) w.replies
      → pumps ≡ map (λ x. fresh_pump x.1.0 x.1.1 (row_ports x.0 drainers) (row_ports x.0 replies)) (enumerate_from 0 (zip hubs inboxes))
      → pumps ≡ pumps_of w hubs
  pumps-wired w senders a b hubs inboxes drainers replies pumps count inboxes_are drainers_are replies_are are =
      let F = λ (x : ℕ × (HubView × Incoming (Call S))). fresh_pump x.1.0 x.1.1 (row_ports x.0 drainers) (row_ports x.0 replies) in
      let inbox = λ (box : Box (Call S)). incoming box senders [] in
      are ∙ ap (λ (l : List (Incoming (Call S))). map F (enumerate_from 0 (zip hubs l))) inboxes_are
      ∙ ap (λ (l : List (HubView × Incoming (Call S))). map F (enumerate_from 0 l)) (beside inbox hubs w.subjects)
      ∙ numbered F (pump_of w) (λ (p : HubView × Box (Call S)). (p.0, inbox p.1)) (λ n x.
      ap (λ (k : ℕ). fresh_pump x.0 (incoming x.1 k []) (row_ports n drainers) (row_ports n replies)) count
      ∙ ap (λ (ports : List (Outgoing (Out S))). fresh_pump x.0 (incoming x.1 (length w.replies + length w.drainers) []) ports (row_ports n replies))
      (ap (row_ports n) drainers_are ∙ row-whole n a w.drainers)
      ∙ ap (λ (ports : List (Outgoing (Reply S))). fresh_pump x.0 (incoming x.1 (length w.replies + length w.drainers) []) (ports_at n w.drainers) ports)
      (ap (row_ports n) replies_are ∙ row-whole n b w.replies)) 0 (zip hubs w.subjects)

  -- the desks
  pub desks-wired : (w : Wiring S) (senders a : ℕ) (inboxes : List (Incoming (Reply S))) (subjects : List (RowView (Call S))) (desks : List (DeskView S))
      → senders ≡ length w.subjects → inboxes ≡ map (λ box. incoming box senders []) w.replies → subjects ≡ map (whole_row a) w.subjects
      → desks ≡ map (λ x. fresh_desk (row_ports x.0 subjects) x.1) (enumerate_from 0 inboxes)
      → desks ≡ desks_of w
  desks-wired w senders a inboxes subjects desks count inboxes_are subjects_are are =
      let F = λ (x : ℕ × Incoming (Reply S)). fresh_desk (row_ports x.0 subjects) x.1 in
      let inbox = λ (box : Box (Reply S)). incoming box senders [] in
      are ∙ ap (λ (l : List (Incoming (Reply S))). map F (enumerate_from 0 l)) inboxes_are
      ∙ numbered F (desk_of w) inbox (λ n box.
      ap (λ (k : ℕ). fresh_desk (row_ports n subjects) (incoming box k [])) count
      ∙ ap (λ (ports : List (Outgoing (Call S))). fresh_desk ports (incoming box (length w.subjects) [])) (ap (row_ports n) subjects_are ∙ row-whole n a w.subjects)) 0 w.replies

module _ {S Rest : Type 0} where
  -- the drainers, whose ports to subjects come behind those of the desks
  pub drainers-wired : (w : Wiring S) (senders a done : ℕ) (inboxes : List (Incoming (Out S))) (subjects left : List (RowView (Call S))) (drainers : List (DrainerView S Rest)) (keeps : Bool)
      → senders ≡ length w.subjects + 1 → done ≡ length w.replies → inboxes ≡ map (λ box. incoming box senders []) w.drainers
      → subjects ≡ map (whole_row a) w.subjects → left ≡ map (behind done) subjects
      → drainers ≡ map (λ x. fresh_drainer keeps x.1 (row_ports x.0 left)) (enumerate_from 0 inboxes)
      → drainers ≡ drainers_of w keeps
  drainers-wired w senders a done inboxes subjects left drainers keeps count desks inboxes_are subjects_are left_is are =
      let F : ℕ × Incoming (Out S) → DrainerView S Rest = λ (x : ℕ × Incoming (Out S)). fresh_drainer keeps x.1 (row_ports x.0 left) in
      let inbox = λ (box : Box (Out S)). incoming box senders [] in
      are ∙ ap (λ (l : List (Incoming (Out S))). map F (enumerate_from 0 l)) inboxes_are
      ∙ numbered F (drainer_of w keeps) inbox (λ n box.
      ap (λ (k : ℕ). fresh_drainer {S = S} {Rest = Rest} keeps (incoming box k []) (row_ports n left)) count
      ∙ ap (λ (ports : List (Outgoing (Call S))). fresh_drainer {S = S} {Rest = Rest} keeps (incoming box (length w.subjects + 1) []) ports)
      (ap (row_ports n) (left_is ∙ ap (map (behind done)) subjects_are) ∙ row-behind done n a w.subjects
      ∙ ap (λ (k : ℕ). ports_at (k + n) w.subjects) desks)) 0 w.drainers

-- PORTS AND INBOXES ENOUGH

module _ {B : Type 0} where
  -- so many ports of each box are left
  pub rows-have : (count k : ℕ) (boxes : List (Box B)) (rows : List (RowView B)) → rows ≡ map (whole_row count) boxes → k ≤ count → All (λ row. k ≤ row.count) rows
  rows-have count k boxes rows are most =
      All-same (λ (row : RowView B). k ≤ row.count) rows (map (whole_row count) boxes) are (All-map (λ (row : RowView B). k ≤ row.count) (whole_row count) boxes (λ i d within. most))

  pub rows-left : (count done k : ℕ) (boxes : List (Box B)) (rows left : List (RowView B))
      → rows ≡ map (whole_row count) boxes → left ≡ map (behind done) rows → k + done ≤ count → All (λ row. k ≤ row.count) left
  rows-left count done k boxes rows left are moved most =
      let enough : k ≤ count - done = omega arith in
      All-same (λ (row : RowView B). k ≤ row.count) left (map (behind done) rows) moved
      (All-map (λ (row : RowView B). k ≤ row.count) (behind done) rows
      (All-same (λ (row : RowView B). k ≤ row.count - done) rows (map (whole_row count) boxes) are
      (All-map (λ (row : RowView B). k ≤ row.count - done) (whole_row count) boxes (λ i d within. enough))))

  -- new inboxes received nothing
  pub inboxes-new : (senders : ℕ) (boxes : List (Box B)) (inboxes : List (Incoming B)) (P : Incoming B → Type 0)
      → inboxes ≡ map (λ box. incoming box senders []) boxes → ((box : Box B) → P (incoming box senders [])) → All P inboxes
  inboxes-new senders boxes inboxes P are holds =
      All-same P inboxes (map (λ box. incoming box senders []) boxes) are (All-map P (λ box. incoming box senders []) boxes (λ i d within. holds _))

-- SIZES

-- a server has a desk at least, and few
few_desks : (workers : ℕ) (http : Option Http) → 1 ≤ workers → workers ≤ 32 → (1 ≤ desks_with workers http) × (desks_with workers http ≤ 33)
few_desks workers None least most = (least, omega (arith, most))
few_desks workers (Some http) least most = (omega arith, omega (arith, most))

pub desks-few : (config : Config) → (1 ≤ desk_count config) × (desk_count config ≤ 33)
desks-few config = few_desks config.workers config.http config.workers_in_range.0 config.workers_in_range.1

-- a subject takes at most 64 observers
pub observers-few : (limits : Limits) → are_in_range limits ≡ true → limits.observers ≤ 64
observers-few limits within = grind (arith, nat_tests)

greatest-push : (ns : List ℕ) (n : ℕ) → greatest (ns ++ n ∷ []) ≡ max (greatest ns) n
greatest-push [] n = omega arith
greatest-push (m ∷ ns) n = omega (arith, greatest-push ns n)

-- the most observers with one subject more
pub most-more : (subjects : List SubjectConfig) (i : ℕ) (d : SubjectConfig) → i < length subjects
    → most_observers (take (i + 1) subjects) ≡ max (most_observers (take i subjects)) (get_or subjects i d).rules.limits.observers
most-more subjects i d within =
    let f = λ (subject : SubjectConfig). subject.rules.limits.observers in
    ap greatest (map_more f subjects i d within) ∙ greatest-push (map f (take i subjects)) (f (get_or subjects i d))

-- what `max` answers is the greater one
pub larger : (a b : ℕ) → ord_max nat_cmp a b ≡ max a b
larger a b = grind (arith, nat_tests)

-- boxes of the same numbers
pub Opened-as : {B : Type 0} (count count2 capacity capacity2 senders senders2 : ℕ) (boxes : List (Box B)) (inboxes : List (Incoming B)) (rows : List (RowView B))
    → count ≡ count2 → capacity ≡ capacity2 → senders ≡ senders2
    → AreOpened count capacity senders boxes inboxes rows → AreOpened count2 capacity2 senders2 boxes inboxes rows
Opened-as {B = B} count count2 capacity capacity2 senders senders2 boxes inboxes rows counts capacities senders_are opened =
    subst (λ (n : ℕ). AreOpened {B = B} count2 capacity2 n boxes inboxes rows) senders_are
    (subst (λ (n : ℕ). AreOpened {B = B} count2 n senders boxes inboxes rows) capacities
    (subst (λ (n : ℕ). AreOpened {B = B} n capacity senders boxes inboxes rows) counts opened))

-- COUNTS

-- there are as many inboxes, and as many ports of each number, as boxes
module _ {B : Type 0} where
  pub inboxes-count : (count capacity senders : ℕ) (boxes : List (Box B)) (inboxes : List (Incoming B)) (rows : List (RowView B))
      → AreOpened count capacity senders boxes inboxes rows → length inboxes ≡ count
  inboxes-count count capacity senders boxes inboxes rows opened =
      ap length opened.inboxes_are ∙ length-map boxes (λ box. incoming box senders []) ∙ opened.count_is

  pub rows-count : (count capacity senders : ℕ) (boxes : List (Box B)) (inboxes : List (Incoming B)) (rows : List (RowView B))
      → AreOpened count capacity senders boxes inboxes rows → length rows ≡ count
  rows-count count capacity senders boxes inboxes rows opened =
      ap length opened.rows_are ∙ length-map boxes (whole_row senders) ∙ opened.count_is

  pub left-count : (done : ℕ) (rows left : List (RowView B)) → left ≡ map (behind done) rows → length left ≡ length rows
  left-count done rows left are = ap length are ∙ length-map rows (behind done)

-- there is a hub for each subject
pub hubs-count : (subjects : List SubjectConfig) (hubs : List HubView) → AreHubsOf subjects hubs → length hubs ≡ length subjects
hubs-count subjects hubs are =
    sym (length-map hubs (λ (hub : HubView). hub.state.rules)) ∙ ap length are.rules ∙ length-map subjects (λ (subject : SubjectConfig). subject.rules)

-- as many parts as items
pub made-count : {X D : Type 0} (f : ℕ × X → D) (xs : List X) (made : List D) → made ≡ map f (enumerate_from 0 xs) → length made ≡ length xs
made-count f xs made are = ap length are ∙ length-map (enumerate_from 0 xs) f ∙ length-enumerate_from 0 xs

module _ {S : Type 0} where
  -- there is a pump for each subject
  pub pumps-count : (subjects : List SubjectConfig) (hubs : List HubView) (inboxes : List (Incoming (Call S))) (f : ℕ × (HubView × Incoming (Call S)) → PumpView S) (pumps : List (PumpView S))
      → AreHubsOf subjects hubs → length inboxes ≡ length subjects → pumps ≡ map f (enumerate_from 0 (zip hubs inboxes)) → length pumps ≡ length subjects
  pumps-count subjects hubs inboxes f pumps hubs_are count are =
      made-count f (zip hubs inboxes) pumps are ∙ zip-count hubs inboxes (hubs-count subjects hubs hubs_are ∙ sym count) ∙ count

  -- the boxes are as many and as large as they were asked for
  pub boxes-are : (config : Config) (w : Wiring S) (boxes : Boxes S) → AreOpenFor config w boxes → IsSizedFor config w
  boxes-are config w boxes opened = record {
    subjects = opened.subjects.count_is;
    drainers = opened.drainers.count_is;
    replies = opened.replies.count_is;
    subject_capacities = opened.subjects.capacities;
    drainer_capacities = opened.drainers.capacities;
    reply_capacities = opened.replies.capacities;
  }

  -- the ports by which the drainers are told to leave
  pub leaves-wired : (w : Wiring S) (a done : ℕ) (drainers left : List (RowView (Out S))) (leaves : List (Outgoing (Out S)))
      → done ≡ length w.subjects → drainers ≡ map (whole_row a) w.drainers → left ≡ map (behind done) drainers
      → leaves ≡ map next_port left → leaves ≡ leave_ports w
  leaves-wired w a done drainers left leaves count drainers_are left_is are =
      are ∙ ap (map next_port) left_is ∙ ports-behind done drainers ∙ ap (row_ports done) drainers_are ∙ row-whole done a w.drainers
      ∙ ap (λ (n : ℕ). ports_at n w.drainers) count

  -- a desk has a port for each subject
  pub desks-fit : (config : Config) (w : Wiring S) (desks : List (DeskView S))
      → desks ≡ desks_of w → length w.subjects ≡ length config.subjects.items → All (IsFor config) desks
  desks-fit config w desks are count =
      All-same (IsFor config) desks (desks_of w) are (All-map (IsFor config) (desk_of w) (enumerate_from 0 w.replies) (λ i d within.
      let number = (get_or (enumerate_from 0 w.replies) i d).0 in
      let ports : length (ports_at number w.subjects) ≡ length w.subjects = length-map w.subjects (λ (box : Box (Call S)). outgoing box number []) in
      omega (arith, ports, count)))

-- what was made of each is as many
pub mapped-count : {X Y : Type 0} (f : X → Y) (xs : List X) (ys : List Y) → map f xs ≡ ys → length xs ≡ length ys
mapped-count f xs ys are = sym (length-map xs f) ∙ ap length are

module _ {S Rest : Type 0} where
  -- each drainer keeps what its sinks leave as it is told
  pub drainers-keep : (w : Wiring S) (keeps : Bool) (k : ℕ) (boxes : List (Box (Out S)))
      → All (λ (drainer : DrainerView S Rest). drainer.keeps ≡ keeps) (map (drainer_of w keeps) (enumerate_from k boxes))
  drainers-keep w keeps k [] = All-nil (λ (drainer : DrainerView S Rest). drainer.keeps ≡ keeps)
  drainers-keep w keeps k (box ∷ boxes) =
      All-cons (λ (drainer : DrainerView S Rest). drainer.keeps ≡ keeps) (drainer_of w keeps (k, box)) (map (drainer_of w keeps) (enumerate_from (k + 1) boxes)) refl
      (drainers-keep w keeps (k + 1) boxes)

  -- there is a port for each drainer, by which it is told to leave
  pub leaves-fit : (w : Wiring S) (keeps : Bool) (leaves : List (Outgoing (Out S))) (drainers : List (DrainerView S Rest))
      → leaves ≡ leave_ports w → drainers ≡ drainers_of w keeps → length leaves ≡ length drainers
  leaves-fit w keeps leaves drainers leaves_are drainers_are =
      ap length leaves_are ∙ length-map w.drainers (λ box. outgoing box (length w.subjects) [])
      ∙ sym (made-count {D = DrainerView S Rest} (drainer_of w keeps) w.drainers drainers drainers_are)

  -- room for the same numbers
  pub Rooms-as : (pumps pumps2 drainers drainers2 desks desks2 to_end to_end2 : ℕ) (rooms : Rooms S Rest)
      → pumps ≡ pumps2 → drainers ≡ drainers2 → desks ≡ desks2 → to_end ≡ to_end2 → AreRooms pumps drainers desks to_end rooms → AreRooms pumps2 drainers2 desks2 to_end2 rooms
  Rooms-as pumps pumps2 drainers drainers2 desks desks2 to_end to_end2 rooms pumps_are drainers_are desks_are left fit =
      subst (λ (n : ℕ). AreRooms pumps2 drainers2 desks2 n rooms) left
      (subst (λ (n : ℕ). AreRooms pumps2 drainers2 n to_end rooms) desks_are
      (subst (λ (n : ℕ). AreRooms pumps2 n desks to_end rooms) drainers_are
      (subst (λ (n : ℕ). AreRooms n drainers desks to_end rooms) pumps_are fit)))
