-- What all parts of a server left, once its threads have ended well.
use Rattle.std.proofs.Common.{◌≡◌, ◌∙◌, sym, refl, ap, subst, ℕ, Bool, ◌+◌, List, [], ◌∷◌, ◌++◌, length, map, Vec, vec_capacity, arith}
use Rattle.std.proofs.lemmas.List.Elements.{All-append, All-cons, All-head, All-nil, All-tail, All-weaker}
use Rattle.std.proofs.lemmas.Slice.Zip.{AllZip-long}
use Rattle.std.specs.List.{All, AllZip, enumerate_from, zip}
use Rattle.rx_hub.specs.Hubs.{HubView}
use Rattle.rx_mailbox.specs.Boxes.{Box, HasEachBye, Outgoing}
use Rattle.rx_pump.specs.declared.call.Call.{Call}
use Rattle.rx_pump.specs.declared.call_desk.ended_desk.EndedDesk.{EndedDesk}
use Rattle.rx_pump.specs.declared.out.Out.{Out}
use Rattle.rx_pump.specs.Pumps.{AreSame, PumpView, port_place}
use Rattle.rx_mailbox.specs.PortRows.{with_bye}
use Rattle.rx_pump.specs.Serving as pump_serving
use Rattle.rx_sink.specs.Acts.{Acts}
use Rattle.rx_drain.specs.Drainers.{DrainerView}
use Rattle.rx_drain.specs.Serving as drainer_serving
use Rattle.rx_server.specs.declared.close.rooms.Rooms.{Rooms}
use Rattle.rx_server.specs.Leaving.{AreRow, HasItsBoxes, HasLeft}
use Rattle.rx_server.specs.Returning.{AreEmpty}
use Rattle.rx_server.specs.Rooms.{AreRooms, HoldBoxes}
use Rattle.rx_server.specs.Servers.{IsEndOf, IsWhole, ServerView}
use Rattle.rx_server.specs.Wirings.{Wiring, desks_of, drainer_of, ports_at, pump_of}
use Rattle.rx_server.proofs.Desks.{bye-places, end-boxes}
use Rattle.rx_server.proofs.Joining.{hubs-count, made-count, zip-count}

-- LISTS

-- what follows for the second of each pair
pub zip-all : {A B : Type 0} (R : A → B → Type 0) (P : A → Type 0) (Q : B → Type 0) (xs : List A) (ys : List B) → ((x : A) (y : B) → R x y → P x → Q y)
    → AllZip R xs ys → All P xs → All Q ys
zip-all R P Q [] [] follows all has = All-nil Q
zip-all R P Q [] (y ∷ ys) follows all has = absurd all
zip-all R P Q (x ∷ xs) [] follows all has = absurd all
zip-all R P Q (x ∷ xs) (y ∷ ys) follows all has =
    All-cons Q y ys (follows x y all.0 (All-head P x xs has)) (zip-all R P Q xs ys follows all.1 (All-tail P x xs has))

-- what both of each pair have
pub zip-same : {A B C : Type 0} (R : A → B → Type 0) (f : A → C) (g : B → C) (xs : List A) (ys : List B) → ((x : A) (y : B) → R x y → g y ≡ f x) → AllZip R xs ys → map g ys ≡ map f xs
zip-same R f g [] [] same all = refl
zip-same R f g [] (y ∷ ys) same all = absurd all
zip-same R f g (x ∷ xs) [] same all = absurd all
zip-same {C = C} R f g (x ∷ xs) (y ∷ ys) same all =
    ap (λ (c : C). c ∷ map g ys) (same x y all.0) ∙ ap (λ (l : List C). f x ∷ l) (zip-same R f g xs ys same all.1)

module _ {B : Type 0} where
  boxes-of : (ports : List (Outgoing B)) → map (λ (p : Box B × ℕ). p.0) (map port_place ports) ≡ map (λ port. port.box) ports
  boxes-of [] = refl
  boxes-of (port ∷ ports) = ap (λ (l : List (Box B)). port.box ∷ l) (boxes-of ports)

  -- ports at the same places are of the same boxes
  pub row-same : (boxes : List (Box B)) (before after : List (Outgoing B)) → AreSame before after → AreRow boxes before → AreRow boxes after
  row-same boxes before after same row = sym (boxes-of after) ∙ ap (map (λ (p : Box B × ℕ). p.0)) same ∙ boxes-of before ∙ row

  -- new ports of each box
  pub row-new : (number : ℕ) (boxes : List (Box B)) → AreRow boxes (ports_at number boxes)
  row-new number [] = refl
  row-new number (box ∷ boxes) = ap (λ (l : List (Box B)). box ∷ l) (row-new number boxes)

  pub row-bye : (boxes : List (Box B)) (ports : List (Outgoing B)) → AreRow boxes ports → AreRow boxes (map with_bye ports)
  row-bye boxes ports row = row-same boxes ports (map with_bye ports) (bye-places ports) row

-- PUMPS AND DRAINERS AS THEY WERE WIRED

module _ {S : Type 0} (w : Wiring S) where
  -- a pump has a port to each drainer's box and one to each box of replies
  pub record HasRows (pump : PumpView S) : Type 0 where
    pub outs : AreRow w.drainers pump.drainers
    pub answers : AreRow w.replies pump.replies

  pumps-rows : (k : ℕ) (xs : List (HubView × Box (Call S))) → All HasRows (map (pump_of w) (enumerate_from k xs))
  pumps-rows k [] = All-nil HasRows
  pumps-rows k (x ∷ xs) =
      All-cons HasRows (pump_of w (k, x)) (map (pump_of w) (enumerate_from (k + 1) xs))
      (record { outs = row-new k w.drainers; answers = row-new k w.replies }) (pumps-rows (k + 1) xs)

  pumps-inboxes : (k : ℕ) (hubs : List HubView) (boxes : List (Box (Call S))) → length hubs ≡ length boxes
      → map (λ pump. pump.inbox.box) (map (pump_of w) (enumerate_from k (zip hubs boxes))) ≡ boxes
  pumps-inboxes k [] [] count = refl
  pumps-inboxes k [] (box ∷ boxes) count = absurd (omega arith)
  pumps-inboxes k (hub ∷ hubs) [] count = absurd (omega arith)
  pumps-inboxes k (hub ∷ hubs) (box ∷ boxes) count = ap (λ (l : List (Box (Call S))). box ∷ l) (pumps-inboxes (k + 1) hubs boxes (omega arith))

module _ {S : Type 0} (Rest : Type 0) (w : Wiring S) (keeps : Bool) where
  drainers-rows : (k : ℕ) (boxes : List (Box (Out S))) → All (λ drainer. AreRow w.subjects drainer.ports) (map (drainer_of {Rest = Rest} w keeps) (enumerate_from k boxes))
  drainers-rows k [] = All-nil (λ (drainer : DrainerView S Rest). AreRow w.subjects drainer.ports)
  drainers-rows k (box ∷ boxes) =
      All-cons (λ (drainer : DrainerView S Rest). AreRow w.subjects drainer.ports) (drainer_of w keeps (k, box)) (map (drainer_of w keeps) (enumerate_from (k + 1) boxes))
      (row-new (length w.replies + k) w.subjects) (drainers-rows (k + 1) boxes)

  drainers-inboxes : (k : ℕ) (boxes : List (Box (Out S))) → map (λ (drainer : DrainerView S Rest). drainer.inbox.box) (map (drainer_of {Rest = Rest} w keeps) (enumerate_from k boxes)) ≡ boxes
  drainers-inboxes k [] = refl
  drainers-inboxes k (box ∷ boxes) = ap (λ (l : List (Box (Out S))). box ∷ l) (drainers-inboxes (k + 1) boxes)

-- ALL PARTS

module _ {S Rest : Type 0} (acts : Acts S Rest) (server : ServerView S Rest) (whole : IsWhole server) where
  -- there are as many boxes as pumps, drainers and desks
  pub pumps-many : length server.pumps ≡ length whole.wiring.subjects
  pumps-many =
      let hubs = hubs-count server.config.subjects.items whole.hubs whole.wired.hubs_are ∙ sym whole.wired.boxes.subjects in
      made-count (pump_of whole.wiring) (zip whole.hubs whole.wiring.subjects) server.pumps whole.wired.pumps_are
      ∙ zip-count whole.hubs whole.wiring.subjects hubs

  pub drainers-many : length server.drainers ≡ length whole.wiring.drainers
  drainers-many = made-count {D = DrainerView S Rest} (drainer_of whole.wiring whole.keeps) whole.wiring.drainers server.drainers whole.wired.drainers_are

  pub desks-many : length server.made ≡ length whole.wiring.replies
  desks-many = ap length whole.wired.desks_are ∙ made-count _ whole.wiring.replies (desks_of whole.wiring) refl

  pub has-left : (start left : Rooms S Rest) (ended more : List (EndedDesk S)) → AreRooms (length server.pumps) (length server.drainers) (length server.made) (length server.desks) start
      → left.returned ≡ start.returned → left.settled ≡ start.settled → left.subjects ≡ start.subjects → left.put_away ≡ start.put_away
      → left.leaves.items ≡ map with_bye server.leaves → left.desks.items ≡ server.kept ++ more → All (IsEndOf server.made) more → All (IsEndOf server.made) ended
      → AllZip pump_serving.HasPumped server.pumps left.pumps.items → AllZip (drainer_serving.HasDrained acts) server.drainers left.drainers.items
      → HasLeft whole.wiring left ended
  has-left start left ended more rooms returned settled subjects put_away leaves desks finished handed pumped drained =
      let w = whole.wiring in
      let hubs = hubs-count server.config.subjects.items whole.hubs whole.wired.hubs_are ∙ sym whole.wired.boxes.subjects in
      let rows = subst (All (HasRows w)) (sym whole.wired.pumps_are) (pumps-rows w 0 (zip whole.hubs w.subjects)) in
      let drainer_rows = subst (All (λ (drainer : DrainerView S Rest). AreRow w.subjects drainer.ports)) (sym whole.wired.drainers_are) (drainers-rows Rest w whole.keeps 0 w.drainers) in
      let pump_count = AllZip-long pump_serving.HasPumped server.pumps left.pumps.items pumped in
      let drainer_count = AllZip-long (drainer_serving.HasDrained acts) server.drainers left.drainers.items drained in
      let subject_room = ap (λ (list : Vec _ _). vec_capacity list) subjects in
      let away_room = ap (λ (list : Vec _ _). vec_capacity list) put_away in
      let boxes = λ (end : EndedDesk S) (is : IsEndOf server.made end). end-boxes w server.made end whole.wired.desks_are is in
      record {
        some = omega (arith, whole.some, whole.wired.boxes.subjects);
        pumps =
            zip-same pump_serving.HasPumped (λ pump. pump.inbox.box) (λ end. end.inbox.box) server.pumps left.pumps.items (λ pump end serves. serves.1.box) pumped
            ∙ ap (map (λ pump. pump.inbox.box)) whole.wired.pumps_are ∙ pumps-inboxes w 0 whole.hubs w.subjects hubs;
        pumps_done = zip-all pump_serving.HasPumped (HasRows w) (λ end. HasEachBye end.inbox) server.pumps left.pumps.items (λ pump end serves has. serves.1.each_bye) pumped rows;
        to_drainers = zip-all pump_serving.HasPumped (HasRows w) (λ end. AreRow w.drainers end.drainers.items) server.pumps left.pumps.items
            (λ pump end serves has. row-same w.drainers pump.drainers end.drainers.items serves.1.drainers has.outs) pumped rows;
        to_desks = zip-all pump_serving.HasPumped (HasRows w) (λ end. AreRow w.replies end.replies.items) server.pumps left.pumps.items
            (λ pump end serves has. row-same w.replies pump.replies end.replies.items serves.1.callers has.answers) pumped rows;
        drainers =
            zip-same (drainer_serving.HasDrained acts) (λ drainer. drainer.inbox.box) (λ end. end.inbox.box) server.drainers left.drainers.items (λ drainer end serves. serves.1.places.box) drained
            ∙ ap (map (λ (drainer : DrainerView S Rest). drainer.inbox.box)) whole.wired.drainers_are ∙ drainers-inboxes Rest w whole.keeps 0 w.drainers;
        drainers_done = zip-all (drainer_serving.HasDrained acts) (λ drainer. AreRow w.subjects drainer.ports) (λ end. HasEachBye end.inbox) server.drainers left.drainers.items
            (λ drainer end serves has. serves.1.each_bye) drained drainer_rows;
        to_subjects = zip-all (drainer_serving.HasDrained acts) (λ drainer. AreRow w.subjects drainer.ports) (λ end. AreRow w.subjects end.ports.items) server.drainers left.drainers.items
            (λ drainer end serves has. row-same w.subjects drainer.ports end.ports.items serves.1.ports has) drained drainer_rows;
        leaves = subst (AreRow w.drainers) (sym leaves) (row-bye w.drainers server.leaves (subst (AreRow w.drainers) (sym whole.wired.leaves_are) (row-new (length w.subjects) w.drainers)));
        desks = All-append (HasItsBoxes w) ended left.desks.items (All-weaker (IsEndOf server.made) (HasItsBoxes w) boxes ended handed)
            (subst (All (HasItsBoxes w)) (sym desks) (All-weaker (IsEndOf server.made) (HasItsBoxes w) boxes (server.kept ++ more) (All-append (IsEndOf server.made) server.kept more whole.ended finished)));
        nothing_came = subst (λ r. AreEmpty (length w.subjects) (length w.drainers) (length w.replies) r) (sym returned)
            (subst (λ n. AreEmpty n (length w.drainers) (length w.replies) start.returned) pumps-many
            (subst (λ n. AreEmpty (length server.pumps) n (length w.replies) start.returned) drainers-many
            (subst (λ n. AreEmpty (length server.pumps) (length server.drainers) n start.returned) desks-many rooms.nothing_came)));
        none_settled = subst (λ r. HoldBoxes (length w.subjects) (length w.drainers) (length w.replies) r) (sym settled)
            (subst (λ n. HoldBoxes n (length w.drainers) (length w.replies) start.settled) pumps-many
            (subst (λ n. HoldBoxes (length server.pumps) n (length w.replies) start.settled) drainers-many
            (subst (λ n. HoldBoxes (length server.pumps) (length server.drainers) n start.settled) desks-many rooms.none_settled)));
        no_subjects = ap (λ (list : Vec _ _). list.items) subjects ∙ rooms.no_subjects;
        none_put_away = ap (λ (list : Vec _ _). list.items) put_away ∙ rooms.none_put_away;
        subjects_fit = omega (arith, pump_count, subject_room, rooms.subjects_fit, left.pumps.ok);
        put_away_fits = omega (arith, drainer_count, away_room, rooms.put_away_fits, left.drainers.ok);
      }
