-- Where a drainer served to its end, the port that tells it to leave has ended.
use Rattle.std.proofs.Common.{◌≡◌, ◌∙◌, sym, refl, ap, subst, ℕ, Bool, zero, suc, ◌+◌, List, [], ◌∷◌, ◌++◌, append_assoc, length, length-append, map, slice_get, Some, arith}
use Rattle.std.proofs.lemmas.List.{length-map, map_push}
use Rattle.std.proofs.lemmas.Slice.Zip.{AllZip-long}
use Rattle.std.specs.List.{AllZip, enumerate_from}
use Rattle.rx_mailbox.specs.Boxes.{Box, HasBye, Outgoing, all_told, told}
use Rattle.rx_pump.specs.declared.out.Out.{Out}
use Rattle.rx_sink.specs.Acts.{Acts}
use Rattle.rx_drain.specs.declared.drainer.drain_end.DrainEnd.{DrainEnd}
use Rattle.rx_drain.specs.Drainers.{DrainerView}
use Rattle.rx_drain.specs.Serving.{HasDrained}
use Rattle.rx_server.specs.Servers.{IsWhole, ServerView}
use Rattle.rx_server.specs.Wirings.{Wiring, drainer_of, ports_at}
use Rattle.rx_server.proofs.Ending.{drainers-many}

-- the item behind the first ones
seam : {X : Type 0} (xs : List X) (x : X) → slice_get (xs ++ x ∷ []) (length xs) ≡ Some x
seam [] x = refl
seam (y ∷ xs) x = seam xs x

module _ {S Rest : Type 0} (acts : Acts S Rest) where
  -- the box of the drainer at a place has received the Bye of that port
  abbrev Came : Outgoing (Out S) → DrainEnd S Rest → Type 0
  Came port end = (port.box ≡ end.inbox.box) × HasBye end.inbox port.number

  came-at : (w : Wiring S) (keeps : Bool) (k : ℕ) (boxes : List (Box (Out S))) (ends : List (DrainEnd S Rest)) → AllZip (HasDrained acts) (map (drainer_of w keeps) (enumerate_from k boxes)) ends
      → (place : ℕ) (port : Outgoing (Out S)) (end : DrainEnd S Rest) → slice_get (all_told (ports_at (length w.subjects) boxes)) place ≡ Some port → slice_get ends place ≡ Some end → Came port end
  came-at w keeps k [] ends all place port end here there = cc
  came-at w keeps k (box ∷ boxes) [] all place port end here there = absurd all
  came-at w keeps k (box ∷ boxes) (one ∷ ends) all zero port end here there =
      let mine : one ≡ end = cc in
      let of_box : port.box ≡ box = cc in
      let number : port.number ≡ length w.subjects = cc in
      let within = all.0.1.places.count in
      subst (λ (e : DrainEnd S Rest). Came port e) mine
      (of_box ∙ sym all.0.1.places.box, subst (HasBye one.inbox) (sym number) (all.0.1.each_bye (length w.subjects) (omega (arith, within))))
  came-at w keeps k (box ∷ boxes) (one ∷ ends) all (suc place) port end here there = came-at w keeps (k + 1) boxes ends all.1 place port end here there

  module _ (server : ServerView S Rest) (whole : IsWhole server) (ends : List (DrainEnd S Rest)) (drained : AllZip (HasDrained acts) server.drainers ends) where
    -- the last one too
    pub last-came : (others : List (Outgoing (Out S))) (port : Outgoing (Out S)) (before : List (DrainEnd S Rest)) (end : DrainEnd S Rest)
        → others ++ port ∷ [] ≡ all_told server.leaves → before ++ end ∷ [] ≡ ends → Came port end
    last-came others port before end ports are =
        let w = whole.wiring in
        let wired = ports ∙ ap all_told whole.wired.leaves_are in
        let many : length ends ≡ length w.drainers = AllZip-long (HasDrained acts) server.drainers ends drained ∙ drainers-many acts server whole in
        let row : length (all_told (ports_at (length w.subjects) w.drainers)) ≡ length w.drainers = length-map (ports_at (length w.subjects) w.drainers) _ ∙ length-map w.drainers _ in
        let same : length others ≡ length before = omega (arith, many, row, ap length wired, ap length are, length-append others (port ∷ []), length-append before (end ∷ [])) in
        came-at w whole.keeps 0 w.drainers ends (subst (λ (l : List (DrainerView S Rest)). AllZip (HasDrained acts) l ends) whole.wired.drainers_are drained) (length before) port end
        (ap (slice_get (all_told (ports_at (length w.subjects) w.drainers))) (sym same) ∙ ap (λ (l : List (Outgoing (Out S))). slice_get l (length others)) (sym wired) ∙ seam others port)
        (ap (λ (l : List (DrainEnd S Rest)). slice_get l (length before)) (sym are) ∙ seam before end)

    -- the last of those that are left open
    pub open-came : (done : List (Outgoing (Out S))) (left rest : List (Outgoing (Out S))) (port : Outgoing (Out S)) (before : List (DrainEnd S Rest)) (end : DrainEnd S Rest)
        → left ≡ rest ++ port ∷ [] → done ++ all_told left ≡ all_told server.leaves → ends ≡ before ++ end ∷ [] → Came (told port) end
    open-came done left rest port before end last parts are =
        last-came (done ++ all_told rest) (told port) before end
        (append_assoc done (all_told rest) (told port ∷ []) ∙ ap (λ (l : List (Outgoing (Out S))). done ++ l) (sym (map_push told rest port) ∙ ap all_told (sym last)) ∙ parts)
        (sym are)
