-- How closing a server ended.
use Rattle.std.proofs.Common.{◌≡◌, ◌∙◌, sym, refl, ap, subst, ℕ, suc, List, [], ◌∷◌, ◌++◌, length, map, Result, Ok, Err, inl, inr, IfErr, IfOk, MatchResult}
use Rattle.std.proofs.lemmas.List.Elements.{All-append}
use Rattle.std.specs.List.{All, AllZip, zip}
use Rattle.rx_pump.specs.declared.call_desk.ended_desk.EndedDesk.{EndedDesk}
use Rattle.rx_pump.specs.declared.pump.pump_end.PumpEnd.{PumpEnd}
use Rattle.rx_pump.specs.Marks.{Marked}
use Rattle.rx_pump.specs.Pumps.{PumpView}
use Rattle.rx_mailbox.specs.PortRows.{with_bye}
use Rattle.rx_pump.specs.Serving as pump_serving
use Rattle.rx_sink.specs.Acts.{Acts}
use Rattle.rx_sink.specs.Rests.{RestsView}
use Rattle.rx_drain.specs.declared.drainer.drain_end.DrainEnd.{DrainEnd}
use Rattle.rx_drain.specs.Drainers.{DrainerView}
use Rattle.rx_drain.specs.Serving as drainer_serving
use Rattle.rx_server.specs.declared.close.close_fault.CloseFault.{CloseFault}
use Rattle.rx_server.specs.declared.close.report.Report.{Report}
use Rattle.rx_server.specs.Returning.{HaveSettledSo, Unsettles}
use Rattle.rx_server.specs.Servers.{Closes, Fails, HaveSettled, IsEndOf, IsWhole, Reports, ServerView, EndsEach}
use Rattle.rx_server.proofs.Complete.{came-each, lacks-one}
use Rattle.rx_server.proofs.Ending.{desks-many}

-- there is one choice of marks for all letters
pub choose-marks : {S : Type 0} (pumps : List (PumpView S)) (ends : List (PumpEnd S)) → AllZip pump_serving.HasPumped pumps ends
    → (marks : List (Marked S)) × (length marks ≡ length ends) × AllZip (λ pump x. pump_serving.PumpServes pump x.0 x.1) pumps (zip ends marks)
choose-marks [] [] all = ([], refl, tt)
choose-marks [] (end ∷ ends) all = absurd all
choose-marks (pump ∷ pumps) [] all = absurd all
choose-marks (pump ∷ pumps) (end ∷ ends) all =
    let rest = choose-marks pumps ends all.1 in (all.0.0 ∷ rest.0, ap suc rest.1, (all.0.1, rest.2))

module _ {S Rest : Type 0} (acts : Acts S Rest) (server : ServerView S Rest) (whole : IsWhole server) (pump_ends : List (PumpEnd S)) (drain_ends : List (DrainEnd S Rest)) (ended finished : List (EndedDesk S))
    (handed : All (IsEndOf server.made) ended) (pumped : AllZip pump_serving.HasPumped server.pumps pump_ends) (drained : AllZip (drainer_serving.HasDrained acts) server.drainers drain_ends) where
  -- all desks that came back
  abbrev all_desks : List (EndedDesk S)
  all_desks = ended ++ (server.kept ++ finished)

  all-own : All (IsEndOf server.made) finished → All (IsEndOf server.made) all_desks
  all-own own = All-append (IsEndOf server.made) ended (server.kept ++ finished) handed (All-append (IsEndOf server.made) server.kept finished whole.ended own)

  -- what the sinks of a drainer left is kept if it keeps that
  lists-keep : (drainers : List (DrainerView S Rest)) (ends : List (DrainEnd S Rest)) → AllZip (drainer_serving.HasDrained acts) drainers ends
      → AllZip (λ (drainer : DrainerView S Rest) (list : RestsView Rest). list.keeps ≡ drainer.keeps) drainers (map (λ (end : DrainEnd S Rest). end.put_away) ends)
  lists-keep [] [] all = tt
  lists-keep [] (end ∷ ends) all = absurd all
  lists-keep (drainer ∷ drainers) [] all = absurd all
  lists-keep (drainer ∷ drainers) (end ∷ ends) all = (all.0.1.places.keeps, lists-keep drainers ends all.1)

  -- all boxes settled, or not each desk came back once
  pub settled-or-not : (r : Result (Report S Rest) CloseFault) (desks : ℕ) → All (IsEndOf server.made) finished → EndsEach server.desks server.kept (server.kept ++ finished) → desks ≡ length whole.wiring.replies
      → IfOk r (λ report. HaveSettled report.boxes (map with_bye server.leaves) all_desks pump_ends drain_ends)
      → IfOk r (λ report. HaveSettledSo desks (map with_bye server.leaves) all_desks pump_ends drain_ends report.boxes.subjects.items)
      → IfOk r (λ report. Reports report pump_ends drain_ends) → IfErr r (Unsettles desks (map with_bye server.leaves) all_desks pump_ends drain_ends)
      → MatchResult r (Closes acts server ended) (Fails acts server ended)
  settled-or-not (Ok report) desks own by k settled so reports fault =
      let marks = choose-marks server.pumps pump_ends pumped in
      let of_made = subst (λ n. HaveSettledSo n (map with_bye server.leaves) all_desks pump_ends drain_ends report.boxes.subjects.items) (k ∙ sym (desks-many acts server whole)) so in
      record {
        marks = marks.0;
        pump_ends = pump_ends;
        drain_ends = drain_ends;
        finished = finished;
        each_ended = by;
        pumped = marks.2;
        each_marked = marks.1;
        drained = drained;
        of_server = own;
        each_desk = came-each acts server whole pump_ends drain_ends all_desks pumped drained (all-own own) report.boxes.subjects.items of_made;
        settled = settled;
        reports = reports;
        keeps = subst (AllZip (λ (drainer : DrainerView S Rest) (list : RestsView Rest). list.keeps ≡ drainer.keeps) server.drainers) (sym reports.put_away) (lists-keep server.drainers drain_ends drained);
      }
  settled-or-not (Err fault) desks own by k settled so reports why =
      let of_made = subst (λ n. Unsettles n (map with_bye server.leaves) all_desks pump_ends drain_ends fault) (k ∙ sym (desks-many acts server whole)) why in
      let wanting = lacks-one acts server whole pump_ends drain_ends all_desks pumped drained (all-own own) fault of_made in
      inr (record {
        pump_ends = pump_ends;
        drain_ends = drain_ends;
        finished = finished;
        each_ended = by;
        pumped = pumped;
        drained = drained;
        of_server = own;
        wanting = wanting.1;
        named = wanting.0;
      })
