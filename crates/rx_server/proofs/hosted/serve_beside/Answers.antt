-- The face has the last desk, and the crew those before it.
use Rattle.std.proofs.Common.{◌≡◌, ◌⊎◌, ◌∙◌, ◌∷◌, ◌++◌, [], Bool, true, false, ℕ, Some, Result, Err, MatchBool, length, refl, sym, ap, inl, inr, arith}
use Rattle.std.proofs.lemmas.List.Elements.{All-pop}
use Rattle.std.specs.Arc.{arc_value}
use Rattle.rx_workers.proofs.Crews.{All-first, kept_same}
use Rattle.rx_workers.specs.Crews.{IsFor}
use Rattle.rx_workers.specs.declared.crew.serve_fault.ServeFault.{ServeFault}
use Rattle.rx_workers.specs.declared.crew.serve_fault.ServeFault.TheVariants.{Memory, Thread}
use Rattle.rx_server.proofs.Beside.{face-keeps, kept-last}
use Rattle.rx_server.proofs.hosted.serve_beside.Goals as goal

-- there is a desk
pub unreachable-requires : goal.unreachable-requires
unreachable-requires g c = omega (arith, c.requires.some, c.in_default.ensures.cases)

-- all are of the configuration
pub start_face-requires-after_bounds : goal.start_face-requires-after_bounds
start_face-requires-after_bounds g c =
    let P = IsFor (arc_value c.args.config.now) in
    let fits : P c.in-Some.desk = (All-pop P c.args.desks.now.items c.pop.new.self.items (Some c.in-Some.desk) c.in-Some.ensures.items c.requires.fit).1 in
    λ _ _. fits

pub serve_connections-served-requires-after_bounds : goal.serve_connections-served-requires-after_bounds
serve_connections-served-requires-after_bounds g c =
    let P = IsFor (arc_value c.args.config.now) in
    let fit = All-first P c.args.desks.now.items c.pop.new.self.items c.in-Some.desk c.in-Some.ensures.items c.requires.fit in
    λ _ _. fit

-- the crew and the face served
pub returns-in-Ok-clause-served : goal.returns-in-Ok-clause-served
returns-in-Ok-clause-served g c = record {
  desks = c.pop.new.self.items;
  last = c.in-Some.desk;
  parts = sym c.in-Some.ensures.items;
  left = c.serve_connections-served.new.desks.items;
  back = c.end.result;
  parts_after = refl;
  how = inl (
    record {
      moments = c.args.entrance.moments;
      epoch = c.args.entrance.epoch;
      grants = c.args.entrance.grants;
      face = c.in-Ok.face;
      is_new = c.in-Ok.ensures;
      served = c.end.ensures;
    },
    c.serve_connections-served.ensures.served,
  );
}

pub returns-in-Ok-clause-kept : goal.returns-in-Ok-clause-kept
returns-in-Ok-clause-kept g c =
    let face =
    face-keeps g.M.Moments.tells g.L.Reader.Read.remaining g.L.Writer.Write.contents (arc_value c.args.config.now) c.args.entrance.moments c.args.entrance.epoch c.args.entrance.grants c.in-Some.desk c.in-Ok.face c.end.result
    c.in-Ok.ensures c.end.ensures in
    kept-last c.args.desks.now.items c.pop.new.self.items c.serve_connections-served.new.desks.items (c.serve_connections-served.new.desks.items ++ c.end.result ∷ []) c.in-Some.desk c.end.result
    c.in-Some.ensures.items refl c.serve_connections-served.ensures.desks face

-- there was no face, by what was wanting
without_face : (has_memory : Bool) (fault : ServeFault) (place count : ℕ) (result : Result (Unit {0}) ServeFault) → result ≡ Err fault → place ≡ count
    → MatchBool has_memory (fault ≡ Thread place) (fault ≡ Memory) → (result ≡ Err Memory) ⊎ (result ≡ Err (Thread count))
without_face true fault place count result failed same by = inr (failed ∙ ap Err (by ∙ ap Thread same))
without_face false fault place count result failed same by = inl (failed ∙ ap Err by)

pub returns-in-Err-clause-served : goal.returns-in-Err-clause-served
returns-in-Err-clause-served g c =
    let desks = c.pop.new.self.items in
    let place : c.len.result ≡ length desks = omega (arith, c.len.ensures, c.pop.new.self.ok.0) in
    record {
      desks = desks;
      last = c.in-Some.desk;
      parts = sym c.in-Some.ensures.items;
      left = desks;
      back = c.in-Err.back.desk;
      parts_after = refl;
      how = inr (
        record {
          fault = without_face c.in-Err.back.has_memory c.fault_of-fault.result c.len.result _ _ refl place c.fault_of-fault.ensures;
          untouched = refl;
          kept = c.in-Err.ensures;
        },
        refl,
      );
    }

pub returns-in-Err-clause-kept : goal.returns-in-Err-clause-kept
returns-in-Err-clause-kept g c =
    kept-last c.args.desks.now.items c.pop.new.self.items c.pop.new.self.items (c.pop.new.self.items ++ c.in-Err.back.desk ∷ []) c.in-Some.desk c.in-Err.back.desk
    c.in-Some.ensures.items refl (kept_same c.pop.new.self.items) c.in-Err.ensures
