-- The desks of a crew, as workers are hired and as they join.
use Rattle.std.proofs.Common.{◌≡◌, ◌∙◌, sym, ap, subst, List, [], ◌∷◌, ◌++◌, append_assoc, append-nil, map, reverse}
use Rattle.std.proofs.lemmas.List.{reverse-append}
use Rattle.std.proofs.lemmas.List.Elements.{All-head, All-tail, All-nil, All-cons, AllZip-push}
use Rattle.std.specs.List.{All, AllZip}
use Rattle.rx_pump.specs.Desks.{DeskView, KeepsDesk}
use Rattle.rx_desk.specs.declared.client_sink.ClientSink.{ClientSink}
use Rattle.rx_workers.specs.Crews.{AreOut, worker_desk}
use Rattle.rx_workers.specs.Working.{WorkerView}
use Rattle.rx_workers.proofs.Sessions.{desk_keeps-same}

All-front : {X : Type 0} (P : X → Type 0) (xs : List X) (x : X) → All P (xs ++ x ∷ []) → All P xs
All-front P [] x all = All-nil P
All-front P (y ∷ xs) x all = All-cons P y xs (All-head P y (xs ++ x ∷ []) all) (All-front P xs x (All-tail P y (xs ++ x ∷ []) all))

-- what holds of each element holds of each but the last
pub All-first : {X : Type 0} (P : X → Type 0) (all xs : List X) (x : X) → all ≡ xs ++ x ∷ [] → All P all → All P xs
All-first {X = X} P all xs x is holds = All-front P xs x (subst (λ (ys : List X). All P ys) is holds)

-- desks that made no call
pub kept_same : {S : Type 0} (desks : List (DeskView S)) → AllZip KeepsDesk desks desks
kept_same [] = tt
kept_same (desk ∷ desks) = (desk_keeps-same desk, kept_same desks)

module _ {M C W : Type 0} where
  -- the desks of these workers, and of one more that was hired
  desks-one : (workers : List (WorkerView M C W)) (worker : WorkerView M C W) → map worker_desk (reverse (workers ++ worker ∷ [])) ≡ worker_desk worker ∷ map worker_desk (reverse workers)
  desks-one workers worker = ap (map worker_desk) (reverse-append workers (worker ∷ []))

  -- these desks are left, and the others were handed to workers
  abbrev pub IsSplit : List (DeskView (ClientSink W)) → List (DeskView (ClientSink W)) → List (WorkerView M C W) → Type 0
  IsSplit all here workers = here ++ map worker_desk (reverse workers) ≡ all

  -- no worker was hired yet
  pub split-begun : (all : List (DeskView (ClientSink W))) (workers : List (WorkerView M C W)) → workers ≡ [] → IsSplit all all workers
  split-begun all workers none = ap (λ (ws : List (WorkerView M C W)). all ++ map worker_desk (reverse ws)) none ∙ append-nil all

  -- one worker more was hired
  pub split-one : (all here left : List (DeskView (ClientSink W))) (workers after : List (WorkerView M C W)) (desk : DeskView (ClientSink W)) (worker : WorkerView M C W)
      → here ≡ left ++ desk ∷ [] → after ≡ workers ++ worker ∷ [] → worker_desk worker ≡ desk → IsSplit all here workers → IsSplit all left after
  split-one all here left workers after desk worker took put same split =
      let rest = map worker_desk (reverse workers) in
      ap (λ (ws : List (WorkerView M C W)). left ++ map worker_desk (reverse ws)) put
      ∙ ap (λ ds. left ++ ds) (desks-one workers worker)
      ∙ ap (λ (d : DeskView (ClientSink W)). left ++ d ∷ rest) same
      ∙ sym (append_assoc left (desk ∷ []) rest)
      ∙ ap (λ ds. ds ++ rest) (sym took)
      ∙ split

  -- the desks that are left made no call
  pub split-out : (all here : List (DeskView (ClientSink W))) (workers : List (WorkerView M C W)) → IsSplit all here workers → AreOut all here workers
  split-out all here workers split = record { kept = here; parts = split; same = kept_same here }

  -- no worker was hired for the last of these desks, which came back
  pub split-back : (all here left after : List (DeskView (ClientSink W))) (workers : List (WorkerView M C W)) (desk back : DeskView (ClientSink W))
      → here ≡ left ++ desk ∷ [] → after ≡ left ++ back ∷ [] → KeepsDesk desk back → IsSplit all here workers → AreOut all after workers
  split-back all here left after workers desk back took put kept split = record {
    kept = left ++ desk ∷ [];
    parts = ap (λ ds. ds ++ map worker_desk (reverse workers)) (sym took) ∙ split;
    same =
        subst (λ (ds : List (DeskView (ClientSink W))). AllZip KeepsDesk (left ++ desk ∷ []) ds) (sym put)
        (AllZip-push KeepsDesk left left desk back (kept_same left) kept);
  }

  -- the worker that was hired last joined
  pub out-one : (all here after : List (DeskView (ClientSink W))) (workers left : List (WorkerView M C W)) (worker : WorkerView M C W) (back : DeskView (ClientSink W))
      → workers ≡ left ++ worker ∷ [] → after ≡ here ++ back ∷ [] → KeepsDesk (worker_desk worker) back → AreOut all here workers → AreOut all after left
  out-one all here after workers left worker back took put kept out =
      let rest = map worker_desk (reverse left) in
      record {
        kept = out.kept ++ worker_desk worker ∷ [];
        parts =
            append_assoc out.kept (worker_desk worker ∷ []) rest
            ∙ ap (λ ds. out.kept ++ ds) (sym (desks-one left worker))
            ∙ ap (λ (ws : List (WorkerView M C W)). out.kept ++ map worker_desk (reverse ws)) (sym took)
            ∙ out.parts;
        same =
            subst (λ (ds : List (DeskView (ClientSink W))). AllZip KeepsDesk (out.kept ++ worker_desk worker ∷ []) ds) (sym put)
            (AllZip-push KeepsDesk out.kept here (worker_desk worker) back out.same kept);
      }

  -- all workers joined
  pub out-all : (all here : List (DeskView (ClientSink W))) (workers : List (WorkerView M C W)) → workers ≡ [] → AreOut all here workers → AllZip KeepsDesk all here
  out-all all here workers none out =
      let whole : out.kept ≡ all = sym (append-nil out.kept) ∙ ap (λ (ws : List (WorkerView M C W)). out.kept ++ map worker_desk (reverse ws)) (sym none) ∙ out.parts in
      subst (λ (ds : List (DeskView (ClientSink W))). AllZip KeepsDesk ds here) whole out.same
