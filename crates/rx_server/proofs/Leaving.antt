-- What is left, thread by thread.
use Rattle.std.proofs.Common.{◌≡◌, ◌∙◌, ◌<◌, refl, ap, sym, subst, ℕ, Option, Some, None, Result, Ok, Err, List, [], ◌∷◌, ◌++◌, length, map, reverse, take, slice_get, arith, IfErr, MatchOption, MatchResult}
use Rattle.std.proofs.Math.Seq.{take-append_seam}
use Rattle.std.proofs.lemmas.List.{map_push, reverse-append, take-append-le}
use Rattle.std.proofs.lemmas.Option.{slice_get_within}
use Rattle.std.proofs.lemmas.Slice.Zip.{all_zipped_more, AllZip-long}
use Rattle.std.specs.List.{AllZip}
use Rattle.rx_pump.proofs.Placing.{slice_get-append_left}
use Rattle.rx_server.specs.declared.close.close_fault.CloseCause.TheVariants.{Ended}
use Rattle.rx_server.specs.declared.close.close_fault.CloseFault.{CloseFault}
use Rattle.rx_server.specs.declared.wired.start_fault.Role.{Role}
use Rattle.rx_server.specs.declared.wired.start_fault.Role.TheVariants.{Drainer, Pump}
use Rattle.rx_pump.specs.declared.pump.pump_end.PumpEnd.{PumpEnd}
use Rattle.rx_pump.specs.Pumps.{PumpView}
use Rattle.rx_pump.specs.Serving as pump_serving
use Rattle.rx_sink.specs.Acts.{Acts}
use Rattle.rx_drain.specs.declared.drainer.drain_end.DrainEnd.{DrainEnd}
use Rattle.rx_drain.specs.Drainers.{DrainerView}
use Rattle.rx_drain.specs.Serving as drainer_serving
use Rattle.rx_server.specs.Servers.{IsFirst}
use Rattle.rx_server.specs.Ends.{AreOver, FirstStopped, Keeps, NamesFirst}
use Rattle.rx_server.proofs.Starting.{Started, started-all, started-one}

-- the item behind the first ones
seam : {X : Type 0} (xs : List X) (x : X) → slice_get (xs ++ x ∷ []) (length xs) ≡ Some x
seam [] x = refl
seam (y ∷ xs) x = seam xs x

module _ {A B F : Type 0} (R : A → B → Type 0) (Q : A → F → Type 0) (role : Role) where
  -- each of these threads left what it promises, or this is the fault of the first that did not
  abbrev pub HaveJoined : List A → List B → Option CloseFault → Type 0
  HaveJoined threads ends fault = MatchOption fault (AllZip R threads ends) (NamesFirst R Q role threads)

  -- those that served ended
  served-ended : (xs : List A) (ys : List B) → AllZip R xs ys → AllZip (λ x one. MatchResult one (R x) (Q x)) xs (map Ok ys)
  served-ended [] [] all = tt
  served-ended [] (y ∷ ys) all = absurd all
  served-ended (x ∷ xs) [] all = absurd all
  served-ended (x ∷ xs) (y ∷ ys) all = (all.0, served-ended xs ys all.1)

  pub all-ended : (xs : List A) (ys : List B) → AllZip R xs ys → AreOver R Q xs
  all-ended xs ys all = (map Ok ys, served-ended xs ys all)

  one-ended : (xs : List A) (x : A) (joined : Result B F) → MatchResult joined (R x) (Q x) → AreOver R Q xs → AreOver R Q (xs ++ x ∷ [])
  one-ended xs x joined left all = (all.0 ++ joined ∷ [], all_zipped_more (λ x one. MatchResult one (R x) (Q x)) xs all.0 x joined all.1 left)

  -- one thread more, behind the first that stopped
  later : (xs : List A) (x : A) (joined : Result B F) (place : ℕ) → MatchResult joined (R x) (Q x) → FirstStopped R Q xs place → FirstStopped R Q (xs ++ x ∷ []) place
  later xs x joined place left first =
      let within : place < length xs = slice_get_within xs place first.thread first.stood in
      let front : take place (xs ++ x ∷ []) ≡ take place xs = take-append-le place xs (x ∷ []) (omega arith) in
      record {
        ends = first.ends;
        before = subst (λ (l : List A). AllZip R l first.ends) (sym front) first.before;
        thread = first.thread;
        stood = slice_get-append_left xs (x ∷ []) place first.thread first.stood;
        stop = first.stop;
        left = first.left;
        all = one-ended xs x joined left first.all;
      }

  -- the first that stopped
  now : (xs : List A) (ys : List B) (x : A) (cause : F) → AllZip R xs ys → Q x cause → FirstStopped R Q (xs ++ x ∷ []) (length ys)
  now xs ys x cause all stop =
      let long : length ys ≡ length xs = AllZip-long R xs ys all in
      record {
        ends = ys;
        before = subst (λ (l : List A). AllZip R l ys) (sym (take-append_seam xs (x ∷ [])) ∙ ap (λ n. take n (xs ++ x ∷ [])) (sym long)) all;
        thread = x;
        stood = ap (slice_get (xs ++ x ∷ [])) long ∙ seam xs x;
        stop = cause;
        left = stop;
        all = one-ended xs x (Err cause) stop (all-ended xs ys all);
      }

  -- one more was joined
  pub joined-one : (xs : List A) (ys after : List B) (x : A) (joined : Result B F) (before fault : Option CloseFault)
      → MatchResult joined (R x) (Q x) → Keeps role joined ys before after fault → HaveJoined xs ys before → HaveJoined (xs ++ x ∷ []) after fault
  joined-one xs ys after x joined (Some first) fault left kept all =
      let late : HaveJoined (xs ++ x ∷ []) after (Some first) = record { thread = all.thread; cause = all.cause; first = later xs x joined first.index left all.first } in
      subst (λ (f : Option CloseFault). HaveJoined (xs ++ x ∷ []) after f) (sym kept.1) late
  joined-one xs ys after x (Ok end) None fault left kept all =
      let ended : HaveJoined (xs ++ x ∷ []) after None = subst (λ (l : List B). AllZip R (xs ++ x ∷ []) l) (sym kept.0) (all_zipped_more R xs ys x end all left) in
      subst (λ (f : Option CloseFault). HaveJoined (xs ++ x ∷ []) after f) (sym kept.1) ended
  joined-one xs ys after x (Err cause) None fault left kept all =
      let first : HaveJoined (xs ++ x ∷ []) after (Some (record { thread = role; index = length ys; cause = Ended })) = record { thread = refl; cause = refl; first = now xs ys x cause all left } in
      subst (λ (f : Option CloseFault). HaveJoined (xs ++ x ∷ []) after f) (sym kept.1) first

  -- of these threads, the first one last, some were joined, and the others are left
  pub record JoinedSome (turned left : List A) (ends : List B) (fault : Option CloseFault) : Type 0 where
    pub done : List A
    pub so_far : Started turned done left
    pub joined : HaveJoined done ends fault

  pub joined-none : (turned : List A) (ends : List B) → ends ≡ [] → JoinedSome turned turned ends None
  joined-none turned ends none = record { done = []; so_far = refl; joined = subst (λ (l : List B). AllZip R [] l) (sym none) tt }

  pub joined-next : (turned left rest : List A) (ys after : List B) (x : A) (joined : Result B F) (before fault : Option CloseFault)
      → left ≡ rest ++ x ∷ [] → MatchResult joined (R x) (Q x) → Keeps role joined ys before after fault → JoinedSome turned left ys before → JoinedSome turned rest after fault
  joined-next turned left rest ys after x joined before fault took ended kept some = record {
    done = some.done ++ x ∷ [];
    so_far = started-one turned some.done (some.done ++ x ∷ []) left rest x x took refl refl some.so_far;
    joined = joined-one some.done ys after x joined before fault ended kept some.joined;
  }

  -- once none is left, all have joined
  pub joined-all : (all turned left : List A) (ends : List B) (fault : Option CloseFault) → turned ≡ reverse all → left ≡ [] → JoinedSome turned left ends fault → HaveJoined all ends fault
  joined-all all turned left ends fault is none some =
      subst (λ (l : List A). HaveJoined l ends fault) (started-all all turned some.done left is none some.so_far) some.joined

-- what is made of a list turned round
pub map_reverse : {X Y : Type 0} (f : X → Y) (xs : List X) → map f (reverse xs) ≡ reverse (map f xs)
map_reverse f [] = refl
map_reverse {Y = Y} f (x ∷ xs) =
    ap (map f) (reverse-append (x ∷ []) xs) ∙ map_push f (reverse xs) x ∙ ap (λ (l : List Y). l ++ f x ∷ []) (map_reverse f xs) ∙ sym (reverse-append (f x ∷ []) (map f xs))

-- what holds of what the threads stand for
pub zip-stands : {A B X : Type 0} (R : A → B → Type 0) (f : X → A) (xs : List X) (ys : List B) → AllZip (λ x y. R (f x) y) xs ys → AllZip R (map f xs) ys
zip-stands R f [] [] all = tt
zip-stands R f [] (y ∷ ys) all = absurd all
zip-stands R f (x ∷ xs) [] all = absurd all
zip-stands R f (x ∷ xs) (y ∷ ys) all = (all.0, zip-stands R f xs ys all.1)

pub zip-items : {A B X : Type 0} (R : A → B → Type 0) (f : X → A) (xs : List X) (ys : List B) → AllZip R (map f xs) ys → AllZip (λ x y. R (f x) y) xs ys
zip-items R f [] [] all = tt
zip-items R f [] (y ∷ ys) all = absurd all
zip-items R f (x ∷ xs) [] all = absurd all
zip-items R f (x ∷ xs) (y ∷ ys) all = (all.0, zip-items R f xs ys all.1)

-- FAULTS

module _ {S Rest : Type 0} (acts : Acts S Rest) (pumps : List (PumpView S)) (drainers : List (DrainerView S Rest)) where
  -- how joining the drainers ended
  abbrev JoinedDrainers : List (DrainEnd S Rest) → Result (Unit {0}) CloseFault → Type 0
  JoinedDrainers ends drained =
      MatchResult drained (λ _. AllZip (drainer_serving.HasDrained acts) drainers ends) (NamesFirst (drainer_serving.HasDrained acts) (drainer_serving.DrainerHasFailed acts) Drainer drainers)

  -- either way they are over
  drainers-over : (ends : List (DrainEnd S Rest)) (drained : Result (Unit {0}) CloseFault) → JoinedDrainers ends drained → AreOver (drainer_serving.HasDrained acts) (drainer_serving.DrainerHasFailed acts) drainers
  drainers-over ends (Ok _) joined = all-ended (drainer_serving.HasDrained acts) (drainer_serving.DrainerHasFailed acts) Drainer drainers ends joined
  drainers-over ends (Err fault) joined = joined.first.all

  -- a pump is the first
  pub pump-first : (ends : List (DrainEnd S Rest)) (drained : Result (Unit {0}) CloseFault) (fault : CloseFault) → JoinedDrainers ends drained
      → NamesFirst pump_serving.HasPumped pump_serving.PumpHasFailed Pump pumps fault → (fault.cause ≡ Ended) × IsFirst acts pumps drainers fault.thread fault.index
  pump-first ends drained fault joined names =
      (names.cause, subst (λ (role : Role). IsFirst acts pumps drainers role fault.index) (sym names.thread) (names.first, drainers-over ends drained joined))

  -- or a drainer, where all pumps served
  pub drainer-first : (pump_ends : List (PumpEnd S)) (ends : List (DrainEnd S Rest)) (drained : Result (Unit {0}) CloseFault) → AllZip pump_serving.HasPumped pumps pump_ends → JoinedDrainers ends drained
      → IfErr drained (λ fault. (fault.cause ≡ Ended) × IsFirst acts pumps drainers fault.thread fault.index)
  drainer-first pump_ends ends (Ok _) pumped joined = tt
  drainer-first pump_ends ends (Err fault) pumped joined =
      (joined.cause, subst (λ (role : Role). IsFirst acts pumps drainers role fault.index) (sym joined.thread) ((pump_ends, pumped), joined.first))
