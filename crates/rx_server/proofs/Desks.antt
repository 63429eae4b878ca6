-- The desks of a server, as their calls left them and once they have ended.
use Rattle.std.proofs.Common.{◌≡◌, ◌∙◌, ◌<◌, sym, refl, ap, subst, ℕ, zero, suc, ◌+◌, List, [], ◌∷◌, ◌++◌, append_assoc, append-nil, length, length-append, map, slice_get, Option, Some, arith}
use Rattle.std.proofs.lemmas.List.Elements.{All-cons, All-head, All-nil, All-push, All-tail, filter_map-append}
use Rattle.std.proofs.lemmas.Slice.Zip.{all_zipped_more}
use Rattle.std.specs.List.{All, AllZip, enumerate_from, filter_map}
use Rattle.rx_mailbox.specs.Boxes.{Box, Outgoing}
use Rattle.rx_pump.specs.declared.call.Call.{Call}
use Rattle.rx_pump.specs.declared.call_desk.ended_desk.EndedDesk.{EndedDesk}
use Rattle.rx_pump.specs.declared.reply.Reply.{Reply}
use Rattle.rx_pump.specs.Desks.{DeskView, KeepsDesk, LeavesInbox}
use Rattle.rx_pump.specs.Pumps.{port_place}
use Rattle.rx_mailbox.specs.PortRows.{EndsSome, with_bye}
use Rattle.rx_server.specs.Leaving.{HasItsBoxes}
use Rattle.rx_server.specs.Servers.{EndsMore, IsFateOf, EndsEach, IsDeskOf, IsEndOf}
use Rattle.rx_server.specs.Wirings.{Wiring, desk_of, desks_of, ports_at}

module _ {X : Type 0} where
  -- a port that ends stays where it was
  pub bye-places : (ports : List (Outgoing X)) → map port_place (map with_bye ports) ≡ map port_place ports
  bye-places [] = refl
  bye-places (port ∷ ports) = ap (λ (l : List (Box X × ℕ)). port_place port ∷ l) (bye-places ports)

  -- where a port could not end there was one
  pub any-left : (ports left before after : List (Outgoing X)) → EndsSome ports left before after → 0 < length ports
  any-left ports left before after some = omega (arith, some.some, length-append some.done left, ap length some.parts)

module _ {S : Type 0} where
  -- a desk that was not used is as it was made
  pub keeps-none : (desk : DeskView S) → KeepsDesk desk desk
  keeps-none desk = record { ports = refl; box = refl; count = refl; ended = refl }

  pub keeps-then : (a b d : DeskView S) → KeepsDesk a b → KeepsDesk b d → KeepsDesk a d
  keeps-then a b d first later = record {
    ports = later.ports ∙ first.ports;
    box = later.box ∙ first.box;
    count = later.count ∙ first.count;
    ended = later.ended ∙ first.ended;
  }

  -- a desk of the server stays one, whatever it calls
  pub desk-goes : (made : List (DeskView S)) (before after : DeskView S) → KeepsDesk before after → IsDeskOf made before → IsDeskOf made after
  desk-goes made before after kept is = record {
    number = is.number;
    one = is.one;
    stood = is.stood;
    as_made = keeps-then is.one before after is.as_made kept;
    none_ended = kept.ended ∙ is.none_ended;
  }

  -- and what it leaves is of that server
  pub desk-ends : (made : List (DeskView S)) (desk : DeskView S) (end : EndedDesk S) → end.ports.items ≡ desk.ended ++ map with_bye desk.ports → LeavesInbox desk end.inbox
      → IsDeskOf made desk → IsEndOf made end
  desk-ends made desk end ports inbox is = record {
    number = is.number;
    one = is.one;
    stood = is.stood;
    ports =
        ap (map port_place) (ports ∙ ap (λ (l : List (Outgoing (Call S))). l ++ map with_bye desk.ports) is.none_ended)
        ∙ bye-places desk.ports ∙ is.as_made.ports;
    box = inbox.holds.box ∙ is.as_made.box;
    count = inbox.holds.ports ∙ is.as_made.count;
  }

  -- ENDING

  -- of these desks some ended, and the others are left
  pub record EndedSome (made start : List (DeskView S)) (before after : List (EndedDesk S)) (left : List (DeskView S)) : Type 0 where
    pub so_far : All (IsDeskOf made) start → EndsMore made before after × All (IsDeskOf made) left

  pub ended-none : (made start : List (DeskView S)) (before : List (EndedDesk S)) → EndedSome made start before before start
  ended-none made start before = record { so_far = λ all. (([], sym (append-nil before), All-nil (IsEndOf made)), all) }

  -- one was given up
  pub ended-lost : (made start : List (DeskView S)) (before after : List (EndedDesk S)) (desk : DeskView S) (left rest : List (DeskView S)) → left ≡ desk ∷ rest
      → EndedSome made start before after left → EndedSome made start before after rest
  ended-lost made start before after desk left rest cut some = record {
    so_far = λ all. let here = some.so_far all in (here.0, All-tail (IsDeskOf made) desk rest (subst (All (IsDeskOf made)) cut here.1));
  }

  -- one more ended
  pub ended-more : (made start : List (DeskView S)) (before after later : List (EndedDesk S)) (desk : DeskView S) (end : EndedDesk S) (left rest : List (DeskView S))
      → left ≡ desk ∷ rest → later ≡ after ++ end ∷ [] → end.ports.items ≡ desk.ended ++ map with_bye desk.ports → LeavesInbox desk end.inbox
      → EndedSome made start before after left → EndedSome made start before later rest
  ended-more made start before after later desk end left rest cut put ports inbox some = record {
    so_far =
        λ all.
        let here = some.so_far all in
        let desks = subst (All (IsDeskOf made)) cut here.1 in
        let is = desk-ends made desk end ports inbox (All-head (IsDeskOf made) desk rest desks) in (
          (
            here.0.0 ++ end ∷ [],
            put ∙ ap (λ (l : List (EndedDesk S)). l ++ end ∷ []) here.0.1 ∙ append_assoc before here.0.0 (end ∷ []),
            All-push (IsEndOf made) here.0.0 end here.0.2 is,
          ),
          All-tail (IsDeskOf made) desk rest desks,
        );
  }

  -- of these desks each was to end but those that are left
  pub record GoneThrough (start : List (DeskView S)) (before after : List (EndedDesk S)) (left : List (DeskView S)) : Type 0 where
    pub past : List (DeskView S)
    pub parts : past ++ left ≡ start
    pub each : EndsEach past before after

  pub gone-none : (start : List (DeskView S)) (before : List (EndedDesk S)) → GoneThrough start before before start
  gone-none start before = record { past = []; parts = refl; each = record { fates = []; each = tt; left = sym (append-nil before) } }

  -- one more was
  pub gone-more : (start : List (DeskView S)) (before after later : List (EndedDesk S)) (desk : DeskView S) (fate : Option (EndedDesk S)) (left rest : List (DeskView S))
      → left ≡ desk ∷ rest → later ≡ after ++ filter_map (λ one. one) (fate ∷ []) → IsFateOf desk fate → GoneThrough start before after left → GoneThrough start before later rest
  gone-more start before after later desk fate left rest cut put finishes some =
      let kept = λ (fates : List (Option (EndedDesk S))). filter_map (λ one. one) fates in
      record {
        past = some.past ++ desk ∷ [];
        parts = append_assoc some.past (desk ∷ []) rest ∙ ap (λ (l : List (DeskView S)). some.past ++ l) (sym cut) ∙ some.parts;
        each = record {
          fates = some.each.fates ++ fate ∷ [];
          each = all_zipped_more IsFateOf some.past some.each.fates desk fate some.each.each finishes;
          left =
              put ∙ ap (λ (l : List (EndedDesk S)). l ++ kept (fate ∷ [])) some.each.left
              ∙ append_assoc before (kept some.each.fates) (kept (fate ∷ []))
              ∙ ap (λ (l : List (EndedDesk S)). before ++ l) (sym (filter_map-append (λ one. one) some.each.fates (fate ∷ [])));
        };
      }

  -- once none is left, each was
  pub gone-all : (start : List (DeskView S)) (before after : List (EndedDesk S)) (left : List (DeskView S)) → left ≡ [] → GoneThrough start before after left → EndsEach start before after
  gone-all start before after left none some =
      let all : some.past ≡ start = sym (append-nil some.past) ∙ ap (λ (l : List (DeskView S)). some.past ++ l) (sym none) ∙ some.parts in
      subst (λ (desks : List (DeskView S)). EndsEach desks before after) all some.each

  -- AS THEY WERE MADE

  -- the desk at each place is the one of its number
  desks-from : (w : Wiring S) (k : ℕ) (replies : List (Box (Reply S))) (number : ℕ) (one : DeskView S)
      → slice_get (map (desk_of w) (enumerate_from k replies)) number ≡ Some one
      → (box : Box (Reply S)) × (slice_get replies number ≡ Some box) × (one ≡ desk_of w (k + number, box))
  desks-from w k [] number one at = cc
  desks-from w k (box ∷ replies) zero one at =
      let here : desk_of w (k, box) ≡ one = cc in
      let n : k ≡ k + 0 = omega arith in
      (box, refl, sym here ∙ ap (λ (m : ℕ). desk_of w (m, box)) n)
  desks-from w k (box ∷ replies) (suc number) one at =
      let later = desks-from w (k + 1) replies number one at in
      let n : k + 1 + number ≡ k + suc number = omega arith in
      (later.0, later.1, later.2 ∙ ap (λ (m : ℕ). desk_of w (m, later.0)) n)

  new-places : (number : ℕ) (boxes : List (Box (Call S))) → map port_place (ports_at number boxes) ≡ map (λ box. (box, number)) boxes
  new-places number [] = refl
  new-places number (box ∷ boxes) = ap (λ (l : List (Box (Call S) × ℕ)). (box, number) ∷ l) (new-places number boxes)

  -- what a desk of these boxes left has the ports and the inbox of its number
  pub end-boxes : (w : Wiring S) (made : List (DeskView S)) (end : EndedDesk S) → made ≡ desks_of w → IsEndOf made end → HasItsBoxes w end
  end-boxes w made end are is =
      let at = desks-from w 0 w.replies is.number is.one (ap (λ (l : List (DeskView S)). slice_get l is.number) (sym are) ∙ is.stood) in
      let zeroth : 0 + is.number ≡ is.number = omega arith in
      let one : is.one ≡ desk_of w (is.number, at.0) = at.2 ∙ ap (λ (m : ℕ). desk_of w (m, at.0)) zeroth in
      record {
        number = is.number;
        ports = is.ports ∙ ap (λ (d : DeskView S). map port_place d.ports) one ∙ new-places is.number w.subjects;
        inbox = at.1 ∙ ap Some (sym (is.box ∙ ap (λ (d : DeskView S). d.inbox.box) one));
      }

  -- each desk that was made is one of them
  none-ended : (w : Wiring S) (k : ℕ) (replies : List (Box (Reply S))) → All (λ desk. desk.ended ≡ []) (map (desk_of w) (enumerate_from k replies))
  none-ended w k [] = All-nil (λ desk. desk.ended ≡ [])
  none-ended w k (box ∷ replies) = All-cons (λ desk. desk.ended ≡ []) (desk_of w (k, box)) (map (desk_of w) (enumerate_from (k + 1) replies)) refl (none-ended w (k + 1) replies)

  seam : (xs : List (DeskView S)) (x : DeskView S) (ys : List (DeskView S)) → slice_get (xs ++ x ∷ ys) (length xs) ≡ Some x
  seam [] x ys = refl
  seam (y ∷ xs) x ys = seam xs x ys

  each-at : (made before rest : List (DeskView S)) → before ++ rest ≡ made → All (λ desk. desk.ended ≡ []) rest → All (IsDeskOf made) rest
  each-at made before [] parts none = All-nil (IsDeskOf made)
  each-at made before (desk ∷ rest) parts none =
      let P = λ (desk : DeskView S). desk.ended ≡ [] in
      All-cons (IsDeskOf made) desk rest
      (record {
        number = length before;
        one = desk;
        stood = ap (λ (l : List (DeskView S)). slice_get l (length before)) (sym parts) ∙ seam before desk rest;
        as_made = keeps-none desk;
        none_ended = All-head P desk rest none;
      })
      (each-at made (before ++ desk ∷ []) rest (append_assoc before (desk ∷ []) rest ∙ parts) (All-tail P desk rest none))

  back : (xs ys : List (DeskView S)) → All (λ desk. desk.ended ≡ []) (xs ++ ys) → All (λ desk. desk.ended ≡ []) ys
  back [] ys all = all
  back (x ∷ xs) ys all = back xs ys (All-tail (λ (desk : DeskView S). desk.ended ≡ []) x (xs ++ ys) all)

  pub desks-left : (w : Wiring S) (made handed desks : List (DeskView S)) → made ≡ desks_of w → made ≡ handed ++ desks → All (IsDeskOf made) desks
  desks-left w made handed desks are parts =
      let none = subst (All (λ (desk : DeskView S). desk.ended ≡ [])) (sym are ∙ parts) (none-ended w 0 w.replies) in
      each-at made handed desks (sym parts) (back handed desks none)

  -- those that calls left so
  pub desks-went : (made before after : List (DeskView S)) → AllZip KeepsDesk before after → All (IsDeskOf made) before → All (IsDeskOf made) after
  desks-went made [] [] kept all = All-nil (IsDeskOf made)
  desks-went made [] (desk ∷ after) kept all = absurd kept
  desks-went made (one ∷ before) [] kept all = absurd kept
  desks-went made (one ∷ before) (desk ∷ after) kept all =
      All-cons (IsDeskOf made) desk after (desk-goes made one desk kept.0 (All-head (IsDeskOf made) one before all))
      (desks-went made before after kept.1 (All-tail (IsDeskOf made) one before all))
