-- An empty lane that owes what was requested stands for that request.
use Rattle.std.proofs.Common.{◌≡◌, ℕ, Bool, true, false, cond, nat_le, List, [], length, take, Result, Ok, Err, IfOk, refl, sym, ap, arith}
use Rattle.std.proofs.lemmas.List.{drop_all, take_all}
use Rattle.rx_note.specs.declared.note.Note.{Note}
use Rattle.rx_note.specs.Choices.{Choice}
use Rattle.rx_note.specs.Signals.{Signals, Start, ◌▸◌, Requested, demand, line_items}
use Rattle.rx_lane.specs.Lanes.{LaneView, StandsFor}
use Rattle.rx_lane.proofs.Followed.{stands_alike}
use Rattle.rx_lane.proofs.lane.Lane.joined.Goals as goal

same_either : (test : Bool) (notes : List Note) → notes ≡ cond test notes notes
same_either true notes = refl
same_either false notes = refl

empty : (policy : Choice) (first : ℕ) → StandsFor (record { policy = policy; items = []; last = []; ended = false; owing = first }) (Start policy ▸ Requested first)
empty policy first =
    let s : Signals = Start policy ▸ Requested first in
    let none : take (demand s) (line_items s) ≡ line_items s = take_all (demand s) (line_items s) (omega arith) in
    record {
      policy = refl;
      items = sym (drop_all (demand s) (line_items s) (omega arith));
      last = same_either (nat_le (length (line_items s)) (demand s)) [];
      ended = refl;
      owing = omega (arith, ap length none);
    }

requested : {E : Type 0} (policy : Choice) (first : ℕ) (made : Result LaneView E) → IfOk made (λ lane. lane.state.policy ≡ policy)
    → IfOk made (λ lane. (lane.state.items ≡ []) × (lane.state.last ≡ []) × (lane.state.ended ≡ false) × (lane.state.owing ≡ first))
    → IfOk made (λ lane. StandsFor lane.state (Start policy ▸ Requested first))
requested policy first (Ok lane) is rest = stands_alike is rest.0 rest.1 rest.2 rest.3 (empty policy first)
requested policy first (Err error) is rest = is

pub returns : goal.returns
returns c = requested c.args.policy c.args.first c.owing.result c.owing.ensures.policy c.owing.ensures.rest
