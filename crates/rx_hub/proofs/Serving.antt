-- What a queue gives by several signals in turn.
use Rattle.std.proofs.Common.{◌≡◌, ℕ, zero, suc, ◌+◌, Bool, true, false, ◌||◌, cond, leb, take, List, [], ◌∷◌, ◌++◌, map, Option, None, Some, is_some, ◌⊎◌, inl, inr, refl, sym, ap, subst, ◌∙◌, append_assoc, append-nil}
use Rattle.std.proofs.lemmas.List.{map-append}
use Rattle.rx_note.specs.declared.item.Item.{Item}
use Rattle.rx_note.specs.declared.given.Given.{Given}
use Rattle.rx_note.specs.declared.note.Note.{Note}
use Rattle.rx_note.specs.declared.note.Note.TheVariants.{Next}
use Rattle.rx_note.specs.Choices.{Choice}
use Rattle.rx_note.specs.Signals.{Signal, Requested, Offered, Ended, Signals, Start, ◌▸◌, terminal_of, sent, given}
use Rattle.rx_note.proofs.Sending.{sent-behind, sent-second}
use Rattle.rx_history.specs.Histories.{followed_by, addressed}
use Rattle.rx_history.proofs.Feeding.{followed_by-append}
use Rattle.rx_lane.proofs.Steps.{is_open, offer_lost}
use Rattle.rx_lane.specs.Lanes.{loses_next, LaneState, StandsFor, Gives, GoesOn}
use Rattle.rx_lane.specs.declared.joiner.Joiner.{Joiner}
use Rattle.rx_lane.specs.TapeLanes.{offered_all, BeginsTo}
use Rattle.rx_hub.specs.Subscriptions.{Serves, Begins, BeginsInto}

-- one signal
pub Serves-one : (old new : LaneState) (signal : Signal) (notes : List Note) → Gives old signal notes → GoesOn old new signal → Serves old new (signal ∷ []) notes
Serves-one old new signal notes gives goes_on = record { gives = gives; goes_on = goes_on }

-- several signals, and then more
pub Serves-then : (a b c : LaneState) (xs ys : List Signal) (ns ms : List Note) → Serves a b xs ns → Serves b c ys ms → Serves a c (xs ++ ys) (ns ++ ms)
Serves-then a b c xs ys ns ms first then = record {
  gives = λ s stands.
      ap given (followed_by-append s xs ys) ∙ then.gives (followed_by s xs) (first.goes_on s stands)
      ∙ ap (λ ns'. ns' ++ ms) (first.gives s stands) ∙ append_assoc (given s) ns ms;
  goes_on = λ s stands.
      let P : Signals → Type 0 = λ t. StandsFor c t in
      subst P (sym (followed_by-append s xs ys)) (then.goes_on (followed_by s xs) (first.goes_on s stands));
}

-- what was given first, and then
pub given-then : (before middle after : List Given) (who : ℕ) (ns ms : List Note)
    → middle ≡ before ++ addressed who ns → after ≡ middle ++ addressed who ms → after ≡ before ++ addressed who (ns ++ ms)
given-then before middle after who ns ms first then =
    then ∙ ap (λ os. os ++ addressed who ms) first ∙ append_assoc before (addressed who ns) (addressed who ms)
    ∙ ap (λ os. before ++ os) (sym (map-append (λ (note : Note). record { who = who; note = note }) ns ms))

-- at first nothing is given
nothing_taken : (n : ℕ) → take {A = Item} n [] ≡ []
nothing_taken zero = refl
nothing_taken (suc n) = refl

nothing_given : (policy : Choice) (first : ℕ) → given (Start policy ▸ Requested first) ≡ []
nothing_given policy first = ap (λ xs. map Next xs ++ cond (leb 0 (0 + first)) [] []) (nothing_taken (0 + first)) ∙ neither (leb 0 (0 + first))
  where
    neither : (b : Bool) → cond {A = List Note} b [] [] ≡ []
    neither true = refl
    neither false = refl

-- a joiner's queue that was fed its opening
pub begun : (old new : LaneState) (policy : Choice) (first : ℕ) (signals : List Signal) (notes : List Note)
    → StandsFor old (Start policy ▸ Requested first) → Serves old new signals notes → Begins new policy first signals notes
begun old new policy first signals notes stands serves = record {
  gives = serves.gives (Start policy ▸ Requested first) stands ∙ ap (λ ns. ns ++ notes) (nothing_given policy first);
  stands = serves.goes_on (Start policy ▸ Requested first) stands;
}

-- a joiner's queue that was then fed more
pub begins_then : (mid new : LaneState) (policy : Choice) (first : ℕ) (xs ys : List Signal) (ns ms : List Note)
    → Begins mid policy first xs ns → Serves mid new ys ms → Begins new policy first (xs ++ ys) (ns ++ ms)
begins_then mid new policy first xs ys ns ms begins then =
    let start : Signals = Start policy ▸ Requested first in
    let P : Signals → Type 0 = λ t. StandsFor new t in
    record {
      gives =
          ap given (followed_by-append start xs ys) ∙ then.gives (followed_by start xs) begins.stands ∙ ap (λ ns'. ns' ++ ms) begins.gives;
      stands = subst P (sym (followed_by-append start xs ys)) (then.goes_on (followed_by start xs) begins.stands);
    }

-- several items offered, as signals
offered_as : (s : Signals) (items : List Item) → offered_all s items ≡ followed_by s (map Offered items)
offered_as s [] = refl
offered_as s (item ∷ items) = offered_as (sent s (Offered item)) items

-- a joiner's queue on the tape
pub begins_so : (lane : LaneState) (joiner : Joiner) (items : List Item) (before after : List Given)
    → BeginsTo lane joiner items before after → BeginsInto lane joiner (map Offered items) before after
begins_so lane joiner items before after begins =
    let same = offered_as (Start joiner.policy ▸ Requested joiner.first) items in (
      begins.0,
      begins.1,
      record {
        gives = ap given (sym same) ∙ begins.2.gives;
        stands = subst (λ (s : Signals). StandsFor lane s) same begins.2.stands;
      },
    )

-- a queue that has ended is left by what is sent
an_end : (end : Option Note) → is_some end ≡ true → (terminal : Note) × (end ≡ Some terminal)
an_end None ended = cc
an_end (Some terminal) ended = (terminal, refl)

has_end : (lane : LaneState) (s : Signals) → lane.ended ≡ true → StandsFor lane s → (terminal : Note) × (terminal_of s ≡ Some terminal)
has_end lane s ended stands = an_end (terminal_of s) (sym stands.ended ∙ ended)

same_for : (lane : LaneState) (signal : Signal) → ((s : Signals) → StandsFor lane s → sent s signal ≡ s) → Serves lane lane (signal ∷ []) []
same_for lane signal same = record {
  gives = λ s stands. ap given (same s stands) ∙ sym (append-nil (given s));
  goes_on = λ s stands. subst (λ (t : Signals). StandsFor lane t) (sym (same s stands)) stands;
}

pub Serves-behind : (lane : LaneState) (item : Item) → lane.ended ≡ true → Serves lane lane (Offered item ∷ []) []
Serves-behind lane item ended = same_for lane (Offered item) (λ s stands. let end = has_end lane s ended stands in sent-behind s end.0 item end.1)

pub Serves-second : (lane : LaneState) (terminal : Note) → lane.ended ≡ true → Serves lane lane (Ended terminal ∷ []) []
Serves-second lane terminal ended = same_for lane (Ended terminal) (λ s stands. let end = has_end lane s ended stands in sent-second s end.0 terminal end.1)

-- where no copy was needed the queue has ended, or the item is lost
not_kept : (ended lost : Bool) (item : Item) → None ≡ cond (ended || lost) None (Some item) → (ended ≡ true) ⊎ ((ended ≡ false) × (lost ≡ true))
not_kept true lost item is = inl refl
not_kept false true item is = inr (refl, refl)
not_kept false false item is = absurd cc

-- where a copy was needed it is the item
pub copy_kept : (b : Bool) (copy item : Item) → Some copy ≡ cond b None (Some item) → copy ≡ item
copy_kept true copy item is = absurd cc
copy_kept false copy item is = cc

-- an item of which no copy was needed gives nothing
pub Serves-none : (lane : LaneState) (item : Item) → None ≡ cond (lane.ended || loses_next lane) None (Some item) → Serves lane lane (Offered item ∷ []) []
Serves-none lane item none =
    elim (not_kept lane.ended (loses_next lane) item none) [
      | inl ended ↦ Serves-behind lane item ended
      | inr lost ↦
          Serves-one lane lane (Offered item) []
          (λ s stands. (offer_lost lane item lost.1 s stands (is_open lane s lost.0 stands)).gives)
          (λ s stands. (offer_lost lane item lost.1 s stands (is_open lane s lost.0 stands)).stands)
    ]
