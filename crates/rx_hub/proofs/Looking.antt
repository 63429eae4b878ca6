-- What is seen of observers by their queues is what is seen of them by their signals.
use Rattle.std.proofs.Common.{◌≡◌, ℕ, ◌+◌, ◌<◌, List, [], ◌∷◌, ◌++◌, length, map, take, get_or, Option, option_to_list, refl, sym, ap, ◌∙◌, arith}
use Rattle.std.specs.List.{flat_map}
use Rattle.std.proofs.lemmas.List.{length-append, length-map, map-append, take_more}
use Rattle.rx_note.specs.declared.note.Note.TheVariants.{Next}
use Rattle.rx_note.specs.Choices.{Choice}
use Rattle.rx_note.specs.Signals.{Signals, policy_of, waiting, waiting_items, waiting_end}
use Rattle.rx_history.specs.Histories.{History, signals}
use Rattle.rx_lane.specs.Lanes.{LaneState}
use Rattle.rx_lane.specs.Lanes as lanes
use Rattle.rx_hub.specs.declared.observer_look.ObserverLook.{ObserverLook}
use Rattle.rx_hub.specs.declared.subject_look.SubjectLook.{SubjectLook}
use Rattle.rx_hub.specs.Subscriptions.{Observer, numbers, AllStand}
use Rattle.rx_hub.specs.Hubs.{HubState, StandsFor}
use Rattle.rx_hub.specs.Looks.{end_as, row_of, row_at, IsSeen}

-- one row more
pub rows-more : {A B : Type 0} (f : A → B) (xs : List A) (i : ℕ) (x : A) → i < length xs → get_or xs i x ≡ x → map f (take (i + 1) xs) ≡ map f (take i xs) ++ f x ∷ []
rows-more f xs i x lt at =
    ap (map f) (take_more xs i x lt) ∙ map-append f (take i xs) (get_or xs i x ∷ []) ∙ ap (λ y. map f (take i xs) ++ f y ∷ []) at

-- the notes that wait are the items and the terminal
all_notes : (lane : LaneState) (s : Signals) → lanes.StandsFor lane s → length lane.items + length lane.last ≡ length (waiting s)
all_notes lane s st =
    omega (arith, ap length st.items, ap length st.last, length-append (map Next (waiting_items s)) (waiting_end s), length-map (waiting_items s) Next)

-- a row by these
row : ℕ → Choice → ℕ → ℕ → ObserverLook
row who policy waits owing = record { who = who; strategy = policy.strategy; errors = policy.errors; waiting = waits; owed = owing }

row_same : (observer : Observer) (s : Signals) → lanes.StandsFor observer.lane s → row_at observer ≡ row_of observer.who s
unfolding row
row_same observer s st =
    let lane = observer.lane in
    ap (λ policy. row observer.who policy (length lane.items + length lane.last) lane.owing) st.policy
    ∙ ap (λ n. row observer.who (policy_of s) n lane.owing) (all_notes lane s st)
    ∙ ap (λ n. row observer.who (policy_of s) (length (waiting s)) n) st.owing

rows_same : (table : ℕ → Option Signals) (observers : List Observer) → AllStand table observers
    → map row_at observers ≡ flat_map (λ o. map (row_of o) (option_to_list (table o))) (numbers observers)
rows_same table [] all = refl
rows_same table (observer ∷ observers) all =
    let mine = all.0 in
    let rest = flat_map (λ o. map (row_of o) (option_to_list (table o))) (numbers observers) in
    ap (λ first. first ∷ map row_at observers) (row_same observer mine.these mine.stand)
    ∙ ap (λ rows. row_of observer.who mine.these ∷ rows) (rows_same table observers all.1)
    ∙ ap (λ known. map (row_of observer.who) (option_to_list known) ++ rest) (sym mine.are)

-- what is seen by the parts of a hub is what is seen after each history that it stands for
pub seen_of : (hub : HubState) (H : History) (look : SubjectLook) → look.items ≡ hub.subject.count → look.end ≡ end_as hub.subject.terminal → look.joins ≡ hub.joined
    → look.observers.items ≡ map row_at hub.observers → StandsFor hub H → IsSeen hub.rules H look
seen_of hub H look items end joins rows stands = record {
  items = items ∙ stands.subject_stands.count_is;
  end = end ∙ ap end_as stands.subject_stands.end_is;
  joins = joins ∙ stands.joins_are;
  observers = rows ∙ rows_same (signals hub.rules H) hub.observers stands.lanes_stand
      ∙ ap (flat_map (λ o. map (row_of o) (option_to_list (signals hub.rules H o)))) stands.held_are;
}
