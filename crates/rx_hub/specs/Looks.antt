-- What is seen of a subject and its observers at one moment (this project's own rule).
--
-- A look: for every history that the hub stands for, the items and Joins accepted, whether and how the subject ended, and of
-- each observer that is held, by rising number, how it joined, how many notes wait for it and how many items it is owed.
use Rattle.std.specs.Prelude.{◌≡◌, ◌+◌, ℕ, List, length, map, Option, None, Some, option_to_list}
use Rattle.std.specs.List.{flat_map}
use Rattle.rx_note.specs.declared.note.Note.{Note}
use Rattle.rx_note.specs.declared.note.Note.TheVariants.{Next, Completed, Failed}
use Rattle.rx_note.specs.declared.rules.Rules.{Rules}
use Rattle.rx_note.specs.Signals.{Signals, policy_of, waiting, owed}
use Rattle.rx_history.specs.Histories.{History, end_of, held, item_count, joins, signals}
use Rattle.rx_hub.specs.declared.observer_look.ObserverLook.{ObserverLook}
use Rattle.rx_hub.specs.declared.subject_end.SubjectEnd.{SubjectEnd}
use Rattle.rx_hub.specs.declared.subject_end.SubjectEnd.TheVariants as ends
use Rattle.rx_hub.specs.declared.subject_look.SubjectLook.{SubjectLook}
use Rattle.rx_hub.specs.Subscriptions.{Observer}

-- how a subject with this end ended, if it did
abbrev pub end_as : Option Note → SubjectEnd
end_as None = ends.Open
end_as (Some (Next item)) = ends.Open
end_as (Some Completed) = ends.Completed
end_as (Some (Failed text)) = ends.Failed

-- what is seen of an observer by its signals
abbrev pub row_of : ℕ → Signals → ObserverLook
row_of o s = record {
  who = o;
  strategy = (policy_of s).strategy;
  errors = (policy_of s).errors;
  waiting = length (waiting s);
  owed = owed s;
}

-- what is seen of each observer that is held, by rising number
abbrev pub rows_of : Rules → History → List ObserverLook
rows_of rules H = flat_map (λ o. map (row_of o) (option_to_list (signals rules H o))) (held rules H)

-- what is seen of a subject and its observers after H
pub record IsSeen (rules : Rules) (H : History) (look : SubjectLook) : Type 0 where
  pub items : look.items ≡ item_count rules H
  pub end : look.end ≡ end_as (end_of H)
  pub joins : look.joins ≡ joins rules H
  pub observers : look.observers.items ≡ rows_of rules H

-- the row of an observer by its queue
abbrev pub row_at : Observer → ObserverLook
row_at observer = record {
  who = observer.who;
  strategy = observer.lane.policy.strategy;
  errors = observer.lane.policy.errors;
  waiting = length observer.lane.items + length observer.lane.last;
  owed = observer.lane.owing;
}
