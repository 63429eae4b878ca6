-- Which subjects of a configuration keep all that they ever take, or may have all of it wait (this project's own rule).
use Rattle.std.specs.Prelude.{◌≡◌, ◌≢◌, ℕ, None}
use Rattle.rx_config.specs.Configurations.{Subject}
use Rattle.rx_note.specs.declared.kind.Kind.TheVariants.{Async, Replay}

-- a Replay that bounds neither what it keeps, nor how much it takes in all, nor its memory
pub record KeepsAll (subject : Subject) : Type 0 where
  pub keeps_any : subject.rules.kind ≡ Replay None None
  pub takes_any : subject.rules.limits.items ≡ 4294967295
  pub has_no_budget : subject.budget ≡ None

-- where so many bytes may wait for an observer that has no bound: 0 is none, each item is offered as it comes, and neither how many the
-- subject takes in all has one, nor its memory
pub record WaitsForAll (waiting : ℕ) (subject : Subject) : Type 0 where
  pub is_no_bound : waiting ≡ 0
  pub offers_each : subject.rules.kind ≢ Async
  pub takes_any : subject.rules.limits.items ≡ 4294967295
  pub has_no_budget : subject.budget ≡ None
