-- The lines that a client sends (this project's own rule).
use Rattle.std.specs.Prelude.{◌≡◌, ◌≢◌, ◌++◌, ◌∷◌, [], ℕ, List, codes, Ok}
use Rattle.rx_note.specs.Choices.{Choice}
use Rattle.rx_proto.specs.Reading.{session_read}
use Rattle.rx_proto.specs.declared.command.Command.TheVariants.{Sub}

-- the words of a subscription, whatever they are
abbrev pub sub_words : List ℕ → List ℕ → List ℕ → List ℕ
sub_words subject strategy errors = codes "SUB " ++ subject ++ codes " " ++ strategy ++ codes " " ++ errors

-- a session takes the line of these words as a subscription
pub record IsSub (subject strategy errors line : List ℕ) : Type 0 where
  pub words : line ≡ sub_words subject strategy errors
  pub name : List ℕ
  pub policy : Choice
  pub read : session_read line ≡ Ok (Sub name policy)

-- no session takes these words as a subscription
abbrev pub IsNoSub : List ℕ → List ℕ → List ℕ → Type 0
IsNoSub subject strategy errors = (name : List ℕ) (policy : Choice) → session_read (sub_words subject strategy errors) ≢ Ok (Sub name policy)

-- the line that emits an item, with what a line of some input says
abbrev pub pub_line : List ℕ → List ℕ → List ℕ
pub_line subject input = codes "PUB " ++ subject ++ codes " " ++ input ++ 10 ∷ []
