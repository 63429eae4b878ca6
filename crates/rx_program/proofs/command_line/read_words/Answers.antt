use Rattle.std.proofs.Common.{◌≡◌, ◌⊎◌, [], List, true, refl, subst, inl, inr}
use Rattle.std.proofs.lemmas.Result.{err_from_is_err_and}
use Rattle.clap.specs.Words.{App, HasKind, HasMatchesOf, Text, fault_of, is_simple_and_free, kind_of, subcommand_of, subcommand_rows_of}
use Rattle.clap.specs.declared.error.Error.{Error}
use Rattle.clap.specs.declared.error.kind.ErrorKind.TheVariants.{OutOfMemory}
use Rattle.clap.specs.declared.parser.matches.ArgMatches.{ArgMatches}
use Rattle.rx_program.specs.CommandLines.{IsAgainst, line_app}
use Rattle.rx_program.proofs.command_line.read_words.Goals as goal

-- what is stated of a parse by the declared command line
no_fault : (app : App) (words : List Text) → app ≡ line_app → (is_simple_and_free app ≡ true → fault_of app words ≡ []) → fault_of line_app words ≡ []
no_fault app words is none = subst (λ (a : App). is_simple_and_free a ≡ true → fault_of a words ≡ []) is none refl

are_named : (app : App) (words : List Text) (matches : ArgMatches) → app ≡ line_app → HasMatchesOf app words matches → subcommand_rows_of matches ≡ subcommand_of line_app words
are_named app words matches is has = (subst (λ (a : App). HasMatchesOf a words matches) is has refl).1

fails : (app : App) (words : List Text) (error : Error) → app ≡ line_app → (is_simple_and_free app ≡ true → HasKind (fault_of app words) error) → (kind_of error ≡ OutOfMemory) ⊎ IsAgainst words (kind_of error)
fails app words error is has = elim (subst (λ (a : App). is_simple_and_free a ≡ true → HasKind (fault_of a words) error) is has refl) [ inl memory ↦ inl memory | inr among ↦ inr (inl among) ]

pub returns-in-Some : goal.returns-in-Some
returns-in-Some c =
    let named = are_named _ _ c.in_ok-matches.matches c.in_ok-line.ensures.app c.in_ok-matches.ensures.matches in
    (no_fault _ _ c.in_ok-line.ensures.app c.in_ok-matches.ensures.kinds, rw (← named) c.in-Some.ensures)

pub returns : goal.returns
returns c =
    let named = are_named _ _ c.in_ok-matches.matches c.in_ok-line.ensures.app c.in_ok-matches.ensures.matches in
    inr (inr (c.in_ok-unknown-in-None.ensures, no_fault _ _ c.in_ok-line.ensures.app c.in_ok-matches.ensures.kinds, rw (← named) c.in-None.ensures))

pub returns-in_err-matches : goal.returns-in_err-matches
returns-in_err-matches c =
    let p = err_from_is_err_and c.from_residual-in_err-matches.result c.from_residual-in_err-matches.ensures.1 in
    rw (p.1, p.2) (fails _ _ c.in_err-matches.field-0.0 c.in_ok-line.ensures.app c.in_err-matches.ensures.kinds)
