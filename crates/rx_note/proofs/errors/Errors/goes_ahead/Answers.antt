-- An error, and nothing else, is given ahead.
use Rattle.std.proofs.Common.{rules}
use Rattle.rx_note.proofs.errors.Errors.goes_ahead.Goals as goal

pub returns-then-is_error : goal.returns-then-is_error
returns-then-is_error c = search rules
