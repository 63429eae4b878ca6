-- The first LF ends the first line.
use Rattle.std.proofs.Common.{◌≡◌, ◌==◌, ◌∷◌, ◌∙◌, ℕ, false, List, [], length, refl, sym, ap}
use Rattle.rx_http.specs.BodyLines.{last_line, lines_of}
use Rattle.rx_http.proofs.BodyLines.{line-ended, line-last}
use Rattle.rx_http.proofs.request.body_lines.first_line.Goals as goal

-- bytes behind the last LF are a line
some-last : (bytes : List ℕ) → (length bytes == 0) ≡ false → last_line bytes ≡ bytes ∷ []
some-last [] some = cc
some-last (byte ∷ bytes) some = refl

pub returns-in-Some : goal.returns-in-Some
returns-in-Some c =
    let parts = c.in-Some.ensures in
    ap lines_of parts.parts ∙ line-ended _ _ parts.none

pub returns-in-None : goal.returns-in-None
returns-in-None c =
    let bytes = c.args.body.now in
    line-last bytes c.in-None.ensures ∙ some-last bytes (sym c.if-is_empty.ensures)
