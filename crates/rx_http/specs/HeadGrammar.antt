-- The head of a connection is that of the grammar (RFC 9112, as httparse has it).
use Rattle.std.specs.Prelude.{◌≤◌, ℕ, List, length}
use Rattle.httparse.specs.Grammar.{RequestHead, ReadsRequest, print_request}
use Rattle.rx_http.specs.Heads.{IsHeadAt}

-- A HEAD OF THE GRAMMAR ENDS THERE: where the bytes of a connection are one and a rest, it is the head at their front, with one empty line
-- before it at most, which RFC 9112 (section 2.2) has a server pass over
abbrev pub GrammarEndsThere : Type 0
GrammarEndsThere =
    (bytes rest : List ℕ) (head : RequestHead) → ReadsRequest bytes head rest → length head.blank ≤ 1 → IsHeadAt (length (print_request head)) bytes
