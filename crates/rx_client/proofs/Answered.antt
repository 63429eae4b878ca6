-- What stands behind a head is a body and a rest.
use Rattle.std.proofs.Common.{◌≡◌, ◌≤◌, ◌-◌, ◌++◌, ℕ, List, Some, length, length-drop, map, take, drop, codes, decimal, sym, ap, ◌∙◌, arith}
use Rattle.std.proofs.lemmas.List.{length-take-le, take-append-drop, take_all}
use Rattle.httparse.specs.Grammar.{ResponseHead, print_response}
use Rattle.httparse.specs.Spans.{IsResponseAt, header_bytes}
use Rattle.httparse.specs.declared.spans.HeaderSpan.{HeaderSpan}
use Rattle.httparse.specs.declared.spans.ResponseSpans.{ResponseSpans}
use Rattle.rx_client.specs.Looking.{IsAnswer, first_named}

-- the first bytes behind the head of an answer that tells so many are its body
pub answers : (came : List ℕ) (headers : List HeaderSpan) (parts : ResponseSpans) (head : ResponseHead) (size : ℕ) → IsResponseAt came headers parts head
    → first_named (codes "content-length") (map (header_bytes came) (take parts.headers headers)) ≡ Some (decimal size) → size ≤ length (drop parts.len came)
    → IsAnswer parts.code came (take size (drop parts.len came))
answers came headers parts head size at told enough =
    let behind = drop parts.len came in
    record {
      head = head;
      rest = drop size behind;
      reads = (at.reads.0, at.reads.1 ∙ ap (λ l. print_response head ++ l) (sym (take-append-drop size behind)));
      status = sym at.code;
      size = ap (first_named (codes "content-length")) (sym at.fields) ∙ told ∙ ap (λ n. Some (decimal n)) (sym (length-take-le size behind enough));
    }

-- a list is its first elements, where it has no more
pub all-behind : (came : List ℕ) (len : ℕ) → take (length came - len) (drop len came) ≡ drop len came
all-behind came len = take_all (length came - len) (drop len came) (omega (arith, length-drop len came))
