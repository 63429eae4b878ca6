-- The numbers of the ports that came back to boxes: each once where each row of them came back once.
use Rattle.std.proofs.Common.{◌≡◌, ◌==◌, ◌∙◌, ◌⊎◌, sym, refl, ap, subst, ℕ, zero, suc, ◌+◌, ◌<◌, ◌≤◌, cond, List, [], ◌∷◌, ◌++◌, append_assoc, append-nil, length, map, slice_get, take, Some, inl, inr, ⊎_elim, eq-eqb, ne_eqb, arith}
use Rattle.std.proofs.lemmas.Bool.{cases_eq, cases_lt}
use Rattle.std.proofs.lemmas.List.{length-map, map_push}
use Rattle.std.proofs.lemmas.List.Elements.{All-append, All-cons, All-head, All-nil, All-tail, All-weaker}
use Rattle.std.proofs.lemmas.List.Sums.{sum_by-append, sum_by-cons}
use Rattle.std.specs.List.{All, AllZip, Contains, count_by, range_with_len}
use Rattle.rx_mailbox.specs.Boxes.{Box, Incoming, Outgoing}
use Rattle.rx_mailbox.specs.Passes.{SettledView}
use Rattle.rx_mailbox.specs.Settling.{IsEachOnce}
use Rattle.rx_pump.specs.Pumps.{AreSame, port_place}
use Rattle.rx_mailbox.specs.Parts.{FirstUnsettled, IsEmpty, PartsView, Settles, dealt, dealt_each, with_port}
use Rattle.rx_mailbox.proofs.Gathered.{inboxes_of, ports_of}
use Rattle.rx_mailbox.proofs.Rows.{dealt-count}
use Rattle.rx_server.specs.Wirings.{ports_at}
use Rattle.rx_server.proofs.Arriving.{all-at}
use Rattle.rx_server.proofs.Returning.{All-back, All-front, All-made, All-source}

-- HOW OFTEN A NUMBER COMES

-- how often among numbers
abbrev pub times : ℕ → List ℕ → ℕ
times number numbers = count_by (λ n. n == number) numbers

times-cons : (number n : ℕ) (numbers : List ℕ) → times number (n ∷ numbers) ≡ cond (n == number) 1 0 + times number numbers
times-cons number n numbers = sum_by-cons (λ m. cond (m == number) 1 0) n numbers

times-append : (number : ℕ) (xs ys : List ℕ) → times number (xs ++ ys) ≡ times number xs + times number ys
times-append number xs ys = sum_by-append (λ m. cond (m == number) 1 0) xs ys

-- never, where each is another one
times-none : (number : ℕ) (numbers : List ℕ) → All (λ n. ¬ (n ≡ number)) numbers → times number numbers ≡ 0
times-none number [] apart = refl
times-none number (n ∷ numbers) apart =
    let P : ℕ → Type 0 = λ n. ¬ (n ≡ number) in
    let one : ℕ = cond (n == number) 1 0 in
    let here : one ≡ 0 = ap (λ b. cond b 1 0) (ne_eqb n number (All-head P n numbers apart)) in
    let rest = times-none number numbers (All-tail P n numbers apart) in
    omega (arith, times-cons number n numbers, here, rest)

-- among what is made of items, as often as among the items
pub times-made : {X : Type 0} (f : X → ℕ) (number : ℕ) (xs : List X) → times number (map f xs) ≡ count_by (λ x. f x == number) xs
times-made f number [] = refl
times-made f number (x ∷ xs) =
    times-cons number (f x) (map f xs) ∙ ap (λ n. cond (f x == number) 1 0 + n) (times-made f number xs)
    ∙ sym (sum_by-cons (λ y. cond (f y == number) 1 0) x xs)

-- one that comes is that of an item
named : {X : Type 0} (f : X → ℕ) (number : ℕ) (xs : List X) → ((x : X) × Contains xs x × (f x ≡ number)) ⊎ All (λ x. ¬ (f x ≡ number)) xs
named f number [] = inr (All-nil (λ x. ¬ (f x ≡ number)))
named f number (x ∷ xs) = ⊎_elim
    (λ same. inl (x, (0, omega arith, refl), same))
    (λ apart. ⊎_elim
    (λ t. inl (t.0, (suc t.1.0, (let k = t.1.1 in omega arith), t.1.2), t.2))
    (λ none. inr (All-cons (λ y. ¬ (f y ≡ number)) x xs apart none))
    (named f number xs))
    (cases_eq (f x) number)

pub found : {X : Type 0} (f : X → ℕ) (number : ℕ) (xs : List X) → count_by (λ x. f x == number) xs ≡ 1 → (x : X) × Contains xs x × (f x ≡ number)
found f number xs once = ⊎_elim
    (λ t. t)
    (λ none.
    let apart = times-none number (map f xs) (All-made (λ n. ¬ (n ≡ number)) f xs none) in
    absurd (omega (arith, apart, times-made f number xs, once)))
    (named f number xs)

-- two of one number
pub twice : {X : Type 0} (f : X → ℕ) (number : ℕ) (first : List X) (one : X) (between : List X) (other : X) (rest : List X) → f one ≡ number → f other ≡ number
    → 2 ≤ count_by (λ x. f x == number) (first ++ one ∷ (between ++ other ∷ rest))
twice {X = X} f number first one between other rest here there =
    let g : X → ℕ = λ x. cond (f x == number) 1 0 in
    let one_counts : g one ≡ 1 = ap (λ b. cond b 1 0) (eq-eqb (f one) number here) in
    let other_counts : g other ≡ 1 = ap (λ b. cond b 1 0) (eq-eqb (f other) number there) in
    let parts = sum_by-append g first (one ∷ (between ++ other ∷ rest)) in
    let later = sum_by-cons g one (between ++ other ∷ rest) in
    let last = sum_by-append g between (other ∷ rest) in
    omega (arith, one_counts, other_counts, parts, later, last, sum_by-cons g other rest)

-- EACH NUMBER ONCE

-- so many numbers from one on, each once, and no other
pub record AreEach (from count : ℕ) (numbers : List ℕ) : Type 0 where
  pub within : All (λ n. (from ≤ n) × (n < from + count)) numbers
  pub once : (number : ℕ) → from ≤ number → number < from + count → times number numbers ≡ 1

-- no number outside
times-outside : (from count number : ℕ) (numbers : List ℕ) → (number < from) ⊎ (from + count ≤ number) → AreEach from count numbers → times number numbers ≡ 0
times-outside from count number numbers out each =
    times-none number numbers
    (All-weaker (λ n. (from ≤ n) × (n < from + count)) (λ n. ¬ (n ≡ number)) (λ n in_ same. ⊎_elim (λ low. omega (arith, in_.0, same, low)) (λ high. omega (arith, in_.1, same, high)) out) numbers each.within)

-- one number
pub each-one : (n : ℕ) → AreEach n 1 (n ∷ [])
each-one n = record {
  within = All-cons (λ m. (n ≤ m) × (m < n + 1)) n [] (omega arith, omega arith) (All-nil (λ m. (n ≤ m) × (m < n + 1)));
  once = λ number low high.
      let same : n ≡ number = omega (arith, low, high) in
      subst (λ m. times m (n ∷ []) ≡ 1) same (times-cons n n [] ∙ ap (λ b. cond b 1 0 + 0) (eq-eqb n n refl));
}

-- more that follow
pub each-both : (from a b : ℕ) (xs ys : List ℕ) → AreEach from a xs → AreEach (from + a) b ys → AreEach from (a + b) (xs ++ ys)
each-both from a b xs ys first later = record {
  within =
      let P : ℕ → Type 0 = λ n. (from ≤ n) × (n < from + (a + b)) in
      All-append P xs ys
      (All-weaker (λ n. (from ≤ n) × (n < from + a)) P (λ n is. (is.0, omega (arith, is.1))) xs first.within)
      (All-weaker (λ n. (from + a ≤ n) × (n < from + a + b)) P (λ n is. (omega (arith, is.0), omega (arith, is.1))) ys later.within);
  once = λ number low high. ⊎_elim
      (λ below.
      let one = first.once number low below in
      let none = times-outside (from + a) b number ys (inl below) later in
      times-append number xs ys ∙ omega (arith, one, none))
      (λ above.
      let none = times-outside from a number xs (inr above) first in
      let one = later.once number above (omega (arith, high)) in
      times-append number xs ys ∙ omega (arith, one, none))
      (cases_lt number (from + a));
}

-- in either order
pub each-turned : (from count : ℕ) (xs ys : List ℕ) → AreEach from count (xs ++ ys) → AreEach from count (ys ++ xs)
each-turned from count xs ys each =
    let P : ℕ → Type 0 = λ n. (from ≤ n) × (n < from + count) in
    record {
      within = All-append P ys xs (All-back P xs ys each.within) (All-front P xs ys each.within);
      once = λ number low high.
          let one = each.once number low high in
          times-append number ys xs ∙ omega (arith, one, times-append number xs ys);
    }

pub each-range : (from count : ℕ) → AreEach from count (range_with_len from count)
each-range from zero = record { within = All-nil (λ n. (from ≤ n) × (n < from + 0)); once = λ number low high. absurd (omega (arith, low, high)) }
each-range from (suc count) =
    let all = each-both from 1 count (from ∷ []) (range_with_len (from + 1) count) (each-one from) (each-range (from + 1) count) in
    let n : 1 + count ≡ suc count = omega arith in
    subst (λ k. AreEach from k (range_with_len from (suc count))) n all

-- of ports: each number below is that of one
pub each-port : {B : Type 0} (made : ℕ) (ports : List (Outgoing B)) (numbers : List ℕ) → map (λ port. port.number) ports ≡ numbers → AreEach 0 made numbers → IsEachOnce made ports
each-port {B = B} made ports numbers are each =
    let own = subst (AreEach 0 made) (sym are) each in (
      All-source (λ n. n < made) (λ port. port.number) ports (All-weaker (λ n. (0 ≤ n) × (n < 0 + made)) (λ n. n < made) (λ n is. omega (arith, is.1)) (map (λ port. port.number) ports) own.within),
      λ number below. sym (times-made (λ (port : Outgoing B). port.number) number ports) ∙ own.once number (omega arith) (omega (arith, below)),
    )

-- and the other way round
pub port-times : {B : Type 0} (made : ℕ) (ports : List (Outgoing B)) (numbers : List ℕ) → map (λ port. port.number) ports ≡ numbers → IsEachOnce made ports
    → (number : ℕ) → number < made → times number numbers ≡ 1
port-times {B = B} made ports numbers are each number below =
    ap (times number) (sym are) ∙ times-made (λ (port : Outgoing B). port.number) number ports ∙ each.1 number below

-- of numbers behind those of a range, each below the range comes as often as among all
pub times-behind : (from count number : ℕ) (numbers : List ℕ) → number < from → times number (range_with_len from count ++ numbers) ≡ times number numbers
times-behind from count number numbers below =
    let none = times-outside from count number (range_with_len from count) (inl below) (each-range from count) in
    times-append number (range_with_len from count) numbers ∙ omega (arith, none)

-- ROWS

module _ {B : Type 0} where
  -- a port for each of so many boxes, all of one number
  pub record IsRow (count number : ℕ) (ports : List (Outgoing B)) : Type 0 where
    pub many : length ports ≡ count
    pub same : All (λ port. port.number ≡ number) ports

  -- new ports of each box are one
  pub row-new : (number : ℕ) (boxes : List (Box B)) → IsRow (length boxes) number (ports_at number boxes)
  row-new number [] = record { many = refl; same = All-nil (λ port. port.number ≡ number) }
  row-new number (box ∷ boxes) =
      let rest = row-new number boxes in
      record { many = ap suc rest.many; same = All-cons (λ port. port.number ≡ number) _ (ports_at number boxes) refl rest.same }

  -- and stay one, whatever they put
  same-numbers : (number : ℕ) (before after : List (Outgoing B)) → AreSame before after → All (λ port. port.number ≡ number) before → All (λ port. port.number ≡ number) after
  same-numbers number before [] same all = All-nil (λ port. port.number ≡ number)
  same-numbers number [] (port ∷ after) same all = cc
  same-numbers number (one ∷ before) (port ∷ after) same all =
      let P = λ (port : Outgoing B). port.number ≡ number in
      let head : port_place port ≡ port_place one = cc in
      let tail : map port_place after ≡ map port_place before = cc in
      All-cons P port after (ap (λ (p : Box B × ℕ). p.1) head ∙ All-head P one before all) (same-numbers number before after tail (All-tail P one before all))

  pub row-stays : (count number : ℕ) (before after : List (Outgoing B)) → AreSame before after → IsRow count number before → IsRow count number after
  row-stays count number before after same row = record {
    many = sym (length-map after port_place) ∙ ap length same ∙ length-map before port_place ∙ row.many;
    same = same-numbers number before after same row.same;
  }

-- WHAT CAME BACK

module _ {B : Type 0} where
  -- to each of the boxes came ports of these numbers
  abbrev pub HaveNumbers : List ℕ → List (PartsView B) → Type 0
  HaveNumbers numbers boxes = All (λ parts. map (λ port. port.number) parts.ports ≡ numbers) boxes

  pub none-yet : (senders : ℕ) (boxes : List (PartsView B)) → All (IsEmpty senders) boxes → HaveNumbers [] boxes
  none-yet senders boxes empty =
      All-weaker (IsEmpty senders) (λ parts. map (λ port. port.number) parts.ports ≡ []) (λ parts is. ap (map (λ port. port.number)) is.no_ports) boxes empty

  -- a row more
  numbers-dealt : (numbers : List ℕ) (number : ℕ) (ports : List (Outgoing B)) (boxes : List (PartsView B)) → IsRow (length boxes) number ports
      → HaveNumbers numbers boxes → HaveNumbers (numbers ++ number ∷ []) (dealt ports boxes)
  numbers-dealt numbers number [] [] row have = All-nil (λ parts. map (λ port. port.number) parts.ports ≡ numbers ++ number ∷ [])
  numbers-dealt numbers number [] (parts ∷ boxes) row have = let many = row.many in absurd (omega (arith, many))
  numbers-dealt numbers number (port ∷ ports) [] row have = let many = row.many in absurd (omega (arith, many))
  numbers-dealt numbers number (port ∷ ports) (parts ∷ boxes) row have =
      let P = λ (parts : PartsView B). map (λ port. port.number) parts.ports ≡ numbers in
      let Q = λ (parts : PartsView B). map (λ port. port.number) parts.ports ≡ numbers ++ number ∷ [] in
      let N = λ (port : Outgoing B). port.number ≡ number in
      let many = row.many in
      let rest : IsRow (length boxes) number ports = record { many = omega (arith, many); same = All-tail N port ports row.same } in
      All-cons Q (with_port port parts) (dealt ports boxes)
      (map_push (λ port. port.number) parts.ports port ∙ ap (λ (l : List ℕ). l ++ port.number ∷ []) (All-head P parts boxes have) ∙ ap (λ n. numbers ++ n ∷ []) (All-head N port ports row.same))
      (numbers-dealt numbers number ports boxes rest (All-tail P parts boxes have))

  -- several
  pub numbers-dealt_each : (count : ℕ) (numbers more : List ℕ) (rows : List (List (Outgoing B))) (boxes : List (PartsView B)) → length boxes ≡ count → AllZip (IsRow count) more rows
      → HaveNumbers numbers boxes → HaveNumbers (numbers ++ more) (dealt_each rows boxes)
  numbers-dealt_each count numbers [] [] boxes many each have = subst (λ (l : List ℕ). HaveNumbers l boxes) (sym (append-nil numbers)) have
  numbers-dealt_each count numbers [] (ports ∷ rows) boxes many each have = absurd each
  numbers-dealt_each count numbers (number ∷ more) [] boxes many each have = absurd each
  numbers-dealt_each count numbers (number ∷ more) (ports ∷ rows) boxes many each have =
      let row = subst (λ n. IsRow n number ports) (sym many) each.0 in
      subst (λ (l : List ℕ). HaveNumbers l (dealt_each rows (dealt ports boxes))) (append_assoc numbers (number ∷ []) more)
      (numbers-dealt_each count (numbers ++ number ∷ []) more rows (dealt ports boxes) (dealt-count ports boxes ∙ many) each.1 (numbers-dealt numbers number ports boxes row have))

  -- inboxes that came back change nothing of it
  pub numbers-same : (numbers : List ℕ) (before after : List (PartsView B)) → ports_of after ≡ ports_of before → HaveNumbers numbers before → HaveNumbers numbers after
  numbers-same numbers before after same have =
      All-source (λ (ports : List (Outgoing B)). map (λ port. port.number) ports ≡ numbers) (λ parts. parts.ports) after
      (subst (All (λ (ports : List (Outgoing B)). map (λ port. port.number) ports ≡ numbers)) (sym same)
      (All-made (λ (ports : List (Outgoing B)). map (λ port. port.number) ports ≡ numbers) (λ parts. parts.ports) before have))

  -- WHAT SETTLES

  -- the inbox that came back to the box at a place
  inbox-at : (P : Incoming B → Type 0) (boxes : List (PartsView B)) (inboxes : List (Incoming B)) (place : ℕ) (parts : PartsView B) → inboxes_of boxes ≡ map Some inboxes → All P inboxes
      → slice_get boxes place ≡ Some parts → (inbox : Incoming B) × (parts.inbox ≡ Some inbox) × P inbox
  inbox-at P [] inboxes place parts are all at = cc
  inbox-at P (one ∷ boxes) [] place parts are all at = cc
  inbox-at P (one ∷ boxes) (inbox ∷ inboxes) zero parts are all at =
      let head : one.inbox ≡ Some inbox = cc in
      let same : one ≡ parts = cc in
      (inbox, ap (λ (p : PartsView B). p.inbox) (sym same) ∙ head, All-head P inbox inboxes all)
  inbox-at P (one ∷ boxes) (inbox ∷ inboxes) (suc place) parts are all at =
      let tail : inboxes_of boxes ≡ map Some inboxes = cc in inbox-at P boxes inboxes place parts tail (All-tail P inbox inboxes all) at

  -- a box that settled has the ports of its inbox, each once
  pub settled-once : (made : ℕ) (numbers : List ℕ) (boxes : List (PartsView B)) (inboxes : List (Incoming B)) → inboxes_of boxes ≡ map Some inboxes
      → All (λ inbox. inbox.ports ≡ made) inboxes → HaveNumbers numbers boxes
      → (place : ℕ) (parts : PartsView B) (box : SettledView B) → slice_get boxes place ≡ Some parts → Settles parts box → (number : ℕ) → number < made → times number numbers ≡ 1
  settled-once made numbers boxes inboxes are whole have place parts box stood settles =
      let at = inbox-at (λ inbox. inbox.ports ≡ made) boxes inboxes place parts are whole stood in
      let mine : settles.inbox ≡ at.0 = let both : Some settles.inbox ≡ Some at.0 = sym settles.came ∙ at.1 in cc in
      let ports : box.ports ≡ made = ap (λ (i : Incoming B). i.ports) settles.received.received ∙ ap (λ (i : Incoming B). i.ports) mine ∙ at.2 in
      port-times made parts.ports numbers (all-at (λ (parts : PartsView B). map (λ port. port.number) parts.ports ≡ numbers) boxes place parts have stood)
      (subst (λ n. IsEachOnce n parts.ports) ports settles.each_once)

  -- the first of the boxes that settled
  pub first-settled : (boxes : List (PartsView B)) (settled : List (SettledView B)) → 0 < length boxes → AllZip Settles boxes settled
      → (parts : PartsView B) × (box : SettledView B) × (slice_get boxes 0 ≡ Some parts) × Settles parts box
  first-settled [] settled some all = absurd (omega (arith, some))
  first-settled (parts ∷ boxes) [] some all = absurd all
  first-settled (parts ∷ boxes) (box ∷ settled) some all = (parts, box, refl, all.0)

  pub first-before : (place : ℕ) (boxes : List (PartsView B)) (settled : List (SettledView B)) → 0 < length boxes → AllZip Settles (take (suc place) boxes) settled
      → (parts : PartsView B) × (box : SettledView B) × (slice_get boxes 0 ≡ Some parts) × Settles parts box
  first-before place [] settled some all = absurd (omega (arith, some))
  first-before place (parts ∷ boxes) [] some all = absurd all
  first-before place (parts ∷ boxes) (box ∷ settled) some all = (parts, box, refl, all.0)

  -- so where that is so of each box, none of them is the first that cannot settle
  pub each-settles : (made : ℕ) (numbers : List ℕ) (boxes : List (PartsView B)) (inboxes : List (Incoming B)) → inboxes_of boxes ≡ map Some inboxes
      → All (λ inbox. inbox.ports ≡ made) inboxes → HaveNumbers numbers boxes → AreEach 0 made numbers
      → (settled : List (SettledView B)) (place : ℕ) → ¬ FirstUnsettled boxes settled place
  each-settles made numbers boxes inboxes are whole have each settled place first =
      let at = inbox-at (λ inbox. inbox.ports ≡ made) boxes inboxes place first.parts are whole first.stood in
      let once = each-port made first.parts.ports numbers (all-at (λ (parts : PartsView B). map (λ port. port.number) parts.ports ≡ numbers) boxes place first.parts have first.stood) each in
      first.cannot at.0 at.1 (subst (λ n. IsEachOnce n first.parts.ports) (sym at.2) once)
