-- How far an acceptor has come.
use Rattle.std.proofs.Common.{◌≡◌, ◌∙◌, sym, refl, ap, subst, ℕ, ◌+◌, ◌<◌, ◌%◌, List, [], ◌∷◌, ◌++◌, append_assoc, append-nil, length, get_or, reverse, Ok, Err, arith}
use Rattle.std.proofs.Math.ListN.{set}
use Rattle.std.proofs.lemmas.List.{set-get_or, length-append, reverse-append}
use Rattle.std.proofs.lemmas.List.Elements.{All-append, All-cons, All-nil, All-same, All-tail}
use Rattle.std.specs.List.{All}
use Rattle.rx_mailbox.specs.declared.letter.Post.TheVariants.{Body}
use Rattle.rx_mailbox.specs.Letters.{letter}
use Rattle.rx_mailbox.specs.Boxes.{Outgoing, with_post, with_more}
use Rattle.rx_pump.specs.Marks.{to_port}
use Rattle.rx_mailbox.specs.PortRows.{Puts}
use Rattle.rx_pump.proofs.Putting.{Puts-at, Puts-none, Puts-same, Puts-then}
use Rattle.rx_workers.specs.Accepting.{dealt_to, Deals, Accepts, AcceptsAll, AcceptsNext, HoldsNothing}
use Rattle.rx_workers.specs.declared.crew.acceptor.AcceptStop.{AcceptStop}
use Rattle.rx_workers.specs.declared.crew.acceptor.AcceptStop.TheVariants.{NoConnection, WorkerGone}

module _ {X : Type 0} where
  -- one connection is sent to its worker
  pub sends_one : (ports : List (Outgoing X)) (number count : ℕ) (port after : Outgoing X) (x : X)
      → count ≡ length ports → 0 < length ports → port ≡ get_or ports (number % count) port → HoldsNothing port → after ≡ with_post port (Body x)
      → Puts (λ d. to_port (number % length ports) d x) ports (set ports (number % count) after)
  sends_one ports number count port after x count_is some port_is nothing after_is =
      let place_is : number % count ≡ number % length ports = ap (λ n. number % n) count_is in
      let within : number % count < length ports = omega (arith, count_is) in
      let more : after ≡ with_more (x ∷ []) port =
      after_is ∙ ap (λ (held : ℕ). record { box = port.box; number = port.number; own = port.own ++ letter port.number (Body x) ∷ []; held = held }) (sym nothing) in
      subst (λ (k : ℕ). Puts (λ d. to_port k d x) ports (set ports (number % count) after)) place_is
      (Puts-at ports (number % count) port after x within port_is more)

  -- a port that is as it was
  pub set_same : (ports : List (Outgoing X)) (place : ℕ) (port after : Outgoing X) → port ≡ get_or ports place port → after ≡ port → set ports place after ≡ ports
  set_same ports place port after port_is after_is = ap (set ports place) (after_is ∙ port_is) ∙ set-get_or ports place port

  -- nor does one of them the other way round
  pub held_reverse : (ports : List (Outgoing X)) → All HoldsNothing ports → All HoldsNothing (reverse ports)
  held_reverse [] nothing = All-nil HoldsNothing
  held_reverse (port ∷ ports) nothing =
      All-same HoldsNothing (reverse (port ∷ ports)) (reverse ports ++ port ∷ []) (reverse-append (port ∷ []) ports)
      (All-append HoldsNothing (reverse ports) (port ∷ []) (held_reverse ports (All-tail HoldsNothing port ports nothing))
      (All-cons HoldsNothing port [] (nothing 0 port (omega arith)) (All-nil HoldsNothing)))

  -- a port of some that hold nothing back
  pub held_at : (ports : List (Outgoing X)) (place : ℕ) (port : Outgoing X) → place < length ports → port ≡ get_or ports place port → All HoldsNothing ports → HoldsNothing port
  held_at ports place port within port_is nothing = ap (λ (p : Outgoing X). p.held) port_is ∙ nothing place port within

  -- one connection more is dealt
  dealt-more : (n d first : ℕ) (xs : List X) (x : X) → dealt_to n d first (xs ++ x ∷ []) ≡ dealt_to n d first xs ++ to_port ((first + length xs) % n) d x
  dealt-more n d first [] x = append-nil (to_port (first % n) d x) ∙ ap (λ k. to_port (k % n) d x) (omega arith)
  dealt-more n d first (y ∷ xs) x =
      let index : (first + 1) + length xs ≡ first + length (y ∷ xs) = omega arith in
      ap (λ zs. to_port (first % n) d y ++ zs) (dealt-more n d (first + 1) xs x ∙ ap (λ k. dealt_to n d (first + 1) xs ++ to_port (k % n) d x) index)
      ∙ sym (append_assoc (to_port (first % n) d y) (dealt_to n d (first + 1) xs) (to_port ((first + length (y ∷ xs)) % n) d x))

  -- the connections so far were dealt, and one more is sent to its worker
  Deals-more : (xs : List X) (x : X) (number : ℕ) (before now after : List (Outgoing X)) → length xs ≡ number → Deals xs before now
      → Puts (λ d. to_port (number % length now) d x) now after → Deals (xs ++ x ∷ []) before after
  Deals-more xs x number before now after count so one =
      let n = length before in
      let index : number % length now ≡ (0 + length xs) % n = ap (λ k. number % k) so.count ∙ ap (λ k. k % n) (omega (arith, count)) in
      Puts-same (λ d. dealt_to n d 0 xs ++ to_port (number % length now) d x) (λ d. dealt_to n d 0 (xs ++ x ∷ [])) before after
      (λ d. ap (λ k. dealt_to n d 0 xs ++ to_port k d x) index ∙ sym (dealt-more n d 0 xs x))
      (Puts-then (λ d. dealt_to n d 0 xs) (λ d. to_port (number % length now) d x) before now after so one)

module _ {L X : Type 0} (accepts : L → X → L → Type 0) where
  -- one connection more
  Accepts-more : (start now next : L) (xs : List X) (x : X) → Accepts accepts start xs now → accepts now x next → Accepts accepts start (xs ++ x ∷ []) next
  Accepts-more start now next [] x so one = (next, subst (λ (l : L). accepts l x next) so one, refl)
  Accepts-more start now next (y ∷ xs) x so one = (so.0, so.1, Accepts-more so.0 now next xs x so.2 one)

  -- so many connections were accepted, and sent to their workers
  pub record SoFar (number : ℕ) (start now : L) (before after : List (Outgoing X)) : Type 0 where
    pub xs : List X
    pub count : length xs ≡ number
    pub accepted : Accepts accepts start xs now
    pub deals : Deals xs before after

  -- none was accepted yet
  pub SoFar-begun : (start : L) (ports : List (Outgoing X)) → SoFar 0 start start ports ports
  SoFar-begun start ports = record { xs = []; count = refl; accepted = refl; deals = Puts-none ports }

module _ {L X : Type 0} (accepts : L → X → L → Type 0) (fails : L → L → Type 0) where
  -- one connection more
  pub SoFar-one : (number : ℕ) (start now next : L) (before ports after : List (Outgoing X)) → SoFar accepts number start now before ports
      → AcceptsNext accepts fails number (Ok tt) now next ports after → SoFar accepts (number + 1) start next before after
  SoFar-one number start now next before ports after so one = record {
    xs = so.xs ++ one.0 ∷ [];
    count = length-append so.xs (one.0 ∷ []) ∙ ap (λ k. k + 1) so.count;
    accepted = Accepts-more accepts start now next so.xs one.0 so.accepted one.1;
    deals = Deals-more so.xs one.0 number before ports after so.count so.deals one.2;
  }

  -- all were accepted
  pub accepted_all : (number : ℕ) (start now : L) (before after : List (Outgoing X)) → SoFar accepts number start now before after
      → AcceptsAll accepts fails number (Ok tt) start now before after
  accepted_all number start now before after so = (so.xs, so.count, so.accepted, so.deals)

  -- it stopped at one
  pub accepted_some : (number count : ℕ) (stop : AcceptStop) (start now last : L) (before ports after : List (Outgoing X)) → number < count
      → SoFar accepts number start now before ports → AcceptsNext accepts fails number (Err stop) now last ports after
      → AcceptsAll accepts fails count (Err stop) start last before after
  accepted_some number count NoConnection start now last before ports after fewer so end = (
    so.xs,
    now,
    omega (arith, fewer, so.count),
    so.accepted,
    end.0,
    subst (λ (ps : List (Outgoing X)). Deals so.xs before ps) (sym end.1) so.deals,
  )
  accepted_some number count (WorkerGone place) start now last before ports after fewer so end = (
    so.xs,
    end.0,
    omega (arith, fewer, so.count),
    Accepts-more accepts start now last so.xs end.0 so.accepted end.1,
    end.2 ∙ ap (λ k. number % k) so.deals.count ∙ ap (λ k. k % length before) (sym so.count),
    subst (λ (ps : List (Outgoing X)). Deals so.xs before ps) (sym end.3) so.deals,
  )
