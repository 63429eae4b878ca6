-- What the threads of a test put, and what their settling shows.
use Rattle.std.proofs.Common.{◌≡◌, ◌+◌, ℕ, List, [], ◌∷◌, sym, ap, ◌∙◌, subst, arith}
use Rattle.std.specs.List.{All}
use Rattle.std.proofs.lemmas.List.Elements.{All-same}
use Rattle.std.proofs.lemmas.List.FromFn.{map-range_with_len_more}
use Rattle.rx_mailbox.specs.declared.letter.Post.TheVariants.{Body, Bye}
use Rattle.rx_mailbox.specs.Letters.{letter, share}
use Rattle.rx_mailbox.specs.Boxes.{Outgoing, outgoing, Incoming, with_post}
use Rattle.rx_mailbox.specs.Settling.{GotAll}
use Rattle.test_threads.specs.Bodies.{bodies_of, all_of, after_all}

-- one more body
pub bodies_more : (start before after : Outgoing ℕ) (n : ℕ) → before ≡ outgoing start.box start.number (bodies_of start.number n) → after ≡ with_post before (Body n)
    → after ≡ outgoing start.box start.number (bodies_of start.number (n + 1))
bodies_more start before after n is more =
    more
    ∙ ap (λ p. with_post p (Body n)) is
    ∙ ap (λ l. outgoing start.box start.number l) (sym (map-range_with_len_more (λ body. letter start.number (Body body)) 0 n n (omega arith)))

-- the Bye after them
pub bodies_end : (start before after : Outgoing ℕ) (n count : ℕ) → n ≡ count → before ≡ outgoing start.box start.number (bodies_of start.number n) → after ≡ with_post before Bye → after ≡ after_all start count
bodies_end start before after n count same is ended =
    ended ∙ ap (λ p. with_post p Bye) is ∙ ap (λ k. after_all start k) same

-- of each port of a list of two, what was received is all that it put
pub both_got : (inbox settled : Incoming ℕ) (ports : List (Outgoing ℕ)) (first second : Outgoing ℕ) → ports ≡ first ∷ second ∷ [] → settled ≡ inbox → All (GotAll inbox) ports → GotAll settled first × GotAll settled second
both_got inbox settled ports first second is same got =
    let all = All-same (GotAll inbox) (first ∷ second ∷ []) ports (sym is) got in
    subst (λ (i : Incoming ℕ). GotAll i first × GotAll i second) (sym same) (all 0 first (omega arith), all 1 second (omega arith))

-- the share of a port that put all its bodies and was received whole
pub got_bodies : (settled : Incoming ℕ) (start port : Outgoing ℕ) (number count : ℕ) → start.number ≡ number → port ≡ after_all start count → GotAll settled port → share number settled.received ≡ all_of number count
got_bodies settled start port number count numbered is got =
    ap (λ k. share k settled.received) (sym (ap (λ (p : Outgoing ℕ). p.number) is ∙ numbered))
    ∙ got
    ∙ ap (λ (p : Outgoing ℕ). p.own) is
    ∙ ap (λ k. all_of k count) numbered
