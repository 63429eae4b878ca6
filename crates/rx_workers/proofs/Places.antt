-- The places of a worker's clients.
use Rattle.std.proofs.Common.{◌≡◌, ◌<◌, ℕ, zero, suc, Bool, true, false, List, [], ◌∷◌, ◌++◌, length, slice_set, Option, None, Some, is_none, true≢false, refl, sym, ap, subst, ◌∙◌, if◌then◌else◌}
use Rattle.std.proofs.lemmas.List.{get_or-set_same, get_or-set_other}
use Rattle.std.proofs.lemmas.List.Quantifiers.{position-Some}
use Rattle.std.specs.List.{All}
use Rattle.std.proofs.lemmas.List.Elements.{All-cons, All-head, All-nil, All-tail}
use Rattle.rx_workers.specs.Clients.{AreSameClients, IsQuiet, IsTalk, IsUnserved, Sets, client_at, first_vacant}
use Rattle.rx_workers.specs.declared.worker.client.Client.{Client}
use Rattle.rx_workers.specs.declared.worker.client.Client.TheVariants.{Talks}
use Rattle.rx_workers.specs.declared.worker.client.Talk.{Talk}

module _ {C W T : Type 0} where
  -- a vacant place more
  client_at-more : (place : ℕ) (clients : List (Option (Client C W T))) → client_at place (clients ++ None ∷ []) ≡ client_at place clients
  client_at-more zero [] = refl
  client_at-more (suc place) [] = refl
  client_at-more zero (x ∷ xs) = refl
  client_at-more (suc place) (x ∷ xs) = client_at-more place xs

  -- or none more
  pub client_at-pushed : (pushed : Bool) (before after : List (Option (Client C W T))) → after ≡ (if pushed then before ++ None ∷ [] else before) → AreSameClients before after
  client_at-pushed true before after is place = ap (λ (xs : List (Option (Client C W T))). client_at place xs) is ∙ client_at-more place before
  client_at-pushed false before after is place = ap (λ (xs : List (Option (Client C W T))). client_at place xs) is

  nobody : (client : Option (Client C W T)) → is_none client ≡ true → client ≡ None
  nobody None is = refl
  nobody (Some client) is = absurd (true≢false (sym is))

  -- the first vacant place is vacant
  pub vacant_there : (place : ℕ) (clients : List (Option (Client C W T))) → first_vacant clients ≡ Some place → (client_at place clients ≡ None) × (place < length clients)
  vacant_there place clients first =
      let at = position-Some is_none clients place None first in
      (nobody (client_at place clients) at.1, at.0)

  -- one place is set
  pub Sets-set : (place : ℕ) (before after : List (Option (Client C W T))) (client : Option (Client C W T)) → place < length before → after ≡ slice_set before place client
      → Sets place before after (client_at place before) client
  Sets-set place before after client within is = record {
    was_there = refl;
    is_there = ap (λ (xs : List (Option (Client C W T))). client_at place xs) is ∙ get_or-set_same before place client None within;
    others = λ other apart. ap (λ (xs : List (Option (Client C W T))). client_at other xs) is ∙ get_or-set_other before place other client None apart;
  }

  -- and then again
  pub Sets-then : (place : ℕ) (a b c : List (Option (Client C W T))) (x y z : Option (Client C W T)) → Sets place a b x y → Sets place b c (client_at place b) z → Sets place a c x z
  Sets-then place a b c x y z p q = record { was_there = p.was_there; is_there = q.is_there; others = λ other apart. q.others other apart ∙ p.others other apart }

  -- a place that was vacant is set
  pub Sets-vacant : (place : ℕ) (a b c : List (Option (Client C W T))) (x : Option (Client C W T)) → AreSameClients a b → client_at place b ≡ None → Sets place b c (client_at place b) x → Sets place a c None x
  Sets-vacant place a b c x same vacant q = record { was_there = sym (same place) ∙ vacant; is_there = q.is_there; others = λ other apart. q.others other apart ∙ same other }

  -- where a session stands one is under way
  pub is_talk : (client : Option (Client C W T)) (talk : Talk C W T) → client ≡ Some (Talks talk) → IsTalk client
  is_talk client talk is = subst (λ (c : Option (Client C W T)). IsTalk c) (sym is) tt

  -- and is not served to its end yet
  pub talk_unserved : (client : Option (Client C W T)) (talk : Talk C W T) → client ≡ Some (Talks talk) → IsUnserved client
  talk_unserved client talk is = subst (λ (c : Option (Client C W T)). IsUnserved c) (sym is) tt

  -- where all is served at these places, it is at any place
  pub quiet-places : (clients : List (Option (Client C W T))) → All (λ slot. ¬ IsUnserved slot) clients → IsQuiet clients
  quiet-places [] none zero = λ talks. talks
  quiet-places [] none (suc place) = λ talks. talks
  quiet-places (client ∷ clients) none zero = All-head (λ (slot : Option (Client C W T)). ¬ IsUnserved slot) client clients none
  quiet-places (client ∷ clients) none (suc place) = quiet-places clients (All-tail (λ (slot : Option (Client C W T)). ¬ IsUnserved slot) client clients none) place

  pub quiet-each : (clients : List (Option (Client C W T))) → IsQuiet clients → All (λ slot. ¬ IsUnserved slot) clients
  quiet-each [] quiet = All-nil (λ (slot : Option (Client C W T)). ¬ IsUnserved slot)
  quiet-each (client ∷ clients) quiet =
      All-cons (λ (slot : Option (Client C W T)). ¬ IsUnserved slot) client clients (quiet zero) (quiet-each clients (λ place. quiet (suc place)))
