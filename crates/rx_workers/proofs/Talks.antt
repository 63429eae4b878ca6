-- A session of any kind, among the clients of a worker, and a connection whose session has yet to begin.
use Rattle.std.proofs.Common.{◌≡◌, ◌⊎◌, ℕ, List, Option, None, Some, Bool, true, false, sym, subst, ◌∙◌, inl, inr, true≢false}
use Rattle.std.proofs.lemmas.Bool.{cases_eq}
use Rattle.rx_desk.specs.declared.joined.Joined.{Joined}
use Rattle.rx_session.specs.declared.turn.Turn.{Turn}
use Rattle.rx_session.specs.declared.turn.Turn.TheVariants.{Again, Waits, Stuck, Over}
use Rattle.rx_workers.specs.Clients.{AreSameClients, IsSilent, IsTalk, IsUnserved, Sets, client_at}
use Rattle.rx_workers.specs.Talks.{IsWaiting, Leaves, Starts, goes_at_once, silent}
use Rattle.rx_workers.specs.declared.worker.client.Client.{Client}
use Rattle.rx_workers.specs.declared.worker.client.Client.TheVariants.{Silent, Talks, Follows}
use Rattle.rx_workers.specs.declared.worker.client.Talk.{Talk}

module _ {C W T : Type 0} where
  -- something that is said of a session, said of a client
  abbrev OnTalk : (Talk C W T → Type 0) → Option (Client C W T) → Type 0
  OnTalk Q None = Unit {0}
  OnTalk Q (Some (Silent reader writer)) = Unit {0}
  OnTalk Q (Some (Talks talk)) = Q talk
  OnTalk Q (Some (Follows follower)) = Unit {0}

  -- the session at a place is one session
  pub one_talk : (Q : Talk C W T → Type 0) (client : Option (Client C W T)) (talk other : Talk C W T) → client ≡ Some (Talks talk) → client ≡ Some (Talks other) → Q talk → Q other
  one_talk Q client talk other is is_other had = subst (λ (c : Option (Client C W T)). OnTalk Q c) (sym is ∙ is_other) had

  -- a session is under way, or none is
  pub talks_or_not : (client : Option (Client C W T)) → IsTalk client ⊎ ¬ IsTalk client
  talks_or_not None = inr (λ no. no)
  talks_or_not (Some (Silent reader writer)) = inr (λ no. no)
  talks_or_not (Some (Talks talk)) = inl tt
  talks_or_not (Some (Follows follower)) = inr (λ no. no)

  -- where it goes on at once it still is
  pub talk_left : (result : Turn W) (reader : C) (session : T) (joined : Option Joined) (left : Option (Client C W T)) → goes_at_once result ≡ true
      → Leaves result reader session joined left → IsTalk left
  talk_left (Again writer) reader session joined left at_once leaves = subst (λ (c : Option (Client C W T)). IsTalk c) (sym leaves.1) tt
  talk_left (Waits writer) reader session joined left at_once leaves = absurd (true≢false (sym at_once))
  talk_left (Stuck writer) reader session joined left at_once leaves = absurd (true≢false (sym at_once))
  talk_left (Over end back) reader session joined left at_once leaves = absurd (true≢false (sym at_once))

  -- where a session is under way nobody else is
  pub no_talk : (client was : Option (Client C W T)) (talk : Talk C W T) → client ≡ was → ¬ IsTalk was → client ≡ Some (Talks talk) → ⊥
  no_talk client was talk is none is_talk = none (subst (λ (c : Option (Client C W T)). IsTalk c) (sym is_talk ∙ is) tt)

  -- what is so of a session is so of the one that began with a connection
  pub starts-as : (session : T) (begins : T → Type 0) (began : Bool) (place : ℕ) (connection : C × W) (before after : List (Option (Client C W T))) → begins session
      → Starts (λ (begun : T). begun ≡ session) began place connection before after → Starts begins began place connection before after
  starts-as session begins true place connection before after is (talk, begun, sets) =
      (talk, record { reader_is = begun.reader_is; writer_is = begun.writer_is; is_new = subst begins (sym begun.is_new) is; aim_is = begun.aim_is }, sets)
  starts-as session begins false place connection before after is sets = sets

  -- WHERE NOTHING CAME YET

  -- something that is said of a connection, said of a client
  abbrev OnSilent : (C × W → Type 0) → Option (Client C W T) → Type 0
  OnSilent Q None = Unit {0}
  OnSilent Q (Some (Silent reader writer)) = Q (reader, writer)
  OnSilent Q (Some (Talks talk)) = Unit {0}
  OnSilent Q (Some (Follows follower)) = Unit {0}

  -- the connection at a place is one connection
  one_silent : (Q : C × W → Type 0) (client : Option (Client C W T)) (connection other : C × W) → client ≡ silent connection → client ≡ silent other → Q connection → Q other
  one_silent Q client connection other is is_other had = subst (λ (c : Option (Client C W T)). OnSilent Q c) (sym is ∙ is_other) had

  -- where a connection is silent it is there, and has yet to be served
  pub is_silent : (client : Option (Client C W T)) (connection : C × W) → client ≡ silent connection → IsSilent client
  is_silent client connection is = subst (λ (c : Option (Client C W T)). IsSilent c) (sym is) tt

  pub is_unserved : (client : Option (Client C W T)) (connection : C × W) → client ≡ silent connection → IsUnserved client
  is_unserved client connection is = subst (λ (c : Option (Client C W T)). IsUnserved c) (sym is) tt

  -- it waits where it did: nobody went
  pub waits_same : (before after : List (Option (Client C W T))) (connection : C × W) → AreSameClients before after → IsWaiting before connection → IsWaiting after connection
  waits_same before after connection same waits = (waits.0, same waits.0 ∙ waits.1)

  -- or another client is now, or none, where none was silent
  pub waits_beside : (place : ℕ) (before after : List (Option (Client C W T))) (was is : Option (Client C W T)) (connection : C × W)
      → Sets place before after was is → ¬ IsSilent was → IsWaiting before connection → IsWaiting after connection
  waits_beside place before after was is connection sets none waits = elim (cases_eq waits.0 place) [
    | inl here ↦
        let there : client_at place before ≡ silent connection = subst (λ (n : ℕ). client_at n before ≡ silent connection) here waits.1 in
        absurd (none (is_silent was connection (sym sets.was_there ∙ there)))
    | inr else ↦ (waits.0, sets.others waits.0 else ∙ waits.1)
  ]

  -- or it is the one that was there, of which something is said
  pub waits_or : (Q : C × W → Type 0) (place : ℕ) (before after : List (Option (Client C W T))) (one : C × W) (is : Option (Client C W T)) (connection : C × W)
      → Sets place before after (silent one) is → Q one → IsWaiting before connection → IsWaiting after connection ⊎ Q connection
  waits_or Q place before after one is connection sets so waits = elim (cases_eq waits.0 place) [
    | inl here ↦
        let there : client_at place before ≡ silent connection = subst (λ (n : ℕ). client_at n before ≡ silent connection) here waits.1 in
        inr (one_silent Q (client_at place before) one connection sets.was_there there so)
    | inr else ↦ inl (waits.0, sets.others waits.0 else ∙ waits.1)
  ]
