-- What a session keeps of its desk.
use Rattle.std.proofs.Common.{◌≡◌, ℕ, Bool, true, false, List, [], ◌++◌, replicate, Option, None, Some, MatchOption, refl, sym, subst, ◌∙◌, zero, suc, inl, inr, arith}
use Rattle.std.proofs.KnownBytes.{Appends-nil}
use Rattle.std.proofs.lemmas.Bool.{cases_Bool, true≢false}
use Rattle.std.proofs.lemmas.List.{length-replicate}
use Rattle.rx_proto.specs.LineFeeds.{HasNoLf}
use Rattle.rx_note.specs.Choices.{Choice}
use Rattle.rx_note.specs.declared.note.Note.{Note}
use Rattle.rx_proto.specs.declared.response.Response.{Response}
use Rattle.rx_proto.specs.declared.response.Response.TheVariants.{Refused}
use Rattle.rx_proto.specs.declared.version.Version.{Version}
use Rattle.rx_proto.specs.declared.word.Word.TheVariants as words
use Rattle.rx_pump.specs.Desks.{DeskView, KeepsDesk}
use Rattle.rx_lines.specs.Feeds.{IsRest}
use Rattle.rx_session.specs.OpenSessions.{IsOpen}
use Rattle.rx_session.specs.Sessions.{Place}
use Rattle.rx_lines.specs.Steps.{unread}
use Rattle.rx_session.specs.Turns.{hands}
use Rattle.rx_session.specs.declared.follow.Follow.{Follow}
use Rattle.rx_session.specs.declared.follow.Follow.TheVariants.{Back}
use Rattle.rx_session.specs.declared.open_session.OpenSession.{OpenSession}
use Rattle.rx_session.specs.declared.turn.Turn.{Turn}
use Rattle.rx_session.proofs.ByTurns.{Through-begun}
use Rattle.rx_desk.specs.declared.client_sink.ClientSink.{ClientSink}
use Rattle.rx_desk.specs.SessionDesks.{SessionView, KeepsSession, place_of, emits, follows, EmitsAt, FollowsAt}
use Rattle.rx_workers.specs.Working.{TakesTurn, calls}
use Rattle.rx_workers.specs.declared.worker.client.Talk.{Talk}
use Rattle.rx_workers.proofs.Keeping.{sits_keeps}

module _ {S : Type 0} where
  -- nothing happened to a desk
  pub desk_keeps-same : (d : DeskView S) → KeepsDesk d d
  desk_keeps-same d = record { ports = refl; box = refl; count = refl; ended = refl }

  desk_keeps-then : (a b c : DeskView S) → KeepsDesk a b → KeepsDesk b c → KeepsDesk a c
  desk_keeps-then a b c p q = record { ports = q.ports ∙ p.ports; box = q.box ∙ p.box; count = q.count ∙ p.count; ended = q.ended ∙ p.ended }

module _ {M S : Type 0} where
  -- nothing happened
  pub keeps-same : (s : SessionView M S) → KeepsSession s s
  keeps-same s = record { subjects = refl; window = refl; calls = desk_keeps-same s.calls }

  -- one thing after another
  pub keeps-then : (a b c : SessionView M S) → KeepsSession a b → KeepsSession b c → KeepsSession a c
  keeps-then a b c p q = record { subjects = q.subjects ∙ p.subjects; window = q.window ∙ p.window; calls = desk_keeps-then a.calls b.calls c.calls p.calls q.calls }

  -- nothing changed
  pub keeps-equal : (a b : SessionView M S) → b ≡ a → KeepsSession a b
  keeps-equal a b e = subst (λ (x : SessionView M S). KeepsSession a x) (sym e) (keeps-same a)

-- in both cases
match_option : {X : Type 0} (o : Option X) (A : Type 0) (B : X → Type 0) (P : Type 0) → (A → P) → ((x : X) → B x → P) → MatchOption o A B → P
match_option None A B P none some m = none m
match_option (Some x) A B P none some m = some x m

module _ {M W : Type 0} (tells : M → ℕ → M → Type 0) where
  -- an Emit keeps the desk
  emit_keeps : (s : SessionView M (ClientSink W)) (name : List ℕ) (note : Note) (r : Response) (t : SessionView M (ClientSink W)) → emits tells s name note r t → KeepsSession s t
  emit_keeps s name note r t e =
      match_option (place_of name s.subjects) ((r ≡ Refused words.Subject) × (t ≡ s)) (EmitsAt tells s note r t) (KeepsSession s t)
      (λ x. keeps-equal s t x.1) (λ subject x. x.1.kept) e

  -- a Join keeps the desk
  follow_keeps : (s : SessionView M (ClientSink W)) (name : List ℕ) (policy : Choice) (version : Version) (writer : W) (f : Follow W) (t : SessionView M (ClientSink W))
      → follows tells s name policy version writer f t → KeepsSession s t
  follow_keeps s name policy version writer f t e =
      match_option (place_of name s.subjects) ((f ≡ Back (Refused words.Subject) writer) × (t ≡ s)) (FollowsAt tells s policy version writer f t) (KeepsSession s t)
      (λ x. keeps-equal s t x.1) (λ subject x. x.1.kept) e

-- bytes that are no LF
no_lfs : (count : ℕ) → HasNoLf (replicate count 120)
no_lfs zero = tt
no_lfs (suc count) = (λ (e : 120 ≡ 10). omega (arith, e), no_lfs count)

-- whatever is unread, something was read and not told
a_rest : (skips : Bool) (bytes : List ℕ) → (rest : List ℕ) × IsRest skips bytes rest
a_rest true bytes =
    let gone : List ℕ = replicate 1102 120 in
    (gone ++ bytes, record { gone = gone; kind = omega (arith, length-replicate {A = ℕ} 1102 120); passed = no_lfs 1102; parts = refl })
a_rest false bytes = (bytes, record { gone = []; kind = refl; passed = tt; parts = refl })

module _ {M C W : Type 0} (tells : M → ℕ → M → Type 0) (remaining : C → Option (List ℕ)) (contents : W → Option (List ℕ)) where
  -- a session that reads may stand anywhere
  stands_open : (desk : SessionView M (ClientSink W)) (writer : W) (version : Version) (held : List ℕ) (known : Option (List ℕ)) (quits skips : Bool) (bytes : List ℕ) → quits ≡ false
      → (rest : List ℕ) × IsOpen (calls tells remaining contents) (record { desk = desk; writer = writer; version = version; told = held }) rest known known (hands desk writer version held) quits skips bytes
  stands_open desk writer version held known true skips bytes is = absurd (true≢false is)
  stands_open desk writer version held known false skips bytes is =
      let at : Place (SessionView M (ClientSink W)) W = record { desk = desk; writer = writer; version = version; told = held } in
      let r = a_rest skips bytes in (
        r.0,
        record {
          at = at;
          rest = r.0;
          through = Through-begun (calls tells remaining contents) at known r.0;
          is_rest = r.1;
          is_at = record { desk_is = refl; version_is = refl; written = []; since = Appends-nil (contents writer); parts = refl };
        },
      )

  -- a turn keeps the desk
  pub turn_keeps : (result : Turn W) (talk : Talk C W OpenSession) (reader : C) (session_after : OpenSession) (before after : SessionView M (ClientSink W))
      → TakesTurn tells remaining contents result talk reader session_after before after → KeepsSession before after
  turn_keeps result talk reader session_after before after turn = elim (cases_Bool talk.session.value.quits) [
    | inl quits ↦ keeps-equal before after (turn.quits quits)
    | inr reads ↦
        let session = talk.session.value in
        let known = remaining talk.reader in
        let o = stands_open before talk.writer session.version session.outbox known session.quits session.feed.skips (unread session.feed.lines) reads in
        let start : Place (SessionView M (ClientSink W)) W = record { desk = before; writer = talk.writer; version = session.version; told = session.outbox } in
        sits_keeps (calls tells remaining contents) (λ (s : SessionView M (ClientSink W)). KeepsSession before s)
        (λ d name note r e by had. keeps-then before d e had (emit_keeps tells d name note r e by))
        (λ d name c v w f e by had. keeps-then before d e had (follow_keeps tells d name c v w f e by))
        result start o.0 known (remaining reader) after session_after (turn.sits start o.0 known o.1) (keeps-same before)
  ]
