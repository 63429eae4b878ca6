-- The turns of one session among others.
use Rattle.std.proofs.Common.{◌≡◌, ℕ, Bool, true, false, List, [], ◌∷◌, ◌++◌, Option, Result, Ok, Err, refl, sym, ap, subst, ◌∙◌, append_assoc, inl, inr}
use Rattle.std.proofs.KnownBytes.{Consumes-trans}
use Rattle.rx_proto.specs.Reading.{session_read}
use Rattle.rx_proto.specs.declared.command.Command.{Command}
use Rattle.rx_proto.specs.declared.command.Command.TheVariants.{Pub, End, Fail, Sub, Hello, Quit}
use Rattle.rx_proto.specs.declared.line_error.BadLine.{BadLine}
use Rattle.rx_proto.specs.declared.response.Response.TheVariants.{Done}
use Rattle.rx_proto.specs.declared.version.Version.{Version}
use Rattle.rx_session.specs.Among.{among, moved}
use Rattle.rx_lines.specs.Lines.{lines_of}
use Rattle.rx_session.specs.OpenSessions.{Reaches, Through, IsOpen, IsOver, Sits, Sitting}
use Rattle.rx_session.specs.Sessions.{Parties, Place, Outcome, Goes, Closes, Faults, Stops, Serves, answered, end_of}
use Rattle.rx_lines.specs.Steps.{unread}
use Rattle.rx_session.specs.Turns.{hands, IsAt}
use Rattle.rx_lines.specs.declared.input_end.InputEnd.{InputEnd}
use Rattle.rx_session.specs.declared.open_session.OpenSession.{OpenSession}
use Rattle.rx_session.specs.declared.session_end.SessionEnd.{SessionEnd}
use Rattle.rx_session.specs.declared.session_end.SessionEnd.TheVariants as ends
use Rattle.rx_session.specs.declared.turn.Turn.{Turn}
use Rattle.rx_session.specs.declared.turn.Turn.TheVariants as turns
use Rattle.rx_session.proofs.ByTurns.{Through-begun, serves_on}

module _ {D W : Type 0} (p : Parties D W) where
  -- the same outcome at another desk
  abbrev out_at : Outcome D W → D → Outcome D W
  out_at out desk = record out { desk = desk }

  -- a line after which the session goes on
  goes_among : (reading : Result Command BadLine) (at after : Place D W) (d : D) → Goes p reading at after → (d' : D) × Goes (among p) reading (moved at d) (moved after d')
  goes_among (Ok (Pub name text)) at after d (inl e) = (e.1, inl (e.0, e.1, (at.desk, e.2), ap (λ (a : Place D W). moved a e.1) e.3))
  goes_among (Ok (Pub name text)) at after d (inr l) = (d, inr ((at.desk, l.0), ap (λ (a : Place D W). moved a d) l.1))
  goes_among (Ok (End name)) at after d e = (e.1, (e.0, e.1, (at.desk, e.2), ap (λ (a : Place D W). moved a e.1) e.3))
  goes_among (Ok (Fail name text)) at after d (inl e) = (e.1, inl (e.0, e.1, (at.desk, e.2), ap (λ (a : Place D W). moved a e.1) e.3))
  goes_among (Ok (Fail name text)) at after d (inr l) = (d, inr ((at.desk, l.0), ap (λ (a : Place D W). moved a d) l.1))
  goes_among (Ok (Sub name policy)) at after d c = (after.desk, (c.0, c.1, c.2, (at.desk, c.3), c.4, c.5))
  goes_among (Ok (Hello number)) at after d e = (d, ap (λ (a : Place D W). moved a d) e)
  goes_among (Ok Quit) at after d c = absurd c
  goes_among (Err fault) at after d e = (d, ap (λ (a : Place D W). moved a d) e)

  -- the writer has all
  closes_among : (end : SessionEnd) (at : Place D W) (d : D) (out : Outcome D W) → Closes p end at out → Closes (among p) end (moved at d) (out_at out d)
  closes_among end at d out (writer, caught, same) = (writer, caught, ap (λ (o : Outcome D W). out_at o d) same)

  -- the writer faulted
  faults_among : (at : Place D W) (d : D) (out : Outcome D W) → Faults p at out → Faults (among p) (moved at d) (out_at out d)
  faults_among at d out (writer, front, same) = (writer, front, ap (λ (o : Outcome D W). out_at o d) same)

  -- a line that ends the session
  stops_among : (reading : Result Command BadLine) (at : Place D W) (d : D) (out : Outcome D W) → Stops p reading at out → (d' : D) × Stops (among p) reading (moved at d) (out_at out d')
  stops_among (Ok (Pub name text)) at d out s = absurd s
  stops_among (Ok (End name)) at d out s = absurd s
  stops_among (Ok (Fail name text)) at d out s = absurd s
  stops_among (Ok (Sub name policy)) at d out (writer, desk, caught, follows, same) = (desk, (writer, desk, caught, (at.desk, follows), ap (λ (o : Outcome D W). out_at o desk) same))
  stops_among (Ok (Hello number)) at d out s = absurd s
  stops_among (Ok Quit) at d out (inl closes) = (d, inl (closes_among ends.Quit (answered at at.desk Done) d out closes))
  stops_among (Ok Quit) at d out (inr faults) = (d, inr (faults_among (answered at at.desk Done) d out faults))
  stops_among (Err fault) at d out s = absurd s

  -- lines after which the session goes on
  reaches_among : (lines : List (List ℕ)) (at last : Place D W) (d : D) → Reaches p at lines last → (d' : D) × Reaches (among p) (moved at d) lines (moved last d')
  reaches_among [] at last d r = (d, ap (λ (a : Place D W). moved a d) r)
  reaches_among (line ∷ lines) at last d r =
      let one = goes_among (session_read line) at r.0 d r.1 in
      let more = reaches_among lines r.0 last one.0 r.2 in
      (more.0, (moved r.0 one.0, one.1, more.1))

  -- the lines to the end
  serves_among : (left : Option (List ℕ)) (input : Option InputEnd) (lines : List (List ℕ)) (at : Place D W) (d : D) (out : Outcome D W)
      → Serves p left input at lines out → (d' : D) × Serves (among p) left input (moved at d) lines (out_at out d')
  serves_among left input [] at d out (inl faults) = (d, inl (faults_among at d out faults))
  serves_among left input [] at d out (inr (end, is, is_left, closes)) = (d, inr (end, is, is_left, closes_among (end_of end) at d out closes))
  serves_among left input (line ∷ lines) at d out (inl faults) = (d, inl (faults_among at d out faults))
  serves_among left input (line ∷ lines) at d out (inr (inl stops)) = let s = stops_among (session_read line) at d out stops in (s.0, inr (inl s.1))
  serves_among left input (line ∷ lines) at d out (inr (inr (after, goes, serves))) =
      let one = goes_among (session_read line) at after d goes in
      let more = serves_among left input lines after one.0 out serves in
      (more.0, inr (inr (moved after one.0, one.1, more.1)))

  -- lines behind lines
  reaches_then : (q : Parties D W) (first then : List (List ℕ)) (start at last : Place D W) → Reaches q start first at → Reaches q at then last → Reaches q start (first ++ then) last
  reaches_then q [] then start at last r s = subst (λ (a : Place D W). Reaches q a then last) r s
  reaches_then q (line ∷ first) then start at last r s = (r.0, r.1, reaches_then q first then r.0 at last r.2 s)

  -- from where the session came, at the desk as others left it, it went on
  Through-then : (start : Place D W) (first : List ℕ) (read_old read_now read_new : Option (List ℕ)) (at last : Place D W) (rest rest_after : List ℕ) (desk : D)
      → Through (among p) start first read_old read_now at rest → Through p (moved at desk) rest read_now read_new last rest_after
      → (d' : D) × Through (among p) start first read_old read_new (moved last d') rest_after
  Through-then start first read_old read_now read_new at last rest rest_after desk s t =
      let went = reaches_among t.lines (moved at desk) last at.desk t.reached in (
        went.0,
        record {
          read = s.read ++ t.read;
          consumed = Consumes-trans read_old read_now read_new s.read t.read s.consumed t.consumed;
          lines = s.lines ++ t.lines;
          told = λ more.
              ap (λ bytes. lines_of (bytes ++ more)) (sym (append_assoc first s.read t.read)) ∙ ap lines_of (append_assoc (first ++ s.read) t.read more) ∙ s.told (t.read ++ more)
              ∙ ap (λ bytes. s.lines ++ lines_of bytes) (sym (append_assoc rest t.read more)) ∙ ap (λ ls. s.lines ++ ls) (t.told more)
              ∙ sym (append_assoc s.lines t.lines (lines_of (rest_after ++ more)));
          reached = reaches_then (among p) s.lines t.lines start at (moved last went.0) s.reached went.1;
        },
      )

  -- it stands there as well, whatever the desk
  IsAt-among : (at : Place D W) (desk d : D) (writer : W) (version : Version) (held : List ℕ) → IsAt p at (hands desk writer version held) → IsAt (among p) (moved at d) (hands d writer version held)
  IsAt-among at desk d writer version held is = record { desk_is = refl; version_is = is.version_is; written = is.written; since = is.since; parts = is.parts }

  -- and the other way round
  IsAt-moved : (at : Place D W) (then desk : D) (writer : W) (version : Version) (held : List ℕ) → IsAt (among p) at (hands then writer version held) → IsAt p (moved at desk) (hands desk writer version held)
  IsAt-moved at then desk writer version held is = record { desk_is = refl; version_is = is.version_is; written = is.written; since = is.since; parts = is.parts }

  -- it is under way behind one turn more
  IsOpen-then : (start : Place D W) (first : List ℕ) (read_old read_now read_new : Option (List ℕ)) (at : Place D W) (rest : List ℕ) (desk desk_after : D) (writer : W) (version : Version) (held : List ℕ) (quits skips : Bool) (unread : List ℕ)
      → Through (among p) start first read_old read_now at rest → IsOpen p (moved at desk) rest read_now read_new (hands desk_after writer version held) quits skips unread
      → (d' : D) × IsOpen (among p) start first read_old read_new (hands d' writer version held) quits skips unread
  IsOpen-then start first read_old read_now read_new at rest desk desk_after writer version held false skips unread s l =
      let t = Through-then start first read_old read_now read_new at l.at rest l.rest desk s l.through in
      (t.0, record { at = moved l.at t.0; rest = l.rest; through = t.1; is_rest = l.is_rest; is_at = IsAt-among l.at desk_after t.0 writer version held l.is_at })
  IsOpen-then start first read_old read_now read_new at rest desk desk_after writer version held true skips unread s l =
      let t = Through-then start first read_old read_now read_new at l.at rest l.rest desk s l.through in (
        t.0,
        record {
          at = moved l.at t.0;
          rest = l.rest;
          through = t.1;
          line = l.line;
          left = l.left;
          begins = l.begins;
          quits = l.quits;
          is_at = IsAt-among (answered l.at l.at.desk Done) desk_after t.0 writer version held l.is_at;
        },
      )

  -- it is over behind one turn more
  IsOver-then : (start : Place D W) (first : List ℕ) (read_old read_now read_new : Option (List ℕ)) (at : Place D W) (rest : List ℕ) (desk : D) (out : Outcome D W)
      → Through (among p) start first read_old read_now at rest → IsOver p (moved at desk) rest read_now read_new out
      → (d' : D) × IsOver (among p) start first read_old read_new (out_at out d')
  IsOver-then start first read_old read_now read_new at rest desk out s o =
      let served = serves_among read_new o.input (lines_of (rest ++ o.read)) (moved at desk) at.desk out o.served in
      let told : lines_of (first ++ (s.read ++ o.read)) ≡ s.lines ++ lines_of (rest ++ o.read) = ap lines_of (sym (append_assoc first s.read o.read)) ∙ s.told o.read in (
        served.0,
        record {
          input = o.input;
          read = s.read ++ o.read;
          consumed = Consumes-trans read_old read_now read_new s.read o.read s.consumed o.consumed;
          served = subst (λ (ls : List (List ℕ)). Serves (among p) read_new o.input start ls (out_at out served.0)) (sym told)
              (serves_on (among p) read_new o.input start at s.lines (lines_of (rest ++ o.read)) (out_at out served.0) s.reached served.1);
        },
      )

  -- what a turn more came to
  Sits-then : (start : Place D W) (first : List ℕ) (read_old read_now read_new : Option (List ℕ)) (at : Place D W) (rest : List ℕ) (desk desk_after : D) (session : OpenSession) (result : Turn W)
      → Through (among p) start first read_old read_now at rest → Sits p result (moved at desk) rest read_now read_new desk_after session
      → (d' : D) × Sits (among p) result start first read_old read_new d' session
  Sits-then start first read_old read_now read_new at rest desk desk_after session (turns.Again writer) s t =
      IsOpen-then start first read_old read_now read_new at rest desk desk_after writer session.version session.outbox session.quits session.feed.skips (unread session.feed.lines) s t
  Sits-then start first read_old read_now read_new at rest desk desk_after session (turns.Waits writer) s t =
      IsOpen-then start first read_old read_now read_new at rest desk desk_after writer session.version session.outbox session.quits session.feed.skips (unread session.feed.lines) s t
  Sits-then start first read_old read_now read_new at rest desk desk_after session (turns.Stuck writer) s t =
      IsOpen-then start first read_old read_now read_new at rest desk desk_after writer session.version session.outbox session.quits session.feed.skips (unread session.feed.lines) s t
  Sits-then start first read_old read_now read_new at rest desk desk_after session (turns.Over end back) s t =
      IsOver-then start first read_old read_now read_new at rest desk (record { end = end; desk = desk_after; back = back }) s t

  -- a turn may begin wherever the session stands
  may_turn : (start : Place D W) (first : List ℕ) (read_old read_now : Option (List ℕ)) (then desk : D) (writer : W) (version : Version) (held : List ℕ) (quits skips : Bool) (unread : List ℕ)
      → IsOpen (among p) start first read_old read_now (hands then writer version held) quits skips unread
      → (at : Place D W) × (rest : List ℕ) × Through (among p) start first read_old read_now at rest × IsOpen p (moved at desk) rest read_now read_now (hands desk writer version held) quits skips unread
  may_turn start first read_old read_now then desk writer version held false skips unread l = (
    l.at,
    l.rest,
    l.through,
    record { at = moved l.at desk; rest = l.rest; through = Through-begun p (moved l.at desk) read_now l.rest; is_rest = l.is_rest; is_at = IsAt-moved l.at then desk writer version held l.is_at },
  )
  may_turn start first read_old read_now then desk writer version held true skips unread l = (
    l.at,
    l.rest,
    l.through,
    record {
      at = moved l.at desk;
      rest = l.rest;
      through = Through-begun p (moved l.at desk) read_now l.rest;
      line = l.line;
      left = l.left;
      begins = l.begins;
      quits = l.quits;
      is_at = IsAt-moved (answered l.at l.at.desk Done) then desk writer version held l.is_at;
    },
  )

  -- THE TURNS OF ONE SESSION: one turn more, from where it stood, at the desk as others left it
  pub Sitting-then : (start : Place D W) (first : List ℕ) (read_old read_now read_new : Option (List ℕ)) (then desk desk_after : D) (writer : W) (session session_after : OpenSession) (result : Turn W)
      → Sitting (among p) start first read_old read_now then writer session
      → ((from : Place D W) (bytes : List ℕ) (known : Option (List ℕ)) → Sitting p from bytes known read_now desk writer session → Sits p result from bytes known read_new desk_after session_after)
      → (now : D) × Sits (among p) result start first read_old read_new now session_after
  Sitting-then start first read_old read_now read_new then desk desk_after writer session session_after result sitting turn =
      let m = may_turn start first read_old read_now then desk writer session.version session.outbox session.quits session.feed.skips (unread session.feed.lines) sitting in
      Sits-then start first read_old read_now read_new m.0 m.1 desk desk_after session_after result m.2 (turn (moved m.0 desk) m.1 read_now m.3)
