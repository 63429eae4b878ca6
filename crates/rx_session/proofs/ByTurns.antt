-- A session turn by turn.
use Rattle.std.proofs.Common.{◌≡◌, ℕ, Bool, true, false, List, [], ◌∷◌, ◌++◌, Option, None, Some, Result, Ok, refl, sym, ap, subst, ◌∙◌, append_assoc, append-nil, inl, inr}
use Rattle.std.proofs.lemmas.Bool.{false≢true}
use Rattle.std.proofs.KnownBytes.{Appends-trans, Appends-nil, Consumes-trans, Consumes-nil, Consumes-kept}
use Rattle.std.specs.Io.KnownBytes.{Appends, Consumes, Keeps}
use Rattle.rx_proto.specs.Printing.{reply_line}
use Rattle.rx_proto.specs.Reading.{session_read}
use Rattle.rx_proto.specs.declared.command.Command.{Command}
use Rattle.rx_proto.specs.declared.command.Command.TheVariants.{Quit}
use Rattle.rx_proto.specs.declared.line_error.BadLine.{BadLine}
use Rattle.rx_proto.specs.declared.response.Response.TheVariants.{Done}
use Rattle.rx_proto.specs.declared.version.Version.{Version}
use Rattle.rx_lines.specs.Bytes.{Holds, Loses}
use Rattle.rx_lines.specs.Feeds.{IsRest, Comes}
use Rattle.rx_lines.specs.Lines.{BeginsWithLine, lines_of, without_cr}
use Rattle.rx_session.specs.Sessions.{Parties, Place, Outcome, Serves, Session, Goes, Faults, Closes, Stops, answered, end_of}
use Rattle.rx_session.specs.OpenSessions.{Sends, Reaches, Through, Listens, Leaves, IsOpen, IsOver, CarriesOut, IsNew, first_place, Sitting, Carried, Sits}
use Rattle.rx_lines.specs.Steps.{unread}
use Rattle.rx_session.specs.Turns.{Hands, hands, IsAt, Tells, Ends}
use Rattle.rx_lines.specs.declared.came.Came.TheVariants.{Bytes, Nothing, End}
use Rattle.rx_lines.specs.declared.feed.Feed.{Feed}
use Rattle.rx_lines.specs.declared.input_end.InputEnd.{InputEnd}
use Rattle.rx_session.specs.declared.open_session.OpenSession.{OpenSession}
use Rattle.rx_session.specs.declared.whole_session.Turned.{Turned}
use Rattle.rx_session.specs.declared.whole_session.Turned.TheVariants.{On, Over}
use Rattle.rx_session.specs.declared.session_end.SessionEnd.{SessionEnd}
use Rattle.rx_session.specs.declared.session_end.SessionEnd.TheVariants as ends
use Rattle.rx_session.specs.declared.turn.Turn.{Turn}
use Rattle.rx_session.specs.declared.turn.Turn.TheVariants as turns
use Rattle.rx_session.proofs.Answering.{told}
use Rattle.rx_lines.proofs.Feeding.{IsRest-plain}
use Rattle.rx_lines.proofs.LinesOf.{lines_of-first, lines_of-none, BeginsWithLine-more}
use Rattle.rx_session.proofs.SoFar.{Serves-ends, Serves-fault}
use Rattle.rx_proto.proofs.Writes.{Prefix-behind}
use Rattle.rx_proto.specs.Bytes.{AppendsPrefix}

-- known bytes that are the same are kept
Keeps-same : (known : Option (List ℕ)) → Keeps known known
Keeps-same None = tt
Keeps-same (Some xs) = refl

module _ {D W : Type 0} (p : Parties D W) where
  -- from where it came to, the session goes on as from the start
  pub serves_on : (left : Option (List ℕ)) (input : Option InputEnd) (start at : Place D W) (lines more : List (List ℕ)) (out : Outcome D W)
      → Reaches p start lines at → Serves p left input at more out → Serves p left input start (lines ++ more) out
  serves_on left input start at [] more out reached serves = subst (λ (a : Place D W). Serves p left input a more out) reached serves
  serves_on left input start at (line ∷ lines) more out reached serves =
      inr (inr (reached.0, reached.1, serves_on left input reached.0 at lines more out reached.2 serves))

  -- one line more
  pub reaches_one : (start at after : Place D W) (lines : List (List ℕ)) (line : List ℕ) → Reaches p start lines at → Goes p (session_read line) at after
      → Reaches p start (lines ++ line ∷ []) after
  reaches_one start at after [] line reached goes = (after, subst (λ (a : Place D W). Goes p (session_read line) a after) reached goes, refl)
  reaches_one start at after (l ∷ lines) line reached goes = (reached.0, reached.1, reaches_one reached.0 at after lines line reached.2 goes)

  -- it begins anywhere
  pub Through-begun : (at : Place D W) (known : Option (List ℕ)) (rest : List ℕ) → Through p at rest known known at rest
  Through-begun at known rest =
      record { read = []; consumed = Consumes-nil known; lines = []; told = λ more. ap (λ bytes. lines_of (bytes ++ more)) (append-nil rest); reached = refl }

  -- more bytes were read
  Through-read : (start : Place D W) (first : List ℕ) (read_old read_now read_new : Option (List ℕ)) (at : Place D W) (rest read : List ℕ)
      → Through p start first read_old read_now at rest → Consumes read_now read_new read → Through p start first read_old read_new at (rest ++ read)
  Through-read start first read_old read_now read_new at rest read t told = record {
    read = t.read ++ read;
    consumed = Consumes-trans read_old read_now read_new t.read read t.consumed told;
    lines = t.lines;
    told = λ more.
        ap (λ bytes. lines_of (bytes ++ more)) (sym (append_assoc first t.read read)) ∙ ap lines_of (append_assoc (first ++ t.read) read more) ∙ t.told (read ++ more) ∙ ap (λ bytes. t.lines ++ lines_of bytes) (sym (append_assoc rest read more));
    reached = t.reached;
  }

  -- the reader kept its bytes
  Through-kept : (start : Place D W) (first : List ℕ) (read_old read_now read_new : Option (List ℕ)) (at : Place D W) (rest : List ℕ)
      → Through p start first read_old read_now at rest → Keeps read_now read_new → Through p start first read_old read_new at rest
  Through-kept start first read_old read_now read_new at rest t kept =
      record { read = t.read; consumed = Consumes-kept read_old read_now read_new t.read t.consumed kept; lines = t.lines; told = t.told; reached = t.reached }

  -- a line was carried out, and the session goes on
  pub Through-line : (start : Place D W) (first : List ℕ) (read_old read_now : Option (List ℕ)) (at place : Place D W) (rest line left : List ℕ)
      → Through p start first read_old read_now at rest → BeginsWithLine rest line left → Goes p (session_read (without_cr line)) at place
      → Through p start first read_old read_now place left
  Through-line start first read_old read_now at place rest line left t begins goes = record {
    read = t.read;
    consumed = t.consumed;
    lines = t.lines ++ without_cr line ∷ [];
    told = λ more.
        t.told more ∙ ap (λ ls. t.lines ++ ls) (lines_of-first (rest ++ more) line (left ++ more) (BeginsWithLine-more rest line left more begins))
        ∙ sym (append_assoc t.lines (without_cr line ∷ []) (lines_of (left ++ more)));
    reached = reaches_one start at place t.lines (without_cr line) t.reached goes;
  }

  -- a session that ended by what comes behind the lines that were carried out
  over : (start : Place D W) (first : List ℕ) (read_old read_now read_new : Option (List ℕ)) (input : Option InputEnd) (at : Place D W) (rest : List ℕ) (out : Outcome D W)
      → Through p start first read_old read_now at rest → Keeps read_now read_new → Serves p read_new input at (lines_of rest) out
      → IsOver p start first read_old read_new out
  over start first read_old read_now read_new input at rest out t kept serves = record {
    input = input;
    read = t.read;
    consumed = Consumes-kept read_old read_now read_new t.read t.consumed kept;
    served =
        subst (λ (bytes : List ℕ). Serves p read_new input start (lines_of bytes) out) (append-nil (first ++ t.read))
        (subst (λ (ls : List (List ℕ)). Serves p read_new input start ls out) (sym (t.told []))
        (serves_on read_new input start at t.lines (lines_of (rest ++ [])) out t.reached
        (subst (λ (bytes : List ℕ). Serves p read_new input at (lines_of bytes) out) (sym (append-nil rest)) serves)));
  }

  -- it ended by the first line of the rest
  over_line : (start : Place D W) (first : List ℕ) (read_old read_now : Option (List ℕ)) (at : Place D W) (rest line left : List ℕ) (out : Outcome D W)
      → Through p start first read_old read_now at rest → BeginsWithLine rest line left → Ends p (session_read (without_cr line)) at out
      → IsOver p start first read_old read_now out
  over_line start first read_old read_now at rest line left out t begins ends_by =
      over start first read_old read_now read_now None at rest out t (Keeps-same read_now)
      (subst (λ (ls : List (List ℕ)). Serves p read_now None at ls out) (sym (lines_of-first rest line left begins))
      (Serves-ends p read_now None at (without_cr line) (lines_of left) out ends_by))

  -- it ended where it had read QUIT
  over_quit : (start : Place D W) (first : List ℕ) (read_old read_now : Option (List ℕ)) (now : Hands D W) (out : Outcome D W) (l : Leaves p start first read_old read_now now)
      → Stops p (Ok Quit) l.at out → IsOver p start first read_old read_now out
  over_quit start first read_old read_now now out l stops =
      over_line start first read_old read_now l.at l.rest l.line l.left out l.through l.begins
      (inr (inl (subst (λ (r : Result Command BadLine). Stops p r l.at out) (sym l.quits) stops)))

  -- the session stands where it stood, once a front of what was held is written
  IsAt-put : (at : Place D W) (desk : D) (writer after : W) (version : Version) (held held_after : List ℕ) → IsAt p at (hands desk writer version held)
      → Holds held held_after (p.contents writer) (p.contents after) [] → IsAt p at (hands desk after version held_after)
  IsAt-put at desk writer after version held held_after is holds = record {
    desk_is = is.desk_is;
    version_is = is.version_is;
    written = is.written ++ holds.written;
    since = Appends-trans (p.contents at.writer) (p.contents writer) (p.contents after) is.written holds.written is.since holds.told;
    parts = append_assoc is.written holds.written held_after ∙ ap (λ xs. is.written ++ xs) (holds.parts ∙ append-nil held) ∙ is.parts;
  }

  -- a line ended the session
  line_ends : (quits : Bool) (reading : Result Command BadLine) (at : Place D W) (end : SessionEnd) (back : Option W) (desk : D) (version : Version) (held : List ℕ)
      → CarriesOut p quits reading at (Over end back) desk version held → Ends p reading at (record { end = end; desk = desk; back = back })
  line_ends false reading at end back desk version held carries = carries
  line_ends true reading at end back desk version held carries =
      let out : Outcome D W = record { end = end; desk = desk; back = back } in
      let faults : Faults p (answered at at.desk Done) out = subst (λ (after : Place D W). Faults p after out) carries.1.1 carries.1.2 in
      inr (inl (subst (λ (r : Result Command BadLine). Stops p r at out) (sym carries.0) (inr faults)))

  -- the first line of the rest was carried out, and the session goes on
  line_open : (start : Place D W) (first : List ℕ) (read_old read_now : Option (List ℕ)) (at : Place D W) (rest line left : List ℕ) (quits skips : Bool) (unread : List ℕ) (writer : W) (desk : D) (version : Version) (held : List ℕ)
      → Through p start first read_old read_now at rest → BeginsWithLine rest line left → IsRest skips unread left
      → CarriesOut p quits (session_read (without_cr line)) at (On writer) desk version held → IsOpen p start first read_old read_now (hands desk writer version held) quits skips unread
  line_open start first read_old read_now at rest line left false skips unread writer desk version held t begins is carries =
      record { at = carries.0; rest = left; through = Through-line start first read_old read_now at carries.0 rest line left t begins carries.1; is_rest = is; is_at = carries.2 }
  line_open start first read_old read_now at rest line left true skips unread writer desk version held t begins is carries = record {
    at = at;
    rest = rest;
    through = t;
    line = line;
    left = left;
    begins = begins;
    quits = carries.0;
    is_at = subst (λ (after : Place D W). IsAt p after (hands desk writer version held)) carries.1.1 carries.1.2;
  }

  -- the line that a step told was carried out
  pub line_on : (start : Place D W) (first : List ℕ) (read_old read_now : Option (List ℕ)) (at : Place D W) (rest line left : List ℕ) (result : Turned W) (desk : D) (session : OpenSession)
      → Through p start first read_old read_now at rest → BeginsWithLine rest line left → IsRest session.feed.skips (unread session.feed.lines) left
      → CarriesOut p session.quits (session_read (without_cr line)) at result desk session.version session.outbox → Carried p result start first read_old read_now desk session
  line_on start first read_old read_now at rest line left (On writer) desk session t begins is carries =
      line_open start first read_old read_now at rest line left session.quits session.feed.skips (unread session.feed.lines) writer desk session.version session.outbox t begins is carries
  line_on start first read_old read_now at rest line left (Over end back) desk session t begins is carries =
      over_line start first read_old read_now at rest line left (record { end = end; desk = desk; back = back }) t begins
      (line_ends session.quits (session_read (without_cr line)) at end back desk session.version session.outbox carries)

  -- it goes on as long as it has read no QUIT
  pub listens : (start : Place D W) (first : List ℕ) (read_old read_now : Option (List ℕ)) (now : Hands D W) (quits skips : Bool) (unread : List ℕ) → quits ≡ false
      → IsOpen p start first read_old read_now now quits skips unread → Listens p start first read_old read_now now skips unread
  listens start first read_old read_now now quits skips unread is begun = subst (λ (q : Bool). IsOpen p start first read_old read_now now q skips unread) is begun

  -- and what goes on has read none
  listening : (start : Place D W) (first : List ℕ) (read_old read_now : Option (List ℕ)) (now : Hands D W) (quits skips : Bool) (unread : List ℕ) → quits ≡ false
      → Listens p start first read_old read_now now skips unread → IsOpen p start first read_old read_now now quits skips unread
  listening start first read_old read_now now quits skips unread is s = subst (λ (q : Bool). IsOpen p start first read_old read_now now q skips unread) (sym is) s

  -- what was held was written, or a front of it
  IsOpen-put : (start : Place D W) (first : List ℕ) (read_old read_now : Option (List ℕ)) (desk : D) (writer after : W) (version : Version) (held held_after : List ℕ) (quits skips : Bool) (unread : List ℕ)
      → IsOpen p start first read_old read_now (hands desk writer version held) quits skips unread → Holds held held_after (p.contents writer) (p.contents after) []
      → IsOpen p start first read_old read_now (hands desk after version held_after) quits skips unread
  IsOpen-put start first read_old read_now desk writer after version held held_after false skips unread s holds =
      record { at = s.at; rest = s.rest; through = s.through; is_rest = s.is_rest; is_at = IsAt-put s.at desk writer after version held held_after s.is_at holds }
  IsOpen-put start first read_old read_now desk writer after version held held_after true skips unread l holds = record {
    at = l.at;
    rest = l.rest;
    through = l.through;
    line = l.line;
    left = l.left;
    begins = l.begins;
    quits = l.quits;
    is_at = IsAt-put (answered l.at l.at.desk Done) desk writer after version held held_after l.is_at holds;
  }

  -- the writer faulted where the session stood
  faulted : (at : Place D W) (desk : D) (writer after : W) (version : Version) (held held_after : List ℕ) → IsAt p at (hands desk writer version held)
      → Loses held held_after (p.contents writer) (p.contents after) [] → Faults p at (record { end = ends.WriteFault; desk = desk; back = Some after })
  faulted at desk writer after version held held_after is loses =
      let front : AppendsPrefix (p.contents writer) (p.contents after) held =
      subst (λ (xs : List ℕ). AppendsPrefix (p.contents writer) (p.contents after) xs) (append-nil held) loses.written in (
        after,
        subst (λ (xs : List ℕ). AppendsPrefix (p.contents at.writer) (p.contents after) xs) is.parts
            (Prefix-behind (p.contents at.writer) (p.contents writer) (p.contents after) is.written held is.since front),
        ap (λ (d : D). record { end = ends.WriteFault; desk = d; back = Some after }) (sym is.desk_is),
      )

  -- the writer has all where nothing is held
  closed : (at : Place D W) (desk : D) (writer : W) (version : Version) (held : List ℕ) (end : SessionEnd) → IsAt p at (hands desk writer version held) → held ≡ []
      → Closes p end at (record { end = end; desk = desk; back = Some writer })
  closed at desk writer version held end is nothing =
      let told : is.written ≡ at.told = sym (append-nil is.written) ∙ ap (λ xs. is.written ++ xs) (sym nothing) ∙ is.parts in (
        writer,
        subst (λ (xs : List ℕ). Appends (p.contents at.writer) (p.contents writer) xs) told is.since,
        ap (λ (d : D). record { end = end; desk = d; back = Some writer }) (sym is.desk_is),
      )

  -- the writer faulted
  over_fault : (start : Place D W) (first : List ℕ) (read_old read_now : Option (List ℕ)) (desk : D) (writer after : W) (version : Version) (held held_after : List ℕ) (quits skips : Bool) (unread : List ℕ)
      → IsOpen p start first read_old read_now (hands desk writer version held) quits skips unread → Loses held held_after (p.contents writer) (p.contents after) []
      → IsOver p start first read_old read_now (record { end = ends.WriteFault; desk = desk; back = Some after })
  over_fault start first read_old read_now desk writer after version held held_after false skips unread s loses =
      let out : Outcome D W = record { end = ends.WriteFault; desk = desk; back = Some after } in
      over start first read_old read_now read_now None s.at s.rest out s.through (Keeps-same read_now)
      (Serves-fault p read_now None s.at (lines_of s.rest) out (faulted s.at desk writer after version held held_after s.is_at loses))
  over_fault start first read_old read_now desk writer after version held held_after true skips unread l loses =
      let out : Outcome D W = record { end = ends.WriteFault; desk = desk; back = Some after } in
      over_quit start first read_old read_now (hands desk writer version held) out l
      (inr (faulted (answered l.at l.at.desk Done) desk writer after version held held_after l.is_at loses))

  -- all is written, and it had read QUIT
  over_written : (start : Place D W) (first : List ℕ) (read_old read_now : Option (List ℕ)) (desk : D) (writer after : W) (version : Version) (held held_after : List ℕ) (quits skips : Bool) (unread : List ℕ)
      → IsOpen p start first read_old read_now (hands desk writer version held) quits skips unread → quits ≡ true → held_after ≡ []
      → Holds held held_after (p.contents writer) (p.contents after) [] → IsOver p start first read_old read_now (record { end = ends.Quit; desk = desk; back = Some after })
  over_written start first read_old read_now desk writer after version held held_after false skips unread s is nothing holds = absurd (false≢true is)
  over_written start first read_old read_now desk writer after version held held_after true skips unread l is nothing holds =
      let out : Outcome D W = record { end = ends.Quit; desk = desk; back = Some after } in
      let there = answered l.at l.at.desk Done in
      over_quit start first read_old read_now (hands desk writer version held) out l
      (inl (closed there desk after version held_after ends.Quit (IsAt-put there desk writer after version held held_after l.is_at holds) nothing))

  -- what is held was sent
  pub held_sent : (start : Place D W) (first : List ℕ) (read_old read_now : Option (List ℕ)) (desk : D) (writer : W) (session : OpenSession) (held_after : List ℕ) (result : Turn W)
      → Sitting p start first read_old read_now desk writer session → Sends p.contents result session.quits writer session.outbox held_after
      → Sits p result start first read_old read_now desk (record session { outbox = held_after })
  held_sent start first read_old read_now desk writer session held_after (turns.Again after) s sends =
      IsOpen-put start first read_old read_now desk writer after session.version session.outbox held_after session.quits session.feed.skips (unread session.feed.lines) s sends.2
  held_sent start first read_old read_now desk writer session held_after (turns.Waits after) s sends = absurd sends
  held_sent start first read_old read_now desk writer session held_after (turns.Stuck after) s sends =
      IsOpen-put start first read_old read_now desk writer after session.version session.outbox held_after session.quits session.feed.skips (unread session.feed.lines) s sends
  held_sent start first read_old read_now desk writer session held_after (turns.Over end back) s sends =
      let Goal : SessionEnd → Option W → Type 0 = λ e b. IsOver p start first read_old read_now (record { end = e; desk = desk; back = b }) in
      let made : (e : SessionEnd) → end ≡ e → Goal e (Some sends.0) → Goal end back =
      λ e is over. subst (λ (b : Option W). Goal end b) (sym sends.1) (subst (λ (x : SessionEnd). Goal x (Some sends.0)) (sym is) over) in
      elim sends.2 [
        | inl all ↦ made ends.Quit all.0
            (over_written start first read_old read_now desk writer sends.0 session.version session.outbox held_after session.quits session.feed.skips (unread session.feed.lines) s all.1 all.2 all.3)
        | inr fault ↦ made ends.WriteFault fault.0
            (over_fault start first read_old read_now desk writer sends.0 session.version session.outbox held_after session.quits session.feed.skips (unread session.feed.lines) s fault.1)
      ]

  -- some bytes came
  pub Sitting-read : (start : Place D W) (first : List ℕ) (read_old read_now read_new : Option (List ℕ)) (desk : D) (writer : W) (session : OpenSession) (feed : Feed) → session.quits ≡ false
      → Sitting p start first read_old read_now desk writer session → ((rest : List ℕ) → IsRest session.feed.skips (unread session.feed.lines) rest → Comes Bytes read_now read_new rest feed.skips (unread feed.lines))
      → Sitting p start first read_old read_new desk writer (record session { feed = feed })
  Sitting-read start first read_old read_now read_new desk writer session feed is sitting comes =
      let now = hands desk writer session.version session.outbox in
      let s = listens start first read_old read_now now session.quits session.feed.skips (unread session.feed.lines) is sitting in
      let c = comes s.rest s.is_rest in
      listening start first read_old read_new now session.quits feed.skips (unread feed.lines) is
      (record { at = s.at; rest = s.rest ++ c.0; through = Through-read start first read_old read_now read_new s.at s.rest c.0 s.through c.1; is_rest = c.2; is_at = s.is_at })

  -- none yet
  pub Sitting-none : (start : Place D W) (first : List ℕ) (read_old read_now read_new : Option (List ℕ)) (desk : D) (writer : W) (session : OpenSession) (feed : Feed) → session.quits ≡ false
      → Sitting p start first read_old read_now desk writer session → ((rest : List ℕ) → IsRest session.feed.skips (unread session.feed.lines) rest → Comes Nothing read_now read_new rest feed.skips (unread feed.lines))
      → Sitting p start first read_old read_new desk writer (record session { feed = feed })
  Sitting-none start first read_old read_now read_new desk writer session feed is sitting comes =
      let now = hands desk writer session.version session.outbox in
      let s = listens start first read_old read_now now session.quits session.feed.skips (unread session.feed.lines) is sitting in
      let c = comes s.rest s.is_rest in
      listening start first read_old read_new now session.quits feed.skips (unread feed.lines) is
      (record { at = s.at; rest = s.rest; through = Through-kept start first read_old read_now read_new s.at s.rest s.through c.0; is_rest = c.1; is_at = s.is_at })

  -- none any more
  pub over_end : (start : Place D W) (first : List ℕ) (read_old read_now read_new : Option (List ℕ)) (desk : D) (writer : W) (session : OpenSession) (feed : Feed) (end : InputEnd) → session.quits ≡ false → session.outbox ≡ []
      → Sitting p start first read_old read_now desk writer session → ((rest : List ℕ) → IsRest session.feed.skips (unread session.feed.lines) rest → Comes (End end) read_now read_new rest feed.skips (unread feed.lines))
      → IsOver p start first read_old read_new (record { end = end_of end; desk = desk; back = Some writer })
  over_end start first read_old read_now read_new desk writer session feed end is nothing sitting comes =
      let now = hands desk writer session.version session.outbox in
      let s = listens start first read_old read_now now session.quits session.feed.skips (unread session.feed.lines) is sitting in
      let c = comes s.rest s.is_rest in
      let out : Outcome D W = record { end = end_of end; desk = desk; back = Some writer } in
      over start first read_old read_now read_new (Some end) s.at s.rest out s.through c.0
      (subst (λ (ls : List (List ℕ)). Serves p read_new (Some end) s.at ls out) (sym (lines_of-none s.rest c.1))
      (inr (end, refl, c.2, closed s.at desk writer session.version session.outbox (end_of end) s.is_at nothing)))

  -- a line that was read as QUIT, and its answer
  pub quit_told : (line : List ℕ) (at : Place D W) (desk : D) (writer : W) (version : Version) (held held_after : List ℕ) (result : Turned W)
      → session_read line ≡ Ok Quit → IsAt p at (hands desk writer version held)
      → Tells p.contents result writer held held_after (reply_line Done) → CarriesOut p true (session_read line) at result desk version held_after
  quit_told line at desk writer version held held_after result quits is tells = (
    quits,
    told p at desk desk writer version held held_after Done result (λ after. after ≡ answered at at.desk Done) is tells (ap (λ (d : D). answered at d Done) (sym is.desk_is)),
  )

  -- it had no turn yet
  pub Sitting-new : (session : OpenSession) (desk : D) (writer : W) (known : Option (List ℕ)) → IsNew session → Sitting p (first_place desk writer) [] known known desk writer session
  Sitting-new session desk writer known new =
      let at : Place D W = first_place desk writer in
      let now = hands desk writer session.version session.outbox in
      let is : IsAt p at now = record { desk_is = refl; version_is = sym new.version_is; written = []; since = Appends-nil (p.contents writer); parts = new.held_is } in
      listening at [] known known now session.quits session.feed.skips (unread session.feed.lines) new.quits_is
      (record { at = at; rest = []; through = Through-begun at known []; is_rest = rw (new.skips_is, new.unread_is) (IsRest-plain []); is_at = is })

  -- it is over as a session is
  pub IsOver-session : (desk : D) (writer : W) (read_old read_new : Option (List ℕ)) (out : Outcome D W) → IsOver p (first_place desk writer) [] read_old read_new out
      → (input : Option InputEnd) × Session p read_old read_new input desk writer out
  IsOver-session desk writer read_old read_new out is = (is.input, record { read = is.read; consumed = is.consumed; served = is.served })
