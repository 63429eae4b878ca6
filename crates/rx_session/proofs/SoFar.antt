-- How far a session has come.
use Rattle.std.proofs.Common.{◌≡◌, ℕ, List, [], ◌∷◌, ◌++◌, Option, Some, refl, sym, ap, subst, ◌∙◌, append_assoc, append-nil, inl, inr}
use Rattle.std.proofs.KnownBytes.{Appends-trans, Appends-nil, Consumes-trans, Consumes-nil}
use Rattle.std.specs.Io.KnownBytes.{Appends, Consumes}
use Rattle.rx_proto.specs.Bytes.{AppendsPrefix}
use Rattle.rx_proto.specs.LineFeeds.{HasNoLf}
use Rattle.rx_proto.specs.Reading.{session_read}
use Rattle.rx_proto.specs.declared.version.Version.{Version}
use Rattle.rx_proto.specs.declared.version.Version.TheVariants.{One}
use Rattle.rx_lines.specs.Bytes.{Holds, Loses}
use Rattle.rx_lines.specs.Lines.{lines_of, without_cr}
use Rattle.rx_session.specs.Sessions.{Parties, Place, Outcome, Serves, Session, Faults, end_of}
use Rattle.rx_lines.specs.Steps.{unread, GoesOn}
use Rattle.rx_session.specs.Turns.{Hands, hands, IsAt, Carries, Ends, Turns}
use Rattle.rx_lines.specs.declared.input_end.InputEnd.{InputEnd}
use Rattle.rx_lines.specs.declared.line_state.LineState.{LineState}
use Rattle.rx_session.specs.declared.whole_session.Turned.{Turned}
use Rattle.rx_session.specs.declared.whole_session.Turned.TheVariants.{On, Over}
use Rattle.rx_session.specs.declared.session_end.SessionEnd.{SessionEnd}
use Rattle.rx_session.specs.declared.session_end.SessionEnd.TheVariants as ends
use Rattle.rx_proto.proofs.LineFeeds.{HasNoLf-front}
use Rattle.rx_lines.proofs.LinesOf.{lines_of-first, lines_of-taken, lines_of-none}
use Rattle.rx_proto.proofs.Writes.{Prefix-behind}

-- the outcome at a desk of a turn that ended the session
abbrev pub outcome_of : {D W : Type 0} → Turned W → D → Outcome D W → Outcome D W
outcome_of (On writer) desk other = other
outcome_of (Over end back) desk other = record { end = end; desk = desk; back = back }

module _ {D W : Type 0} (p : Parties D W) where
  -- some bytes were read, and the session stands at a place; from there it goes through the lines of what is unread as from
  -- the start through all
  pub record SoFar (start : Place D W) (read_old read_now : Option (List ℕ)) (now : Hands D W) (rest : List ℕ) : Type 0 where
    pub read : List ℕ
    pub consumed : Consumes read_old read_now read
    pub at : Place D W
    pub is_at : IsAt p at now
    pub goes_on : (left : Option (List ℕ)) (input : Option InputEnd) (out : Outcome D W) (more : List ℕ)
        → Serves p left input at (lines_of (rest ++ more)) out → Serves p left input start (lines_of (read ++ more)) out

  -- at first
  pub SoFar-begun : (desk : D) (writer : W) (read_old : Option (List ℕ)) (held rest : List ℕ) → held ≡ [] → rest ≡ []
      → SoFar (record { desk = desk; writer = writer; version = One; told = [] }) read_old read_old (hands desk writer One held) rest
  SoFar-begun desk writer read_old held rest nothing none =
      let start : Place D W = record { desk = desk; writer = writer; version = One; told = [] } in
      record {
        read = [];
        consumed = Consumes-nil read_old;
        at = start;
        is_at = record { desk_is = refl; version_is = refl; written = []; since = Appends-nil (p.contents writer); parts = nothing };
        goes_on = λ left input out more serves.
            let P : List ℕ → Type 0 = λ r. Serves p left input start (lines_of (r ++ more)) out in subst P none serves;
      }

  -- what was held was written, or a front of it
  pub SoFar-put : (start : Place D W) (read_old read_now : Option (List ℕ)) (desk : D) (writer after : W) (version : Version) (held held_after rest rest_after : List ℕ)
      → SoFar start read_old read_now (hands desk writer version held) rest → Holds held held_after (p.contents writer) (p.contents after) [] → rest_after ≡ rest
      → SoFar start read_old read_now (hands desk after version held_after) rest_after
  SoFar-put start read_old read_now desk writer after version held held_after rest rest_after h holds same =
      let is = h.is_at in
      record {
        read = h.read;
        consumed = h.consumed;
        at = h.at;
        is_at = record {
          desk_is = is.desk_is;
          version_is = is.version_is;
          written = is.written ++ holds.written;
          since = Appends-trans (p.contents h.at.writer) (p.contents writer) (p.contents after) is.written holds.written is.since holds.told;
          parts = append_assoc is.written holds.written held_after ∙ ap (λ xs. is.written ++ xs) (holds.parts ∙ append-nil held) ∙ is.parts;
        };
        goes_on = λ left input out more serves.
            let P : List ℕ → Type 0 = λ r. Serves p left input h.at (lines_of (r ++ more)) out in h.goes_on left input out more (subst P same serves);
      }

  -- a fault of the writer ends a session before any lines
  pub Serves-fault : (left : Option (List ℕ)) (input : Option InputEnd) (at : Place D W) (lines : List (List ℕ)) (out : Outcome D W) → Faults p at out → Serves p left input at lines out
  Serves-fault left input at [] out faults = inl faults
  Serves-fault left input at (line ∷ lines) out faults = inl faults

  -- what was read in all, where the last line was taken or there was none
  whole : (start : Place D W) (read_old read_now read_new : Option (List ℕ)) (now : Hands D W) (rest read : List ℕ) (input : Option InputEnd) (out : Outcome D W)
      → (h : SoFar start read_old read_now now rest) → Consumes read_now read_new read → Serves p read_new input h.at (lines_of (rest ++ read)) out
      → (all : List ℕ) × Consumes read_old read_new all × Serves p read_new input start (lines_of all) out
  whole start read_old read_now read_new now rest read input out h told serves =
      (h.read ++ read, Consumes-trans read_old read_now read_new h.read read h.consumed told, h.goes_on read_new input out read serves)

  -- the writer faulted before the next line
  pub over-fault : (start : Place D W) (read_old read_now : Option (List ℕ)) (input : Option InputEnd) (desk : D) (writer after : W) (version : Version) (held held_after rest : List ℕ)
      → SoFar start read_old read_now (hands desk writer version held) rest → Loses held held_after (p.contents writer) (p.contents after) []
      → (all : List ℕ) × Consumes read_old read_now all × Serves p read_now input start (lines_of all) (record { end = ends.WriteFault; desk = desk; back = Some after })
  over-fault start read_old read_now input desk writer after version held held_after rest h loses =
      let is = h.is_at in
      let out : Outcome D W = record { end = ends.WriteFault; desk = desk; back = Some after } in
      let front : AppendsPrefix (p.contents writer) (p.contents after) held =
      subst (λ (xs : List ℕ). AppendsPrefix (p.contents writer) (p.contents after) xs) (append-nil held) loses.written in
      let faults : Faults p h.at out = (
        after,
        subst (λ (xs : List ℕ). AppendsPrefix (p.contents h.at.writer) (p.contents after) xs) is.parts
            (Prefix-behind (p.contents h.at.writer) (p.contents writer) (p.contents after) is.written held is.since front),
        ap (λ (d : D). record { end = ends.WriteFault; desk = d; back = Some after }) (sym is.desk_is),
      ) in
      whole start read_old read_now read_now (hands desk writer version held) rest [] input out h (Consumes-nil read_now) (Serves-fault read_now input h.at (lines_of (rest ++ [])) out faults)

  -- a line was carried out, and the session goes on
  pub SoFar-turn : (start : Place D W) (read_old read_now read_new : Option (List ℕ)) (before : Hands D W) (writer : W) (lines lines_after : LineState) (after : Hands D W)
      → SoFar start read_old read_now before (unread lines) → Turns p (On writer) before after read_now read_new lines lines_after
      → SoFar start read_old read_new (hands after.desk writer after.version after.held) (unread lines_after)
  SoFar-turn start read_old read_now read_new before writer lines lines_after after h (inl turn) =
      let takes = turn.takes in
      let line = without_cr takes.line in
      let carried : Carries p (session_read line) h.at (On writer) after.desk after.version after.held = takes.said h.at h.is_at in
      record {
        read = h.read ++ takes.read;
        consumed = Consumes-trans read_old read_now read_new h.read takes.read h.consumed takes.told;
        at = carried.0;
        is_at = carried.2;
        goes_on = λ left input out more serves.
            let behind : Serves p left input h.at (line ∷ lines_of (unread lines_after ++ more)) out = inr (inr (carried.0, carried.1, serves)) in
            let L : List (List ℕ) → Type 0 = λ ls. Serves p left input h.at ls out in
            let all : Serves p left input h.at (lines_of (unread lines ++ (takes.read ++ more))) out =
            subst L (sym (lines_of-taken (unread lines) takes.read takes.line (unread lines_after) more takes.begins)) behind in
            let S : List ℕ → Type 0 = λ xs. Serves p left input start (lines_of xs) out in
            subst S (sym (append_assoc h.read takes.read more)) (h.goes_on left input out (takes.read ++ more) all);
      }
  SoFar-turn start read_old read_now read_new before writer lines lines_after after h (inr turn) = cc

  -- the session ended by a line
  pub Serves-ends : (left : Option (List ℕ)) (input : Option InputEnd) (at : Place D W) (line : List ℕ) (lines : List (List ℕ)) (out : Outcome D W)
      → Ends p (session_read line) at out → Serves p left input at (line ∷ lines) out
  Serves-ends left input at line lines out (inl faults) = inl faults
  Serves-ends left input at line lines out (inr (inl stops)) = inr (inl stops)
  Serves-ends left input at line lines out (inr (inr goes)) = inr (inr (goes.0, goes.1, Serves-fault left input goes.0 lines out goes.2))

  -- the session ended by a turn
  pub over-turn : (start : Place D W) (read_old read_now read_new : Option (List ℕ)) (before after : Hands D W) (end : SessionEnd) (back : Option W) (lines lines_after : LineState)
      → SoFar start read_old read_now before (unread lines) → (HasNoLf (unread lines) → before.held ≡ []) → Turns p (Over end back) before after read_now read_new lines lines_after
      → (all : List ℕ) × Consumes read_old read_new all
      × Serves p read_new lines_after.end start (lines_of all) (record { end = end; desk = after.desk; back = back })
  over-turn start read_old read_now read_new before after end back lines lines_after h empty (inl turn) =
      let takes = turn.takes in
      let out : Outcome D W = record { end = end; desk = after.desk; back = back } in
      let L : List (List ℕ) → Type 0 = λ ls. Serves p read_new lines_after.end h.at ls out in
      whole start read_old read_now read_new before (unread lines) takes.read lines_after.end out h takes.told
      (subst L (sym (lines_of-first (unread lines ++ takes.read) takes.line (unread lines_after) takes.begins))
      (Serves-ends read_new lines_after.end h.at (without_cr takes.line) (lines_of (unread lines_after)) out (takes.said h.at h.is_at)))
  over-turn start read_old read_now read_new before after end back lines lines_after h empty (inr turn) =
      let none = turn.none in
      let is = h.is_at in
      let out : Outcome D W = record { end = end; desk = after.desk; back = back } in
      let nothing : before.held ≡ [] = empty (HasNoLf-front (unread lines) none.read none.none) in
      let told : is.written ≡ h.at.told = sym (append-nil is.written) ∙ ap (λ xs. is.written ++ xs) (sym nothing) ∙ is.parts in
      let caught : Appends (p.contents h.at.writer) (p.contents before.writer) h.at.told =
      subst (λ (xs : List ℕ). Appends (p.contents h.at.writer) (p.contents before.writer) xs) told is.since in
      let same : out ≡ record { end = end_of turn.end; desk = h.at.desk; back = Some before.writer } =
      ap (λ (t : Turned W). outcome_of t after.desk out) turn.over
      ∙ ap (λ (d : D). record { end = end_of turn.end; desk = d; back = Some before.writer }) (turn.desk_is ∙ sym is.desk_is) in
      let L : List (List ℕ) → Type 0 = λ ls. Serves p read_new lines_after.end h.at ls out in
      whole start read_old read_now read_new before (unread lines) none.read lines_after.end out h none.told
      (subst L (sym (lines_of-none (unread lines ++ none.read) none.none)) (inr (turn.end, turn.input, turn.left, (before.writer, caught, same))))

  -- a turn after which the session goes on leaves fewer bytes that may come, and no end
  pub turn-goes_on : (read_old read_new : Option (List ℕ)) (before after : Hands D W) (writer : W) (lines lines_after : LineState)
      → Turns p (On writer) before after read_old read_new lines lines_after → GoesOn lines lines_after
  turn-goes_on read_old read_new before after writer lines lines_after (inl turn) = turn.goes_on
  turn-goes_on read_old read_new before after writer lines lines_after (inr turn) = cc

  -- the whole session
  pub as_session : (read_old read_new : Option (List ℕ)) (input : Option InputEnd) (desk : D) (writer : W) (out : Outcome D W)
      → ((all : List ℕ) × Consumes read_old read_new all × Serves p read_new input (record { desk = desk; writer = writer; version = One; told = [] }) (lines_of all) out)
      → Session p read_old read_new input desk writer out
  as_session read_old read_new input desk writer out all = record { read = all.0; consumed = all.1; served = all.2 }
