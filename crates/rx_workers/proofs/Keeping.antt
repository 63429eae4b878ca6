-- What each call of a session's desk keeps, a session keeps.
use Rattle.std.proofs.Common.{◌≡◌, ℕ, Bool, true, false, List, [], ◌∷◌, ◌++◌, Option, Result, Ok, Err, refl, sym, ap, subst, ◌∙◌, inl, inr}
use Rattle.rx_note.specs.Choices.{Choice}
use Rattle.rx_note.specs.declared.note.Note.{Note}
use Rattle.rx_note.specs.declared.note.Note.TheVariants.{Next, Completed, Failed}
use Rattle.rx_proto.specs.Reading.{session_read}
use Rattle.rx_proto.specs.declared.command.Command.{Command}
use Rattle.rx_proto.specs.declared.command.Command.TheVariants.{Pub, End, Fail, Sub, Hello, Quit}
use Rattle.rx_proto.specs.declared.line_error.BadLine.{BadLine}
use Rattle.rx_proto.specs.declared.response.Response.{Response}
use Rattle.rx_proto.specs.declared.version.Version.{Version}
use Rattle.rx_session.specs.OpenSessions.{IsOpen, Reaches, Sits}
use Rattle.rx_session.specs.Sessions.{Parties, Place, Outcome, Emits, Lacks, Goes, Faults, Stops, RunsOut, Serves}
use Rattle.rx_lines.specs.Lines.{lines_of}
use Rattle.rx_lines.specs.Steps.{unread}
use Rattle.rx_session.specs.Turns.{hands}
use Rattle.rx_session.specs.declared.follow.Follow.{Follow}
use Rattle.rx_session.specs.declared.follow.Follow.TheVariants.{Taken, Back}
use Rattle.rx_lines.specs.declared.input_end.InputEnd.{InputEnd}
use Rattle.rx_session.specs.declared.open_session.OpenSession.{OpenSession}
use Rattle.rx_session.specs.declared.turn.Turn.{Turn}
use Rattle.rx_session.specs.declared.turn.Turn.TheVariants.{Again, Waits, Stuck, Over}

module _ {D W : Type 0} (p : Parties D W) (P : D → Type 0)
    (by_emit : (d : D) (name : List ℕ) (note : Note) (r : Response) (e : D) → p.emits d name note r e → P d → P e)
    (by_follow : (d : D) (name : List ℕ) (c : Choice) (v : Version) (w : W) (f : Follow W) (e : D) → p.follows d name c v w f e → P d → P e) where
  -- a note was emitted
  emit_keeps : (at after : Place D W) (name : List ℕ) (note : Note) → Emits p at name note after → P at.desk → P after.desk
  emit_keeps at after name note e had = subst P (sym (ap (λ (x : Place D W). x.desk) e.3)) (by_emit at.desk name note e.0 e.1 e.2 had)

  -- the desk was not asked
  lack_keeps : (at after : Place D W) (name : List ℕ) → Lacks p at name after → P at.desk → P after.desk
  lack_keeps at after name e had = subst P (sym (ap (λ (x : Place D W). x.desk) e.1)) had

  -- a line after which the session goes on
  goes_keeps : (reading : Result Command BadLine) (at after : Place D W) → Goes p reading at after → P at.desk → P after.desk
  goes_keeps (Ok (Pub name text)) at after (inl e) had = emit_keeps at after name (Next (record { from = 0; place = 0; text = text })) e had
  goes_keeps (Ok (Pub name text)) at after (inr e) had = lack_keeps at after name e had
  goes_keeps (Ok (End name)) at after e had = emit_keeps at after name Completed e had
  goes_keeps (Ok (Fail name text)) at after (inl e) had = emit_keeps at after name (Failed text) e had
  goes_keeps (Ok (Fail name text)) at after (inr e) had = lack_keeps at after name e had
  goes_keeps (Ok (Sub name policy)) at after e had = by_follow at.desk name policy at.version e.0 (Back e.1 after.writer) after.desk e.3 had
  goes_keeps (Ok (Hello number)) at after e had = subst P (sym (ap (λ (x : Place D W). x.desk) e)) had
  goes_keeps (Ok Quit) at after e had = absurd e
  goes_keeps (Err fault) at after e had = subst P (sym (ap (λ (x : Place D W). x.desk) e)) had

  -- an outcome with this desk
  outcome_keeps : (desk : D) (end out : Outcome D W) → out ≡ end → end.desk ≡ desk → P desk → P out.desk
  outcome_keeps desk end out e d had = subst P (sym (ap (λ (x : Outcome D W). x.desk) e ∙ d)) had

  -- a fault of the writer
  fault_keeps : (at : Place D W) (out : Outcome D W) → Faults p at out → P at.desk → P out.desk
  fault_keeps at out f had = outcome_keeps at.desk _ out f.2 refl had

  -- the input ran out
  runs_out_keeps : (left : Option (List ℕ)) (input : Option InputEnd) (at : Place D W) (out : Outcome D W) → RunsOut p left input at out → P at.desk → P out.desk
  runs_out_keeps left input at out r had = outcome_keeps at.desk _ out r.3.2 refl had

  -- a line that ends the session
  stop_keeps : (reading : Result Command BadLine) (at : Place D W) (out : Outcome D W) → Stops p reading at out → P at.desk → P out.desk
  stop_keeps (Ok (Pub name text)) at out s had = absurd s
  stop_keeps (Ok (End name)) at out s had = absurd s
  stop_keeps (Ok (Fail name text)) at out s had = absurd s
  stop_keeps (Ok (Sub name policy)) at out s had = outcome_keeps s.1 _ out s.4 refl (by_follow at.desk name policy at.version s.0 Taken s.1 s.3 had)
  stop_keeps (Ok (Hello number)) at out s had = absurd s
  stop_keeps (Ok Quit) at out (inl c) had = outcome_keeps at.desk _ out c.2 refl had
  stop_keeps (Ok Quit) at out (inr f) had = outcome_keeps at.desk _ out f.2 refl had
  stop_keeps (Err fault) at out s had = absurd s

  -- the whole session
  pub serves_keeps : (left : Option (List ℕ)) (input : Option InputEnd) (at : Place D W) (lines : List (List ℕ)) (out : Outcome D W)
      → Serves p left input at lines out → P at.desk → P out.desk
  serves_keeps left input at [] out (inl f) had = fault_keeps at out f had
  serves_keeps left input at [] out (inr r) had = runs_out_keeps left input at out r had
  serves_keeps left input at (line ∷ lines) out (inl f) had = fault_keeps at out f had
  serves_keeps left input at (line ∷ lines) out (inr (inl s)) had = stop_keeps (session_read line) at out s had
  serves_keeps left input at (line ∷ lines) out (inr (inr g)) had = serves_keeps left input g.0 lines out g.2 (goes_keeps (session_read line) at g.0 g.1 had)

  -- lines that it went through
  reaches_keeps : (at : Place D W) (lines : List (List ℕ)) (last : Place D W) → Reaches p at lines last → P at.desk → P last.desk
  reaches_keeps at [] last r had = subst P (sym (ap (λ (x : Place D W). x.desk) r)) had
  reaches_keeps at (line ∷ lines) last r had = reaches_keeps r.0 lines last r.2 (goes_keeps (session_read line) at r.0 r.1 had)

  -- a session that is under way
  open_keeps : (start : Place D W) (first : List ℕ) (read_old read_now : Option (List ℕ)) (desk : D) (writer : W) (version : Version) (held : List ℕ) (quits skips : Bool) (bytes : List ℕ)
      → IsOpen p start first read_old read_now (hands desk writer version held) quits skips bytes → P start.desk → P desk
  open_keeps start first read_old read_now desk writer version held false skips bytes l had =
      subst P l.is_at.desk_is (reaches_keeps start l.through.lines l.at l.through.reached had)
  open_keeps start first read_old read_now desk writer version held true skips bytes l had =
      subst P l.is_at.desk_is (reaches_keeps start l.through.lines l.at l.through.reached had)

  -- a turn
  pub sits_keeps : (result : Turn W) (start : Place D W) (first : List ℕ) (read_old read_new : Option (List ℕ)) (desk : D) (session : OpenSession)
      → Sits p result start first read_old read_new desk session → P start.desk → P desk
  sits_keeps (Again writer) start first read_old read_new desk session s had =
      open_keeps start first read_old read_new desk writer session.version session.outbox session.quits session.feed.skips (unread session.feed.lines) s had
  sits_keeps (Waits writer) start first read_old read_new desk session s had =
      open_keeps start first read_old read_new desk writer session.version session.outbox session.quits session.feed.skips (unread session.feed.lines) s had
  sits_keeps (Stuck writer) start first read_old read_new desk session s had =
      open_keeps start first read_old read_new desk writer session.version session.outbox session.quits session.feed.skips (unread session.feed.lines) s had
  sits_keeps (Over end back) start first read_old read_new desk session s had =
      serves_keeps read_new s.input start (lines_of (first ++ s.read)) (record { end = end; desk = desk; back = back }) s.served had
