-- One line of a session: what each call of its code does, from the place where the session stands.
use Rattle.std.proofs.Common.{◌≡◌, ◌<◌, ◌⊎◌, ℕ, List, [], ◌++◌, length, Option, None, Some, MatchOption, Result, Ok, Err, refl, sym, ap, subst, ◌∙◌, append_assoc, inl, inr}
use Rattle.std.proofs.KnownBytes.{Appends-trans}
use Rattle.std.specs.Io.KnownBytes.{Appends}
use Rattle.std.specs.Prelude.{IfOk}
use Rattle.rx_note.specs.Choices.{Choice}
use Rattle.rx_note.specs.declared.note.Note.{Note}
use Rattle.rx_proto.proofs.Exact.{read-spelled, session_exact}
use Rattle.rx_proto.specs.Bytes.{AppendsPrefix}
use Rattle.rx_proto.specs.Grammar.{IsSpelled}
use Rattle.rx_proto.specs.Printing.{reply_line, response_to_fault}
use Rattle.rx_proto.specs.Reading.{◌>>=◌, Gives, in_session, line_read, meaning_of, session_read}
use Rattle.rx_proto.specs.Versions.{response_to_hello, version_after}
use Rattle.rx_proto.specs.declared.command.Command.{Command}
use Rattle.rx_proto.specs.declared.command.Command.TheVariants.{Sub, Hello, Quit}
use Rattle.rx_proto.specs.declared.line.Line.{Line}
use Rattle.rx_proto.specs.declared.line_error.BadLine.{BadLine}
use Rattle.rx_proto.specs.declared.line_error.BadLine.TheVariants as bad
use Rattle.rx_proto.specs.declared.response.Response.{Response}
use Rattle.rx_proto.specs.declared.response.Response.TheVariants.{Done, Refused}
use Rattle.rx_proto.specs.declared.version.Version.{Version}
use Rattle.rx_proto.specs.declared.word.Word.{Word}
use Rattle.rx_lines.specs.Lines.{TakesLine, without_cr}
use Rattle.rx_session.specs.Sessions.{Parties, Place, Outcome, answered, Emits, Goes, Lacks}
use Rattle.rx_lines.specs.Steps.{Advances, TakesStep as Steps}
use Rattle.rx_session.specs.Turns.{asked_by, hands, Tells, Quits, IsAt, HasNoText, Comes, Carries}
use Rattle.rx_session.specs.declared.follow.Follow.{Follow}
use Rattle.rx_session.specs.declared.follow.Follow.TheVariants.{Taken, Back}
use Rattle.rx_lines.specs.declared.input_end.InputEnd.{InputEnd}
use Rattle.rx_lines.specs.declared.line_state.LineState.{LineState}
use Rattle.rx_session.specs.declared.whole_session.Turned.{Turned}
use Rattle.rx_session.specs.declared.whole_session.Turned.TheVariants.{On, Over}
use Rattle.rx_session.specs.declared.session_end.SessionEnd.{SessionEnd}
use Rattle.rx_session.specs.declared.session_end.SessionEnd.TheVariants as ends
use Rattle.rx_lines.specs.declared.step.Step.{Step}
use Rattle.rx_proto.proofs.Writes.{Prefix-behind}

-- two outcomes at a desk
same_outcome : {D W : Type 0} (desk : D) (end end' : SessionEnd) (back back' : Option W) → end ≡ end' → back ≡ back'
    → ◌≡◌ {A = Outcome D W} (record { end = end; desk = desk; back = back }) (record { end = end'; desk = desk; back = back' })
same_outcome {D = D} {W = W} desk end end' back back' e b =
    ap (λ (x : SessionEnd). record { end = x; desk = desk; back = back }) e ∙ ap (λ (y : Option W). record { end = end'; desk = desk; back = y }) b

module _ {D W : Type 0} (p : Parties D W) where
  -- what was told at the place, and bytes behind it
  all_told : (at : Place D W) (desk : D) (writer : W) (version : Version) (held bytes : List ℕ) (is : IsAt p at (hands desk writer version held)) → is.written ++ (held ++ bytes) ≡ at.told ++ bytes
  all_told at desk writer version held bytes is = sym (append_assoc is.written held bytes) ∙ ap (λ t. t ++ bytes) is.parts

  -- the place behind a response, in this version
  abbrev behind : Place D W → D → Version → Response → Place D W
  behind at desk version response = record { desk = desk; writer = at.writer; version = version; told = at.told ++ reply_line response }

  -- a response is told, from now on in this version
  pub told_in : (at : Place D W) (desk after : D) (writer : W) (version then now : Version) (held held_after : List ℕ) (response : Response) (result : Turned W) (says : Place D W → Type 0)
      → IsAt p at (hands desk writer version held) → then ≡ now → Tells p.contents result writer held held_after (reply_line response)
      → says (behind at after then response) → Comes p says result after now held_after
  told_in at desk after writer version then now held held_after response (On last) says is same tells there = (
    behind at after then response,
    there,
    record {
      desk_is = refl;
      version_is = same;
      written = is.written ++ tells.written;
      since = Appends-trans (p.contents at.writer) (p.contents writer) (p.contents last) is.written tells.written is.since tells.told;
      parts = append_assoc is.written tells.written held_after ∙ ap (λ t. is.written ++ t) tells.parts ∙ all_told at desk writer version held (reply_line response) is;
    },
  )
  told_in at desk after writer version then now held held_after response (Over end back) says is same tells there = (
    behind at after then response,
    there,
    (
      tells.0,
      subst (λ (bytes : List ℕ). AppendsPrefix (p.contents at.writer) (p.contents tells.0) bytes) (all_told at desk writer version held (reply_line response) is)
          (Prefix-behind (p.contents at.writer) (p.contents writer) (p.contents tells.0) is.written (held ++ reply_line response) is.since tells.3),
      same_outcome after end ends.WriteFault back (Some tells.0) tells.1 tells.2,
    ),
  )

  -- a response is told
  pub told : (at : Place D W) (desk after : D) (writer : W) (version : Version) (held held_after : List ℕ) (response : Response) (result : Turned W) (says : Place D W → Type 0)
      → IsAt p at (hands desk writer version held) → Tells p.contents result writer held held_after (reply_line response)
      → says (answered at after response) → Comes p says result after version held_after
  told at desk after writer version held held_after response result says is tells there =
      told_in at desk after writer version at.version version held held_after response result says is is.version_is tells there

  -- the desk emitted a note, and its response is told
  pub emitted : (at : Place D W) (name : List ℕ) (note : Note) (desk after : D) (writer : W) (version : Version) (held held_after : List ℕ) (response : Response) (result : Turned W)
      → IsAt p at (hands desk writer version held) → p.emits desk name note response after → Tells p.contents result writer held held_after (reply_line response)
      → Comes p (Emits p at name note) result after version held_after
  emitted at name note desk after writer version held held_after response result is emits tells =
      told at desk after writer version held held_after response result (Emits p at name note) is tells
      (response, after, subst (λ (d : D). p.emits d name note response after) (sym is.desk_is) emits, refl)

  -- the version was set, and the response is told
  pub greeted_by : (at : Place D W) (number : ℕ) (desk : D) (writer : W) (version now : Version) (held held_after : List ℕ) (response : Response) (result : Turned W)
      → IsAt p at (hands desk writer version held) → response ≡ response_to_hello number → now ≡ version_after version number
      → Tells p.contents result writer held held_after (reply_line response) → Comes p (Goes p (Ok (Hello number)) at) result desk now held_after
  greeted_by at number desk writer version now held held_after response result is responds sets tells =
      let then = version_after at.version number in
      told_in at desk desk writer version then now held held_after response result (Goes p (Ok (Hello number)) at) is
      (ap (λ (v : Version). version_after v number) is.version_is ∙ sym sets) tells
      (ap (λ (d : D). behind at d then response) (sym is.desk_is) ∙ ap (λ (r : Response). behind at at.desk then r) responds)

  -- the writer faulted where all that is held was to be written
  pub flush_faulted : (reading : Result Command BadLine) (at : Place D W) (desk : D) (writer mid : W) (version : Version) (held held_after : List ℕ)
      → IsAt p at (hands desk writer version held) → AppendsPrefix (p.contents writer) (p.contents mid) held
      → Carries p reading at (Over ends.WriteFault (Some mid)) desk version held_after
  flush_faulted reading at desk writer mid version held held_after is faulted = inl (
    mid,
    subst (λ (bytes : List ℕ). AppendsPrefix (p.contents at.writer) (p.contents mid) bytes) is.parts
        (Prefix-behind (p.contents at.writer) (p.contents writer) (p.contents mid) is.written held is.since faulted),
    ap (λ (d : D). record { end = ends.WriteFault; desk = d; back = Some mid }) (sym is.desk_is),
  )

  -- what the desk did is what it did at the place
  followed_at : (at : Place D W) (desk : D) (name : List ℕ) (policy : Choice) (version : Version) (writer : W) (follow : Follow W) (after : D)
      → at.desk ≡ desk → at.version ≡ version → p.follows desk name policy version writer follow after → p.follows at.desk name policy at.version writer follow after
  followed_at at desk name policy version writer follow after d v follows =
      subst (λ (u : Version). p.follows at.desk name policy u writer follow after) (sym v)
      (subst (λ (e : D). p.follows e name policy version writer follow after) (sym d) follows)

  -- the desk has the writer, which had all that was told to it
  pub handed_over : (at : Place D W) (name : List ℕ) (policy : Choice) (desk after : D) (writer mid : W) (version : Version) (held held_after : List ℕ)
      → IsAt p at (hands desk writer version held) → Appends (p.contents writer) (p.contents mid) held → p.follows desk name policy version mid Taken after
      → Carries p (Ok (Sub name policy)) at (Over ends.HandedOver None) after version held_after
  handed_over at name policy desk after writer mid version held held_after is flushed follows = inr (inl (
    mid,
    after,
    subst (λ (bytes : List ℕ). Appends (p.contents at.writer) (p.contents mid) bytes) is.parts
        (Appends-trans (p.contents at.writer) (p.contents writer) (p.contents mid) is.written held is.since flushed),
    followed_at at desk name policy version mid Taken after is.desk_is is.version_is follows,
    refl,
  ))

  -- the writer came back
  pub came_back : (at : Place D W) (name : List ℕ) (policy : Choice) (desk after : D) (writer mid back : W) (version : Version) (held none held_after : List ℕ) (response : Response) (result : Turned W)
      → IsAt p at (hands desk writer version held) → Appends (p.contents writer) (p.contents mid) held → none ≡ []
      → p.follows desk name policy version mid (Back response back) after → Tells p.contents result back none held_after (reply_line response)
      → Carries p (Ok (Sub name policy)) at result after version held_after
  came_back at name policy desk after writer mid back version held none held_after response result is flushed empty follows tells =
      let now : Place D W = record { desk = after; writer = back; version = at.version; told = reply_line response } in
      let caught : Appends (p.contents at.writer) (p.contents mid) at.told =
      subst (λ (bytes : List ℕ). Appends (p.contents at.writer) (p.contents mid) bytes) is.parts
      (Appends-trans (p.contents at.writer) (p.contents writer) (p.contents mid) is.written held is.since flushed) in
      let goes : Goes p (Ok (Sub name policy)) at now =
      (mid, response, caught, followed_at at desk name policy version mid (Back response back) after is.desk_is is.version_is follows, refl, refl) in
      let P : Turned W → Type 0 = λ r. Tells p.contents r back none held_after (reply_line response) → Carries p (Ok (Sub name policy)) at r after version held_after in
      elim result as P [
        | On last ↦ λ t. (now, goes, record { desk_is = refl; version_is = is.version_is; written = t.written; since = t.told; parts = t.parts ∙ ap (λ xs. xs ++ reply_line response) empty })
        | Over end other ↦ λ t. inr (inr (
          now,
          goes,
          (
            t.0,
            subst (λ (xs : List ℕ). AppendsPrefix (p.contents back) (p.contents t.0) (xs ++ reply_line response)) empty t.3,
            same_outcome after end ends.WriteFault other (Some t.0) t.1 t.2,
          ),
        ))
      ] tells

  -- a line is carried out by what a session comes to
  pub carries : (reading : Result Command BadLine) (at : Place D W) (says : Place D W → Type 0) (result : Turned W) (desk : D) (version : Version) (held : List ℕ)
      → ((after : Place D W) → says after → Goes p reading at after) → Comes p says result desk version held → Carries p reading at result desk version held
  carries reading at says (On writer) desk version held goes comes = (comes.0, goes comes.0 comes.1, comes.2)
  carries reading at says (Over end back) desk version held goes comes = inr (inr (comes.0, goes comes.0 comes.1, comes.2))

  -- what a session comes to, said in other words
  pub comes_by : (says then : Place D W → Type 0) (result : Turned W) (desk : D) (version : Version) (held : List ℕ)
      → ((after : Place D W) → says after → then after) → Comes p says result desk version held → Comes p then result desk version held
  comes_by says then (On writer) desk version held goes comes = (comes.0, goes comes.0 comes.1, comes.2)
  comes_by says then (Over end back) desk version held goes comes = (comes.0, goes comes.0 comes.1, comes.2)

  -- there is no text for a note, and the word of that is told
  pub no_text : (at : Place D W) (name : List ℕ) (note : Note) (desk : D) (writer : W) (version : Version) (held held_after : List ℕ) (word : Word) (result : Turned W)
      → IsAt p at (hands desk writer version held) → HasNoText p desk name word → Tells p.contents result writer held held_after (reply_line (Refused word))
      → Comes p (λ after. Emits p at name note after ⊎ Lacks p at name after) result desk version held_after
  no_text at name note desk writer version held held_after word result is none tells =
      told at desk desk writer version held held_after (Refused word) result (λ after. Emits p at name note after ⊎ Lacks p at name after) is tells
      (elim none [
        | inl unknown ↦ inl (
          Refused word,
          desk,
          subst (λ (d : D). p.emits d name note (Refused word) desk) (sym is.desk_is) (subst (λ (w : Word). p.emits desk name note (Refused w) desk) (sym unknown.0) (unknown.1 note)),
          refl,
        )
        | inr lacking ↦ inr (
          subst (λ (d : D). p.knows d name) (sym is.desk_is) lacking.1,
          ap (λ (d : D). answered at d (Refused word)) (sym is.desk_is) ∙ ap (λ (w : Word). answered at at.desk (Refused w)) lacking.0,
        )
      ])

  -- a line that is refused is told so
  pub refused : (fault : BadLine) (reading : Result Command BadLine) (at : Place D W) (desk : D) (writer : W) (version : Version) (held held_after : List ℕ) (response : Response) (result : Turned W)
      → reading ≡ Err fault → response ≡ response_to_fault fault → IsAt p at (hands desk writer version held)
      → Tells p.contents result writer held held_after (reply_line response) → Carries p reading at result desk version held_after
  refused fault reading at desk writer version held held_after response result bad by is tells =
      let says : Place D W → Type 0 = λ after. after ≡ answered at at.desk (response_to_fault fault) in
      let C : Result Command BadLine → Type 0 = λ r. Carries p r at result desk version held_after in
      subst C (sym bad) (carries (Err fault) at says result desk version held_after (λ after e. e)
      (told at desk desk writer version held held_after response result says is tells
      (ap (λ (d : D). answered at d response) (sym is.desk_is) ∙ ap (λ r. answered at at.desk r) by)))

  -- a session quits
  pub quits : (at : Place D W) (desk : D) (writer : W) (version : Version) (held held_after : List ℕ) (result : Turned W) → IsAt p at (hands desk writer version held) → Quits p.contents result writer held
      → Carries p (Ok Quit) at result desk version held_after
  quits at desk writer version held held_after (On after) is q = absurd q
  quits at desk writer version held held_after (Over end back) is q =
      let then : Place D W = answered at at.desk Done in
      let whole = all_told at desk writer version held (reply_line Done) is in
      let same : (e : SessionEnd) → end ≡ e → ◌≡◌ {A = Outcome D W} (record { end = end; desk = desk; back = back }) (record { end = e; desk = at.desk; back = Some q.0 }) =
      λ e ended. same_outcome desk end e back (Some q.0) ended q.1 ∙ ap (λ (d : D). record { end = e; desk = d; back = Some q.0 }) (sym is.desk_is) in
      inr (inl (elim q.2 [
        | inl all ↦ inl (
          q.0,
          subst (λ (bytes : List ℕ). Appends (p.contents at.writer) (p.contents q.0) bytes) whole
              (Appends-trans (p.contents at.writer) (p.contents writer) (p.contents q.0) is.written (held ++ reply_line Done) is.since all.1),
          same ends.Quit all.0,
        )
        | inr fault ↦ inr (
          q.0,
          subst (λ (bytes : List ℕ). AppendsPrefix (p.contents at.writer) (p.contents q.0) bytes) whole
              (Prefix-behind (p.contents at.writer) (p.contents writer) (p.contents q.0) is.written (held ++ reply_line Done) is.since fault.1),
          same ends.WriteFault fault.0,
        )
      ]))

none_match : (o : Option InputEnd) (P : Type 0) (Q : InputEnd → Type 0) → o ≡ None → MatchOption o P Q → P
none_match None P Q e m = m
none_match (Some x) P Q e m = cc

-- a step that begins with no end
pub steps_by : (step : Step) (old new : Option (List ℕ)) (before after : LineState) → before.end ≡ None → Advances step old new before after → Steps step old new before after
steps_by step old new before after none advances = none_match before.end _ _ none advances

-- a line means in a session what is asked by what was read of it
pub asked_by-read : (read : Result Line BadLine) (line : List ℕ) → Gives meaning_of read (line_read line) → session_read line ≡ asked_by read
asked_by-read (Ok read) line gives = ap (λ r. r >>= in_session) gives
asked_by-read (Err fault) line gives = ap (λ r. r >>= in_session) gives

-- what was read of a line is spelled by one
pub spelled : (read : Result Line BadLine) (line : List ℕ) → Gives meaning_of read (line_read line) → IfOk read (λ l. IsSpelled (meaning_of l))
spelled (Ok read) line gives = read-spelled line (meaning_of read) gives
spelled (Err fault) line gives = tt

-- a line of more than 1,100 bytes is refused
pub long_read : (line : List ℕ) → 1100 < length line → session_read line ≡ Err bad.Long
long_read line long = (session_exact.long line).1 (inl long)

-- a line of which something is said is one of which something else is
pub taken : (read_old read_new : Option (List ℕ)) (before after : List ℕ) (says then : List ℕ → Type 0) → ((line : List ℕ) → says line → then line)
    → TakesLine read_old read_new before after says → TakesLine read_old read_new before after then
taken read_old read_new before after says then so takes =
    record { read = takes.read; line = takes.line; told = takes.told; begins = takes.begins; said = so (without_cr takes.line) takes.said }
