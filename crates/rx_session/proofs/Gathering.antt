-- A session that begins the items of its lines, and waits for their responses later.
use Rattle.std.proofs.Common.{◌≡◌, ◌+◌, ◌-◌, ◌<◌, ◌≤◌, append_assoc, append-nil, length-append, ℕ, Bool, true, false, List, [], ◌∷◌, ◌++◌, length, Option, Some, Result, refl, sym, ap, subst, ◌∙◌, inl, inr, arith}
use Rattle.rx_note.specs.declared.note.Note.{Note}
use Rattle.rx_proto.specs.Printing.{reply_line}
use Rattle.rx_proto.specs.Reading.{session_read}
use Rattle.rx_proto.specs.declared.command.Command.{Command}
use Rattle.rx_proto.specs.declared.line_error.BadLine.{BadLine}
use Rattle.rx_proto.specs.declared.response.Response.{Response}
use Rattle.rx_proto.specs.declared.version.Version.{Version}
use Rattle.rx_session.specs.Begun.{Asked, IsBehind}
use Rattle.rx_lines.specs.Feeds.{IsRest, IsLine, Tells as TellsOf}
use Rattle.rx_session.specs.Gathering.{Ahead, Answered, IsBegun, Asks, Begins, CarriesBehind, EmitsEach, Gathered, Gathering, Gathers, IsGathering, StandsBehind}
use Rattle.rx_lines.specs.Lines.{BeginsWithLine, without_cr}
use Rattle.rx_session.specs.OpenSessions.{Carried, IsOpen, Leaves, Sitting, Through}
use Rattle.rx_session.specs.Sessions.{Parties, Place, Emits, Goes, answered}
use Rattle.rx_lines.specs.Steps.{unread}
use Rattle.rx_session.specs.Turns.{Hands, hands, IsAt}
use Rattle.rx_lines.specs.declared.feed.Feed.{Feed}
use Rattle.rx_session.specs.declared.open_session.OpenSession.{OpenSession}
use Rattle.rx_session.specs.declared.whole_session.Turned.{Turned}
use Rattle.rx_session.specs.declared.whole_session.Turned.TheVariants.{On, Over}
use Rattle.rx_lines.specs.declared.step.Step.{Step}
use Rattle.rx_lines.specs.declared.step.Step.TheVariants as steps
use Rattle.rx_session.proofs.ByTurns.{Through-line, line_on}

-- lines ahead, some and then others
Ahead-split : (bytes : List ℕ) (done left : List Asked) (rest : List ℕ) → Ahead bytes (done ++ left) rest → (mid : List ℕ) × Ahead bytes done mid × Ahead mid left rest
Ahead-split bytes [] left rest ahead = (bytes, refl, ahead)
Ahead-split bytes (note ∷ done) left rest (line, then, begins, asks, ahead) =
    let s = Ahead-split then done left rest ahead in (s.0, (line, then, begins, asks, s.1), s.2)

-- one line more
Ahead-push : (bytes : List ℕ) (notes : List Asked) (rest line left : List ℕ) (note : Asked)
    → Ahead bytes notes rest → BeginsWithLine rest line left → Asks (session_read (without_cr line)) note → Ahead bytes (notes ++ note ∷ []) left
Ahead-push bytes [] rest line left note ahead begins asks = (line, left, subst (λ (b : List ℕ). BeginsWithLine b line left) ahead begins, asks, refl)
Ahead-push bytes (n ∷ notes) rest line left note (l, then, b, a, ahead) begins asks = (l, then, b, a, Ahead-push then notes rest line left note ahead begins asks)

-- a note more was begun
pub IsBehind-more : {D : Type 0} (waits : D → List Asked → D → Type 0) (base : D) (notes : List Asked) (note : Asked) (now : D) → waits base (notes ++ note ∷ []) now → IsBehind waits base (notes ++ note ∷ []) now
IsBehind-more waits base [] note now w = w
IsBehind-more waits base (n ∷ notes) note now w = w

module _ {D W : Type 0} (p : Parties D W) where
  -- the item of a line was emitted
  goes : (reading : Result Command BadLine) (note : Asked) (at after : Place D W) → Asks reading note → Emits p at note.name note.note after → Goes p reading at after
  goes reading note at after asks emits =
      subst (λ (r : Result Command BadLine). Goes p r at after) (sym asks.1)
      (inl (subst (λ (n : Note). Emits p at note.name n after) asks.2 emits))

  -- the items of lines ahead were emitted
  pub Through-each : (start : Place D W) (first : List ℕ) (read_old read_now : Option (List ℕ)) (notes : List Asked) (at last : Place D W) (bytes rest : List ℕ)
      → Through p start first read_old read_now at bytes → Ahead bytes notes rest → EmitsEach p at notes last → Through p start first read_old read_now last rest
  Through-each start first read_old read_now [] at last bytes rest t ahead emits =
      subst (λ (b : List ℕ). Through p start first read_old read_now last b) (sym ahead)
      (subst (λ (a : Place D W). Through p start first read_old read_now a bytes) (sym emits) t)
  Through-each start first read_old read_now (note ∷ notes) at last bytes rest t (line, left, begins, asks, ahead) (after, emits, more) =
      Through-each start first read_old read_now notes after last left rest
      (Through-line p start first read_old read_now at after bytes line left t begins (goes (session_read (without_cr line)) note at after asks emits)) ahead more

  -- at one place, nothing begun
  pub stands_there : (waits : D → List Asked → D → Type 0) (at : Place D W) (desk : D) (writer : W) (version : Version) (held : List ℕ)
      → IsAt p at (hands desk writer version held) → StandsBehind p waits at [] (hands desk writer version held)
  stands_there waits at desk writer version held is = record {
    is_at = record { desk_is = refl; version_is = is.version_is; written = is.written; since = is.since; parts = is.parts };
    behind = sym is.desk_is;
  }

  -- and back
  pub is_there : (waits : D → List Asked → D → Type 0) (at : Place D W) (now : Hands D W) → StandsBehind p waits at [] now → IsAt p at now
  is_there waits at now s =
      record { desk_is = sym s.behind; version_is = s.is_at.version_is; written = s.is_at.written; since = s.is_at.since; parts = s.is_at.parts }

module _ {D W : Type 0} (p : Parties D W) (waits : D → List Asked → D → Type 0) where
  -- where nothing is left all is answered
  pub none_left : (at : Place D W) (notes : List Asked) (now : Place D W) (left : List Asked) (hand : Hands D W) (begun : ℕ) → length left ≡ begun → begun ≤ 0
      → StandsBehind p waits now left hand → ((last : Place D W) → EmitsEach p now left last → EmitsEach p at notes last)
      → (last : Place D W) × EmitsEach p at notes last × IsAt p last hand
  none_left at notes now [] hand begun count none stands emitted = (now, emitted now refl, is_there p waits now hand stands)
  none_left at notes now (note ∷ left) hand begun count none stands emitted = absurd (omega (arith, count, none))

  -- nothing was waited for
  pub waits_on : (at : Place D W) (notes : List Asked) (now : Hands D W) (begun : ℕ) → length notes ≡ begun → StandsBehind p waits at notes now → Answered p waits at notes now begun
  waits_on at notes now begun count stands = record { last = at; left = notes; answers = record { done = []; parts = refl; emitted = refl }; stands = stands; count = count }

  -- all was
  pub waited_all : (at last : Place D W) (notes : List Asked) (desk : D) (writer : W) (version : Version) (held : List ℕ) (begun : ℕ) → begun ≡ 0 → EmitsEach p at notes last → IsAt p last (hands desk writer version held)
      → Answered p waits at notes (hands desk writer version held) begun
  waited_all at last notes desk writer version held begun none emitted is = record {
    last = last;
    left = [];
    answers = record { done = notes; parts = append-nil notes; emitted = emitted };
    stands = stands_there p waits last desk writer version held is;
    count = sym none;
  }

  -- some were emitted, and then the others
  emitted_then : (at mid last : Place D W) (done left : List Asked) → EmitsEach p at done mid → EmitsEach p mid left last → EmitsEach p at (done ++ left) last
  emitted_then at mid last [] left e f = subst (λ (x : Place D W). EmitsEach p x left last) e f
  emitted_then at mid last (note ∷ done) left (after, emits, e) f = (after, emits, emitted_then after mid last done left e f)

  -- no item was begun, and all that were are answered
  pub answered_rest : (reading : Result Command BadLine) (at : Place D W) (notes : List Asked) (now after : Hands D W) (begun : ℕ) → Begins p waits false reading at notes now begun
      → ((at : Place D W) (notes : List Asked) → length notes ≡ begun → StandsBehind p waits at notes now → (last : Place D W) × EmitsEach p at notes last × IsAt p last after)
      → (last : Place D W) × EmitsEach p at notes last × IsAt p last after
  answered_rest reading at notes now after begun b all =
      let a = all b.last (b.left ++ b.new) b.count b.stands in
      let same : b.answers.done ++ (b.left ++ b.new) ≡ notes = ap (λ new. b.answers.done ++ (b.left ++ new)) b.is_begun ∙ ap (λ l. b.answers.done ++ l) (append-nil b.left) ∙ b.answers.parts in
      (a.0, subst (λ (ns : List Asked). EmitsEach p at ns a.0) same (emitted_then at b.last a.0 b.answers.done (b.left ++ b.new) b.answers.emitted a.1), a.2)

  -- the item of a line was begun behind those that are left, or not
  pub Begins-behind : (result : Bool) (reading : Result Command BadLine) (at : Place D W) (notes : List Asked) (desk desk_after : D) (writer : W) (version : Version) (held : List ℕ) (begun begun_after : ℕ)
      → Answered p waits at notes (hands desk writer version held) begun
      → ((base : D) (left : List Asked) → length left ≡ begun → IsBehind waits base left desk → (new : List Asked) × IsBegun result reading new × IsBehind waits base (left ++ new) desk_after)
      → ((new : List Asked) → IsBegun result reading new → begun + length new ≡ begun_after)
      → Begins p waits result reading at notes (hands desk_after writer version held) begun_after
  Begins-behind result reading at notes desk desk_after writer version held begun begun_after a begins more =
      let b = begins a.last.desk a.left a.count a.stands.behind in
      record {
        last = a.last;
        left = a.left;
        new = b.0;
        answers = a.answers;
        is_begun = b.1;
        stands = record { is_at = a.stands.is_at; behind = b.2 };
        count = length-append a.left b.0 ∙ ap (λ n. n + length b.0) a.count ∙ more b.0 b.1;
      }

  -- one response more is told
  pub answered_next : (at : Place D W) (notes : List Asked) (now : Place D W) (left : List Asked) (desk desk_after : D) (writer : W) (version : Version) (held held_after : List ℕ) (begun : ℕ) (response : Response)
      → length left ≡ begun → 0 < begun → StandsBehind p waits now left (hands desk writer version held) → ((last : Place D W) → EmitsEach p now left last → EmitsEach p at notes last)
      → ((base : D) (first : Asked) (rest : List Asked) → waits base (first ∷ rest) desk → (after : D) × p.emits base first.name first.note response after × IsBehind waits after rest desk_after)
      → held_after ≡ held ++ reply_line response
      → (then : Place D W) × (rest : List Asked) × (length rest ≡ begun - 1) × StandsBehind p waits then rest (hands desk_after writer version held_after)
      × ((last : Place D W) → EmitsEach p then rest last → EmitsEach p at notes last)
  answered_next at notes now [] desk desk_after writer version held held_after begun response count some stands emitted answers told = absurd (omega (arith, count, some))
  answered_next at notes now (note ∷ rest) desk desk_after writer version held held_after begun response count some stands emitted answers told =
      let a = answers now.desk note rest stands.behind in
      let is = stands.is_at in
      let then : Place D W = answered now a.0 response in (
        then,
        rest,
        omega (arith, count),
        record {
          is_at = record {
            desk_is = refl;
            version_is = is.version_is;
            written = is.written;
            since = is.since;
            parts = ap (λ h. is.written ++ h) told ∙ sym (append_assoc is.written held (reply_line response)) ∙ ap (λ t. t ++ reply_line response) is.parts;
          };
          behind = a.2;
        },
        λ last more. emitted last (then, (response, a.0, a.1, refl), more),
      )

  -- a session that is under way has begun nothing
  gathers_none : (start : Place D W) (first : List ℕ) (read_old read_now : Option (List ℕ)) (desk : D) (writer : W) (version : Version) (held : List ℕ) (quits skips : Bool) (unread : List ℕ) (begun : ℕ) → begun ≡ 0
      → IsOpen p start first read_old read_now (hands desk writer version held) quits skips unread → IsGathering p waits start first read_old read_now (hands desk writer version held) quits skips unread begun
  gathers_none start first read_old read_now desk writer version held false skips unread begun none l = record {
    at = l.at;
    bytes = l.rest;
    rest = l.rest;
    notes = [];
    through = l.through;
    ahead = refl;
    is_rest = l.is_rest;
    stands = stands_there p waits l.at desk writer version held l.is_at;
    count = sym none;
  }
  gathers_none start first read_old read_now desk writer version held true skips unread begun none l = (none, l)

  -- at first
  pub Gathering-begun : (start : Place D W) (first : List ℕ) (read_old read_now : Option (List ℕ)) (desk : D) (writer : W) (session : OpenSession) (begun : ℕ) → begun ≡ 0
      → Sitting p start first read_old read_now desk writer session → Gathering p waits start first read_old read_now desk writer session begun
  Gathering-begun start first read_old read_now desk writer session begun none s =
      gathers_none start first read_old read_now desk writer session.version session.outbox session.quits session.feed.skips (unread session.feed.lines) begun none s

  -- what goes on has read no QUIT
  pub gathers : (start : Place D W) (first : List ℕ) (read_old read_now : Option (List ℕ)) (now : Hands D W) (quits skips : Bool) (unread : List ℕ) (begun : ℕ) → quits ≡ false
      → IsGathering p waits start first read_old read_now now quits skips unread begun → Gathers p waits start first read_old read_now now skips unread begun
  gathers start first read_old read_now now quits skips unread begun is g = subst (λ (q : Bool). IsGathering p waits start first read_old read_now now q skips unread begun) is g

  gathering : (start : Place D W) (first : List ℕ) (read_old read_now : Option (List ℕ)) (now : Hands D W) (quits skips : Bool) (unread : List ℕ) (begun : ℕ) → quits ≡ false
      → Gathers p waits start first read_old read_now now skips unread begun → IsGathering p waits start first read_old read_now now quits skips unread begun
  gathering start first read_old read_now now quits skips unread begun is g = subst (λ (q : Bool). IsGathering p waits start first read_old read_now now q skips unread begun) (sym is) g

  -- what is unread goes by another name
  pub Gathering-kept : (start : Place D W) (first : List ℕ) (read_old read_now : Option (List ℕ)) (desk : D) (writer : W) (session : OpenSession) (feed : Feed) (begun : ℕ) → session.quits ≡ false
      → Gathering p waits start first read_old read_now desk writer session begun → ((rest : List ℕ) → IsRest session.feed.skips (unread session.feed.lines) rest → IsRest feed.skips (unread feed.lines) rest)
      → Gathering p waits start first read_old read_now desk writer (record session { feed = feed }) begun
  Gathering-kept start first read_old read_now desk writer session feed begun is gathered kept =
      let now = hands desk writer session.version session.outbox in
      let g = gathers start first read_old read_now now session.quits session.feed.skips (unread session.feed.lines) begun is gathered in
      gathering start first read_old read_now now session.quits feed.skips (unread feed.lines) begun is
      (record { at = g.at; bytes = g.bytes; rest = g.rest; notes = g.notes; through = g.through; ahead = g.ahead; is_rest = kept g.rest g.is_rest; stands = g.stands; count = g.count })

  -- all that was begun is answered
  answered_open : (start : Place D W) (first : List ℕ) (read_old read_now : Option (List ℕ)) (desk desk_after : D) (writer : W) (version : Version) (held held_after : List ℕ) (quits skips : Bool) (unread : List ℕ) (begun : ℕ)
      → IsGathering p waits start first read_old read_now (hands desk writer version held) quits skips unread begun
      → ((at : Place D W) (notes : List Asked) → length notes ≡ begun → StandsBehind p waits at notes (hands desk writer version held)
      → (last : Place D W) × EmitsEach p at notes last × IsAt p last (hands desk_after writer version held_after))
      → (begun ≡ 0 → (desk_after ≡ desk) × (held_after ≡ held))
      → IsOpen p start first read_old read_now (hands desk_after writer version held_after) quits skips unread
  answered_open start first read_old read_now desk desk_after writer version held held_after false skips unread begun g answered same =
      let a = answered g.at g.notes g.count g.stands in
      record { at = a.0; rest = g.rest; through = Through-each p start first read_old read_now g.notes g.at a.0 g.bytes g.rest g.through g.ahead a.1; is_rest = g.is_rest; is_at = a.2 }
  answered_open start first read_old read_now desk desk_after writer version held held_after true skips unread begun g answered same =
      let s = same g.0 in
      subst (λ (d : D). Leaves p start first read_old read_now (hands d writer version held_after)) (sym s.0)
      (subst (λ (h : List ℕ). Leaves p start first read_old read_now (hands desk writer version h)) (sym s.1) g.1)

  pub Sitting-answered : (start : Place D W) (first : List ℕ) (read_old read_now : Option (List ℕ)) (desk desk_after : D) (writer : W) (session : OpenSession) (held_after : List ℕ) (begun : ℕ)
      → Gathering p waits start first read_old read_now desk writer session begun
      → ((at : Place D W) (notes : List Asked) → length notes ≡ begun → StandsBehind p waits at notes (hands desk writer session.version session.outbox)
      → (last : Place D W) × EmitsEach p at notes last × IsAt p last (hands desk_after writer session.version held_after))
      → (begun ≡ 0 → (desk_after ≡ desk) × (held_after ≡ session.outbox))
      → Sitting p start first read_old read_now desk_after writer (record session { outbox = held_after })
  Sitting-answered start first read_old read_now desk desk_after writer session held_after begun g answered same =
      answered_open start first read_old read_now desk desk_after writer session.version session.outbox held_after session.quits session.feed.skips (unread session.feed.lines) begun g answered same

  -- what carrying out a line made of it, where nothing is begun any more
  gathered_none : (start : Place D W) (first : List ℕ) (read_old read_now : Option (List ℕ)) (result : Turned W) (desk : D) (session : OpenSession) (begun : ℕ) → begun ≡ 0
      → Carried p result start first read_old read_now desk session → Gathered p waits result start first read_old read_now desk session begun
  gathered_none start first read_old read_now (On writer) desk session begun none s = Gathering-begun start first read_old read_now desk writer session begun none s
  gathered_none start first read_old read_now (Over end back) desk session begun none s = s

  -- a line was carried out behind those whose items were begun
  line_behind : (start : Place D W) (first : List ℕ) (read_old read_now : Option (List ℕ)) (at : Place D W) (bytes rest line left : List ℕ) (notes : List Asked) (result : Turned W) (desk : D) (session : OpenSession) (begun : ℕ)
      → Through p start first read_old read_now at bytes → Ahead bytes notes rest → BeginsWithLine rest line left → IsRest session.feed.skips (unread session.feed.lines) left
      → CarriesBehind p waits session.quits (session_read (without_cr line)) at notes result desk session.version session.outbox begun
      → Gathered p waits result start first read_old read_now desk session begun
  line_behind start first read_old read_now at bytes rest line left notes result desk session begun t ahead begins is_rest (inl (writer, result_is, reads, b)) =
      let split = Ahead-split bytes b.answers.done b.left rest (subst (λ (ns : List Asked). Ahead bytes ns rest) (sym b.answers.parts) ahead) in
      let t_last = Through-each p start first read_old read_now b.answers.done at b.last bytes split.0 t split.1 b.answers.emitted in
      let pushed = Ahead-push split.0 b.left rest line left b.is_begun.0 split.2 begins b.is_begun.2 in
      let g : Gathers p waits start first read_old read_now (hands desk writer session.version session.outbox) session.feed.skips (unread session.feed.lines) begun = record {
        at = b.last;
        bytes = split.0;
        rest = left;
        notes = b.left ++ b.new;
        through = t_last;
        ahead = subst (λ (new : List Asked). Ahead split.0 (b.left ++ new) left) (sym b.is_begun.1) pushed;
        is_rest = is_rest;
        stands = b.stands;
        count = b.count;
      } in
      subst (λ (r : Turned W). Gathered p waits r start first read_old read_now desk session begun) (sym result_is)
      (gathering start first read_old read_now (hands desk writer session.version session.outbox) session.quits session.feed.skips (unread session.feed.lines) begun reads g)
  line_behind start first read_old read_now at bytes rest line left notes result desk session begun t ahead begins is_rest (inr c) =
      gathered_none start first read_old read_now result desk session begun c.count
      (line_on p start first read_old read_now c.last rest line left result desk session (Through-each p start first read_old read_now notes at c.last bytes rest t ahead c.emitted) begins is_rest c.carries)

  -- the same by what was told of the line
  pub carry_behind : (start : Place D W) (first : List ℕ) (read_old read_now : Option (List ℕ)) (now : Hands D W) (step : Step) (window : List ℕ) (skips : Bool) (unread_before : List ℕ) (feed : Feed) (result : Turned W) (desk : D) (session : OpenSession) (begun_before begun : ℕ)
      → Gathers p waits start first read_old read_now now skips unread_before begun_before
      → ((rest : List ℕ) → IsRest skips unread_before rest → TellsOf (Some step) rest window feed.skips (unread feed.lines)) → session.feed ≡ feed
      → ((line : List ℕ) (at : Place D W) (notes : List Asked) → IsLine step line window → length notes ≡ begun_before → StandsBehind p waits at notes now
      → CarriesBehind p waits session.quits (session_read line) at notes result desk session.version session.outbox begun)
      → Gathered p waits result start first read_old read_now desk session begun
  carry_behind start first read_old read_now now (steps.Line len) window skips unread_before feed result desk session begun_before begun g tells same carries =
      let t = tells g.rest g.is_rest in
      line_behind start first read_old read_now g.at g.bytes g.rest t.line t.left g.notes result desk session begun g.through g.ahead t.begins
      (subst (λ (f : Feed). IsRest f.skips (unread f.lines) t.left) (sym same) t.is_rest) (carries (without_cr t.line) g.at g.notes t.said g.count g.stands)
  carry_behind start first read_old read_now now steps.Long window skips unread_before feed result desk session begun_before begun g tells same carries =
      let t = tells g.rest g.is_rest in
      line_behind start first read_old read_now g.at g.bytes g.rest t.line t.left g.notes result desk session begun g.through g.ahead t.begins
      (subst (λ (f : Feed). IsRest f.skips (unread f.lines) t.left) (sym same) t.is_rest) (carries (without_cr t.line) g.at g.notes t.said g.count g.stands)
  carry_behind start first read_old read_now now steps.EndOfInput window skips unread_before feed result desk session begun_before begun g tells same carries = absurd (tells g.rest g.is_rest)
  carry_behind start first read_old read_now now steps.ReadFault window skips unread_before feed result desk session begun_before begun g tells same carries = absurd (tells g.rest g.is_rest)
  carry_behind start first read_old read_now now steps.TooManyReads window skips unread_before feed result desk session begun_before begun g tells same carries = absurd (tells g.rest g.is_rest)
