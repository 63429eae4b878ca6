-- Notes that a session's desk began to emit: what was posted for them, and what an answer makes of it.
use Rattle.std.proofs.Common.{◌≡◌, ◌<◌, ◌+◌, ◌-◌, ◌∙◌, ℕ, Bool, false, List, [], ◌∷◌, ◌++◌, length, map, get_or, Option, Some, None, MatchOption, Result, Ok, Err, refl, sym, ap, subst, inl, inr, append_assoc, arith}
use Rattle.std.proofs.lemmas.Bool.{cases_Bool}
use Rattle.std.proofs.lemmas.List.{length-map, map-append, nil_from_length}
use Rattle.std.proofs.lemmas.List.Elements.{All-tail}
use Rattle.std.specs.List.{All, remove}
use Rattle.rx_mailbox.specs.Boxes.{Incoming}
use Rattle.rx_note.specs.declared.event.Event.{Event}
use Rattle.rx_note.specs.declared.event.Event.TheVariants.{Emit}
use Rattle.rx_note.specs.declared.note.Note.{Note}
use Rattle.rx_proto.specs.declared.response.Response.{Response}
use Rattle.rx_proto.specs.declared.response.Response.TheVariants.{Refused}
use Rattle.rx_proto.specs.declared.word.Word.TheVariants as words
use Rattle.rx_pump.specs.Desks.{Awaits, Called, DeskView, IsOver, IsPosted, IsSent, KeepsDesk, ReceivesReply, is_strange}
use Rattle.rx_pump.specs.Pumps.{port_place}
use Rattle.rx_pump.specs.declared.call_desk.call_error.CallError.{CallError}
use Rattle.rx_pump.specs.declared.call_desk.call_error.CallError.TheVariants.{SubjectGone, Strange}
use Rattle.rx_pump.specs.declared.reply.Reply.{Reply}
use Rattle.rx_session.specs.Begun.{Asked, IsBehind, asked}
use Rattle.rx_config.specs.declared.subject_config.SubjectConfig.{SubjectConfig}
use Rattle.rx_desk.specs.declared.begun_call.BegunCall.{BegunCall}
use Rattle.rx_desk.specs.declared.client_sink.ClientSink.{ClientSink}
use Rattle.rx_desk.specs.Queues.{GoesBehind, PostsOne, PostsEach, TellsEach, Waits, with_waiting}
use Rattle.rx_desk.specs.Responses.{response_of}
use Rattle.rx_desk.specs.SessionDesks.{CallsOnce, EmitsAt, SessionView, emits, no_queue, place_of}

-- the first of a list, and the others
pub first-removed : {X : Type 0} (xs : List X) (x : X) → 0 < length xs → x ≡ get_or xs 0 x → xs ≡ x ∷ remove xs 0
first-removed [] x some is = absurd (omega (arith, some))
first-removed (y ∷ ys) x some is = ap (λ z. z ∷ ys) (sym is)

-- what is so of each is so of the others
pub others-stay : {X : Type 0} (P : X → Type 0) (xs : List X) → All P xs → All P (remove xs 0)
others-stay P [] all = all
others-stay P (y ∷ ys) all = All-tail P y ys all

-- WHAT WAS POSTED

module _ {S : Type 0} where
  -- a desk with this inbox, which is over or not
  abbrev with_inbox : DeskView S → Incoming (Reply S) → Bool → DeskView S
  with_inbox desk inbox is_over = record { ports = desk.ports; inbox = inbox; ended = desk.ended; tickets = desk.tickets; is_over = is_over }

  -- a desk keeps how many ports it has
  pub KeepsDesk-count : (before after : DeskView S) → KeepsDesk before after → length after.ports + length after.ended ≡ length before.ports + length before.ended
  KeepsDesk-count before after kept =
      let ports : length after.ports ≡ length before.ports = sym (length-map after.ports port_place) ∙ ap length kept.ports ∙ length-map before.ports port_place in
      let ended : length after.ended ≡ length before.ended = ap length kept.ended in
      omega (arith, ports, ended)

  -- what is kept of a call that was posted
  pub PostsOne-posted : (before after : DeskView S) (call : BegunCall) → IsPosted before after call.place call.event → KeepsDesk before after → PostsOne before after call
  PostsOne-posted before after call p kept = record { goes = λ last. p.goes (inr last); sent = p.sent; kept = kept; inbox = p.inbox; is_over = p.is_over }

  -- nothing was received meanwhile
  PostsEach-inbox : (before : DeskView S) (calls : List BegunCall) (after : DeskView S) → PostsEach before calls after → after.inbox ≡ before.inbox
  PostsEach-inbox before [] after p = ap (λ (d : DeskView S). d.inbox) p
  PostsEach-inbox before (call ∷ calls) after p = PostsEach-inbox p.0 calls after p.2 ∙ p.1.inbox

  -- and the desk makes calls to the end, if it did at first
  PostsEach-is_over : (before : DeskView S) (calls : List BegunCall) (after : DeskView S) → PostsEach before calls after → after.is_over ≡ before.is_over
  PostsEach-is_over before [] after p = ap (λ (d : DeskView S). d.is_over) p
  PostsEach-is_over before (call ∷ calls) after p = PostsEach-is_over p.0 calls after p.2 ∙ p.1.is_over

  -- each call has a ticket
  PostsEach-tickets : (before : DeskView S) (calls : List BegunCall) (after : DeskView S) → PostsEach before calls after → after.tickets ≡ before.tickets + length calls
  PostsEach-tickets before [] after p = let same : after.tickets ≡ before.tickets = ap (λ (d : DeskView S). d.tickets) p in omega (arith, same)
  PostsEach-tickets before (call ∷ calls) after p =
      let rest : after.tickets ≡ p.0.tickets + length calls = PostsEach-tickets p.0 calls after p.2 in
      let one : p.0.tickets ≡ before.tickets + 1 = p.1.sent.tickets in
      omega (arith, rest, one)

  -- one call more
  PostsEach-push : (before : DeskView S) (calls : List BegunCall) (mid after : DeskView S) (call : BegunCall)
      → PostsEach before calls mid → PostsOne mid after call → PostsEach before (calls ++ call ∷ []) after
  PostsEach-push before [] mid after call p one = (after, subst (λ (d : DeskView S). PostsOne d after call) p one, refl)
  PostsEach-push before (first ∷ calls) mid after call p one = (p.0, p.1, PostsEach-push p.0 calls mid after call p.2 one)

  -- what a call put doesn't depend on what is received later
  IsSent-inbox : (before after : DeskView S) (subject : ℕ) (event : Event) (inbox : Incoming (Reply S)) (is_over : Bool) → IsSent before after subject event None
      → IsSent before (with_inbox after inbox is_over) subject event None
  IsSent-inbox before after subject event inbox is_over sent = record { is_new = sent.is_new; put = sent.put; tickets = sent.tickets; ended = sent.ended }

  -- nor what several put
  PostsEach-received : (before : DeskView S) (calls : List BegunCall) (after : DeskView S) (inbox : Incoming (Reply S)) (is_over : Bool)
      → PostsEach before calls after → PostsEach (with_inbox before inbox is_over) calls (with_inbox after inbox is_over)
  PostsEach-received before [] after inbox is_over p = ap (λ (d : DeskView S). with_inbox d inbox is_over) p
  PostsEach-received before (call ∷ calls) after inbox is_over p = (
    with_inbox p.0 inbox is_over,
    record {
      goes = p.1.goes;
      sent = record { is_new = p.1.sent.is_new; put = p.1.sent.put; tickets = p.1.sent.tickets; ended = p.1.sent.ended };
      kept = record { ports = p.1.kept.ports; box = refl; count = refl; ended = p.1.kept.ended };
      inbox = refl;
      is_over = refl;
    },
    PostsEach-received p.0 calls after inbox is_over p.2,
  )

  -- WHAT AN ANSWER DID

  -- it changed the inbox, and whether the desk is over
  Awaits-inbox : (before after : DeskView S) (subject ticket : ℕ) (answered : Result (Reply S) (CallError S)) → Awaits before after subject ticket answered → after ≡ with_inbox before after.inbox after.is_over
  Awaits-inbox before after subject ticket answered a = elim (cases_Bool before.is_over) [
    | inl over ↦
        let same : after ≡ before = (a.over over).1 in
        same ∙ ap (λ (d : DeskView S). with_inbox before d.inbox d.is_over) (sym same)
    | inr goes ↦
        let is : after ≡ with_inbox before after.inbox (is_strange answered) = (a.receives goes).1 in
        is ∙ ap (λ (b : Bool). with_inbox before after.inbox b) (sym (ap (λ (d : DeskView S). d.is_over) is))
  ]

  -- a call whose answer was received
  called_so : (base first : DeskView S) (inbox : Incoming (Reply S)) (is_over : Bool) (subject : ℕ) (event : Event) (answered : Result (Reply S) (CallError S))
      → IsSent base first subject event None → base.is_over ≡ false → is_over ≡ is_strange answered → ReceivesReply base.inbox inbox subject (base.tickets + 1) answered
      → Called base (with_inbox first inbox is_over) subject event None answered
  called_so base first inbox is_over subject event (Ok reply) sent goes over r = (IsSent-inbox base first subject event inbox is_over sent, r.0, r.1, over ∙ sym goes)
  called_so base first inbox is_over subject event (Err (SubjectGone back)) sent goes over r = inr (IsSent-inbox base first subject event inbox is_over sent, r.0, over ∙ sym goes, r.1)
  called_so base first inbox is_over subject event (Err (Strange back)) sent goes over r = (IsSent-inbox base first subject event inbox is_over sent, r, over)

  -- THE FIRST CALL that was posted, once its answer came, is a call like one that was made alone
  Called-posted : (base first now after : DeskView S) (subject ticket : ℕ) (event : Event) (answered : Result (Reply S) (CallError S))
      → IsSent base first subject event None → now.inbox ≡ base.inbox → now.is_over ≡ base.is_over → ticket ≡ base.tickets + 1 → Awaits now after subject ticket answered
      → Called base (with_inbox first after.inbox after.is_over) subject event None answered
  Called-posted base first now after subject ticket event answered sent same_inbox same_over ticket_is a = elim (cases_Bool now.is_over) [
    | inl over ↦
        let gone = a.over over in
        subst (λ (r : Result (Reply S) (CallError S)). Called base (with_inbox first after.inbox after.is_over) subject event None r) (sym gone.0)
        (inr (IsSent-inbox base first subject event after.inbox after.is_over sent, ap (λ (d : DeskView S). d.inbox) gone.1 ∙ same_inbox, ap (λ (d : DeskView S). d.is_over) gone.1 ∙ same_over, refl))
    | inr goes ↦
        let got = a.receives goes in
        called_so base first after.inbox after.is_over subject event answered sent (sym same_over ∙ goes) (ap (λ (d : DeskView S). d.is_over) got.1)
        (subst (λ (n : ℕ). ReceivesReply base.inbox after.inbox subject n answered) ticket_is
        (subst (λ (i : Incoming (Reply S)). ReceivesReply i after.inbox subject ticket answered) same_inbox got.0))
  ]

  -- a desk that was over when it posted had no answer
  over_so : (base first now after : DeskView S) (ticket : ℕ) (call : BegunCall) (answered : Result (Reply S) (CallError S))
      → PostsOne base first call → now.is_over ≡ base.is_over → Awaits now after call.place ticket answered → IsOver base → answered ≡ Err (SubjectGone None)
  over_so base first now after ticket call answered p same_over a (inl over) = (a.over (same_over ∙ over)).0
  over_so base first now after ticket call answered p same_over a (inr last) = absurd (p.goes last)

-- THE NOTES THAT ARE BEGUN

-- one note more
TellsEach-push : {M : Type 0} (tells : M → ℕ → M → Type 0) (subjects : List SubjectConfig) (before : M) (begun : List Asked) (calls : List BegunCall) (mid after : M) (next : Asked) (at : ℕ) (call : BegunCall)
    → TellsEach tells subjects before begun calls mid → tells mid at after → call.event ≡ Emit next.note at → place_of next.name subjects ≡ Some call.place
    → TellsEach tells subjects before (begun ++ next ∷ []) (calls ++ call ∷ []) after
TellsEach-push {M = M} tells subjects before [] [] mid after next at call told one event named =
    (at, after, subst (λ (m : M). tells m at after) told one, event, named, refl)
TellsEach-push tells subjects before [] (other ∷ calls) mid after next at call told one event named = absurd told
TellsEach-push tells subjects before (first ∷ begun) [] mid after next at call told one event named = absurd told
TellsEach-push tells subjects before (first ∷ begun) (other ∷ calls) mid after next at call told one event named =
    (told.0, told.1, told.2, told.3, told.4, TellsEach-push tells subjects told.1 begun calls mid after next at call told.5 one event named)

module _ {M W : Type 0} where
  -- what a desk keeps of what it began, whatever it posts or has answered
  pub record KeepsBegun (before after : SessionView M (ClientSink W)) : Type 0 where
    pub subjects : after.subjects ≡ before.subjects
    pub window : after.window ≡ before.window
    pub moments : after.moments ≡ before.moments
    pub joined : after.joined ≡ before.joined

  -- a note more was begun, by this call
  pub record BeginsOne (before after : SessionView M (ClientSink W)) (tells : M → ℕ → M → Type 0) (name : List ℕ) (note : Note) (call : BegunCall) : Type 0 where
    pub at : ℕ
    pub told : tells before.moments at after.moments
    pub event : call.event ≡ Emit note at
    pub named : place_of name before.subjects ≡ Some call.place
    pub subjects : after.subjects ≡ before.subjects
    pub window : after.window ≡ before.window
    pub calls : after.calls ≡ before.calls
    pub joined : after.joined ≡ before.joined
    pub posted : after.queue.posted ≡ before.queue.posted
    pub waiting : after.queue.waiting ≡ before.queue.waiting ++ call ∷ []

  -- a desk with these moments and calls, in whose queue nothing is
  abbrev freed : SessionView M (ClientSink W) → M → DeskView (ClientSink W) → SessionView M (ClientSink W)
  freed now moments calls =
      record { subjects = now.subjects; window = now.window; moments = moments; calls = calls; joined = now.joined; queue = record { posted = []; waiting = [] } }

  freed_is : (now : SessionView M (ClientSink W)) (moments : M) (calls : DeskView (ClientSink W)) → now.moments ≡ moments → now.calls ≡ calls → now.queue.posted ≡ [] → now.queue.waiting ≡ []
      → now ≡ freed now moments calls
  freed_is now moments calls moments_are calls_are none_posted none_waits =
      ap (λ (m : M). record { subjects = now.subjects; window = now.window; moments = m; calls = now.calls; joined = now.joined; queue = now.queue }) moments_are
      ∙ ap (λ (c : DeskView (ClientSink W)). record { subjects = now.subjects; window = now.window; moments = moments; calls = c; joined = now.joined; queue = now.queue }) calls_are
      ∙ ap (λ (ps : List ℕ). record { subjects = now.subjects; window = now.window; moments = moments; calls = calls; joined = now.joined; queue = record { posted = ps; waiting = now.queue.waiting } }) none_posted
      ∙ ap (λ (cs : List BegunCall). record { subjects = now.subjects; window = now.window; moments = moments; calls = calls; joined = now.joined; queue = record { posted = []; waiting = cs } }) none_waits

  -- a queue in which nothing is
  none_queued : (base : SessionView M (ClientSink W)) → base.queue.posted ≡ [] → base.queue.waiting ≡ [] → no_queue ≡ base.queue
  none_queued base none_posted none_waits =
      ap (λ (ps : List ℕ). record { posted = ps; waiting = [] }) (sym none_posted)
      ∙ ap (λ (cs : List BegunCall). record { posted = base.queue.posted; waiting = cs }) (sym none_waits)

module _ {M W : Type 0} (tells : M → ℕ → M → Type 0) where
  -- ONE MORE IS BEGUN
  pub Waits-begun : (base old now : SessionView M (ClientSink W)) (begun : List Asked) (name : List ℕ) (note : Note) (behind : ℕ) (call : BegunCall)
      → GoesBehind old behind → BeginsOne old now tells name note call
      → length begun ≡ behind → IsBehind (Waits tells) base begun old → Waits tells base (begun ++ asked name note ∷ []) now
  Waits-begun base old now [] name note behind call goes one count is =
      let none_posted : old.queue.posted ≡ [] = nil_from_length old.queue.posted (goes.count ∙ sym count) in
      let waiting : now.queue.waiting ≡ call ∷ [] = one.waiting ∙ ap (λ (cs : List BegunCall). cs ++ call ∷ []) goes.none_waits in
      subst (λ (b : SessionView M (ClientSink W)). Waits tells b (asked name note ∷ []) now) is
      (record {
        none_waits = goes.none_waits;
        none_posted = none_posted;
        posted = [];
        told =
            subst (λ (cs : List BegunCall). TellsEach tells old.subjects old.moments (asked name note ∷ []) cs now.moments) (sym waiting)
            (one.at, now.moments, one.told, one.event, one.named, refl);
        calls = one.calls;
        places = one.posted ∙ none_posted;
        subjects = one.subjects;
        window = one.window;
        joined = one.joined;
      })
  Waits-begun base old now (first ∷ rest) name note behind call goes one count w =
      let waiting : (w.posted ++ old.queue.waiting) ++ call ∷ [] ≡ w.posted ++ now.queue.waiting =
      append_assoc w.posted old.queue.waiting (call ∷ []) ∙ ap (λ (cs : List BegunCall). w.posted ++ cs) (sym one.waiting) in
      let named : place_of name base.subjects ≡ Some call.place = ap (place_of name) (sym w.subjects) ∙ one.named in
      record {
        none_waits = w.none_waits;
        none_posted = w.none_posted;
        posted = w.posted;
        told =
            subst (λ (cs : List BegunCall). TellsEach tells base.subjects base.moments ((first ∷ rest) ++ asked name note ∷ []) cs now.moments) waiting
            (TellsEach-push tells base.subjects base.moments (first ∷ rest) (w.posted ++ old.queue.waiting) old.moments now.moments (asked name note) one.at call w.told one.told one.event named);
        calls = subst (λ (d : DeskView (ClientSink W)). PostsEach base.calls w.posted d) (sym one.calls) w.calls;
        places = one.posted ∙ w.places;
        subjects = one.subjects ∙ w.subjects;
        window = one.window ∙ w.window;
        joined = one.joined ∙ w.joined;
      }

  -- ONE MORE IS POSTED, the first that waited
  pub Waits-posted : (base old now : SessionView M (ClientSink W)) (begun : List Asked) (call : BegunCall)
      → KeepsBegun old now → old.queue.waiting ≡ call ∷ now.queue.waiting → PostsOne old.calls now.calls call → now.queue.posted ≡ old.queue.posted ++ call.place ∷ []
      → Waits tells base begun old → Waits tells base begun now
  Waits-posted base old now begun call kept waiting one posted w =
      let all : w.posted ++ old.queue.waiting ≡ (w.posted ++ call ∷ []) ++ now.queue.waiting =
      ap (λ (cs : List BegunCall). w.posted ++ cs) waiting ∙ sym (append_assoc w.posted (call ∷ []) now.queue.waiting) in
      record {
        none_waits = w.none_waits;
        none_posted = w.none_posted;
        posted = w.posted ++ call ∷ [];
        told =
            subst (λ (m : M). TellsEach tells base.subjects base.moments begun ((w.posted ++ call ∷ []) ++ now.queue.waiting) m) (sym kept.moments)
            (subst (λ (cs : List BegunCall). TellsEach tells base.subjects base.moments begun cs old.moments) all w.told);
        calls = PostsEach-push base.calls w.posted old.calls now.calls call w.calls one;
        places = posted ∙ ap (λ (ps : List ℕ). ps ++ call.place ∷ []) w.places ∙ sym (map-append (λ (c : BegunCall). c.place) w.posted (call ∷ []));
        subjects = kept.subjects ∙ w.subjects;
        window = kept.window ∙ w.window;
        joined = kept.joined ∙ w.joined;
      }

  -- ITS CALL WAITS, and nothing else changed
  pub Waits-waiting : (base old now : SessionView M (ClientSink W)) (begun : List Asked) (call : BegunCall)
      → KeepsBegun old now → now.calls ≡ old.calls → now.queue.waiting ≡ old.queue.waiting ++ call ∷ [] → now.queue.posted ≡ old.queue.posted
      → Waits tells base begun (with_waiting call old) → Waits tells base begun now
  Waits-waiting base old now begun call kept calls waiting posted w = record {
    none_waits = w.none_waits;
    none_posted = w.none_posted;
    posted = w.posted;
    told =
        subst (λ (m : M). TellsEach tells base.subjects base.moments begun (w.posted ++ now.queue.waiting) m) (sym kept.moments)
        (subst (λ (cs : List BegunCall). TellsEach tells base.subjects base.moments begun (w.posted ++ cs) old.moments) (sym waiting) w.told);
    calls = subst (λ (d : DeskView (ClientSink W)). PostsEach base.calls w.posted d) (sym calls) w.calls;
    places = posted ∙ w.places;
    subjects = kept.subjects ∙ w.subjects;
    window = kept.window ∙ w.window;
    joined = kept.joined ∙ w.joined;
  }

  -- THE FIRST IS ANSWERED

  -- what the others wait behind then
  behind : (base now : SessionView M (ClientSink W)) (moments : M) (calls : DeskView (ClientSink W)) (rest : List Asked) (posted waiting : List BegunCall) → now.queue.waiting ≡ waiting
      → now.subjects ≡ base.subjects → TellsEach tells base.subjects moments rest (posted ++ waiting) now.moments → PostsEach calls posted now.calls
      → now.queue.posted ≡ map (λ (c : BegunCall). c.place) posted → IsBehind (Waits tells) (freed now moments calls) rest now
  behind base now moments calls [] [] [] waiting_are subjects told posts places = freed_is now moments calls told posts places waiting_are
  behind base now moments calls [] [] (call ∷ waiting) waiting_are subjects told posts places = absurd told
  behind base now moments calls [] (call ∷ posted) waiting waiting_are subjects told posts places = absurd told
  behind base now moments calls (next ∷ rest) posted waiting waiting_are subjects told posts places = record {
    none_waits = refl;
    none_posted = refl;
    posted = posted;
    told =
        subst (λ s. TellsEach tells s moments (next ∷ rest) (posted ++ now.queue.waiting) now.moments) (sym subjects)
        (subst (λ (cs : List BegunCall). TellsEach tells base.subjects moments (next ∷ rest) (posted ++ cs) now.moments) (sym waiting_are) told);
    calls = posts;
    places = places;
    subjects = refl;
    window = refl;
    joined = refl;
  }

  -- a note was emitted at the subject of its name
  emits_at : (base after : SessionView M (ClientSink W)) (name : List ℕ) (note : Note) (response : Response) (subject : ℕ) → place_of name base.subjects ≡ Some subject
      → EmitsAt tells base note response after subject → emits tells base name note response after
  emits_at base after name note response subject named at =
      subst (λ (o : Option ℕ). MatchOption o ((response ≡ Refused words.Subject) × (after ≡ base)) (EmitsAt tells base note response after)) (sym named) at

  -- one that was posted
  pub Waits-answered : (base old now : SessionView M (ClientSink W)) (first : Asked) (rest : List Asked) (place ticket : ℕ) (answered : Result (Reply (ClientSink W)) (CallError (ClientSink W))) (response : Response)
      → KeepsBegun old now → now.queue.waiting ≡ old.queue.waiting → old.queue.posted ≡ place ∷ now.queue.posted → ticket ≡ old.calls.tickets - length old.queue.posted + 1
      → Awaits old.calls now.calls place ticket answered → KeepsDesk old.calls now.calls → response ≡ response_of answered
      → Waits tells base (first ∷ rest) old
      → (after : SessionView M (ClientSink W)) × emits tells base first.name first.note response after × IsBehind (Waits tells) after rest now
  Waits-answered base old now first rest place ticket answered response kept waiting posted ticket_is awaits keeps response_is w =
      answered-posted w.posted refl
    where
      answered-posted : (calls : List BegunCall) → w.posted ≡ calls → (after : SessionView M (ClientSink W)) × emits tells base first.name first.note response after × IsBehind (Waits tells) after rest now
      answered-posted [] are = absurd (let none : place ∷ now.queue.posted ≡ [] = sym posted ∙ w.places ∙ ap (map (λ (c : BegunCall). c.place)) are in cc)
      answered-posted (call ∷ calls) are =
          let told : TellsEach tells base.subjects base.moments (first ∷ rest) (call ∷ (calls ++ old.queue.waiting)) old.moments =
          subst (λ (cs : List BegunCall). TellsEach tells base.subjects base.moments (first ∷ rest) (cs ++ old.queue.waiting) old.moments) are w.told in
          let posts : PostsEach base.calls (call ∷ calls) old.calls = subst (λ (cs : List BegunCall). PostsEach base.calls cs old.calls) are w.calls in
          let places : place ∷ now.queue.posted ≡ call.place ∷ map (λ (c : BegunCall). c.place) calls = sym posted ∙ w.places ∙ ap (map (λ (c : BegunCall). c.place)) are in
          let its : place ≡ call.place = cc in
          let left_places : now.queue.posted ≡ map (λ (c : BegunCall). c.place) calls = cc in
          let count : length old.queue.posted ≡ length (call ∷ calls) = ap length w.places ∙ length-map w.posted (λ (c : BegunCall). c.place) ∙ ap length are in
          let tickets : old.calls.tickets ≡ base.calls.tickets + length (call ∷ calls) = PostsEach-tickets base.calls (call ∷ calls) old.calls posts in
          let same_inbox : old.calls.inbox ≡ base.calls.inbox = PostsEach-inbox base.calls (call ∷ calls) old.calls posts in
          let same_over : old.calls.is_over ≡ base.calls.is_over = PostsEach-is_over base.calls (call ∷ calls) old.calls posts in
          let its_ticket : ticket ≡ base.calls.tickets + 1 = omega (arith, ticket_is, tickets, count) in
          let its_answer : Awaits old.calls now.calls call.place ticket answered = subst (λ (n : ℕ). Awaits old.calls now.calls n ticket answered) its awaits in
          let then : DeskView (ClientSink W) = with_inbox posts.0 now.calls.inbox now.calls.is_over in
          let called = Called-posted base.calls posts.0 old.calls now.calls call.place ticket call.event answered posts.1.sent same_inbox same_over its_ticket its_answer in
          let once : CallsOnce tells base (freed now told.1 then) call.place (λ at. Emit first.note at) None answered = record {
            at = told.0;
            told = told.2;
            called = subst (λ (e : Event). Called base.calls then call.place e None answered) told.3 called;
            over = over_so base.calls posts.0 old.calls now.calls ticket call answered posts.1 same_over its_answer;
            kept = record {
              subjects = kept.subjects ∙ w.subjects;
              window = kept.window ∙ w.window;
              calls = record {
                ports = posts.1.kept.ports;
                box = keeps.box ∙ ap (λ (i : Incoming (Reply (ClientSink W))). i.box) same_inbox;
                count = keeps.count ∙ ap (λ (i : Incoming (Reply (ClientSink W))). i.ports) same_inbox;
                ended = posts.1.kept.ended;
              };
            };
          } in
          let others : TellsEach tells base.subjects told.1 rest (calls ++ old.queue.waiting) now.moments =
          subst (λ (m : M). TellsEach tells base.subjects told.1 rest (calls ++ old.queue.waiting) m) (sym kept.moments) told.5 in
          let left : PostsEach then calls now.calls =
          subst (λ (d : DeskView (ClientSink W)). PostsEach then calls d) (sym (Awaits-inbox old.calls now.calls call.place ticket answered its_answer))
          (PostsEach-received posts.0 calls old.calls now.calls.inbox now.calls.is_over posts.2) in (
            freed now told.1 then,
            emits_at base (freed now told.1 then) first.name first.note response call.place told.4
                (answered, once, response_is, kept.joined ∙ w.joined, none_queued base w.none_posted w.none_waits),
            behind base now told.1 then rest calls old.queue.waiting waiting (kept.subjects ∙ w.subjects) others left left_places,
          )

  -- one that waited, where none was posted: its call is made alone
  pub Waits-called : (base old now : SessionView M (ClientSink W)) (first : Asked) (rest : List Asked) (call : BegunCall) (answered : Result (Reply (ClientSink W)) (CallError (ClientSink W))) (response : Response)
      → KeepsBegun old now → old.queue.waiting ≡ call ∷ now.queue.waiting → old.queue.posted ≡ [] → now.queue.posted ≡ old.queue.posted
      → Called old.calls now.calls call.place call.event None answered → KeepsDesk old.calls now.calls → (IsOver old.calls → answered ≡ Err (SubjectGone None)) → response ≡ response_of answered
      → Waits tells base (first ∷ rest) old
      → (after : SessionView M (ClientSink W)) × emits tells base first.name first.note response after × IsBehind (Waits tells) after rest now
  Waits-called base old now first rest call answered response kept waiting none posted called keeps over response_is w =
      let nothing : w.posted ≡ [] = nil_from_length w.posted (sym (length-map w.posted (λ (c : BegunCall). c.place)) ∙ ap length (sym w.places ∙ none)) in
      let told : TellsEach tells base.subjects base.moments (first ∷ rest) (call ∷ now.queue.waiting) old.moments =
      subst (λ (cs : List BegunCall). TellsEach tells base.subjects base.moments (first ∷ rest) cs old.moments) waiting
      (subst (λ (cs : List BegunCall). TellsEach tells base.subjects base.moments (first ∷ rest) (cs ++ old.queue.waiting) old.moments) nothing w.told) in
      let same : old.calls ≡ base.calls = subst (λ (cs : List BegunCall). PostsEach base.calls cs old.calls) nothing w.calls in
      let once : CallsOnce tells base (freed now told.1 now.calls) call.place (λ at. Emit first.note at) None answered = record {
        at = told.0;
        told = told.2;
        called =
            subst (λ (e : Event). Called base.calls now.calls call.place e None answered) told.3
            (subst (λ (d : DeskView (ClientSink W)). Called d now.calls call.place call.event None answered) same called);
        over = subst (λ (d : DeskView (ClientSink W)). IsOver d → answered ≡ Err (SubjectGone None)) same over;
        kept = record {
          subjects = kept.subjects ∙ w.subjects;
          window = kept.window ∙ w.window;
          calls = subst (λ (d : DeskView (ClientSink W)). KeepsDesk d now.calls) same keeps;
        };
      } in
      let others : TellsEach tells base.subjects told.1 rest now.queue.waiting now.moments = subst (λ (m : M). TellsEach tells base.subjects told.1 rest now.queue.waiting m) (sym kept.moments) told.5 in (
        freed now told.1 now.calls,
        emits_at base (freed now told.1 now.calls) first.name first.note response call.place told.4
            (answered, once, response_is, kept.joined ∙ w.joined, none_queued base w.none_posted w.none_waits),
        behind base now told.1 now.calls rest [] now.queue.waiting refl (kept.subjects ∙ w.subjects) others refl (posted ∙ none),
      )

  -- where nothing waits and nothing was posted no note was begun
  pub Waits-none : (base old : SessionView M (ClientSink W)) (first : Asked) (rest : List Asked) → old.queue.waiting ≡ [] → old.queue.posted ≡ [] → ¬ Waits tells base (first ∷ rest) old
  Waits-none base old first rest none_waits none_posted w =
      let nothing : w.posted ≡ [] = nil_from_length w.posted (sym (length-map w.posted (λ (c : BegunCall). c.place)) ∙ ap length (sym w.places ∙ none_posted)) in
      subst (λ (cs : List BegunCall). TellsEach tells base.subjects base.moments (first ∷ rest) cs old.moments) none_waits
      (subst (λ (cs : List BegunCall). TellsEach tells base.subjects base.moments (first ∷ rest) (cs ++ old.queue.waiting) old.moments) nothing w.told)
