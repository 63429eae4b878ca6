-- What sinks have taken, note by note.
use Rattle.std.proofs.Common.{◌≡◌, ◌∙◌, sym, refl, ap, subst, ℕ, ◌+◌, ◌-◌, ◌^◌, ◌<◌, min, ◌↔◌, IsTrue, Bool, true, false, List, [], ◌∷◌, ◌++◌, append_assoc, append-nil, length, map, Option, arith}
use Rattle.std.proofs.KnownBytes.{Appends-nil, Appends-trans}
use Rattle.std.specs.List.{concat, FoldsTo}
use Rattle.std.specs.Io.KnownBytes.{Appends}
use Rattle.rx_note.specs.declared.note.Note.{Note}
use Rattle.rx_proto.specs.Bytes.{AppendsPrefix}
use Rattle.rx_proto.specs.Printing.{joined_line, note_line}
use Rattle.rx_proto.specs.declared.version.Version.{Version}
use Rattle.rx_sink.specs.declared.flow.Flow.{Flow}
use Rattle.rx_sink.specs.Acts.{Acts, Step, Takes, Flushes, notes_by, Makes, Took, raised}
use Rattle.rx_sink.specs.Attachments.{Attachment, Why, TookLast, Detached, Closed, FailedAtStart, FailedAt, FailedAtFlush}
use Rattle.rx_sink.specs.KeptSinks.{Last}
use Rattle.rx_sink.specs.Taken.{has_failed, lines_of, LeavesNotes, WritesLines, CountsNotes, TellsFaults}

module _ {S Rest : Type 0} (acts : Acts S Rest) where
  -- NOTES THAT ARE KEPT

  -- the calls of a kind of sink that keeps notes
  pub record Keeping (notes : S → List Note) (items : Rest → List Note) : Type 0 where
    pub started : (s : S) (who : ℕ) (t : S) → acts.started s who t → notes t ≡ notes s
    pub start_faulted : (s : S) (who : ℕ) (t : S) → acts.start_faulted s who t → notes t ≡ notes s
    pub took : (s : S) (note : Note) (flow : Flow) (t : S) → acts.took s note flow t → notes t ≡ notes s ++ note ∷ []
    pub take_faulted : (s : S) (note : Note) (t : S) → acts.take_faulted s note t → notes t ≡ notes s
    pub flushed : (s : S) (flow : Flow) (t : S) → acts.flushed s flow t → notes t ≡ notes s
    pub flush_faulted : (s t : S) → acts.flush_faulted s t → notes t ≡ notes s
    pub finished : (s : S) (rest : Rest) → acts.finished s rest → items rest ≡ notes s

  makes_keep : (notes : S → List Note) (items : Rest → List Note) → Keeping notes items
      → (s : S) (steps : List Step) (t : S) → FoldsTo (Makes acts) s steps t → notes t ≡ notes s ++ notes_by steps
  makes_keep notes items k s [] t made = sym (ap notes made) ∙ sym (append-nil (notes s))
  makes_keep notes items k s (Takes note flow ∷ steps) t made =
      makes_keep notes items k made.0 steps t made.2 ∙ ap (λ l. l ++ notes_by steps) (k.took s note flow made.0 made.1) ∙ append_assoc (notes s) (note ∷ []) (notes_by steps)
  makes_keep notes items k s (Flushes flow ∷ steps) t made =
      makes_keep notes items k made.0 steps t made.2 ∙ ap (λ l. l ++ notes_by steps) (k.flushed s flow made.0 made.1)

  took_keep : (notes : S → List Note) (items : Rest → List Note) → Keeping notes items
      → (s : S) (who : ℕ) (more : List Note) (step : Option Step) (t : S) → notes s ≡ [] → Took acts s who more step t → notes t ≡ more
  took_keep notes items k s who more step t none took =
      makes_keep notes items k took.begun took.steps t took.made ∙ ap (λ l. l ++ notes_by took.steps) (k.started s who took.begun took.start ∙ none) ∙ took.notes_are

  last_keep : (notes : S → List Note) (items : Rest → List Note) → Keeping notes items
      → (a : Attachment S) (why : Why) (last : S) → notes a.sink ≡ [] → Last acts a why last → notes last ≡ a.taken
  last_keep notes items k a TookLast last none was = took_keep notes items k a.sink a.who a.taken a.last last none was
  last_keep notes items k a Detached last none was = took_keep notes items k a.sink a.who a.taken a.last last none was
  last_keep notes items k a Closed last none was = took_keep notes items k a.sink a.who a.taken a.last last none was
  last_keep notes items k a FailedAtStart last none was = k.start_faulted a.sink a.who last was.1 ∙ none ∙ sym was.0
  last_keep notes items k a (FailedAt note) last none was =
      k.take_faulted was.0 note last was.2 ∙ took_keep notes items k a.sink a.who a.taken a.last was.0 none was.1
  last_keep notes items k a FailedAtFlush last none was =
      k.flush_faulted was.0 last was.2 ∙ took_keep notes items k a.sink a.who a.taken a.last was.0 none was.1

  pub keeps_notes : (notes : S → List Note) (items : Rest → List Note) → Keeping notes items → LeavesNotes acts notes items
  keeps_notes notes items k a why last rest none was finished = k.finished last rest finished ∙ last_keep notes items k a why last none was

  -- LINES THAT ARE WRITTEN

  -- the calls of a kind of sink that writes lines in a version
  pub record Writing (version : S → Version) (bytes : S → Option (List ℕ)) : Type 0 where
    pub started : (s : S) (who : ℕ) (t : S) → acts.started s who t → Appends (bytes s) (bytes t) (joined_line who) × (version t ≡ version s)
    pub start_faulted : (s : S) (who : ℕ) (t : S) → acts.start_faulted s who t → AppendsPrefix (bytes s) (bytes t) (joined_line who)
    pub took : (s : S) (note : Note) (flow : Flow) (t : S) → acts.took s note flow t → Appends (bytes s) (bytes t) (note_line (version s) note) × (version t ≡ version s)
    pub take_faulted : (s : S) (note : Note) (t : S) → acts.take_faulted s note t → AppendsPrefix (bytes s) (bytes t) (note_line (version s) note)
    pub flushed : (s : S) (flow : Flow) (t : S) → acts.flushed s flow t → Appends (bytes s) (bytes t) [] × (version t ≡ version s)
    pub flush_faulted : (s t : S) → acts.flush_faulted s t → Appends (bytes s) (bytes t) []

  -- some steps write the lines of their notes in the version that the sink has, and leave it that version
  abbrev WritesOn : (version : S → Version) (bytes : S → Option (List ℕ)) → Version → S → List Note → S → Type 0
  WritesOn version bytes v s notes t = Appends (bytes s) (bytes t) (concat (map (note_line v) notes)) × (version t ≡ v)

  makes_write : (version : S → Version) (bytes : S → Option (List ℕ)) → Writing version bytes
      → (v : Version) (s : S) (steps : List Step) (t : S) → version s ≡ v → FoldsTo (Makes acts) s steps t → WritesOn version bytes v s (notes_by steps) t
  makes_write version bytes w v s [] t is made = (subst (λ (u : S). Appends (bytes s) (bytes u) []) made (Appends-nil (bytes s)), ap version (sym made) ∙ is)
  makes_write version bytes w v s (Takes note flow ∷ steps) t is made =
      let one = w.took s note flow made.0 made.1 in
      let line : Appends (bytes s) (bytes made.0) (note_line v note) = subst (λ (u : Version). Appends (bytes s) (bytes made.0) (note_line u note)) is one.0 in
      let rest = makes_write version bytes w v made.0 steps t (one.1 ∙ is) made.2 in
      (Appends-trans (bytes s) (bytes made.0) (bytes t) (note_line v note) (concat (map (note_line v) (notes_by steps))) line rest.0, rest.1)
  makes_write version bytes w v s (Flushes flow ∷ steps) t is made =
      let one = w.flushed s flow made.0 made.1 in
      let rest = makes_write version bytes w v made.0 steps t (one.1 ∙ is) made.2 in
      (Appends-trans (bytes s) (bytes made.0) (bytes t) [] (concat (map (note_line v) (notes_by steps))) one.0 rest.0, rest.1)

  took_write : (version : S → Version) (bytes : S → Option (List ℕ)) → Writing version bytes
      → (s : S) (who : ℕ) (more : List Note) (step : Option Step) (t : S) → Took acts s who more step t
      → Appends (bytes s) (bytes t) (lines_of (version s) who more) × (version t ≡ version s)
  took_write version bytes w s who more step t took =
      let begun = w.started s who took.begun took.start in
      let rest = makes_write version bytes w (version s) took.begun took.steps t begun.1 took.made in (
        subst (λ (l : List Note). Appends (bytes s) (bytes t) (lines_of (version s) who l)) took.notes_are
            (Appends-trans (bytes s) (bytes took.begun) (bytes t) (joined_line who) (concat (map (note_line (version s)) (notes_by took.steps))) begun.0 rest.0),
        rest.1,
      )

  pub writes_lines : (version : S → Version) (bytes : S → Option (List ℕ)) → Writing version bytes → WritesLines acts version bytes
  writes_lines version bytes w a TookLast last was = (took_write version bytes w a.sink a.who a.taken a.last last was).0
  writes_lines version bytes w a Detached last was = (took_write version bytes w a.sink a.who a.taken a.last last was).0
  writes_lines version bytes w a Closed last was = (took_write version bytes w a.sink a.who a.taken a.last last was).0
  writes_lines version bytes w a FailedAtStart last was =
      let part = w.start_faulted a.sink a.who last was.1 in
      record { front = part.front; back = part.back; parts = part.parts; told = part.told }
  writes_lines version bytes w a (FailedAt note) last was =
      let took = took_write version bytes w a.sink a.who a.taken a.last was.0 was.1 in
      let part = w.take_faulted was.0 note last was.2 in
      record {
        front = part.front;
        back = part.back;
        parts = part.parts ∙ ap (λ (v : Version). note_line v note) took.1;
        told = Appends-trans (bytes a.sink) (bytes was.0) (bytes last) (lines_of (version a.sink) a.who a.taken) part.front took.0 part.told;
      }
  writes_lines version bytes w a FailedAtFlush last was =
      let lines = lines_of (version a.sink) a.who a.taken in
      subst (Appends (bytes a.sink) (bytes last)) (append-nil lines)
      (Appends-trans (bytes a.sink) (bytes was.0) (bytes last) lines [] (took_write version bytes w a.sink a.who a.taken a.last was.0 was.1).0 (w.flush_faulted was.0 last was.2))

  -- NOTES THAT ARE COUNTED

  -- the calls of a kind of sink that counts notes and faults
  pub record Counting (count faults : S → ℕ) (notes : Rest → ℕ) (failed : Rest → Bool) : Type 0 where
    pub started : (s : S) (who : ℕ) (t : S) → acts.started s who t → (count t ≡ count s) × (faults t ≡ faults s)
    pub start_faulted : (s : S) (who : ℕ) (t : S) → acts.start_faulted s who t → (count t ≡ count s) × (faults t ≡ raised (faults s))
    pub took : (s : S) (note : Note) (flow : Flow) (t : S) → acts.took s note flow t → (count t ≡ raised (count s)) × (faults t ≡ faults s)
    pub take_faulted : (s : S) (note : Note) (t : S) → acts.take_faulted s note t → (count t ≡ count s) × (faults t ≡ raised (faults s))
    pub flushed : (s : S) (flow : Flow) (t : S) → acts.flushed s flow t → (count t ≡ count s) × (faults t ≡ faults s)
    pub flush_faulted : (s t : S) → acts.flush_faulted s t → (count t ≡ count s) × (faults t ≡ raised (faults s))
    pub finished : (s : S) (rest : Rest) → acts.finished s rest → (notes rest ≡ count s) × (IsTrue (failed rest) ↔ (0 < faults s))

  makes_count : (count faults : S → ℕ) (notes : Rest → ℕ) (failed : Rest → Bool) → Counting count faults notes failed
      → (s : S) (steps : List Step) (t : S) (n : ℕ) → count s ≡ min n (2 ^ 64 - 1) → faults s ≡ 0 → FoldsTo (Makes acts) s steps t
      → (count t ≡ min (n + length (notes_by steps)) (2 ^ 64 - 1)) × (faults t ≡ 0)
  makes_count count faults notes failed k s [] t n had none made =
      let e : count t ≡ count s = sym (ap count made) in
      (omega (arith, e, had), sym (ap faults made) ∙ none)
  makes_count count faults notes failed k s (Takes note flow ∷ steps) t n had none made =
      let one = k.took s note flow made.0 made.1 in
      let now : count made.0 ≡ min (n + 1) (2 ^ 64 - 1) = omega (arith, one.0, had) in
      let rest = makes_count count faults notes failed k made.0 steps t (n + 1) now (one.1 ∙ none) made.2 in
      (omega (arith, rest.0), rest.1)
  makes_count count faults notes failed k s (Flushes flow ∷ steps) t n had none made =
      let one = k.flushed s flow made.0 made.1 in
      makes_count count faults notes failed k made.0 steps t n (one.0 ∙ had) (one.1 ∙ none) made.2

  took_count : (count faults : S → ℕ) (notes : Rest → ℕ) (failed : Rest → Bool) → Counting count faults notes failed
      → (s : S) (who : ℕ) (more : List Note) (step : Option Step) (t : S) → count s ≡ 0 → faults s ≡ 0 → Took acts s who more step t
      → (count t ≡ min (length more) (2 ^ 64 - 1)) × (faults t ≡ 0)
  took_count count faults notes failed k s who more step t zero_count none took =
      let begun = k.started s who took.begun took.start in
      let now : count took.begun ≡ min 0 (2 ^ 64 - 1) = begun.0 ∙ zero_count in
      let rest = makes_count count faults notes failed k took.begun took.steps t 0 now (begun.1 ∙ none) took.made in
      let same : length (notes_by took.steps) ≡ length more = ap length took.notes_are in
      (omega (arith, rest.0, same), rest.1)

  -- a count of none does not tell a fault, and one of some does
  told_none : (faults : ℕ) (failed : Bool) (why : Why) → has_failed why ≡ false → faults ≡ 0 → IsTrue failed ↔ (0 < faults) → IsTrue failed ↔ (has_failed why ≡ true)
  told_none faults failed why fine none told = (
    λ yes. absurd (omega (arith, told.0 yes, none)),
    λ is. (let both : false ≡ true = sym fine ∙ is in cc),
  )

  told_some : (faults : ℕ) (failed : Bool) (why : Why) → has_failed why ≡ true → faults ≡ raised 0 → IsTrue failed ↔ (0 < faults) → IsTrue failed ↔ (has_failed why ≡ true)
  told_some faults failed why bad some told = (λ yes. bad, λ is. told.1 (omega (arith, some)))

  pub counts_notes : (count faults : S → ℕ) (notes : Rest → ℕ) (failed : Rest → Bool) → Counting count faults notes failed → CountsNotes acts count faults notes failed
  counts_notes count faults notes failed k a TookLast last rest zero_count none was finished =
      let c = took_count count faults notes failed k a.sink a.who a.taken a.last last zero_count none was in
      let f = k.finished last rest finished in
      (f.0 ∙ c.0, told_none (faults last) (failed rest) TookLast refl c.1 f.1)
  counts_notes count faults notes failed k a Detached last rest zero_count none was finished =
      let c = took_count count faults notes failed k a.sink a.who a.taken a.last last zero_count none was in
      let f = k.finished last rest finished in
      (f.0 ∙ c.0, told_none (faults last) (failed rest) Detached refl c.1 f.1)
  counts_notes count faults notes failed k a Closed last rest zero_count none was finished =
      let c = took_count count faults notes failed k a.sink a.who a.taken a.last last zero_count none was in
      let f = k.finished last rest finished in
      (f.0 ∙ c.0, told_none (faults last) (failed rest) Closed refl c.1 f.1)
  counts_notes count faults notes failed k a FailedAtStart last rest zero_count none was finished =
      let c = k.start_faulted a.sink a.who last was.1 in
      let f = k.finished last rest finished in
      let empty : length a.taken ≡ 0 = ap length was.0 in
      (omega (arith, f.0, c.0, zero_count, empty), told_some (faults last) (failed rest) FailedAtStart refl (c.1 ∙ ap raised none) f.1)
  counts_notes count faults notes failed k a (FailedAt note) last rest zero_count none was finished =
      let before = took_count count faults notes failed k a.sink a.who a.taken a.last was.0 zero_count none was.1 in
      let c = k.take_faulted was.0 note last was.2 in
      let f = k.finished last rest finished in
      (f.0 ∙ c.0 ∙ before.0, told_some (faults last) (failed rest) (FailedAt note) refl (c.1 ∙ ap raised before.1) f.1)
  counts_notes count faults notes failed k a FailedAtFlush last rest zero_count none was finished =
      let before = took_count count faults notes failed k a.sink a.who a.taken a.last was.0 zero_count none was.1 in
      let c = k.flush_faulted was.0 last was.2 in
      let f = k.finished last rest finished in
      (f.0 ∙ c.0 ∙ before.0, told_some (faults last) (failed rest) FailedAtFlush refl (c.1 ∙ ap raised before.1) f.1)

  -- FAULTS THAT ARE COUNTED

  pub tells_faults : TellsFaults acts
  tells_faults a TookLast last was = was.faultless
  tells_faults a Detached last was = was.faultless
  tells_faults a Closed last was = was.faultless
  tells_faults a FailedAtStart last was = was.2
  tells_faults a (FailedAt note) last was = was.3 ∙ ap raised was.1.faultless
  tells_faults a FailedAtFlush last was = was.3 ∙ ap raised was.1.faultless
