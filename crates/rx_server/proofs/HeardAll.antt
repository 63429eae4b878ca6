-- What each sink of a closed server took: a front of what the definitions give its observer, and all of it where it had no fault.
use Rattle.std.proofs.Common.{◌≡◌, ◌∙◌, sym, refl, ap, subst, ℕ, zero, suc, ◌+◌, ◌%◌, ◌==◌, ◌<◌, ◌&&◌, if◌then◌else◌, Bool, true, false, List, [], ◌∷◌, ◌++◌, append_assoc, length, map, take, drop, Some, slice_get, arith, ◌⊎◌, inl, inr}
use Rattle.std.proofs.lemmas.Bool.Decides.{nat_tests}
use Rattle.std.proofs.lemmas.List.Elements.{filter-append}
use Rattle.std.specs.List.{AllByRecursion}
use Rattle.rx_note.specs.declared.note.Note.{Note}
use Rattle.rx_note.specs.declared.rules.Rules.{Rules}
use Rattle.rx_history.specs.Histories.{given_to}
use Rattle.rx_mailbox.specs.declared.letter.Letter.{Letter}
use Rattle.rx_mailbox.specs.declared.letter.Post.{Post}
use Rattle.rx_mailbox.specs.declared.letter.Post.TheVariants.{Body, Bye}
use Rattle.rx_mailbox.specs.Letters.{letter, posts, share}
use Rattle.rx_mailbox.specs.Passes.{SettledView, inbox_in}
use Rattle.rx_pump.specs.declared.out.Out.{Out}
use Rattle.rx_pump.specs.declared.out.Out.TheVariants.{Attach, Give, Detach}
use Rattle.rx_pump.specs.Marks.{Marked, history_of, outs_in, route, who_of}
use Rattle.rx_sink.specs.Acts.{Acts}
use Rattle.rx_sink.specs.Attachments.{Attachment, Why, TookLast, Detached, Closed, FailedAtStart, FailedAt, FailedAtFlush, is_last}
use Rattle.rx_drain.specs.declared.drainer.drain_end.DrainEnd.{DrainEnd}
use Rattle.rx_drain.specs.Logs.{letters, gone_in}
use Rattle.rx_drain.specs.Served.{Bearing, Bears, Stops, Passes, out_bearing, from_leave, from_subject, bearing, notes_in, TookOf, served, AttachCame}
use Rattle.rx_drain.proofs.Taking.{each_sink_took}
use Rattle.rx_server.specs.Hearing.{is_faultless, LeavesBehind, EachSinkHears}
use Rattle.rx_server.proofs.Arriving.{route_came, zip-at}
use Rattle.rx_server.proofs.Heard.{shut_ends, shuts}
use Rattle.rx_server.proofs.Hearing.{all_borne, among_posts, hears_each, letters_bear, none_in, notes_among, notes_behind, notes_to, outs_behind, posts_behind, share_own, to_its_drainer}

-- without a fault a sink took all that it was to be served
took_all : (why : Why) (taken all : List Note) → is_faultless why ≡ true → TookOf why taken all → taken ≡ all
took_all TookLast taken all none took = took
took_all Detached taken all none took = took
took_all Closed taken all none took = took
took_all FailedAtStart taken all none took = cc
took_all (FailedAt note) taken all none took = cc
took_all FailedAtFlush taken all none took = cc

-- WHAT IS SERVED IS ALL THAT IS BORNE, WHERE NOTHING IS BORNE BEHIND ITS END

abbrev stops : Bearing → Bool
stops (Bears note) = is_last note
stops Stops = true
stops Passes = false

bears_all : (is_the_last : Bool) (note : Note) (later all : List Note) → later ≡ all → (is_the_last ≡ true → all ≡ []) → note ∷ (if is_the_last then [] else later) ≡ note ∷ all
bears_all true note later all same none = ap (λ (l : List Note). note ∷ l) (sym (none refl))
bears_all false note later all same none = ap (λ (l : List Note). note ∷ l) same

abbrev SilentBehind : List Bearing → Type 0
SilentBehind bs = (before : List Bearing) (b : Bearing) (behind : List Bearing) → bs ≡ before ++ b ∷ behind → stops b ≡ true → all_borne behind ≡ []

silent_later : (b : Bearing) (bs : List Bearing) → SilentBehind (b ∷ bs) → SilentBehind bs
silent_later b bs silent before other behind is ends = silent (b ∷ before) other behind (ap (λ l. b ∷ l) is) ends

notes_whole : (bs : List Bearing) → SilentBehind bs → notes_in bs ≡ all_borne bs
notes_whole [] silent = refl
notes_whole (Bears note ∷ bs) silent =
    bears_all (is_last note) note (notes_in bs) (all_borne bs) (notes_whole bs (silent_later (Bears note) bs silent)) (λ ends. silent [] (Bears note) bs refl ends)
notes_whole (Stops ∷ bs) silent = sym (silent [] Stops bs refl refl)
notes_whole (Passes ∷ bs) silent = notes_whole bs (silent_later Passes bs silent)

map_split : {X Y : Type 0} (f : X → Y) (xs : List X) (before : List Y) (y : Y) (behind : List Y) → map f xs ≡ before ++ y ∷ behind
    → (first : List X) × (x : X) × (more : List X) × (xs ≡ first ++ x ∷ more) × (f x ≡ y) × (map f more ≡ behind)
map_split f [] before y behind is = absurd (none_in before y behind is)
map_split f (x ∷ xs) [] y behind is =
    let it : f x ≡ y = cc in
    let tails : map f xs ≡ behind = cc in
    ([], x, xs, refl, it, tails)
map_split f (x ∷ xs) (b ∷ before) y behind is =
    let tails : map f xs ≡ before ++ y ∷ behind = cc in
    let later = map_split f xs before y behind tails in
    (x ∷ later.0, later.1, later.2, ap (λ l. x ∷ l) later.3, later.4, later.5)

module _ {S : Type 0} where
  share_at : (p : ℕ) (first : List (Letter (Out S))) (x : Letter (Out S)) (more : List (Letter (Out S))) → (x.from == p) ≡ true
      → share p (first ++ x ∷ more) ≡ share p first ++ x ∷ share p more
  share_at p first x more own = filter-append (λ x. x.from == p) first (x ∷ more) ∙ ap (λ l. share p first ++ l) (share_own p x more own)

  stops_shuts : (who : ℕ) (out : Out S) (b : Bool) → (who == who_of out) ≡ b → stops (out_bearing who out) ≡ shuts who out
  stops_shuts who (Attach other sink) b is = refl
  stops_shuts who (Give other note) true is = ap (λ b. stops (if b then Bears note else Passes)) is ∙ sym (ap (λ b. b && is_last note) is)
  stops_shuts who (Give other note) false is = ap (λ b. stops (if b then Bears note else Passes)) is ∙ sym (ap (λ b. b && is_last note) is)
  stops_shuts who (Detach other) true is = ap (λ b. stops (if b then Stops else Passes)) is ∙ sym is
  stops_shuts who (Detach other) false is = ap (λ b. stops (if b then Stops else Passes)) is ∙ sym is

  -- behind the leaving of an observer, and behind a terminal for it
  subject_silent : (rules : Rules) (n d : ℕ) (B : Marked S) (p who : ℕ) (xs first : List (Letter (Out S))) (out : Out S) (more : List (Letter (Out S)))
      → share p xs ≡ posts p (route rules n d B) ++ letter p Bye ∷ [] → (who % n == d) ≡ true → xs ≡ first ++ letter p (Body out) ∷ more → shuts who out ≡ true
      → notes_among who (share p more) ≡ []
  subject_silent rules n d B p who xs first out more came own is shut =
      let same : (p == p) ≡ true = grind (arith, nat_tests) in
      let sent = posts_behind p (route rules n d B) (share p first) out (share p more) (sym came ∙ ap (share p) is ∙ share_at p first (letter p (Body out)) more same) in
      let all = outs_behind (λ out. who_of out % n == d) (outs_in rules B) out sent.1 sent.0 sent.2 in
      ap (notes_among who) sent.3 ∙ among_posts who p sent.1 ∙ ap (notes_to who) (sym all.3) ∙ to_its_drainer n d who all.1 own
      ∙ (shut_ends rules B who all.0 out all.1 shut all.2).0

  leave_silent : (p who : ℕ) (more : List (Letter (Out S))) → (share p more ≡ []) ⊎ (share p more ≡ letter p Bye ∷ []) → notes_among who (share p more) ≡ []
  leave_silent p who more (inl none) = ap (notes_among who) none
  leave_silent p who more (inr bye) = ap (notes_among who) bye

  leave_stops : (leave from p who : ℕ) (post : Post (Out S)) (xs first more : List (Letter (Out S))) → (from == leave) ≡ true → stops (from_leave post) ≡ true
      → xs ≡ first ++ letter from post ∷ more → LeavesBehind p leave xs → notes_among who (share p more) ≡ []
  leave_stops leave from p who (Body out) xs first more by ends is behind = cc
  leave_stops leave from p who Bye xs first more by ends is behind =
      let same : from ≡ leave = grind (arith, nat_tests) in
      leave_silent p who more (behind first more (is ∙ ap (λ (k : ℕ). first ++ letter k Bye ∷ more) same))

  subject_stops : (rules : Rules) (n d : ℕ) (B : Marked S) (p who from : ℕ) (post : Post (Out S)) (xs first more : List (Letter (Out S))) → (p == from) ≡ true
      → stops (from_subject who post) ≡ true → xs ≡ first ++ letter from post ∷ more → share p xs ≡ posts p (route rules n d B) ++ letter p Bye ∷ [] → (who % n == d) ≡ true
      → notes_among who (share p more) ≡ []
  subject_stops rules n d B p who from Bye xs first more by ends is came own = cc
  subject_stops rules n d B p who from (Body out) xs first more by ends is came own =
      let same : from ≡ p = grind (arith, nat_tests) in
      subject_silent rules n d B p who xs first out more came own (is ∙ ap (λ (k : ℕ). first ++ letter k (Body out) ∷ more) same)
      (sym (stops_shuts who out (who == who_of out) refl) ∙ ends)

  letter_silent : (rules : Rules) (n d : ℕ) (B : Marked S) (leave p who from : ℕ) (post : Post (Out S)) (xs first more : List (Letter (Out S))) (of_leave of_subject : Bool)
      → (from == leave) ≡ of_leave → (p == from) ≡ of_subject → stops (if from == leave then from_leave post else (if p == from then from_subject who post else Passes)) ≡ true
      → xs ≡ first ++ letter from post ∷ more → share p xs ≡ posts p (route rules n d B) ++ letter p Bye ∷ [] → (who % n == d) ≡ true → LeavesBehind p leave xs
      → notes_among who (share p more) ≡ []
  letter_silent rules n d B leave p who from post xs first more true of_subject by_leave by_subject ends is came own behind =
      leave_stops leave from p who post xs first more by_leave
      (sym (ap (λ b. stops (if b then from_leave post else (if p == from then from_subject who post else Passes))) by_leave) ∙ ends) is behind
  letter_silent rules n d B leave p who from post xs first more false true by_leave by_subject ends is came own behind =
      subject_stops rules n d B p who from post xs first more by_subject
      (sym (ap (λ b. stops (if b then from_leave post else (if p == from then from_subject who post else Passes))) by_leave
      ∙ ap (λ b. stops (if b then from_subject who post else Passes)) by_subject) ∙ ends) is came own
  letter_silent rules n d B leave p who from post xs first more false false by_leave by_subject ends is came own behind =
      let no : false ≡ true = sym (ap (λ b. stops (if b then from_leave post else (if p == from then from_subject who post else Passes))) by_leave
      ∙ ap (λ b. stops (if b then from_subject who post else Passes)) by_subject) ∙ ends in
      absurd (let bad : false ≡ true = no in cc)

  -- ONE SINK

  take_then_drop : (n : ℕ) (xs : List (Letter (Out S))) → take n xs ++ drop n xs ≡ xs
  take_then_drop zero xs = refl
  take_then_drop (suc n) [] = refl
  take_then_drop (suc n) (x ∷ xs) = ap (λ l. x ∷ l) (take_then_drop n xs)

  served_all : (rules : Rules) (n d : ℕ) (B : Marked S) (leave : ℕ) (xs : List (Letter (Out S))) (a : Attachment S)
      → share a.subject xs ≡ posts a.subject (route rules n d B) ++ letter a.subject Bye ∷ [] → AttachCame xs a → (a.subject == leave) ≡ false → LeavesBehind a.subject leave xs
      → served leave a xs ≡ given_to rules (history_of B) a.who
  served_all rules n d B leave xs a came at apart behind =
      let rest = drop (a.place + 1) xs in
      let sent = notes_behind rules n d B xs a came at in
      notes_whole (map (bearing leave a) rest)
      (λ before b later is ends.
      let split = map_split (bearing leave a) rest before b later is in
      let x = split.1 in
      let whole : xs ≡ (take (a.place + 1) xs ++ split.0) ++ x ∷ split.2 =
      sym (take_then_drop (a.place + 1) xs) ∙ ap (λ l. take (a.place + 1) xs ++ l) split.3 ∙ sym (append_assoc (take (a.place + 1) xs) split.0 (x ∷ split.2)) in
      ap all_borne (sym split.5) ∙ letters_bear leave a split.2 apart
      ∙ letter_silent rules n d B leave a.subject a.who x.from x.post xs (take (a.place + 1) xs ++ split.0) split.2 (x.from == leave) (a.subject == x.from) refl refl
      (ap stops split.4 ∙ ends) whole came sent.1 behind)
      ∙ letters_bear leave a rest apart ∙ sent.0

  hears_all : (rules : Rules) (n d : ℕ) (B : Marked S) (p leave : ℕ) (xs : List (Letter (Out S))) (gone : List (Attachment S × Why))
      → share p xs ≡ posts p (route rules n d B) ++ letter p Bye ∷ [] → p < leave → LeavesBehind p leave xs
      → AllByRecursion (λ end. AttachCame xs end.0) gone → AllByRecursion (λ end. TookOf end.1 end.0.taken (served leave end.0 xs)) gone
      → AllByRecursion (λ end. end.0.subject ≡ p → is_faultless end.1 ≡ true → end.0.taken ≡ given_to rules (history_of B) end.0.who) gone
  hears_all rules n d B p leave xs [] came below behind at took = tt
  hears_all rules n d B p leave xs (end ∷ gone) came below behind (at, later_at) (took, later_took) = (
    λ same none.
        let own = subst (λ (k : ℕ). share k xs ≡ posts k (route rules n d B) ++ letter k Bye ∷ []) (sym same) came in
        let left = subst (λ (k : ℕ). LeavesBehind k leave xs) (sym same) behind in
        let apart : (end.0.subject == leave) ≡ false = grind (arith, nat_tests) in
        took_all end.1 end.0.taken (served leave end.0 xs) none took ∙ served_all rules n d B leave xs end.0 own at apart left,
    hears_all rules n d B p leave xs gone came below behind later_at later_took,
  )

pub each_hears : {S Rest : Type 0} (acts : Acts S Rest) → EachSinkHears acts
each_hears {S = S} {Rest = Rest} acts server ended report closes i pump end B at_pump at_end at_marks d port drainer last box log at_port at_last at_box serves =
    let rules = pump.hub.state.rules in
    let n = length pump.drainers in
    let leave = length last.ports.items in
    let gone = gone_in leave log in
    let same = zip-at (λ (end : DrainEnd S Rest) (box : SettledView (Out S)). inbox_in box ≡ end.inbox) closes.drain_ends report.boxes.drainers.items d last box closes.settled.of_drainers at_last at_box in
    let heard : letters log ≡ box.received = sym serves.drains.received ∙ ap (λ inbox. inbox.received) (sym same) in
    let came = ap (share port.number) heard ∙ route_came acts server ended report closes i pump end B at_pump at_end at_marks d port box at_port at_box in
    let took = each_sink_took leave log in
    record {
      front = hears_each rules n d B port.number leave (letters log) gone came took.gone_at took.gone_took;
      all = λ below behind. hears_all rules n d B port.number leave (letters log) gone came below behind took.gone_at took.gone_took;
    }
