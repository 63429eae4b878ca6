-- What is held aside of the letters that came for a desk, and what its calls took of them.
use Rattle.std.proofs.Common.{◌≡◌, ◌∙◌, sym, refl, ap, subst, ℕ, zero, suc, ◌<◌, ◌==◌, ◌⊎◌, Bool, true, false, List, [], ◌∷◌, ◌++◌, append_assoc, append-nil, length, get_or, Option, None, Some, option_to_list, Result, Ok, Err, inl, inr, arith}
use Rattle.std.proofs.lemmas.Bool.Decides.{eqb_tells}
use Rattle.std.proofs.lemmas.List.Elements.{All-append, All-cons, All-nil, All-tail, filter-append}
use Rattle.std.proofs.lemmas.List.Quantifiers.{position-Some}
use Rattle.std.specs.List.{All, position, remove}
use Rattle.rx_hub.proofs.Positions.{position-None}
use Rattle.rx_mailbox.specs.declared.letter.Letter.{Letter}
use Rattle.rx_mailbox.specs.Letters.{share}
use Rattle.rx_mailbox.specs.Boxes.{Incoming, incoming, with_letter}
use Rattle.rx_pump.specs.declared.call_desk.call_error.CallError.{CallError}
use Rattle.rx_pump.specs.declared.call_desk.call_error.CallError.TheVariants.{SubjectGone, Strange}
use Rattle.rx_pump.specs.declared.reply.Reply.{Reply}
use Rattle.rx_pump.specs.Desks.{ReadsReply, ReceivesReply, is_strange}
use Rattle.rx_pump.specs.Early.{Comes, HoldsAside, IsBare}

-- SHARES

module _ {X : Type 0} where
  -- the share of a port in two lists
  share-append : (port : ℕ) (xs ys : List (Letter X)) → share port (xs ++ ys) ≡ share port xs ++ share port ys
  share-append port xs ys = filter-append (λ (z : Letter X). z.from == port) xs ys

  -- another's letter
  share-other : (port : ℕ) (x : Letter X) → ¬ (x.from ≡ port) → share port (x ∷ []) ≡ []
  share-other port x apart = elim (eqb_tells x.from port) [
    | inl (test, is) ↦ absurd (apart is)
    | inr (test, other) ↦ rw test refl
  ]

  -- a port of which no letter stands there
  pub share-none : (port : ℕ) (xs : List (Letter X)) → position (λ (z : Letter X). z.from == port) xs ≡ None → share port xs ≡ []
  share-none port xs none = from-none xs (λ k d less. position-None (λ (z : Letter X). z.from == port) xs none k d less)
    where
      from-none : (ys : List (Letter X)) → ((k : ℕ) (d : Letter X) → k < length ys → ((get_or ys k d).from == port) ≡ false) → share port ys ≡ []
      from-none [] each = refl
      from-none (y ∷ ys) each =
          let first : (y.from == port) ≡ false = each 0 y (omega arith) in
          rw first (from-none ys (λ k d less. each (suc k) d (omega (arith, less))))

  -- the first letter of a port may be taken out of its place: the shares are as if it had stood in front
  pub share-first : (subject port : ℕ) (xs : List (Letter X)) (i : ℕ) (x : Letter X) → i < length xs → x ≡ get_or xs i x → x.from ≡ subject
      → ((k : ℕ) → k < i → ¬ ((get_or xs k x).from ≡ subject)) → share port xs ≡ share port (x ∷ []) ++ share port (remove xs i)
  share-first subject port [] i x within is its others = absurd (omega (arith, within))
  share-first subject port (y ∷ ys) zero x within is its others =
      let same : x ≡ y = is in
      share-append port (y ∷ []) ys ∙ ap (λ (z : Letter X). share port (z ∷ []) ++ share port ys) (sym same)
  share-first subject port (y ∷ ys) (suc i) x within is its others =
      let later : share port ys ≡ share port (x ∷ []) ++ share port (remove ys i) =
      share-first subject port ys i x (omega (arith, within)) is its (λ k less. others (suc k) (omega (arith, less))) in
      elim (eqb_tells y.from port) [
        | inl (test, here) ↦
            let none : share port (x ∷ []) ≡ [] = share-other port x (λ same. others 0 (omega arith) (here ∙ sym same ∙ its)) in
            rw test
            (ap (λ (l : List (Letter X)). y ∷ l) (later ∙ ap (λ (l : List (Letter X)). l ++ share port (remove ys i)) none)
            ∙ sym (ap (λ (l : List (Letter X)). l ++ (y ∷ share port (remove ys i))) none))
        | inr (test, other) ↦ rw test later
      ]

-- what a test of two numbers says
said : (a b : ℕ) → (a == b) ≡ true → a ≡ b
said a b is = elim (eqb_tells a b) [
  | inl (test, same) ↦ same
  | inr (test, other) ↦ absurd (let no : true ≡ false = sym is ∙ test in cc)
]

denied : (a b : ℕ) → (a == b) ≡ false → ¬ (a ≡ b)
denied a b is same = elim (eqb_tells a b) [
  | inl (test, eq) ↦ (let no : true ≡ false = sym test ∙ is in cc)
  | inr (test, other) ↦ other same
]

-- the letter that is found for a port is its first
pub first-found : {X : Type 0} (port : ℕ) (xs : List (Letter X)) (i : ℕ) (x : Letter X) → position (λ (z : Letter X). z.from == port) xs ≡ Some i → x ≡ get_or xs i x
    → (i < length xs) × (x.from ≡ port) × ((k : ℕ) → k < i → ¬ ((get_or xs k x).from ≡ port))
first-found {X = X} port xs i x is stands =
    let found = position-Some (λ (z : Letter X). z.from == port) xs i x is in
    let its : (x.from == port) ≡ true = ap (λ (z : Letter X). z.from == port) stands ∙ found.1 in (
      found.0,
      said x.from port its,
      λ k less. denied (get_or xs k x).from port (found.2 k less),
    )

-- what is so of each letter is so of those that are left
pub All-remove : {X : Type 0} (P : X → Type 0) (xs : List X) (i : ℕ) → All P xs → All P (remove xs i)
All-remove P [] zero all = all
All-remove P [] (suc i) all = all
All-remove P (x ∷ xs) zero all = All-tail P x xs all
All-remove P (x ∷ xs) (suc i) all = All-cons P x (remove xs i) (all 0 x (omega arith)) (All-remove P xs i (All-tail P x xs all))

module _ {S : Type 0} where
  -- LETTERS COME

  -- none so far
  pub comes-none : (inbox after : Incoming (Reply S)) (early : List (Letter (Reply S))) (subject : ℕ) → after ≡ inbox → Comes inbox after early early subject []
  comes-none inbox after early subject same = record {
    aside = [];
    received = same ∙ ap (λ (l : List (Letter (Reply S))). incoming inbox.box inbox.ports l) (sym (append-nil inbox.received));
    early = sym (append-nil early);
    bare = All-nil IsBare;
    apart = refl;
  }

  -- one more is held aside
  pub comes-aside : (before mid after : Incoming (Reply S)) (early_before early_mid early_after : List (Letter (Reply S))) (subject : ℕ) (x : Letter (Reply S))
      → Comes before mid early_before early_mid subject [] → after ≡ with_letter mid x → early_after ≡ early_mid ++ x ∷ [] → IsBare x → ¬ (x.from ≡ subject)
      → Comes before after early_before early_after subject []
  comes-aside before mid after early_before early_mid early_after subject x comes more put bare other =
      let received : mid.received ≡ before.received ++ comes.aside =
      ap (λ (i : Incoming (Reply S)). i.received) comes.received ∙ ap (λ l. before.received ++ l) (append-nil comes.aside) in
      record {
        aside = comes.aside ++ x ∷ [];
        received =
            more ∙ ap (λ (i : Incoming (Reply S)). with_letter i x) comes.received
            ∙ ap (λ (l : List (Letter (Reply S))). incoming before.box before.ports ((before.received ++ l) ++ x ∷ [])) (append-nil comes.aside)
            ∙ ap (λ (l : List (Letter (Reply S))). incoming before.box before.ports l) (append_assoc before.received comes.aside (x ∷ []))
            ∙ ap (λ (l : List (Letter (Reply S))). incoming before.box before.ports (before.received ++ l)) (sym (append-nil (comes.aside ++ x ∷ [])));
        early = put ∙ ap (λ l. l ++ x ∷ []) comes.early ∙ append_assoc early_before comes.aside (x ∷ []);
        bare = All-append IsBare comes.aside (x ∷ []) comes.bare (All-cons IsBare x [] bare (All-nil IsBare));
        apart = share-append subject comes.aside (x ∷ []) ∙ ap (λ l. l ++ share subject (x ∷ [])) comes.apart ∙ share-other subject x other;
      }

  -- one more is told
  pub comes-last : (before mid after : Incoming (Reply S)) (early_before early_after : List (Letter (Reply S))) (subject : ℕ) (x : Letter (Reply S))
      → Comes before mid early_before early_after subject [] → after ≡ with_letter mid x → Comes before after early_before early_after subject (x ∷ [])
  comes-last before mid after early_before early_after subject x comes more = record {
    aside = comes.aside;
    received =
        more ∙ ap (λ (i : Incoming (Reply S)). with_letter i x) comes.received
        ∙ ap (λ (l : List (Letter (Reply S))). incoming before.box before.ports ((before.received ++ l) ++ x ∷ [])) (append-nil comes.aside)
        ∙ ap (λ (l : List (Letter (Reply S))). incoming before.box before.ports l) (append_assoc before.received comes.aside (x ∷ []));
    early = comes.early;
    bare = comes.bare;
    apart = comes.apart;
  }

  -- WHAT IS TOLD OF THEM

  -- a letter that was told is received, and read
  pub receives-told : (before after : Incoming (Reply S)) (x : Letter (Reply S)) (subject ticket : ℕ) (answered : Result (Reply S) (CallError S))
      → after ≡ with_letter before x → ReadsReply x subject ticket answered → ReceivesReply before after subject ticket answered
  receives-told before after x subject ticket (Ok reply) more reads = (more ∙ ap (λ (y : Letter (Reply S)). with_letter before y) reads.0, reads.1)
  receives-told before after x subject ticket (Err (SubjectGone back)) more reads = absurd reads
  receives-told before after x subject ticket (Err (Strange back)) more reads = (x, more, reads)

  -- a letter of another subject is strange
  strange-other : (x : Letter (Reply S)) (subject ticket : ℕ) (answered : Result (Reply S) (CallError S)) → ReadsReply x subject ticket answered → ¬ (x.from ≡ subject) → is_strange answered ≡ true
  strange-other x subject ticket (Ok reply) reads other = absurd (other (ap (λ (y : Letter (Reply S)). y.from) reads.0))
  strange-other x subject ticket (Err (SubjectGone back)) reads other = absurd reads
  strange-other x subject ticket (Err (Strange back)) reads other = refl

  -- of an inbox that received nothing, nothing is held aside
  pub holds-none : (inbox : Incoming (Reply S)) → inbox.received ≡ [] → HoldsAside (incoming inbox.box inbox.ports []) false inbox []
  holds-none inbox none = record {
    box = refl;
    ports = refl;
    taken = [];
    strange = None;
    parts = refl;
    goes = λ _. refl;
    each = λ port. ap (share port) none;
    bare = All-nil IsBare;
  }

  -- a desk may be over
  pub holds-over : (told : Incoming (Reply S)) (is_over : Bool) (inbox : Incoming (Reply S)) (early : List (Letter (Reply S))) → HoldsAside told is_over inbox early → HoldsAside told true inbox early
  holds-over told is_over inbox early holds = record {
    box = holds.box;
    ports = holds.ports;
    taken = holds.taken;
    strange = holds.strange;
    parts = holds.parts;
    goes = λ wrong. cc;
    each = holds.each;
    bare = holds.bare;
  }

  -- the box is that of the inbox
  pub holds-box : (told : Incoming (Reply S)) (is_over : Bool) (inbox : Incoming (Reply S)) (early : List (Letter (Reply S)))
      → HoldsAside told is_over inbox early → HoldsAside (incoming inbox.box inbox.ports told.received) is_over inbox early
  holds-box told is_over inbox early holds = record {
    box = refl;
    ports = refl;
    taken = holds.taken;
    strange = holds.strange;
    parts = holds.parts;
    goes = holds.goes;
    each = holds.each;
    bare = holds.bare;
  }

  -- what a desk that goes on took is what it tells, and its shares are those, and what is held aside
  taken-all : (told inbox : Incoming (Reply S)) (early : List (Letter (Reply S))) (holds : HoldsAside told false inbox early) → told.received ≡ holds.taken
  taken-all told inbox early holds =
      holds.parts ∙ ap (λ (o : Option (Letter (Reply S))). holds.taken ++ option_to_list o) (holds.goes refl) ∙ append-nil holds.taken

  shares-all : (told inbox : Incoming (Reply S)) (early : List (Letter (Reply S))) (holds : HoldsAside told false inbox early) (port : ℕ)
      → share port inbox.received ≡ share port told.received ++ share port early
  shares-all told inbox early holds port =
      holds.each port
      ∙ ap (λ (o : Option (Letter (Reply S))). share port holds.taken ++ share port (early ++ option_to_list o)) (holds.goes refl)
      ∙ ap (λ (l : List (Letter (Reply S))). share port holds.taken ++ share port l) (append-nil early)
      ∙ ap (λ (l : List (Letter (Reply S))). share port l ++ share port early) (sym (taken-all told inbox early holds))

  -- by shares that are so, nothing strange was told
  holds-so : (told inbox : Incoming (Reply S)) (is_over : Bool) (early : List (Letter (Reply S))) → inbox.box ≡ told.box → inbox.ports ≡ told.ports
      → ((port : ℕ) → share port inbox.received ≡ share port told.received ++ share port early) → All IsBare early → HoldsAside told is_over inbox early
  holds-so told inbox is_over early box ports each bare = record {
    box = box;
    ports = ports;
    taken = told.received;
    strange = None;
    parts = sym (append-nil told.received);
    goes = λ _. refl;
    each = λ port. each port ∙ ap (λ (l : List (Letter (Reply S))). share port told.received ++ share port l) (sym (append-nil early));
    bare = bare;
  }

  -- the first that is held aside of a subject is told
  pub holds-early : (told inbox : Incoming (Reply S)) (is_over : Bool) (early : List (Letter (Reply S))) (subject i : ℕ) (x : Letter (Reply S))
      → i < length early → x ≡ get_or early i x → x.from ≡ subject → ((k : ℕ) → k < i → ¬ ((get_or early k x).from ≡ subject))
      → HoldsAside told false inbox early → HoldsAside (with_letter told x) is_over inbox (remove early i)
  holds-early told inbox is_over early subject i x within is its others holds =
      holds-so (with_letter told x) inbox is_over (remove early i) holds.box holds.ports
      (λ port.
      shares-all told inbox early holds port
      ∙ ap (λ (l : List (Letter (Reply S))). share port told.received ++ l) (share-first subject port early i x within is its others)
      ∙ sym (append_assoc (share port told.received) (share port (x ∷ [])) (share port (remove early i)))
      ∙ ap (λ (l : List (Letter (Reply S))). l ++ share port (remove early i)) (sym (share-append port told.received (x ∷ []))))
      (All-remove IsBare early i holds.bare)

  -- the shares once letters came, some of them held aside
  shares-came : (told before after : Incoming (Reply S)) (early_before early_after : List (Letter (Reply S))) (subject : ℕ) (last : List (Letter (Reply S))) (port : ℕ)
      → HoldsAside told false before early_before → Comes before after early_before early_after subject last
      → share port after.received ≡ share port told.received ++ (share port early_after ++ share port last)
  shares-came told before after early_before early_after subject last port holds comes =
      let aside = comes.aside in
      let old = share port told.received in
      let all : share port (early_before ++ aside) ≡ share port early_before ++ share port aside = share-append port early_before aside in
      ap (λ (i : Incoming (Reply S)). share port i.received) comes.received
      ∙ share-append port before.received (aside ++ last)
      ∙ ap (λ (l : List (Letter (Reply S))). l ++ share port (aside ++ last)) (shares-all told before early_before holds port)
      ∙ ap (λ (l : List (Letter (Reply S))). (old ++ share port early_before) ++ l) (share-append port aside last)
      ∙ append_assoc old (share port early_before) (share port aside ++ share port last)
      ∙ ap (λ (l : List (Letter (Reply S))). old ++ l) (sym (append_assoc (share port early_before) (share port aside) (share port last)))
      ∙ ap (λ (l : List (Letter (Reply S))). old ++ (l ++ share port last)) (sym all)
      ∙ ap (λ (l : List (Letter (Reply S))). old ++ (share port l ++ share port last)) (sym comes.early)

  came-bare : (before after : Incoming (Reply S)) (early_before early_after : List (Letter (Reply S))) (subject : ℕ) (last : List (Letter (Reply S)))
      → Comes before after early_before early_after subject last → All IsBare early_before → All IsBare early_after
  came-bare before after early_before early_after subject last comes bare =
      subst (All IsBare) (sym comes.early) (All-append IsBare early_before comes.aside bare comes.bare)

  came-box : (told before after : Incoming (Reply S)) (early_before early_after : List (Letter (Reply S))) (subject : ℕ) (last : List (Letter (Reply S)))
      → HoldsAside told false before early_before → Comes before after early_before early_after subject last → (after.box ≡ told.box) × (after.ports ≡ told.ports)
  came-box told before after early_before early_after subject last holds comes = (
    ap (λ (i : Incoming (Reply S)). i.box) comes.received ∙ holds.box,
    ap (λ (i : Incoming (Reply S)). i.ports) comes.received ∙ holds.ports,
  )

  -- letters came, and none of them is told
  pub holds-came : (told before after : Incoming (Reply S)) (early_before early_after : List (Letter (Reply S))) (subject : ℕ)
      → HoldsAside told false before early_before → Comes before after early_before early_after subject [] → HoldsAside told false after early_after
  holds-came told before after early_before early_after subject holds comes =
      let box = came-box told before after early_before early_after subject [] holds comes in
      holds-so told after false early_after box.0 box.1
      (λ port. shares-came told before after early_before early_after subject [] port holds comes ∙ ap (λ (l : List (Letter (Reply S))). share port told.received ++ l) (append-nil (share port early_after)))
      (came-bare before after early_before early_after subject [] comes holds.bare)

  -- two lists of which one is empty
  either-way : (xs ys : List (Letter (Reply S))) → (xs ≡ []) ⊎ (ys ≡ []) → xs ++ ys ≡ ys ++ xs
  either-way xs ys (inl none) = ap (λ (l : List (Letter (Reply S))). l ++ ys) none ∙ sym (append-nil ys) ∙ ap (λ (l : List (Letter (Reply S))). ys ++ l) (sym none)
  either-way xs ys (inr none) = ap (λ (l : List (Letter (Reply S))). xs ++ l) none ∙ append-nil xs ∙ ap (λ (l : List (Letter (Reply S))). l ++ xs) (sym none)

  -- the last that came is of the subject whose reply is waited for, of which none was held aside: it is told
  holds-own : (told before after : Incoming (Reply S)) (is_over : Bool) (early_before early_after : List (Letter (Reply S))) (subject : ℕ) (x : Letter (Reply S)) → x.from ≡ subject
      → share subject early_before ≡ [] → HoldsAside told false before early_before → Comes before after early_before early_after subject (x ∷ []) → HoldsAside (with_letter told x) is_over after early_after
  holds-own told before after is_over early_before early_after subject x its apart holds comes =
      let box = came-box told before after early_before early_after subject (x ∷ []) holds comes in
      let none : share subject early_after ≡ [] =
      ap (share subject) comes.early ∙ share-append subject early_before comes.aside ∙ ap (λ (l : List (Letter (Reply S))). l ++ share subject comes.aside) apart ∙ comes.apart in
      let either : (port : ℕ) → (share port early_after ≡ []) ⊎ (share port (x ∷ []) ≡ []) = λ port. elim (eqb_tells x.from port) [
        | inl (test, here) ↦ inl (subst (λ (p : ℕ). share p early_after ≡ []) (sym its ∙ here) none)
        | inr (test, other) ↦ inr (share-other port x other)
      ] in
      holds-so (with_letter told x) after is_over early_after box.0 box.1
      (λ port.
      shares-came told before after early_before early_after subject (x ∷ []) port holds comes
      ∙ ap (λ (l : List (Letter (Reply S))). share port told.received ++ l) (either-way (share port early_after) (share port (x ∷ [])) (either port))
      ∙ sym (append_assoc (share port told.received) (share port (x ∷ [])) (share port early_after))
      ∙ ap (λ (l : List (Letter (Reply S))). l ++ share port early_after) (sym (share-append port told.received (x ∷ []))))
      (came-bare before after early_before early_after subject (x ∷ []) comes holds.bare)

  -- it is another's, for which no call waits: it is told, and the desk is over
  holds-strange : (told before after : Incoming (Reply S)) (early_before early_after : List (Letter (Reply S))) (subject : ℕ) (x : Letter (Reply S))
      → HoldsAside told false before early_before → Comes before after early_before early_after subject (x ∷ []) → HoldsAside (with_letter told x) true after early_after
  holds-strange told before after early_before early_after subject x holds comes =
      let box = came-box told before after early_before early_after subject (x ∷ []) holds comes in
      record {
        box = box.0;
        ports = box.1;
        taken = told.received;
        strange = Some x;
        parts = refl;
        goes = λ wrong. cc;
        each =
            λ port. shares-came told before after early_before early_after subject (x ∷ []) port holds comes
            ∙ ap (λ (l : List (Letter (Reply S))). share port told.received ++ l) (sym (share-append port early_after (x ∷ [])));
        bare = came-bare before after early_before early_after subject (x ∷ []) comes holds.bare;
      }

  -- the last that came is told
  pub holds-next : (told before after : Incoming (Reply S)) (early_before early_after : List (Letter (Reply S))) (subject ticket : ℕ) (x : Letter (Reply S)) (answered : Result (Reply S) (CallError S))
      → share subject early_before ≡ [] → HoldsAside told false before early_before → Comes before after early_before early_after subject (x ∷ []) → ReadsReply x subject ticket answered
      → HoldsAside (with_letter told x) (is_strange answered) after early_after
  holds-next told before after early_before early_after subject ticket x answered apart holds comes reads = elim (eqb_tells x.from subject) [
    | inl (test, its) ↦ holds-own told before after (is_strange answered) early_before early_after subject x its apart holds comes
    | inr (test, other) ↦
        subst (λ (b : Bool). HoldsAside (with_letter told x) b after early_after) (sym (strange-other x subject ticket answered reads other))
        (holds-strange told before after early_before early_after subject x holds comes)
  ]
