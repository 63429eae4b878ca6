-- A head asks for one thing, or is refused for one cause.
use Rattle.std.proofs.Common.{◌≡◌, ◌⊎◌, ℕ, Bool, true, false, inl, inr, List, [], ◌∷◌, ◌++◌, length, length-append, codes, Option, None, Some, option_map, MatchBool, Result, Ok, Err, refl, sym, subst, ap, ◌∙◌, append-nil, arith}
use Rattle.percent_encoding.specs.Percent.{percent_decode}
use Rattle.std.proofs.lemmas.Fmt.{decimal_injective, decimal_nonempty}
use Rattle.rx_note.specs.Choices.{Choice, choice}
use Rattle.rx_note.specs.declared.errors.Errors.{Errors}
use Rattle.rx_note.specs.declared.errors.Errors.TheVariants.{Ahead, Delay}
use Rattle.rx_proto.specs.Names.{IsName}
use Rattle.rx_http.specs.Asking.{AsksAt, AsksForEmission, AsksForEvents, AsksForItem, AsksForRequest, AsksForStop, AsksForTexts, HasWords, HeadAsksForOne, NamesSubject, NamesTexts, Nowhere, Route, SaysItems, SaysObserver, SaysRequest, SaysSome, SaysSomeKey, SaysStop, ToEmission, ToEvents, ToHealth, ToItem, ToLook, ToRequest, ToStop, known_word}
use Rattle.rx_http.specs.Bodies.{HasSize}
use Rattle.rx_http.specs.Ids.{id_of, over_word, place_digits}
use Rattle.rx_http.specs.Keys.{SaysKey}
use Rattle.rx_http.specs.Laws.{IsPlace}
use Rattle.rx_http.specs.Words.{HasCredit, HasPace, HasPolicy, HasWindow, HasWithin, IsId, SaysKnown, SaysLines, credit_word, errors_word, observer_id}
use Rattle.rx_http.specs.declared.request.asked.Asked.{Asked}
use Rattle.rx_http.specs.declared.request.asked.Asked.TheVariants.{Emission, Events, Health, Look, Request, Stop, Texts}
use Rattle.rx_http.specs.declared.request.credit.Credit.{Credit}
use Rattle.rx_http.specs.declared.request.note_kind.NoteKind.{NoteKind}
use Rattle.rx_http.specs.declared.request.note_kind.NoteKind.TheVariants.{Next}
use Rattle.rx_http.specs.declared.request.observer_id.ObserverId.{ObserverId}
use Rattle.rx_http.specs.declared.answer.refusal.Refusal.{Refusal}
use Rattle.rx_http.specs.declared.answer.refusal.Refusal.TheVariants.{Head, Word, LastEventId, LinesWord, Lf, Key, Items, Within, Origin, NoStop, ReadOnly, Subject, Path, Observer, Method, OnlyGet, OnlyPost, Length, Long, Ended, Spent, LongHead, Gone, Full, Stopping, Memory}
use Rattle.rx_http.specs.declared.id.Id.{Id}
use Rattle.rx_http.proofs.Cuts.{parted-one}
use Rattle.rx_http.proofs.Spelled.{apart, limits-room, strategy-one}
use Rattle.rx_http.proofs.Told.{epoch-no_hyphen, is_over, not_over, place-no_hyphen}

-- EACH WORD SAYS ONE THING

errors-one : (a b : Errors) → errors_word a ≡ errors_word b → a ≡ b
errors-one Ahead Ahead same = refl
errors-one Ahead Delay same = apart _ _ same refl
errors-one Delay Ahead same = apart _ _ same refl
errors-one Delay Delay same = refl

policy-one : (query : List ℕ) (a b : Choice) → HasPolicy query a → HasPolicy query b → a ≡ b
policy-one query a b p q =
    ap (λ s. choice s a.errors) (strategy-one a.strategy b.strategy (limits-room a.strategy p.room) (limits-room b.strategy q.room) (sym p.strategy ∙ q.strategy))
    ∙ ap (λ e. choice b.strategy e) (errors-one a.errors b.errors (sym p.errors ∙ q.errors))

window-one : (query : List ℕ) (a b : ℕ) → HasWindow query a → HasWindow query b → a ≡ b
window-one query a b p q = decimal_injective a b (omega (arith, p.limits)) (omega (arith, q.limits)) (sym p.word ∙ q.word)

pace-one : (query : List ℕ) (a b : ℕ) → HasPace query a → HasPace query b → a ≡ b
pace-one query a b p q = decimal_injective a b (omega (arith, p.limits)) (omega (arith, q.limits)) (sym p.word ∙ q.word)

asked-one : (a b : Bool) → credit_word a ≡ credit_word b → a ≡ b
asked-one true true same = refl
asked-one true false same = apart _ _ same refl
asked-one false true same = apart _ _ same refl
asked-one false false same = refl

credit_with : ℕ → Bool → ℕ → Credit
credit_with window asked pace = record { window = window; asked = asked; pace = pace }

credit-one : (query : List ℕ) (a b : Credit) → HasCredit query a → HasCredit query b → a ≡ b
unfolding credit_with
credit-one query a b p q =
    ap (λ w. credit_with w a.asked a.pace) (window-one query a.window b.window p.window q.window)
    ∙ ap (λ x. credit_with b.window x a.pace) (asked-one a.asked b.asked (sym p.asked ∙ q.asked))
    ∙ ap (λ n. credit_with b.window b.asked n) (pace-one query a.pace b.pace p.pace q.pace)

place-one : (a b : Option ℕ) → IsPlace a → IsPlace b → place_digits a ≡ place_digits b → a ≡ b
place-one None None p q same = refl
place-one None (Some b) p q same = absurd (omega (arith, ap length same, decimal_nonempty b (omega (arith, q))))
place-one (Some a) None p q same = absurd (omega (arith, ap length same, decimal_nonempty a (omega (arith, p))))
place-one (Some a) (Some b) p q same = ap Some (decimal_injective a b (omega (arith, p)) (omega (arith, q)) same)

known-one : (a b : Option ℕ) (over finished : Bool) → IsPlace a → IsPlace b → place_digits a ++ over_word over ≡ place_digits b ++ over_word finished → (a ≡ b) × (over ≡ finished)
known-one a b true true p q same =
    (place-one a b p q (is_over b (place_digits a) (codes "over") _ q (record { none = place-no_hyphen a p; parts = refl }) same).0, refl)
known-one a b true false p q same = not_over b (place_digits a) (codes "over") _ q (record { none = place-no_hyphen a p; parts = refl }) same
known-one a b false true p q same = not_over a (place_digits b) (codes "over") _ p (record { none = place-no_hyphen b q; parts = refl }) (sym same)
known-one a b false false p q same =
    (place-one a b p q (sym (append-nil (place_digits a)) ∙ same ∙ append-nil (place_digits b)), refl)

id_with : List ℕ → Option ℕ → Bool → Id
id_with epoch place over = record { epoch = epoch; place = place; over = over }

pub id-one : (a b : Id) → IsId a → IsId b → id_of a ≡ id_of b → a ≡ b
unfolding id_with
id-one a b p q same =
    let parts = parted-one 45 a.epoch (place_digits a.place ++ over_word a.over) b.epoch (place_digits b.place ++ over_word b.over) (id_of a)
    (record { none = epoch-no_hyphen a.epoch p.0; parts = refl }) (record { none = epoch-no_hyphen b.epoch q.0; parts = same }) in
    let known = known-one a.place b.place a.over b.over p.1 q.1 parts.1 in
    ap (λ e. id_with e a.place a.over) parts.0 ∙ ap (λ p. id_with b.epoch p a.over) known.0 ∙ ap (λ o. id_with b.epoch b.place o) known.1

id-some : (id : Id) → IsId id → id_of id ≡ [] → ⊥
id-some id is none =
    omega (arith, ap length none, length-append id.epoch (45 ∷ (place_digits id.place ++ over_word id.over)))

observer_with : List ℕ → ℕ → ObserverId
observer_with epoch who = record { epoch = epoch; who = who }

who_in : Option ℕ → ℕ
who_in None = 0
who_in (Some who) = who

said-one : (word : List ℕ) (a b : Option Id) → SaysKnown word a → SaysKnown word b → a ≡ b
said-one word None None p q = refl
said-one word None (Some b) p q = absurd (id-some b q.0 (sym q.1 ∙ p))
said-one word (Some a) None p q = absurd (id-some a p.0 (sym p.1 ∙ q))
said-one word (Some a) (Some b) p q = ap Some (id-one a b p.0 q.0 (sym p.1 ∙ q.1))

-- SO DOES A HEAD

-- what is made of a request for events
data Verdict : Type 0 where
  Served : (policy : Choice) (credit : Credit) (known : Option Id) → Verdict
  NoWords NoId NoName : Verdict

result_of : List ℕ → Verdict → Result Asked Refusal
result_of name (Served policy credit known) = Ok (Events name policy credit known)
result_of name NoWords = Err Word
result_of name NoId = Err LastEventId
result_of name NoName = Err Subject

Holds : List ℕ → List ℕ → List ℕ → Verdict → Type 0
Holds name query word (Served policy credit known) = HasPolicy query policy × HasCredit query credit × SaysKnown word known × IsName name
Holds name query word NoWords = (policy : Choice) (credit : Credit) → HasPolicy query policy → HasCredit query credit → ⊥
Holds name query word NoId = HasWords query × (SaysSome word → ⊥)
Holds name query word NoName = HasWords query × SaysSome word × (IsName name → ⊥)

verdict : (name query : List ℕ) (field : Option (List ℕ)) (result : Result Asked Refusal) → AsksForEvents name query field result
    → (v : Verdict) × (result ≡ result_of name v) × Holds name query (known_word field query) v
unfolding result_of Holds
verdict name query field (Ok (Events subject policy credit known)) asks =
    (Served policy credit known, ap (λ s. Ok (Events s policy credit known)) asks.4, (asks.0, asks.1, asks.2, asks.3))
verdict name query field (Ok (Emission subject kind size key)) asks = absurd asks
verdict name query field (Ok (Request subject observer items)) asks = absurd asks
verdict name query field (Ok (Texts subject bytes)) asks = absurd asks
verdict name query field (Ok Health) asks = absurd asks
verdict name query field (Ok (Look form)) asks = absurd asks
verdict name query field (Ok (Stop within)) asks = absurd asks
verdict name query field (Err Word) asks = (NoWords, refl, asks)
verdict name query field (Err LastEventId) asks = (NoId, refl, asks)
verdict name query field (Err Subject) asks = (NoName, refl, asks)
verdict name query field (Err Head) asks = absurd asks
verdict name query field (Err Ended) asks = absurd asks
verdict name query field (Err Long) asks = absurd asks
verdict name query field (Err Length) asks = absurd asks
verdict name query field (Err OnlyGet) asks = absurd asks
verdict name query field (Err OnlyPost) asks = absurd asks
verdict name query field (Err Origin) asks = absurd asks
verdict name query field (Err Within) asks = absurd asks
verdict name query field (Err NoStop) asks = absurd asks
verdict name query field (Err ReadOnly) asks = absurd asks
verdict name query field (Err LinesWord) asks = absurd asks
verdict name query field (Err Lf) asks = absurd asks
verdict name query field (Err Key) asks = absurd asks
verdict name query field (Err Path) asks = absurd asks
verdict name query field (Err Method) asks = absurd asks
verdict name query field (Err Spent) asks = absurd asks
verdict name query field (Err LongHead) asks = absurd asks
verdict name query field (Err Gone) asks = absurd asks
verdict name query field (Err Full) asks = absurd asks
verdict name query field (Err Stopping) asks = absurd asks
verdict name query field (Err Memory) asks = absurd asks
verdict name query field (Err Items) asks = absurd asks
verdict name query field (Err Observer) asks = absurd asks

no_words : {P : Type 0} (query : List ℕ) → ((policy : Choice) (credit : Credit) → HasPolicy query policy → HasCredit query credit → ⊥) → HasWords query → P
no_words query none has = absurd (none has.0.0 has.1.0 has.0.1 has.1.1)

verdict-one : (name query word : List ℕ) (v w : Verdict) → Holds name query word v → Holds name query word w → v ≡ w
unfolding Holds
verdict-one name query word (Served a m x) (Served b n y) p q =
    ap (λ c. Served c m x) (policy-one query a b p.0 q.0) ∙ ap (λ l. Served b l x) (credit-one query m n p.1 q.1) ∙ ap (λ z. Served b n z) (said-one word x y p.2 q.2)
verdict-one name query word (Served a m x) NoWords p q = no_words query q ((a, p.0), (m, p.1))
verdict-one name query word (Served a m x) NoId p q = absurd (q.1 (x, p.2))
verdict-one name query word (Served a m x) NoName p q = absurd (q.2 p.3)
verdict-one name query word NoWords (Served b n y) p q = no_words query p ((b, q.0), (n, q.1))
verdict-one name query word NoWords NoWords p q = refl
verdict-one name query word NoWords NoId p q = no_words query p q.0
verdict-one name query word NoWords NoName p q = no_words query p q.0
verdict-one name query word NoId (Served b n y) p q = absurd (p.1 (y, q.2))
verdict-one name query word NoId NoWords p q = no_words query q p.0
verdict-one name query word NoId NoId p q = refl
verdict-one name query word NoId NoName p q = absurd (p.1 q.1)
verdict-one name query word NoName (Served b n y) p q = absurd (p.2 q.3)
verdict-one name query word NoName NoWords p q = no_words query q p.0
verdict-one name query word NoName NoId p q = absurd (q.1 p.1)
verdict-one name query word NoName NoName p q = refl

-- SO DOES AN EMISSION

says-one : (field a b : Option (List ℕ)) → SaysKey field a → SaysKey field b → a ≡ b
says-one None None None p q = refl
says-one None None (Some b) p q = absurd q
says-one None (Some a) b p q = absurd p
says-one (Some word) None b p q = absurd p
says-one (Some word) (Some a) None p q = absurd q
says-one (Some word) (Some a) (Some b) p q = ap Some (p.1 ∙ sym q.1)

-- what is made of it
data Naming : Type 0 where
  Named : (key : Option (List ℕ)) → Naming
  NoKey NoSubject : Naming

named_by : List ℕ → NoteKind → ℕ → Naming → Result Asked Refusal
named_by name kind size (Named key) = Ok (Emission name kind size key)
named_by name kind size NoKey = Err Key
named_by name kind size NoSubject = Err Subject

Names : List ℕ → Option (List ℕ) → Naming → Type 0
Names name field (Named key) = SaysKey field key × IsName name
Names name field NoKey = SaysSomeKey field → ⊥
Names name field NoSubject = SaysSomeKey field × (IsName name → ⊥)

-- an emission says its key and names its subject, or nothing that is one
named : (name : List ℕ) (kind : NoteKind) (size : ℕ) (field : Option (List ℕ)) (result : Result Asked Refusal) → NamesSubject name kind size field result
    → (n : Naming) × (result ≡ named_by name kind size n) × Names name field n
unfolding named_by Names
named name kind size field (Ok (Emission subject said bytes key)) names = (
  Named key,
  ap (λ s. Ok (Emission s said bytes key)) names.2 ∙ ap (λ k. Ok (Emission name k bytes key)) names.3 ∙ ap (λ n. Ok (Emission name kind n key)) names.4,
  (names.0, names.1),
)
named name kind size field (Ok (Events subject policy credit known)) names = absurd names
named name kind size field (Ok (Request subject observer items)) names = absurd names
named name kind size field (Ok (Texts subject bytes)) names = absurd names
named name kind size field (Ok Health) names = absurd names
named name kind size field (Ok (Look form)) names = absurd names
named name kind size field (Ok (Stop within)) names = absurd names
named name kind size field (Err Key) names = (NoKey, refl, names)
named name kind size field (Err Subject) names = (NoSubject, refl, names)
named name kind size field (Err Head) names = absurd names
named name kind size field (Err Word) names = absurd names
named name kind size field (Err LastEventId) names = absurd names
named name kind size field (Err LinesWord) names = absurd names
named name kind size field (Err Lf) names = absurd names
named name kind size field (Err Origin) names = absurd names
named name kind size field (Err Within) names = absurd names
named name kind size field (Err NoStop) names = absurd names
named name kind size field (Err ReadOnly) names = absurd names
named name kind size field (Err Path) names = absurd names
named name kind size field (Err Method) names = absurd names
named name kind size field (Err OnlyGet) names = absurd names
named name kind size field (Err OnlyPost) names = absurd names
named name kind size field (Err Length) names = absurd names
named name kind size field (Err Long) names = absurd names
named name kind size field (Err LongHead) names = absurd names
named name kind size field (Err Ended) names = absurd names
named name kind size field (Err Spent) names = absurd names
named name kind size field (Err Gone) names = absurd names
named name kind size field (Err Full) names = absurd names
named name kind size field (Err Stopping) names = absurd names
named name kind size field (Err Memory) names = absurd names
named name kind size field (Err Items) names = absurd names
named name kind size field (Err Observer) names = absurd names

naming-one : (name : List ℕ) (field : Option (List ℕ)) (m n : Naming) → Names name field m → Names name field n → m ≡ n
unfolding Names
naming-one name field (Named a) (Named b) p q = ap Named (says-one field a b p.0 q.0)
naming-one name field (Named a) NoKey p q = absurd (q (a, p.0))
naming-one name field (Named a) NoSubject p q = absurd (q.1 p.1)
naming-one name field NoKey (Named b) p q = absurd (p (b, q.0))
naming-one name field NoKey NoKey p q = refl
naming-one name field NoKey NoSubject p q = absurd (p q.0)
naming-one name field NoSubject (Named b) p q = absurd (p.1 q.1)
naming-one name field NoSubject NoKey p q = absurd (q p.0)
naming-one name field NoSubject NoSubject p q = refl

names-one : (name : List ℕ) (kind : NoteKind) (size : ℕ) (field : Option (List ℕ)) (a b : Result Asked Refusal) → NamesSubject name kind size field a
    → NamesSubject name kind size field b → a ≡ b
names-one name kind size field a b p q =
    let m = named name kind size field a p in
    let n = named name kind size field b q in
    m.1 ∙ ap (named_by name kind size) (naming-one name field m.0 n.0 m.2 n.2) ∙ sym n.1

emission-one : (name : List ℕ) (kind : NoteKind) (foreign : Bool) (size : Option ℕ) (key : Option (List ℕ)) (a b : Result Asked Refusal) → AsksForEmission name kind foreign size key a
    → AsksForEmission name kind foreign size key b → a ≡ b
emission-one name kind true size key a b p q = p ∙ sym q
emission-one name kind false None key a b p q = p ∙ sym q
emission-one name kind false (Some n) key a b (inl p) (inl q) = p.1 ∙ sym q.1
emission-one name kind false (Some n) key a b (inl p) (inr q) = absurd (omega (arith, p.0, q.0))
emission-one name kind false (Some n) key a b (inr p) (inl q) = absurd (omega (arith, p.0, q.0))
emission-one name kind false (Some n) key a b (inr p) (inr q) = names-one name kind n key a b p.1 q.1

-- SO DO SEVERAL TEXTS, and an item or several

texts_named-one : (name : List ℕ) (size : ℕ) (key : Option (List ℕ)) (a b : Result Asked Refusal) → NamesTexts name size key a → NamesTexts name size key b → a ≡ b
texts_named-one name size (Some key) a b p q = p ∙ sym q
texts_named-one name size None a b (inl p) (inl q) = p.1 ∙ sym q.1
texts_named-one name size None a b (inl p) (inr q) = absurd (q.0 p.0)
texts_named-one name size None a b (inr p) (inl q) = absurd (p.0 q.0)
texts_named-one name size None a b (inr p) (inr q) = p.1 ∙ sym q.1

texts-one : (name : List ℕ) (foreign : Bool) (size : Option ℕ) (key : Option (List ℕ)) (a b : Result Asked Refusal) → AsksForTexts name foreign size key a
    → AsksForTexts name foreign size key b → a ≡ b
texts-one name true size key a b p q = p ∙ sym q
texts-one name false None key a b p q = p ∙ sym q
texts-one name false (Some n) key a b p q = texts_named-one name n key a b p q

no_word : (word : List ℕ) → None ≡ Some word → ⊥
no_word word same = cc

says-both : (query : List ℕ) → SaysLines query true → SaysLines query false → ⊥
says-both query several none = no_word (codes "1") (sym (ap (option_map percent_decode) none) ∙ several)

unsaid-one : (foreign : Bool) (a b : Result Asked Refusal) → MatchBool foreign (a ≡ Err Origin) (a ≡ Err LinesWord) → MatchBool foreign (b ≡ Err Origin) (b ≡ Err LinesWord) → a ≡ b
unsaid-one true a b p q = p ∙ sym q
unsaid-one false a b p q = p ∙ sym q

item-one : (name query : List ℕ) (foreign : Bool) (size : Option ℕ) (key : Option (List ℕ)) (a b : Result Asked Refusal) → AsksForItem name query foreign size key a
    → AsksForItem name query foreign size key b → a ≡ b
item-one name query foreign size key a b (inl p) (inl q) = emission-one name Next foreign size key a b p.1 q.1
item-one name query foreign size key a b (inl p) (inr (inl q)) = absurd (says-both query q.0 p.0)
item-one name query foreign size key a b (inl p) (inr (inr q)) = absurd (q.0 false p.0)
item-one name query foreign size key a b (inr (inl p)) (inl q) = absurd (says-both query p.0 q.0)
item-one name query foreign size key a b (inr (inl p)) (inr (inl q)) = texts-one name foreign size key a b p.1 q.1
item-one name query foreign size key a b (inr (inl p)) (inr (inr q)) = absurd (q.0 true p.0)
item-one name query foreign size key a b (inr (inr p)) (inl q) = absurd (p.0 false q.0)
item-one name query foreign size key a b (inr (inr p)) (inr (inl q)) = absurd (p.0 true q.0)
item-one name query foreign size key a b (inr (inr p)) (inr (inr q)) = unsaid-one foreign a b p.1 q.1

-- SO DOES WHO ASKS FOR ITEMS

observer-one : (word : List ℕ) (a b : ObserverId) → SaysObserver word a → SaysObserver word b → a ≡ b
unfolding observer_with who_in
observer-one word a b p q =
    let same = id-one (observer_id a) (observer_id b) p.0 q.0 (sym p.1 ∙ q.1) in
    ap (λ (i : Id). observer_with i.epoch a.who) same ∙ ap (λ (o : Option ℕ). observer_with b.epoch (who_in o)) (ap (λ (i : Id). i.place) same)

items-one : (query : List ℕ) (a b : ℕ) → SaysItems query a → SaysItems query b → a ≡ b
items-one query a b p q = decimal_injective a b (omega (arith, p.0)) (omega (arith, q.0)) (sym p.1 ∙ q.1)

-- what is made of it
data Grant : Type 0 where
  Granted : (observer : ObserverId) (items : ℕ) → Grant
  NoObserver NoItems NoSuch : Grant

granted_by : List ℕ → Grant → Result Asked Refusal
granted_by name (Granted observer items) = Ok (Request name observer items)
granted_by name NoObserver = Err Observer
granted_by name NoItems = Err Items
granted_by name NoSuch = Err Subject

Grants : List ℕ → List ℕ → List ℕ → Grant → Type 0
Grants name word query (Granted observer items) = SaysObserver word observer × SaysItems query items × IsName name
Grants name word query NoObserver = (observer : ObserverId) → SaysObserver word observer → ⊥
Grants name word query NoItems = ((observer : ObserverId) × SaysObserver word observer) × ((items : ℕ) → SaysItems query items → ⊥)
Grants name word query NoSuch = ((observer : ObserverId) × SaysObserver word observer) × ((items : ℕ) × SaysItems query items) × (IsName name → ⊥)

granted : (name word query : List ℕ) (result : Result Asked Refusal) → SaysRequest name word query result → (g : Grant) × (result ≡ granted_by name g) × Grants name word query g
unfolding granted_by Grants
granted name word query (Ok (Request subject observer items)) asks =
    (Granted observer items, ap (λ s. Ok (Request s observer items)) asks.3, (asks.0, asks.1, asks.2))
granted name word query (Ok (Events subject policy credit known)) asks = absurd asks
granted name word query (Ok (Emission subject kind size key)) asks = absurd asks
granted name word query (Ok (Texts subject bytes)) asks = absurd asks
granted name word query (Ok Health) asks = absurd asks
granted name word query (Ok (Look form)) asks = absurd asks
granted name word query (Ok (Stop within)) asks = absurd asks
granted name word query (Err Observer) asks = (NoObserver, refl, asks)
granted name word query (Err Items) asks = (NoItems, refl, asks)
granted name word query (Err Subject) asks = (NoSuch, refl, asks)
granted name word query (Err Head) asks = absurd asks
granted name word query (Err Word) asks = absurd asks
granted name word query (Err LastEventId) asks = absurd asks
granted name word query (Err LinesWord) asks = absurd asks
granted name word query (Err Lf) asks = absurd asks
granted name word query (Err Key) asks = absurd asks
granted name word query (Err Origin) asks = absurd asks
granted name word query (Err Within) asks = absurd asks
granted name word query (Err NoStop) asks = absurd asks
granted name word query (Err ReadOnly) asks = absurd asks
granted name word query (Err Path) asks = absurd asks
granted name word query (Err Method) asks = absurd asks
granted name word query (Err OnlyGet) asks = absurd asks
granted name word query (Err OnlyPost) asks = absurd asks
granted name word query (Err Length) asks = absurd asks
granted name word query (Err Long) asks = absurd asks
granted name word query (Err LongHead) asks = absurd asks
granted name word query (Err Ended) asks = absurd asks
granted name word query (Err Spent) asks = absurd asks
granted name word query (Err Gone) asks = absurd asks
granted name word query (Err Full) asks = absurd asks
granted name word query (Err Stopping) asks = absurd asks
granted name word query (Err Memory) asks = absurd asks

grant-one : (name word query : List ℕ) (g h : Grant) → Grants name word query g → Grants name word query h → g ≡ h
unfolding Grants
grant-one name word query (Granted a m) (Granted b n) p q =
    ap (λ o. Granted o m) (observer-one word a b p.0 q.0) ∙ ap (λ k. Granted b k) (items-one query m n p.1 q.1)
grant-one name word query (Granted a m) NoObserver p q = absurd (q a p.0)
grant-one name word query (Granted a m) NoItems p q = absurd (q.1 m p.1)
grant-one name word query (Granted a m) NoSuch p q = absurd (q.2 p.2)
grant-one name word query NoObserver (Granted b n) p q = absurd (p b q.0)
grant-one name word query NoObserver NoObserver p q = refl
grant-one name word query NoObserver NoItems p q = absurd (p q.0.0 q.0.1)
grant-one name word query NoObserver NoSuch p q = absurd (p q.0.0 q.0.1)
grant-one name word query NoItems (Granted b n) p q = absurd (p.1 n q.1)
grant-one name word query NoItems NoObserver p q = absurd (q p.0.0 p.0.1)
grant-one name word query NoItems NoItems p q = refl
grant-one name word query NoItems NoSuch p q = absurd (p.1 q.1.0 q.1.1)
grant-one name word query NoSuch (Granted b n) p q = absurd (p.2 q.2)
grant-one name word query NoSuch NoObserver p q = absurd (q p.0.0 p.0.1)
grant-one name word query NoSuch NoItems p q = absurd (q.1 p.1.0 p.1.1)
grant-one name word query NoSuch NoSuch p q = refl

request-one : (name word query : List ℕ) (foreign : Bool) (a b : Result Asked Refusal) → AsksForRequest name word query foreign a → AsksForRequest name word query foreign b → a ≡ b
request-one name word query true a b p q = p ∙ sym q
request-one name word query false a b p q =
    let g = granted name word query a p in
    let h = granted name word query b q in
    g.1 ∙ ap (granted_by name) (grant-one name word query g.0 h.0 g.2 h.2) ∙ sym h.1

-- SO DOES WHO STOPS A SERVER

within-one : (query : List ℕ) (a b : ℕ) → HasWithin query a → HasWithin query b → a ≡ b
within-one query a b p q = decimal_injective a b (omega (arith, p.limits)) (omega (arith, q.limits)) (sym p.word ∙ q.word)

-- a stop says how long it waits, or nothing that does
halted : (query : List ℕ) (result : Result Asked Refusal) → SaysStop query result
    → ((within : ℕ) × HasWithin query within × (result ≡ Ok (Stop within))) ⊎ (((within : ℕ) → HasWithin query within → ⊥) × (result ≡ Err Within))
halted query (Ok (Stop within)) says = inl (within, says, refl)
halted query (Ok (Events subject policy credit known)) says = absurd says
halted query (Ok (Emission subject kind size key)) says = absurd says
halted query (Ok (Request subject observer items)) says = absurd says
halted query (Ok (Texts subject bytes)) says = absurd says
halted query (Ok Health) says = absurd says
halted query (Ok (Look form)) says = absurd says
halted query (Err Within) says = inr (says, refl)
halted query (Err Head) says = absurd says
halted query (Err Word) says = absurd says
halted query (Err LastEventId) says = absurd says
halted query (Err LinesWord) says = absurd says
halted query (Err Lf) says = absurd says
halted query (Err Key) says = absurd says
halted query (Err Items) says = absurd says
halted query (Err Origin) says = absurd says
halted query (Err NoStop) says = absurd says
halted query (Err ReadOnly) says = absurd says
halted query (Err Subject) says = absurd says
halted query (Err Path) says = absurd says
halted query (Err Observer) says = absurd says
halted query (Err Method) says = absurd says
halted query (Err OnlyGet) says = absurd says
halted query (Err OnlyPost) says = absurd says
halted query (Err Length) says = absurd says
halted query (Err Long) says = absurd says
halted query (Err Ended) says = absurd says
halted query (Err Spent) says = absurd says
halted query (Err LongHead) says = absurd says
halted query (Err Gone) says = absurd says
halted query (Err Full) says = absurd says
halted query (Err Stopping) says = absurd says
halted query (Err Memory) says = absurd says

halts-one : (query : List ℕ) (a b : Result Asked Refusal)
    → ((within : ℕ) × HasWithin query within × (a ≡ Ok (Stop within))) ⊎ (((within : ℕ) → HasWithin query within → ⊥) × (a ≡ Err Within))
    → ((within : ℕ) × HasWithin query within × (b ≡ Ok (Stop within))) ⊎ (((within : ℕ) → HasWithin query within → ⊥) × (b ≡ Err Within)) → a ≡ b
halts-one query a b (inl (n, p, is)) (inl (m, q, was)) = is ∙ ap (λ k. Ok (Stop k)) (within-one query n m p q) ∙ sym was
halts-one query a b (inl (n, p, is)) (inr (none, was)) = absurd (none n p)
halts-one query a b (inr (none, is)) (inl (m, q, was)) = absurd (none m q)
halts-one query a b (inr (none, is)) (inr (never, was)) = is ∙ sym was

stop-one : (query : List ℕ) (foreign : Bool) (a b : Result Asked Refusal) → AsksForStop query foreign a → AsksForStop query foreign b → a ≡ b
stop-one query true a b p q = p ∙ sym q
stop-one query false a b p q = halts-one query a b (halted query a p) (halted query b q)

-- the size of a body is told once
size-one : (coding length : Option (List ℕ)) (a b : Option ℕ) → HasSize coding length a → HasSize coding length b → a ≡ b
size-one (Some coding) length a b p q = p ∙ sym q
size-one None None a b p q = p ∙ sym q
size-one None (Some word) None None p q = refl
size-one None (Some word) None (Some n) p q = absurd (p n q.0 q.1)
size-one None (Some word) (Some n) None p q = absurd (q n p.0 p.1)
size-one None (Some word) (Some n) (Some m) p q = ap Some (decimal_injective n m (omega (arith, p.0)) (omega (arith, q.0)) (sym p.1 ∙ q.1))

at-one : (route : Route) (query : List ℕ) (field : Option (List ℕ)) (foreign : Bool) (size : Option ℕ) (key : Option (List ℕ)) (a b : Result Asked Refusal) → AsksAt route query field foreign size key a
    → AsksAt route query field foreign size key b → a ≡ b
at-one (ToEvents name) query field foreign size key a b p q =
    let v = verdict name query field a p in
    let w = verdict name query field b q in
    v.1 ∙ ap (result_of name) (verdict-one name query (known_word field query) v.0 w.0 v.2 w.2) ∙ sym w.1
at-one (ToItem name) query field foreign size key a b p q = item-one name query foreign size key a b p q
at-one (ToEmission name kind) query field foreign size key a b p q = emission-one name kind foreign size key a b p q
at-one (ToRequest name word) query field foreign size key a b p q = request-one name word query foreign a b p q
at-one ToHealth query field foreign size key a b p q = p ∙ sym q
at-one (ToLook form) query field foreign size key a b p q = p ∙ sym q
at-one ToStop query field foreign size key a b p q = stop-one query foreign a b p q
at-one (Nowhere cause) query field foreign size key a b p q = p ∙ sym q

sized-one : (route : Route) (query : List ℕ) (field coding length : Option (List ℕ)) (foreign : Bool) (n m : Option ℕ) (key : Option (List ℕ)) (a b : Result Asked Refusal) → HasSize coding length n
    → AsksAt route query field foreign n key a → HasSize coding length m → AsksAt route query field foreign m key b → a ≡ b
sized-one route query field coding length foreign n m key a b s p t q =
    at-one route query field foreign n key a b p (subst (λ size. AsksAt route query field foreign size key b) (size-one coding length m n t s) q)

pub asks-one : HeadAsksForOne
asks-one head a b (n, s, p) (m, t, q) = sized-one _ _ _ _ _ _ n m _ a b s p t q
