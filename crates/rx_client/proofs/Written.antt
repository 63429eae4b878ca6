-- What a subscription writes, piece by piece.
use Rattle.std.proofs.Common.{◌≡◌, ◌∙◌, ℕ, List, [], ◌∷◌, ◌++◌, Option, Result, Ok, Err, refl, sym, ap, subst, append_assoc, append-nil}
use Rattle.std.proofs.KnownBytes.{Appends-nil, Appends-trans}
use Rattle.std.specs.List.{AllZip}
use Rattle.std.specs.Io.KnownBytes.{Appends}
use Rattle.rx_proto.specs.Bytes.{AppendsPrefix, Writes}
use Rattle.rx_client.specs.Following.{Event, after, after_all, tells, tells_all}
use Rattle.rx_client.specs.Printed.{Prints}
use Rattle.rx_client.specs.Running.{Breaks, Broke, Follows, StepsOn, Shows, Wrote, joined}
use Rattle.rx_client.specs.declared.follower.Follower.{Follower}
use Rattle.rx_client.specs.declared.format.Format.{Format}
use Rattle.rx_client.specs.declared.told.Told.{Told}

zipped-then : {A B : Type 0} (R : A → B → Type 0) (xs ys : List A) (us vs : List B) → AllZip R xs us → AllZip R ys vs → AllZip R (xs ++ ys) (us ++ vs)
zipped-then R [] ys [] vs first later = later
zipped-then R [] ys (u ∷ us) vs first later = absurd first
zipped-then R (x ∷ xs) ys [] vs first later = absurd first
zipped-then R (x ∷ xs) ys (u ∷ us) vs first later = (first.0, zipped-then R xs ys us vs first.1 later)

joined-then : (us vs : List (List ℕ)) → joined (us ++ vs) ≡ joined us ++ joined vs
joined-then [] vs = refl
joined-then (u ∷ us) vs = ap (λ (t : List ℕ). u ++ t) (joined-then us vs) ∙ sym (append_assoc u (joined us) (joined vs))

-- a front of what comes behind written bytes
front-behind : (old mid new : Option (List ℕ)) (xs ys : List ℕ) → Appends old mid xs → AppendsPrefix mid new ys → AppendsPrefix old new (xs ++ ys)
front-behind old mid new xs ys told p = record {
  front = xs ++ p.front;
  back = p.back;
  parts = append_assoc xs p.front p.back ∙ ap (λ (t : List ℕ). xs ++ t) p.parts;
  told = Appends-trans old mid new xs p.front told p.told;
}

module _ (format : Format) where
  pub wrote-none : (known : Option (List ℕ)) → Wrote format [] known known
  wrote-none known = record { texts = []; printed = tt; written = Appends-nil known }

  pub broke-none : (told : List Told) (known : Option (List ℕ)) → Broke format told known known
  broke-none told known = record {
    begun = [];
    left = told;
    parts = refl;
    texts = [];
    printed = tt;
    written = record { front = []; back = []; parts = refl; told = Appends-nil known };
  }

  wrote-then : (xs ys : List Told) (old mid new : Option (List ℕ)) → Wrote format xs old mid → Wrote format ys mid new → Wrote format (xs ++ ys) old new
  wrote-then xs ys old mid new p q = record {
    texts = p.texts ++ q.texts;
    printed = zipped-then (Prints format) xs ys p.texts q.texts p.printed q.printed;
    written = subst (Appends old new) (sym (joined-then p.texts q.texts)) (Appends-trans old mid new (joined p.texts) (joined q.texts) p.written q.written);
  }

  broke-then : (xs ys : List Told) (old mid new : Option (List ℕ)) → Wrote format xs old mid → Broke format ys mid new → Broke format (xs ++ ys) old new
  broke-then xs ys old mid new p q = record {
    begun = xs ++ q.begun;
    left = q.left;
    parts = append_assoc xs q.begun q.left ∙ ap (λ (l : List Told). xs ++ l) q.parts;
    texts = p.texts ++ q.texts;
    printed = zipped-then (Prints format) xs q.begun p.texts q.texts p.printed q.printed;
    written = subst (AppendsPrefix old new) (sym (joined-then p.texts q.texts)) (front-behind old mid new (joined p.texts) (joined q.texts) p.written q.written);
  }

  broke-more : (xs ys : List Told) (old new : Option (List ℕ)) → Broke format xs old new → Broke format (xs ++ ys) old new
  broke-more xs ys old new p = record {
    begun = p.begun;
    left = p.left ++ ys;
    parts = sym (append_assoc p.begun p.left ys) ∙ ap (λ (l : List Told). l ++ ys) p.parts;
    texts = p.texts;
    printed = p.printed;
    written = p.written;
  }

  -- what was written is a front of it
  wrote-front : (xs : List Told) (old new : Option (List ℕ)) → Wrote format xs old new → Broke format xs old new
  wrote-front xs old new p = record {
    begun = xs;
    left = [];
    parts = append-nil xs;
    texts = p.texts;
    printed = p.printed;
    written = record { front = joined p.texts; back = []; parts = append-nil (joined p.texts); told = p.written };
  }

  -- one that is told, of which a text was written
  pub shows-one : {T E : Type 0} (result : Result T E) (told : Told) (text : List ℕ) (old new : Option (List ℕ)) → Prints format told text → Writes result old new text
      → Shows format (told ∷ []) result old new
  shows-one (Ok x) told text old new prints written =
      record { texts = text ∷ []; printed = (prints, tt); written = subst (Appends old new) (sym (append-nil text)) written }
  shows-one (Err e) told text old new prints written = record {
    begun = told ∷ [];
    left = [];
    parts = refl;
    texts = text ∷ [];
    printed = (prints, tt);
    written = subst (AppendsPrefix old new) (sym (append-nil text)) written;
  }

  -- one of which nothing is printed
  pub wrote-nothing : (told : Told) (known : Option (List ℕ)) → Prints format told [] → Wrote format (told ∷ []) known known
  wrote-nothing told known prints = record { texts = [] ∷ []; printed = (prints, tt); written = Appends-nil known }

  -- two that are told of one event
  pub shows-both : {T E : Type 0} (result : Result T E) (xs ys : List Told) (old mid new : Option (List ℕ)) → Wrote format xs old mid → Shows format ys result mid new
      → Shows format (xs ++ ys) result old new
  shows-both (Ok x) xs ys old mid new first later = wrote-then xs ys old mid new first later
  shows-both (Err e) xs ys old mid new first later = broke-then xs ys old mid new first later

  pub shows-first : (xs ys : List Told) (old new : Option (List ℕ)) → Broke format xs old new → Broke format (xs ++ ys) old new
  shows-first xs ys old new broke = broke-more xs ys old new broke

  -- EVENTS

  tells-then : (f : Follower) (xs ys : List Event) → tells_all f (xs ++ ys) ≡ tells_all f xs ++ tells_all (after_all f xs) ys
  tells-then f [] ys = refl
  tells-then f (x ∷ xs) ys =
      ap (λ (l : List Told). tells f x ++ l) (tells-then (after f x) xs ys)
      ∙ sym (append_assoc (tells f x) (tells_all (after f x) xs) (tells_all (after_all (after f x) xs) ys))

  after-then : (f : Follower) (xs ys : List Event) → after_all f (xs ++ ys) ≡ after_all (after_all f xs) ys
  after-then f [] ys = refl
  after-then f (x ∷ xs) ys = after-then (after f x) xs ys

  pub goes-none : (f : Follower) (known : Option (List ℕ)) → StepsOn format f f known known
  goes-none f known = record { events = []; behind = refl; wrote = wrote-none known }

  pub breaks-none : (f : Follower) (known : Option (List ℕ)) → Breaks format f known known
  breaks-none f known = record { events = []; broke = broke-none [] known }

  -- one event
  pub goes-one : (f g : Follower) (event : Event) (old new : Option (List ℕ)) → g ≡ after f event → Wrote format (tells f event) old new → StepsOn format f g old new
  goes-one f g event old new is wrote = record {
    events = event ∷ [];
    behind = is;
    wrote = subst (λ (l : List Told). Wrote format l old new) (sym (append-nil (tells f event))) wrote;
  }

  pub breaks-one : (f : Follower) (event : Event) (old new : Option (List ℕ)) → Broke format (tells f event) old new → Breaks format f old new
  breaks-one f event old new broke =
      record { events = event ∷ []; broke = subst (λ (l : List Told). Broke format l old new) (sym (append-nil (tells f event))) broke }

  pub goes-then : (f g h : Follower) (old mid new : Option (List ℕ)) → StepsOn format f g old mid → StepsOn format g h mid new → StepsOn format f h old new
  goes-then f g h old mid new p q =
      let later : tells_all g q.events ≡ tells_all (after_all f p.events) q.events = ap (λ (k : Follower). tells_all k q.events) p.behind in
      record {
        events = p.events ++ q.events;
        behind = q.behind ∙ ap (λ (k : Follower). after_all k q.events) p.behind ∙ sym (after-then f p.events q.events);
        wrote =
            subst (λ (l : List Told). Wrote format l old new) (ap (λ (l : List Told). tells_all f p.events ++ l) later ∙ sym (tells-then f p.events q.events))
            (wrote-then (tells_all f p.events) (tells_all g q.events) old mid new p.wrote q.wrote);
      }

  pub breaks-then : (f g : Follower) (old mid new : Option (List ℕ)) → StepsOn format f g old mid → Breaks format g mid new → Breaks format f old new
  breaks-then f g old mid new p q =
      let later : tells_all g q.events ≡ tells_all (after_all f p.events) q.events = ap (λ (k : Follower). tells_all k q.events) p.behind in
      record {
        events = p.events ++ q.events;
        broke =
            subst (λ (l : List Told). Broke format l old new) (ap (λ (l : List Told). tells_all f p.events ++ l) later ∙ sym (tells-then f p.events q.events))
            (broke-then (tells_all f p.events) (tells_all g q.events) old mid new p.wrote q.broke);
      }

  -- what was written is a front of it
  pub goes-front : (f g : Follower) (old new : Option (List ℕ)) → StepsOn format f g old new → Breaks format f old new
  goes-front f g old new p = record { events = p.events; broke = wrote-front (tells_all f p.events) old new p.wrote }

  pub follows-then : {T E : Type 0} (result : Result T E) (f g h : Follower) (old mid new : Option (List ℕ)) → StepsOn format f g old mid → Follows format g h result mid new
      → Follows format f h result old new
  follows-then (Ok x) f g h old mid new first later = goes-then f g h old mid new first later
  follows-then (Err e) f g h old mid new first later = breaks-then f g old mid new first later

  -- what was told of one event
  pub follows-one : {T E : Type 0} (result : Result T E) (f g : Follower) (event : Event) (old new : Option (List ℕ)) → g ≡ after f event
      → Shows format (tells f event) result old new → Follows format f g result old new
  follows-one (Ok x) f g event old new is shows = goes-one f g event old new is shows
  follows-one (Err e) f g event old new is shows = breaks-one f event old new shows

  -- whatever comes behind what was told
  pub goes-so : {T E : Type 0} (result : Result T E) (f g : Follower) (old new : Option (List ℕ)) → StepsOn format f g old new → Follows format f g result old new
  goes-so (Ok x) f g old new goes = goes
  goes-so (Err e) f g old new goes = goes-front f g old new goes

  -- the same of one that prints so, as another fact says
  pub goes-on : (other : Format) (f g h : Follower) (old mid new : Option (List ℕ)) → StepsOn format f g old mid → other ≡ format → StepsOn other g h mid new → StepsOn format f h old new
  goes-on other f g h old mid new first same later = goes-then f g h old mid new first (subst (λ (k : Format). StepsOn k g h mid new) same later)

  pub breaks-on : (other : Format) (f g : Follower) (old mid new : Option (List ℕ)) → StepsOn format f g old mid → other ≡ format → Breaks other g mid new → Breaks format f old new
  breaks-on other f g old mid new first same later = breaks-then f g old mid new first (subst (λ (k : Format). Breaks k g mid new) same later)

  pub shows-so : {T E : Type 0} (other : Format) (told : List Told) (result : Result T E) (old new : Option (List ℕ)) → other ≡ format → Shows other told result old new
      → Shows format told result old new
  shows-so other told result old new same shows = subst (λ (k : Format). Shows k told result old new) same shows
