-- What ports put, one body after another.
use Rattle.std.proofs.Common.{◌≡◌, ◌∙◌, sym, refl, ap, subst, ℕ, ◌<◌, ◌≤◌, ◌%◌, ◌==◌, List, [], ◌∷◌, ◌++◌, append_assoc, append-nil, length, get_or, Some, None, slice_get, Result, Ok, Err, inl, inr, arith}
use Rattle.std.proofs.Math.ListN.{set, length-set}
use Rattle.std.proofs.lemmas.Bool.Decides.{eqb_tells}
use Rattle.std.proofs.lemmas.List.{map-append}
use Rattle.std.proofs.lemmas.List.Elements.{filter-append}
use Rattle.std.proofs.lemmas.Option.{slice_get_read, slice_get_past}
use Rattle.std.specs.Option.{option_map}
use Rattle.rx_mailbox.specs.declared.letter.Post.TheVariants.{Body}
use Rattle.rx_mailbox.specs.declared.letter.Letter.{Letter}
use Rattle.rx_mailbox.specs.Boxes.{Outgoing, told, all_told, with_post, with_more}
use Rattle.rx_mailbox.specs.Letters.{posts}
use Rattle.rx_pump.specs.declared.out.Out.{Out}
use Rattle.rx_pump.specs.Marks.{to_port, for_drainer, who_of}
use Rattle.rx_pump.specs.Sends.{PutsFor, StopsAt, SendsOuts}
use Rattle.rx_mailbox.specs.PortRows.{Puts}
use Rattle.rx_mailbox.proofs.Told.{told-at, told-length, told-set, told-set_same}
use Rattle.rx_pump.proofs.Placing.{slice_get-set_same, slice_get-set_other, option_map-same, option_map-then}

module _ {X : Type 0} where
  -- no bodies leave the port
  with_more-none : (port : Outgoing X) → with_more [] port ≡ port
  with_more-none port = ap (λ (own : List (Letter X)). record port { own = own }) (append-nil port.own)

  -- bodies after bodies
  with_more-then : (xs ys : List X) (port : Outgoing X) → with_more ys (with_more xs port) ≡ with_more (xs ++ ys) port
  with_more-then xs ys port =
      ap (λ (own : List (Letter X)). record port { own = own })
      (append_assoc port.own (posts port.number xs) (posts port.number ys) ∙ ap (λ ps. port.own ++ ps) (sym (map-append _ xs ys)))

  -- nobody puts anything
  pub Puts-none : (ports : List (Outgoing X)) → Puts (λ _. []) ports ports
  Puts-none ports = record { count = refl; at = λ d. option_map-same _ (slice_get ports d) with_more-none }

  -- first these, then those
  pub Puts-then : (first second : ℕ → List X) (a b c : List (Outgoing X)) → Puts first a b → Puts second b c → Puts (λ d. first d ++ second d) a c
  Puts-then first second a b c p q = record {
    count = q.count ∙ p.count;
    at = λ d. q.at d ∙ ap (option_map (with_more (second d))) (p.at d)
        ∙ option_map-then (with_more (first d)) (with_more (second d)) (with_more (first d ++ second d)) (slice_get a d) (with_more-then (first d) (second d));
  }

  -- the same bodies
  pub Puts-same : (first second : ℕ → List X) (a b : List (Outgoing X)) → ((d : ℕ) → first d ≡ second d) → Puts first a b → Puts second a b
  Puts-same first second a b same p = record {
    count = p.count;
    at = λ d. p.at d ∙ ap (λ bodies. option_map (with_more bodies) (slice_get a d)) (same d);
  }

  -- one port puts one body
  pub Puts-one : (ports : List (Outgoing X)) (place : ℕ) (port : Outgoing X) (x : X)
      → slice_get ports place ≡ Some port → Puts (λ d. to_port place d x) ports (set ports place (with_more (x ∷ []) port))
  Puts-one ports place port x is = record {
    count = length-set ports place _;
    at = λ d. elim (eqb_tells place d) [
      | inl (test, same) ↦
          rw test (
          subst (λ k. slice_get (set ports place (with_more (x ∷ []) port)) k ≡ option_map (with_more (x ∷ [])) (slice_get ports k)) same
          (slice_get-set_same ports place port _ is ∙ sym (ap (option_map (with_more (x ∷ []))) is)))
      | inr (test, other) ↦
          rw test (slice_get-set_other ports place d _ other ∙ option_map-same (with_more []) (slice_get ports d) with_more-none)
    ];
  }

  -- the port at a place puts one body
  pub Puts-at : (ports : List (Outgoing X)) (place : ℕ) (port after : Outgoing X) (x : X)
      → place < length ports → port ≡ get_or ports place port → after ≡ with_more (x ∷ []) port → Puts (λ d. to_port place d x) ports (set ports place after)
  Puts-at ports place port after x within port_is after_is =
      subst (λ (p : Outgoing X). Puts (λ d. to_port place d x) ports (set ports place p)) (sym after_is)
      (Puts-one ports place port x (slice_get_read ports (length ports) place port refl within port_is))

  -- the same of ports that may hold something back
  pub Puts-told : (ports : List (Outgoing X)) (place : ℕ) (port after : Outgoing X) (x : X)
      → place < length ports → port ≡ get_or ports place port → told after ≡ with_post port (Body x)
      → Puts (λ d. to_port place d x) (all_told ports) (all_told (set ports place after))
  Puts-told ports place port after x within port_is after_is =
      subst (λ (now : List (Outgoing X)). Puts (λ d. to_port place d x) (all_told ports) now) (sym (told-set ports place after))
      (Puts-at (all_told ports) place (told port) (told after) x (omega (arith, within, told-length ports)) (told-at ports place port within port_is) after_is)

  -- there is no port at this place
  pub Puts-no_place : (ports : List (Outgoing X)) (place : ℕ) (x : X) → length ports ≤ place → Puts (λ d. to_port place d x) ports ports
  Puts-no_place ports place x past =
      let is : slice_get ports place ≡ None = slice_get_past ports place past in
      record {
        count = refl;
        at = λ d. elim (eqb_tells place d) [
          | inl (test, same) ↦ rw test (subst (λ k. slice_get ports k ≡ option_map (with_more (x ∷ [])) (slice_get ports k)) same (is ∙ sym (ap (option_map (with_more (x ∷ []))) is)))
          | inr (test, other) ↦ rw test (option_map-same (with_more []) (slice_get ports d) with_more-none)
        ];
      }

module _ {S : Type 0} where
  -- nothing is sent
  pub PutsFor-none : (ports : List (Outgoing (Out S))) → PutsFor [] ports ports
  PutsFor-none ports = Puts-none ports

  -- one out is sent, by the port at the place of its drainer
  pub PutsFor-one : (ports : List (Outgoing (Out S))) (who count : ℕ) (port after : Outgoing (Out S)) (out : Out S)
      → who ≡ who_of out → count ≡ length ports → 0 < length ports → port ≡ get_or ports (who % count) port → after ≡ with_more (out ∷ []) port
      → PutsFor (out ∷ []) ports (set ports (who % count) after)
  PutsFor-one ports who count port after out who_is count_is some port_is after_is =
      let place = who_of out % length ports in
      let place_is : who % count ≡ place = cc in
      let within : who % count < length ports = omega (arith, count_is) in
      let at : slice_get ports place ≡ Some port = ap (slice_get ports) (sym place_is) ∙ slice_get_read ports (length ports) (who % count) port refl within port_is in
      subst (λ (k : ℕ). PutsFor (out ∷ []) ports (set ports k after)) (sym place_is)
      (subst (λ (p : Outgoing (Out S)). PutsFor (out ∷ []) ports (set ports place p)) (sym after_is) (Puts-one ports place port out at))

  -- the same of ports that may hold something back
  pub PutsFor-told : (ports : List (Outgoing (Out S))) (who count : ℕ) (port after : Outgoing (Out S)) (out : Out S)
      → who ≡ who_of out → count ≡ length ports → 0 < length ports → port ≡ get_or ports (who % count) port → told after ≡ with_post port (Body out)
      → PutsFor (out ∷ []) (all_told ports) (all_told (set ports (who % count) after))
  PutsFor-told ports who count port after out who_is count_is some port_is after_is =
      let within : who % count < length ports = omega (arith, count_is) in
      subst (λ (now : List (Outgoing (Out S))). PutsFor (out ∷ []) (all_told ports) now) (sym (told-set ports (who % count) after))
      (PutsFor-one (all_told ports) who count (told port) (told after) out who_is (count_is ∙ sym (told-length ports)) (omega (arith, some, told-length ports))
      (told-at ports (who % count) port within port_is) after_is)

  -- the same at a place that is told
  pub PutsFor-placed : (ports : List (Outgoing (Out S))) (who count place : ℕ) (port after : Outgoing (Out S)) (out : Out S)
      → place ≡ who % count → who ≡ who_of out → count ≡ length ports → 0 < length ports → port ≡ get_or ports place port → told after ≡ with_post port (Body out)
      → PutsFor (out ∷ []) (all_told ports) (all_told (set ports place after))
  PutsFor-placed ports who count place port after out place_is who_is count_is some port_is after_is =
      subst (λ (k : ℕ). PutsFor (out ∷ []) (all_told ports) (all_told (set ports k after))) (sym place_is)
      (PutsFor-told ports who count port after out who_is count_is some (port_is ∙ ap (λ k. get_or ports k port) place_is) after_is)

  -- first these, then those
  pub PutsFor-then : (first second : List (Out S)) (a b c : List (Outgoing (Out S))) → PutsFor first a b → PutsFor second b c → PutsFor (first ++ second) a c
  PutsFor-then first second a b c p q =
      let n : length b ≡ length a = p.count in
      let second_put = subst (λ (k : ℕ). Puts (λ d. for_drainer k d second) b c) n q in
      Puts-same _ _ a c (λ d. sym (filter-append (λ out. who_of out % length a == d) first second)) (Puts-then _ _ a b c p second_put)

  -- it stops at the first of several outs
  pub StopsAt-first : (out : Out S) (more : List (Out S)) (ports : List (Outgoing (Out S))) (place : ℕ)
      → who_of out % length ports ≡ place → StopsAt (out ∷ more) place ports ports
  StopsAt-first out more ports place gone = record { done = []; next = out; rest = more; parts = refl; gone = gone; put = PutsFor-none ports }

  -- it stops at an out that the port at the place of its drainer hands back
  pub StopsAt-here : (ports : List (Outgoing (Out S))) (who count : ℕ) (port after : Outgoing (Out S)) (out : Out S)
      → who ≡ who_of out → count ≡ length ports → port ≡ get_or ports (who % count) port → told after ≡ told port
      → StopsAt (out ∷ []) (who % count) (all_told ports) (all_told (set ports (who % count) after))
  StopsAt-here ports who count port after out who_is count_is port_is after_is =
      let as_many : length (all_told ports) ≡ length ports = told-length ports in
      let gone : who_of out % length (all_told ports) ≡ who % count = cc in
      let same : all_told (set ports (who % count) after) ≡ all_told ports = told-set_same ports (who % count) port after port_is after_is in
      subst (λ (now : List (Outgoing (Out S))). StopsAt (out ∷ []) (who % count) (all_told ports) now) (sym same) (StopsAt-first out [] (all_told ports) (who % count) gone)

  -- the same at a place that is told
  pub StopsAt-placed : (ports : List (Outgoing (Out S))) (who count place : ℕ) (port after : Outgoing (Out S)) (out : Out S)
      → place ≡ who % count → who ≡ who_of out → count ≡ length ports → port ≡ get_or ports place port → told after ≡ told port
      → StopsAt (out ∷ []) place (all_told ports) (all_told (set ports place after))
  StopsAt-placed ports who count place port after out place_is who_is count_is port_is after_is =
      subst (λ (k : ℕ). StopsAt (out ∷ []) k (all_told ports) (all_told (set ports k after))) (sym place_is)
      (StopsAt-here ports who count port after out who_is count_is (port_is ∙ ap (λ k. get_or ports k port) place_is) after_is)

  -- all of these are sent, and it stops in those
  pub StopsAt-then : (first second : List (Out S)) (place : ℕ) (a b c : List (Outgoing (Out S))) → PutsFor first a b → StopsAt second place b c → StopsAt (first ++ second) place a c
  StopsAt-then first second place a b c p q = record {
    done = first ++ q.done;
    next = q.next;
    rest = q.rest;
    parts = append_assoc first q.done (q.next ∷ q.rest) ∙ ap (λ outs. first ++ outs) q.parts;
    gone = ap (λ n. who_of q.next % n) (sym p.count) ∙ q.gone;
    put = PutsFor-then first q.done a b c p q.put;
  }

  -- it stops in these, and more would follow
  pub StopsAt-more : (outs more : List (Out S)) (place : ℕ) (a b : List (Outgoing (Out S))) → StopsAt outs place a b → StopsAt (outs ++ more) place a b
  StopsAt-more outs more place a b p = record {
    done = p.done;
    next = p.next;
    rest = p.rest ++ more;
    parts = sym (append_assoc p.done (p.next ∷ p.rest) more) ∙ ap (λ all. all ++ more) p.parts;
    gone = p.gone;
    put = p.put;
  }

  -- all of these are sent, and what is sent of those
  pub SendsAll-then : (first second : List (Out S)) (outcome : Result (Unit {0}) ℕ) (a b c : List (Outgoing (Out S)))
      → PutsFor first a b → SendsOuts second outcome b c → SendsOuts (first ++ second) outcome a c
  SendsAll-then first second (Ok _) a b c p q = PutsFor-then first second a b c p q
  SendsAll-then first second (Err place) a b c p q = StopsAt-then first second place a b c p q
