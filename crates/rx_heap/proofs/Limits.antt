-- The limit's methods at a call: what each is handed, a `&` to the limit and a token of its lifetime, and what a caller has of it.
use Rattle.rx_heap.proofs.Steps.{◌≡◌, ℕ, ◌^◌, ◌<◌, Bool, List, [], ◌∷◌, refl, ap, w64, Ura, Val, vunit, vbool, vint, vptr, SProp, ent, sep, ex, guard, id⊢, Lft, Share, ftrue, fsep, flft, Memory, Routine, Logic, sem, ‵, raw, ◌⊛◌, some, later, ◌$◌, ◌∵◌, !, qed, move, keep, use1, split, join, pick, fjoin, feq_i, feq_l, flt_i, check, show, await, updating, at_once, done, Fun, bool, unit, hidden_shr, RattleType, nothing, only, triple_of, Contract}
use Rattle.rx_heap.specs.contracts.limit.Limit as L
use Rattle.rx_heap.specs.contracts.limit.Limit.refuses as RF
use Rattle.rx_heap.specs.contracts.limit.Limit.refuses_change as RC
use Rattle.rx_heap.specs.contracts.limit.Limit.regains as RG
use Rattle.rx_heap.specs.contracts.limit.Limit.regains_change as GC

abbrev pub Limits : RattleType
Limits = L.the_row

-- The limit at a place, behind a `&`.
abbrev pub lent : Lft → ℕ × ℕ → Limits.Denot → base.Fml.Fml
lent κ p h = hidden_shr Limits κ h p.0 p.1

module _ {M : Type 1} {𝓤 : Ura M} (𝓛 : Logic 𝓤) (at_mem : Memory → SProp 𝓤) (run : Routine → Fun 𝓤) where
  abbrev pub Refuses : Contract 𝓤
  Refuses = triple_of 𝓛 RF.signature (RF.spec 𝓛 at_mem run)

  abbrev pub Regains : Contract 𝓤
  Regains = triple_of 𝓛 RG.signature (RG.spec 𝓛 at_mem run)

  module _ (κ : Lft) (q : Share) (p : ℕ × ℕ) (h : Limits.Denot) (n : ℕ) where
    abbrev pub at_refuses : Refuses.Ghost
    at_refuses = (((κ, tt), (q, tt), tt, (record { ref_ptr = p; now = h }, (n, tt)), (vptr p.0 p.1 ∷ [], (vint w64 n ∷ [], tt))), tt)

    abbrev pub at_regains : Regains.Ghost
    at_regains = (((κ, tt), (q, tt), tt, (record { ref_ptr = p; now = h }, (n, tt)), (vptr p.0 p.1 ∷ [], (vint w64 n ∷ [], tt))), tt)

module _ {M : Type 1} {𝓤 : Ura M} (𝓛 : Logic 𝓤) (at_mem : Memory → SProp 𝓤) (run : Routine → Fun 𝓤) (κ : Lft) (q : Share) (p : ℕ × ℕ) (h : Limits.Denot) (n : ℕ) where
  open 𝓛 use {H, A}

  pub Refuses-goes : n < 2 ^ 64 → ent 𝓤 (sep 𝓤 (sem 𝓛 (lent κ p h)) (A.lft κ q)) ((Refuses 𝓛 at_mem run).pre (at_refuses 𝓛 at_mem run κ q p h n))
  Refuses-goes fn =
      qed 𝓛 (‵ (lent κ p h) ∷ ‵ (flft κ q) ∷ []) ∵
      nothing ! $ flt_i ! n (2 ^ 64) fn $ feq_i ! (List Val) (vint w64 n ∷ []) (vint w64 n ∷ []) refl $ fjoin ! $ fjoin ! $
      move ! (1 ∷ []) $ feq_i ! (List Val) (vptr p.0 p.1 ∷ []) (vptr p.0 p.1 ∷ []) refl $ fjoin ! $ fjoin ! $
      nothing ! $ move ! (2 ∷ []) $ join ! $ join ! $ nothing ! $ move ! (1 ∷ []) $ done !

  pub Regains-goes : n < 2 ^ 64 → ent 𝓤 (sep 𝓤 (sem 𝓛 (lent κ p h)) (A.lft κ q)) ((Regains 𝓛 at_mem run).pre (at_regains 𝓛 at_mem run κ q p h n))
  Regains-goes fn =
      qed 𝓛 (‵ (lent κ p h) ∷ ‵ (flft κ q) ∷ []) ∵
      nothing ! $ flt_i ! n (2 ^ 64) fn $ feq_i ! (List Val) (vint w64 n ∷ []) (vint w64 n ∷ []) refl $ fjoin ! $ fjoin ! $
      move ! (1 ∷ []) $ feq_i ! (List Val) (vptr p.0 p.1 ∷ []) (vptr p.0 p.1 ∷ []) refl $ fjoin ! $ fjoin ! $
      nothing ! $ move ! (2 ∷ []) $ join ! $ join ! $ nothing ! $ move ! (1 ∷ []) $ done !

  abbrev pub Told : Val → Bool → SProp 𝓤
  Told v y = guard 𝓤 (v ≡ vbool y) (A.lft κ q)

  pub Refuses-gives : (v : Val) → ent 𝓤 ((Refuses 𝓛 at_mem run).post (at_refuses 𝓛 at_mem run κ q p h n) v) (H.⇛ (ex 𝓤 (Told v)))
  Refuses-gives v =
      qed 𝓛 (raw ((Refuses 𝓛 at_mem run).post (at_refuses 𝓛 at_mem run κ q p h n) v) ∷ []) ∵ updating ! $
      use1 𝓛 (later (some (λ (r : Bool). ((‵ (flft κ q) ⊛ ‵ ftrue) ⊛ ‵ (bool.own_val r (v ∷ []))) ⊛ some (λ (ws : Unit {0} × (Unit {0} × Unit {0})). ‵ (fsep ftrue (fsep ftrue ftrue)) ⊛ ‵ ftrue)))) (id⊢ 𝓤 _) $
      await ! tt $ pick ! (λ r. split ! $ split ! $ move ! (1 ∷ []) $ feq_l ! (λ e. split ! $ at_once ! $ show ! (Told v) r $ check ! (ap only e) $ keep ! (0 ∷ []) $ done !))

  pub Regains-gives : (v : Val) → ent 𝓤 ((Regains 𝓛 at_mem run).post (at_regains 𝓛 at_mem run κ q p h n) v) (H.⇛ (guard 𝓤 (v ≡ vunit) (A.lft κ q)))
  Regains-gives v =
      qed 𝓛 (raw ((Regains 𝓛 at_mem run).post (at_regains 𝓛 at_mem run κ q p h n) v) ∷ []) ∵ updating ! $
      use1 𝓛 (later (some (λ (r : Unit {0}). ((‵ (flft κ q) ⊛ ‵ ftrue) ⊛ ‵ (unit.own_val r (v ∷ []))) ⊛ some (λ (ws : Unit {0} × (Unit {0} × Unit {0})). ‵ (fsep ftrue (fsep ftrue ftrue)) ⊛ ‵ ftrue)))) (id⊢ 𝓤 _) $
      await ! tt $ pick ! (λ r. split ! $ split ! $ move ! (1 ∷ []) $ feq_l ! (λ e. split ! $ at_once ! $ check ! (ap only e) $ keep ! (0 ∷ []) $ done !))

-- The two for a block that grows, by its old and new numbers of items and their size.
module _ {M : Type 1} {𝓤 : Ura M} (𝓛 : Logic 𝓤) (at_mem : Memory → SProp 𝓤) (run : Routine → Fun 𝓤) where
  abbrev pub RefusesChange : Contract 𝓤
  RefusesChange = triple_of 𝓛 RC.signature (RC.spec 𝓛 at_mem run)

  abbrev pub RegainsChange : Contract 𝓤
  RegainsChange = triple_of 𝓛 GC.signature (GC.spec 𝓛 at_mem run)

  module _ (κ : Lft) (q : Share) (p : ℕ × ℕ) (h : Limits.Denot) (old new n : ℕ) where
    abbrev pub at_refuses_change : RefusesChange.Ghost
    at_refuses_change = (((κ, tt), (q, tt), tt, (record { ref_ptr = p; now = h }, (old, (new, (n, tt)))), (vptr p.0 p.1 ∷ [], (vint w64 old ∷ [], (vint w64 new ∷ [], (vint w64 n ∷ [], tt))))), tt)

    abbrev pub at_regains_change : RegainsChange.Ghost
    at_regains_change = (((κ, tt), (q, tt), tt, (record { ref_ptr = p; now = h }, (old, (new, (n, tt)))), (vptr p.0 p.1 ∷ [], (vint w64 old ∷ [], (vint w64 new ∷ [], (vint w64 n ∷ [], tt))))), tt)

module _ {M : Type 1} {𝓤 : Ura M} (𝓛 : Logic 𝓤) (at_mem : Memory → SProp 𝓤) (run : Routine → Fun 𝓤) (κ : Lft) (q : Share) (p : ℕ × ℕ) (h : Limits.Denot) (old new n : ℕ) where
  open 𝓛 use {H, A}

  pub RefusesChange-goes : old < 2 ^ 64 → new < 2 ^ 64 → n < 2 ^ 64 → ent 𝓤 (sep 𝓤 (sem 𝓛 (lent κ p h)) (A.lft κ q)) ((RefusesChange 𝓛 at_mem run).pre (at_refuses_change 𝓛 at_mem run κ q p h old new n))
  RefusesChange-goes fo fw fn =
      qed 𝓛 (‵ (lent κ p h) ∷ ‵ (flft κ q) ∷ []) ∵
      nothing ! $ flt_i ! n (2 ^ 64) fn $ feq_i ! (List Val) (vint w64 n ∷ []) (vint w64 n ∷ []) refl $ fjoin ! $ fjoin ! $
      flt_i ! new (2 ^ 64) fw $ feq_i ! (List Val) (vint w64 new ∷ []) (vint w64 new ∷ []) refl $ fjoin ! $ fjoin ! $
      flt_i ! old (2 ^ 64) fo $ feq_i ! (List Val) (vint w64 old ∷ []) (vint w64 old ∷ []) refl $ fjoin ! $ fjoin ! $
      move ! (1 ∷ []) $ feq_i ! (List Val) (vptr p.0 p.1 ∷ []) (vptr p.0 p.1 ∷ []) refl $ fjoin ! $ fjoin ! $
      nothing ! $ move ! (2 ∷ []) $ join ! $ join ! $ nothing ! $ move ! (1 ∷ []) $ done !

  pub RegainsChange-goes : old < 2 ^ 64 → new < 2 ^ 64 → n < 2 ^ 64 → ent 𝓤 (sep 𝓤 (sem 𝓛 (lent κ p h)) (A.lft κ q)) ((RegainsChange 𝓛 at_mem run).pre (at_regains_change 𝓛 at_mem run κ q p h old new n))
  RegainsChange-goes fo fw fn =
      qed 𝓛 (‵ (lent κ p h) ∷ ‵ (flft κ q) ∷ []) ∵
      nothing ! $ flt_i ! n (2 ^ 64) fn $ feq_i ! (List Val) (vint w64 n ∷ []) (vint w64 n ∷ []) refl $ fjoin ! $ fjoin ! $
      flt_i ! new (2 ^ 64) fw $ feq_i ! (List Val) (vint w64 new ∷ []) (vint w64 new ∷ []) refl $ fjoin ! $ fjoin ! $
      flt_i ! old (2 ^ 64) fo $ feq_i ! (List Val) (vint w64 old ∷ []) (vint w64 old ∷ []) refl $ fjoin ! $ fjoin ! $
      move ! (1 ∷ []) $ feq_i ! (List Val) (vptr p.0 p.1 ∷ []) (vptr p.0 p.1 ∷ []) refl $ fjoin ! $ fjoin ! $
      nothing ! $ move ! (2 ∷ []) $ join ! $ join ! $ nothing ! $ move ! (1 ∷ []) $ done !

  pub RefusesChange-gives : (v : Val) → ent 𝓤 ((RefusesChange 𝓛 at_mem run).post (at_refuses_change 𝓛 at_mem run κ q p h old new n) v) (H.⇛ (ex 𝓤 (λ (y : Bool). guard 𝓤 (v ≡ vbool y) (A.lft κ q))))
  RefusesChange-gives v =
      qed 𝓛 (raw ((RefusesChange 𝓛 at_mem run).post (at_refuses_change 𝓛 at_mem run κ q p h old new n) v) ∷ []) ∵ updating ! $
      use1 𝓛 (later (some (λ (r : Bool). ((‵ (flft κ q) ⊛ ‵ ftrue) ⊛ ‵ (bool.own_val r (v ∷ []))) ⊛ some (λ (ws : Unit {0} × (Unit {0} × (Unit {0} × (Unit {0} × Unit {0})))). ‵ (fsep ftrue (fsep ftrue (fsep ftrue (fsep ftrue ftrue)))) ⊛ ‵ ftrue)))) (id⊢ 𝓤 _) $
      await ! tt $ pick ! (λ r. split ! $ split ! $ move ! (1 ∷ []) $ feq_l ! (λ e. split ! $ at_once ! $ show ! (λ (y : Bool). guard 𝓤 (v ≡ vbool y) (A.lft κ q)) r $ check ! (ap only e) $ keep ! (0 ∷ []) $ done !))

  pub RegainsChange-gives : (v : Val) → ent 𝓤 ((RegainsChange 𝓛 at_mem run).post (at_regains_change 𝓛 at_mem run κ q p h old new n) v) (H.⇛ (guard 𝓤 (v ≡ vunit) (A.lft κ q)))
  RegainsChange-gives v =
      qed 𝓛 (raw ((RegainsChange 𝓛 at_mem run).post (at_regains_change 𝓛 at_mem run κ q p h old new n) v) ∷ []) ∵ updating ! $
      use1 𝓛 (later (some (λ (r : Unit {0}). ((‵ (flft κ q) ⊛ ‵ ftrue) ⊛ ‵ (unit.own_val r (v ∷ []))) ⊛ some (λ (ws : Unit {0} × (Unit {0} × (Unit {0} × (Unit {0} × Unit {0})))). ‵ (fsep ftrue (fsep ftrue (fsep ftrue (fsep ftrue ftrue)))) ⊛ ‵ ftrue)))) (id⊢ 𝓤 _) $
      await ! tt $ pick ! (λ r. split ! $ split ! $ move ! (1 ∷ []) $ feq_l ! (λ e. split ! $ at_once ! $ check ! (ap only e) $ keep ! (0 ∷ []) $ done !))
