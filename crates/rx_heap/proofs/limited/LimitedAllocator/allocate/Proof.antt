-- It asks the limit, and then answers what the inner allocator answers; where that is an error, the limit has its bytes back. Assumes `Logic`.
use Rattle.rx_heap.proofs.Steps.{◌≡◌, ℕ, ◌+◌, ◌^◌, ◌<◌, Bool, true, false, List, [], ◌∷◌, Ok, Err, refl, w64, Bor, Ura, Ty, Args, Fn, a_type, dnil, dcons, Val, vunit, vbool, vint, vptr, inst_fn, SProp, ent, id⊢, Lft, Share, ftrue, fsep, froom, flft, Memory, size, align, capped, up, Routine, Env, Wp, WpFn, Tables, after_seq, at_return, Logic, ‵, raw, ◌⊛◌, some, later, given, ⋆, ◌$◌, ◌∵◌, !, qed, by, move, keep, use0, use1, use2, split, join, pick, learn, fsplit, fjoin, suffices, await, at_ret, any_q, After, done, vrt, in_variant, whole, agg, stop, fld, addr, lit, no_more, and_then, of_opd, first, branches, skips, exec, switches_on, returns, returns_within, enter, alloc_all, pass_all, free_all, look_at, get, get_in, get_tag, through, sets, sets_last, lands_as, env, ◌⊑◌, ⊑_trans, Fun, fact, tables, tables_of, fm_of, WpFn-mono, usize, RefOf, yes, unhide, shr_dup, bounded, param, uint_vals, uint_Tells, owns, block_ptr, shr_vals, Slot, plain, types_at, heard, nothing, calls_at, Ended, Clauses, triple_of, Triple, entered, cited, Stays, stay_dropped, walk_of, ends_at, walked, Goes-dropped, walk_Meets, after, head, arm_body, Al, α, seen, token, Answer, answer_val, Answer-typed, Answer-Ok, Answer-err, takes_key, Takes, at_takes, Answered, Takes-goes, Takes-gives, answers}
use Rattle.rx_heap.proofs.Limits.{Limits, lent, Refuses, at_refuses, Refuses-goes, Refuses-gives, Regains, at_regains, Regains-goes, Regains-gives}
use Rattle.rx_heap.proofs.limit.Limit.TheLaws.{the_row_laws}
use Rattle.rx_heap.proofs.limit.Limit.refuses.Symbol as refuses_symbol
use Rattle.rx_heap.proofs.limit.Limit.refuses.Met as refuses_met
use Rattle.rx_heap.proofs.limit.Limit.regains.Symbol as regains_symbol
use Rattle.rx_heap.proofs.limit.Limit.regains.Met as regains_met
use Rattle.rx_heap.specs.contracts.limited.Limited as handle
use Rattle.rx_heap.specs.contracts.limited.LimitedAllocator.allocate as F
use Rattle.rx_heap.specs.contracts.limited.LimitedAllocator.allocate.Key as key
use Rattle.rx_heap.proofs.limited.LimitedAllocator.allocate.Statement as stated
use Rattle.rx_heap.proofs.limited.LimitedAllocator.allocate.Code as code

module _ (Z : Al) where
  abbrev args : Args
  args = bounded (a_type ∷ []) (Z.row, tt) (dcons Z.d (dcons Z.drops dnil))

  abbrev here : Fn
  here = inst_fn args code.function

  abbrev self : Slot 2
  self = RefOf (0 ∷ []) tt (plain (λ _. handle.the_row (param 0 Z.row))) (λ _. tt)

  abbrev ended : Ended
  ended = F.ended Z.row Z.g Z.d Z.drops

  abbrev stayed : Stays ended.signature.params ended.kept
  stayed = (stay_dropped self yes, (stay_dropped (plain (λ _. usize)) yes, (stay_dropped (plain (λ _. usize)) yes, tt)))

module _ (Z : Al) {M : Type 1} {𝓤 : Ura M} (𝓛 : Logic 𝓤) (at_mem : Memory → SProp 𝓤) (run : Routine → Fun 𝓤) (𝓣 : Tables 𝓤 𝓛.H)
    (takes : Triple 𝓤 (𝓣.C (takes_key Z)) (Takes Z 𝓛 at_mem run))
    (refuses : Triple 𝓤 (𝓣.C refuses_symbol.name) (Refuses 𝓛 at_mem run)) (regains : Triple 𝓤 (𝓣.C regains_symbol.name) (Regains 𝓛 at_mem run)) where
  open 𝓛 use {H}

  abbrev clauses : Clauses 𝓤 (ended Z)
  clauses = F.clauses Z.row Z.g Z.d Z.drops 𝓛 at_mem run

  module _ (κ ρ : Lft) (q s : Share) (within : κ ⊑ ρ) (r : Bor (handle.the_row Z.row).Denot) (n a : ℕ) (τ : Ty) where
    abbrev bound : (walk_of 𝓛 (ended Z) (stayed Z) clauses).Ghost
    bound = (((κ, (ρ, tt)), (q, (s, tt)), (within, tt), (r, (n, (a, tt))), (shr_vals r, (vint w64 n ∷ [], (vint w64 a ∷ [], tt)))), τ)

    abbrev vs : List Val
    vs = vptr r.ref_ptr.0 r.ref_ptr.1 ∷ vint w64 n ∷ vint w64 a ∷ []

    abbrev Post : Val → SProp 𝓤
    Post = (walk_of 𝓛 (ended Z) (stayed Z) clauses).post bound

    abbrev Said : Type 0
    Said = (capped (size τ) ≡ n) × (capped (align τ) ≡ a)

    -- The end of a growth that was granted, and that of one which was refused, by the limit or by the inner allocator.
    exits_ok : (b o : ℕ) → ent 𝓤 (⋆ 𝓛 (‵ (fsep (froom τ b o) (token Z r.now.inner τ (block_ptr b o))) ∷ ‵ (flft κ q) ∷ (‵ (flft ρ s) ⊛ ‵ ftrue) ∷ [])) (Post (answer_val true b o))
    exits_ok b o =
        qed 𝓛 (‵ (fsep (froom τ b o) (token Z r.now.inner τ (block_ptr b o))) ∷ ‵ (flft κ q) ∷ (‵ (flft ρ s) ⊛ ‵ ftrue) ∷ []) ∵
        suffices ! _ (ends_at 𝓛 (ended Z) (stayed Z) clauses bound (answer_val true b o) (Ok (block_ptr b o)) (tt, (tt, (tt, tt))) (tt, (tt, (tt, tt)))) $
        use0 𝓛 (‵ (Answer.own_val (Ok (block_ptr b o)) (answer_val true b o ∷ []))) (Answer-Ok 𝓛 b o) $ nothing ! $ nothing ! $ fjoin ! $ nothing ! $ fjoin ! $ nothing ! $ fjoin ! $ join ! $
        move ! (2 ∷ 3 ∷ []) $ join ! $ join ! $ done !

    exits_err : ent 𝓤 (⋆ 𝓛 (‵ (flft κ q) ∷ (‵ (flft ρ s) ⊛ ‵ ftrue) ∷ [])) (Post (answer_val false 0 0))
    exits_err =
        qed 𝓛 (‵ (flft κ q) ∷ (‵ (flft ρ s) ⊛ ‵ ftrue) ∷ []) ∵ nothing ! $
        suffices ! _ (ends_at 𝓛 (ended Z) (stayed Z) clauses bound (answer_val false 0 0) (Err (record {})) (tt, (tt, (tt, tt))) (tt, (tt, (tt, tt)))) $
        use0 𝓛 (‵ (Answer.own_val (Err (record {})) (answer_val false 0 0 ∷ []))) (Answer-err 𝓛) $ nothing ! $ nothing ! $ fjoin ! $ nothing ! $ fjoin ! $ nothing ! $ fjoin ! $ join ! $
        move ! (2 ∷ 3 ∷ []) $ join ! $ join ! $ done !

    walk : n < 2 ^ 64 → a < 2 ^ 64 → ent 𝓤 ((walk_of 𝓛 (ended Z) (stayed Z) clauses).pre bound) (WpFn 𝓤 H 𝓣.C 𝓣.Λ (here Z) vs Post)
    walk fn fa =
        let h : Z.row.Denot = r.now.inner in
        let p : ℕ × ℕ = (r.ref_ptr.0, r.ref_ptr.1 + up (align (α Z)) 0) in
        let c : ℕ × ℕ = (r.ref_ptr.0, r.ref_ptr.1 + up 8 (up (align (α Z)) 0 + size (α Z))) in
        let x : (Refuses 𝓛 at_mem run).Ghost = at_refuses 𝓛 at_mem run κ q c r.now.limit n in
        let y : (Takes Z 𝓛 at_mem run).Ghost = at_takes Z 𝓛 at_mem run κ q p h n a τ in
        let z : (Regains 𝓛 at_mem run).Ghost = at_regains 𝓛 at_mem run κ q c r.now.limit n in
        qed 𝓛 (((‵ (flft κ q) ⊛ ‵ (flft ρ s) ⊛ ‵ ftrue) ⊛ ‵ (owns (types_at (ended Z).signature.params bound.0.0) bound.0.3 bound.0.4)) ∷ (raw (fact 𝓤 (ρ ⊑ Z.row.lives)) ⊛ raw (fact 𝓤 Said)) ∷ []) ∵
        move ! (1 ∷ []) $ split ! $ heard ! (ρ ⊑ Z.row.lives) (λ le. heard ! Said (λ said.
        split ! $ split ! $ move ! (2 ∷ []) $ fsplit ! $ fsplit ! $ move ! (1 ∷ []) $ unhide ! $ fsplit ! $ fsplit ! $
        use1 𝓛 (‵ (seen Z κ p h)) (id⊢ 𝓤 _) $ move ! (1 ∷ []) $ fsplit ! $ use1 𝓛 (‵ (lent κ c r.now.limit)) (id⊢ 𝓤 _) $
        shr_dup ! Limits the_row_laws.shr_laws r.now.limit c.0 c.1 κ $ keep ! (0 ∷ 7 ∷ 1 ∷ 3 ∷ 8 ∷ []) $
        -- [the limit; κ's token; the limit again; the handle within; the other token; the locals]
        enter ! 𝓣.C 𝓣.Λ (here Z) vs _ $ alloc_all ! (λ l. pass_all ! refl ((tt, tt), ((tt, record { fits = fn }), ((tt, record { fits = fa }), tt))) $
        let En : Env 𝓤 H = env (here Z).locals l in
        let Then : After 𝓤 H = any_q (after_seq 𝓤 H (Wp 𝓤 H 𝓣.C 𝓣.Λ En (after 6 (here Z).body) (at_return 𝓤 H En Post)) (at_return 𝓤 H En Post)) in
        sets ! (addr ! (through ! refl (fld ! refl (stop !)))) refl (tt, tt) $
        use2 𝓛 (raw ((Refuses 𝓛 at_mem run).pre x)) (Refuses-goes 𝓛 at_mem run κ q c r.now.limit n fn) $
        calls_at ! (fm_of 𝓤 H 𝓛.laws 𝓣) (Refuses 𝓛 at_mem run) refuses x (and_then ! (get ! refl) (and_then ! (get ! refl) (no_more !))) (λ u.
        use1 𝓛 (later (some (λ (is : Bool). given (u ≡ vbool is) (‵ (flft κ q))))) (Refuses-gives 𝓛 at_mem run κ q c r.now.limit n u) $ await ! tt $ pick ! (λ is. learn ! (λ eu. lands_as ! eu refl (tt, tt) $
        first ! $ branches ! (get ! refl)
        (λ refused. sets ! (agg ! (no_more !)) refl (tt, tt) $ sets ! (agg ! (and_then ! (lit ! tt) (and_then ! (get ! refl) (no_more !)))) refl (Answer-typed false 0 0) $
        returns_within ! Post refl (look_at ! 0 refl) $ free_all ! refl $ keep ! (0 ∷ 3 ∷ []) $ by ! exits_err)
        (λ taken. skips ! $ exec ! 𝓣.C 𝓣.Λ En (after 3 (here Z).body) (at_ret En Post) $
        sets ! (addr ! (through ! refl (fld ! refl (stop !)))) refl (tt, tt) $ move ! (2 ∷ 0 ∷ []) $
        use2 𝓛 (raw ((Takes Z 𝓛 at_mem run).pre y)) (Takes-goes Z 𝓛 at_mem run κ q p h (⊑_trans κ ρ Z.row.lives within le) n a τ said.0 said.1 fn fa) $
        calls_at ! (fm_of 𝓤 H 𝓛.laws 𝓣) (Takes Z 𝓛 at_mem run) takes y (and_then ! (get ! refl) (and_then ! (get ! refl) (and_then ! (get ! refl) (no_more !)))) (λ v.
        use1 𝓛 (later (raw (Answered Z 𝓛 at_mem run h τ v) ⊛ ‵ (flft κ q))) (Takes-gives Z 𝓛 at_mem run κ q p h n a τ v) $ await ! tt $ split ! $
        answers Z ! at_mem run h τ v
        -- [the block; κ's token; the limit; the other token; the locals]
        (λ b o e. fjoin ! $ lands_as ! e refl (Answer-typed true b o) $
        first ! $ switches_on ! (get_tag ! (vrt ! refl (fld ! refl (stop !))) (whole !)) $ exec ! 𝓣.C 𝓣.Λ En (arm_body 0 (head (after 5 (here Z).body))) Then $
        sets ! (of_opd ! (get_in ! (vrt ! refl (fld ! refl (stop !))) (in_variant ! 0 0 refl refl (whole !)))) refl (tt, tt) $
        sets_last ! (agg ! (and_then ! (lit ! tt) (and_then ! (get ! refl) (no_more !)))) refl (Answer-typed true b o) $
        exec ! 𝓣.C 𝓣.Λ En (after 6 (here Z).body) (at_ret En Post) $ sets ! (of_opd ! (get ! refl)) refl (Answer-typed true b o) $
        returns ! (look_at ! 0 refl) $ free_all ! refl $ keep ! (0 ∷ 1 ∷ 3 ∷ []) $ by ! (exits_ok b o))
        -- [κ's token; the limit; the other token; the locals]
        (λ e. lands_as ! e refl (Answer-typed false 0 0) $
        first ! $ switches_on ! (get_tag ! (vrt ! refl (fld ! refl (stop !))) (whole !)) $ exec ! 𝓣.C 𝓣.Λ En (arm_body 1 (head (after 5 (here Z).body))) Then $
        sets ! (of_opd ! (get_in ! (vrt ! refl (fld ! refl (stop !))) (in_variant ! 1 0 refl refl (whole !)))) refl (tt, tt) $
        sets ! (addr ! (through ! refl (fld ! refl (stop !)))) refl (tt, tt) $ move ! (1 ∷ 0 ∷ []) $
        use2 𝓛 (raw ((Regains 𝓛 at_mem run).pre z)) (Regains-goes 𝓛 at_mem run κ q c r.now.limit n fn) $
        calls_at ! (fm_of 𝓤 H 𝓛.laws 𝓣) (Regains 𝓛 at_mem run) regains z (and_then ! (get ! refl) (and_then ! (get ! refl) (no_more !))) (λ w.
        use1 𝓛 (later (given (w ≡ vunit) (‵ (flft κ q)))) (Regains-gives 𝓛 at_mem run κ q c r.now.limit n w) $ await ! tt $ learn ! (λ ew. lands_as ! ew refl (tt, tt) $
        sets_last ! (agg ! (and_then ! (lit ! tt) (and_then ! (get ! refl) (no_more !)))) refl (Answer-typed false 0 0) $
        exec ! 𝓣.C 𝓣.Λ En (after 6 (here Z).body) (at_ret En Post) $ sets ! (of_opd ! (get ! refl)) refl (Answer-typed false 0 0) $
        returns ! (look_at ! 0 refl) $ free_all ! refl $ keep ! (0 ∷ 1 ∷ []) $ by ! exits_err)))))))))))

pub allocate_spec : {M : Type 1} → stated.statement M
unfolding tables_of
allocate_spec 𝓤 𝓛 𝓜 𝓡 wired Y L g d d' met _ =
    let Z : Al = record { row = Y; laws = L; g = g; d = d; drops = d' } in
    let 𝓣 : Tables 𝓤 𝓛.H = tables_of 𝓤 𝓛.H 𝓜 (tables 𝓤 𝓛.H 𝓜 𝓡 𝓡.env) in
    let c = F.clauses Y g d d' 𝓛 𝓜.mem 𝓡.returns in
    let number = Goes-dropped 𝓛 2 (plain (λ _. usize)) yes in
    entered 𝓤 𝓛.H (triple_of 𝓛 (F.signature Y) (F.spec Y g d d' 𝓛 𝓜.mem 𝓡.returns)) 𝓣.C 𝓣.Λ (key.name (args Z)) (here Z) (code.unfolded 𝓤 𝓛.H 𝓜 𝓡 wired (Y, tt) d d')
    (walk_Meets 𝓛 (ended Z) (stayed Z) (Goes-dropped 𝓛 2 (self Z) yes (λ κs x f. refl), (number (λ κs x f. refl), (number (λ κs x f. refl), tt))) c (WpFn 𝓤 𝓛.H 𝓣.C 𝓣.Λ (here Z)) (WpFn-mono 𝓤 𝓛.H 𝓛.laws 𝓣 (here Z))
    (walked 𝓛 (ended Z) (stayed Z) c (WpFn 𝓤 𝓛.H 𝓣.C 𝓣.Λ (here Z)) (λ κs. (shr_vals, (uint_vals w64, (uint_vals w64, tt)))) (λ κs. ((λ r vs s. s.0), (uint_Tells w64, (uint_Tells w64, tt))))
    (λ κs qs bounds a τ are. walk Z 𝓛 𝓜.mem 𝓡.returns 𝓣 (met.allocate d')
    (cited 𝓤 𝓛.H _ 𝓜 𝓡 𝓡.env refuses_symbol.name (𝓡.env refuses_symbol.name) refl (refuses_met.met 𝓤 𝓛 𝓜 𝓡 (code.calls-rx_heap::limit::Limit::refuses 𝓡.env wired)))
    (cited 𝓤 𝓛.H _ 𝓜 𝓡 𝓡.env regains_symbol.name (𝓡.env regains_symbol.name) refl (regains_met.met 𝓤 𝓛 𝓜 𝓡 (code.calls-rx_heap::limit::Limit::regains 𝓡.env wired)))
    κs.0 κs.1.0 qs.0 qs.1.0 bounds.0 a.0 a.1.0 a.1.1.0 τ are.1.0.1 are.1.1.0.1)))
