-- It asks the limit, and then answers what the inner allocator answers; where that is a block, the limit has the bytes back that it has less. Assumes `Logic`.
use Rattle.rx_heap.proofs.Steps.{◌≡◌, ℕ, ◌+◌, ◌^◌, ◌<◌, Bool, true, false, List, [], ◌∷◌, refl, w64, Bor, Ura, Args, Fn, a_type, dnil, dcons, Val, vunit, vbool, vint, vptr, inst_fn, SProp, ent, ex, id⊢, never_e, Lft, Share, ftrue, flft, Memory, size, align, capped, up, capped_fits, Routine, Env, Wp, WpFn, Tables, after_seq, at_return, Logic, Item, ‵, raw, ◌⊛◌, some, later, given, ⋆, ◌$◌, ◌∵◌, !, qed, by, move, keep, use0, use1, use2, split, split3, join, pick, learn, fsplit, fjoin, suffices, await, at_ret, any_q, After, done, vrt, in_variant, whole, agg, stop, fld, addr, lit, size_word, no_more, and_then, of_opd, first, branches, skips, exec, switches_on, returns, returns_within, enter, alloc_all, pass_all, free_all, look_at, get, get_in, get_tag, through, sets, sets_last, lands_as, env, ◌⊑◌, ⊑_trans, Fun, tables, tables_of, fm_of, WpFn-mono, usize, RawPtr, RefOf, yes, unhide, shr_dup, bounded, layout, param, uint_vals, uint_Tells, RattleType, owns, Ptr, block_ptr, null_ptr, ptr_val, rawptr_vals, rawptr_Tells, shr_vals, Slot, plain, types_at, nothing, calls_at, Ended, Clauses, triple_of, Contract, Triple, entered, cited, Stays, stay_dropped, walk_of, ends_at, walked, Goes-dropped, walk_Meets, after, head, arm_body, Al, α, seen, token, Answer, answer_val, Answer-typed, Shrinks, resize_key, Resizes, at_resizes, Resizes-goes, Resizes-gives, Flagged, flagged, result_of, result_own, asked, heard_all, block_with_items, resized_if_ok}
use base.Fml.{Fml}
use Rattle.rx_heap.proofs.Limits.{Limits, lent, RefusesChange, at_refuses_change, RefusesChange-goes, RefusesChange-gives, RegainsChange, at_regains_change, RegainsChange-goes, RegainsChange-gives}
use Rattle.rx_heap.proofs.limit.Limit.TheLaws.{the_row_laws}
use Rattle.rx_heap.proofs.limit.Limit.refuses_change.Symbol as refuses_symbol
use Rattle.rx_heap.proofs.limit.Limit.refuses_change.Met as refuses_met
use Rattle.rx_heap.proofs.limit.Limit.regains_change.Symbol as regains_symbol
use Rattle.rx_heap.proofs.limit.Limit.regains_change.Met as regains_met
use Rattle.rx_heap.specs.contracts.limited.Limited as handle
use Rattle.rx_heap.specs.contracts.limited.LimitedAllocator.shrink as F
use Rattle.rx_heap.specs.contracts.limited.LimitedAllocator.shrink.Key as key
use Rattle.rx_heap.proofs.limited.LimitedAllocator.shrink.Statement as stated
use Rattle.rx_heap.proofs.limited.LimitedAllocator.shrink.Code as code

module _ (Z : Al) (X : RattleType) where
  abbrev args : Args
  args = bounded (a_type ∷ a_type ∷ []) (Z.row, (X, tt)) (dcons Z.d (dcons Z.drops dnil))

  abbrev here : Fn
  here = inst_fn args code.function

  abbrev self : Slot 3
  self = RefOf (0 ∷ []) tt (plain (λ _. handle.the_row (param 0 Z.row))) (λ _. tt)

  abbrev ended : Ended
  ended = F.ended Z.row X Z.g Z.d Z.drops

  abbrev stayed : Stays ended.signature.params ended.kept
  stayed = (stay_dropped self yes, (stay_dropped (plain (λ _. RawPtr)) yes, (stay_dropped (plain (λ _. usize)) yes, (stay_dropped (plain (λ _. usize)) yes, (stay_dropped (plain (λ _. usize)) yes, tt)))))

module _ (Z : Al) (X : RattleType) {M : Type 1} {𝓤 : Ura M} (𝓛 : Logic 𝓤) (at_mem : Memory → SProp 𝓤) (run : Routine → Fun 𝓤) (𝓣 : Tables 𝓤 𝓛.H)
    (shrinks : Triple 𝓤 (𝓣.C (resize_key Z X 3)) (Resizes Z X (Shrinks X) 𝓛 at_mem run))
    (refuses : Triple 𝓤 (𝓣.C refuses_symbol.name) (RefusesChange 𝓛 at_mem run)) (regains : Triple 𝓤 (𝓣.C regains_symbol.name) (RegainsChange 𝓛 at_mem run)) where
  open 𝓛 use {H}

  abbrev clauses : Clauses 𝓤 (ended Z X)
  clauses = F.clauses Z.row X Z.g Z.d Z.drops 𝓛 at_mem run

  abbrev Called : Contract 𝓤
  Called = Resizes Z X (Shrinks X) 𝓛 at_mem run

  module _ (κ ρ κT : Lft) (q s qT : Share) (within : κ ⊑ ρ) (r : Bor (handle.the_row Z.row).Denot) (len old new : ℕ) (xs : List X.Denot) where
    abbrev bound : Ptr → (walk_of 𝓛 (ended Z X) (stayed Z X) clauses).Ghost
    bound x = (((κ, (ρ, (κT, tt))), (q, (s, (qT, tt))), (within, tt), (r, (x, (len, (old, (new, tt))))), (shr_vals r, (rawptr_vals x, (vint w64 len ∷ [], (vint w64 old ∷ [], (vint w64 new ∷ [], tt)))))), xs)

    abbrev vs : Ptr → List Val
    vs x = vptr r.ref_ptr.0 r.ref_ptr.1 ∷ ptr_val x ∷ vint w64 len ∷ vint w64 old ∷ vint w64 new ∷ []

    abbrev Post : Ptr → Val → SProp 𝓤
    Post x = (walk_of 𝓛 (ended Z X) (stayed Z X) clauses).post (bound x)

    abbrev entry : Ptr → Item 𝓤
    entry x = (‵ (flft κ q) ⊛ ‵ (flft ρ s) ⊛ ‵ (flft κT qT) ⊛ ‵ ftrue) ⊛ ‵ (owns (types_at (ended Z X).signature.params (bound x).0.0) (bound x).0.3 (bound x).0.4)

    abbrev block : Ptr → Fml
    block x = block_with_items (token Z r.now.inner) (param 1 X) x len old xs

    abbrev left_by : Ptr → Answer.Denot → Fml
    left_by x = resized_if_ok (token Z r.now.inner) (param 1 X) x len old new xs

    -- Each end: what the answer says of the block, and the tokens.
    exits : (x : Ptr) (y : Bool) (b o : ℕ) → ent 𝓤 (⋆ 𝓛 (‵ (left_by x (result_of y b o)) ∷ ‵ (flft κ q) ∷ ‵ (flft ρ s) ∷ ‵ (flft κT qT) ∷ [])) (Post x (answer_val y b o))
    exits x y b o =
        qed 𝓛 (‵ (left_by x (result_of y b o)) ∷ ‵ (flft κ q) ∷ ‵ (flft ρ s) ∷ ‵ (flft κT qT) ∷ []) ∵
        suffices ! _ (ends_at 𝓛 (ended Z X) (stayed Z X) clauses (bound x) (answer_val y b o) (result_of y b o) (tt, (tt, (tt, (tt, (tt, tt))))) (tt, (tt, (tt, (tt, (tt, tt)))))) $
        use0 𝓛 (‵ (Answer.own_val (result_of y b o) (answer_val y b o ∷ []))) (result_own 𝓛 y b o) $
        nothing ! $ nothing ! $ fjoin ! $ nothing ! $ fjoin ! $ nothing ! $ fjoin ! $ nothing ! $ fjoin ! $ nothing ! $ fjoin ! $ join ! $
        nothing ! $ move ! (5 ∷ 0 ∷ []) $ join ! $ move ! (4 ∷ 0 ∷ []) $ join ! $ move ! (3 ∷ 0 ∷ []) $ join ! $ join ! $ done !

    walk : len < 2 ^ 64 → old < 2 ^ 64 → new < 2 ^ 64 → (x : Ptr) → ent 𝓤 ((walk_of 𝓛 (ended Z X) (stayed Z X) clauses).pre (bound x)) (WpFn 𝓤 H 𝓣.C 𝓣.Λ (here Z X) (vs x) (Post x))
    walk fl fo fn null_ptr =
        qed 𝓛 (entry null_ptr ∷ raw (asked 𝓛 (ρ ⊑ Z.row.lives) (κT ⊑ X.lives) (Shrinks X len old new) (block null_ptr)) ∷ []) ∵ move ! (1 ∷ []) $
        heard_all ! (ρ ⊑ Z.row.lives) (κT ⊑ X.lives) (Shrinks X len old new) (block null_ptr) (λ _ _ _. fsplit ! $ keep ! (0 ∷ []) $ by ! (never_e 𝓤 _))
    walk fl fo fn (block_ptr b o) =
        let h : Z.row.Denot = r.now.inner in
        let p : ℕ × ℕ = (r.ref_ptr.0, r.ref_ptr.1 + up (align (α Z)) 0) in
        let c : ℕ × ℕ = (r.ref_ptr.0, r.ref_ptr.1 + up 8 (up (align (α Z)) 0 + size (α Z))) in
        let n : ℕ = capped (size (layout X)) in
        let fits : n < 2 ^ 64 = capped_fits (size (layout X)) in
        let x : Ptr = block_ptr b o in
        let asks : (RefusesChange 𝓛 at_mem run).Ghost = at_refuses_change 𝓛 at_mem run κ q c r.now.limit old new n in
        let y : Called.Ghost = at_resizes Z X (Shrinks X) 𝓛 at_mem run κ κT q qT p h b o len old new xs in
        let returned : (RegainsChange 𝓛 at_mem run).Ghost = at_regains_change 𝓛 at_mem run κ q c r.now.limit new old n in
        qed 𝓛 (entry x ∷ raw (asked 𝓛 (ρ ⊑ Z.row.lives) (κT ⊑ X.lives) (Shrinks X len old new) (block x)) ∷ []) ∵ move ! (1 ∷ []) $
        heard_all ! (ρ ⊑ Z.row.lives) (κT ⊑ X.lives) (Shrinks X len old new) (block x) (λ le leT said. move ! (1 ∷ []) $ split ! $ split3 ! $ move ! (2 ∷ []) $ split ! $
        move ! (4 ∷ []) $ fsplit ! $ fsplit ! $ move ! (1 ∷ []) $ unhide ! $ fsplit ! $ fsplit ! $
        use1 𝓛 (‵ (seen Z κ p h)) (id⊢ 𝓤 _) $ move ! (1 ∷ []) $ fsplit ! $ use1 𝓛 (‵ (lent κ c r.now.limit)) (id⊢ 𝓤 _) $
        shr_dup ! Limits the_row_laws.shr_laws r.now.limit c.0 c.1 κ $ keep ! (0 ∷ 9 ∷ 1 ∷ 3 ∷ 10 ∷ 7 ∷ 11 ∷ []) $
        -- [the limit; κ's token; the limit again; the handle within; the other tokens; the block; the locals]
        enter ! 𝓣.C 𝓣.Λ (here Z X) (vs x) _ $ alloc_all ! (λ l. pass_all ! refl ((tt, tt), ((tt, tt), ((tt, record { fits = fl }), ((tt, record { fits = fo }), ((tt, record { fits = fn }), tt))))) $
        let En : Env 𝓤 H = env (here Z X).locals l in
        let Then : After 𝓤 H = any_q (after_seq 𝓤 H (Wp 𝓤 H 𝓣.C 𝓣.Λ En (after 6 (here Z X).body) (at_return 𝓤 H En (Post x))) (at_return 𝓤 H En (Post x))) in
        sets ! (addr ! (through ! refl (fld ! refl (stop !)))) refl (tt, tt) $
        use2 𝓛 (raw ((RefusesChange 𝓛 at_mem run).pre asks)) (RefusesChange-goes 𝓛 at_mem run κ q c r.now.limit old new n fo fn fits) $
        calls_at ! (fm_of 𝓤 H 𝓛.laws 𝓣) (RefusesChange 𝓛 at_mem run) refuses asks (and_then ! (get ! refl) (and_then ! (get ! refl) (and_then ! (get ! refl) (and_then ! (size_word !) (no_more !))))) (λ u.
        use1 𝓛 (later (some (λ (is : Bool). given (u ≡ vbool is) (‵ (flft κ q))))) (RefusesChange-gives 𝓛 at_mem run κ q c r.now.limit old new n u) $ await ! tt $ pick ! (λ is. learn ! (λ eu. lands_as ! eu refl (tt, tt) $
        first ! $ branches ! (get ! refl)
        (λ refused. sets ! (agg ! (no_more !)) refl (tt, tt) $ sets ! (agg ! (and_then ! (lit ! tt) (and_then ! (get ! refl) (no_more !)))) refl (Answer-typed false 0 0) $
        returns_within ! (Post x) refl (look_at ! 0 refl) $ free_all ! refl $ keep ! (5 ∷ 0 ∷ 3 ∷ 4 ∷ []) $ use1 𝓛 (‵ (left_by x (result_of false 0 0))) (id⊢ 𝓤 _) $ by ! (exits x false 0 0))
        (λ taken. skips ! $ exec ! 𝓣.C 𝓣.Λ En (after 3 (here Z X).body) (at_ret En (Post x)) $
        sets ! (addr ! (through ! refl (fld ! refl (stop !)))) refl (tt, tt) $
        move ! (0 ∷ 4 ∷ []) $ join ! $ move ! (2 ∷ 0 ∷ []) $ join ! $ move ! (3 ∷ 0 ∷ []) $ join ! $
        use1 𝓛 (raw (Called.pre y)) (Resizes-goes Z X (Shrinks X) 𝓛 at_mem run κ κT q qT p h b o len old new xs (⊑_trans κ ρ Z.row.lives within le) leT said fl fo fn) $
        calls_at ! (fm_of 𝓤 H 𝓛.laws 𝓣) Called shrinks y (and_then ! (get ! refl) (and_then ! (get ! refl) (and_then ! (get ! refl) (and_then ! (get ! refl) (and_then ! (get ! refl) (no_more !)))))) (λ v.
        use1 𝓛 (later (raw (ex 𝓤 (Flagged 𝓛 (left_by x) v)) ⊛ ‵ (flft κ q) ⊛ ‵ (flft κT qT))) (Resizes-gives Z X (Shrinks X) 𝓛 at_mem run κ κT q qT p h b o len old new xs v) $ await ! tt $ split3 ! $
        flagged ! v (left_by x)
        -- [the block; κ's token; κT's; the limit; the other token; the locals]
        (λ b' o' e. lands_as ! e refl (Answer-typed true b' o') $
        first ! $ switches_on ! (get_tag ! (vrt ! refl (fld ! refl (stop !))) (whole !)) $ exec ! 𝓣.C 𝓣.Λ En (arm_body 0 (head (after 5 (here Z X).body))) Then $
        sets ! (of_opd ! (get_in ! (vrt ! refl (fld ! refl (stop !))) (in_variant ! 0 0 refl refl (whole !)))) refl (tt, tt) $
        sets ! (addr ! (through ! refl (fld ! refl (stop !)))) refl (tt, tt) $ move ! (3 ∷ 1 ∷ []) $
        use2 𝓛 (raw ((RegainsChange 𝓛 at_mem run).pre returned)) (RegainsChange-goes 𝓛 at_mem run κ q c r.now.limit new old n fn fo fits) $
        calls_at ! (fm_of 𝓤 H 𝓛.laws 𝓣) (RegainsChange 𝓛 at_mem run) regains returned (and_then ! (get ! refl) (and_then ! (get ! refl) (and_then ! (get ! refl) (and_then ! (size_word !) (no_more !))))) (λ w.
        use1 𝓛 (later (given (w ≡ vunit) (‵ (flft κ q)))) (RegainsChange-gives 𝓛 at_mem run κ q c r.now.limit new old n w) $ await ! tt $ learn ! (λ ew. lands_as ! ew refl (tt, tt) $
        sets_last ! (agg ! (and_then ! (lit ! tt) (and_then ! (get ! refl) (no_more !)))) refl (Answer-typed true b' o') $
        exec ! 𝓣.C 𝓣.Λ En (after 6 (here Z X).body) (at_ret En (Post x)) $ sets ! (of_opd ! (get ! refl)) refl (Answer-typed true b' o') $
        returns ! (look_at ! 0 refl) $ free_all ! refl $ keep ! (1 ∷ 0 ∷ 3 ∷ 2 ∷ []) $ by ! (exits x true b' o'))))
        (λ e. lands_as ! e refl (Answer-typed false 0 0) $
        first ! $ switches_on ! (get_tag ! (vrt ! refl (fld ! refl (stop !))) (whole !)) $ exec ! 𝓣.C 𝓣.Λ En (arm_body 1 (head (after 5 (here Z X).body))) Then $
        sets ! (of_opd ! (get_in ! (vrt ! refl (fld ! refl (stop !))) (in_variant ! 1 0 refl refl (whole !)))) refl (tt, tt) $
        sets_last ! (agg ! (and_then ! (lit ! tt) (and_then ! (get ! refl) (no_more !)))) refl (Answer-typed false 0 0) $
        exec ! 𝓣.C 𝓣.Λ En (after 6 (here Z X).body) (at_ret En (Post x)) $ sets ! (of_opd ! (get ! refl)) refl (Answer-typed false 0 0) $
        returns ! (look_at ! 0 refl) $ free_all ! refl $ keep ! (0 ∷ 1 ∷ 4 ∷ 2 ∷ []) $ by ! (exits x false 0 0)))))))))

pub shrink_spec : {M : Type 1} → stated.statement M
unfolding tables_of
shrink_spec 𝓤 𝓛 𝓜 𝓡 wired Y X LY LX g d d' met _ =
    let Z : Al = record { row = Y; laws = LY; g = g; d = d; drops = d' } in
    let 𝓣 : Tables 𝓤 𝓛.H = tables_of 𝓤 𝓛.H 𝓜 (tables 𝓤 𝓛.H 𝓜 𝓡 𝓡.env) in
    let c = F.clauses Y X g d d' 𝓛 𝓜.mem 𝓡.returns in
    let number = Goes-dropped 𝓛 3 (plain (λ _. usize)) yes in
    entered 𝓤 𝓛.H (triple_of 𝓛 (F.signature Y X) (F.spec Y X g d d' 𝓛 𝓜.mem 𝓡.returns)) 𝓣.C 𝓣.Λ (key.name (args Z X)) (here Z X) (code.unfolded 𝓤 𝓛.H 𝓜 𝓡 wired (Y, (X, tt)) d d')
    (walk_Meets 𝓛 (ended Z X) (stayed Z X) (Goes-dropped 𝓛 3 (self Z X) yes (λ κs x f. refl), (Goes-dropped 𝓛 3 (plain (λ _. RawPtr)) yes (λ κs x f. refl), (number (λ κs x f. refl), (number (λ κs x f. refl), (number (λ κs x f. refl), tt))))) c (WpFn 𝓤 𝓛.H 𝓣.C 𝓣.Λ (here Z X)) (WpFn-mono 𝓤 𝓛.H 𝓛.laws 𝓣 (here Z X))
    (walked 𝓛 (ended Z X) (stayed Z X) c (WpFn 𝓤 𝓛.H 𝓣.C 𝓣.Λ (here Z X)) (λ κs. (shr_vals, (rawptr_vals, (uint_vals w64, (uint_vals w64, (uint_vals w64, tt)))))) (λ κs. ((λ r vs s. s.0), (rawptr_Tells, (uint_Tells w64, (uint_Tells w64, (uint_Tells w64, tt))))))
    (λ κs qs bounds a xs are. walk Z X 𝓛 𝓜.mem 𝓡.returns 𝓣 (met.shrink d' X LX)
    (cited 𝓤 𝓛.H _ 𝓜 𝓡 𝓡.env refuses_symbol.name (𝓡.env refuses_symbol.name) refl (refuses_met.met 𝓤 𝓛 𝓜 𝓡 (code.calls-rx_heap::limit::Limit::refuses_change 𝓡.env wired)))
    (cited 𝓤 𝓛.H _ 𝓜 𝓡 𝓡.env regains_symbol.name (𝓡.env regains_symbol.name) refl (regains_met.met 𝓤 𝓛 𝓜 𝓡 (code.calls-rx_heap::limit::Limit::regains_change 𝓡.env wired)))
    κs.0 κs.1.0 κs.1.1.0 qs.0 qs.1.0 qs.1.1.0 bounds.0 a.0 a.1.1.0 a.1.1.1.0 a.1.1.1.1.0 xs are.1.1.0.1 are.1.1.1.0.1 are.1.1.1.1.0.1 a.1.0)))
