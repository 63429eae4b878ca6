-- `into_loose` takes the box from its address.
use Rattle.std.proofs.Common.{◌≡◌, List, [], ◌∷◌, ◌++◌, refl, sym, subst, true, Option, Some, is_some}
use mir.Raw.{raw as bare}
use mir.Val.{Val, vptr}
use base.Logic.{SProp, ent, emp, never, id⊢, fst∗}
use prog.Wp.{WpFn}
use types.Logic.{sem}
use types.Kit.{‵, raw, ◌⊛◌, ◌$◌, ◌∵◌, !, qed, by, move, keep, split, fsplit3, fjoin, suffices, use0, rewrite}
use types.Run.{stop, fld, of_opd, no_more, and_then, returns, enter}
use types.ByLocal.{alloc_all, pass_all, free_all, look_at, get, get_in, sets}
use types.Part.{agg, sub, whole}
use contract.Monad.{fact, fact_i}
use contract.Running.{tables}
use denote.Exit.{yes}
use denote.RattleType.{RattleType, owns}
use denote.Signature.{types_at, plain}
use denote.RawPtr.{Ptr, block_ptr, null_ptr, in_a_block}
use denote.Memory.{lone}
use denote.Steps.{nothing, heard}
use denote.Param.{layout}
use denote.Triple.Entry.{alive}
use denote.Triple.Walked.{Stays, stay_dropped, walk_of, Goes-dropped}
use Rattle.std.proofs.cell.Inside.{one}
use Rattle.std.proofs.raw_atomic.Walks.{proved_at, leaves}
use Rattle.std.specs.Box.Ownership.{box_owns}
use Rattle.std.specs.contracts.alloc.Global as heap
use Rattle.std.proofs.alloc.Global.TheLaws as heap_laws
use Rattle.std_heap.specs.contracts.GlobalAllocator.TheImpl.{ghosts}
use Rattle.hazoxe_c.specs.Desks.{DeskView}
use Rattle.hazoxe_c.specs.Held.{held_at, chunk}
use Rattle.hazoxe_c.specs.contracts.desk.Desk as desk
use Rattle.hazoxe_c.specs.contracts.handle.Handle as handle
use Rattle.hazoxe_c.proofs.Values.{both, loose_good, loose_in}
use Rattle.hazoxe_c.proofs.Handles.{handle_val, handle_out, some_of}
use Rattle.hazoxe_c.specs.contracts.handle.Handle.into_loose.{ended, clauses}
use Rattle.hazoxe_c.specs.contracts.handle.Handle.into_loose.Key.{name as #self}
use Rattle.hazoxe_c.proofs.handle.Handle.into_loose.Statement.{statement}
use Rattle.hazoxe_c.proofs.handle.Handle.into_loose.Code as code

pub into_loose_spec : {M : Type 1} → statement M
into_loose_spec 𝓤 𝓛 𝓜 𝓡 wired =
    let H = 𝓛.H in let 𝓣 = tables 𝓤 H 𝓜 𝓡 𝓡.env in let R : RattleType = desk.the_row in let Z : RattleType = heap.the_row in let LZ = heap_laws.the_row_laws in
    let En = ended in let c = clauses 𝓛 𝓜.mem 𝓡.returns in let fn = code.function in let P : RattleType = handle.the_row in
    let hs : Stays En.signature.params En.kept = (stay_dropped (plain (λ _. P)) yes, (stay_dropped (plain (λ _. Z)) yes, tt)) in
    proved_at 𝓛 En hs c 𝓜 𝓡 (Goes-dropped 𝓛 0 (plain (λ _. P)) yes (λ κs x f. refl), (Goes-dropped 𝓛 0 (plain (λ _. Z)) yes (λ κs x f. refl), tt)) #self fn (code.unfolded 𝓤 H 𝓜 𝓡 wired) (λ z are.
    let κs = z.0.0 in let v = z.0.3.0 in let a = z.0.3.1.0 in let Post : Val → SProp 𝓤 = (walk_of 𝓛 En hs c).post z in let Run : List Val → SProp 𝓤 = λ ws. WpFn 𝓤 H 𝓣.C 𝓣.Λ fn ws Post in
    let h = one (layout Z) z.0.4.1.0 ((LZ.lawful 𝓛).typed a z.0.4.1.0 are.1.0) in
    qed 𝓛 ((raw (alive 𝓛 En.signature κs z.0.1) ⊛ ‵ (owns (types_at En.signature.params κs) z.0.3 z.0.4)) ∷ raw (fact 𝓤 (is_some v.value ≡ true)) ∷ []) ∵
    move ! (1 ∷ []) $ heard ! (is_some v.value ≡ true) (λ there. let d = (some_of v.value there).0 in let held = (some_of v.value there).1 in
    split ! $ move ! (1 ∷ []) $ fsplit3 ! $ rewrite ! 1 (λ (us : List Val). ‵ (Z.own_val a us)) h.1 refl $
    handle_out ! v z.0.4.0 (λ ev. rewrite ! 0 (λ (x : Option DeskView). ‵ (held_at v.at x)) held refl $
    in_a_block ! v.at (λ (p : Ptr). box_owns chunk R p d) (fst∗ 𝓤 (never 𝓤) (sem 𝓛 (chunk (bare (lone R.mir)) null_ptr))) (λ b o e.
    let w : Val = handle_val (block_ptr b o) in let ew : z.0.4.0 ≡ w ∷ [] = subst (λ (p : Ptr). z.0.4.0 ≡ handle_val p ∷ []) e ev in
    suffices ! (Run (w ∷ h.0 ∷ [])) (subst (λ (us : List Val). ent 𝓤 (Run (w ∷ h.0 ∷ [])) (Run us)) (sym (λ i. ew i ++ (h.1 i ++ []))) (id⊢ 𝓤 (Run (w ∷ h.0 ∷ [])))) $
    enter ! 𝓣.C 𝓣.Λ fn (w ∷ h.0 ∷ []) Post $ alloc_all ! (λ l. pass_all ! refl ((tt, (tt, tt)), (h.2, tt)) $
    sets ! (of_opd ! (get_in ! (fld ! refl (stop !)) (sub ! 0 refl (whole !)))) refl (tt, tt) $ sets ! (of_opd ! (get ! refl)) refl (tt, tt) $
    sets ! (agg ! (and_then ! (get ! refl) (and_then ! (get ! refl) (no_more !)))) refl (loose_good R Z LZ ghosts b o h.0 h.2) $
    loose_in R Z LZ ghosts ! b o h.0 a d $ use0 𝓛 (raw (fact 𝓤 (Some d ≡ v.value))) (fact_i 𝓤 (Some d ≡ v.value) (emp 𝓤) (sym held)) $
    nothing ! $ nothing ! $ nothing ! $ fjoin ! $ nothing ! $ fjoin ! $
    returns ! (look_at ! 0 refl) $ free_all ! refl $ keep ! (6 ∷ 0 ∷ 3 ∷ 2 ∷ []) $ by ! (leaves 𝓛 En hs c z (both (vptr b o) h.0) (record { at = block_ptr b o; alloc = a; value = d }) (_, (tt, tt)) (tt, (tt, tt))))))))
