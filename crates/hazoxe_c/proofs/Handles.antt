-- The machine value of a handle: its address alone. Assumes `Logic`.
use Rattle.std.proofs.Common.{◌≡◌, List, [], ◌∷◌, ◌++◌, refl, subst, true, Option, None, Some, is_some}
use seplogic.Ra.Ura.{Ura}
use mir.Val.{Val, vstruct, vcons, vnil, of_list}
use types.Logic.{Logic}
use types.Kit.{Item, Goal, Seq, Step, step, ‵, ◌$◌, drop, fsplit, fjoin, fpick, fpack, feq_i, feq_l}
use denote.RattleType.{Valss}
use denote.Builtin.{RawPtr}
use denote.RawPtr.{Ptr, ptr_val}
use denote.Steps.{nothing}
use denote.Struct.Struct.{within}
use denote.Struct.Owning.{shape}
use Rattle.hazoxe_c.specs.Desks.{DeskView}
use Rattle.hazoxe_c.specs.Held.{held_at}
use Rattle.hazoxe_c.specs.declared.handle.Handle.{Handle}
use Rattle.hazoxe_c.specs.contracts.handle.Handle as handle

abbrev pub handle_val : Ptr → Val
handle_val p = vstruct (vcons (ptr_val p) vnil)

-- the desk that there is
pub some_of : (o : Option DeskView) → is_some o ≡ true → (desk : DeskView) × (o ≡ Some desk)
some_of None e = cc
some_of (Some desk) e = (desk, refl)

module _ {M : Type 1} {𝓤 : Ura M} {𝓛 : Logic 𝓤} {K : Type 0} {Γ : List (Item 𝓤)} {G : Goal 𝓤 𝓛.H} where
  pub handle_out : K → (h : Handle) (vs : List Val)
      → (vs ≡ handle_val h.at ∷ [] → Seq K 𝓛 (‵ (held_at h.at h.value) ∷ Γ) G) → Seq K 𝓛 (‵ (handle.the_row.own_val h vs) ∷ Γ) G
  handle_out t h vs k =
      fsplit t $ fpick t (λ vss. fsplit t $ feq_l t (λ ev. fsplit t $ feq_l t (λ ep. drop t $
      k (subst (λ (ps : List Val). vs ≡ vstruct (of_list (ps ++ [])) ∷ []) ep ev))))

  pub handle_in : K → (p : Ptr) (x : Option DeskView)
      → Step K 𝓛 (‵ (handle.the_row.own_val (record { at = p; value = x }) (handle_val p ∷ [])) ∷ Γ) G (‵ (held_at p x) ∷ Γ) G
  handle_in t p x = step (λ s. let v : Val = handle_val p in
      nothing t $ feq_i t (List Val) (ptr_val p ∷ []) (ptr_val p ∷ []) refl $ fjoin t $ feq_i t (List Val) (v ∷ []) (v ∷ []) refl $ fjoin t $
      fpack t (Valss (RawPtr ∷ [])) (within (shape handle.the_type) (p, tt) (v ∷ [])) (ptr_val p ∷ [], tt) $ fjoin t $ s)
