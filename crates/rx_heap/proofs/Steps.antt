-- The names that the walks of the allocator cite, passed on.
pub use Rattle.std.proofs.Common.{◌≡◌, ℕ, ◌+◌, ◌^◌, ◌<◌, Bool, true, false, List, [], ◌∷◌, Ok, Err, refl, ap, w64, Bor}
pub use seplogic.Ra.Ura.{Ura}
pub use mir.Syntax.{Ty, Args, Fn, a_type, dnil, dcons}
pub use mir.Val.{Val, vunit, vbool, vint, vptr}
pub use mir.MapTy.{inst_fn}
pub use base.Logic.{SProp, ent, sep, ex, guard, id⊢, never_e}
pub use base.Fml.{Lft, Share, ffalse, ftrue, fsep, froom, flft}
pub use prog.Memory.{Memory, size, align, capped, up}
pub use prog.Capped.{capped_fits}
pub use prog.Routine.{Routine}
pub use prog.Wp.{Env, Wp, WpFn, Tables, after_seq, at_return}
pub use types.Logic.{Logic, sem}
pub use types.Kit.{Item, ‵, raw, ◌⊛◌, some, later, given, ⋆, ◌$◌, ◌∵◌, !, qed, by, move, keep, drop, use0, use1, use2, split, split3, join, pick, learn, fsplit, fjoin, feq_i, feq_l, flt_i, check, show, suffices, await, updating, now as at_once, at_ret, any_q, Post as After, done}
pub use types.Match.{vrt, in_variant}
pub use types.Part.{whole, agg}
pub use types.Run.{stop, fld, addr, lit, unit_lit, size_word, no_more, and_then, of_opd, first, branches, skips, exec, switches_on, returns, returns_within, enter}
pub use types.ByLocal.{alloc_all, pass_all, free_all, look_at, get, get_in, get_tag, through, sets, sets_last, lands_as, env}
pub use contract.BorrowLft.{◌⊑◌, ⊑_trans}
pub use contract.Monad.{Fun, fact}
unfoldable pub use contract.Running.{tables, tables_of}
pub use sound.WpLaws.{fm_of, WpFn-mono}
pub use denote.Builtin.{bool, unit, usize, RawPtr, RefOf}
pub use denote.Exit.{yes}
pub use denote.Memory.{hidden_shr}
pub use denote.Opens.{unhide, shr_dup}
pub use denote.Param.{bounded, layout, param}
pub use denote.Plain.{uint_vals, uint_Tells}
pub use denote.RattleType.{RattleType, owns}
pub use denote.RawPtr.{Ptr, block_ptr, null_ptr, ptr_val, rawptr_vals, rawptr_Tells}
pub use denote.Ref.{shr_vals}
pub use denote.Signature.{Slot, plain, types_at}
pub use denote.Steps.{heard, nothing, only}
pub use denote.Triple.Call.{calls_at}
pub use denote.Triple.Clauses.{Ended, Clauses}
pub use denote.Triple.Spec.{triple_of}
pub use denote.Triple.Statement.{Contract, Triple}
pub use denote.Triple.Table.{entered, cited}
pub use denote.Triple.Walked.{Stays, stay_dropped, walk_of, ends_at, walked, Goes-dropped, walk_Meets}
pub use Rattle.std.proofs.alloc.Shapes.{after, head, arm_body}
pub use Rattle.std.proofs.alloc.Calls.{Al, α, seen, token, Answer, answer_val, Answer-typed, Answer-Ok, Answer-err, takes_key, Takes, at_takes, Answered, Takes-goes, Takes-gives, answers, gives_key, Gives, at_gives, Gives-goes, Gives-Gives}
pub use Rattle.std.proofs.alloc.Resizes.{Grows, Shrinks, resize_key, Resizes, at_resizes, Resizes-goes, Resizes-gives, Flagged, flagged, result_of, result_own, asked, heard_all}
pub use Rattle.std.specs.Allocator.{block_with_items, resized_if_ok}
