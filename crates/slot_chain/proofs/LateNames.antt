-- The names that the proofs of a late handle cite.
pub use Rattle.std.proofs.Common.{◌≡◌, ℕ, List, [], ◌∷◌, Ok, Err, true, false, refl, sym, subst, w64}
pub use Rattle.std.proofs.VecSteps.Shapes.{after, front, arm_body}
pub use Rattle.std.proofs.alloc.Calls.{Al, token, Answer, answer_val, Answer-typed, Answer-Ok, Answer-err, Takes, at_takes, Answered, Takes-goes, Takes-gives, answers, Gives, at_gives, Gives-goes, Gives-Gives}
pub use Rattle.std.proofs.raw_atomic.Walks.{proved, leaves}
pub use Rattle.std.specs.Allocator.{block_if_ok}
pub use lib.Dec.{T}
pub use mir.Syntax.{a_type, dnil, dcons, named, ty_unit}
pub use mir.Val.{Val, vunit, vint, vptr, has_ty, WT}
pub use mir.MapTy.{inst_fn}
pub use prog.Memory.{size, align, capped}
pub use prog.Wp.{Wp, WpFn, after_seq, at_return}
pub use base.Logic.{SProp, ent, id⊢, fst∗, never, never_e}
pub use base.Fml.{Fml, fsep, flft}
pub use contract.BorrowLft.{◌⊑◌, ⊑_trans}
pub use contract.Monad.{fact}
pub use contract.Running.{tables}
pub use types.Logic.{sem}
pub use types.Kit.{⋆, ‵, raw, ◌⊛◌, later, given, at_ret, any_q, ◌$◌, ◌∵◌, !, qed, by, move, keep, use0, use1, use2, split, split3, join, learn, rewrite, fsplit, fjoin, feq_i, group, suffices, await, done}
pub use types.Part.{whole, agg}
pub use types.Match.{vrt, in_variant}
pub use types.Run.{stop, fld, lit, unit_lit, no_more, and_then, of_opd, first, exec, switches_on, returns, enter}
pub use types.ByLocal.{alloc_all, pass_all, free_all, look_at, get, get_in, get_tag, sets, sets_last, lands_as, lands_last, env}
pub use denote.Builtin.{usize, RawPtr, RefOf}
pub use denote.Exit.{yes}
pub use denote.Param.{layout, bounded}
pub use denote.Plain.{uint_vals, uint_Tells}
pub use denote.RattleType.{owns}
pub use denote.RawPtr.{Ptr, block_ptr, null_ptr, ptr_val, in_a_block, room_for, rawptr_vals, rawptr_Tells}
pub use denote.Ref.{shr_vals, shr_Tells}
pub use denote.Signature.{plain}
pub use denote.Steps.{heard, nothing}
pub use denote.Triple.Call.{calls_at, calls_at_last}
pub use denote.Triple.Table.{framed}
pub use denote.Triple.Walked.{Stays, stay_dropped, walk_of, Goes-dropped}
