-- The names that the proofs by hand of this crate cite.
pub use Rattle.region_cut.proofs.Steps.{◌≡◌, List, [], ◌∷◌, ◌++◌, refl, sym, ap, ◌∙◌, subst, lit<, w64, proved, full_share, SProp, ent, emp, id⊢, ftrue, flft, named, Val, vint, vstruct, vcons, vnil, WpFn, fact, fact_i, tables, sem, ‵, raw, ◌⊛◌, some, later, at_ret, ◌$◌, ◌∵◌, !, qed, done, move, keep, drop, use0, use1, split, split3, join, fsplit, fjoin, feq_i, feq_l, fpack, pick, await, rewrite, suffices, group, whole, sub, agg, enter, of_opd, lit, bin, addr, load, look, stop, fld, hop, no_more, and_then, first, blocks, exec, returns, alloc_all, pass_all, free_all, look_at, get, get_in, through, sets, sets_last, lands_as, env, yes, no, RattleType, owns, plain, nothing, heard, peeks, only, calls_at, lasts, Lasts, triple_of, Stays, walk_of, says, stay_dropped, Goes-dropped, ends_at, framed, layout, u8, usize, MutSlice, length, from, look_in_at, mut_slice_vals, mut_slice_Tells, named_lft, prop, by, regoal, shows, slice_val, ℕ, ◌*◌, sep, fres, GName, of_list, use2, use3, fsplit3, fpick, frame, Array, MutRef, mut_vals, mut_Tells, take, MutBor, coded_list, Fml, fobs, fbor, fjoin3, heres_id, mem, room, Room, coded_holeys, heres, mut_slice_at, shape, vunit}
pub use Rattle.std.proofs.Common.{◌+◌, ◌↔◌, Option, Some, None, IsTrue, is_some, true≢false, ◌<◌, ◌^◌}
pub use Rattle.std.proofs.raw_atomic.Walks.{proved_at, leaves}
pub use Rattle.std.proofs.VecSteps.Shapes.{after}
pub use seplogic.Ra.Ura.{Ura}
pub use base.Logic.{never, fst∗, guard_i, guard, wand, apply∗, ex, never_e}
pub use base.Fml.{Lft, Incl-trans, fhide, Incl-refl, fdead, Incl, Share, fsep, feq, fex, ffalse}
pub use mir.Syntax.{a_type, dcons, dnil, impl, tnil, tcons, Lifetime}
pub use mir.Val.{vptr, vbool, ptr_same, Vals, vfloat, vcode}
pub use contract.Monad.{fact_use}
pub use contract.BorrowLft.{◌⊑◌, ⊑_static, meet_⊑_left, ⊑_meet, meet_⊑_right}
pub use types.Logic.{Logic, lfts}
pub use types.Kit.{given, learn, flt_l, check, show, updating, now}
pub use types.ByLocal.{lands_last}
pub use denote.Builtin.{RefOf, SliceRefMutOf, RefMutOf}
pub use denote.Memory.{hidden_shr, cell_at, part_at, shares, shared_of}
pub use denote.Struct.Laws.{RawPtr-laws, RawPtr-copy, usize-copy, field_copy, u8-copy}
pub use denote.Steps.{looks, shuts}
pub use denote.Opens.{unhide, hide, shr_dup}
pub use denote.RawPtr.{RawPtr, Ptr, InBlock, Testable, block_ptr, null_ptr, ptr_val, block_of, count_of, at_block, in_a_block, tests_null, lies_at, rawptr_Lawful, ptr_row_laws, of_val, val_back}
pub use denote.Ref.{ShrRef, shr_vals, shr_Tells, NamedLft, at_last}
pub use denote.Shadow.{shadow, pure_i, pure_l, makes_shadow}
pub use denote.Signature.{types_at}
pub use denote.Struct.Lending.{in_block_says, lent_at, lent_at_shr_laws, Lends, Lends-said, Lends-both, Lends-lies, Lends-first, of_Lends, lent_out}
pub use denote.Triple.Call.{calls_at_last}
pub use denote.Struct.Struct.{Struct, Struct-row_laws, exits_of}
pub use denote.Struct.Owning.{fields, to, Owning}
pub use denote.Shares.{Shares-less, bor-Cut, peels, shares_each}
pub use denote.Sharing.{ShrLaws, said, within}
pub use denote.SharingLaws.{said_shr_laws, beside_shr_laws, shortens, within_shr_laws}
pub use denote.Param.Shared.{copy_shared}
pub use denote.Struct.Field.{RawPtr-field, usize-field}
pub use denote.Param.Send.{IsSend, AllSend, part_keyless, owning_send, sendable, Quiet, struct_send}
pub use denote.Triple.Entry.{alive}
