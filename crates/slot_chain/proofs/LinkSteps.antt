-- What the proofs of a link cite beside the names of this crate.
--     heap_handle, boxes     the heap's handle, and boxes of the heap.        found     the value, where there is one
--     told     what a `&` to a link says of its pointer, which is null where there is no value: it may be compared with
--     null, and that tells if there is one
use Rattle.slot_chain.proofs.Names.{InBlock, ◌≡◌, [], ◌∷◌, refl, sym, ap, subst, lit<, w64, ftrue, vint, no, RattleType, layout, ◌↔◌, Option, Some, None, IsTrue, is_some, true≢false, Lft, dnil, impl, tnil, tcons, ptr_same, Ptr, Testable, block_ptr, null_ptr, ptr_val, shadow}
pub use mir.Raw.{raw as bare}
pub use mir.MapTy.{inst_fn}
pub use denote.Struct.OwningLaws.{Tells-lowered}
pub use denote.Param.{param, layouts, bounded, arg}
pub use denote.Param.Laws.{Laws, param_laws, arg_laws}
pub use denote.Param.NoDrop.{glues}
pub use Rattle.std.proofs.GlobalToken.{dealloc_token-Testable}
use Rattle.std.specs.contracts.impls.GlobalAllocator.TheImpl.{ghosts, dict}
pub use Rattle.std.specs.Box.Ownership.{box_owns}
pub use Rattle.std.proofs.alloc.Calls.{Al, handle_tells, Goes-blank}
pub use Rattle.std.proofs.impls.GlobalAllocator.TheImpl.Met.{passed}
pub use Rattle.slot_chain.specs.Links.{frees, testable, link_owns, link_lent}
pub use Rattle.slot_chain.specs.contracts.link.Link.{the_row as Lk, the_type as the_link}
pub use Rattle.std.specs.contracts.alloc.Global.{the_row as heap}
use Rattle.std.proofs.alloc.Global.TheLaws as heap_laws
use Rattle.std.specs.contracts.boxed.Box as box
use Rattle.std.proofs.boxed.Box.TheLaws as box_laws

abbrev pub heap_handle : Al
heap_handle =
    let bits = bare (layout heap) in let row = arg bits no heap in
    let drops = impl ("slot_chain::Destruct++none::drop" ∷ []) (tcons (layout row) tnil) dnil in
    record { row = row; laws = arg_laws bits no heap heap_laws.the_row_laws refl; g = ghosts; d = dict; drops = drops }

abbrev pub boxes : (T : RattleType) → Laws T → Al
boxes T L =
    let laws = box_laws.the_row_laws T heap ghosts L heap_laws.the_row_laws in
    record heap_handle { row = box.the_row T heap ghosts; laws = laws; g = record { dealloc_token = λ a σ p. ftrue } }

pub found : {X : Type 0} (m : Option X) → ¬ (m ≡ None) → (x : X) × (m ≡ Some x)
found None n = absurd (n refl)
found (Some x) n = (x, refl)

pub told : (R : RattleType) (p : Ptr) (m : Option R.Denot) (κ : Lft) → (m ≡ None → p ≡ null_ptr) → shadow (link_lent R p m κ)
    → Testable p × (IsTrue (ptr_same (ptr_val p) (vint w64 0)) ↔ (m ≡ None))
told R null_ptr None κ null s = (lit< tt, (λ _. refl, λ _. refl))
told R (block_ptr b o) None κ null s = absurd (subst InBlock (null refl) tt)
told R (block_ptr b o) (Some x) κ null s =
    (s.0.0, (λ e. absurd (true≢false (sym e)), λ e. absurd (true≢false (ap is_some e))))
told R null_ptr (Some x) κ null s = absurd s.1.0
