-- `bytes_mut` asks `words` for the place and the length, and lends what they stand for. Assumes `Logic`.
use Rattle.slot_chain.proofs.Names.{◌≡◌, ℕ, ◌<◌, ◌^◌, ◌*◌, List, [], ◌∷◌, ◌++◌, length, refl, ap, subst, ◌∙◌, w64, proved, after, full_share, SProp, emp, sep, wand, id⊢, apply∗, ftrue, flft, fres, fdead, GName, Incl-trans, meet_⊑_left, meet_⊑_right, fact, fact_i, named, vint, vstruct, of_list, tables, ‵, raw, ◌⊛◌, some, later, at_ret, ◌$◌, ◌∵◌, !, qed, done, move, keep, drop, use0, use1, use2, use3, split, split3, join, fsplit, fsplit3, fjoin, fpick, feq_l, flt_l, await, pick, rewrite, suffices, frame, whole, sub, agg, enter, of_opd, addr, stop, fld, no_more, and_then, first, blocks, exec, returns, alloc_all, pass_all, free_all, look_at, get, get_in, through, sets, sets_last, lands_as, env, Array, u8, RefMutOf, no, Ptr, block_ptr, ptr_val, MutRef, mut_vals, mut_Tells, plain, named_lft, MutSlice, slice_val, nothing, heard, only, calls_at, lasts, triple_of, framed, Stays, walk_of, says, stay_dropped, ends_at}
use base.FractionLaws.{common}
use base.Share
use types.Tokens.{lft_new, lft_end, lft-common}
use denote.Follow.{follows}
use denote.Lend.{lends_again, comes_back, LentAgain}
use denote.Ref.{MutBor}
use denote.Through.{renamed}
use denote.Triple.Walked.{Goes-spent_ref}
use Rattle.region_cut.specs.Classes.{size_of}
use Rattle.slot_chain.specs.Buffer.{Buffer}
use Rattle.slot_chain.specs.Loans.{with_buffer}
use Rattle.slot_chain.specs.contracts.buf.Buf as buf_type
use Rattle.slot_chain.proofs.BufLending.{lends_buf}
use Rattle.slot_chain.proofs.Words.{pair_own}
use Rattle.slot_chain.specs.contracts.buf.Buf.bytes_mut as f
use Rattle.slot_chain.specs.contracts.buf.Buf.words as g
use Rattle.slot_chain.proofs.buf.Buf.words.Met.{met}
use Rattle.slot_chain.proofs.buf.Buf.bytes_mut.Statement.{statement}
use Rattle.slot_chain.proofs.buf.Buf.bytes_mut.Code as code

abbrev stayed : Stays f.ended.signature.params f.ended.kept
stayed = (stay_dropped (RefMutOf (0 ∷ []) tt (plain (λ κs. buf_type.the_row (named_lft 2 1 tt κs))) (λ _. tt)) no, tt)

pub bytes_mut_spec : {M : Type 1} → statement M
bytes_mut_spec 𝓤 𝓛 𝓜 𝓡 wired =
    let c = f.clauses 𝓛 𝓜.mem 𝓡.returns in let W = walk_of 𝓛 f.ended stayed c in let 𝓣 = tables 𝓤 𝓛.H 𝓜 𝓡 𝓡.env in
    proved 𝓛 f.ended stayed c 𝓜 𝓡 (Goes-spent_ref 𝓛 2 (0 ∷ []) tt (plain (λ κs. buf_type.the_row (named_lft 2 1 tt κs))), tt)
    f.Key.name code.function (code.unfolded 𝓤 𝓛.H 𝓜 𝓡 wired)
    (λ κs. (mut_vals, tt)) (λ κs. (mut_Tells (named 0) κs.0 (buf_type.the_row (named_lft 2 1 tt κs)), tt)) (λ κs qs bounds a _ are.
    let κ = κs.0 in let κ' = κs.1.0 in let q = qs.0 in let q' = qs.1.0 in let ql = Share.left q in let qr = Share.right q in
    let α = named_lft 2 1 tt κs in let R = buf_type.the_row α in
    let x = a.0 in let rb = x.ref_ptr.0 in let ro = x.ref_ptr.1 in let s = x.now.bytes in let b = s.ref_ptr.0 in let o = s.ref_ptr.1 in let n = length s.now in
    let vs = mut_vals x in
    let Ref = λ (l : List ℕ) (r : MutBor Buffer). (MutRef (named 0) l R).own_val r vs in
    let y : W.Ghost = ((κs, qs, bounds, a, (vs, tt)), tt) in
    qed 𝓛 (((‵ (flft κ q) ⊛ ‵ (flft κ' q') ⊛ ‵ ftrue) ⊛ ‵ (Ref κ x) ⊛ ‵ ftrue) ∷ ‵ ftrue ∷ []) ∵
    split ! $ split3 ! $ move ! (3 ∷ []) $ split ! $ keep ! (0 ∷ 2 ∷ 3 ∷ []) $
    enter ! _ _ _ _ _ $ alloc_all ! (λ l. pass_all ! refl ((tt, tt), tt) $
    -- [self; the two tokens]
    sets ! (addr ! (through ! refl (stop !))) refl (tt, tt) $
    move ! (1 ∷ []) $ use1 𝓛 (‵ (flft κ ql) ⊛ ‵ (flft κ qr)) (𝓛.lfts.lft_split κ q) $ split ! $
    lft_new ! tt (λ ν. let μ = ν ∷ κ in let t = (common full_share qr).0 in
    let Back : SProp 𝓤 = wand 𝓤 (𝓛.A.lft μ t) (sep 𝓤 (𝓛.A.lft (ν ∷ []) full_share) (𝓛.A.lft κ qr)) in
    move ! (0 ∷ 2 ∷ []) $ use2 𝓛 (‵ (flft μ t) ⊛ raw Back) (lft-common 𝓛 (ν ∷ []) κ full_share qr) $ split ! $
    -- [the token of the loan; its way back; a half of the token; self; the other token]
    move ! (3 ∷ 2 ∷ []) $
    use2 𝓛 (later (some (λ (δ : GName). ‵ (Ref μ (record x { ghost_name = δ })) ⊛ ‵ (LentAgain R κ μ ql x.ghost_name rb ro δ x.now))))
    (lends_again 𝓛 R (named 0) κ μ ql x.ghost_name rb ro (named 0) x.now) $ await ! tt $ pick ! (λ δ. split ! $
    -- [the loan; what the lender keeps; the token of the loan; its way back; the other token]
    let G = triple_of 𝓛 g.signature (g.spec 𝓛 𝓜.mem 𝓡.returns) in
    let z : G.Ghost = (((μ, (κ', tt)), (t, (q', tt)), (Incl-trans (meet_⊑_right (ν ∷ []) κ) bounds.0, bounds.1), (record x { ghost_name = δ }, tt), (vs, tt)), tt) in
    nothing ! $ move ! (1 ∷ 0 ∷ []) $ join ! $ nothing ! $ move ! (5 ∷ 0 ∷ []) $ join ! $ move ! (3 ∷ 0 ∷ []) $ join ! $ join ! $
    nothing ! $ move ! (1 ∷ 0 ∷ []) $ use2 𝓛 (raw (G.pre z)) (id⊢ 𝓤 _) $
    calls_at ! (framed 𝓤 𝓛.H 𝓜 𝓣) G (met 𝓤 𝓛 𝓜 𝓡 (code.calls-slot_chain::buf::Buf::words 𝓡.env wired)) z
    (and_then ! (get ! refl) (no_more !)) (λ v.
    use1 𝓛 (later (some (λ (u : Ptr × ℕ). ((‵ (flft μ t) ⊛ ‵ (flft κ' q') ⊛ ‵ ftrue) ⊛ ‵ (pair_own u.0 u.1 (v ∷ []))) ⊛
    some (λ (ws : Buffer × Unit {0}). ‵ (lasts g.ended z.0.0 z.0.3 ws) ⊛ raw (fact 𝓤 ((ws.0 ≡ x.now) × (u.0 ≡ block_ptr b o) × (u.1 ≡ n) × (n * 1 < 2 ^ 63) × (n ≡ size_of x.now.class))))))) (id⊢ 𝓤 _) $
    await ! tt $ pick ! (λ u. split ! $ split ! $ split3 ! $
    -- [the token of the loan; the other token; nothing; the result; what is said; what the lender keeps; the way back]
    move ! (4 ∷ []) $ pick ! (λ ws. split ! $ move ! (1 ∷ []) $ heard ! _ (λ told. fsplit ! $ fsplit ! $
    rewrite ! 0 (λ (r : Buffer). ‵ (fres δ (R.coded.code r))) told.0 refl $
    -- [the loan's last value; its borrow; nothing; the token of the loan; the other token; nothing; the result; what the lender keeps; the way back]
    move ! (3 ∷ 8 ∷ []) $ use2 𝓛 (‵ (flft (ν ∷ []) full_share) ⊛ ‵ (flft κ qr)) (apply∗ 𝓤 (𝓛.A.lft μ t) (sep 𝓤 (𝓛.A.lft (ν ∷ []) full_share) (𝓛.A.lft κ qr))) $ split ! $ lft_end ! tt $
    use1 𝓛 (‵ (fdead μ)) (𝓛.lfts.dead-incl μ (ν ∷ []) (meet_⊑_left (ν ∷ []) κ)) $
    -- [dead; the half token; the last value; borrow; nothing; the other token; nothing; the result; what the lender keeps]
    move ! (0 ∷ 8 ∷ 2 ∷ []) $ use3 𝓛 (later (‵ (Ref κ x) ⊛ ‵ (flft κ ql))) (comes_back 𝓛 R (named 0) κ μ ql x.ghost_name rb ro δ x.now x.now) $ await ! tt $ split ! $
    move ! (1 ∷ 2 ∷ []) $ use2 𝓛 (‵ (flft κ q)) (𝓛.lfts.lft_join κ q) $
    -- [the token; self; borrow; nothing; the other token; nothing; the result]
    move ! (6 ∷ []) $ fpick ! (λ vss. fsplit ! $ feq_l ! (λ ev. fsplit ! $ feq_l ! (λ ep. fsplit ! $ fsplit ! $ feq_l ! (λ en. flt_l ! (λ less. drop ! $
    let fits : n < 2 ^ 64 = subst (λ (k : ℕ). k < 2 ^ 64) told.2 less in
    let is : v ∷ [] ≡ slice_val (b, o) n ∷ [] = ev ∙ (λ i. vstruct (of_list (ep i ++ (en i ++ []))) ∷ []) ∙ (λ i. vstruct (of_list (ptr_val (told.1 i) ∷ vint w64 (told.2 i) ∷ [])) ∷ []) in
    lands_as ! (ap only is) refl (tt, (tt, (record { fits = fits }, tt))) $
    sets ! (of_opd ! (get_in ! (fld ! refl (stop !)) (sub ! 0 refl (whole !)))) refl (tt, tt) $
    sets ! (of_opd ! (get_in ! (fld ! refl (stop !)) (sub ! 1 refl (whole !)))) refl (tt, record { fits = fits }) $
    first ! $ blocks ! $
    sets_last ! (agg ! (and_then ! (get ! refl) (and_then ! (get ! refl) (no_more !)))) refl (tt, (tt, (record { fits = fits }, tt))) $
    exec ! 𝓣.C 𝓣.Λ (env code.Mir.locals l) (after 5 (code.function).body) (at_ret _ (W.post y)) $
    sets ! (of_opd ! (get ! refl)) refl (tt, (tt, (record { fits = fits }, tt))) $
    -- [the token; self; borrow; nothing; the other token]
    move ! (1 ∷ 0 ∷ 4 ∷ []) $ fsplit3 ! $ move ! (1 ∷ 2 ∷ 3 ∷ 4 ∷ []) $
    use3 𝓛 (later (some (λ (ε : GName). ‵ ((MutSlice (named 0) κ u8).own_val (renamed s ε) (slice_val (b, o) n ∷ [])) ⊛ ‵ (flft κ q) ⊛ ‵ (follows R (Array u8 0) x.ghost_name ε (with_buffer x.now)))))
    (lends_buf 𝓛 α x (named 0) κ bounds.0 (fits, told.3) q) $ await ! tt $ pick ! (λ ε.
    returns ! (look_at ! 0 refl) $ free_all ! refl $ split3 ! $ keep ! (0 ∷ 1 ∷ 2 ∷ 3 ∷ []) $
    -- [the loan; the token; what the lender ends as; the other token]
    suffices ! _ (ends_at 𝓛 f.ended stayed c y (slice_val (b, o) n) (renamed s ε) (tt, tt) (tt, tt)) $
    nothing ! $ nothing ! $ fjoin ! $ join ! $ nothing ! $ move ! (4 ∷ 0 ∷ []) $ join ! $ move ! (2 ∷ 0 ∷ []) $ join ! $ join ! $ frame ! $ frame ! $ says ! told.4 $ use0 𝓛 (raw (fact 𝓤 (s.now ≡ s.now))) (fact_i 𝓤 (s.now ≡ s.now) (emp 𝓤) refl) $ done !))))))))))))))
