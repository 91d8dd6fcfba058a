-- `take_box` makes the box again, and leaves the handle closed.
use Rattle.std.proofs.Common.{◌≡◌, ℕ, Bool, false, None, Some, cond, List, [], ◌∷◌, ◌++◌, refl, sym, ap, subst, lit<, ◌∙◌, ◌==◌}
use mir.Syntax.{Dict, impl, tcons, tnil, dnil, w64}
use mir.Raw.{raw as bare}
use mir.Val.{Val, vint, vptr, vstruct, vcons, vnil, of_list, has_ty}
use base.Fraction.{full_share}
use base.Logic.{SProp, ent, emp, never, id⊢, fst∗}
use base.Fml.{ftrue, flft}
use prog.Wp.{WpFn}
use types.Logic.{sem}
use types.Kit.{‵, raw, ◌⊛◌, some, later, at_ret, ◌$◌, ◌∵◌, !, qed, done, move, keep, drop, split, split3, join, fsplit, fsplit3, fjoin, fjoin3, fpick, fpack, pick, suffices, use0, use1, await, rewrite, feq_i, feq_l, flt_l}
use types.Run.{enter, of_opd, lit, load, stop, fld, no_more, and_then, assigns, first, blocks, exec, returns}
use types.ByLocal.{alloc_all, pass_all, free_all, look_at, get, through, sets, lands_last, env}
use types.Part.{sub, whole, look_in, store_in}
use contract.Monad.{fact, fact_i}
use contract.BorrowLft.{◌⊑◌}
use contract.Running.{tables}
use denote.Builtin.{RawPtr, u64}
use denote.Exit.{yes, no}
use denote.Memory.{lone, cell_at}
use denote.Plain.{uint_Makes}
use denote.RattleType.{RattleType, Valss, owns}
use denote.Signature.{types_at, plain}
use denote.RawPtr.{Ptr, block_ptr, null_ptr, ptr_val, in_a_block}
use denote.Steps.{nothing, only, heard, opens, closes, owned}
use denote.Struct.Struct.{within}
use denote.Struct.Owning.{shape}
use denote.Param.{layout, arg}
use denote.Param.Laws.{Laws, arg_laws}
use denote.Param.NoDrop.{glues}
use denote.Triple.Clauses.{Lasts, lasts}
use denote.Triple.Spec.{triple_of}
use denote.Triple.Table.{framed}
use denote.Triple.Call.{calls_at_last}
use denote.Triple.Walked.{Stays, stay_ref, stay_dropped, walk_of, Goes-ref, Goes-dropped, ends_at}
use Rattle.std.proofs.mem.Facts.{says_three}
use Rattle.std.proofs.alloc.Calls.{handle_tells}
use Rattle.std.proofs.alloc.Shapes.{after}
use Rattle.std.proofs.cell.Inside.{Good}
use Rattle.std.specs.Box.Ownership.{box_owns}
use Rattle.std.proofs.BoxSteps.Form as box
use Rattle.std.proofs.BoxSteps.Steps.{box_out, box_in}
use Rattle.std.proofs.ResultValues.{and_tt}
use Rattle.std.proofs.raw_atomic.Walks.{proved_at}
use Rattle.std.specs.contracts.boxed.Box.from_raw as callee
use Rattle.std.proofs.boxed.Box.from_raw.Met.{met}
use Rattle.std.specs.contracts.alloc.Global.{the_row as A}
use Rattle.std.proofs.alloc.Global.TheLaws as heap
use Rattle.std.specs.contracts.impls.GlobalAllocator.TheImpl as allocates
use Rattle.std.proofs.impls.GlobalAllocator.TheImpl.Met as allocates_met
use Rattle.xt_base.specs.State.{State}
use Rattle.xt_c.specs.Owning.{owned_unless}
use Rattle.xt_mount.specs.contracts.mount.Mount.{the_row as R}
use Rattle.xt_mount.proofs.mount.Mount.TheLaws as inner
use Rattle.xt_c.specs.contracts.handle.Handle.{the_row as Handle, the_type as the_handle}
use Rattle.xt_c.specs.declared.handle.Handle.{Handle as Held}
use Rattle.xt_c.specs.contracts.handle.Handle.take_box.{ended, clauses}
use Rattle.xt_c.specs.contracts.handle.Handle.take_box.Key.{name as #self}
use Rattle.xt_c.proofs.handle.Handle.take_box.Statement.{statement}
use Rattle.xt_c.proofs.Destruct++none.drop.Code as no_drop
use Rattle.xt_c.proofs.handle.Handle.take_box.Code as code

abbrev RT : RattleType
RT = arg (bare (layout R)) no R

abbrev AT : RattleType
AT = arg (bare (layout A)) no A

RL : Laws RT
RL = arg_laws (bare (layout R)) no R inner.the_row_laws refl

AL : Laws AT
AL = arg_laws (bare (layout A)) no A heap.the_row_laws refl

abbrev dd : Dict
dd = impl ("xt_c::Destruct++none::drop" ∷ []) (tcons (layout AT) tnil) dnil

abbrev E : box.Bx
E = record { row = RT; laws = RL; al = record { row = AT; laws = AL; g = allocates.ghosts; d = allocates.dict; drops = dd } }

-- a handle as it lies in memory: the pointer, whether it holds something, and the heap's handle
abbrev word : ℕ → ℕ → ℕ → Val → Val
word b o holds hv = vstruct (vcons (vptr b o) (vcons (vint w64 holds) (vcons hv vnil)))

pub take_box_spec : {M : Type 1} → statement M
unfolding no_drop.code
take_box_spec {M = M} 𝓤 𝓛 𝓜 𝓡 wired =
    let H = 𝓛.H in let 𝓣 = tables 𝓤 H 𝓜 𝓡 𝓡.env in let c = clauses 𝓛 𝓜.mem 𝓡.returns in let fn = code.function in let B : RattleType = box.B E in
    let hs : Stays ended.signature.params ended.kept = (stay_ref (0 ∷ []) tt (plain (λ _. Handle)), (stay_dropped (plain (λ _. A)) yes, tt)) in
    let k = triple_of 𝓛 (callee.signature RT AT allocates.ghosts allocates.dict dd) (callee.spec RT AT allocates.ghosts allocates.dict dd 𝓛 𝓜.mem 𝓡.returns) in
    let known = met 𝓤 𝓛 𝓜 𝓡 (code.calls-std_alloc::boxed::Box::from_raw 𝓡.env wired) RT AT RL AL allocates.ghosts allocates.dict dd
    (allocates_met.passed 𝓡.env (code.calls-std_heap::GlobalAllocator::allocate 𝓡.env wired) (code.calls-std_heap::GlobalAllocator::deallocate 𝓡.env wired) (code.calls-std_heap::GlobalAllocator::grow 𝓡.env wired) (code.calls-std_heap::GlobalAllocator::shrink 𝓡.env wired) M 𝓤 𝓛 𝓜 𝓡)
    (glues "xt_c::Destruct++none::drop" 𝓡.env (code.calls-xt_c::Destruct++none::drop 𝓡.env wired) AT AL M 𝓤 𝓛 𝓜 𝓡) in
    proved_at 𝓛 ended hs c 𝓜 𝓡 (Goes-ref 𝓛 1 0 tt (plain (λ _. Handle)), (Goes-dropped 𝓛 1 (plain (λ _. A)) yes (λ κs x f. refl), tt)) #self fn (code.unfolded 𝓤 H 𝓜 𝓡 wired) (λ z are.
    let κ = z.0.0.0 in let q = z.0.1.0 in let rb = z.0.3.0.ref_ptr.0 in let ro = z.0.3.0.ref_ptr.1 in let h = z.0.3.0.now in let a = z.0.3.1.0 in let vss = z.0.4 in
    let Post : Val → SProp 𝓤 = (walk_of 𝓛 ended hs c).post z in let Run : List Val → SProp 𝓤 = λ ws. WpFn 𝓤 H 𝓣.C 𝓣.Λ fn ws Post in
    qed 𝓛 (((‵ (flft κ q) ⊛ ‵ ftrue) ⊛ ‵ (owns (types_at ended.signature.params z.0.0) z.0.3 vss)) ∷ raw (fact 𝓤 ((h.holds == 0) ≡ false)) ∷ []) ∵
    move ! (1 ∷ []) $ heard ! _ (λ live. split ! $ split ! $ move ! (2 ∷ 0 ∷ []) $ fsplit3 ! $ fsplit3 ! $ feq_l ! (λ e₀.
    -- [two parts of self; the heap's handle; nothing; the token; nothing]
    move ! (2 ∷ []) $ handle_tells E.al ! a vss.1.0 (λ hv ea fits. keep ! (1 ∷ 2 ∷ 4 ∷ 0 ∷ []) $
    let us₀ : List Val = vptr rb ro ∷ hv ∷ [] in
    suffices ! (Run us₀) (subst (λ (ws : List Val). ent 𝓤 (Run us₀) (Run ws)) (sym (λ i. e₀ i ++ (ea i ++ []))) (id⊢ 𝓤 (Run us₀))) $
    enter ! 𝓣.C 𝓣.Λ fn us₀ Post $ alloc_all ! (λ l. pass_all ! refl ((tt, tt), (fits, tt)) $ let Ev = env fn.locals l in
    opens ! tt Handle rb ro (λ us. move ! (1 ∷ []) $
    fsplit ! $ fpick ! (λ wss. fsplit ! $ feq_l ! (λ ev. fsplit ! $ feq_l ! (λ ep. fsplit ! $ fsplit ! $ feq_l ! (λ eu. flt_l ! (λ small. fsplit ! $
    handle_tells E.al ! h.alloc wss.1.1.0 (λ gv eg good_g. move ! (1 ∷ []) $ drop ! $ move ! (1 ∷ []) $
    -- [the box, unless closed; the handle's heap; the cell; the open borrow, in three entries; the heap's handle]
    rewrite ! 0 (λ (closed : Bool). ‵ (owned_unless closed (box_owns (allocates.ghosts.dealloc_token h.alloc) R h.at h.value))) live refl $
    in_a_block ! h.at (λ p. box_owns (allocates.ghosts.dealloc_token h.alloc) R p h.value) (fst∗ 𝓤 (never 𝓤) (sem 𝓛 (allocates.ghosts.dealloc_token h.alloc (bare (lone R.mir)) null_ptr))) (λ b o e.
    let ws : us ≡ word b o h.holds gv ∷ [] = subst (λ (p : Ptr). us ≡ vstruct (of_list (ptr_val p ∷ vint w64 h.holds ∷ gv ∷ [])) ∷ []) e
    (subst (λ (xs : List Val). us ≡ vstruct (of_list (ptr_val h.at ∷ vint w64 h.holds ∷ (xs ++ []))) ∷ []) eg
    (subst (λ (xs : List Val). us ≡ vstruct (of_list (ptr_val h.at ∷ (xs ++ (wss.1.1.0 ++ [])))) ∷ []) eu
    (subst (λ (xs : List Val). us ≡ vstruct (of_list (xs ++ (wss.1.0 ++ (wss.1.1.0 ++ [])))) ∷ []) ep ev))) in
    rewrite ! 2 (λ (xs : List Val). ‵ (cell_at full_share Handle.mir xs rb ro)) ws refl $
    assigns ! (of_opd ! (lit ! tt)) (through ! refl (fld ! refl (stop !))) (store_in ! 2 (sub ! 1 refl (whole !)) (tt, record { fits = lit< tt })) $
    first ! $ blocks ! $
    sets ! (of_opd ! (load ! (through ! refl (fld ! refl (stop !))) (look_in ! 2 (sub ! 0 refl (whole !))))) refl (tt, tt) $ sets ! (of_opd ! (get ! refl)) refl (tt, tt) $
    -- what `from_raw` asks
    use0 𝓛 (raw (fact 𝓤 (([]) ⊑ AT.lives))) (fact_i 𝓤 (([]) ⊑ AT.lives) (emp 𝓤) (heap.the_within [])) $ join ! $
    use0 𝓛 (raw (fact 𝓤 (([]) ⊑ RT.lives))) (fact_i 𝓤 (([]) ⊑ RT.lives) (emp 𝓤) (inner.the_within [])) $ join ! $
    nothing ! $ feq_i ! (List Val) (vptr b o ∷ []) (vptr b o ∷ []) refl $ fjoin ! $ move ! (7 ∷ 0 ∷ []) $ fjoin ! $
    nothing ! $ use0 𝓛 (‵ (flft [] full_share)) (𝓛.lfts.lft-nil full_share) $ join ! $ use0 𝓛 (‵ (flft [] full_share)) (𝓛.lfts.lft-nil full_share) $ join ! $ join ! $ join ! $
    let y : k.Ghost = ((([], ([], tt)), (full_share, (full_share, tt)), tt, (a, (block_ptr b o, tt)), (hv ∷ [], (vptr b o ∷ [], tt))), h.value) in
    let toks = ‵ (flft [] full_share) ⊛ ‵ (flft [] full_share) ⊛ ‵ ftrue in
    use1 𝓛 (raw (k.pre y)) (id⊢ 𝓤 _) $
    calls_at_last ! (framed 𝓤 H 𝓜 𝓣) k known y (and_then ! (get ! refl) (and_then ! (get ! refl) (no_more !))) (λ u.
    use1 𝓛 (later (some (λ (r : B.Denot). (toks ⊛ ‵ (B.own_val r (u ∷ []))) ⊛ some (λ (ls : Lasts (callee.ended RT AT allocates.ghosts allocates.dict dd) y.0.0 y.0.3). ‵ (lasts (callee.ended RT AT allocates.ghosts allocates.dict dd) y.0.0 y.0.3 ls) ⊛ (raw (fact 𝓤 (r.value ≡ h.value)) ⊛ raw (fact 𝓤 (r.alloc ≡ a))))))) (id⊢ 𝓤 (k.post y u)) $
    await ! tt $ pick ! (λ r. split ! $ move ! (1 ∷ []) $ pick ! (λ _. split3 ! $ drop ! $ heard ! _ (λ same. drop ! $ split ! $ drop ! $
    box_out E ! r (u ∷ []) (λ b' o' h' e' us' fits'. box_in E ! r b' o' r.value e' refl $ rewrite ! 0 (λ (xs : List Val). ‵ (B.own_val r xs)) (sym us') refl $
    let good : Good (layout B) u = subst (Good (layout B)) (sym (ap only us')) (and_tt (has_ty (layout A) h') fits'.0, (tt, (fits'.1, tt))) in
    lands_last ! refl good $ exec ! 𝓣.C 𝓣.Λ Ev (after 2 fn.body) (at_ret Ev Post) $ sets ! (of_opd ! (get ! refl)) refl good $
    -- [the box; the handle's heap; its cell; the open borrow, in three entries]
    move ! (1 ∷ 2 ∷ 3 ∷ 4 ∷ 5 ∷ []) $ nothing ! $ nothing ! $ move ! (2 ∷ 0 ∷ []) $ fjoin ! $
    owned ! u64 _ (uint_Makes 𝓛 w64) 0 (vint w64 0 ∷ []) (refl, lit< tt) $ fjoin ! $
    feq_i ! (List Val) (vptr b o ∷ []) (ptr_val h.at ∷ []) (ap (λ (p : Ptr). ptr_val p ∷ []) (sym e)) $ fjoin ! $
    feq_i ! (List Val) (word b o 0 gv ∷ []) (word b o 0 gv ∷ []) refl $ fjoin ! $
    fpack ! (Valss (RawPtr ∷ u64 ∷ A ∷ [])) (within (shape the_handle) (h.at, (0, (((tt, tt), tt), tt))) (word b o 0 gv ∷ [])) (vptr b o ∷ [], (vint w64 0 ∷ [], (gv ∷ [], tt))) $ fjoin ! $ move ! (1 ∷ []) $
    let closed : Held = record h { holds = 0 } in
    closes ! tt Handle closed (word b o 0 gv ∷ []) rb ro $
    returns ! (look_at ! 0 refl) $ free_all ! refl $ keep ! (0 ∷ 1 ∷ 2 ∷ 3 ∷ []) $
    suffices ! _ (ends_at 𝓛 ended hs c z u r (closed, (tt, tt)) (tt, (tt, tt))) $
    says_three ! (ap Some same ∙ sym (ap (λ (x : Bool). cond x None (Some h.value)) live), ap (λ (m : State). m.slot) same ∙ h.of_slot, refl) $
    feq_i ! (List Val) vss.0 (vptr rb ro ∷ []) e₀ $ fjoin3 ! $ nothing ! $ nothing ! $ join ! $ move ! (1 ∷ 0 ∷ []) $ join ! $ nothing ! $ move ! (2 ∷ 0 ∷ []) $ join ! $ done !))))))))))))))))))
