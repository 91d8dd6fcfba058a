-- `keep` writes the pointer, and the handle owns what it points to.
use Rattle.std.proofs.Common.{◌≡◌, ℕ, List, [], ◌∷◌, ◌++◌, refl, sym, subst, lit<}
use mir.Syntax.{w64}
use mir.Val.{Val, vint, vptr, vunit, vstruct, vcons, vnil, of_list}
use base.Fraction.{full_share}
use base.Logic.{SProp, ent, id⊢}
use base.Fml.{ftrue, flft}
use prog.Wp.{WpFn}
use types.Kit.{‵, raw, ◌⊛◌, ◌$◌, ◌∵◌, !, qed, done, move, keep, drop, split, join, fsplit, fsplit3, fjoin, fjoin3, fpick, fpack, suffices, frame, rewrite, feq_i, feq_l, flt_l}
use types.Run.{enter, of_opd, lit, unit_lit, stop, fld, assigns, returns}
use types.ByLocal.{alloc_all, pass_all, free_all, look_at, get, get_in, through, sets}
use types.Part.{sub, whole, store_in}
use contract.Monad.{fact}
use contract.Running.{tables}
use denote.Builtin.{RawPtr, u64}
use denote.Exit.{yes}
use denote.Memory.{cell_at}
use denote.Plain.{uint_Makes}
use denote.RattleType.{Valss, owns}
use denote.Signature.{types_at, plain}
use denote.RawPtr.{block_ptr, ptr_val}
use denote.Steps.{nothing, heard, opens, closes, owned}
use denote.Struct.Struct.{within}
use denote.Struct.Owning.{shape}
use denote.Triple.Walked.{Stays, stay_ref, stay_dropped, walk_of, says, Goes-ref, Goes-dropped, ends_at}
use Rattle.std.proofs.alloc.Calls.{handle_tells}
use Rattle.std.proofs.raw_atomic.Walks.{proved_at}
use Rattle.std.specs.contracts.alloc.Global.{the_row as A}
use Rattle.std.proofs.alloc.Global.TheLaws as heap
use Rattle.std.specs.contracts.impls.GlobalAllocator.TheImpl as allocates
use Rattle.xt_c.proofs.LooseSteps.{both, Loose, al, loose_good, loose_out}
use Rattle.xt_mount.specs.contracts.mount.Mount.{the_row as R}
use Rattle.xt_c.specs.contracts.handle.Handle.{the_row as Handle, the_type as the_handle}
use Rattle.xt_c.specs.declared.handle.Handle.{Handle as Held}
use Rattle.xt_c.specs.contracts.handle.Handle.keep.{ended, clauses}
use Rattle.xt_c.specs.contracts.handle.Handle.keep.Key.{name as #self}
use Rattle.xt_c.proofs.handle.Handle.keep.Statement.{statement}
use Rattle.xt_c.proofs.handle.Handle.keep.Code as code

pub keep_spec : {M : Type 1} → statement M
keep_spec {M = M} 𝓤 𝓛 𝓜 𝓡 wired =
    let H = 𝓛.H in let 𝓣 = tables 𝓤 H 𝓜 𝓡 𝓡.env in let c = clauses 𝓛 𝓜.mem 𝓡.returns in let fn = code.function in
    let hs : Stays ended.signature.params ended.kept = (stay_ref (0 ∷ []) tt (plain (λ _. Handle)), (stay_dropped (plain (λ _. Loose R A heap.the_row_laws allocates.ghosts)) yes, tt)) in
    proved_at 𝓛 ended hs c 𝓜 𝓡 (Goes-ref 𝓛 1 0 tt (plain (λ _. Handle)), (Goes-dropped 𝓛 1 (plain (λ _. Loose R A heap.the_row_laws allocates.ghosts)) yes (λ κs x f. refl), tt)) #self fn (code.unfolded 𝓤 H 𝓜 𝓡 wired) (λ z are.
    let κ = z.0.0.0 in let q = z.0.1.0 in let rb = z.0.3.0.ref_ptr.0 in let ro = z.0.3.0.ref_ptr.1 in let h = z.0.3.0.now in let v = z.0.3.1.0 in let vss = z.0.4 in
    let Post : Val → SProp 𝓤 = (walk_of 𝓛 ended hs c).post z in let Run : List Val → SProp 𝓤 = λ ws. WpFn 𝓤 H 𝓣.C 𝓣.Λ fn ws Post in
    qed 𝓛 (((‵ (flft κ q) ⊛ ‵ ftrue) ⊛ ‵ (owns (types_at ended.signature.params z.0.0) z.0.3 vss)) ∷ raw (fact 𝓤 (v.value.slot ≡ 0)) ∷ []) ∵
    move ! (1 ∷ []) $ heard ! _ (λ of_slot. split ! $ split ! $ move ! (2 ∷ 0 ∷ []) $ fsplit3 ! $ fsplit3 ! $ feq_l ! (λ e₀.
    -- [two parts of self; the value; nothing; the token; nothing; nothing]
    move ! (2 ∷ []) $ loose_out R A heap.the_row_laws allocates.ghosts ! v vss.1.0 (λ b o lv e is fits. keep ! (2 ∷ 3 ∷ 5 ∷ 0 ∷ []) $
    let us₀ : List Val = vptr rb ro ∷ both (vptr b o) lv ∷ [] in
    suffices ! (Run us₀) (subst (λ (ws : List Val). ent 𝓤 (Run us₀) (Run ws)) (sym (λ i. e₀ i ++ (is i ++ []))) (id⊢ 𝓤 (Run us₀))) $
    enter ! 𝓣.C 𝓣.Λ fn us₀ Post $ alloc_all ! (λ l. pass_all ! refl ((tt, tt), (loose_good R A heap.the_row_laws allocates.ghosts b o lv fits, tt)) $
    sets ! (of_opd ! (get_in ! (fld ! refl (stop !)) (sub ! 0 refl (whole !)))) refl (tt, tt) $ sets ! (of_opd ! (get_in ! (fld ! refl (stop !)) (sub ! 1 refl (whole !)))) refl fits $
    sets ! (of_opd ! (get ! refl)) refl (tt, tt) $
    opens ! tt Handle rb ro (λ us. move ! (1 ∷ []) $
    fsplit ! $ fpick ! (λ wss. fsplit ! $ feq_l ! (λ ev. fsplit ! $ feq_l ! (λ ep. fsplit ! $ fsplit ! $ feq_l ! (λ eu. flt_l ! (λ small. fsplit ! $
    handle_tells (al R A heap.the_row_laws allocates.ghosts) ! h.alloc wss.1.1.0 (λ gv eg good_g. move ! (1 ∷ 2 ∷ []) $ drop ! $ drop ! $
    -- [the handle's heap; its cell; the open borrow, in three entries; the box]
    let word : ℕ → Val → Val = λ holds p. vstruct (vcons p (vcons (vint w64 holds) (vcons gv vnil))) in
    let ws : us ≡ word h.holds (ptr_val h.at) ∷ [] =
    subst (λ (xs : List Val). us ≡ vstruct (of_list (ptr_val h.at ∷ vint w64 h.holds ∷ (xs ++ []))) ∷ []) eg
    (subst (λ (xs : List Val). us ≡ vstruct (of_list (ptr_val h.at ∷ (xs ++ (wss.1.1.0 ++ [])))) ∷ []) eu
    (subst (λ (xs : List Val). us ≡ vstruct (of_list (xs ++ (wss.1.0 ++ (wss.1.1.0 ++ [])))) ∷ []) ep ev)) in
    rewrite ! 1 (λ (xs : List Val). ‵ (cell_at full_share Handle.mir xs rb ro)) ws refl $
    assigns ! (of_opd ! (get ! refl)) (through ! refl (fld ! refl (stop !))) (store_in ! 1 (sub ! 0 refl (whole !)) (tt, tt)) $
    assigns ! (of_opd ! (lit ! tt)) (through ! refl (fld ! refl (stop !))) (store_in ! 1 (sub ! 1 refl (whole !)) (tt, record { fits = lit< tt })) $
    sets ! (of_opd ! (unit_lit !)) refl (tt, tt) $
    let kept : Held = record { at = block_ptr b o; holds = 1; alloc = h.alloc; value = v.value; of_slot = of_slot } in
    move ! (5 ∷ []) $ nothing ! $ move ! (2 ∷ 0 ∷ []) $ fjoin ! $
    owned ! u64 _ (uint_Makes 𝓛 w64) 1 (vint w64 1 ∷ []) (refl, lit< tt) $ fjoin ! $
    feq_i ! (List Val) (vptr b o ∷ []) (vptr b o ∷ []) refl $ fjoin ! $
    feq_i ! (List Val) (word 1 (vptr b o) ∷ []) (word 1 (vptr b o) ∷ []) refl $ fjoin ! $
    fpack ! (Valss (RawPtr ∷ u64 ∷ A ∷ [])) (within (shape the_handle) (block_ptr b o, (1, (((tt, tt), tt), tt))) (word 1 (vptr b o) ∷ [])) (vptr b o ∷ [], (vint w64 1 ∷ [], (gv ∷ [], tt))) $ fjoin ! $ move ! (1 ∷ []) $
    closes ! tt Handle kept (word 1 (vptr b o) ∷ []) rb ro $
    returns ! (look_at ! 0 refl) $ free_all ! refl $ keep ! (0 ∷ 1 ∷ 2 ∷ []) $
    suffices ! _ (ends_at 𝓛 ended hs c z vunit tt (kept, (tt, tt)) (tt, (tt, tt))) $ says ! refl $
    feq_i ! (List Val) vss.0 (vptr rb ro ∷ []) e₀ $ fjoin3 ! $ nothing ! $ nothing ! $ join ! $ move ! (1 ∷ 0 ∷ []) $ join ! $ nothing ! $ move ! (2 ∷ 0 ∷ []) $ join ! $ frame ! $ frame ! $
    feq_i ! _ (vunit ∷ []) _ refl $ done !))))))))))))
