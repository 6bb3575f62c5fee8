-- `as_slot` lends the slot where it lies, and the handle follows it.
use Rattle.std.proofs.Common.{◌≡◌, ℕ, List, [], ◌∷◌, refl, sym, ap, ◌∙◌}
use seplogic.Ra.Ura.{Ura}
use mir.Syntax.{named}
use mir.Raw.{raw as bare}
use mir.Val.{Val, vptr}
use base.Logic.{SProp, ent, sep, never, fst∗}
use base.Fraction.{full_share}
use base.Fml.{Fml, GName, ftrue, fsep, flft}
use types.Logic.{Logic, sem}
use types.Kit.{‵, raw, ◌⊛◌, some, later, at_ret, ◌$◌, ◌∵◌, !, qed, move, keep, drop, split, split3, join, fsplit, fsplit3, fjoin, fpick, fpack, pick, await, use1, rewrite, group, suffices, frame, done}
use types.Run.{stop, fld, load, addr, of_opd, first, blocks, exec, returns, enter}
use types.ByLocal.{alloc_all, pass_all, free_all, look_at, get, through, sets, sets_last, env}
use types.Part.{whole, sub, look_in}
use contract.Monad.{fact}
use contract.Running.{tables}
use denote.Ref.{MutRef, mut_vals, mut_Tells}
use denote.Signature.{plain, mut_ref_to}
use denote.RawPtr.{Ptr, block_ptr, null_ptr, in_a_block}
use denote.Memory.{mem, lone, part_at, cell_at, part_of}
use denote.Follow.{follows, lends_Part}
use denote.Steps.{nothing, heard, peeks, opens}
use denote.Laws.{Is, shows}
use denote.Triple.Walked.{says, Stays, stay_dropped, walk_of, ends_at, Goes-spent_ref}
use Rattle.std.proofs.alloc.Shapes.{after}
use Rattle.std.proofs.raw_atomic.Walks.{proved}
use Rattle.std.specs.Box.Ownership.{box_owns}
use Rattle.std.specs.declared.alloc.Global.{Global}
use Rattle.std.specs.contracts.impls.GlobalAllocator.TheImpl.{ghosts}
use Rattle.std.specs.Prelude.{IsSome}
use Rattle.aug_c.specs.Holding.{Content, held_owns}
use Rattle.aug_c.specs.inside.SlotLends.{with_slot}
use Rattle.aug_c.specs.contracts.raw_handle.HandleSlot.{the_row as R}
use Rattle.aug_c.specs.contracts.raw_handle.HeldBox.{the_row as V}
use Rattle.aug_c.proofs.HeldBoxes.{some_of, word, Data, told}
use Rattle.aug_c.specs.contracts.raw_handle.HeldBox.as_slot.{ended, clauses}
use Rattle.aug_c.specs.contracts.raw_handle.HeldBox.as_slot.Key.{name as #self}
use Rattle.aug_c.proofs.raw_handle.HeldBox.as_slot.Statement.{statement}
use Rattle.aug_c.proofs.raw_handle.HeldBox.as_slot.Code as code

module _ {M : Type 1} {𝓤 : Ura M} (𝓛 : Logic 𝓤) (h : V.Denot) (a : Global) (us : List Val) (rb ro b o : ℕ) where
  -- all that the handle owns but the slot
  abbrev Rest : Fml
  Rest = fsep (ghosts.dealloc_token a (bare (lone R.mir)) (block_ptr b o)) (fsep (Data.own_val (h.at, tt) us) (cell_at full_share V.mir us rb ro))

  back : h.at ≡ block_ptr b o → (w : R.Denot) → ent 𝓤 (sep 𝓤 (sem 𝓛 ((mem R).own_at w b o)) (sem 𝓛 Rest)) (sem 𝓛 ((mem V).own_at (with_slot h w) rb ro))
  unfolding part_of
  back e w =
      qed 𝓛 (‵ (part_at R full_share w b o) ∷ ‵ Rest ∷ []) ∵ move ! (1 ∷ []) $ fsplit3 ! $ move ! (3 ∷ 0 ∷ []) $ fjoin ! $
      rewrite ! 0 (λ (p : Ptr). ‵ (box_owns (ghosts.dealloc_token a) R p w)) (sym e) refl $ fpack ! Global (λ a'. box_owns (ghosts.dealloc_token a') R h.at w) a $
      move ! (1 ∷ 0 ∷ []) $ fjoin ! $ move ! (1 ∷ 0 ∷ []) $ fjoin ! $ fpack ! (List Val) (λ vs. fsep (cell_at full_share V.mir vs rb ro) (V.own_val (with_slot h w) vs)) us $ done !

abbrev stayed : Stays ended.signature.params ended.kept
stayed = (stay_dropped (mut_ref_to (0 ∷ []) tt (plain (λ _. V))) ended.kept.0, tt)

pub as_slot_spec : {M : Type 1} → statement M
as_slot_spec 𝓤 𝓛 𝓜 𝓡 wired =
    let H = 𝓛.H in let 𝓣 = tables 𝓤 H 𝓜 𝓡 𝓡.env in let c = clauses 𝓛 𝓜.mem 𝓡.returns in let fn = code.function in
    proved 𝓛 ended stayed c 𝓜 𝓡 (Goes-spent_ref 𝓛 1 (0 ∷ []) tt (plain (λ _. V)), tt) #self fn (code.unfolded 𝓤 H 𝓜 𝓡 wired)
    (λ κs. (mut_vals, tt)) (λ κs. (mut_Tells (named 0) κs.0 V, tt)) (λ κs qs bounds a g are.
    let κ = κs.0 in let q = qs.0 in let rb = a.0.ref_ptr.0 in let ro = a.0.ref_ptr.1 in let γ = a.0.ghost_name in let h = a.0.now in
    let y : (walk_of 𝓛 ended stayed c).Ghost = ((κs, qs, bounds, a, (mut_vals a.0, tt)), g) in let Post : Val → SProp 𝓤 = (walk_of 𝓛 ended stayed c).post y in
    qed 𝓛 (((‵ (flft κ q) ⊛ ‵ ftrue) ⊛ ‵ ((MutRef (named 0) κ V).own_val a.0 (mut_vals a.0)) ⊛ ‵ ftrue) ∷ raw (fact 𝓤 (IsSome h.value)) ∷ []) ∵
    move ! (1 ∷ []) $ heard ! (IsSome h.value) (λ full. let x = (some_of h.value full).0 in let is_x = (some_of h.value full).1 in
    split ! $ split ! $ move ! (2 ∷ []) $ split ! $ keep ! (0 ∷ 2 ∷ []) $
    enter ! 𝓣.C 𝓣.Λ fn (vptr rb ro ∷ []) Post $ alloc_all ! (λ l. pass_all ! refl ((tt, tt), tt) $ let Ev = env fn.locals l in
    fsplit3 ! $ drop ! $ move ! (0 ∷ 1 ∷ 2 ∷ []) $ opens ! tt V {h = h} rb ro (λ us.
    -- [the cell; what the handle owns; the open borrow, in three entries]
    move ! (1 ∷ []) $ fsplit ! $ move ! (1 ∷ []) $ rewrite ! 0 (λ (k : Content). ‵ (held_owns k h.at)) is_x refl $ fpick ! (λ a'.
    in_a_block ! h.at (λ p. box_owns (ghosts.dealloc_token a') R p x) (fst∗ 𝓤 (never 𝓤) (sem 𝓛 (ghosts.dealloc_token a' (bare (lone R.mir)) null_ptr))) (λ b o e. fsplit ! $
    -- [the slot; the right to free it; the field; the cell; the open borrow]
    move ! (2 ∷ []) $ peeks ! Data (Is Data) (shows 𝓛 Data) (h.at, tt) us (λ is.
    let ew : us ≡ word (block_ptr b o) ∷ [] = told h.at us is ∙ ap (λ (p : Ptr). word p ∷ []) e in
    rewrite ! 3 (λ (ws : List Val). ‵ (cell_at full_share V.mir ws rb ro)) ew refl $
    first ! $ blocks ! $
    sets ! (of_opd ! (load ! (through ! refl (fld ! refl (stop !))) (look_in ! 3 (sub ! 0 refl (whole !))))) refl (tt, tt) $
    sets ! (of_opd ! (get ! refl)) refl (tt, tt) $
    sets_last ! (addr ! (through ! refl (stop !))) refl (tt, tt) $
    exec ! 𝓣.C 𝓣.Λ Ev (after 1 fn.body) (at_ret Ev Post) $
    sets ! (of_opd ! (get ! refl)) refl (tt, tt) $
    rewrite ! 3 (λ (ws : List Val). ‵ (cell_at full_share V.mir ws rb ro)) (sym ew) refl $
    -- [the field; the slot; the right to free it; the cell; the open borrow]
    move ! (0 ∷ 3 ∷ []) $ fjoin ! $ move ! (2 ∷ 0 ∷ []) $ fjoin ! $ move ! (2 ∷ 3 ∷ 4 ∷ 1 ∷ 0 ∷ []) $ group ! 5 $
    use1 𝓛 (later (some (λ (δ : GName). ‵ ((MutRef (named 0) κ R).own_val (record { ref_ptr = (b, o); ghost_name = δ; now = x }) (vptr b o ∷ [])) ⊛ ‵ (flft κ q) ⊛ ‵ (follows V R γ δ (with_slot h)))))
    (lends_Part 𝓛 V R (with_slot h) (named 0) κ q rb ro b o γ (sem 𝓛 (Rest 𝓛 h a' us rb ro b o)) (back 𝓛 h a' us rb ro b o e) (V.coded.code h) (V.coded.code h) x) $ await ! tt $ pick ! (λ δ.
    returns ! (look_at ! 0 refl) $ free_all ! refl $ keep ! (0 ∷ []) $ split3 ! $
    suffices ! _ (ends_at 𝓛 ended stayed c y (vptr b o) (record { ref_ptr = (b, o); ghost_name = δ; now = x }) (tt, tt) (tt, tt)) $
    nothing ! $ nothing ! $ fjoin ! $ join ! $ nothing ! $ move ! (2 ∷ 0 ∷ []) $ join ! $ join ! $ frame ! $ says ! is_x $ done !))))))))
