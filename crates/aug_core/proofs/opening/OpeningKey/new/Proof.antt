-- `new` makes a value of no bytes, whose opening is what the two references show.
use mathlib.Core.Path.{◌≡◌, refl}
use mathlib.Core.List.{[], ◌∷◌}
use mir.Syntax.{named}
use mir.Val.{Val, vstruct, vnil}
use base.Logic.{emp}
use contract.Monad.{fact, fact_i}
use contract.Running.{tables}
use types.Kit.{‵, raw, ◌⊛◌, ◌$◌, ◌∵◌, !, qed, move, keep, split, join, fjoin, use0, suffices, done}
use types.Run.{no_more, returns, enter}
use types.Part.{agg}
use types.ByLocal.{alloc_all, pass_all, free_all, look_at, sets}
use denote.Exit.{yes}
use denote.RattleType.{owns}
use denote.Builtin.{RefOf, SliceRefOf, u32}
use denote.Struct.Tuple.{Tuple}
use denote.Ref.{shr_vals, shr_Tells}
use denote.Slice.{shr_slice_vals, shr_slice_Tells}
use denote.Shadow.{pure_i}
use denote.Signature.{Slot, plain, types_at}
use denote.Steps.{nothing}
use denote.Triple.Entry.{Res, alive}
use denote.Triple.Walked.{Stays, stay_dropped, walk_of, ends_at, Goes-dropped}
use Rattle.std.proofs.raw_atomic.Walks.{proved}
use Rattle.aug_core.specs.contracts.layout.Layout.{the_row as LayoutRow}
use Rattle.aug_core.specs.contracts.opening.OpeningKey.{the_row}
use Rattle.aug_core.specs.contracts.opening.OpeningKey.new as f
use Rattle.aug_core.proofs.opening.OpeningKey.new.Statement.{statement}
use Rattle.aug_core.proofs.opening.OpeningKey.new.Code as code

abbrev layout_slot : Slot 2
layout_slot = RefOf (0 ∷ []) tt (plain (λ _. LayoutRow)) (λ _. tt)

abbrev members_slot : Slot 2
members_slot = SliceRefOf (1 ∷ []) tt (plain (λ _. Tuple (u32 ∷ u32 ∷ []))) (λ _. tt)

abbrev stayed : Stays f.ended.signature.params f.ended.kept
stayed = (stay_dropped layout_slot yes, (stay_dropped members_slot yes, tt))

pub new_spec : {M : Type 1} → statement M
new_spec 𝓤 𝓛 𝓜 𝓡 wired =
    let c = f.clauses 𝓛 𝓜.mem 𝓡.returns in let W = walk_of 𝓛 f.ended stayed c in let 𝓣 = tables 𝓤 𝓛.H 𝓜 𝓡 𝓡.env in
    proved 𝓛 f.ended stayed c 𝓜 𝓡 (Goes-dropped 𝓛 2 layout_slot yes (λ κs x w. refl), (Goes-dropped 𝓛 2 members_slot yes (λ κs x w. refl), tt))
    f.Key.name code.function (code.unfolded 𝓤 𝓛.H 𝓜 𝓡 wired)
    (λ κs. (shr_vals, (shr_slice_vals, tt))) (λ κs. (shr_Tells (named 0) κs.0 LayoutRow, (shr_slice_Tells (named 1) κs.1.0 (Tuple (u32 ∷ u32 ∷ [])), tt))) (λ κs qs bounds a g are.
    let y : W.Ghost = ((κs, qs, bounds, a, (shr_vals a.0, (shr_slice_vals a.1.0, tt))), g) in
    let v : Val = vstruct vnil in
    let r : Res f.signature κs = record { shape = a.0.now; members = a.1.0.now } in
    qed 𝓛 ((raw (alive 𝓛 f.signature κs qs) ⊛ ‵ (owns (types_at f.signature.params κs) a y.0.4)) ∷ raw ((c κs a).requires g) ∷ []) ∵ split ! $ keep ! (0 ∷ []) $
    enter ! 𝓣.C 𝓣.Λ code.function _ _ $ alloc_all ! (λ l. pass_all ! refl ((tt, tt), ((tt, (tt, (record { fits = are.1.0.0.1.0 }, tt))), tt)) $
    sets ! (agg ! (no_more !)) refl (tt, tt) $
    returns ! (look_at ! 0 refl) $ free_all ! refl $
    suffices ! _ (ends_at 𝓛 f.ended stayed c y v r (tt, (tt, tt)) (tt, (tt, tt))) $
    pure_i ! (the_row.own_val r (v ∷ [])) (λ x. (((λ vss. (tt, tt)), tt), tt)) ((record { opening = r }, (refl, tt)), (((tt, (refl, tt)), tt), tt)) $
    nothing ! $ nothing ! $ fjoin ! $ nothing ! $ fjoin ! $ join ! $ move ! (1 ∷ 0 ∷ []) $ join ! $
    use0 𝓛 (raw (fact 𝓤 (r.members ≡ a.1.0.now))) (fact_i 𝓤 (r.members ≡ a.1.0.now) (emp 𝓤) refl) $
    use0 𝓛 (raw (fact 𝓤 (r.shape ≡ a.0.now))) (fact_i 𝓤 (r.shape ≡ a.0.now) (emp 𝓤) refl) $
    join ! $ move ! (1 ∷ 0 ∷ []) $ join ! $ done !))
