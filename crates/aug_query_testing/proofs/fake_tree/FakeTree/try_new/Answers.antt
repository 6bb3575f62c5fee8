use Rattle.std.proofs.Common.{◌≡◌, ◌+◌, [], ◌∷◌, refl, ap, sym, ◌∙◌, subst, length, length-append, map, arith}
use Rattle.std.proofs.Math.ListN.{get_or-map}
use Rattle.std.proofs.lemmas.List.{map-append, length-map}
use Rattle.aug_model.specs.Folds.{summary_of}
use Rattle.aug_query_testing.specs.inside.Rows.{IsRow, HoldsTree}
use Rattle.aug_query.specs.Tree.{IsTreeSet}
use Rattle.aug_query.proofs.Placed.{pushed_each}
use Rattle.aug_query_testing.proofs.TreeRows.{row_counts_few, row_above}
use Rattle.aug_query_testing.proofs.fake_tree.FakeTree.try_new.Goals as goal

pub parent_row-requires : goal.parent_row-requires
parent_row-requires g c =
    let sum = summary_of g.A.Monoid.parts g.B.Monoid.parts in
    let set : IsTreeSet (record { bits = c.args.bits; pairs = c.args.pairs.now }) = record { some_bits = c.requires.some_bits; few_bits = c.requires.few_bits; is_key_set = c.requires.keys; fit = c.requires.fit } in
    let row = get_or-map (λ r. r.items) c.loop-level.rows.items c.loop-level.level c.index.result.now ∙ sym (ap (λ r. r.items) c.index.ensures) ∙ sym c.deref.ensures.value in
    row_counts_few {sum = sum} {bits = c.args.bits} {level = c.loop-level.level} {pairs = c.args.pairs.now} (λ _. refl) set (subst (IsRow sum c.args.bits c.args.pairs.now c.loop-level.level) row (c.loop-level.invariant.each c.loop-level.level c.index.result.now.items (omega arith)))

pub loop-level-preserved : goal.loop-level-preserved
loop-level-preserved g c =
    let sum = summary_of g.A.Monoid.parts g.B.Monoid.parts in
    let set : IsTreeSet (record { bits = c.args.bits; pairs = c.args.pairs.now }) = record { some_bits = c.requires.some_bits; few_bits = c.requires.few_bits; is_key_set = c.requires.keys; fit = c.requires.fit } in
    let row = get_or-map (λ r. r.items) c.loop-level.rows.items c.loop-level.level c.index.result.now ∙ sym (ap (λ r. r.items) c.index.ensures) ∙ sym c.deref.ensures.value in
    let below : IsRow sum c.args.bits c.args.pairs.now c.loop-level.level c.deref.result.now = subst (IsRow sum c.args.bits c.args.pairs.now c.loop-level.level) row (c.loop-level.invariant.each c.loop-level.level c.index.result.now.items (omega arith)) in
    let above = c.in_ok-above.above in
    let old = c.loop-level.rows.items in
    let items = c.in_ok-push-2.ensures.items in
    let rows = ap (map (λ r. r.items)) items ∙ map-append (λ r. r.items) old (above ∷ []) in
    record {
      all = ap length items ∙ length-append old (above ∷ []) ∙ ap (λ n. n + 1) c.loop-level.invariant.all;
      each = pushed_each (IsRow sum c.args.bits c.args.pairs.now) _ _ above.items (c.loop-level.level + 1) rows (length-map old (λ r. r.items) ∙ c.loop-level.invariant.all) c.loop-level.invariant.each (row_above set c.loop-level-test.true below c.in_ok-above.ensures);
    }

pub invariant_of-result : goal.invariant_of-result
invariant_of-result g c =
    let sum = summary_of g.A.Monoid.parts g.B.Monoid.parts in
    let rows = map (λ row. row.items) c.loop-level.rows.items in
    let level : c.loop-level.level ≡ c.args.bits = omega arith in
    let holds : HoldsTree sum c.args.bits c.args.pairs.now rows c.in_ok-weights.weights.items = record {
      is_tree_set = record { some_bits = c.requires.some_bits; few_bits = c.requires.few_bits; is_key_set = c.requires.keys; fit = c.requires.fit };
      all = length-map c.loop-level.rows.items (λ row. row.items) ∙ c.loop-level.invariant.all ∙ ap (λ n. n + 1) level;
      each = λ j default h. c.loop-level.invariant.each j default (omega arith);
      weigh = c.in_ok-weights.ensures;
    } in
    subst (λ pairs. HoldsTree sum c.args.bits pairs rows c.in_ok-weights.weights.items) (sym c.of.ensures) holds
