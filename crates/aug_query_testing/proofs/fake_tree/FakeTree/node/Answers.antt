use Rattle.std.proofs.Common.{◌≡◌, ◌≤◌, ◌^◌, ap, sym, ◌∙◌, subst, arith}
use Rattle.std.proofs.Math.ListN.{get_or-map}
use Rattle.aug_model.specs.Folds.{summary_of}
use Rattle.aug_model.specs.Queries.{weight_in}
use Rattle.aug_query_testing.specs.FakeTree.{Asked}
use Rattle.aug_query_testing.specs.inside.FakeNodes.{IsFakeNode}
use Rattle.aug_model.specs.NodeKeys.{end_key}
use Rattle.aug_query.proofs.Nodes.{leaf_end}
use Rattle.aug_query_testing.proofs.TreeRows.{row_reaches, is_node}
use Rattle.aug_query_testing.proofs.fake_tree.FakeTree.node.Goals as goal
use Rattle.aug_query_testing.proofs.fake_tree.FakeTree.node.Goals.{then-level-eq0, else-level-eq0}

pub index-requires : goal.index-requires
index-requires g c =
    omega (arith, leaf_end c.args.level c.args.place c.if-level-eq0.true, c.requires.place, ap (λ (v : Asked). 2 ^ v.set.bits) c.self.view_is, c.self.invariant.weigh.all)

pub index-requires-2 : goal.index-requires-2
index-requires-2 g c =
    let bits = ap (λ (v : Asked). v.set.bits) c.self.view_is in
    let level : c.args.level ≤ c.self.inside.bits = omega (arith, bits, c.requires.level) in
    let end : end_key c.args.level c.args.place ≤ 2 ^ c.self.inside.bits = omega (arith, ap (λ n. 2 ^ n) bits, c.requires.place) in
    let row = ap (λ r. r.items) c.index-row.ensures ∙ sym (get_or-map (λ r. r.items) c.self.inside.rows.items c.args.level c.index-row.result.now) in
    omega (arith, row_reaches c.self.invariant c.args.level c.args.place _ row level end, c.index-row.result.now.ok.0)

pub returns-clause-node : goal.returns-clause-node
returns-clause-node g c =
    let bits = ap (λ (v : Asked). v.set.bits) c.self.view_is in
    let level : c.args.level ≤ c.self.inside.bits = omega (arith, bits, c.requires.level) in
    let end : end_key c.args.level c.args.place ≤ 2 ^ c.self.inside.bits = omega (arith, ap (λ n. 2 ^ n) bits, c.requires.place) in
    let row = ap (λ r. r.items) c.index-row.ensures ∙ sym (get_or-map (λ r. r.items) c.self.inside.rows.items c.args.level c.index-row.result.now) in
    let sum = summary_of g.A.Monoid.parts g.B.Monoid.parts in
    let weighs : c.args.level ≡ 0 → c.if-level-eq0.weight ≡ weight_in c.self.inside.pairs.list c.args.place =
    λ leaf. elim c.if-level-eq0.branch [
      | then-level-eq0 w ↦ w.weight-is ∙ w.index.ensures ∙ c.self.invariant.weigh.weigh c.args.place w.index.result.now (omega (arith, leaf_end c.args.level c.args.place leaf, end, c.self.invariant.weigh.all))
      | else-level-eq0 w ↦ absurd (w.if-level-eq0.false leaf)
    ] in
    subst (λ (v : Asked). IsFakeNode sum v.set c.args.level c.args.place c.if-level-eq0.weight c.index-2.result.now) c.self.view_is
    (record { is_node = is_node c.self.invariant c.args.level c.args.place _ _ row c.index-2.ensures level end; weighs = weighs })
