use Rattle.std.proofs.Common.{◌≡◌, ◌∙◌, ◌+◌, ◌<◌, ◌++◌, [], ◌∷◌, List, get_or, length, length-append, map, vec_len, ap, refl, sym, subst, rules, arith}
use Rattle.std.specs.Arc.{arc_value}
use Rattle.std.specs.Prelude.{Some, option_to_list}
use Rattle.aug_trie.specs.Round.{TableFacts}
use lib.ListN.{get_elem?}
use Rattle.atomic_table.specs.Seated.{TableId}
use Rattle.ruled_lock.specs.Locks.{client_of}
use Rattle.std.proofs.lemmas.List.{append_assoc, append-nil}
use Rattle.std.specs.Vec.Iter.{into_iter_items, into_iter_len}
use Rattle.aug_live.specs.LiveTries.{TrieFacts, ids_of}
use Rattle.aug_live.specs.inside.LaneKnowledge.{EndFacts, handle_by}
use Rattle.aug_live.specs.inside.Rolls.{IsHandleEnd, handles_from}
use Rattle.aug_live.proofs.Counted.{none_left}
use Rattle.aug_live.proofs.DeskSteps.{forks}
use Rattle.aug_live.proofs.Handing.{handles_more}
use Rattle.aug_live.proofs.Moving.{all_but_last, head_of, last_one, tail_of}
use Rattle.aug_live.proofs.OneLane.{end_at}
use Rattle.aug_live.proofs.live.hand_out.Goals as goal

pub loop-end-init : goal.loop-end-init
loop-end-init g c =
    let gives = c.into_iter-end-iterator.ensures.into_iter_gives.0 in let it = c.into_iter-end-iterator.result in
    let long : into_iter_len it ≡ length (into_iter_items it) = search rules in (
      search rules,
      search rules,
      λ k d low. subst (λ (z : List EndFacts). IsHandleEnd 1 (arc_value c.args.round.value) (get_or z k d)) (sym gives) (c.requires.ends k d (omega (arith, low, long, ap length gives))),
      record { front = []; ends_are = refl; handles_are = c.requires.handles.0 },
      long,
      c.requires.shares.0,
      search rules,
      (refl, refl),
      c.requires.free,
      refl,
    )

pub another-key-requires-clause-lock : goal.another-key-requires-clause-lock
another-key-requires-clause-lock g c =
    let cut = c.pop.ensures.items ∙ ap (λ z. c.pop.new.self.items ++ option_to_list z) c.in-Some-pop.is in
    let share = last_one (λ s. s ≡ (arc_value c.args.round.value, c.args.mine.now.table_id)) c.pop.new.self.items c.loop-end.shares.items c.in-Some-pop.share cut c.loop-end.invariant.5 in
    let deref : arc_value c.share.inside.desk ≡ c.deref.result.now = search rules in
    c.loop-end.invariant.7.0 ∙ ap (λ (z : TableFacts × TableId). z.1) (sym share ∙ sym c.share.view_is) ∙ (λ i. (deref i).table.shared.table_id)

pub another-key-requires-clause-rule : goal.another-key-requires-clause-rule
another-key-requires-clause-rule g c = let was = c.loop-end.invariant in let owner = c.requires.owner in
    forks _ _ (was.7.1 ∙ owner.first) (subst (λ n. 0 < n) (ap (λ (z : TrieFacts). z.bits) (sym was.9)) owner.some)

pub invariant_of-push_reserved : goal.invariant_of-push_reserved
invariant_of-push_reserved g c =
    let cut = c.pop.ensures.items ∙ ap (λ z. c.pop.new.self.items ++ option_to_list z) c.in-Some-pop.is in
    let share = last_one (λ s. s ≡ (arc_value c.args.round.value, c.args.mine.now.table_id)) c.pop.new.self.items c.loop-end.shares.items c.in-Some-pop.share cut c.loop-end.invariant.5 in
    (c.another-key.ensures.new.0 ∙ c.loop-end.invariant.7.0 ∙ ap (λ (z : TableFacts × TableId). z.1) (sym share ∙ sym c.share.view_is), c.another-key.ensures.new.1)

pub invariant_of-push_reserved-in-loop-end : goal.invariant_of-push_reserved-in-loop-end
invariant_of-push_reserved-in-loop-end g c =
    let was = c.loop-end.invariant in let step = c.in-Some.ensures.steps in let all = c.into_iter-end-iterator.result in let gives = c.into_iter-end-iterator.ensures.into_iter_gives.0 in
    let cut = c.pop.ensures.items ∙ ap (λ z. c.pop.new.self.items ++ option_to_list z) c.in-Some-pop.is in let trie = client_of c.args.mine.now in
    let share = last_one (λ s. s ≡ (arc_value c.args.round.value, c.args.mine.now.table_id)) c.pop.new.self.items c.loop-end.shares.items c.in-Some-pop.share cut was.5 in
    let knows : client_of c.another-key.result ≡ trie = c.another-key.ensures.new.2 ∙ was.9 in
    let long : into_iter_len all ≡ length (into_iter_items all) = search rules in
    let parts : length (into_iter_items all) ≡ length was.3.front + length (into_iter_items c.loop-end.end-iterator) = ap length was.3.ends_are ∙ length-append was.3.front _ in
    let some : 0 < into_iter_len c.loop-end.end-iterator = omega (arith, step.1) in
    let mine = head_of (IsHandleEnd 1 (arc_value c.args.round.value)) _ c.in-Some.end _ _ step.0 some was.2 in
    let before : length was.3.front ≡ vec_len c.loop-end.handles = omega (arith, was.0, was.4, long, parts) in (
      record {
        mine = c.in-Some.end;
        there = refl;
        whose = mine.whose;
        id = ap (λ (z : List TableId). get_elem? z c.len-lane.result) (ap ids_of knows)
            ∙ end_at (ids_of trie) (into_iter_items all) was.3.front (into_iter_items c.next.new.self) c.in-Some.end c.len-lane.result (ap (map (λ (e : EndFacts). e.lock)) gives ∙ c.requires.locks) (was.3.ends_are ∙ ap (λ (z : List EndFacts). was.3.front ++ z) step.0) (before ∙ sym c.len-lane.ensures);
        number_is = mine.number_is;
        some_era = mine.some_era;
        together = mine.together ∙ ap (λ (z : TableFacts × TableId). z.0) (sym share ∙ sym c.share.view_is);
        bits_are = ap (λ (z : TableFacts). z.bits) mine.together ∙ sym c.requires.bits;
        few_bits = omega (arith, mine.few_bits, c.requires.bits);
      },
      c.share.invariant,
      ap (λ (z : TrieFacts). z.table) knows ∙ c.requires.table ∙ ap (λ (z : TableFacts × TableId). z.0.table) (sym share ∙ sym c.share.view_is),
    )

pub loop-end-preserved : goal.loop-end-preserved
loop-end-preserved g c =
    let was = c.loop-end.invariant in let step = c.in-Some.ensures.steps in let put = c.push_reserved.ensures in let made = c.another-key.ensures in let trie = client_of c.args.mine.now in
    let cut = c.pop.ensures.items ∙ ap (λ z. c.pop.new.self.items ++ option_to_list z) c.in-Some-pop.is in
    let knows : client_of c.another-key.result ≡ trie = made.new.2 ∙ was.9 in
    let less : vec_len c.pop.new.self + 1 ≡ vec_len c.loop-end.shares = c.in-Some-pop.ensures.cases in
    let all = c.into_iter-end-iterator.result in let long : into_iter_len all ≡ length (into_iter_items all) = search rules in
    let parts : length (into_iter_items all) ≡ length was.3.front + length (into_iter_items c.loop-end.end-iterator) = ap length was.3.ends_are ∙ length-append was.3.front _ in
    let place : c.len-lane.result ≡ 0 + length was.3.front = omega (arith, c.len-lane.ensures, was.0, was.4, long, parts) in
    let grown : vec_len c.push_reserved.new.self ≡ vec_len c.loop-end.handles + 1 = put.len in let rest = into_iter_items c.next.new.self in (
      omega (arith, was.0, grown, step.1),
      search rules,
      tail_of (IsHandleEnd 1 (arc_value c.args.round.value)) _ _ _ _ _ step.0 step.1 was.2,
      record {
        front = was.3.front ++ c.in-Some.end ∷ [];
        ends_are = was.3.ends_are ∙ ap (λ (z : List EndFacts). was.3.front ++ z) step.0 ∙ sym (append_assoc was.3.front (c.in-Some.end ∷ []) rest);
        handles_are = put.items ∙ (λ i. was.3.handles_are i ++ handle_by (knows i) (place i) (Some c.in-Some.end) ∷ []) ∙ sym (handles_more trie 0 was.3.front c.in-Some.end);
      },
      omega (arith, was.4, step.1, ap length step.0),
      all_but_last (λ s. s ≡ (arc_value c.args.round.value, c.args.mine.now.table_id)) c.pop.new.self.items c.loop-end.shares.items c.in-Some-pop.share cut was.5,
      omega (arith, was.6, less, step.1),
      (made.same.0 ∙ was.7.0, made.same.1 ∙ was.7.1),
      made.free was.8,
      made.left ∙ was.9,
    )

pub returns-clause-at : goal.returns-clause-at
returns-clause-at g c =
    let was = c.loop-end.invariant in
    let none = none_left (into_iter_items c.loop-end.end-iterator) (sym was.4 ∙ c.in-None.ensures.steps.0) in
    was.3.handles_are ∙ ap (handles_from (client_of c.args.mine.now) 0) (sym (append-nil was.3.front) ∙ ap (λ (z : List EndFacts). was.3.front ++ z) (sym none) ∙ sym was.3.ends_are ∙ c.into_iter-end-iterator.ensures.into_iter_gives.0)
