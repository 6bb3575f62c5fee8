-- What a call comes to that takes out a member of its snapshot, from what its parts come to.

use Rattle.std.specs.Prelude.{IfErr, IfOk}
use Rattle.std.proofs.Common.{◌≡◌, ◌⊎◌, ℕ, zero, suc, ◌+◌, ◌-◌, ◌^◌, ◌<◌, ◌≤◌, Result, Ok, Err, ◌==◌, Bool, if◌then◌else◌, List, [], ◌∷◌, ◌++◌, All, length, length-append, Option, Some, None, sym, ap, ◌∙◌, subst, inl, inr, arith}
use Rattle.std.specs.Prelude.{slice_get, unwrap_or}
use Rattle.std.proofs.lemmas.Bool.{cases_Bool}
use Rattle.aug_core.specs.Kinds.{load_node}
use Rattle.aug_core.specs.declared.step.StepTaken.{StepTaken}
use Rattle.aug_core.proofs.PrefixLemmas.{prefix_trans}
use Rattle.aug_model.specs.Keys.{SetFacts, keys_of, list_of}
use Rattle.aug_model.specs.Queries.{weight_of}
use Rattle.aug_model.specs.declared.summary.Summary.{Summary}
use Rattle.aug_query.specs.Tree.{IsTreeSet}
use Rattle.aug_trie.specs.Knowledge.{Knowledge, IsKnowledge}
use Rattle.aug_trie.specs.LastingTable.{IsFull, IsFullAfter, LastingFacts, LastingPops, LoadsRootLast, LooksFor, TakesSeen, look_steps, most_lasting_steps, most_pop_steps}
use Rattle.aug_trie.specs.Node.{Keeps, Reads}
use Rattle.aug_trie.specs.Pass.{PassFacts, GoesOn}
use Rattle.aug_trie.specs.Pops.{member_at, pop_updates, PopsTo, Pops}
use Rattle.aug_trie.specs.Round.{RoundFacts, root_of}
use Rattle.aug_trie.specs.Snapshot.{HasSnapshot, set_at, snapshot_cut}
use Rattle.aug_trie.specs.Updates.{TakesSnapshot}
use Rattle.aug_trie.specs.inside.Popping.{SeesMember, TakesShown}
use Rattle.aug_trie.specs.inside.ViewLaws.{stays_so, stays_on}
use Rattle.aug_trie.specs.declared.queries.snapshot.Snapshot.{Snapshot}
use Rattle.aug_trie.specs.declared.rounds.pop.Pop.{Pop}
use Rattle.aug_trie.specs.declared.rounds.pop.Pop.TheVariants.{Member, Empty, Refused}
use Rattle.aug_trie.specs.declared.rounds.pop.Side.{Side}
use Rattle.aug_trie.specs.declared.rounds.pop.Side.TheVariants.{First, Last}

-- a key that stands in the list is as they all are
pub one_of_all : (P : ℕ → Type 0) (xs : List ℕ) (i k : ℕ) → All P xs → slice_get xs i ≡ Some k → P k
one_of_all P [] i k all is = grind (arith, is)
one_of_all P (x ∷ xs) zero k all is = subst P (ap (λ (z : Option ℕ). unwrap_or z x) is) (all 0 0 (omega arith))
one_of_all P (x ∷ xs) (suc i) k all is = one_of_all P xs i k (λ j d lt. all (suc j) d (omega arith)) is

-- a key that stands among those of pairs has a weight
pub weighs_some : (ps : List (ℕ × ℕ)) (i k : ℕ) → slice_get (keys_of ps) i ≡ Some k → weight_of ps k ≡ None → ⊥
weighs_some [] i k is none = grind (arith, is)
weighs_some (p ∷ ps) zero k is none = grind (arith, is, none)
weighs_some (p ∷ ps) (suc i) k is none = elim (cases_Bool (p.0 == k)) [
  | inl here ↦ grind (arith, here, none)
  | inr other ↦ weighs_some ps i k is (sym (ap (λ (b : Bool). if b then Some p.1 else weight_of ps k) other) ∙ none)
]

-- a pass goes on twice
pub goes_on_both : (a b s t : ℕ) (p q r : PassFacts) → GoesOn a s p q → GoesOn b t q r → GoesOn (a + b) (s + t) p r
goes_on_both a b s t p q r x y = record {
  same = let spent_q = ap (λ (z : PassFacts). z.spent) x.same in let spent_r = ap (λ (z : PassFacts). z.spent) y.same in let spent : r.spent ≡ p.spent + (a + b) = omega (arith, spent_q, spent_r) in
      let round = ap (λ (z : PassFacts). z.round) y.same ∙ ap (λ (z : PassFacts). z.round) x.same in
      let past = ap (λ (z : PassFacts). z.past) y.same ∙ ap (λ (z : PassFacts). z.past) x.same in
      let lane = ap (λ (z : PassFacts). z.lane) y.same ∙ ap (λ (z : PassFacts). z.lane) x.same in
      let facts : PassFacts = r in λ i. record facts { round = round i; past = past i; lane = lane i; spent = spent i };
  step_count = let x_long = x.step_count in let y_long = y.step_count in omega (arith, x_long, y_long);
  steps_stay = prefix_trans p.steps q.steps r.steps x.steps_stay y.steps_stay;
  knowledge = y.knowledge;
  named = y.named;
}

module _ {A B : Type 0} (summary_of : List (ℕ × ℕ) → Summary A B) where
  -- a pass that read nothing
  pub reads_none : (most : ℕ) (p : PassFacts) → Reads summary_of most p p
  reads_none most p = record { stays = stays_so summary_of p; few_steps = omega arith }

  -- and one that read twice
  pub reads_both : (m n most : ℕ) (p q r : PassFacts) → most ≡ m + n → Reads summary_of m p q → Reads summary_of n q r → Reads summary_of most p r
  reads_both m n most p q r is x y = record {
    stays = stays_on summary_of p q r x.stays y.stays;
    few_steps = let a = x.few_steps in let b = y.few_steps in omega (arith, is, a, b);
  }

  -- a pass that went on and then read
  pub goes_reading : (updates steps most : ℕ) (p q r : PassFacts) → GoesOn updates steps p q → Reads summary_of most q r → (more : ℕ) × GoesOn updates (steps + more) p r
  goes_reading updates steps most p q r g reads = let same = reads.stays.same in let more = reads.stays.steps_stay in (
    length more.0,
    record {
      same = let round = ap (λ (z : PassFacts). z.round) same ∙ ap (λ (z : PassFacts). z.round) g.same in let past = ap (λ (z : PassFacts). z.past) same ∙ ap (λ (z : PassFacts). z.past) g.same in
          let lane = ap (λ (z : PassFacts). z.lane) same ∙ ap (λ (z : PassFacts). z.lane) g.same in let spent = ap (λ (z : PassFacts). z.spent) same ∙ ap (λ (z : PassFacts). z.spent) g.same in
          let facts : PassFacts = r in λ i. record facts { round = round i; past = past i; lane = lane i; spent = spent i };
      step_count = let long = ap (λ (z : List StepTaken). length z) more.1 ∙ length-append q.steps more.0 in let had = g.step_count in omega (arith, long, had);
      steps_stay = prefix_trans p.steps q.steps r.steps g.steps_stay more;
      knowledge = subst (λ (z : PassFacts). IsKnowledge z.round.bits z.round.members z.knows) (sym same) g.knowledge;
      named = subst (λ (z : PassFacts). length z.numbers ≡ length z.knows.history) (sym same) g.named;
    },
  )

  -- what is kept twice is kept
  pub keeps_both : (p q r : PassFacts) → Keeps summary_of p q → Keeps summary_of q r → Keeps summary_of p r
  keeps_both p q r a b = record {
    snapshots = λ s has. b.snapshots s (a.snapshots s has);
    same_cuts = λ s has. b.same_cuts s (a.snapshots s has) ∙ a.same_cuts s has;
    same_sets = λ s has. b.same_sets s (a.snapshots s has) ∙ a.same_sets s has;
    nodes = λ node has. b.nodes node (a.nodes node has);
    weights = λ key serial weight has. b.weights key serial weight (a.weights key serial weight has);
  }

  -- a pop, from what its parts come to
  pub pops_made : (side : Side) (done : Pop) (s : Snapshot) (found : Option ℕ) (old looked mid new : PassFacts) → TakesSnapshot old.knows looked.knows (snapshot_cut looked s) → HasSnapshot looked s → GoesOn 0 1 old looked
      → looked.steps ≡ old.steps ++ load_node (root_of old.round) s.number ∷ [] → Keeps summary_of old looked → found ≡ member_at side (list_of (set_at looked s)) → Reads summary_of 4 looked mid → TakesShown summary_of (set_at mid s) found done mid new
      → Pops summary_of side done old new
  pops_made side done s found old looked mid new takes known goes step keeps is reads t = record {
    snapshot = s;
    looked = looked;
    takes = takes;
    known = known;
    goes_on = goes;
    step = step;
    keeps = keeps;
    asked = t.asked;
    reads = let bits : mid.round.bits ≡ looked.round.bits = ap (λ (z : PassFacts). z.round.bits) reads.stays.same in
        reads_both 4 (mid.round.bits + 2) (looked.round.bits + 6) looked mid t.asked (omega (arith, bits)) reads t.reads;
    pops_to = subst (λ (z : SetFacts × Option ℕ). PopsTo summary_of z.0 z.1 done t.asked new) (λ i. (reads.stays.keeps.same_sets s known i, is i)) t.pops_to;
  }

  -- a pop goes on by the updates that it makes
  pub pops_go_on : (side : Side) (done : Pop) (old new : PassFacts) → Pops summary_of side done old new → (steps : ℕ) × GoesOn (pop_updates done) steps old new
  pops_go_on side done old new p = by_found (member_at side (list_of (set_at p.looked p.snapshot))) done p.pops_to
    where
      asked : (more : ℕ) × GoesOn 0 (1 + more) old p.asked
      asked = goes_reading 0 1 (p.looked.round.bits + 6) old p.looked p.asked p.goes_on p.reads

      by_found : (found : Option ℕ) (done : Pop) → PopsTo summary_of (set_at p.looked p.snapshot) found done p.asked new → (steps : ℕ) × GoesOn (pop_updates done) steps old new
      by_found None Empty is = (1 + asked.0, subst (λ (z : PassFacts). GoesOn 0 (1 + asked.0) old z) (sym is) asked.1)
      by_found None (Member key weight) is = absurd is
      by_found None Refused is = absurd is
      by_found (Some k) Empty is = absurd is
      by_found (Some k) (Member key weight) is = let went = is.2.goes_on in (1 + asked.0 + went.0, goes_on_both 0 1 (1 + asked.0) went.0 old p.asked new asked.1 went.1)
      by_found (Some k) Refused is = let went = is.2.goes_on in (1 + asked.0 + went.0, goes_on_both 0 1 (1 + asked.0) went.0 old p.asked new asked.1 went.1)

  -- and keeps what there was
  pub pops_keep : (side : Side) (done : Pop) (old new : PassFacts) → Pops summary_of side done old new → Keeps summary_of old new
  pops_keep side done old new p = by_found (member_at side (list_of (set_at p.looked p.snapshot))) done p.pops_to
    where
      asked : Keeps summary_of old p.asked
      asked = keeps_both old p.looked p.asked p.keeps p.reads.stays.keeps

      by_found : (found : Option ℕ) (done : Pop) → PopsTo summary_of (set_at p.looked p.snapshot) found done p.asked new → Keeps summary_of old new
      by_found None Empty is = subst (λ (z : PassFacts). Keeps summary_of old z) (sym is) asked
      by_found None (Member key weight) is = absurd is
      by_found None Refused is = absurd is
      by_found (Some k) Empty is = absurd is
      by_found (Some k) (Member key weight) is = keeps_both old p.asked new asked is.2.keeps
      by_found (Some k) Refused is = keeps_both old p.asked new asked is.2.keeps

-- ---- a pass of a table that lasts

-- what holds of an answer holds where this follows from it
if_ok : {T E : Type 0} {P Q : T → Type 0} (r : Result T E) → ((x : T) → P x → Q x) → IfOk r P → IfOk r Q
if_ok (Ok x) follows is = follows x is
if_ok (Err e) follows is = is

if_err : {T E : Type 0} {P Q : E → Type 0} (r : Result T E) → ((x : E) → P x → Q x) → IfErr r P → IfErr r Q
if_err (Ok x) follows is = is
if_err (Err e) follows is = follows e is

-- the member at an end stands in the list
pub end_stands : (side : Side) (keys : List ℕ) (k : ℕ) → member_at side keys ≡ Some k → (i : ℕ) × (slice_get keys i ≡ Some k)
end_stands First keys k is = (0, is)
end_stands Last keys k is = (length keys - 1, is)

-- and so it has a weight, and is one of the keys that a set may have
pub end_weighs : (side : Side) (set : SetFacts) (k : ℕ) → member_at side (list_of set) ≡ Some k → weight_of set.pairs k ≡ None → ⊥
end_weighs side set k is none = let at = end_stands side (list_of set) k is in weighs_some set.pairs at.0 k at.1 none

pub end_low : (side : Side) (set : SetFacts) (k : ℕ) → IsTreeSet set → member_at side (list_of set) ≡ Some k → k < 2 ^ set.bits
end_low side set k tree is = let at = end_stands side (list_of set) k is in one_of_all (λ z. z < 2 ^ set.bits) (list_of set) at.0 k tree.is_key_set.below at.1

module _ {A B : Type 0} (summary_of : List (ℕ × ℕ) → Summary A B) where
  -- the round stays
  round_kept : {updates steps : ℕ} (p q : PassFacts) → GoesOn updates steps p q → q.round ≡ p.round
  round_kept p q g = ap (λ (z : PassFacts). z.round) g.same

  -- a pop, from what its parts come to
  module _ (side : Side) (s : Snapshot) (seen : Option (ℕ × ℕ)) (most : ℕ) (old looked mid ended new : LastingFacts) (takes : TakesSnapshot old.pass.knows looked.pass.knows (snapshot_cut looked.pass s)) (loads : LoadsRootLast old.pass s.number looked.pass) (known : HasSnapshot looked.pass s)
      (sees : SeesMember side (set_at looked.pass s) seen) (reads : Reads summary_of most looked.pass mid.pass) (same : ended.pass.knows ≡ mid.pass.knows) where
    looks : LooksFor side seen old.pass looked.pass
    looks = record { snapshot = s; takes = takes; loads = loads; known = known; key = sees.key; weighs = sees.weighs }

    still : ended.pass.knows ≡ looked.pass.knows
    still = same ∙ ap (λ (z : PassFacts). z.knows) reads.stays.same

    pub lasting_pops : {E : Type 0} (r : Result Pop E) → IfOk r (λ done. TakesSeen seen done ended.pass.knows new.pass.knows) → IfOk r (λ done. LastingPops side done old.pass new.pass)
    lasting_pops r = if_ok r (λ done took. record { seen = seen; looked = looked.pass; looks = looks; takes_seen = subst (λ (z : Knowledge). TakesSeen seen done z new.pass.knows) still took })

    pub lasting_full : {E : Type 0} (r : Result Pop E) (full : E) → looked.stock ≡ record old.stock { era = looked.stock.era } → mid ≡ record looked { pass = mid.pass } → ended.stock ≡ record mid.stock { era = 0 } → (b : ℕ) × (b ≤ 1) × GoesOn 0 b mid.pass ended.pass
        → IfErr r (λ e. (e ≡ full) × IsFull ended new × ((p : ℕ × ℕ) × (seen ≡ Some p))) → IfErr r (λ e. (e ≡ full) × IsFullAfter side old new)
    lasting_full r full taken asked rests y = if_err r (λ e z. (
      z.0,
      record {
        seen = z.2.0;
        looked = looked.pass;
        looks = subst (λ (q : Option (ℕ × ℕ)). LooksFor side q old.pass looked.pass) z.2.1 looks;
        ended = ended;
        same_knowledge = still;
        steps_stay = prefix_trans looked.pass.steps mid.pass.steps ended.pass.steps reads.stays.steps_stay y.2.steps_stay;
        same_stock = rests ∙ (λ i. record (((ap (λ (q : LastingFacts). q.stock) asked) ∙ taken) i) { era = 0 });
        full = z.1;
      },
    ))

  pub lasting_pop_goes_on : (old looked mid ended new : PassFacts) → (a : ℕ) × (a ≤ look_steps) × GoesOn 0 a old looked → Reads summary_of (looked.round.bits + 6) looked mid → (b : ℕ) × (b ≤ 1) × GoesOn 0 b mid ended
      → (new ≡ ended) ⊎ ((c : ℕ) × (c ≤ most_lasting_steps ended.round.bits ended.round.workers) × GoesOn 0 c ended new) → (steps : ℕ) × (steps ≤ most_pop_steps old.round.bits old.round.workers) × GoesOn 0 steps old new
  lasting_pop_goes_on old looked mid ended new x reads y z = let first = goes_reading summary_of 0 x.0 (looked.round.bits + 6) old looked mid x.2 reads in let all = goes_on_both 0 0 (x.0 + first.0) y.0 old mid ended first.1 y.2 in
      let to_look = round_kept old looked x.2 in let to_end = round_kept old ended all in let bits_looked = ap (λ (w : RoundFacts). w.bits) to_look in let bits_ended = ap (λ (w : RoundFacts). w.bits) to_end in let workers_ended = ap (λ (w : RoundFacts). w.workers) to_end in
      let a_few = x.1 in let b_few = y.1 in let few = reads.few_steps in let a_long = x.2.step_count in let long = first.1.step_count in
      let enough : x.0 + first.0 + y.0 ≤ look_steps + (old.round.bits + 6) + 1 = omega (arith, bits_looked, a_few, b_few, few, a_long, long) in
      elim (z) [
        | inl same ↦ (x.0 + first.0 + y.0, omega (arith, enough), subst (λ (w : PassFacts). GoesOn 0 (x.0 + first.0 + y.0) old w) (sym same) all)
        | inr took ↦ (let c_few = took.1 in (x.0 + first.0 + y.0 + took.0, omega (arith, enough, c_few, bits_ended, workers_ended), goes_on_both 0 0 (x.0 + first.0 + y.0) took.0 old ended new all took.2))
      ]
