-- What a walk over the last cut that a crew knows comes to.
use Rattle.std.proofs.Common.{Option, Some, ◌≡◌, ℕ, Bool, true, ◌+◌, ◌*◌, ◌^◌, ◌≤◌, List, ◌++◌, length, length-append, refl, sym, ap, ◌∙◌, subst, arith}
use Rattle.atomic_table.specs.Seated.{TableId}
use Rattle.aug_monoid.specs.Parts.{Parts}
use Rattle.aug_model.specs.Keys.{SetFacts, keys_of}
use Rattle.aug_model.proofs.Boundaries.{IsKeySet-few}
use Rattle.aug_model.proofs.Pairs.{length-keys_of}
use Rattle.aug_query.specs.Tree.{IsTreeSet}
use Rattle.aug_core.specs.Faces.{face}
use Rattle.aug_core.specs.inside.RootCuts.{root_cut}
use Rattle.aug_core.specs.declared.view.SeatView.{SeatView}
use Rattle.aug_core.proofs.Fits.{book_as}
use Rattle.aug_words.specs.Leads.{MayOpen}
use Rattle.aug_words.specs.Seats.{Known, NamesRoot}
use Rattle.aug_trie.specs.Crew.{CrewFacts, CrewReads, set_of_crew}
use Rattle.aug_trie.specs.History.{last_cut}
use Rattle.aug_trie.specs.inside.CrewState.{crew_facts, HasCrew, HoldsCrew}
use Rattle.aug_trie.specs.inside.Goes.{KnowsRecords}
use Rattle.aug_trie.specs.inside.Knows.{knows}
use Rattle.aug_trie.specs.inside.NamedCuts.{HasNamed, cut_named, members_of}
use Rattle.aug_trie.specs.inside.NodeWords.{IsNodeAt}
use Rattle.aug_trie.specs.inside.PassState.{known_in}
use Rattle.aug_trie.specs.inside.SnapshotWalk.{set_seen, IsWalk, Walking}
use Rattle.aug_trie.specs.declared.queries.snapshot.Snapshot.{Snapshot}
use Rattle.aug_trie.proofs.Asking.{looks_of}
use Rattle.aug_trie.proofs.Freeing.{same_opens}
use Rattle.aug_trie.proofs.Histories.{last_is}
use Rattle.aug_trie.proofs.Looking.{holds_plainly, reads_plainly}
use Rattle.aug_trie.proofs.RoundLemmas.{crew_told}
use Rattle.aug_trie.proofs.Snapshots.{shows_entry}
use Rattle.aug_trie.proofs.SnapshotWalks.{WalkDescends}
use Rattle.aug_trie.proofs.Trees.{inner_root, named_set, top_is}

module _ {A B : Type 0} (parts_a : Parts A) (parts_b : Parts B) where
  abbrev f : ℕ → ℕ → List (ℕ × ℕ) → List ℕ
  f = face parts_a parts_b

  -- what names the root's newest record names the last cut
  module _ (v : SeatView) (held : Snapshot) (kn : KnowsRecords f v) (named : NamesRoot v held.number) where
    shows : HasNamed v.shape v.seen held × (cut_named v.shape v.seen held ≡ root_cut v.shape v.seen named.index)
    shows = shows_entry f v.shape v.seen held named.index named.entry kn.knows_table.book (kn.knows_table.in_round kn.keeps_records).0 (inner_root parts_a parts_b v kn.knows_table) named.newest.at named.named

    pub last_named : cut_named v.shape v.seen held ≡ last_cut (knows v).history
    last_named = shows.1 ∙ sym (last_is v.shape v.seen named.index named.newest.last)

    -- so a walk goes by it
    pub walk_of_last : (bits : ℕ) → bits ≡ v.shape.bits → IsWalk f (λ word. word) v held bits
    walk_of_last bits same = record {
      bits_are = same;
      top = record {
        reads = reads_plainly f v kn;
        is_tree_set = named_set f v held kn.knows_table;
        holds = holds_plainly v kn.keeps_records (cut_named v.shape v.seen held) bits 0 held.number (subst (λ (z : ℕ). IsNodeAt v.shape v.seen (cut_named v.shape v.seen held) z 0 held.number) (sym same) (top_is parts_a parts_b v held kn.knows_table shows.0));
      };
    }

  -- over the crew's set
  pub set_of_last : (lead : Known) (free : Bool) (s : Snapshot) → KnowsRecords f lead.view → NamesRoot lead.view s.number → set_seen lead.view s ≡ set_of_crew (crew_facts lead free)
  set_of_last lead free s kn named = ap (members_of lead.view.shape.bits) (last_named lead.view s kn named)

  -- the crew is one still, and has only read
  pub crew_read : {number : ℕ → ℕ} (walk new : Walking) (free : Bool) (n c s p back inserts removals : ℕ) → HoldsCrew f walk.words.view back inserts removals → (free ≡ true → MayOpen walk.words) → WalkDescends f number n c s p walk new
      → HasCrew f (Some new.words) back inserts removals free × CrewReads (n + c + 3 * s + 2 * p) (crew_facts walk.words free) (crew_facts new.words free)
  crew_read walk new free n c s p back inserts removals h opens d =
      let l = looks_of parts_a parts_b n c s p walk new d in let v : SeatView = walk.words.view in
      subst (λ (z : TableId × SeatView). HasCrew f (Some (record { table = z.0; view = z.1 })) back inserts removals free × CrewReads (n + c + 3 * s + 2 * p) (crew_facts walk.words free) (crew_facts (record { table = z.0; view = z.1 }) free)) (λ j. (sym d.keeps_rest.same_table j, sym l.is j)) (
        record {
          known = record { table = walk.words.table; view = record v { steps = v.steps ++ l.more } };
          there = refl;
          holds = record {
            handed = h.handed;
            is_crew = record {
              keeps_records = h.is_crew.keeps_records;
              knows_table = book_as f v refl refl refl h.is_crew.knows_table;
              hands_out = h.is_crew.hands_out;
              took_back = refl;
              knowledge = let k = h.is_crew.knowledge in record { is_history = k.is_history; stands = k.stands };
            };
            few = h.few;
            back_is = h.back_is;
            inserts_are = h.inserts_are;
            removals_are = h.removals_are;
          };
          opens = λ is. same_opens walk.words record { table = walk.words.table; view = record v { steps = v.steps ++ l.more } } refl refl (opens is);
        },
        record { same = refl; steps_stay = (l.more, refl); few_steps = let long = length-append v.steps l.more in let few = l.few in omega arith },
      )

  -- a crew that took its lead out, walked, and has it again
  module _ (lead : Option Known) (k : Known) (now : CrewFacts) {free : Bool} (back inserts removals : ℕ) (h : HasCrew f lead back inserts removals free) (there : lead ≡ Some k) (facts : crew_facts (known_in lead) free ≡ now)
      (walk : Walking) (same : walk.words ≡ k) (newest : NamesRoot k.view walk.snapshot.number) where
    kn : KnowsRecords f k.view
    kn = let c = (crew_told h there facts).0.is_crew in record { knows_table = c.knows_table; keeps_records = c.keeps_records }

    pub walked_set : set_seen walk.words.view walk.snapshot ≡ set_of_crew now
    walked_set = ap (λ (z : Known). set_seen z.view walk.snapshot) same ∙ set_of_last k free walk.snapshot kn newest ∙ ap set_of_crew (crew_told h there facts).1

    pub walked_tree_set : IsTreeSet (set_of_crew now)
    walked_tree_set = subst IsTreeSet walked_set (subst (λ (z : Known). IsTreeSet (set_seen z.view walk.snapshot)) (sym same) (named_set f k.view walk.snapshot kn.knows_table))

    pub walked_few : length (set_seen walk.words.view walk.snapshot).pairs ≤ 2 ^ now.round.bits
    walked_few = let set : SetFacts = set_of_crew now in let tree = walked_tree_set in let few = IsKeySet-few set.bits (keys_of set.pairs) tree.is_key_set in let long = length-keys_of set.pairs in
        let here : length (set_seen walk.words.view walk.snapshot).pairs ≡ length set.pairs = ap (λ (z : SetFacts). length z.pairs) walked_set in omega arith

    pub walked : {number : ℕ → ℕ} (new : Walking) (after : Known) (n c s p most : ℕ) → after ≡ new.words → WalkDescends f number n c s p walk new → n + c + 3 * s + 2 * p ≤ most → HasCrew f (Some after) back inserts removals free × CrewReads most now (crew_facts after free)
    walked new after n c s p most is d enough =
        let told = crew_told h there facts in let t = crew_read walk new free n c s p back inserts removals (subst (λ (z : Known). HoldsCrew f z.view back inserts removals) (sym same) told.0) (λ is. subst MayOpen (sym same) (told.2 is)) d in
        subst (λ (z : Known × CrewFacts). HasCrew f (Some z.0) back inserts removals free × CrewReads most z.1 (crew_facts z.0 free)) (λ j. (sym is j, (ap (λ (y : Known). crew_facts y free) same ∙ told.1) j))
        (t.0, record { same = t.1.same; steps_stay = t.1.steps_stay; few_steps = let few = t.1.few_steps in omega arith })
