-- What a batch of updates comes to, as one record, from the pass as it was and from what its words' calls say.
use Rattle.std.proofs.Common.{◌≡◌, ◌==◌, Bool, if◌then◌else◌, inl, inr, Option, Some, ℕ, suc, ◌+◌, ◌-◌, ◌*◌, ◌^◌, ◌<◌, ◌≤◌, List, [], ◌∷◌, ◌++◌, All, length, get_or, length-append, append_assoc, sym, refl, ap, ◌∙◌, subst, arith}
use Rattle.std.proofs.Math.Nat.{mul-add}
use Rattle.std.proofs.lemmas.Bool.{cases_Bool}
use Rattle.std.proofs.lemmas.List.{append-nil}
use Rattle.std.proofs.lemmas.List.Elements.{All-nil, All-append}
use Rattle.std.proofs.lemmas.Nat.{mul-le}
use Rattle.atomic_table.specs.Seated.{TableId}
use Rattle.aug_monoid.specs.Parts.{Parts}
use Rattle.aug_model.specs.Folds.{summary_of}
use Rattle.aug_core.specs.Places.{Shape}
use Rattle.aug_core.specs.Book.{IsBook}
use Rattle.aug_core.specs.Counts.{changes_of}
use Rattle.aug_core.specs.Faces.{face}
use Rattle.aug_core.specs.Effects.{KnowsBook}
use Rattle.aug_core.specs.inside.Shows.{Lifts}
use Rattle.aug_core.specs.declared.step.StepTaken.{StepTaken}
use Rattle.aug_core.specs.declared.view.Change.{Change}
use Rattle.aug_core.specs.declared.view.Held.{Held}
use Rattle.aug_core.specs.declared.view.LaneState.TheVariants.{Free}
use Rattle.aug_core.specs.declared.view.SeatView.{SeatView}
use Rattle.aug_core.proofs.Fits.{book_as}
use Rattle.aug_core.proofs.PrefixLemmas.{book_trans}
use Rattle.aug_words.specs.Seats.{Known}
use Rattle.aug_trie.specs.UpdateBatches.{BatchPart, no_part, DoesPart, DoesBatch, most_rises}
use Rattle.aug_trie.specs.History.{last_cut}
use Rattle.aug_trie.specs.Knowledge.{StandsIn}
use Rattle.aug_trie.specs.Node.{Keeps}
use Rattle.aug_trie.specs.Pass.{PassFacts, GoesOn, most_update_steps, most_rise_steps}
use Rattle.aug_trie.specs.LastingBatches.{DoesAlone}
use Rattle.aug_trie.specs.Updates.{ComesTo, Tells}
use Rattle.aug_trie.specs.declared.rounds.account.Account.{Account}
use Rattle.aug_model.specs.declared.outcome.Outcome.{Outcome}
use Rattle.aug_model.specs.declared.outcome.Outcome.TheVariants.{Refused}
use Rattle.aug_trie.specs.declared.updates.request.Request.{Request}
use Rattle.aug_trie.specs.declared.updates.told.LeafUpdate.{LeafUpdate}
use Rattle.aug_trie.specs.inside.Batching.{LeftPart, LeftAll, RaisedAll, IsAccountAfter}
use Rattle.aug_trie.specs.inside.Climbing.{CameBy, ChangesLeaf, Settled, told_by}
use Rattle.aug_trie.specs.inside.LastingRuns.{MadeBetween}
use Rattle.aug_trie.specs.inside.Weights.{WeighsAt}
use Rattle.aug_trie.specs.LeafWords.{serial_in_word, weight_in_word}
use Rattle.aug_trie.specs.Requests.{in_the_way, changes_by, outcome_by, word_left}
use Rattle.aug_core.specs.Cuts.{serial_of}
use Rattle.aug_trie.specs.inside.Counted.{HasCounts}
use Rattle.aug_trie.specs.inside.Goes.{Goes, HasLeaves, HasRoom}
use Rattle.aug_trie.specs.inside.Knows.{knows, KnowsRound}
use Rattle.aug_trie.specs.inside.PassState.{pass_facts, known_in, IsPass, KeepsAccount}
use Rattle.aug_trie.proofs.Accepting.{comes_to, knowledge_on, shown_number, stayed_by, updated_knowledge}
use Rattle.aug_trie.proofs.Going.{goes_after, room_on, room_within}
use Rattle.aug_trie.proofs.LeavingAll.{steps_in, made_in}
use Rattle.aug_trie.proofs.Passing.{pass_told, pass_on, updates_on, tells_by, weighed_by, stored_by}
use Rattle.aug_trie.proofs.Raising.{newest_later}
use Rattle.aug_trie.proofs.Trees.{keeps_on}
use Rattle.aug_trie.proofs.WholeWords.{goes_whole}

-- a view that has made no changes, and one that has made these
abbrev blank : SeatView → SeatView
blank v = record v { held = [] }

abbrev made_alone : SeatView → List Change → SeatView
made_alone v made = record v { held = record { lane = 0; state = Free; owned = []; replaced = []; changes = made } ∷ [] }

module _ (f : ℕ → ℕ → List (ℕ × ℕ) → List ℕ) where
  -- between two views one update's changes may be seen alone
  goes_alone : {used : ℕ} {gained : List Change} (u z : SeatView) (made : List Change) → Goes f used gained u z → Goes f 0 made (blank u) (made_alone z made)
  goes_alone u z made g = record {
    later = g.later;
    fresh = g.fresh;
    knows_table = book_as f z refl refl refl g.knows_table;
    shaped = g.shaped;
    same_members = g.same_members;
    same_eras = g.same_eras;
    lane = refl;
    changes = append-nil made;
    holds = λ one. absurd (let none : 0 ≡ 1 = ap (λ (z : List Held). length z) one.1 in omega arith);
    still_owned = λ n past may. absurd (let none : 0 ≡ 1 = ap (λ (z : List Held). length z) may.only in omega arith);
  }

  -- one update of a batch whose leaf is shown in the end
  module _ {used : ℕ} {gained : List Change} {v z : SeatView} {key : ℕ} {request : Request} {done : Outcome} {own : List Change} (kn : KnowsBook f v) (low : key < 2 ^ v.shape.bits) (whole : Goes f used gained v z) (m : MadeBetween f key request done own v.shape.bits v z) where
    pub kn_alone : KnowsBook f (blank v)
    kn_alone = book_as f v refl refl refl kn

    pub came_alone : CameBy f 0 (blank v) key request (made_alone z own) m.left.word done
    came_alone = m.left.came 0 (blank v) (made_alone z own) (sym m.from_shape) m.from m.to (subst (λ (s : Shape). Lifts s m.after.seen z.seen key s.bits) (sym m.from_shape) m.lifts)
        (subst (λ (made : List Change). Goes f 0 made (blank v) (made_alone z own)) m.made (goes_alone v z own whole))

    pub settles_alone : Settled f 0 (blank v) key request (made_alone z own) done
    settles_alone = record { loaded = came_alone.whole; more = m.left.more; refusing = λ stops. m.left.refusing (sym (goes_whole _ _ came_alone.is_whole.last_bits request) ∙ stops); came_to = came_alone.came_to }

    pub own_stands : KnowsRound v → All (StandsIn (last_cut (knows z).history)) own
    own_stands k = subst (All (StandsIn (last_cut (knows z).history))) (append-nil own)
        (updated_knowledge f 0 (blank v) key request (made_alone z own) kn_alone low done settles_alone (record { is_history = k.is_history; stands = All-nil (StandsIn (last_cut (knows v).history)) })).stands

    pub own_comes_to : ComesTo request key done (knows (blank v)) (record { history = (knows z).history; accepted = own })
    own_comes_to = subst (λ (made : List Change). ComesTo request key done (knows (blank v)) (record { history = (knows z).history; accepted = made })) (append-nil own) (comes_to f 0 (blank v) key request (made_alone z own) kn_alone low done settles_alone)

    -- what it would tell
    abbrev told_alone : LeafUpdate
    told_alone = record { outcome = done; found = m.left.word; left = word_left request key m.left.word done }

    at_leaf_alone : ChangesLeaf request key told_alone
    at_leaf_alone = record {
      stops = λ stopped. (m.left.refusing stopped).0;
      tries = λ lets. let e = m.left.tried lets in elim (cases_Bool (e.found == m.left.word)) [
        | inl hit ↦ inl (e.says ∙ ap (λ (b : Bool). if b then outcome_by request m.left.word else Refused) hit)
        | inr miss ↦ inr (e.says ∙ ap (λ (b : Bool). if b then outcome_by request m.left.word else Refused) miss)
      ];
      left = refl;
    }

    pub does_alone : DoesAlone request key done own (knows v) (knows z)
    does_alone = record {
      told = told_by told_alone;
      says = refl;
      updates = (
        own_comes_to,
        subst (λ (made : List Change). Tells request key (told_by told_alone) (knows (blank v)) (record { history = (knows z).history; accepted = made })) (append-nil own)
            (tells_by f 0 (blank v) (made_alone z own) key request kn_alone low whole.shaped told_alone at_leaf_alone came_alone),
      );
    }

  -- in a round
  module _ {used : ℕ} {gained : List Change} {v w z : SeatView} {key : ℕ} {request : Request} {done : Outcome} {part : BatchPart} (off : v.shape.reservations ≡ 0) (kn : KnowsBook f v) (low : key < 2 ^ v.shape.bits)
      (left : Goes f 0 gained v w) (up : Goes f used [] w z) (p : LeftPart f v w key request done part) (lifts : Lifts w.shape w.seen z.seen key w.shape.bits) where
    whole : Goes f used gained v z
    whole = goes_after f 0 used used gained [] gained v w z (omega arith) (omega arith) (append-nil gained) left up

    -- what its leaf had reached right after its steps there is shown
    abbrev shown : MadeBetween f key request done part.made v.shape.bits v z
    shown = record {
      before = p.before;
      after = p.after;
      from = p.from;
      from_shape = p.from_shape;
      left = p.left;
      to = book_trans p.to up.later;
      lifts = record {
        lifted = λ n x. (subst (λ (s : Shape). Lifts s w.seen z.seen key s.bits) left.shaped lifts).lifted n
            (newest_later f v.shape p.after.seen w.seen key 0 n low (omega arith) (subst (λ (s : Shape). IsBook f s w.seen) left.shaped left.knows_table.book) p.to x);
      };
      made = p.made;
    }

    kn' : KnowsBook f (blank v)
    kn' = kn_alone kn low whole shown

    came : CameBy f 0 (blank v) key request (made_alone z part.made) p.left.word done
    came = came_alone kn low whole shown

    -- by that very word
    exact : came.whole ≡ p.left.word
    exact = came.is_whole.in_round off

    pub part_stands : KnowsRound v → All (StandsIn (last_cut (knows z).history)) part.made
    part_stands k = own_stands kn low whole shown k

    pub does_part : (table : TableId) (before after : ℕ) → DoesPart request key done part (pass_facts (record { table = table; view = v }) before) (pass_facts (record { table = table; view = z }) after)
    does_part table before after = record {
      comes_to = own_comes_to kn low whole shown;
      found = p.left.word;
      more = p.left.more;
      steps = p.steps;
      refuses = p.left.refusing;
      tries = p.left.tried;
      shows = λ nothing. subst (λ (n : ℕ). in_the_way request n ≤ serial_of (last_cut (knows z).history) key) exact (shown_number f 0 (blank v) key request (made_alone z part.made) kn' low came.whole (stayed_by f 0 (blank v) key request (made_alone z part.made) kn' low came.whole done nothing came.came_to));
      weighed = subst (λ (n : ℕ). WeighsAt z.seen key (serial_in_word n) (weight_in_word n)) exact (weighed_by f 0 (blank v) (made_alone z part.made) key request kn' low done came.whole came.came_to);
      stored = sym (append-nil part.made) ∙ subst (λ (n : ℕ). part.made ++ [] ≡ changes_by request key n done) exact (stored_by f 0 (blank v) (made_alone z part.made) key request kn' low done came.whole came.came_to);
    }

-- what holds of the changes of each part holds of all
all_made : (P : Change → Type 0) (parts : List BatchPart) → ((i : ℕ) → i < length parts → All P (get_or parts i no_part).made) → All P (made_in parts)
all_made P [] each = All-nil P
all_made P (part ∷ parts) each = All-append P part.made (made_in parts) (each 0 (omega arith)) (all_made P parts (λ i low. each (suc i) (omega (arith, low))))

module _ {A B : Type 0} (parts_a : Parts A) (parts_b : Parts B) where
  abbrev f : ℕ → ℕ → List (ℕ × ℕ) → List ℕ
  f = face parts_a parts_b

  -- a batch came to this, from a pass as contracts saw it
  pub record BatchMade (now : PassFacts) (keys : List ℕ) (requests : List Request) (outcomes : List Outcome) (z : Known) (after : Account) : Type 0 where
    pub holds : KeepsAccount f (Some z) after
    pub does : DoesBatch requests keys outcomes now (pass_facts z after.left)
    pub goes_on : (steps : ℕ) × GoesOn (length keys) steps now (pass_facts z after.left)
    pub keeps : Keeps (summary_of parts_a parts_b) now (pass_facts z after.left)

  -- what the updates of a batch want at their leaves
  pub record MayBatch (keys : List ℕ) (a : Account) (k : Known) : Type 0 where
    pub low : All (λ (key : ℕ). key < 2 ^ k.view.shape.bits) keys
    pub is_pass : IsPass f k.view a.leaves a.bits a.next a.left
    pub counts : HasCounts (changes_of k.view.held) a.inserts a.removals
    pub budget : length keys ≤ a.left

  -- and what the ways up want after them
  pub record MayRaise (keys : List ℕ) (a : Account) (w : SeatView) : Type 0 where
    pub leaves : HasLeaves w.shape a.leaves
    pub bits : a.bits ≡ w.shape.bits
    pub low : All (λ (key : ℕ). key < 2 ^ w.shape.bits) keys
    pub knows_table : KnowsBook f w
    pub room : HasRoom w a.next (length keys * a.bits)
    pub small : a.next + length keys * a.bits < 2 ^ 60

  module _ {words : Option Known} {a : Account} {now : PassFacts} {k : Known} (holds : KeepsAccount f words a) (facts : pass_facts (known_in words) a.left ≡ now) (there : words ≡ Some k) where
    told : IsPass f k.view a.leaves a.bits a.next a.left × (pass_facts k a.left ≡ now)
    told = pass_told f words k a.leaves a.bits a.next a.left now holds.pass there facts

    module _ {keys : List ℕ} (low : All (λ (key : ℕ). key < 2 ^ now.round.bits) keys) (budget : now.spent + length keys ≤ now.round.updates) where
      pub may_batch : MayBatch keys a k
      may_batch = record {
        low = subst (λ (z : PassFacts). All (λ (key : ℕ). key < 2 ^ z.round.bits) keys) (sym told.1) low;
        is_pass = told.0;
        counts = subst (λ (z : Option Known). HasCounts (changes_of (known_in z).view.held) a.inserts a.removals) there holds.counts;
        budget = let b = subst (λ (z : PassFacts). z.spent + length keys ≤ z.round.updates) (sym told.1) budget in omega (arith, b);
      }

      module _ {requests : List Request} {outcomes : List Outcome} {w : Known} {after : Account} (left : LeftAll f keys requests outcomes k.view (length keys) w.view) (table : w.table ≡ k.table)
          (account : IsAccountAfter (length keys) a after) (counts : HasCounts (changes_of w.view.held) after.inserts after.removals) where
        p : IsPass f k.view a.leaves a.bits a.next a.left
        p = told.0

        most : length keys * a.bits ≤ a.left * a.bits
        most = mul-le (length keys) a.bits a.left a.bits may_batch.budget (omega arith)

        pub may_raise : MayRaise keys a w.view
        may_raise = let shaped = left.goes.shaped in let room = room_on f (made_in left.parts) k.view w.view a.next (a.left * a.bits) left.goes p.room in let le = most in let small = p.small in record {
          leaves = subst (λ (z : Shape). HasLeaves z a.leaves) (sym shaped) p.leaves_are;
          bits = p.bits_are ∙ ap (λ (z : Shape). z.bits) (sym shaped);
          low = subst (λ (z : Shape). All (λ (key : ℕ). key < 2 ^ z.bits) keys) (sym shaped) may_batch.low;
          knows_table = left.goes.knows_table;
          room = room_within w.view a.next (a.left * a.bits) (length keys * a.bits) le room;
          small = omega (arith, small, le);
        }

        module _ {z : Known} (raised : RaisedAll f keys a.next w.view z.view) (same_table : z.table ≡ w.table) where
          abbrev n : ℕ
          n = length keys

          goes : Goes f (a.next + n * a.bits) (made_in left.parts) k.view z.view
          goes = goes_after f 0 (a.next + n * a.bits) (a.next + n * a.bits) (made_in left.parts) [] (made_in left.parts) k.view w.view z.view (omega arith) (omega arith) (append-nil (made_in left.parts)) left.goes
              (subst (λ (b : ℕ). Goes f (a.next + n * b) [] w.view z.view) (sym may_raise.bits) raised.goes)

          key_low : (i : ℕ) → i < n → get_or keys i 0 < 2 ^ k.view.shape.bits
          key_low i within = may_batch.low i 0 within

          stands : (i : ℕ) → i < length left.parts → All (StandsIn (last_cut (knows z.view).history)) (get_or left.parts i no_part).made
          stands i there = let within : i < n = (let e = left.one_each in omega (arith, there, e)) in part_stands f p.room.keeps_records p.knows_table (key_low i within) left.goes raised.goes (left.each i within) (raised.lifts i within) p.knowledge

          known : KnowsRound z.view
          known = knowledge_on f (a.next + n * a.bits) (made_in left.parts) k.view z.view p.knows_table goes (all_made (StandsIn (last_cut (knows z.view).history)) left.parts stands) p.knowledge

          abbrev rest : List StepTaken
          rest = raised.took.more

          steps : z.view.steps ≡ (k.view.steps ++ steps_in left.parts) ++ rest
          steps = raised.took.steps ∙ ap (λ (s : List StepTaken). s ++ rest) left.steps

          few_steps : length z.view.steps ≤ length k.view.steps + n * most_update_steps k.view.shape.bits
          few_steps = let e = ap (λ (s : List StepTaken). length s) steps ∙ length-append (k.view.steps ++ steps_in left.parts) rest in let e' = length-append k.view.steps (steps_in left.parts) in
              let count = raised.took.count in let few = raised.few_steps in let two = left.few_steps in let same : w.view.shape.bits ≡ k.view.shape.bits = ap (λ (z : Shape). z.bits) left.goes.shaped in
              let some = p.knows_table.laid_out.bits.0 in
              let each : most_rise_steps k.view.shape.bits + 2 ≡ most_update_steps k.view.shape.bits = omega (arith, some) in
              let all : n * most_update_steps k.view.shape.bits ≡ n * most_rise_steps k.view.shape.bits + n * 2 = ap (λ (z : ℕ). n * z) (sym each) ∙ mul-add n (most_rise_steps k.view.shape.bits) 2 in
              let rise : n * most_rise_steps w.view.shape.bits ≡ n * most_rise_steps k.view.shape.bits = ap (λ (z : ℕ). n * most_rise_steps z) same in omega (arith, e, e', count, few, two, all, rise)

          few_rises : length rest ≤ most_rises k.view.shape.bits keys
          few_rises = subst (λ (z : Shape). length rest ≤ most_rises z.bits keys) left.goes.shaped (let count = raised.took.count in let few = raised.few_rises in omega (arith, count, few))

          does : DoesBatch requests keys outcomes (pass_facts k a.left) (pass_facts (record { table = k.table; view = z.view }) (a.left - n))
          does = record {
            parts = left.parts;
            one_each = left.one_each;
            each = λ i within. does_part f p.room.keeps_records p.knows_table (key_low i within) left.goes raised.goes (left.each i within) (raised.lifts i within) k.table a.left (a.left - n);
            accepted = goes.changes;
            rest = rest;
            steps = steps;
            no_other = raised.took.no_try;
            few_rises = few_rises;
            few_steps = few_steps;
          }

          goes_on : (steps : ℕ) × GoesOn n steps (pass_facts k a.left) (pass_facts (record { table = k.table; view = z.view }) (a.left - n))
          goes_on = (
            length (steps_in left.parts ++ rest),
            updates_on f k.view z.view a.leaves a.bits a.next a.left n (a.next + n * a.bits) (made_in left.parts) (steps_in left.parts ++ rest) k.table p may_batch.budget goes
                (steps ∙ append_assoc k.view.steps (steps_in left.parts) rest) known,
          )

          same_changes : changes_of z.view.held ≡ changes_of w.view.held
          same_changes = raised.goes.changes ∙ append-nil (changes_of w.view.held)

          pub batch_made : BatchMade now keys requests outcomes z after
          batch_made = let k' : Known = record { table = k.table; view = z.view } in let pass = pass_on f k.view z.view a.leaves a.bits a.next a.left n (made_in left.parts) p may_batch.budget left.few_made goes known in
              subst (λ (x : PassFacts × TableId). BatchMade x.0 keys requests outcomes (record { table = x.1; view = z.view }) after) (λ j. (told.1 j, sym (same_table ∙ table) j))
              (subst (λ (x : Account). BatchMade (pass_facts k a.left) keys requests outcomes k' x) (sym account) record {
                holds = record { pass = record { known = k'; there = refl; is_pass = pass }; counts = subst (λ (x : List Change). HasCounts x after.inserts after.removals) (sym same_changes) counts };
                does = does;
                goes_on = goes_on;
                keeps = keeps_on parts_a parts_b k k' a.left (a.left - n) p.room.keeps_records p.knows_table goes.knows_table goes.shaped goes.later;
              })
