-- What a note and a pass or a crew that learns it come to, each as one record, from what their words' calls say.
use Rattle.std.proofs.Common.{Bool, ◌≡◌, Option, Some, ℕ, ◌-◌, ◌*◌, ◌%◌, ◌^◌, ◌<◌, ◌≤◌, List, [], ◌∷◌, ◌++◌, append_assoc, length, All, sym, refl, ap, ◌∙◌, subst, ⊎_elim, arith}
use Rattle.std.proofs.lemmas.Bool.{cases_eq}
use Rattle.std.proofs.lemmas.List.{map-append}
use Rattle.std.specs.Prelude.{unwrap_or}
use Rattle.atomic_table.specs.Seated.{TableId}
use Rattle.aug_monoid.specs.Parts.{Parts}
use Rattle.aug_core.specs.Counts.{changes_of}
use Rattle.aug_core.specs.Faces.{face}
use Rattle.aug_core.specs.Prefixes.{IsPrefix}
use Rattle.aug_core.specs.declared.view.PastEra.{PastEra}
use Rattle.aug_core.specs.Learning.{learning}
use Rattle.aug_core.specs.Effects.{LoadsNode, noted, KnowsBook}
use Rattle.aug_core.specs.declared.view.SeatView.{SeatView}
use Rattle.aug_core.proofs.Fits.{book_shown, book_as}
use Rattle.aug_words.specs.Notes.{LearnsNote}
use Rattle.aug_words.specs.Seats.{Known}
use Rattle.aug_trie.specs.Crew.{CrewFacts, CrewLearns}
use Rattle.aug_trie.specs.History.{last_cut}
use Rattle.aug_trie.specs.Knowledge.{StandsIn, inserts_of, removals_of}
use Rattle.aug_trie.specs.Chains.{Chapter, Chain, chain, chapters, BeginsWith, IsPart}
use Rattle.aug_trie.specs.Note.{NoteFacts}
use Rattle.aug_trie.specs.Pass.{PassFacts, chain_of}
use Rattle.aug_trie.specs.Passes.{HasLearnt}
use Rattle.aug_trie.specs.Reader.{TakesUp}
use Rattle.aug_trie.specs.inside.Counted.{HasCounts}
use Rattle.aug_trie.specs.inside.CrewState.{crew_facts, HoldsCrew}
use Rattle.aug_trie.specs.inside.Knows.{knows, root_history, KnowsRound}
use Rattle.aug_trie.specs.inside.NoteState.{note_facts}
use Rattle.aug_trie.specs.inside.PassState.{pass_facts, known_in, IsPass, KeepsAccount}
use Rattle.aug_trie.specs.inside.ReaderState.{HoldsReader}
use Rattle.aug_trie.specs.inside.RoundState.{round_of, past_rounds}
use Rattle.aug_trie.specs.declared.rounds.account.Account.{Account}
use Rattle.aug_trie.proofs.Accepting.{knows_on, stands_on}
use Rattle.aug_trie.proofs.Keeping.{weighs_later}
use Rattle.aug_trie.proofs.Chaining.{begins_alike, either_part}
use Rattle.aug_trie.proofs.Histories.{is_history}
use Rattle.aug_trie.proofs.Lending.{reader_told}
use Rattle.aug_trie.proofs.PassCalls.{SnapshotTaken, snapshot_taken}
use Rattle.aug_trie.proofs.Passing.{pass_told}
use Rattle.aug_trie.proofs.Snapshots.{root_node}
use Rattle.aug_trie.proofs.Trees.{keeps_on}
use Rattle.aug_trie.proofs.Going.{room_same}

-- what a view knows of the rounds of its table
abbrev pub view_chain : SeatView → Chain
view_chain v = chain (past_rounds v.shape v.past) v.members (knows v).history

module _ (f : ℕ → ℕ → List (ℕ × ℕ) → List ℕ) where
  -- a note knows its table as its maker does
  pub noted_table : (v : SeatView) → KnowsBook f v → KnowsBook f (noted v)
  noted_table v kn = book_as f v refl refl refl kn

  -- a view that took a note in, before it loads the root
  learning_table : (v n : SeatView) → KnowsBook f v → KnowsBook f (learning v n)
  learning_table v n kn = book_as f v refl refl refl kn

  -- is a pass, if it was one
  learning_pass : (v n : SeatView) (leaves bits next left : ℕ) → IsPass f v leaves bits next left → IsPass f (learning v n) leaves bits next left
  learning_pass v n leaves bits next left p = record {
    leaves_are = record { are = p.leaves_are.are; few = p.leaves_are.few };
    bits_are = p.bits_are;
    knows_table = learning_table v n p.knows_table;
    room = room_same v (learning v n) next (left * bits) refl refl p.room;
    budget = p.budget;
    small = p.small;
    knowledge = record { is_history = p.knowledge.is_history; stands = p.knowledge.stands };
  }

  module _ (v n w : SeatView) (found : ℕ) (kv : KnowsBook f v) (kn : KnowsBook f n) (l : LearnsNote f v n found w) where
    same_shape : w.shape ≡ v.shape
    same_shape = ap (λ (z : SeatView). z.shape) l.loaded.stepped

    pub learnt_table : KnowsBook f w
    learnt_table = book_shown f (learning v n) w (learning_table v n kv) l.loaded.sees same_shape (ap (λ (z : SeatView). z.members) l.loaded.stepped)

    same_changes : changes_of w.held ≡ changes_of v.held
    same_changes = ap (λ (z : SeatView). changes_of z.held) l.loaded.stepped

    -- the rounds before are those that were
    same_past : past_rounds w.shape w.past ≡ past_rounds v.shape v.past
    same_past = ap (λ (z : SeatView). past_rounds z.shape z.past) l.loaded.stepped

    grows : IsPrefix (knows v).history (knows w).history
    grows = knows_on f v w kv same_shape l.loaded.sees.later

    pub own_part : IsPart (view_chain v) (view_chain w)
    own_part = subst (λ (z : List Chapter). BeginsWith (past_rounds v.shape v.past) (view_chain v).now (z ++ (view_chain w).now ∷ [])) (sym same_past)
        (begins_alike (past_rounds v.shape v.past) (view_chain v).now (view_chain w).now [] record { members = ap (λ (z : SeatView). z.members) l.loaded.stepped; goes_on = grows })

    -- a note of this era
    now_part : n.era ≡ v.era → IsPart (view_chain n) (view_chain w)
    now_part e = let told = l.told.agrees e in let both = l.of_both e in
        let past : past_rounds n.shape n.past ≡ past_rounds w.shape w.past = (λ i. past_rounds (l.told.one_shape i) (told.0 i)) ∙ sym same_past in
        subst (λ (z : List Chapter). BeginsWith (past_rounds n.shape n.past) (view_chain n).now (z ++ (view_chain w).now ∷ [])) past
        (begins_alike (past_rounds n.shape n.past) (view_chain n).now (view_chain w).now [] record {
          members = ap (λ (z : SeatView). z.members) l.loaded.stepped ∙ sym told.1;
          goes_on = knows_on f n w kn (same_shape ∙ sym l.told.one_shape) both.from_second;
        })

    -- and one of an era that is over
    past_part : n.era < v.era → IsPart (view_chain n) (view_chain w)
    past_part less = let e = l.told.earlier less in let over : PastEra = record { members = n.members; book = e.book } in
        let round : Chapter = record { members = n.members; history = root_history n.shape e.book } in
        let history : IsPrefix (knows n).history round.history = knows_on f n record n { seen = e.book } kn refl e.saw in
        let all : past_rounds w.shape w.past ≡ past_rounds n.shape n.past ++ round ∷ past_rounds n.shape e.later =
        same_past ∙ (λ i. past_rounds (sym l.told.one_shape i) (e.goes_on i)) ∙ map-append (λ (z : PastEra). record { members = z.members; history = root_history n.shape z.book }) n.past (over ∷ e.later) in
        let more : List Chapter = past_rounds n.shape e.later ++ (view_chain w).now ∷ [] in
        let whole : chapters (view_chain w) ≡ past_rounds n.shape n.past ++ round ∷ more = ap (λ (z : List Chapter). z ++ (view_chain w).now ∷ []) all ∙ append_assoc (past_rounds n.shape n.past) (round ∷ past_rounds n.shape e.later) ((view_chain w).now ∷ []) in
        subst (BeginsWith (past_rounds n.shape n.past) (view_chain n).now) (sym whole) (begins_alike (past_rounds n.shape n.past) (view_chain n).now round more record { members = refl; goes_on = history })

    note_part : IsPart (view_chain n) (view_chain w)
    note_part = ⊎_elim now_part (λ ne. past_part (let le = l.told.not_later in omega (arith, ne))) (cases_eq n.era v.era)

    -- it knows what both knew
    pub learns_both : (table : TableId) → HasLearnt v.era (view_chain v) (knows v) (note_facts record { table = table; view = n }) (view_chain w) (knows w)
    learns_both table = record {
      one_piece = either_part (view_chain v) (view_chain n) (view_chain w) own_part note_part;
      goes_on = grows;
      takes_up = note_part;
      not_later = l.told.not_later;
      of_era = λ e. knows_on f n w kn (same_shape ∙ sym l.told.one_shape) (l.of_both e).from_second;
      same_changes = same_changes;
    }

    -- and that is knowledge
    pub learnt_knowledge : KnowsRound v → KnowsRound w
    learnt_knowledge k = record {
      is_history = is_history f w learnt_table;
      stands = subst (All (StandsIn (last_cut (knows w).history))) (sym same_changes) (stands_on f v w (changes_of v.held) kv learnt_table same_shape l.loaded.sees.later k.stands);
    }

-- what a pass's note says
abbrev pub of_pass : PassFacts → NoteFacts
of_pass p = record { round = p.round; past = p.past; history = p.knows.history }

-- ---- passes

module _ {A B : Type 0} (parts_a : Parts A) (parts_b : Parts B) (words : Option Known) (a : Account) (now : PassFacts) (k : Known) (holds : KeepsAccount (face parts_a parts_b) words a) (facts : pass_facts (known_in words) a.left ≡ now) (there : words ≡ Some k) where
  abbrev f : ℕ → ℕ → List (ℕ × ℕ) → List ℕ
  f = face parts_a parts_b

  told : IsPass f k.view a.leaves a.bits a.next a.left × (pass_facts k a.left ≡ now)
  told = pass_told f words k a.leaves a.bits a.next a.left now holds.pass there facts

  -- a note was made, and the pass is what it was
  pub record NoteMade (note w : Known) : Type 0 where
    pub still : KeepsAccount (face parts_a parts_b) (Some w) a
    pub same : pass_facts w a.left ≡ now
    pub knows_table : KnowsBook f note.view
    pub note_is : note_facts note ≡ record { round = now.round; past = now.past; history = now.knows.history }

  pub note_made : (note w : Known) → w ≡ k → note.table ≡ k.table → note.view ≡ noted k.view → NoteMade note w
  note_made note w same table is = record {
    still = subst (λ (z : Option Known). KeepsAccount (face parts_a parts_b) z a) (there ∙ ap (λ (z : Known). Some z) (sym same)) holds;
    same = ap (λ (z : Known). pass_facts z a.left) same ∙ told.1;
    knows_table = subst (KnowsBook f) (sym is) (noted_table f k.view told.0.knows_table);
    note_is = (λ i. note_facts (record { table = table i; view = is i })) ∙ ap of_pass told.1;
  }

  -- a note of the pass's table sits at it
  pub note_here : (n : Known) (note : NoteFacts) → note_facts n ≡ note → note.round.table ≡ now.round.table → n.table ≡ k.table
  note_here n note note_is one_table = ap (λ (z : NoteFacts). z.round.table) note_is ∙ one_table ∙ ap (λ (z : PassFacts). z.round.table) (sym told.1)

  -- a note was learnt, and a snapshot was taken
  pub record NoteLearnt (note : NoteFacts) (number : ℕ) (w : Known) : Type 0 where
    pub learns : HasLearnt now.round.era (chain_of now) now.knows note (view_chain w.view) (knows w.view)
    pub taken : SnapshotTaken parts_a parts_b now a (record { number = number }) w

  pub note_learnt : (n w : Known) (note : NoteFacts) (number : ℕ) → note_facts n ≡ note → KnowsBook f n.view → LearnsNote f k.view n.view number w.view → w.table ≡ k.table → NoteLearnt note number w
  note_learnt n w note number note_is kn l table =
      let p = told.0 in let v : SeatView = k.view in
      let mid : Known = record { table = k.table; view = learning v n.view } in
      let root = root_node f v a.leaves p.leaves_are p.knows_table in
      let loads : LoadsNode f (learning v n.view) (2 * a.leaves - 2) number w.view = subst (λ (z : ℕ). LoadsNode f (learning v n.view) z number w.view) root.1 l.loaded in
      let held : KeepsAccount (face parts_a parts_b) (Some k) a = subst (λ (z : Option Known). KeepsAccount (face parts_a parts_b) z a) there holds in
      let counts : HasCounts (changes_of v.held) a.inserts a.removals = held.counts in
      let still : KeepsAccount (face parts_a parts_b) (Some mid) a = record { pass = record { known = mid; there = refl; is_pass = learning_pass f v n.view a.leaves a.bits a.next a.left p }; counts = counts } in
      let both : HasLearnt v.era (view_chain v) (knows v) (note_facts n) (view_chain w.view) (knows w.view) = learns_both f v n.view w.view number p.knows_table kn l n.table in record {
        learns = subst (λ (z : PassFacts × NoteFacts). HasLearnt z.0.round.era (chain_of z.0) z.0.knows z.1 (view_chain w.view) (knows w.view)) (λ j. (told.1 j, note_is j)) both;
        taken = snapshot_taken parts_a parts_b (Some mid) a now mid still told.1 refl number w loads table;
      }

  -- a reader was followed, and a snapshot was taken
  pub record Followed (reader : PassFacts) (number : ℕ) (w : Known) : Type 0 where
    pub takes_up : TakesUp reader (pass_facts w a.left)
    pub learns : IsPart (chain_of reader) (view_chain w.view)
    pub taken : SnapshotTaken parts_a parts_b now a (record { number = number }) w

  pub followed : (words' : Option Known) (bits : ℕ) (reader : PassFacts) (r w : Known) (number : ℕ) → HoldsReader f words' bits → words' ≡ Some r → pass_facts (known_in words') 0 ≡ reader → LearnsNote f k.view (noted r.view) number w.view → w.table ≡ k.table → Followed reader number w
  followed words' bits reader r w number holds' there' facts' l table =
      let of_reader = reader_told f words' r bits reader holds' there' facts' in let v : SeatView = k.view in
      let n : Known = record { table = r.table; view = noted r.view } in let kn = noted_table f r.view of_reader.1.knows_table in
      let learnt = note_learnt n w (note_facts n) number refl kn l table in
      let knows_table : KnowsBook f w.view = learnt_table f v n.view w.view number told.0.knows_table kn l in
      let shaped : w.view.shape ≡ r.view.shape = same_shape f v n.view w.view number told.0.knows_table kn l ∙ sym l.told.one_shape in record {
        takes_up = subst (λ (z : PassFacts). TakesUp z (pass_facts w a.left)) of_reader.2 (λ one_era s has.
            let both = l.of_both (one_era ∙ ap (λ (z : SeatView). z.era) l.loaded.stepped) in
            let keeps = keeps_on parts_a parts_b r w 0 a.left of_reader.1.keeps_records of_reader.1.knows_table knows_table shaped both.from_second in (keeps.snapshots s has, keeps.same_sets s has));
        learns = subst (λ (z : PassFacts). IsPart (chain_of z) (view_chain w.view)) of_reader.2 learnt.learns.takes_up;
        taken = learnt.taken;
      }

-- ---- crews

module _ (f : ℕ → ℕ → List (ℕ × ℕ) → List ℕ) where
  module _ (old n w : Known) (now : CrewFacts) (note : NoteFacts) {free : Bool} (found back inserts removals : ℕ) (c : HoldsCrew f old.view back inserts removals) (facts : crew_facts old free ≡ now) (note_is : note_facts n ≡ note) (kn : KnowsBook f n.view) (l : LearnsNote f old.view n.view found w.view) where
    abbrev v : SeatView
    v = old.view

    -- a crew that learnt a note is one still
    pub crew_learnt : HoldsCrew f w.view back inserts removals
    crew_learnt = record {
      handed = c.handed;
      is_crew = record {
        keeps_records = ap (λ (z : SeatView). z.shape.reservations) l.loaded.stepped ∙ c.is_crew.keeps_records;
        knows_table = learnt_table f v n.view w.view found c.is_crew.knows_table kn l;
        hands_out = ap (λ (z : SeatView). z.spare) l.loaded.stepped ∙ c.is_crew.hands_out;
        took_back = refl;
        knowledge = learnt_knowledge f v n.view w.view found c.is_crew.knows_table kn l c.is_crew.knowledge;
      };
      few = subst (λ (z : SeatView). c.handed ≤ z.shape.workers) (sym l.loaded.stepped) c.few;
      back_is = subst (λ (z : SeatView). back ≡ length z.held % 2 ^ 32) (sym l.loaded.stepped) c.back_is;
      inserts_are = subst (λ (z : SeatView). inserts ≡ inserts_of (changes_of z.held) % 2 ^ 32) (sym l.loaded.stepped) c.inserts_are;
      removals_are = subst (λ (z : SeatView). removals ≡ removals_of (changes_of z.held) % 2 ^ 32) (sym l.loaded.stepped) c.removals_are;
    }

    -- what contracts see of it
    pub crew_learns : w.table ≡ old.table → CrewLearns now (crew_facts w free) note
    crew_learns table = let both : HasLearnt v.era (view_chain v) (knows v) (note_facts n) (view_chain w.view) (knows w.view) = learns_both f v n.view w.view found c.is_crew.knows_table kn l n.table in
        let known = learnt_knowledge f v n.view w.view found c.is_crew.knows_table kn l c.is_crew.knowledge in
        subst (λ (z : CrewFacts × NoteFacts). CrewLearns z.0 (crew_facts w free) z.1) (λ j. (facts j, note_is j)) record {
          learns = both;
          crew_is = let after : CrewFacts = crew_facts w free in
              λ i. record after { round = round_of (table i) (l.loaded.stepped i); past = past_rounds (l.loaded.stepped i).shape (l.loaded.stepped i).past; handed = unwrap_or (l.loaded.stepped i).spare 0; back = length (l.loaded.stepped i).held };
          weights = λ key serial weight. weighs_later v.seen w.view.seen key serial weight l.loaded.sees.later;
          knowledge = record { is_history = known.is_history; stands = known.stands };
          loads = (found, ap (λ (z : SeatView). z.steps) l.loaded.stepped);
        }
