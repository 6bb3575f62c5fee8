-- The counts of rounds, one round after another; and what is known of a trie, as it goes on.
use Rattle.std.specs.Prelude.{Result, Ok, Err, IfOk, flat_map}
use Rattle.std.specs.List.{sum_by}
use Rattle.std.proofs.Common.{Bool, true, ◌≡◌, ◌⊎◌, ℕ, ◌+◌, ◌^◌, ◌<◌, ◌≤◌, List, [], ◌∷◌, ◌++◌, length, length-append, All, false, sym, refl, ap, ◌∙◌, subst, arith}
use Rattle.std.proofs.lemmas.List.{append-nil}
use Rattle.aug_core.specs.Cuts.{opening_cut}
use Rattle.aug_core.specs.Prefixes.{IsPrefix}
use Rattle.aug_core.proofs.PrefixLemmas.{prefix_trans}
use Rattle.aug_core.specs.declared.view.Change.{Change}
use Rattle.aug_model.specs.Keys.{SetFacts}
use Rattle.aug_trie.specs.Chains.{Chapter, Chain, BeginsWith, IsPart, chapters}
use Rattle.aug_trie.specs.Crew.{CrewFacts, Ends, RollsOver, crew_chain}
use Rattle.aug_trie.specs.Ended.{EndedFacts}
use Rattle.aug_trie.specs.History.{IsHistory, last_cut}
use Rattle.aug_trie.specs.Knowledge.{inserts_of, removals_of}
use Rattle.aug_trie.specs.Round.{TableFacts, RoundFacts, table_of}
use Rattle.aug_trie.specs.Tallies.{Tallies, Weighs}
use Rattle.aug_trie.proofs.Chaining.{begins_alike, begins_longer, part_trans}
use Rattle.aug_live.specs.Carrying.{Leads}
use Rattle.aug_live.specs.Ledgers.{Made, made_in}
use Rattle.aug_live.specs.LiveErrors.{IsExhausted}
use Rattle.aug_live.specs.LiveTries.{TrieFacts, KeepsHandles, KnowsMore, AreChangesOf, AreCountsOf, AreMadeIn, CameBack, Closes, LaneKnown, LanesGoOn, in_all, lost_of, made_through}
use Rattle.aug_live.specs.inside.SameChanges.{SameChanges}
use Rattle.aug_live.proofs.Ledgers.{changes_by, inserts_by, removals_by}
use Rattle.aug_live.proofs.Lanes.{known_before, lanes_trans}
use Rattle.aug_live.specs.declared.counts.LiveCounts.{LiveCounts}
use Rattle.aug_live.specs.inside.Rolls.{rounds_in}
use Rattle.aug_live.proofs.Carries.{leads_on}
use Rattle.aug_live.proofs.Moving.{next_past}

-- whoever knew less can say the same of how a trie was closed, and of a handle that came back
pub closes_from : (a b : TrieFacts) (set : SetFacts) (counts : LiveCounts) → KeepsHandles a b → Closes b set counts → Closes a set counts
closes_from a b set counts k c = let m = k.more in record {
  rounds = c.rounds;
  part = part_trans a.rounds b.rounds c.rounds m.part c.part;
  bits = c.bits ∙ m.bits;
  led = subst (λ (n : ℕ). Leads n (chapters c.rounds) set.pairs) m.bits c.led;
  rounds_are = c.rounds_are;
  lanes = c.lanes;
  lanes_go_on = lanes_trans a.lanes b.lanes c.lanes m.lanes c.lanes_go_on;
  counted = subst (λ (n : ℕ). AreCountsOf n (chapters c.rounds) (flat_map (λ (lane : LaneKnown). made_through lane.done) c.lanes) counts.inserts counts.removals) m.bits c.counted;
  given_are = c.given_are ∙ k.given;
  handles_are = c.handles_are;
  missing_are = c.missing_are;
}

pub came_from : (a b c : TrieFacts) (made : List Made) → KnowsMore a b → CameBack made b c → CameBack made a c
came_from a b c made m t = let was = known_before a.lanes b.lanes m.lanes t.number t.lane t.was in
    record { number = t.number; lane = was.0; later = t.later; was = was.1; is = t.is; before = t.before; goes_on = prefix_trans was.0.done t.lane.done t.before was.2.done t.goes_on; done = t.done }

-- what a crew knows of its rounds, where it learned more of the last one
pub crew_part : (a b : CrewFacts) → rounds_in b ≡ rounds_in a → IsPrefix a.knows.history b.knows.history → IsPart (crew_chain a) (crew_chain b)
crew_part a b same more = subst (λ (z : List Chapter). BeginsWith a.past (crew_chain a).now (z ++ (crew_chain b).now ∷ [])) (sym (ap (λ (z : RoundFacts × List Chapter). z.1) same))
    (begins_alike a.past (crew_chain a).now (crew_chain b).now [] record { members = ap (λ (z : RoundFacts × List Chapter). z.0.members) same; goes_on = more })

-- one more round, with all that was made in it
all_more : (bits era : ℕ) (xs : List Chapter) (x : Chapter) (made : List Made) → AreMadeIn bits era xs made → AreChangesOf bits x (made_in (era + length xs) made) → AreMadeIn bits era (xs ++ x ∷ []) made
all_more bits era [] x made all this = (subst (λ (n : ℕ). AreChangesOf bits x (made_in n made)) (omega arith) this, tt)
all_more bits era (y ∷ ys) x made all this = (all.0, all_more bits (era + 1) ys x made all.1 (subst (λ (n : ℕ). AreChangesOf bits x (made_in n made)) (omega arith) this))

in_more : (count : List Change → ℕ) (era : ℕ) (xs : List Chapter) (x : Chapter) (made : List Made) → in_all count era (xs ++ x ∷ []) made ≡ in_all count era xs made + count (made_in (era + length xs) made)
in_more count era [] x made = let e : era + 0 ≡ era = omega arith in let f = ap (λ n. count (made_in n made)) e in omega (arith, f)
in_more count era (y ∷ ys) x made = let e = in_more count (era + 1) ys x made in let f : era + 1 + length ys ≡ era + length (y ∷ ys) = omega arith in let g = ap (λ n. count (made_in n made)) f in omega (arith, e, g)

pub counts_more : (bits : ℕ) (xs : List Chapter) (x : Chapter) (made : List Made) (inserts removals inserts' removals' : ℕ) → AreCountsOf bits xs made inserts removals → AreChangesOf bits x (made_in (length xs + 1) made)
    → inserts' ≡ inserts + inserts_of (made_in (length xs + 1) made) → removals' ≡ removals + removals_of (made_in (length xs + 1) made) → AreCountsOf bits (xs ++ x ∷ []) made inserts' removals'
counts_more bits xs x made inserts removals inserts' removals' a this put took =
    let here : length xs + 1 ≡ 1 + length xs = omega arith in let of = λ (count : List Change → ℕ). ap (λ n. count (made_in n made)) here in record {
      all = all_more bits 1 xs x made a.all (subst (λ (n : ℕ). AreChangesOf bits x (made_in n made)) here this);
      inserts_are = let e = in_more inserts_of 1 xs x made in let f = of inserts_of in let g = a.inserts_are in omega (arith, e, f, g, put);
      removals_are = let e = in_more removals_of 1 xs x made in let f = of removals_of in let g = a.removals_are in omega (arith, e, f, g, took);
    }

-- the same where something else is said to be made, which is the same in each of these rounds
all_same : (bits era : ℕ) (xs : List Chapter) (made made' : List Made) → ((e : ℕ) → era ≤ e → e < era + length xs → made_in e made' ≡ made_in e made) → AreMadeIn bits era xs made → AreMadeIn bits era xs made'
all_same bits era [] made made' same all = tt
all_same bits era (x ∷ xs) made made' same all = (subst (AreChangesOf bits x) (sym (same era (omega arith) (omega arith))) all.0, all_same bits (era + 1) xs made made' (λ e low high. same e (omega arith) (omega arith)) all.1)

in_same : (count : List Change → ℕ) (era : ℕ) (xs : List Chapter) (made made' : List Made) → ((e : ℕ) → era ≤ e → e < era + length xs → made_in e made' ≡ made_in e made) → in_all count era xs made' ≡ in_all count era xs made
in_same count era [] made made' same = refl
in_same count era (x ∷ xs) made made' same = let e = ap count (same era (omega arith) (omega arith)) in let f = in_same count (era + 1) xs made made' (λ e low high. same e (omega arith) (omega arith)) in omega (arith, e, f)

pub counts_same : (bits : ℕ) (xs : List Chapter) (made made' : List Made) (inserts removals : ℕ) → ((e : ℕ) → e ≤ length xs → made_in e made' ≡ made_in e made) → AreCountsOf bits xs made inserts removals → AreCountsOf bits xs made' inserts removals
counts_same bits xs made made' inserts removals same a = let on = λ (e : ℕ) (low : 1 ≤ e) (high : e < 1 + length xs). same e (omega arith) in record {
  all = all_same bits 1 xs made made' on a.all;
  inserts_are = a.inserts_are ∙ sym (in_same inserts_of 1 xs made made' on);
  removals_are = a.removals_are ∙ sym (in_same removals_of 1 xs made made' on);
}

-- a round that all passes came back to: the changes that its crew knows are all that happened
pub none_left : {X : Type 0} (xs : List X) → length xs ≡ 0 → xs ≡ []
none_left [] e = refl
none_left (x ∷ xs) e = absurd (omega (arith, e))

pub all_of_round : (crew : CrewFacts) (ended : EndedFacts) → Ends crew ended → ended.missing ≡ 0 → AreChangesOf crew.round.bits (crew_chain crew).now crew.knows.accepted
all_of_round crew ended ends none = let t = ends.tallies.all in
    let same : crew.knows.accepted ++ flat_map (λ list. list) t.lists ≡ crew.knows.accepted =
    ap (λ (z : List (List Change)). crew.knows.accepted ++ flat_map (λ list. list) z) (none_left t.lists (t.one_each ∙ none)) ∙ append-nil crew.knows.accepted in record {
      tally = subst (Tallies (opening_cut crew.round.bits crew.round.members) (last_cut crew.knows.history)) same t.together;
      weigh = subst (λ (z : List Change). All (Weighs (opening_cut crew.round.bits crew.round.members) z) crew.knows.history) same t.weigh;
    }

-- a trie on the desk goes on
pub desk_on : (t : TrieFacts) {h h' n n' : ℕ} (table : TableFacts) (crew crew' : CrewFacts) (xs ys : List LaneKnown) → record { closed = false; table = table.table; bits = table.bits; lanes = xs; held = h; given = n; rounds = crew_chain crew } ≡ t
    → LanesGoOn xs ys → IsPart (crew_chain crew) (crew_chain crew') → KnowsMore t (record { closed = false; table = table.table; bits = table.bits; lanes = ys; held = h'; given = n'; rounds = crew_chain crew' })
desk_on t {h} {h'} {n} {n'} table crew crew' xs ys is lanes part = subst (λ (z : TrieFacts). KnowsMore z (record { closed = false; table = table.table; bits = table.bits; lanes = ys; held = h'; given = n'; rounds = crew_chain crew' })) is
    (record { closed = λ c. c; table = refl; bits = refl; lanes = lanes; part = part })

pub desk_keeps : (t : TrieFacts) {h h' n : ℕ} (table : TableFacts) (crew crew' : CrewFacts) (xs ys : List LaneKnown) → record { closed = false; table = table.table; bits = table.bits; lanes = xs; held = h; given = n; rounds = crew_chain crew } ≡ t
    → LanesGoOn xs ys → IsPart (crew_chain crew) (crew_chain crew') → KeepsHandles t (record { closed = false; table = table.table; bits = table.bits; lanes = ys; held = h'; given = n; rounds = crew_chain crew' })
desk_keeps t table crew crew' xs ys is lanes part = record { more = desk_on t table crew crew' xs ys is lanes part; given = ap (λ (z : TrieFacts). z.given) is }

-- all that a crew knew of its rounds is known to that of the next round
pub rolled_part : (crew first : CrewFacts) (inserts removals : ℕ) → RollsOver crew first inserts removals → IsPart (crew_chain crew) (crew_chain first)
rolled_part crew first inserts removals r = let over : Chapter = (crew_chain r.last).now in
    begins_longer crew.past (crew_chain crew).now first.past ((crew_chain first).now ∷ [])
    (subst (BeginsWith crew.past (crew_chain crew).now) (sym (next_past 0 (table_of crew.round) crew first inserts removals r refl))
    (begins_alike crew.past (crew_chain crew).now over [] record { members = ap (λ (z : CrewFacts). z.round.members) r.last_is; goes_on = r.goes_on }))

-- how the desk is closed, whose round ended with all passes back
pub closed_so : (t : TrieFacts) {h n : ℕ} (set : SetFacts) (counts new : LiveCounts) (table : TableFacts) (crew last : CrewFacts) (ended : EndedFacts) (xs ys : List LaneKnown) → record { closed = false; table = table.table; bits = table.bits; lanes = xs; held = h; given = n; rounds = crew_chain crew } ≡ t
    → table_of crew.round ≡ table → counts.rounds ≡ length crew.past + 1 → AreCountsOf table.bits crew.past (flat_map (λ (lane : LaneKnown). made_through lane.done) ys) counts.inserts counts.removals → Leads table.bits crew.past crew.round.members
    → SameChanges last.knows.accepted (made_in (length crew.past + 1) (flat_map (λ (lane : LaneKnown). made_through lane.done) ys)) → LanesGoOn xs ys
    → rounds_in last ≡ rounds_in crew → IsPrefix crew.knows.history last.knows.history → Ends last ended → ended.missing ≡ 0 → set ≡ record { bits = ended.bits; pairs = ended.members }
    → new.rounds ≡ counts.rounds → new.inserts ≡ counts.inserts + ended.inserts → new.removals ≡ counts.removals + ended.removals
    → new.handles ≡ n → new.handles ≡ sum_by (λ (lane : LaneKnown). length lane.done) ys → new.missing ≡ sum_by (λ (lane : LaneKnown). length (lost_of lane.done)) ys → Closes t set new
closed_so t {h} {n} set counts new table crew last ended xs ys is here rounds_are counted led now lanes same more ends none set_is rounds inserts removals given handles missing =
    let made : List Made = flat_map (λ (lane : LaneKnown). made_through lane.done) ys in
    let past : last.past ≡ crew.past = ap (λ (z : RoundFacts × List Chapter). z.1) same in
    let there : last.round ≡ crew.round = ap (λ (z : RoundFacts × List Chapter). z.0) same in
    let bits : last.round.bits ≡ table.bits = ap (λ (z : RoundFacts). z.bits) there ∙ ap (λ (z : TableFacts). z.bits) here in
    let over : Chapter = (crew_chain last).now in
    let all : AreChangesOf table.bits over (made_in (length crew.past + 1) made) = changes_by table.bits over last.knows.accepted (made_in (length crew.past + 1) made) now (subst (λ (z : ℕ). AreChangesOf z over last.knows.accepted) bits (all_of_round last ended ends none)) in
    let sum = counts_more table.bits crew.past over made counts.inserts counts.removals new.inserts new.removals counted all
    (inserts ∙ ap (λ n. counts.inserts + n) (ends.inserts ∙ inserts_by _ _ now)) (removals ∙ ap (λ n. counts.removals + n) (ends.removals ∙ removals_by _ _ now)) in
    let history : IsHistory table.bits over.members over.history = subst (λ (z : ℕ). IsHistory z over.members over.history) bits ends.is_history in
    let members : over.members ≡ crew.round.members = ap (λ (z : RoundFacts). z.members) there in
    let on : Leads table.bits (crew.past ++ over ∷ []) ended.members = leads_on table.bits crew.past over ended.members (subst (Leads table.bits crew.past) (sym members) led) history ends.members in
    let chapters_are : crew.past ++ over ∷ [] ≡ chapters (crew_chain last) = ap (λ (z : List Chapter). z ++ over ∷ []) (sym past) in
    let known : Closes (record { closed = false; table = table.table; bits = table.bits; lanes = xs; held = h; given = n; rounds = crew_chain crew }) set new = record {
      rounds = crew_chain last;
      part = crew_part crew last same more;
      bits = ap (λ (z : SetFacts). z.bits) set_is ∙ ends.bits ∙ bits;
      led = subst (λ (z : List Chapter × List (ℕ × ℕ)). Leads table.bits z.0 z.1) (λ i. (chapters_are i, ap (λ (z : SetFacts). z.pairs) (sym set_is) i)) on;
      rounds_are = rounds ∙ rounds_are ∙ sym (length-append crew.past (over ∷ [])) ∙ ap length chapters_are;
      lanes = ys;
      lanes_go_on = lanes;
      counted = subst (λ (z : List Chapter). AreCountsOf table.bits z made new.inserts new.removals) chapters_are sum;
      given_are = given;
      handles_are = handles;
      missing_are = missing;
    } in subst (λ (z : TrieFacts). Closes z set new) is known

-- a part of a chain has no more rounds before its last one
begins_short : (past : List Chapter) (now : Chapter) (xs : List Chapter) → BeginsWith past now xs → length past < length xs
begins_short past now [] none = absurd none
begins_short [] now (x ∷ xs) b = omega arith
begins_short (p ∷ ps) now (x ∷ xs) b = let e = begins_short ps now xs b.1 in omega (arith, e)

pub no_longer : (early late : Chain) → IsPart early late → length early.past ≤ length late.past
no_longer early late part = let e = begins_short early.past early.now (chapters late) part in let f = length-append late.past (late.now ∷ []) in omega (arith, e, f)

-- where a state of a trie has more rounds before its last one than one that was known, it has more than what was known of that
pub rolls_on : {E : Type 0} (r : Result Bool E) (own t t' new : TrieFacts) → KnowsMore own t → new ≡ t' → IfOk r (λ rolled. rolled ≡ true → length t.rounds.past < length t'.rounds.past) → IfOk r (λ rolled. rolled ≡ true → length own.rounds.past < length new.rounds.past)
rolls_on (Ok x) own t t' new more is rolls = λ rolled. let e = no_longer own.rounds t.rounds more.part in let f = ap (λ (z : TrieFacts). length z.rounds.past) is in let g = rolls rolled in omega (arith, e, f, g)
rolls_on (Err x) own t t' new more is rolls = rolls

-- the counts of a trie on the desk might not go further
pub exhausted_so : (t : TrieFacts) {h n : ℕ} (table : TableFacts) (crew : CrewFacts) (xs : List LaneKnown) (made : List Made) (inserts removals : ℕ) → record { closed = false; table = table.table; bits = table.bits; lanes = xs; held = h; given = n; rounds = crew_chain crew } ≡ t
    → AreCountsOf table.bits crew.past made inserts removals → (2 ^ 64 ≤ length crew.past + 2) ⊎ ((2 ^ 64 ≤ inserts + 2 ^ 33) ⊎ (2 ^ 64 ≤ removals + 2 ^ 33)) → IsExhausted t
exhausted_so t {h} {n} table crew xs made inserts removals is counted many = subst IsExhausted is record { made = made; inserts = inserts; removals = removals; counted = counted; many = many }
