-- What follows on what: places of a lane, one after another.
use Rattle.std.proofs.Common.{◌≡◌, ◌⊎◌, inl, inr, ℕ, ◌+◌, ◌<◌, List, [], ◌∷◌, ◌++◌, true, false, sym, refl, ap, ◌∙◌, subst, arith}
use Rattle.std.specs.Prelude.{Bool, Option, None, Some, Result, Ok, Err, IfOk, IfErr}
use Rattle.std.proofs.lemmas.Bool.{false≢true}
use mathlib.Core.Logic.{dite}
use native.Mathlib.Decide.{ℕ_discrete}
use Rattle.aug_core.specs.Cuts.{Cut, pairs_of_cut}
use Rattle.aug_core.specs.Prefixes.{IsPrefix}
use Rattle.aug_core.proofs.PrefixLemmas.{prefix_refl, prefix_trans}
use Rattle.aug_trie.specs.Chains.{Chapter, BeginsWith, IsPart}
use Rattle.aug_trie.specs.History.{IsHistory, last_cut}
use Rattle.aug_trie.specs.Knowledge.{Knowledge}
use Rattle.aug_trie.specs.Updates.{ComesTo, Updates}
use Rattle.aug_trie.specs.declared.updates.told.Told.{Told}
use Rattle.aug_trie.specs.declared.updates.request.Request.{Request}
use Rattle.aug_trie.specs.declared.updates.request.Request.TheVariants as asked
use Rattle.aug_model.specs.declared.outcome.Outcome.{Outcome}
use Rattle.aug_model.specs.declared.outcome.Outcome.TheVariants as outcome
use Rattle.atomic_table.specs.Seated.{TableId}
use Rattle.aug_trie.specs.Pass.{PassFacts, chain_of}
use Rattle.aug_trie.specs.Round.{RoundFacts, TableFacts, table_of}
use Rattle.aug_trie.proofs.Chaining.{begins_alike, begins_longer, part_refl, part_trans}
use Rattle.aug_live.specs.Carrying.{first_members, Leads}
use Rattle.aug_live.specs.Ledgers.{Made, dated}
use Rattle.aug_live.specs.LiveErrors.{IfRefused, RefusesCall, RefusesRound}
use Rattle.aug_live.specs.declared.error.LiveError.{LiveError}
use Rattle.aug_live.specs.declared.error.LiveError.TheVariants.{Closed, Exhausted, NoLane, TooMany, Looking}
use Rattle.aug_live.specs.declared.error.LiveError.TheVariants as live
use Rattle.aug_live.specs.declared.lane.Obstacle.{Obstacle}
use Rattle.aug_live.specs.declared.lane.Obstacle.TheVariants.{Held, Round, Replaced}
use Rattle.aug_live.specs.declared.error.TryError.{TryError}
use Rattle.aug_live.specs.declared.error.TryError.TheVariants.{Again, Refused}
use Rattle.aug_live.specs.LiveHandles.{HandleFacts, IsSuccessor, Follows, Makes, Runs, SameHandle, Spends, WhoFacts, added}
use Rattle.aug_live.specs.LiveTries.{KnowsMore, TrieFacts}
use Rattle.aug_live.specs.inside.LaneKnowledge.{EndFollows, EndRuns, IsSameEnd, EndFacts, KnownFacts, LaneFacts, EndStays, MakesNothing, OutFacts, RunsHere, Seen, Worked, handle_by, rounds_at, who_by, worked}
use Rattle.aug_live.proofs.Adding.{same_made}
use Rattle.aug_live.proofs.Lanes.{ids_more, more_on, more_self}

-- one more round leads on
first_on : (xs : List Chapter) (now : Chapter) (next : List (ℕ × ℕ)) → first_members (xs ++ now ∷ []) next ≡ first_members xs now.members
first_on [] now next = refl
first_on (x ∷ xs) now next = refl

pub leads_on : (bits : ℕ) (past : List Chapter) (now : Chapter) (next : List (ℕ × ℕ)) → Leads bits past now.members → IsHistory bits now.members now.history → next ≡ pairs_of_cut (last_cut now.history) → Leads bits (past ++ now ∷ []) next
leads_on bits [] now next l is ends = (is, ends, tt)
leads_on bits (x ∷ xs) now next l is ends = (l.0, first_on xs now next ∙ l.1, leads_on bits xs now next l.2 is ends)

-- an update that was refused changes nothing of what was accepted
pub refused_same : (request : Request) (key : ℕ) (a b : Knowledge) → ComesTo request key outcome.Refused a b → IsPrefix a.history b.history × (b.accepted ≡ a.accepted)
refused_same asked.Insert key a b c = (c.goes_on, c.same_changes)
refused_same asked.Remove key a b c = (c.goes_on, c.same_changes)
refused_same (asked.Put weight) key a b c = (c.goes_on, c.same_changes)
refused_same (asked.Add amount) key a b c = (c.goes_on, c.same_changes)
refused_same (asked.Sub amount) key a b c = (c.goes_on, c.same_changes)
refused_same (asked.Take weight) key a b (inl c) = (c.goes_on, c.same_changes)
refused_same (asked.Take weight) key a b (inr c) = (c.goes_on, c.same_changes)

-- a later pass of a round is in the same one, after the same ones
same_rounds : (a b : PassFacts) → (b ≡ a) ⊎ IsSuccessor a b → rounds_at b ≡ rounds_at a
same_rounds a b (inl same) = ap rounds_at same
same_rounds a b (inr c) = λ i. (c.round i, c.past i)

continues_on : (a b c : PassFacts) → (b ≡ a) ⊎ IsSuccessor a b → (c ≡ b) ⊎ IsSuccessor b c → (c ≡ a) ⊎ IsSuccessor a c
continues_on a b c x (inl same) = subst (λ (z : PassFacts). (z ≡ a) ⊎ IsSuccessor a z) (sym same) x
continues_on a b c (inl same) (inr y) = inr (subst (λ (z : PassFacts). IsSuccessor z c) same y)
continues_on a b c (inr x) (inr y) = inr (record { round = y.round ∙ x.round; past = y.past ∙ x.past; goes_on = prefix_trans a.knows.history b.knows.history c.knows.history x.goes_on y.goes_on })

-- and it knows all that the earlier one knew
pub successor_part : (a b : PassFacts) → IsSuccessor a b → IsPart (chain_of a) (chain_of b)
successor_part a b c = subst (λ (z : List Chapter). BeginsWith a.past (chain_of a).now (z ++ (chain_of b).now ∷ [])) (sym c.past)
    (begins_alike a.past (chain_of a).now (chain_of b).now [] record { members = ap (λ (z : RoundFacts). z.members) c.round; goes_on = c.goes_on })

-- a handle is the same as itself, and one after another
same_who : (w : WhoFacts) → SameHandle w w
same_who w = record { trie = more_self w.trie; lanes = refl; lane = refl; number = refl; replaced = λ r. r }

who_kept : (a b : WhoFacts) → b ≡ a → SameHandle a b
who_kept a b same = subst (SameHandle a) (sym same) (same_who a)

who_on : (a b c : WhoFacts) → SameHandle a b → SameHandle b c → SameHandle a c
who_on a b c x y = record { trie = more_on a.trie b.trie c.trie x.trie y.trie; lanes = y.lanes ∙ x.lanes; lane = y.lane ∙ x.lane; number = y.number ∙ x.number; replaced = λ r. y.replaced (x.replaced r) }

pub follows_self : (h : HandleFacts) → Follows h h
follows_self h = record { not_later = omega arith; same = λ _. inl refl; goes_on = part_refl (chain_of h.half); led = λ less. absurd (omega arith); table = refl; bits = refl; together = refl; same_handle = same_who h.who; made = refl }

-- the same place follows, and so does one where the lane has a later pass, or one of the next round
pub follows_same : (a b : HandleFacts) → b ≡ a → Follows a b
follows_same a b same = subst (Follows a) (sym same) (follows_self a)

pub follows_pass : (a : HandleFacts) (b : PassFacts) → IsSuccessor a.half b → Follows a (record a { half = b })
follows_pass a b c = record {
  not_later = omega arith;
  same = λ _. inr c;
  goes_on = successor_part a.half b c;
  led = λ less. absurd (omega arith);
  table = ap (λ (z : RoundFacts). z.table) c.round;
  bits = ap (λ (z : RoundFacts). z.bits) c.round;
  together = ap table_of c.round;
  same_handle = same_who a.who;
  made = refl;
}

follows_round : (a : HandleFacts) (b : PassFacts) → BeginsWith a.half.past (chain_of a.half).now b.past → Leads b.round.bits b.past b.round.members → table_of b.round ≡ table_of a.half.round → Follows a (record a { era = a.era + 1; half = b })
follows_round a b part led together = record {
  not_later = omega arith;
  same = λ e. absurd (omega arith);
  goes_on = begins_longer a.half.past (chain_of a.half).now b.past ((chain_of b).now ∷ []) part;
  led = λ _. led;
  table = ap (λ (z : TableFacts). z.table) together;
  bits = ap (λ (z : TableFacts). z.bits) together;
  together = together;
  same_handle = same_who a.who;
  made = refl;
}

pub follows_on : (a b c : HandleFacts) → Follows a b → Follows b c → Follows a c
follows_on a b c x y = let ab = x.not_later in let bc = y.not_later in record {
  not_later = omega arith;
  same = λ e. continues_on a.half b.half c.half (x.same (omega arith)) (y.same (omega arith));
  goes_on = part_trans (chain_of a.half) (chain_of b.half) (chain_of c.half) x.goes_on y.goes_on;
  led = λ less. dite (ℕ_discrete b.era c.era)
      (λ e. subst (λ (z : RoundFacts × List Chapter). Leads z.0.bits z.1 z.0.members) (sym (same_rounds b.half c.half (y.same e))) (x.led (omega arith)))
      (λ later. y.led (omega arith));
  table = y.table ∙ x.table;
  bits = y.bits ∙ x.bits;
  together = y.together ∙ x.together;
  same_handle = who_on a.who b.who c.who x.same_handle y.same_handle;
  made = y.made ∙ x.made;
}

-- the same for a handle, which is one of a trie and made something
follows_by : (who who' : WhoFacts) (made made' : List Made) (a b : HandleFacts) → SameHandle who who' → made' ≡ made → Follows a b → Follows (record a { who = who; made = made }) (record b { who = who'; made = made' })
follows_by who who' made made' a b is same f = record { not_later = f.not_later; same = f.same; goes_on = f.goes_on; led = f.led; table = f.table; bits = f.bits; together = f.together; same_handle = is; made = same }

-- an update from where the lane stands, and where that follows
pub runs_on : (does : PassFacts → PassFacts → Type 0) (a b c : HandleFacts) → Follows a b → Runs does b c → Runs does a c
runs_on does a b c x r = record { start = r.start; follows = follows_on a b r.start x r.follows; same_era = r.same_era; done = r.done; who = r.who; made = r.made }

-- after an operation that made nothing it is where it may run another one
pub runs_follow : (does : PassFacts → PassFacts → Type 0) (a b : HandleFacts) (r : Runs does a b) → MakesNothing r.start.half b.half → Follows a b
runs_follow does a b r none = let s : HandleFacts = r.start in let succ = none.0 in
    follows_on a s b r.follows record {
      not_later = let e = r.same_era in omega arith;
      same = λ _. inr succ;
      goes_on = successor_part s.half b.half succ;
      led = λ less. let e = r.same_era in absurd (omega arith);
      table = ap (λ (z : RoundFacts). z.table) succ.round;
      bits = ap (λ (z : RoundFacts). z.bits) succ.round;
      together = ap table_of succ.round;
      same_handle = who_kept s.who b.who r.who;
      made = r.made ∙ same_made s.made b.era s.half b.half none.1;
    }

-- what an operation did, told otherwise
pub runs_map : {T E : Type 0} (r : Result T E) (runs does : T → PassFacts → PassFacts → Type 0) (a b : HandleFacts) → ((t : T) (x y : PassFacts) → runs t x y → does t x y) → IfOk r (λ t. Runs (runs t) a b) → IfOk r (λ t. Runs (does t) a b)
runs_map (Ok t) runs does a b is r = record { start = r.start; follows = r.follows; same_era = r.same_era; done = is t r.start.half b.half r.done; who = r.who; made = r.made }
runs_map (Err e) runs does a b is r = r

-- one that makes nothing
pub nothing_made : {T E : Type 0} (r : Result T E) (runs : T → PassFacts → PassFacts → Type 0) (a b : HandleFacts) → ((t : T) (x y : PassFacts) → runs t x y → MakesNothing x y) → IfOk r (λ t. Runs (runs t) a b) → IfErr r (λ _. Follows a b) → Follows a b
nothing_made (Ok t) runs a b none m not = runs_follow (runs t) a b m (none t m.start.half b.half m.done)
nothing_made (Err e) runs a b none m not = not

pub same_nothing : (a b : PassFacts) → b ≡ a → MakesNothing a b
same_nothing a b is = subst (MakesNothing a) (sym is) (record { round = refl; past = refl; goes_on = prefix_refl a.knows.history }, refl)

-- after updates that changed nothing it is where it may make another one
pub none_follows : (updates : ℕ) (does : PassFacts → PassFacts → Type 0) (a b : HandleFacts) (m : Makes updates does a b) → IsPrefix m.start.half.knows.history b.half.knows.history × (b.half.knows.accepted ≡ m.start.half.knows.accepted) → Follows a b
none_follows updates does a b m none = let on = m.done.2.same in
    runs_follow (Spends updates does) a b m (record { round = ap (λ (z : PassFacts). z.round) on; past = ap (λ (z : PassFacts). z.past) on; goes_on = none.0 }, none.1)

-- as after one that was refused
pub refused_follows : (request : Request) (key : ℕ) (told : Told) (a b : HandleFacts) → told.outcome ≡ outcome.Refused → Makes 1 (λ x y. Updates request key told x.knows y.knows) a b → Follows a b
refused_follows request key told a b refused m = none_follows 1 _ a b m (refused_same request key m.start.half.knows b.half.knows (subst (λ (z : Outcome). ComesTo request key z m.start.half.knows b.half.knows) refused m.done.0.0))

-- a handle's end of a lane, before a call and after it
module _ (trie : TrieFacts) (place : ℕ) (lock lock' : TableId) (v : KnownFacts) (old new : LaneFacts) (follows : Follows v.at old.at) where
  abbrev before : HandleFacts
  before = handle_by trie place (Some (record { lock = lock; known = v }))

  abbrev after : HandleFacts
  after = handle_by trie place (Some (record { lock = lock'; known = worked v old new }))

  abbrev who : WhoFacts
  who = who_by trie place v

  -- its pass ran an operation, or learned something
  pub works_run : (does : PassFacts → PassFacts → Type 0) → RunsHere does old.at new.at → Runs does before after
  works_run does w = record {
    start = record old.at { who = who; made = v.made };
    follows = follows_by who who v.made v.made v.at old.at (same_who who) refl follows;
    same_era = w.same_era;
    done = w.done;
    who = refl;
    made = refl;
  }

  pub works_follow : new.at.half.knows.accepted ≡ old.at.half.knows.accepted → Follows old.at new.at → Follows before after
  works_follow same more = follows_by who who v.made (v.made ++ dated new.at.era (added old.at.half new.at.half)) v.at new.at (same_who who) (same_made v.made new.at.era old.at.half new.at.half same) (follows_on v.at old.at new.at follows more)

-- an end that a handle took out and put back, of which it made nothing, an update, or something that it learned
module _ (trie : TrieFacts) (place : ℕ) (now : HandleFacts) (inside : Option EndFacts) (end result : EndFacts) (view : handle_by trie place inside ≡ now) (there : inside ≡ Some end) where
  own : handle_by trie place (Some end) ≡ now
  own = ap (handle_by trie place) (sym there) ∙ view

  pub unchanged : EndStays end result → Follows now (handle_by trie place (Some result))
  unchanged stays =
      let who : SameHandle (who_by trie place end.known) (who_by trie place (record end.known { replaced = result.known.replaced })) = record { trie = more_self trie; lanes = refl; lane = refl; number = refl; replaced = stays.seen } in
      let one = follows_by (who_by trie place end.known) (who_by trie place (record end.known { replaced = result.known.replaced })) end.known.made end.known.made end.known.at end.known.at who refl (follows_self end.known.at) in
      subst (λ (z : HandleFacts × EndFacts). Follows z.0 (handle_by trie place (Some z.1))) (λ i. (own i, sym stays.same i)) one

  module _ (out : OutFacts) (lane new : LaneFacts) (known : out.known ≡ end.known) (taken : out.taken ≡ lane) (is : result ≡ record { lock = out.lock; known = worked out.known out.taken new }) (follows : Follows end.known.at lane.at) where
    both : (P : HandleFacts → HandleFacts → Type 0) → P (handle_by trie place (Some end)) (handle_by trie place (Some (record { lock = out.lock; known = worked end.known lane new }))) → P now (handle_by trie place (Some result))
    both P p = let put : record { lock = out.lock; known = worked end.known lane new } ≡ result = λ i. sym (is ∙ (λ j. record { lock = out.lock; known = worked (known j) (taken j) new })) i in
        subst (λ (z : HandleFacts × EndFacts). P z.0 (handle_by trie place (Some z.1))) (λ i. (own i, put i)) p

    pub ran_end : {T E : Type 0} (r : Result T E) (does : T → PassFacts → PassFacts → Type 0) → IfOk r (λ done. RunsHere (does done) lane.at new.at) → IfOk r (λ done. Runs (does done) now (handle_by trie place (Some result)))
    ran_end (Ok done) does w = both (Runs (does done)) (works_run trie place end.lock out.lock end.known lane new follows (does done) w)
    ran_end (Err e) does w = w

    pub follow_end : new.at.half.knows.accepted ≡ lane.at.half.knows.accepted → Follows lane.at new.at → Follows now (handle_by trie place (Some result))
    follow_end same more = both Follows (works_follow trie place end.lock out.lock end.known lane new follows same more)

    pub unmade_end : {T E : Type 0} (r : Result T E) → IfErr r (λ _. new.at ≡ lane.at) → IfErr r (λ _. Follows now (handle_by trie place (Some result)))
    unmade_end (Ok done) same = same
    unmade_end (Err e) same = follow_end (ap (λ (z : HandleFacts). z.half.knows.accepted) same) (follows_same lane.at new.at same)

-- a handle whose end of the desk's lock learned more of the trie
pub desk_follows : (trie trie' : TrieFacts) (place : ℕ) (now : HandleFacts) (inside : Option EndFacts) (e : EndFacts) → inside ≡ Some e → handle_by trie place inside ≡ now → KnowsMore trie trie' → Follows now (handle_by trie' place inside)
desk_follows trie trie' place now inside e there view more =
    let who : SameHandle (who_by trie place e.known) (who_by trie' place e.known) = record { trie = more; lanes = ids_more trie trie' more; lane = refl; number = refl; replaced = λ r. r } in
    subst (λ (z : HandleFacts). Follows z (handle_by trie' place inside)) view
    (subst (λ (z : Option EndFacts). Follows (handle_by trie place z) (handle_by trie' place z)) (sym there) (follows_by (who_by trie place e.known) (who_by trie' place e.known) e.known.made e.known.made e.known.at e.known.at who refl (follows_self e.known.at)))

pub trie_by : (trie : TrieFacts) (place : ℕ) (inside : Option EndFacts) → (handle_by trie place inside).who.trie ≡ trie
trie_by trie place None = refl
trie_by trie place (Some e) = refl

-- what stands in the way of no round stands in the way of no call
pub round_call : (h : HandleFacts) (trie : TrieFacts) → h.who.trie ≡ trie → (cause : LiveError) → RefusesRound trie cause → RefusesCall h cause
round_call h trie is Closed r = subst (λ (t : TrieFacts). RefusesRound t Closed) (sym is) r
round_call h trie is Exhausted r = subst (λ (t : TrieFacts). RefusesRound t Exhausted) (sym is) r
round_call h trie is live.Replaced r = absurd r
round_call h trie is NoLane r = absurd r
round_call h trie is TooMany r = absurd r
round_call h trie is (Looking found) r = absurd r

-- a lane that is spent is no lane of a newer handle
pub seen_any : (o : Obstacle) (seen : Bool) → Seen o false → Seen o seen
seen_any (Held missed) seen s = s
seen_any (Round era) seen s = s
seen_any Replaced seen s = absurd (false≢true s)

pub seen_by : {T : Type 0} (r : Result T Obstacle) (seen : Bool) → IfErr r (λ o. Seen o false) → IfErr r (λ o. Seen o seen)
seen_by (Ok t) seen s = tt
seen_by (Err o) seen s = seen_any o seen s

-- what holds of an outcome, in either case
pub ok_any : {T E : Type 0} {P : Type 0} (r : Result T E) → P → IfOk r (λ _. P)
ok_any (Ok t) p = p
ok_any (Err e) p = tt

pub err_any : {T E : Type 0} {P : Type 0} (r : Result T E) → P → IfErr r (λ _. P)
err_any (Ok t) p = tt
err_any (Err e) p = p

pub ok_map : {T E : Type 0} (P Q : T → Type 0) (r : Result T E) → ((t : T) → P t → Q t) → IfOk r P → IfOk r Q
ok_map P Q (Ok t) f p = f t p
ok_map P Q (Err e) f p = p

pub err_map : {T E : Type 0} (P Q : E → Type 0) (r : Result T E) → ((e : E) → P e → Q e) → IfErr r P → IfErr r Q
err_map P Q (Ok t) f p = p
err_map P Q (Err e) f p = f e p

-- of a call that waits for nobody, and is refused for such causes
pub why_map : {M : Type 0} (P Q : LiveError → Type 0) (r : TryError M) → ((cause : LiveError) → P cause → Q cause) → IfRefused P r → IfRefused Q r
why_map P Q (Again missed) f p = p
why_map P Q (Refused cause) f p = f cause p

pub refused_map : {T M : Type 0} (P Q : LiveError → Type 0) (r : Result T (TryError M)) → ((cause : LiveError) → P cause → Q cause) → IfErr r (IfRefused P) → IfErr r (IfRefused Q)
refused_map P Q (Ok t) f p = p
refused_map P Q (Err (Again missed)) f p = p
refused_map P Q (Err (Refused cause)) f p = f cause p

-- a lane whose pass did something
pub worked_here : (lane : LaneFacts) (b : PassFacts) → lane.works ≡ true → rounds_at b ≡ rounds_at lane.at.half → IsPrefix lane.at.half.knows.accepted b.knows.accepted → Worked lane (record lane { works = true; at = record lane.at { half = b } })
worked_here lane b works rounds accepts = record {
  era = refl;
  number = refl;
  is_out = refl;
  round = rounds;
  works = sym works;
  at_rest = λ rests. let clash : true ≡ false = sym works ∙ rests in cc;
  accepts = accepts;
}

-- a lane whose pass was made of the half that lay there, and then a half again
module _ (lane rest new : LaneFacts) (work pass after half : PassFacts) (works : lane.works ≡ true) (is : work ≡ lane.at.half) (left : rest ≡ record lane { works = false }) (of : pass ≡ work) (ends : half ≡ after)
    (put : new ≡ record rest { works = true; at = record rest.at { half = half } }) where
  was : pass ≡ lane.at.half
  was = of ∙ is

  now : new ≡ record lane { works = true; at = record lane.at { half = after } }
  now = put ∙ (λ i. record (left i) { works = true; at = record (left i).at { half = ends i } })

  pub runs_by : (does : PassFacts → PassFacts → Type 0) → does pass after → RunsHere does lane.at new.at
  runs_by does did = record { same_era = ap (λ (z : LaneFacts). z.at.era) now; done = subst (λ (z : PassFacts × LaneFacts). does z.0 z.1.at.half) (λ i. (was i, sym now i)) did }

  pub worked_by : rounds_at after ≡ rounds_at pass → IsPrefix pass.knows.accepted after.knows.accepted → Worked lane new
  worked_by rounds accepts = subst (Worked lane) (sym now) (worked_here lane after works (rounds ∙ ap rounds_at was) (subst (λ (z : PassFacts). IsPrefix z.knows.accepted after.knows.accepted) was accepts))

-- one that got the next pass of its round in the place of one that went back to their crew
pub replaced_follows : (a : HandleFacts) (b : PassFacts) (history : List Cut) → rounds_at b ≡ rounds_at a.half → IsPrefix a.half.knows.history history → IsPrefix history b.knows.history → Follows a (record a { half = b })
replaced_follows a b history rounds one two = follows_pass a b record {
  round = ap (λ (z : RoundFacts × List Chapter). z.0) rounds;
  past = ap (λ (z : RoundFacts × List Chapter). z.1) rounds;
  goes_on = prefix_trans a.half.knows.history history b.knows.history one two;
}

-- one that got a pass of the next round
pub begun_follows : (a : HandleFacts) (b : PassFacts) (round : RoundFacts) (past : List Chapter) → BeginsWith a.half.past (chain_of a.half).now past → Leads round.bits past round.members → table_of a.half.round ≡ table_of round
    → rounds_at b ≡ (round, past) → Follows a (record a { era = a.era + 1; half = b })
begun_follows a b round past part led table rounds =
    let now : b.round ≡ round = ap (λ (z : RoundFacts × List Chapter). z.0) rounds in
    follows_round a b
    (subst (BeginsWith a.half.past (chain_of a.half).now) (ap (λ (z : RoundFacts × List Chapter). z.1) (sym rounds)) part)
    (subst (λ (z : RoundFacts × List Chapter). Leads z.0.bits z.1 z.0.members) (sym rounds) led)
    (ap table_of now ∙ sym table)

-- an end that was not to be had is that of the same handle still, and so is one that ran something
pub stays_same : (e f : EndFacts) → EndStays e f → 0 < e.known.at.era → IsSameEnd e f
stays_same e f stays some = let is = stays.same in record {
  lock = ap (λ (z : EndFacts). z.lock) is;
  whose = ap (λ (z : EndFacts). z.known.whose) is;
  number = ap (λ (z : EndFacts). z.known.number) is;
  some_era = subst (λ (z : EndFacts). 0 < z.known.at.era) (sym is) some;
  together = ap (λ (z : EndFacts). table_of z.known.at.half.round) is;
  bits = ap (λ (z : EndFacts). z.known.at.half.round.bits) is;
}

pub stays_follow : (e f : EndFacts) → EndStays e f → EndFollows e f
stays_follow e f stays trie place = unchanged trie place (handle_by trie place (Some e)) (Some e) e f refl refl stays

module _ (end result : EndFacts) (out : OutFacts) (lane new : LaneFacts) (known : out.known ≡ end.known) (taken : out.taken ≡ lane) (is : result ≡ record { lock = out.lock; known = worked out.known out.taken new }) (follows : Follows end.known.at lane.at) where
  pub worked_same : out.lock ≡ end.lock → 0 < end.known.at.era → Worked lane new → table_of lane.at.half.round ≡ table_of end.known.at.half.round → IsSameEnd end result
  worked_same lock some did table = let later = follows.not_later in let era = did.era in record {
    lock = ap (λ (z : EndFacts). z.lock) is ∙ lock;
    whose = ap (λ (z : EndFacts). z.known.whose) is ∙ ap (λ (z : KnownFacts). z.whose) known;
    number = ap (λ (z : EndFacts). z.known.number) is ∙ ap (λ (z : KnownFacts). z.number) known;
    some_era = subst (λ (z : EndFacts). 0 < z.known.at.era) (sym is) (omega (arith, some, later, era));
    together = ap (λ (z : EndFacts). table_of z.known.at.half.round) is ∙ ap (λ (z : RoundFacts × List Chapter). table_of z.0) did.round ∙ table;
    bits = ap (λ (z : EndFacts). z.known.at.half.round.bits) is ∙ ap (λ (z : RoundFacts × List Chapter). z.0.bits) did.round ∙ follows.bits;
  }

  pub ran_anywhere : {T E : Type 0} (r : Result T E) (does : T → PassFacts → PassFacts → Type 0) → IfOk r (λ done. RunsHere (does done) lane.at new.at) → IfOk r (λ done. EndRuns (does done) end result)
  ran_anywhere {T = T} {E = E} (Ok done) does w = λ trie place. ran_end trie place (handle_by trie place (Some end)) (Some end) end result refl refl out lane new known taken is follows {T = T} {E = E} (Ok done) does w
  ran_anywhere (Err e) does w = w

  pub unmade_anywhere : {T E : Type 0} (r : Result T E) → IfErr r (λ _. new.at ≡ lane.at) → IfErr r (λ _. EndFollows end result)
  unmade_anywhere (Ok done) same = same
  unmade_anywhere {T = T} {E = E} (Err e) same = λ trie place. unmade_end trie place (handle_by trie place (Some end)) (Some end) end result refl refl out lane new known taken is follows {T = T} {E = E} (Err e) same

-- what an end ran, by its handle
module _ (trie : TrieFacts) (place : ℕ) (now : HandleFacts) (inside : Option EndFacts) (end result : EndFacts) (view : handle_by trie place inside ≡ now) (there : inside ≡ Some end) where
  owned : handle_by trie place (Some end) ≡ now
  owned = ap (handle_by trie place) (sym there) ∙ view

  pub runs_as : (does : PassFacts → PassFacts → Type 0) → EndRuns does end result → Runs does now (handle_by trie place (Some result))
  runs_as does ran = subst (λ (z : HandleFacts). Runs does z (handle_by trie place (Some result))) owned (ran trie place)

  pub follows_as : EndFollows end result → Follows now (handle_by trie place (Some result))
  follows_as on = subst (λ (z : HandleFacts). Follows z (handle_by trie place (Some result))) owned (on trie place)
