-- What it comes to that a handle takes a snapshot for a look, from what its pass did.
use Rattle.std.proofs.Common.{◌≡◌, ◌≢◌, ◌∙◌, false, arith, ℕ, ◌+◌, true, sym, refl, ap, subst}
use Rattle.std.specs.Prelude.{Option, Some, None, IfSome, IfNone, IfOk, IfErr, Result, Ok, Err}
use Rattle.std.specs.Option.{is_some}
use Rattle.std.proofs.lemmas.Bool.{false≢true}
use Rattle.aug_core.specs.Prefixes.{IsPrefix}
use Rattle.aug_core.proofs.PrefixLemmas.{prefix_refl}
use Rattle.atomic_table.specs.Seated.{TableId}
use Rattle.aug_trie.specs.Pass.{GoesOn, PassFacts}
use Rattle.aug_trie.specs.Round.{RoundFacts, TableFacts, table_of}
use Rattle.aug_trie.specs.Reader.{Lends, TakesUp}
use Rattle.aug_trie.specs.Snapshot.{HasSnapshot, set_at, snapshot_cut}
use Rattle.aug_trie.specs.Updates.{TakesSnapshot}
use Rattle.aug_trie.specs.declared.queries.snapshot.Snapshot.{Snapshot}
use Rattle.aug_live.specs.LiveHandles.{Follows, HandleFacts, IsLookOf, LooksAgain, LookFacts, Runs, ShowsTo, WhoFacts}
use Rattle.aug_live.specs.LiveTries.{TrieFacts}
use Rattle.aug_live.specs.inside.LaneKnowledge.{EndFacts, EndRuns, IsSameEnd, half_in, handle_by, no_trie}
use Rattle.aug_live.specs.inside.Looks.{EndShows, HandleShows, HasReaders, HoldsLook, IsReaderOf, IsShownIn, ShowsOrNot}
use Rattle.aug_live.proofs.Carries.{follows_as, follows_self, runs_as, runs_follow, runs_on}

module _ (old new left : Option PassFacts) (era : ℕ) where
  -- a handle whose pass took it
  pub shown_runs : (held : Snapshot) (a b : HandleFacts) → Runs (ShowsOrNot old new left era (Some held)) a b → HandleShows old new era held a b
  shown_runs held a b r = record {
    makes = record { start = r.start; follows = r.follows; same_era = r.same_era; done = r.done.0; who = r.who; made = r.made };
    shown = r.done.1;
  }

  -- and one whose pass did not
  pub none_runs : (a b : HandleFacts) → Runs (ShowsOrNot old new left era None) a b → Follows a b × (new ≡ old) × IsReaderOf b.half.round.table left
  none_runs a b r = (runs_follow (ShowsOrNot old new left era None) a b r r.done.0, r.done.1, r.done.2)

  -- by the end of its lane
  pub shown_as : (held : Snapshot) (trie : TrieFacts) (place : ℕ) (now : HandleFacts) (inside : Option EndFacts) (end result : EndFacts) → handle_by trie place inside ≡ now → inside ≡ Some end → EndShows old new left era (Some held) end result → HandleShows old new era held now (handle_by trie place (Some result))
  shown_as held trie place now inside end result view there s = record { makes = runs_as trie place now inside end result view there _ s.0; shown = s.1 }

  pub none_as : (trie : TrieFacts) (place : ℕ) (now : HandleFacts) (inside : Option EndFacts) (end result : EndFacts) → handle_by trie place inside ≡ now → inside ≡ Some end → EndShows old new left era None end result → Follows now (handle_by trie place (Some result)) × (new ≡ old) × IsReaderOf result.known.at.half.round.table left
  none_as trie place now inside end result view there s = (follows_as trie place now inside end result view there s.0, s.1, s.2)

-- once it followed
pub shows_on : (old old' new : Option PassFacts) (era : ℕ) (held : Snapshot) (a b c : HandleFacts) → Follows a b → old' ≡ old → HandleShows old' new era held b c → HandleShows old new era held a c
shows_on old old' new era held a b c on same s = subst (λ (z : Option PassFacts). HandleShows z new era held a c) same record { makes = runs_on _ a b c on s.makes; shown = s.shown }

-- so a reader shows it in the table of the look's round
pub shown_in : (table : TableFacts) (old new : Option PassFacts) (era : ℕ) (held : Snapshot) (a b : HandleFacts) → HandleShows old new era held a b → table_of b.half.round ≡ table → IsShownIn table new era held
shown_in table old new era held a b s together = let i = s.shown in record {
  mine = i.mine;
  there = i.there;
  together = ap (λ (z : PassFacts). table_of z.round) i.lends.reader_is ∙ together;
  shows = i.lends.snapshots held i.known;
  dated = i.dated ∙ ap (λ (z : PassFacts). z.round.era + 1) (sym i.lends.reader_is);
}

-- what a pass did for it: a snapshot with a reader, or none
module _ (old left : Option PassFacts) (era : ℕ) (held : Snapshot) (a b : PassFacts) (takes : TakesSnapshot a.knows b.knows (snapshot_cut b held)) (goes : GoesOn 0 1 a b) (of : IsReaderOf a.round.table left) where
  same_round : b.round ≡ a.round
  same_round = ap (λ (z : PassFacts). z.round) goes.same

  left_still : IsReaderOf b.round.table left
  left_still = subst (λ (z : RoundFacts). IsReaderOf z.table left) (sym same_round) of

  pub shows_some : (c mine : PassFacts) → c ≡ b → HasSnapshot b held → Lends b mine → era ≡ a.round.era + 1 → IfSome old (λ r. TakesUp r b) → ShowsOrNot old (Some mine) left era (Some held) a c
  shows_some c mine same known lends dated up = subst (ShowsOrNot old (Some mine) left era (Some held) a) (sym same) (
    (takes, 1, goes),
    record { mine = mine; there = refl; lends = lends; known = known; dated = dated ∙ ap (λ (z : RoundFacts). z.era + 1) (sym same_round); takes_up = up },
    left_still,
  )

  pub shows_none : (new : Option PassFacts) → new ≡ old → ShowsOrNot old new left era None a b
  shows_none new same = (
    (record { round = same_round; past = ap (λ (z : PassFacts). z.past) goes.same; goes_on = takes.goes_on }, takes.same_changes),
    same,
    left_still,
  )

-- the reader that a pass did not take back
pub left_of : (table : TableId) (reader refused : Option PassFacts) → IfSome refused (λ r. reader ≡ Some r) → IsReaderOf table reader → IsReaderOf table refused
left_of table reader None same of = tt
left_of table reader (Some r) same of = subst (IsReaderOf table) same of

pub refused_is : (reader refused : Option PassFacts) → IfSome refused (λ r. reader ≡ Some r) → is_some refused ≡ true → refused ≡ reader
refused_is reader None same some_one = absurd (false≢true some_one)
refused_is reader (Some r) same some_one = sym same

-- no change is made by it
pub accepts_none : (a b c : PassFacts) → c ≡ b → b.knows.accepted ≡ a.knows.accepted → IsPrefix a.knows.accepted c.knows.accepted
accepts_none a b c same none = subst (IsPrefix a.knows.accepted) (sym (ap (λ (z : PassFacts). z.knows.accepted) same ∙ none)) (prefix_refl a.knows.accepted)

-- what an end did for it where the desk was at hand, and the reader that was left over then
pub end_shows : (shown : Option Snapshot) (old new left after : Option PassFacts) (era : ℕ) (e f : EndFacts) → EndRuns (ShowsOrNot old new left era shown) e f → IsReaderOf f.known.at.half.round.table after → EndShows old new after era shown e f
end_shows None old new left after era e f ran of = (λ trie place. (none_runs old new left era (handle_by trie place (Some e)) (handle_by trie place (Some f)) (ran trie place)).0, (ran no_trie 0).done.1, of)
end_shows (Some held) old new left after era e f ran of = (λ trie place. (shown_runs old new left era held (handle_by trie place (Some e)) (handle_by trie place (Some f)) (ran trie place)).makes, (ran no_trie 0).done.1)

left_by : (shown : Option Snapshot) (old new left : Option PassFacts) (era : ℕ) (a b : PassFacts) → ShowsOrNot old new left era shown a b → IsReaderOf b.round.table left
left_by None old new left era a b s = s.2
left_by (Some held) old new left era a b s = s.2

pub left_after : {E : Type 0} (r : Result (Option Snapshot) E) (old new left was : Option PassFacts) (era : ℕ) (e f : EndFacts) → IfOk r (λ shown. EndRuns (ShowsOrNot old new left era shown) e f) → IfErr r (λ _. left ≡ was) → table_of f.known.at.half.round ≡ table_of e.known.at.half.round
    → IsReaderOf e.known.at.half.round.table was → IsReaderOf e.known.at.half.round.table left
left_after (Ok shown) old new left was era e f ran kept same of = let r = ran no_trie 0 in
    subst (λ (t : TableId). IsReaderOf t left) (ap (λ (z : TableFacts). z.table) same) (left_by shown old new left era r.start.half f.known.at.half r.done)
left_after (Err e') old new left was era e f ran kept same of = subst (IsReaderOf e.known.at.half.round.table) (sym kept) of

-- an end with which nothing was done
pub end_still : (old left : Option PassFacts) (era : ℕ) (e : EndFacts) → IsReaderOf e.known.at.half.round.table left → EndShows old old left era None e e
end_still old left era e of = (λ trie place. follows_self (handle_by trie place (Some e)), refl, of)

-- where the desk was at hand
module _ {E : Type 0} (r : Result (Option Snapshot) E) (old new left : Option PassFacts) (era : ℕ) (trie : TrieFacts) (place : ℕ) (now : HandleFacts) (inside : Option EndFacts) (end result : EndFacts) (view : handle_by trie place inside ≡ now) (there : inside ≡ Some end) where
  pub at_desk : IfOk r (λ s. EndShows old new left era s end result) → IfOk r (λ s. IfSome s (λ held. HandleShows old new era held now (handle_by trie place (Some result))))
  at_desk = by_result r where
    by_result : (r : Result (Option Snapshot) E) → IfOk r (λ s. EndShows old new left era s end result) → IfOk r (λ s. IfSome s (λ held. HandleShows old new era held now (handle_by trie place (Some result))))
    by_result (Ok (Some held)) s = shown_as old new left era held trie place now inside end result view there s
    by_result (Ok None) s = tt
    by_result (Err e) s = s

  pub not_at_desk : IsSameEnd end result → IsReaderOf now.half.round.table old → IfOk r (λ s. EndShows old new left era s end result)
      → IfOk r (λ s. IfNone s (Follows now (handle_by trie place (Some result)) × (new ≡ old) × HasReaders new left now.half.round.table))
  not_at_desk same of = by_result r where
    own : end.known.at.half ≡ now.half
    own = ap (λ (z : HandleFacts). z.half) (ap (handle_by trie place) (sym there) ∙ view)

    by_result : (r : Result (Option Snapshot) E) → IfOk r (λ s. EndShows old new left era s end result) → IfOk r (λ s. IfNone s (Follows now (handle_by trie place (Some result)) × (new ≡ old) × HasReaders new left now.half.round.table))
    by_result (Ok (Some held)) s = tt
    by_result (Ok None) s = let n = none_as old new left era trie place now inside end result view there s in
        (n.0, n.1, (subst (IsReaderOf now.half.round.table) (sym n.1) of, subst (λ (t : TableId). IsReaderOf t left) (ap (λ (z : TableFacts). z.table) same.together ∙ ap (λ (z : PassFacts). z.round.table) own) n.2))
    by_result (Err e) s = s

-- the look that its handle took it for
pub shows_to : (old new : Option PassFacts) (era : ℕ) (held before : Snapshot) (a b : HandleFacts) (lane : ℕ) → HandleShows old new era held a b → lane ≡ b.who.lane → ShowsTo a b (record { lane = lane; reader = half_in new; snapshot = held; before = before })
shows_to old new era held before a b lane s of_lane = record {
  makes = s.makes;
  known = s.shown.known;
  lends = subst (λ (z : Option PassFacts). Lends b.half (half_in z)) (sym s.shown.there) s.shown.lends;
  of_lane = of_lane;
}

-- a handle that took one is at the same table, and has the same lane
pub shows_table : (old new : Option PassFacts) (era : ℕ) (held : Snapshot) (a b : HandleFacts) → HandleShows old new era held a b → table_of b.half.round ≡ table_of a.half.round
shows_table old new era held a b s = ap (λ (z : PassFacts). table_of z.round) s.makes.done.2.same ∙ s.makes.follows.together

pub shows_lane : (old new : Option PassFacts) (era : ℕ) (held : Snapshot) (a b : HandleFacts) → HandleShows old new era held a b → b.who.lane ≡ a.who.lane
shows_lane old new era held a b s = ap (λ (z : WhoFacts). z.lane) s.makes.who ∙ s.makes.follows.same_handle.lane

-- a look whose reader was asked
pub look_on : (slot : Option TableFacts) (table : TableFacts) (reader : Option PassFacts) (held before : Snapshot) (era : ℕ) (mine next : PassFacts) → HoldsLook slot table reader held before era → reader ≡ Some mine → next.round ≡ mine.round → ((s : Snapshot) → HasSnapshot mine s → HasSnapshot next s)
    → HoldsLook slot table (Some next) held before era
look_on slot table reader held before era mine next h there round keeps = let is : h.shown.mine ≡ mine = ap half_in (sym h.shown.there ∙ there) in record {
  slot_is = h.slot_is;
  shown = record {
    mine = next;
    there = refl;
    together = ap table_of round ∙ ap (λ (z : PassFacts). table_of z.round) (sym is) ∙ h.shown.together;
    shows = keeps held (subst (λ (z : PassFacts). HasSnapshot z held) is h.shown.shows);
    dated = h.shown.dated ∙ ap (λ (z : PassFacts). z.round.era + 1) is ∙ ap (λ (z : RoundFacts). z.era + 1) (sym round);
  };
  showed = keeps before (subst (λ (z : PassFacts). HasSnapshot z before) is h.showed);
}

-- a look that took a newer snapshot with its handle, of its round or of another one
module _ (slot : Option TableFacts) (table : TableFacts) (reader new : Option PassFacts) (held before held' : Snapshot) (era era' lane : ℕ) (a b : HandleFacts) (h : HoldsLook slot table reader held before era) (s : HandleShows reader new era' held' a b) (own : IsLookOf a (record { lane = lane; reader = half_in reader; snapshot = held; before = before })) where
  abbrev mine : PassFacts
  mine = h.shown.mine

  was : half_in reader ≡ mine
  was = ap half_in h.shown.there

  together : table_of b.half.round ≡ table
  together = shows_table reader new era' held' a b s ∙ sym own.table ∙ ap (λ (z : PassFacts). table_of z.round) was ∙ h.shown.together

  shown : IsShownIn table new era' held'
  shown = shown_in table reader new era' held' a b s together

  up : TakesUp mine b.half
  up = subst (λ (o : Option PassFacts). IfSome o (λ r. TakesUp r b.half)) h.shown.there s.shown.takes_up

  is_era : (half_in new).round.era ≡ b.half.round.era
  is_era = ap (λ (z : Option PassFacts). (half_in z).round.era) s.shown.there ∙ ap (λ (z : PassFacts). z.round.era) s.shown.lends.reader_is

  abbrev looked : LookFacts
  looked = record { lane = lane; reader = half_in reader; snapshot = held; before = before }

  shows_it : (last : Snapshot) → ShowsTo a b (record { lane = lane; reader = half_in new; snapshot = held'; before = last })
  shows_it last = shows_to reader new era' held' last a b lane s (own.lane ∙ sym (shows_lane reader new era' held' a b s))

  pub holds_other : HoldsLook slot table new held' held' era'
  holds_other = record { slot_is = h.slot_is; shown = shown; showed = shown.shows }

  module _ (same : era' ≡ era) where
    of_round : mine.round.era ≡ b.half.round.era
    of_round = let dated = s.shown.dated in let was_dated = h.shown.dated in omega (arith, dated, was_dated, same)

    kept : HasSnapshot b.half held × (set_at b.half held ≡ set_at mine held)
    kept = up of_round held h.shown.shows

    pub holds_same_round : HoldsLook slot table new held' held era
    unfolding shown shown_in
    holds_same_round = subst (HoldsLook slot table new held' held) same record { slot_is = h.slot_is; shown = shown; showed = s.shown.lends.snapshots held kept.0 }

    pub looks_same : LooksAgain true looked (record { lane = lane; reader = half_in new; snapshot = held'; before = held }) a b
    looks_same = record {
      shows = shows_it held;
      same_round = λ _. (
        is_era ∙ sym of_round ∙ ap (λ (z : PassFacts). z.round.era) (sym was),
        refl,
        ap (λ (z : Option PassFacts). set_at (half_in z) held) s.shown.there ∙ s.shown.lends.same_sets held kept.0 ∙ kept.1 ∙ ap (λ (z : PassFacts). set_at z held) (sym was),
      );
      other_round = λ f. absurd (false≢true (sym f));
    }

-- a reader shows it in the table of what lay in the slot of the handle, which was as it was before
pub shown_at : (table taken : TableFacts) (old new : Option PassFacts) (era : ℕ) (held : Snapshot) (first a b : HandleFacts) → HandleShows old new era held a b → a ≡ first → table ≡ taken → taken ≡ table_of first.half.round → IsShownIn table new era held
shown_at table taken old new era held first a b s same is lay = shown_in table old new era held a b s (shows_table old new era held a b s ∙ ap (λ (z : HandleFacts). table_of z.half.round) same ∙ sym (is ∙ lay))
