-- What a lane's rows tell of the history.
use Rattle.std.proofs.Common.{◌≡◌, ℕ, ◌+◌, ◌%◌, ◌<◌, ◌≤◌, Bool, true, false, cond, ◌==◌, List, [], ◌∷◌, ◌++◌, length, map, filter, refl, ap, sym, ◌∙◌, inl, inr, arith, append_assoc, if◌then◌else◌}
use Rattle.std.proofs.lemmas.Bool.{eq-eqb, ne_eqb}
use Rattle.std.proofs.lemmas.List.{append-nil}
use Rattle.std.proofs.lemmas.List.Elements.{All-nil, All-cons, All-append, All-weaker}
use Rattle.aug_model.specs.Keys.{is_member, keys_of, with_pair, without_pair}
use Rattle.aug_model.specs.Queries.{rank_of, select_of, before_of, after_of, weight_of, weighted_range_of}
use Rattle.aug_model.specs.declared.outcome.Outcome.{Outcome}
use Rattle.aug_model.specs.declared.outcome.Outcome.TheVariants as outcome
use Rattle.aug_model.proofs.Pairs.{keys_of-pairs_of}
use Rattle.aug_core.specs.Counts.{change}
use Rattle.aug_core.specs.Cuts.{Cut, shown_of, serial_of, weight_at, set_of_cut, pairs_of_cut, IsAtMost}
use Rattle.aug_core.specs.Prefixes.{IsPrefix}
use Rattle.aug_trie.specs.History.{last_cut, IsHistory}
use Rattle.aug_core.specs.declared.view.Change.{Change}
use Rattle.aug_trie.specs.Knowledge.{Knowledge, StandsIn, insertion, removal, inserts_of, removals_of}
use Rattle.aug_trie.specs.Updates.{AcceptedUpdate, RefusedUpdate, ReplacedUpdate, RefusedPut, ComesTo}
use Rattle.aug_trie.specs.declared.updates.request.Request.TheVariants as request
use Rattle.aug_trie.specs.Tallies.{Tallies}
use Rattle.aug_trie.proofs.Risen.{last-at_most_final, last-rises, tally_nothing}
use Rattle.aug_report.specs.AllowedReport.{Lane, AnswersPut, reply_to_put, Answers, AnswersAll}
use Rattle.aug_monoid.specs.Extent.{extent_parts}
use Rattle.aug_monoid.specs.Sum.{sum_parts}
use Rattle.aug_model.specs.Folds.{summary_of}
use Rattle.aug_script.specs.Replies.{Sets, reply_to, sets_after, replies_of, sets_of, is_insertion, is_removal, count_of}
use Rattle.aug_script.specs.declared.reply.Reply.{Reply}
use Rattle.aug_script.specs.declared.reply.Reply.TheVariants as reply
use Rattle.aug_script.specs.declared.row.Row.{Row}
use Rattle.aug_script.specs.declared.verb.Verb.{Verb}
use Rattle.aug_script.specs.declared.verb.Verb.TheVariants as verb
use Rattle.aug_trie.proofs.CutLemmas.{serial_rises, is_member-set_of_cut, same_cut, odd}
use Rattle.aug_report.proofs.Histories.{below_of, prefix-same, prefix-length}
use Rattle.aug_core.proofs.PrefixLemmas.{prefix_trans}
use Rattle.aug_report.proofs.Advances.{AllShow, AllPast, ChangesOne, tally_one, tally_two, tallies-front, tallies-rest}
use Rattle.aug_trie.proofs.TallyLemmas.{counted, counted-append}
use Rattle.aug_report.proofs.SetChanges.{pairs-with_key, pairs-without_key}

abbrev one_if : Bool → ℕ
one_if b = if b then 1 else 0

-- what was known once and what is known now, and the changes in between
pub record Goes (old new : Knowledge) : Type 0 where
  pub more : List Change
  pub goes_on : IsPrefix old.history new.history
  pub adds : new.accepted ≡ old.accepted ++ more
  pub past : AllPast (last_cut old.history) more
  pub shows : AllShow (last_cut new.history) more

-- the sets of a lane, as a lane that is alone has them
abbrev pub sets_of_lane : Lane → Sets
sets_of_lane lane = record { live = pairs_of_cut (last_cut lane.knows.history); held = pairs_of_cut lane.held }

-- nothing but these changes happened meanwhile
pub record Happened (old new : Lane) (changes : List Change) : Type 0 where
  pub le : IsAtMost (last_cut old.knows.history) (last_cut new.knows.history)
  pub tallies : Tallies (last_cut old.knows.history) (last_cut new.knows.history) changes

-- what a row tells: how many changes it made, and where these are all that happened meanwhile, its one reply
pub record Step (v : Verb) (r : Reply) (old new : Lane) : Type 0 where
  pub goes : Goes old.knows new.knows
  pub inserts : inserts_of goes.more ≡ one_if (is_insertion r)
  pub removals : removals_of goes.more ≡ one_if (is_removal r)
  pub replies : Happened old new goes.more → r ≡ reply_to (sets_of_lane old) v
  pub leads : Happened old new goes.more → sets_of_lane new ≡ sets_after (sets_of_lane old) v

abbrev past_of : Cut → Change → Type 0
past_of cut change = serial_of cut change.key < change.serial

abbrev shows_in : Cut → Change → Type 0
shows_in cut change = change.serial ≤ serial_of cut change.key

-- a change that stands in a cut shows there
stands_shows : (cut : Cut) (c : Change) → StandsIn cut c → shows_in cut c
stands_shows cut c stands = elim stands [
  | inl over ↦ omega (arith, over)
  | inr shown ↦ omega (arith, ap (λ (z : ℕ × ℕ). z.0) shown)
]

-- and where it is the last one, with its weight
stands_weighs : (cut : Cut) (k n w : ℕ) → StandsIn cut (change k n w) → serial_of cut k ≡ n → weight_at cut k ≡ w
stands_weighs cut k n w stands last = elim stands [
  | inl over ↦ absurd (omega (arith, over, last))
  | inr shown ↦ ap (λ (z : ℕ × ℕ). z.1) shown
]

abbrev goes_nowhere : (old new : Knowledge) → IsPrefix old.history new.history → new.accepted ≡ old.accepted → Goes old new
goes_nowhere old new goes_on same = record {
  more = [];
  goes_on = goes_on;
  adds = same ∙ sym (append-nil old.accepted);
  past = All-nil (past_of (last_cut old.history));
  shows = All-nil (shows_in (last_cut new.history));
}

-- an accepted update has one more change
abbrev goes_one : (parity k w : ℕ) (old new : Knowledge) → AcceptedUpdate parity k w old new → Goes old new
goes_one parity k w old new update =
    let one : Change = change k update.number w in
    record {
      more = one ∷ [];
      goes_on = update.goes_on;
      adds = update.adds;
      past = All-cons (past_of (last_cut old.history)) one [] update.is_new (All-nil (past_of (last_cut old.history)));
      shows = All-cons (shows_in (last_cut new.history)) one [] (stands_shows (last_cut new.history) one update.shows) (All-nil (shows_in (last_cut new.history)));
    }

-- a replacement has two
abbrev goes_two : (k w : ℕ) (old new : Knowledge) → ReplacedUpdate k w old new → Goes old new
goes_two k w old new update =
    let gone : Change = change k update.number 0 in
    let one : Change = change k (update.number + 1) w in
    let stands : update.number + 1 ≤ serial_of (last_cut new.history) k = stands_shows (last_cut new.history) one update.shows in
    record {
      more = gone ∷ one ∷ [];
      goes_on = update.goes_on;
      adds = update.adds;
      past = All-cons (past_of (last_cut old.history)) gone (one ∷ []) update.is_new
          (All-cons (past_of (last_cut old.history)) one [] (omega (arith, update.is_new)) (All-nil (past_of (last_cut old.history))));
      shows = All-cons (shows_in (last_cut new.history)) gone (one ∷ []) (omega (arith, stands))
          (All-cons (shows_in (last_cut new.history)) one [] stands (All-nil (shows_in (last_cut new.history))));
    }

-- where nothing happened meanwhile, the cut is as it was
same_last : (old new : Lane) → Happened old new [] → last_cut new.knows.history ≡ last_cut old.knows.history
same_last old new h =
    sym (same_cut (last_cut old.knows.history) (last_cut new.knows.history) h.le.same_keys (tally_nothing (last_cut old.knows.history) (last_cut new.knows.history) h.le h.tallies))

is_odd : (n : ℕ) → n % 2 ≡ 1 → odd n ≡ true
is_odd n is = eq-eqb (n % 2) 1 is

not_odd : (n : ℕ) → n % 2 ≡ 0 → odd n ≡ false
not_odd n even = ne_eqb (n % 2) 1 (λ e. omega (arith, e, even))

-- a key is a member of a lane's set where its serial is odd
pub there_if_odd : (cut : Cut) (k : ℕ) → is_member (keys_of (pairs_of_cut cut)) k ≡ odd (serial_of cut k)
there_if_odd cut k = ap (λ (l : List ℕ). is_member l k) (keys_of-pairs_of (weight_at cut) (set_of_cut cut)) ∙ is_member-set_of_cut cut k

module _ (k : ℕ) (old new : Lane) where
  abbrev before : Cut
  before = last_cut old.knows.history

  abbrev after : Cut
  after = last_cut new.knows.history

  abbrev There : Bool → Type 0
  There b = is_member (keys_of (pairs_of_cut before)) k ≡ b

  there_odd : (n : ℕ) → n % 2 ≡ 1 → n ≡ serial_of before k → There true
  there_odd n suits is = there_if_odd before k ∙ is_odd (serial_of before k) (omega (arith, suits, is))

  there_even : (n : ℕ) → n % 2 ≡ 0 → n ≡ serial_of before k → There false
  there_even n suits is = there_if_odd before k ∙ not_odd (serial_of before k) (omega (arith, suits, is))

  -- the key is in now, with this weight
  comes_in : (w first last : ℕ) → ChangesOne before after k first last → last % 2 ≡ 1 → StandsIn after (change k last w) → pairs_of_cut after ≡ with_pair (pairs_of_cut before) k w
  comes_in w first last one suits stands =
      pairs-with_key before after k one.others (is_odd (serial_of after k) (ap (λ n. n % 2) one.reached ∙ suits))
      ∙ ap (with_pair (pairs_of_cut before) k) (stands_weighs after k last w stands one.reached)

  -- or out
  goes_out : (first last : ℕ) → ChangesOne before after k first last → last % 2 ≡ 0 → pairs_of_cut after ≡ without_pair (pairs_of_cut before) k
  goes_out first last one suits = pairs-without_key before after k one.others (not_odd (serial_of after k) (ap (λ n. n % 2) one.reached ∙ suits))

  -- the key's serial stood in the way of a refused update, where nothing happened meanwhile
  stood : (parity : ℕ) (update : RefusedUpdate parity k old.knows new.knows) → after ≡ before → serial_of before k % 2 ≡ parity
  stood parity update same = elim update.stood [ inl suits ↦ suits | inr rises ↦ absurd (omega (arith, rises, ap (λ (d : Cut). serial_of d k) same)) ]

  -- what an accepted insertion, with this weight, says of the set
  put_in : (w : ℕ) (update : AcceptedUpdate insertion k w old.knows new.knows) → Happened old new (change k update.number w ∷ []) → There false × (pairs_of_cut after ≡ with_pair (pairs_of_cut before) k w)
  put_in w update h =
      let one = tally_one before after k update.number w h.le h.tallies in
      (there_even (serial_of before k) (omega (arith, one.begins, update.suits)) refl, comes_in w update.number update.number one update.suits update.shows)

  -- and a replacement
  put_over : (w : ℕ) (update : ReplacedUpdate k w old.knows new.knows) → Happened old new (change k update.number 0 ∷ change k (update.number + 1) w ∷ []) → There true × (pairs_of_cut after ≡ with_pair (pairs_of_cut before) k w)
  put_over w update h =
      let one = tally_two before after k update.number 0 w h.le h.tallies in
      (there_odd (serial_of before k) (omega (arith, one.begins, update.suits)) refl, comes_in w update.number (update.number + 1) one update.suits update.shows)

  -- where nothing happened meanwhile, no put was refused
  never_lost : RefusedPut k old.knows new.knows → Happened old new [] → ⊥
  never_lost update h = omega (arith, update.rises, ap (λ (d : Cut). serial_of d k) (same_last old new h))

  -- what an accepted removal says
  taken_out : (update : AcceptedUpdate removal k 0 old.knows new.knows) → Happened old new (change k update.number 0 ∷ []) → There true × (pairs_of_cut after ≡ without_pair (pairs_of_cut before) k)
  taken_out update h =
      let one = tally_one before after k update.number 0 h.le h.tallies in
      (there_odd (serial_of before k) (omega (arith, one.begins, update.suits)) refl, goes_out update.number update.number one update.suits)

  module _ (r : Reply) (holds : new.held ≡ old.held) where
    -- the lane holds its snapshot still
    sets_are : (live : List (ℕ × ℕ)) → pairs_of_cut after ≡ live → sets_of_lane new ≡ record { live = live; held = pairs_of_cut old.held }
    sets_are live is = λ i. record { live = is i; held = pairs_of_cut (holds i) }

    step_new : r ≡ reply.New → AcceptedUpdate insertion k k old.knows new.knows → Step (verb.Insert k) r old new
    step_new is update = record {
      goes = goes_one insertion k k old.knows new.knows update;
      inserts = rw (is, eq-eqb (update.number % 2) 1 update.suits) refl;
      removals = rw (is, ne_eqb (update.number % 2) 0 (λ e. omega (arith, e, update.suits))) refl;
      replies = λ h. rw (is, (put_in k update h).0) refl;
      leads = λ h. rw (put_in k update h).0 (sets_are (with_pair (pairs_of_cut before) k k) (put_in k update h).1);
    }

    step_put : (w : ℕ) → r ≡ reply.New → AcceptedUpdate insertion k w old.knows new.knows → Step (verb.Put k w) r old new
    step_put w is update = record {
      goes = goes_one insertion k w old.knows new.knows update;
      inserts = rw (is, eq-eqb (update.number % 2) 1 update.suits) refl;
      removals = rw (is, ne_eqb (update.number % 2) 0 (λ e. omega (arith, e, update.suits))) refl;
      replies = λ h. rw (is, (put_in w update h).0) refl;
      leads = λ h. sets_are (with_pair (pairs_of_cut before) k w) (put_in w update h).1;
    }

    step_set : (w : ℕ) → r ≡ reply.Set → ReplacedUpdate k w old.knows new.knows → Step (verb.Put k w) r old new
    step_set w is update = record {
      goes = goes_two k w old.knows new.knows update;
      inserts = rw (is, ne_eqb (update.number % 2) 1 (λ e. omega (arith, e, update.suits)), eq-eqb ((update.number + 1) % 2) 1 update.suits) refl;
      removals = rw (is, eq-eqb (update.number % 2) 0 (omega (arith, update.suits)), ne_eqb ((update.number + 1) % 2) 0 (λ e. omega (arith, e, update.suits))) refl;
      replies = λ h. rw (is, (put_over w update h).0) refl;
      leads = λ h. sets_are (with_pair (pairs_of_cut before) k w) (put_over w update h).1;
    }

    step_lost : (w : ℕ) → r ≡ reply.Lost → RefusedPut k old.knows new.knows → Step (verb.Put k w) r old new
    step_lost w is update = record {
      goes = goes_nowhere old.knows new.knows update.goes_on update.same_changes;
      inserts = rw is refl;
      removals = rw is refl;
      replies = λ h. absurd (never_lost update h);
      leads = λ h. absurd (never_lost update h);
    }

    step_gone : r ≡ reply.Gone → AcceptedUpdate removal k 0 old.knows new.knows → Step (verb.Remove k) r old new
    step_gone is update = record {
      goes = goes_one removal k 0 old.knows new.knows update;
      inserts = rw (is, ne_eqb (update.number % 2) 1 (λ e. omega (arith, e, update.suits))) refl;
      removals = rw (is, eq-eqb (update.number % 2) 0 update.suits) refl;
      replies = λ h. rw (is, (taken_out update h).0) refl;
      leads = λ h. sets_are (without_pair (pairs_of_cut before) k) (taken_out update h).1;
    }

    step_old : r ≡ reply.Old → RefusedUpdate insertion k old.knows new.knows → Step (verb.Insert k) r old new
    step_old is update = record {
      goes = goes_nowhere old.knows new.knows update.goes_on update.same_changes;
      inserts = rw is refl;
      removals = rw is refl;
      replies = λ h. rw (is, there_odd (serial_of before k) (stood insertion update (same_last old new h)) refl) refl;
      leads = λ h. rw (there_odd (serial_of before k) (stood insertion update (same_last old new h)) refl) (sets_are (pairs_of_cut before) (ap pairs_of_cut (same_last old new h)));
    }

    step_absent : r ≡ reply.Absent → RefusedUpdate removal k old.knows new.knows → Step (verb.Remove k) r old new
    step_absent is update = record {
      goes = goes_nowhere old.knows new.knows update.goes_on update.same_changes;
      inserts = rw is refl;
      removals = rw is refl;
      replies = λ h. rw (is, there_even (serial_of before k) (stood removal update (same_last old new h)) refl) refl;
      leads = λ h.
          let same = same_last old new h in
          let even = not_odd (serial_of after k) (omega (arith, stood removal update same, ap (λ (d : Cut). serial_of d k) same)) in
          sets_are (without_pair (pairs_of_cut before) k) (pairs-without_key before after k (λ j _. ap (λ (d : Cut). shown_of d j) same) even);
    }

step_look : (r : Reply) (old new : Lane) → Answers verb.Look r old new → Step verb.Look r old new
step_look r old new looks = record {
  goes = goes_nowhere old.knows new.knows looks.1.goes_on looks.1.same_changes;
  inserts = rw looks.0 refl;
  removals = rw looks.0 refl;
  replies = λ h. looks.0;
  leads = λ h.
      let same = same_last old new h in
      let held = looks.1.is_last ∙ same in
      λ i. record { live = pairs_of_cut (same i); held = pairs_of_cut (held i) };
}

step_asks : (v : Verb) (about : List (ℕ × ℕ) → Reply) → ((s : Sets) → reply_to s v ≡ about s.held) → ((s : Sets) → sets_after s v ≡ s)
    → ((pairs : List (ℕ × ℕ)) → is_insertion (about pairs) ≡ false) → ((pairs : List (ℕ × ℕ)) → is_removal (about pairs) ≡ false)
    → (r : Reply) (old new : Lane) → (r ≡ about (pairs_of_cut old.held)) × (new ≡ old) → Step v r old new
step_asks v about says keeps no_insertion no_removal r old new asks = record {
  goes = goes_nowhere old.knows new.knows (prefix-same old.knows.history new.knows.history (ap (λ (l : Lane). l.knows.history) asks.1)) (ap (λ (l : Lane). l.knows.accepted) asks.1);
  inserts = sym (ap one_if (ap is_insertion asks.0 ∙ no_insertion (pairs_of_cut old.held)));
  removals = sym (ap one_if (ap is_removal asks.0 ∙ no_removal (pairs_of_cut old.held)));
  replies = λ h. asks.0 ∙ sym (says (sets_of_lane old));
  leads = λ h. ap sets_of_lane asks.1 ∙ sym (keeps (sets_of_lane old));
}

yes_no : (test : Reply → Bool) → test reply.Yes ≡ false → test reply.No ≡ false → (b : Bool) → test (if b then reply.Yes else reply.No) ≡ false
yes_no test t f true = t
yes_no test t f false = f

-- what a put tells
step_puts : (k w : ℕ) (r : Reply) (old new : Lane) → AnswersPut k w r old new → Step (verb.Put k w) r old new
step_puts k w r old new a = by_outcome a.outcome a.puts a.answers
  where
    by_outcome : (done : Outcome) → ComesTo (request.Put w) k done old.knows new.knows → r ≡ reply_to_put done → Step (verb.Put k w) r old new
    by_outcome outcome.Accepted puts is = step_put k old new r a.holds_still w is puts
    by_outcome outcome.Replaced puts is = step_set k old new r a.holds_still w is puts
    by_outcome outcome.Refused puts is = step_lost k old new r a.holds_still w is puts
    by_outcome outcome.Unchanged puts is = absurd puts
    by_outcome outcome.TooGreat puts is = absurd puts
    by_outcome outcome.TooLittle puts is = absurd puts

-- each row tells so
pub step : (v : Verb) (r : Reply) (old new : Lane) → Answers v r old new → Step v r old new
step (verb.Insert k) r old new a = elim a.outcome [ inl h ↦ step_new k old new r a.holds_still h.0 h.1 | inr h ↦ step_old k old new r a.holds_still h.0 h.1 ]
step (verb.Put k w) r old new a = step_puts k w r old new a
step (verb.Remove k) r old new a = elim a.outcome [ inl h ↦ step_gone k old new r a.holds_still h.0 h.1 | inr h ↦ step_absent k old new r a.holds_still h.0 h.1 ]
step verb.Look r old new a = step_look r old new a
step (verb.Has k) r old new a = step_asks (verb.Has k) (λ pairs. if is_member (keys_of pairs) k then reply.Yes else reply.No) (λ s. refl) (λ s. refl) (λ pairs. yes_no is_insertion refl refl (is_member (keys_of pairs) k)) (λ pairs. yes_no is_removal refl refl (is_member (keys_of pairs) k)) r old new a
step (verb.Weight k) r old new a = step_asks (verb.Weight k) (λ pairs. reply.Found (weight_of pairs k)) (λ s. refl) (λ s. refl) (λ pairs. refl) (λ pairs. refl) r old new a
step verb.Size r old new a = step_asks verb.Size (λ pairs. reply.Number (length (keys_of pairs))) (λ s. refl) (λ s. refl) (λ pairs. refl) (λ pairs. refl) r old new a
step (verb.Rank k) r old new a = step_asks (verb.Rank k) (λ pairs. reply.Number (rank_of (keys_of pairs) k)) (λ s. refl) (λ s. refl) (λ pairs. refl) (λ pairs. refl) r old new a
step (verb.Select i) r old new a = step_asks (verb.Select i) (λ pairs. reply.Found (select_of (keys_of pairs) i)) (λ s. refl) (λ s. refl) (λ pairs. refl) (λ pairs. refl) r old new a
step (verb.Before k) r old new a = step_asks (verb.Before k) (λ pairs. reply.Found (before_of (keys_of pairs) k)) (λ s. refl) (λ s. refl) (λ pairs. refl) (λ pairs. refl) r old new a
step (verb.After k) r old new a = step_asks (verb.After k) (λ pairs. reply.Found (after_of (keys_of pairs) k)) (λ s. refl) (λ s. refl) (λ pairs. refl) (λ pairs. refl) r old new a
step (verb.Range a b) r old new x = step_asks (verb.Range a b) (λ pairs. reply.Span (summary_of sum_parts extent_parts (weighted_range_of pairs a b))) (λ s. refl) (λ s. refl) (λ pairs. refl) (λ pairs. refl) r old new x

-- what the rows of a lane tell: the changes that they made, and, where these are all that happened from then on, their replies and the last set
pub record Story (history : List Cut) (lines : List (Row × Reply)) (old new : Lane) : Type 0 where
  pub goes : Goes old.knows new.knows
  pub inserts : inserts_of goes.more ≡ count_of is_insertion (map (λ line. line.1) lines)
  pub removals : removals_of goes.more ≡ count_of is_removal (map (λ line. line.1) lines)
  pub replies : Tallies (last_cut old.knows.history) (last_cut history) goes.more → map (λ line. line.1) lines ≡ replies_of (sets_of_lane old) (map (λ line. line.0) lines)
  pub closes : Tallies (last_cut old.knows.history) (last_cut history) goes.more → pairs_of_cut (last_cut history) ≡ (sets_of (sets_of_lane old) (map (λ line. line.0) lines)).live

count-cons : (test : Reply → Bool) (r : Reply) (rs : List Reply) → count_of test (r ∷ rs) ≡ one_if (test r) + count_of test rs
count-cons test r rs = by_test (test r)
  where
    by_test : (b : Bool) → length (cond b (r ∷ filter test rs) (filter test rs)) ≡ one_if b + length (filter test rs)
    by_test true = omega arith
    by_test false = omega arith

changes-append : (p : ℕ → ℕ → Bool) (xs ys : List Change) → counted p (xs ++ ys) ≡ counted p xs + counted p ys
changes-append p xs ys = counted-append p xs ys

module _ (bits : ℕ) (members : List (ℕ × ℕ)) (history : List Cut) (is_history : IsHistory bits members history) where
  -- one row and then the rest
  story_more : (line : Row × Reply) (lines : List (Row × Reply)) (old next new : Lane)
      → 0 < length old.knows.history → IsPrefix new.knows.history history
      → Step line.0.verb line.1 old next → Story history lines next new → Story history (line ∷ lines) old new
  unfolding replies_of sets_of
  story_more line lines old next new some within first rest =
      let next_within = prefix_trans next.knows.history new.knows.history history rest.goes.goes_on within in
      let le = last-rises bits members history is_history old.knows.history next.knows.history some first.goes.goes_on next_within in
      let longer = prefix-length old.knows.history next.knows.history first.goes.goes_on in
      let up = last-rises bits members history is_history next.knows.history new.knows.history (omega (arith, some, longer)) rest.goes.goes_on within in
      let to_end = last-at_most_final bits members history is_history next.knows.history (omega (arith, some, longer)) next_within in
      let front = λ (t : Tallies (last_cut old.knows.history) (last_cut history) (first.goes.more ++ rest.goes.more)).
      tallies-front (last_cut old.knows.history) (last_cut next.knows.history) (last_cut history) first.goes.more rest.goes.more t (below_of (last_cut old.knows.history) (last_cut next.knows.history) le) (below_of (last_cut next.knows.history) (last_cut history) to_end) first.goes.shows rest.goes.past in
      let back = λ (t : Tallies (last_cut old.knows.history) (last_cut history) (first.goes.more ++ rest.goes.more)).
      tallies-rest (last_cut old.knows.history) (last_cut next.knows.history) (last_cut history) first.goes.more rest.goes.more t (below_of (last_cut old.knows.history) (last_cut next.knows.history) le) (below_of (last_cut next.knows.history) (last_cut history) to_end) first.goes.shows rest.goes.past in
      let only : Tallies (last_cut old.knows.history) (last_cut history) (first.goes.more ++ rest.goes.more) → Happened old next first.goes.more = λ t. record { le = le; tallies = front t } in
      record {
        goes = record {
          more = first.goes.more ++ rest.goes.more;
          goes_on = prefix_trans old.knows.history next.knows.history new.knows.history first.goes.goes_on rest.goes.goes_on;
          adds = rest.goes.adds ∙ ap (λ l. l ++ rest.goes.more) first.goes.adds ∙ append_assoc old.knows.accepted first.goes.more rest.goes.more;
          past = All-append (past_of (last_cut old.knows.history)) first.goes.more rest.goes.more first.goes.past
              (All-weaker (past_of (last_cut next.knows.history)) (past_of (last_cut old.knows.history)) (λ c h. omega (arith, h, serial_rises (last_cut old.knows.history) (last_cut next.knows.history) c.key le)) rest.goes.more rest.goes.past);
          shows = All-append (shows_in (last_cut new.knows.history)) first.goes.more rest.goes.more
              (All-weaker (shows_in (last_cut next.knows.history)) (shows_in (last_cut new.knows.history)) (λ c h. omega (arith, h, serial_rises (last_cut next.knows.history) (last_cut new.knows.history) c.key up)) first.goes.more first.goes.shows) rest.goes.shows;
        };
        inserts = omega (arith, changes-append (λ k n. n % 2 == 1) first.goes.more rest.goes.more, first.inserts, rest.inserts, count-cons is_insertion line.1 (map (λ l. l.1) lines));
        removals = omega (arith, changes-append (λ k n. n % 2 == 0) first.goes.more rest.goes.more, first.removals, rest.removals, count-cons is_removal line.1 (map (λ l. l.1) lines));
        replies = λ t. ap (λ r. r ∷ map (λ l. l.1) lines) (first.replies (only t))
            ∙ ap (λ rs. reply_to (sets_of_lane old) line.0.verb ∷ rs) (rest.replies (back t) ∙ ap (λ (s : Sets). replies_of s (map (λ l. l.0) lines)) (first.leads (only t)));
        closes = λ t. rest.closes (back t) ∙ ap (λ (s : Sets). (sets_of s (map (λ l. l.0) lines)).live) (first.leads (only t));
      }

  story_none : (old new : Lane) → new ≡ old → 0 < length old.knows.history → IsPrefix new.knows.history history → Story history [] old new
  unfolding replies_of sets_of
  story_none old new stays some within =
      let old_within = prefix_trans old.knows.history new.knows.history history (prefix-same old.knows.history new.knows.history (ap (λ (l : Lane). l.knows.history) stays)) within in
      let le = last-at_most_final bits members history is_history old.knows.history some old_within in
      record {
        goes = goes_nowhere old.knows new.knows (prefix-same old.knows.history new.knows.history (ap (λ (l : Lane). l.knows.history) stays)) (ap (λ (l : Lane). l.knows.accepted) stays);
        inserts = refl;
        removals = refl;
        replies = λ t. refl;
        closes = λ t. ap pairs_of_cut (sym (same_cut (last_cut old.knows.history) (last_cut history) le.same_keys (tally_nothing (last_cut old.knows.history) (last_cut history) le t)));
      }

  pub story : (lines : List (Row × Reply)) (old new : Lane) → AnswersAll lines old new → 0 < length old.knows.history → IsPrefix new.knows.history history → Story history lines old new
  unfolding AnswersAll
  story [] old new runs some within = story_none old new runs some within
  story (line ∷ lines) old new runs some within =
      let first = step line.0.verb line.1 old runs.0 runs.1 in
      let longer = prefix-length old.knows.history runs.0.knows.history first.goes.goes_on in
      story_more line lines old runs.0 new some within first (story lines runs.0 new runs.2 (omega (arith, some, longer)) within)
