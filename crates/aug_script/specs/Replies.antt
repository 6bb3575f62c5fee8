-- The replies to the rows of a round, by the definitions of the queries. They are over two sets, the live one and the snapshot. If both are the
-- example, the reply to a `0,size` after `0,insert,2` is 2, and 3 after a `0,look`; that to `0,select,1` is 3, and `0,before,1` finds none. A `set`
-- counts as an insertion and as a removal.
use Rattle.std.specs.Prelude.{ℕ, if◌then◌else◌, Bool, true, false, List, [], ◌∷◌, length, filter}
use Rattle.std.specs.List.{zip}
use Rattle.aug_monoid.specs.Extent.{extent_parts}
use Rattle.aug_monoid.specs.Sum.{sum_parts}
use Rattle.aug_model.specs.Folds.{summary_of}
use Rattle.aug_model.specs.Keys.{is_member, keys_of, with_pair, without_pair}
use Rattle.aug_model.specs.Queries.{after_of, before_of, rank_of, select_of, weight_of, weighted_range_of}
use Rattle.aug_script.specs.declared.reply.Reply.{Reply}
use Rattle.aug_script.specs.declared.reply.Reply.TheVariants as reply
use Rattle.aug_script.specs.declared.report.Report.{Report}
use Rattle.aug_script.specs.declared.row.Row.{Row}
use Rattle.aug_script.specs.declared.verb.Verb.{Verb}
use Rattle.aug_script.specs.declared.verb.Verb.TheVariants as verb

-- a lane's sets, each as the rising list of its members with their weights: the live one, and the snapshot that its queries are
-- answered from
pub record Sets : Type 0 where
  pub live : List (ℕ × ℕ)
  pub held : List (ℕ × ℕ)

-- the reply to a query over a set: for a range the number of its keys, the sum of their weights in a word of 64 bits, and the least and the greatest
-- of them; the verbs that are no queries have no answer from the set
abbrev pub query_reply : List (ℕ × ℕ) → Verb → Reply
query_reply pairs (verb.Has k) = if is_member (keys_of pairs) k then reply.Yes else reply.No
query_reply pairs (verb.Weight k) = reply.Found (weight_of pairs k)
query_reply pairs verb.Size = reply.Number (length (keys_of pairs))
query_reply pairs (verb.Rank k) = reply.Number (rank_of (keys_of pairs) k)
query_reply pairs (verb.Select i) = reply.Found (select_of (keys_of pairs) i)
query_reply pairs (verb.Before k) = reply.Found (before_of (keys_of pairs) k)
query_reply pairs (verb.After k) = reply.Found (after_of (keys_of pairs) k)
query_reply pairs (verb.Range a b) = reply.Span (summary_of sum_parts extent_parts (weighted_range_of pairs a b))
query_reply pairs other = reply.Looked

-- the reply to a verb if one lane runs alone; so no `put` is lost
abbrev pub reply_to : Sets → Verb → Reply
reply_to sets (verb.Insert k) = if is_member (keys_of sets.live) k then reply.Old else reply.New
reply_to sets (verb.Put k w) = if is_member (keys_of sets.live) k then reply.Set else reply.New
reply_to sets (verb.Remove k) = if is_member (keys_of sets.live) k then reply.Gone else reply.Absent
reply_to sets other = query_reply sets.held other

-- the sets after a verb: an inserted key weighs itself, a member that is inserted keeps its weight, and a query leaves all
abbrev pub sets_after : Sets → Verb → Sets
sets_after sets (verb.Insert k) = record { live = if is_member (keys_of sets.live) k then sets.live else with_pair sets.live k k; held = sets.held }
sets_after sets (verb.Put k w) = record { live = with_pair sets.live k w; held = sets.held }
sets_after sets (verb.Remove k) = record { live = without_pair sets.live k; held = sets.held }
sets_after sets verb.Look = record { live = sets.live; held = sets.live }
sets_after sets query = sets

-- the replies to the rows, in order
unfoldable pub replies_of : Sets → List Row → List Reply
replies_of sets [] = []
replies_of sets (row ∷ rows) = reply_to sets row.verb ∷ replies_of (sets_after sets row.verb) rows

-- the sets after the rows
unfoldable pub sets_of : Sets → List Row → Sets
sets_of sets [] = sets
sets_of sets (row ∷ rows) = sets_of (sets_after sets row.verb) rows

-- the reply says that an insertion was accepted, also as part of a replacement
abbrev pub is_insertion : Reply → Bool
is_insertion reply.New = true
is_insertion reply.Set = true
is_insertion answer = false

-- the reply says that a removal was accepted, also as part of a replacement
abbrev pub is_removal : Reply → Bool
is_removal reply.Gone = true
is_removal reply.Set = true
is_removal answer = false

-- how many of the replies pass a test
abbrev pub count_of : (Reply → Bool) → List Reply → ℕ
count_of test replies = length (filter test replies)

-- a lane's sets as a round begins, over a set with these members: its first snapshot is of the whole set
abbrev pub opening_sets : List (ℕ × ℕ) → Sets
opening_sets members = record { live = members; held = members }

-- the report of the round with this number if these rows run one after another over one such lane, whose set has these members at first
abbrev pub report_of : ℕ → List (ℕ × ℕ) → List Row → Report
report_of number members rows = record {
  number = number;
  rows = zip rows (replies_of (opening_sets members) rows);
  size = length (sets_of (opening_sets members) rows).live;
  inserts = count_of is_insertion (replies_of (opening_sets members) rows);
  removals = count_of is_removal (replies_of (opening_sets members) rows);
}
