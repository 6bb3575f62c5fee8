use Rattle.std.proofs.Common.{refl, ap, if◌then◌else◌, length}
use Rattle.aug_model.specs.Keys.{is_member, keys_of}
use Rattle.aug_model.specs.Queries.{rank_of, select_of, before_of, after_of, weight_of, weighted_range_of}
use Rattle.aug_trie.specs.Knowledge.{insertion, removal}
use Rattle.aug_monoid.specs.Extent.{extent_parts}
use Rattle.aug_monoid.specs.Sum.{sum_parts}
use Rattle.aug_model.specs.Folds.{summary_of}
use Rattle.aug_script.specs.declared.reply.Reply.TheVariants as reply
use Rattle.aug_run.proofs.Answering.{accepted, refused, put, asked}
use Rattle.aug_run.proofs.lanes.answer.answer.Goals as goal

pub returns-then-insert-clause-answers : goal.returns-then-insert-clause-answers
returns-then-insert-clause-answers c =
    rw c.in-Insert.is (accepted _ _ _ c.args.held.now c.requires.held insertion c.in-Insert.key c.in-Insert.key reply.New reply.Old c.insert.ensures.keeps c.if-insert.ensures.accepted)

pub returns-else-insert-clause-answers : goal.returns-else-insert-clause-answers
returns-else-insert-clause-answers c =
    rw c.in-Insert.is (refused _ _ _ c.args.held.now c.requires.held insertion c.in-Insert.key c.in-Insert.key reply.New reply.Old c.insert.ensures.keeps c.if-insert.ensures.refused)

pub returns-in-Put-clause-answers : goal.returns-in-Put-clause-answers
returns-in-Put-clause-answers c =
    rw c.in-Put.is (put _ _ _ c.args.held.now c.requires.held c.in-Put.key c.in-Put.weight c.put.result c.put_reply.result c.put.ensures.keeps c.put.ensures.puts c.put_reply.ensures)

pub returns-then-remove-clause-answers : goal.returns-then-remove-clause-answers
returns-then-remove-clause-answers c =
    rw c.in-Remove.is (accepted _ _ _ c.args.held.now c.requires.held removal c.in-Remove.key 0 reply.Gone reply.Absent c.remove.ensures.keeps c.if-remove.ensures.accepted)

pub returns-else-remove-clause-answers : goal.returns-else-remove-clause-answers
returns-else-remove-clause-answers c =
    rw c.in-Remove.is (refused _ _ _ c.args.held.now c.requires.held removal c.in-Remove.key 0 reply.Gone reply.Absent c.remove.ensures.keeps c.if-remove.ensures.refused)

pub returns-in-Look-clause-answers : goal.returns-in-Look-clause-answers
returns-in-Look-clause-answers c = rw c.in-Look.is (refl, c.snapshot.ensures.takes)

pub returns-then-ask-clause-answers : goal.returns-then-ask-clause-answers
returns-then-ask-clause-answers c =
    rw c.in-Has.is (asked _ _ _ c.args.held.now c.requires.held (λ pairs. if is_member (keys_of pairs) c.in-Has.key then reply.Yes else reply.No) reply.Yes c.ask.ensures.reads.stays
    (ap (λ b. if b then reply.Yes else reply.No) c.if-ask.ensures.answer))

pub returns-else-ask-clause-answers : goal.returns-else-ask-clause-answers
returns-else-ask-clause-answers c =
    rw c.in-Has.is (asked _ _ _ c.args.held.now c.requires.held (λ pairs. if is_member (keys_of pairs) c.in-Has.key then reply.Yes else reply.No) reply.No c.ask.ensures.reads.stays
    (ap (λ b. if b then reply.Yes else reply.No) c.if-ask.ensures.answer))

pub returns-in-Weight-clause-answers : goal.returns-in-Weight-clause-answers
returns-in-Weight-clause-answers c =
    rw c.in-Weight.is (asked _ _ _ c.args.held.now c.requires.held (λ pairs. reply.Found (weight_of pairs c.in-Weight.key)) (reply.Found c.ask-in-Weight.result) c.ask-in-Weight.ensures.reads.stays (ap reply.Found c.ask-in-Weight.ensures.answer))

pub returns-in-Size-clause-answers : goal.returns-in-Size-clause-answers
returns-in-Size-clause-answers c =
    rw c.in-Size.is (asked _ _ _ c.args.held.now c.requires.held (λ pairs. reply.Number (length (keys_of pairs))) (reply.Number c.ask-in-Size.result) c.ask-in-Size.ensures.reads.stays (ap reply.Number c.ask-in-Size.ensures.answer))

pub returns-in-Rank-clause-answers : goal.returns-in-Rank-clause-answers
returns-in-Rank-clause-answers c =
    rw c.in-Rank.is (asked _ _ _ c.args.held.now c.requires.held (λ pairs. reply.Number (rank_of (keys_of pairs) c.in-Rank.key)) (reply.Number c.ask-in-Rank.result) c.ask-in-Rank.ensures.reads.stays (ap reply.Number c.ask-in-Rank.ensures.answer))

pub returns-in-Select-clause-answers : goal.returns-in-Select-clause-answers
returns-in-Select-clause-answers c =
    rw c.in-Select.is (asked _ _ _ c.args.held.now c.requires.held (λ pairs. reply.Found (select_of (keys_of pairs) c.in-Select.index)) (reply.Found c.ask-in-Select.result) c.ask-in-Select.ensures.reads.stays (ap reply.Found c.ask-in-Select.ensures.answer))

pub returns-in-Before-clause-answers : goal.returns-in-Before-clause-answers
returns-in-Before-clause-answers c =
    rw c.in-Before.is (asked _ _ _ c.args.held.now c.requires.held (λ pairs. reply.Found (before_of (keys_of pairs) c.in-Before.key)) (reply.Found c.ask-in-Before.result) c.ask-in-Before.ensures.reads.stays
    (ap reply.Found c.ask-in-Before.ensures.answer))

pub returns-in-After-clause-answers : goal.returns-in-After-clause-answers
returns-in-After-clause-answers c =
    rw c.in-After.is (asked _ _ _ c.args.held.now c.requires.held (λ pairs. reply.Found (after_of (keys_of pairs) c.in-After.key)) (reply.Found c.ask-in-After.result) c.ask-in-After.ensures.reads.stays
    (ap reply.Found c.ask-in-After.ensures.answer))

pub returns-in-Range-clause-answers : goal.returns-in-Range-clause-answers
returns-in-Range-clause-answers c =
    rw c.in-Range.is (asked _ _ _ c.args.held.now c.requires.held (λ pairs. reply.Span (summary_of sum_parts extent_parts (weighted_range_of pairs c.in-Range.from c.in-Range.to))) (reply.Span c.ask-in-Range.result) c.ask-in-Range.ensures.reads.stays
    (ap reply.Span c.ask-in-Range.ensures.answer))
