use Rattle.std.proofs.Common.{rules, ◌<◌, length, arith}
use Rattle.aug_c.proofs.Reading.{one_asked, four_asked}
use Rattle.aug_c.proofs.array_queries.ask_each.Goals as goal

pub loop-place-preserved : goal.loop-place-preserved
loop-place-preserved g c =
    let inv = c.loop-place.invariant in let four = c.ask_four-p in let answers = four.ensures in
    record {
      within = omega (arith, inv.within, c.loop-place-test.true);
      room = inv.room;
      asked = four_asked g.E.KeyQuery.answer_of c.args.keys.now c.args.out.now c.args.look.now c.loop-place.place answers.asked.0 c.loop-place.look four.new.look c.loop-place.out four.result.0 four.result.1 four.result.2 four.result.3
          (omega (arith, inv.within, c.loop-place-test.true)) inv.room inv.asked answers.p answers.q answers.r answers.s answers.asked.1;
    }

pub loop-at-preserved : goal.loop-at-preserved
loop-at-preserved g c =
    let keys = c.args.keys.now in let within : c.loop-at.at < length keys = search rules in
    one_asked g.E.KeyQuery.answer_of keys c.args.out.now c.args.look.now c.loop-at.at c.ask-answer.ensures.asked.0 c.loop-at.look c.ask-answer.new.look c.loop-at.out c.ask-answer.result within c.loop-place.invariant.room c.loop-at.invariant c.ask-answer.ensures.answer c.ask-answer.ensures.asked.1
