use Rattle.std.proofs.Common.{arith}
use Rattle.aug_words.proofs.Builds.{rises, few_keys, ready_number, record_inside_words}
use Rattle.aug_words.proofs.building.Building.record_of.Goals as goal

pub overflow_mul-result : goal.overflow_mul-result
overflow_mul-result g c = let b = c.args.self.now.plan in let o = b.key in let are = b.leaves_are in let first = b.records_are in let node = c.requires.node in let is = ready_number _ o c.args.self.now.words.items c.args.place _ c.requires.ready c.index-number.ensures in
    let room = record_inside_words _ o c.args.self.now.words.items c.args.place (rises o b.key_set) (few_keys b) c.requires.ready (omega arith) in let long = c.requires.ready.long in let few = b.laid_out.words in omega arith

pub overflow_add-result : goal.overflow_add-result
overflow_add-result g c = let b = c.args.self.now.plan in let o = b.key in let are = b.leaves_are in let first = b.records_are in let node = c.requires.node in let is = ready_number _ o c.args.self.now.words.items c.args.place _ c.requires.ready c.index-number.ensures in
    let room = record_inside_words _ o c.args.self.now.words.items c.args.place (rises o b.key_set) (few_keys b) c.requires.ready (omega arith) in let long = c.requires.ready.long in let few = b.laid_out.words in omega arith

pub returns-clause-inside : goal.returns-clause-inside
returns-clause-inside g c = let b = c.args.self.now.plan in let o = b.key in let are = b.leaves_are in let first = b.records_are in let node = c.requires.node in let is = ready_number _ o c.args.self.now.words.items c.args.place _ c.requires.ready c.index-number.ensures in
    let room = record_inside_words _ o c.args.self.now.words.items c.args.place (rises o b.key_set) (few_keys b) c.requires.ready (omega arith) in let long = c.requires.ready.long in let few = b.laid_out.words in omega arith

pub returns-clause-few : goal.returns-clause-few
returns-clause-few g c = let b = c.args.self.now.plan in let o = b.key in let are = b.leaves_are in let first = b.records_are in let node = c.requires.node in let is = ready_number _ o c.args.self.now.words.items c.args.place _ c.requires.ready c.index-number.ensures in
    let room = record_inside_words _ o c.args.self.now.words.items c.args.place (rises o b.key_set) (few_keys b) c.requires.ready (omega arith) in let long = c.requires.ready.long in let few = b.laid_out.words in omega arith
