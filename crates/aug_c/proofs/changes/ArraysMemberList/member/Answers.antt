use Rattle.std.proofs.Common.{◌∙◌, sym, arith}
use Rattle.std.proofs.lemmas.Slice.Zip.{length-zip, get_or-zip}
use Rattle.aug_c.proofs.changes.ArraysMemberList.member.Goals as goal

pub number_at-key-requires : goal.number_at-key-requires
number_at-key-requires c = let list = c.args.self.now in omega (arith, c.requires, length-zip list.keys.now list.weights.now)

pub number_at-weight-requires : goal.number_at-weight-requires
number_at-weight-requires c = let list = c.args.self.now in omega (arith, c.requires, length-zip list.keys.now list.weights.now)

pub returns : goal.returns
returns c = let list = c.args.self.now in let long = length-zip list.keys.now list.weights.now in
    (λ i. (c.number_at-key.ensures i, c.number_at-weight.ensures i)) ∙ sym (get_or-zip list.keys.now list.weights.now c.args.place (0, 0) (omega (arith, c.requires, long)) (omega (arith, c.requires, long)))
