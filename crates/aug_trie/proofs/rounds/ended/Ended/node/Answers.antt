use Rattle.aug_model.specs.Folds.{summary_of}
use Rattle.aug_model.proofs.Ranges.{rises_from}
use Rattle.aug_model.specs.Keys.{keys_of}
use Rattle.aug_trie.proofs.Versions.{version_weighs, told_of_keys}
use Rattle.aug_trie.proofs.rounds.ended.Ended.node.Goals as goal

pub returns-clause-node : goal.returns-clause-node
returns-clause-node g c = let m = g.A.Monoid.parts in let n = g.B.Monoid.parts in let now = c.args.self.now in record {
  is_version = c.requires.is_version;
  is_node = record {
    is_tree_set = c.requires.is_tree_set;
    level_fits = c.requires.level_fits;
    place_fits = c.requires.place_fits;
    tells = told_of_keys (summary_of m n) now.members c.args.level c.args.place c.summary_of_word.result (rises_from (keys_of now.members) c.requires.is_tree_set.is_key_set.rising) c.summary_of_word.ensures;
  };
  weighs = λ low. version_weighs m n now.rest now.members c.args.level c.args.place c.args.word low c.requires.is_version;
}
