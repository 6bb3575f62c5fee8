-- A round to pick another one for.
use Rattle.std.specs.Prelude.{[]}
use Rattle.aug_trie.specs.Round.{RoundFacts}

-- a round that there is not
abbrev pub no_round : RoundFacts
no_round = record {
  table = record { words = 0; slots = 0; views_name = 0; atom = 0; block = 0; offset = 0; slot_names = [] };
  era = 0;
  bits = 0;
  members = [];
  workers = 0;
  updates = 0;
  room = 0;
}
