-- How the value that contracts see of a note is made of its field.
use Rattle.aug_words.specs.Seats.{Known}
use Rattle.aug_trie.specs.Note.{NoteFacts}
use Rattle.aug_trie.specs.inside.Knows.{root_history}
use Rattle.aug_trie.specs.inside.RoundState.{round_of, past_rounds}

-- a note whose seat knows this
abbrev pub note_facts : Known → NoteFacts
note_facts known = record { round = round_of known.table known.view; past = past_rounds known.view.shape known.view.past; history = root_history known.view.shape known.view.seen }
