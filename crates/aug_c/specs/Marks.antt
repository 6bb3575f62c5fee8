-- What an open handle begins with in memory, so that a call tells the handle of a trie from that of a user, and both from any other memory.
use Rattle.std.specs.Prelude.{◌≡◌, ◌==◌, ◌||◌, true, ℕ}

-- that of a trie
abbrev pub trie_mark : ℕ
trie_mark = 7307497714527728993

-- that of a user
abbrev pub user_mark : ℕ
user_mark = 8243121640920544609

-- one of these
abbrev pub IsMark : ℕ → Type 0
IsMark tag = ((tag == user_mark) || (tag == trie_mark)) ≡ true
