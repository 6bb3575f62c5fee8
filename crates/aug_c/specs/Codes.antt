-- The numbers that the calls answer if they have no other answer: all are below 0. The header `augtrie.h` has the same, which `tests/languages`
-- compares.
use Rattle.std.specs.Prelude.{ℤ, negsuc}

-- there is no such member
abbrev pub none : ℤ
none = negsuc 0

-- the trie was closed, or the handle denotes nothing: it is closed, or it is no handle of this kind
abbrev pub closed : ℤ
closed = negsuc 1

-- the key is none of the trie
abbrev pub bad_key : ℤ
bad_key = negsuc 2

-- the call would have waited for another thread
abbrev pub again : ℤ
again = negsuc 3

-- a request for memory was refused
abbrev pub no_memory : ℤ
no_memory = negsuc 4

-- the bits are outside 1 to 16
abbrev pub bad_bits : ℤ
bad_bits = negsuc 5

-- the users are outside 1 to 64
abbrev pub bad_users : ℤ
bad_users = negsuc 6

-- the memory that the trie may take is too little for its bits and users, or more than any table takes
abbrev pub too_large : ℤ
too_large = negsuc 7

-- all users of the trie are open
abbrev pub no_user : ℤ
no_user = negsuc 8

-- the handle is open already
abbrev pub is_open : ℤ
is_open = negsuc 9

-- an array is too short, or longer than there are keys, or a progress is none of a call for such an array
abbrev pub bad_length : ℤ
bad_length = negsuc 10

-- the user has a look already
abbrev pub looking : ℤ
looking = negsuc 11

-- the user has no look
abbrev pub not_looking : ℤ
not_looking = negsuc 12

-- the weight and the amount together are no weight of 32 bits
abbrev pub too_great : ℤ
too_great = negsuc 13

-- the key is no member, or weighs less than the amount
abbrev pub too_little : ℤ
too_little = negsuc 14
