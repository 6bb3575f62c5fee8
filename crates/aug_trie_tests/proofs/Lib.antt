-- The proofs of the tests of `aug_trie`.
mod Crewing
