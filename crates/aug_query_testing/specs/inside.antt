-- What no promise rests on: what private fields keep, and how a node of a tree in memory is one of the set's.
pub mod FakeNodes
pub mod Rows
