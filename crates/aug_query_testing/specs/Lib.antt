pub mod FakeTree
pub mod inside
