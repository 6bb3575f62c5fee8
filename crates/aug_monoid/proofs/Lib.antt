pub mod BoundLaws
pub mod FoldLemmas
