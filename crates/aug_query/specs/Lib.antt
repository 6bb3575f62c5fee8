pub mod Descend
pub mod DescendBoth
pub mod BothMembers
pub mod NodeWalk
pub mod RunningSums
pub mod Tree
pub mod Yields
pub mod inside
