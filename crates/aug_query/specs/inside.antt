-- What no promise rests on: what private fields keep, what private calls leave, how views come of fields, and lemmas.
pub mod FirstOver
pub mod InOrder
pub mod NodePlaces
pub mod NodeWalkLaws
pub mod Paths
pub mod Since
pub mod Pages
