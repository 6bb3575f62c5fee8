-- What no promise rests on: what private fields keep, what private calls leave, how views come of fields, and lemmas.
pub mod ClearParts
pub mod EntryCuts
pub mod EraSteps
pub mod LaneStates
pub mod LayoutState
pub mod OwnNumbers
pub mod Reclaims
pub mod Refreshes
pub mod RootCuts
pub mod Shows
pub mod WordPlaces
