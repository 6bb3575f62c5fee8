-- What no promise rests on: what private fields keep, and what private calls leave.
pub mod Desks
pub mod DeskKnowledge
pub mod LaneKnowledge
pub mod Looks
pub mod Rolls
pub mod Slots
pub mod SameChanges
