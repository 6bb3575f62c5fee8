-- What no promise rests on: what private fields keep, what private calls leave, how views come of fields, and lemmas.
pub mod Builds
pub mod Laying
pub mod RestState
pub mod SeatState
pub mod Stocking
