-- What no promise rests on: what private fields keep, what private calls leave, how views come of fields, and lemmas.
pub mod Returns
pub mod RoundLanes
pub mod Owed
pub mod Workers
