-- What no promise rests on: what private fields keep, what private calls leave, how views come of fields, and lemmas.
pub mod Answered
pub mod Refusals
pub mod SameLanes
pub mod KeyRequests
pub mod ContentCode
pub mod SlotLends
