mod Adding
mod Flags
pub mod Lanes
pub mod Carries
mod Popped
mod Tied
mod Dealing
mod Moving
mod Counted
mod Ledgers
mod Accounting
mod OneLane
mod DeskSteps
mod Looked
mod Beginning
mod Desks
mod Handing
mod Slotted
mod Shown
mod Looking
mod Planning
mod Rolled
