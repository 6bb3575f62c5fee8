mod StepTests
mod LaneTests
mod ReuseTests
