pub use Rattle.byte_lanes.proofs.Runs
pub mod Fronts
pub mod GapLaws
pub mod StringLaws
