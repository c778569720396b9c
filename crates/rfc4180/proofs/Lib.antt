pub mod Agreement
pub mod Damages
pub mod Extents
pub mod Progress
pub mod FieldTells
pub mod LineSteps
pub mod Tells
