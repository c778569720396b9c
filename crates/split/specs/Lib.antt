pub mod Faces
pub mod Near
pub mod Parted
pub mod Settling
pub mod Splitters
