pub mod Grammar
pub mod Reading
pub mod Faults
pub mod Told
pub mod Laws
