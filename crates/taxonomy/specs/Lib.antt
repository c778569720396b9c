pub mod Groups
pub mod Cover
pub mod TaxonomyFacts
pub mod Taxonomy
pub mod Refusals
pub mod Examples
