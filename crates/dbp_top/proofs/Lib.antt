pub mod CommandRows
pub mod CrewRuns
pub mod Endings
pub mod NamedSizes
pub mod Streams
pub mod ArgumentForms
