-- Definitions that public clauses cite.
pub mod FirstRows
pub mod Meaning
pub mod SomeMeaning
pub mod SomeMeaningEnvs
pub mod SomeMeaningRows
pub mod SomeMeaningTables
-- What private functions, the inside of types and proofs cite.
pub mod Lets
pub mod Nexts
pub mod Run
pub mod Shape
pub mod SomeMeaningStreams
pub mod Streams
pub mod Taken
