-- Definitions that public clauses cite.
pub mod EndedRows
pub mod Events
pub mod Plays
pub mod Recorders
pub mod Releases
pub mod TaskPieces
