-- Definitions that public clauses cite.
pub mod Answers
pub mod Codes
pub mod Delays
pub mod FirstLine
pub mod Held
pub mod Limits
pub mod Lines
pub mod Places
pub mod PolicyKeywords
pub mod Positions
pub mod Sections
pub mod Statements
pub mod Text
-- What private functions, the inside of types and proofs cite.
pub mod Counting
pub mod FormShapes
pub mod Forms
pub mod Moves
pub mod Trimmed
