-- Definitions that public clauses cite.
pub mod Blanks
pub mod KeepsSigns
pub mod Kinds
pub mod Lexes
pub mod Line
pub mod Pieces
pub mod Printable
pub mod Reading
pub mod Spelling
pub mod TokenText
pub mod Values
pub mod Keywords
-- What private functions, the inside of types and proofs cite.
pub mod Fronts
pub mod Shapes
