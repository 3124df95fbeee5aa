-- Definitions that public clauses cite.
pub mod Cells
pub mod Headers
pub mod Records
pub mod Rows
pub mod TraceCodes
pub mod Values
pub mod Written
-- What private functions, the inside of types and proofs cite.
pub mod Columns
pub mod ReaderErrors
