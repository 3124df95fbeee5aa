-- Definitions that public clauses cite.
pub mod ExpressionTokens
pub mod ItemTokens
pub mod Printable
pub mod Printed
-- What private functions, the inside of types and proofs cite.
pub mod Stands
