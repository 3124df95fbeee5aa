-- Definitions that public clauses cite.
pub use Rattle.dbp_plan.specs.Ranks
pub use Rattle.dia_tokens.specs.Printable
pub mod BareBodies
pub mod Checks
pub mod Codes
pub mod Diagrams
pub mod Faults
pub mod ItemNames
pub mod Names
pub mod Placed
pub mod RankFaults
pub mod SameTasks
pub mod Shapes
-- What private functions, the inside of types and proofs cite.
pub mod Indexes
pub mod Kinds
pub mod Scopes
pub mod Tests
