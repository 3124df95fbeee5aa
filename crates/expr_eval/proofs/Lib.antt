pub mod Cycles
pub mod FrontOrders
pub mod LetUses
pub mod Searches
pub mod StackRuns
