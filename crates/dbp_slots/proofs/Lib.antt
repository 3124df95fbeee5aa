pub mod Blocks
pub mod Fillings
pub mod FreeSlots
pub mod Links
pub mod Marks
pub mod Spots
