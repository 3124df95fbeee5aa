pub mod OneMore
pub mod Once
pub mod Fitting
pub mod Holding
pub mod Bounds
pub mod Paired
pub mod KeptLines
pub mod Printing
pub mod Reaching
pub mod RunLaws
pub mod Ending
mod BlankTexts
pub mod DocumentLaws
pub mod FaultLaws
pub mod Outcomes
pub mod Following
mod Rooms
mod RoundTrip
pub mod SpelledDocuments
pub mod TextLengths
