pub mod BatchParts
pub mod BatchStarts
pub mod IntoLinks
pub mod JoinedLists
pub mod Located
pub mod Room
pub mod Schedules
