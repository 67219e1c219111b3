pub mod Join
pub mod FirstError
pub mod ReadLanes
pub mod Worked
pub mod OrLaws
