pub mod Offers
pub mod Subjects
pub mod TapeSubjects
pub mod Windows
