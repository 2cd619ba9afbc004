pub mod Columns
pub mod Tests
pub mod Keys
pub mod Choice
pub mod Points
pub mod Firsts
