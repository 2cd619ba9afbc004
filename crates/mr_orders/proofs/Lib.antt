pub mod Totals
pub mod Sorts
pub mod Rising
pub mod Ties
pub mod Tables
