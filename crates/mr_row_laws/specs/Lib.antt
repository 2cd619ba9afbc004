pub mod PrimaryOrder
pub mod Codable
