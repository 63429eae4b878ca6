pub mod Configurations
pub mod KeyTables
pub mod Listings
