pub mod BoxLists
pub mod Indexes
pub mod Tables
