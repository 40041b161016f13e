pub mod Joints
pub mod Rows
pub mod Row64
pub mod Centres64
pub mod Laws
