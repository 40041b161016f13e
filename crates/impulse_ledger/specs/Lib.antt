pub mod Totals
pub mod Sums
pub mod Given
