pub mod Lanes
pub mod Columns
pub mod Horner
pub mod Sums
pub mod PlaneBits
pub mod SumColumns
