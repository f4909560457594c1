pub mod Cells
pub mod Column
pub mod Columns
pub mod Records
