pub mod RowTrees
