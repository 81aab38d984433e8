pub mod RowTreeLemmas
