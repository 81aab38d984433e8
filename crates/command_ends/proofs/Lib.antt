pub mod LastLines
