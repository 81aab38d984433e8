pub mod ApartLemmas
pub mod CopyLemmas
pub mod EditLemmas
pub mod KeyRowLemmas
pub mod ListLemmas
pub mod RisingLemmas
pub mod RoomLemmas
pub mod SlotLemmas
