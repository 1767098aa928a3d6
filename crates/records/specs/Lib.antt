pub mod Keys
pub mod KeysLemmas
pub mod Values
pub mod ValuesLemmas
