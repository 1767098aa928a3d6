pub mod Joining
pub mod Pairs
pub mod Totals
pub mod TotalsLemmas
