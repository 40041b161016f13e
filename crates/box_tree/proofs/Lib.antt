pub mod HeightLemmas
pub mod IndexLemmas
pub mod KeptLemmas
pub mod RayLemmas
pub mod RisingLemmas
pub mod ScanLemmas
pub mod SortLemmas
