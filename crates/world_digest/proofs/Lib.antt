pub mod SumLaws
mod ContactLaws
mod ColourLaws
mod TotalLaws
