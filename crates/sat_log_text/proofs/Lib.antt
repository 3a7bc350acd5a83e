pub mod TextLemmas
pub mod NumberLemmas
pub mod PieceLemmas
pub mod ReadLemmas
pub mod PageLaws
pub mod SplitLaws
pub mod LineFaults
pub mod FaultLaws
