-- What the proofs of the scan share.

pub mod KeptTexts
pub mod NumberLaws
pub mod PlaceLaws
pub mod ScanLaws
pub mod LineLaws
