-- What the proofs of airline lists share.

pub mod CodeLaws
pub mod FormLaws
pub mod HeadLaws
pub mod LineLaws
pub mod BitLaws
pub mod KeptLaws
pub mod ReadingLaws
pub mod WordLaws
pub mod AirlineLaws
pub mod ClosingLaws
pub mod AcceptedLaws
