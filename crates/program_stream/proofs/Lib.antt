pub mod Laws
pub mod WholeRun
