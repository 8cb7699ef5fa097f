pub mod DispatchTests
pub mod DispatchRefusals
pub mod ConsecutiveDispatches
