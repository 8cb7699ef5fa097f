pub mod SeenTests
pub mod BeginTests
