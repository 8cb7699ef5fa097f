pub mod RunTests
