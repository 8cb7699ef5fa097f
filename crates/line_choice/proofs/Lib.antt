pub mod StepChoice
