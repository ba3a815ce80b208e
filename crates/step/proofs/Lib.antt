-- The laws of a step.
pub mod StepLaws
