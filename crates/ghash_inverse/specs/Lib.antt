pub mod Inverse
pub mod StepBack
