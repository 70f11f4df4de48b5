pub mod Call
pub mod StepBack
