pub mod Executor
pub mod Traces
