pub mod ControlWord
pub mod ControlArguments
pub mod ControlRequest
