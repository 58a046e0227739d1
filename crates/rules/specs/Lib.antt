pub mod Calls
pub mod Cases
pub mod Logs
pub mod Rules
