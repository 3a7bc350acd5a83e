pub mod LogCommands
pub mod ModelCommands
pub mod TraceCommands
pub mod Refused
