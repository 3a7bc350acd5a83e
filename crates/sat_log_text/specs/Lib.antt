pub mod Page
pub mod LogText
pub mod FaultText
pub mod Answers
pub mod Reading
pub mod TextFault
