pub mod Passing
pub mod SessionAgain
pub mod SessionBytesLaws
pub mod SessionBytesNumbers
pub mod SessionKeeps
pub mod SessionOwn
pub mod SessionRefusals
pub mod SessionSized
