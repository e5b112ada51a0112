pub mod BookBytesLaws
pub mod BookBytesNumbers
pub mod BookRefusals
pub mod BookSized
pub mod InPlaceLaws
pub mod Passing
pub mod TableBytesLaws
