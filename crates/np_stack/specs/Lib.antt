pub mod HeaderStack
