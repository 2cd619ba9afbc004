pub mod Get
