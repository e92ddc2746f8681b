pub mod NotRefused
