pub mod Disabling
