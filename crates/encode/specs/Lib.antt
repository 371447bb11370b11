pub mod Encoder
