pub mod Palettes
pub mod PaletteError
pub mod Closest
pub mod Rows
