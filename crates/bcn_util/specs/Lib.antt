pub mod LeastSquares
pub mod Diffusion
pub mod Dither
pub mod Targets
