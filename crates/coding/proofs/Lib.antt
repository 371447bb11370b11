pub mod EitherOne
