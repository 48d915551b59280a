-- What the functions of `serving` are held to.
pub mod Serving
