pub mod Cookie
