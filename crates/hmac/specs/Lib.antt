pub mod Hmac
pub mod HmacLaws
