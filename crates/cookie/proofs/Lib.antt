mod Cookies
mod Determined
