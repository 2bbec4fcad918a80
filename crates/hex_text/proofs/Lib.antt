mod Places
mod Laying
mod Determined
