pub mod Hex
pub mod HexLaws
pub mod SaidLaws
