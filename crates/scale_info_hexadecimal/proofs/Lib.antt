mod DigitValues
mod Encoded
mod Lanes
