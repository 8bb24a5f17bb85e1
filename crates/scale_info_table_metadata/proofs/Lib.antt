mod Forms
mod Rests
