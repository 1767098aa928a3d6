mod Cutting
mod Decimals
mod Lone
mod Quoting
