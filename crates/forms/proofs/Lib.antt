mod Trimming
mod Legible
