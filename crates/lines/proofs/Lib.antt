mod Counting
mod Piecing
