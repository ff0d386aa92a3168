mod Lengths
mod Laid
mod Behind
