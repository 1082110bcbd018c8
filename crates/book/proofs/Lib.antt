mod Found
mod Rounding
mod Judging
