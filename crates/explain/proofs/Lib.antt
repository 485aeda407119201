mod Ending
mod Sole
mod Worded
