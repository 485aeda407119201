mod Added
mod Searching
mod Decisions
mod Searched
mod Shown
