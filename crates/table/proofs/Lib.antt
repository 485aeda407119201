pub mod Asked
pub mod Equal
pub mod FromFn
pub mod Made
pub mod Moves
pub mod Placed
pub mod Spanned
pub mod View
