pub mod Growth
pub mod History
pub mod Laws
pub mod Legals
pub mod Owners
pub mod Sight
pub mod Tests
pub mod Writes
