pub mod Alone
pub mod Compared
pub mod Forms
pub mod Keys
pub mod Marks
pub mod OneRow
pub mod Readings
pub mod TabRows
