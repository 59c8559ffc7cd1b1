pub mod Bytes
pub mod Free
pub mod Headers
pub mod SetSlots
pub mod RuleSlots
pub mod Rises
pub mod Held
pub mod Bridge
