pub mod ViewLaws
pub mod ConfinedLaws
pub mod JudgedAlike
pub mod ServedAlike
pub mod LocalLaws
