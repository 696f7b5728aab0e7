pub mod FastSets
pub mod FastRows
pub mod FastWords
pub mod EffectTable
