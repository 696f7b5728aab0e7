-- The effects of fast steps are the table's, and take no more cycles than a fast step is given. Assumes nothing.
use Rattle.std.proofs.Common.{false}
use Rattle.definition.specs.Registers.{register}
use Rattle.effect.specs.Laws.{EffectByTable}
use Rattle.effect.proofs.EffectTable.{effect_by_table}
use Rattle.fast.specs.Laws.{FastByTable}
use Rattle.fast.proofs.FastSteps.{effect_few}

pub fast_by_table : FastByTable
unfolding FastByTable EffectByTable register
fast_by_table L s w e does = (effect_by_table L s.registers s.memory w e does, (effect_few L false s w e does).1)
