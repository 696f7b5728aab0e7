-- The fast way takes cycles and lengths from the table of instruction words. Assumes nothing.
use Rattle.std.proofs.Common.{sym, false}
use Rattle.isa.specs.Words.{reading}
use Rattle.effect.specs.Laws.{EffectByTable}
use Rattle.effect.proofs.FastWords.{acting_behind}

pub effect_by_table : EffectByTable
unfolding EffectByTable reading
effect_by_table L rs mem w e does =
    let a = acting_behind L false rs mem w e does in
    record {
      instruction = a.instruction;
      decodes = a.decodes;
      takes = sym a.takes;
      leads = a.leads;
    }
