-- Registers are needed: two modules that leave alike, but for r5. Assumes nothing.
use Rattle.std.proofs.Common.{refl, [], ◌∷◌, ℕ}
use Rattle.definition.specs.Setting.{no_trace, setting_of}
use Rattle.definition.specs.Registers.{register}
use Rattle.secrecy.specs.Sighting.{View}
use Rattle.secrecy.specs.Visit.{leaving, VisitEnd, ended, own_cycles}
use Rattle.witness.specs.Lines.{M}
use Rattle.witness.specs.Needed.{EqualButRegisters, RegistersNeeded}
use Rattle.witness.proofs.Pairs.{Pair, pair_layout, Shown, shown_computes, equal_as_far, one_visit, refuted}

-- outside: MOV #0040 0 enters the module, HLT at 0010; a module is MOV #0 5 or MOV #1 5, then MOV #0010 0
unfoldable pair : Pair
pair =
    record {
      setting = setting_of pair_layout [] no_trace;
      outer = M 0x0000 0x4030 ∷ M 0x0002 0x0040 ∷ M 0x0010 0x0001 ∷ [];
      module_a = record { words = M 0x0040 0x4035 ∷ M 0x0042 0x0000 ∷ M 0x0044 0x4030 ∷ M 0x0046 0x0010 ∷ []; steps = 4 };
      module_b = record { words = M 0x0040 0x4035 ∷ M 0x0042 0x0001 ∷ M 0x0044 0x4030 ∷ M 0x0046 0x0010 ∷ []; steps = 4 };
      last = 100;
    }

-- r5 before each step outside
abbrev r5_seen : View → ℕ
r5_seen v = register v.registers 5

-- the end at 0010, at clock 6 after 4 own cycles, with this in r5
abbrev end_with : ℕ → VisitEnd
end_with r5 =
    record {
      clock = 6;
      own = 4;
      way = leaving;
      registers = 0x0010 ∷ 0 ∷ 0 ∷ 0 ∷ 0 ∷ r5 ∷ 0 ∷ 0 ∷ 0 ∷ 0 ∷ 0 ∷ 0 ∷ 0 ∷ 0 ∷ 0 ∷ 0 ∷ [];
    }

-- what is shown with that end: r5 at 0010 is seen
abbrev shows : ℕ → Shown
shows r5 = record { visits = record { start = 2; fate = ended (end_with r5) } ∷ []; seen = 0 ∷ r5 ∷ [] }

pub registers_needed : RegistersNeeded
unfolding RegistersNeeded shown_computes pair equal_as_far
registers_needed =
    refuted own_cycles EqualButRegisters r5_seen pair (shows 0) (shows 1) refl refl refl refl refl
    (one_visit EqualButRegisters 100 2 2 (end_with 0) (end_with 1) (refl, refl)) refl
