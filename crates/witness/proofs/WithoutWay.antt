-- The way is needed: one module leaves for the reset vector's address, one resets, and a request is pending. Assumes nothing.
use Rattle.std.proofs.Common.{Option, None, Some, refl, [], ◌∷◌, ℕ}
use Rattle.definition.specs.Setting.{no_trace, setting_of}
use Rattle.secrecy.specs.Sighting.{View}
use Rattle.secrecy.specs.Visit.{Way, leaving, own_reset, VisitEnd, ended, own_cycles}
use Rattle.witness.specs.Lines.{M}
use Rattle.witness.specs.Needed.{EqualButWay, WayNeeded}
use Rattle.witness.proofs.Pairs.{Pair, pair_layout, Shown, shown_computes, equal_as_far, one_visit, refuted}

-- outside: MOV #0040 0 at the reset vector's address 0000, GIE clear; one module is NOP, NOP, JMP &5, the other 0000, which does not
-- decode: four cycles each. A request at stamp 3. The clock value is that of the ends, so that no later visit is asked
unfoldable pair : Pair
pair =
    record {
      setting = setting_of pair_layout (3 ∷ []) no_trace;
      outer = M 0x0000 0x4030 ∷ M 0x0002 0x0040 ∷ [];
      module_a = record { words = M 0x0040 0x4303 ∷ M 0x0042 0x4303 ∷ M 0x0044 0x4500 ∷ []; steps = 5 };
      module_b = record { words = M 0x0040 0x0000 ∷ []; steps = 3 };
      last = 6;
    }

-- the stamp in the slot, 0 where it is empty
abbrev stamp_in : Option ℕ → ℕ
stamp_in None = 0
stamp_in (Some s) = s

-- the slot before each step outside
abbrev slot_seen : View → ℕ
slot_seen v = stamp_in v.slot

-- the end at 0000, at clock 6 after 4 own cycles, in this way
abbrev end_by : Way → VisitEnd
end_by way =
    record {
      clock = 6;
      own = 4;
      way = way;
      registers = 0x0000 ∷ 0 ∷ 0 ∷ 0 ∷ 0 ∷ 0 ∷ 0 ∷ 0 ∷ 0 ∷ 0 ∷ 0 ∷ 0 ∷ 0 ∷ 0 ∷ 0 ∷ 0 ∷ [];
    }

-- what is shown by the module that leaves
abbrev shows_left : Shown
shows_left = record { visits = record { start = 2; fate = ended (end_by leaving) } ∷ []; seen = 0 ∷ 3 ∷ [] }

-- and by the one that resets
abbrev shows_reset : Shown
shows_reset = record { visits = record { start = 2; fate = ended (end_by own_reset) } ∷ []; seen = 0 ∷ 0 ∷ [] }

pub way_needed : WayNeeded
unfolding WayNeeded shown_computes pair equal_as_far
way_needed =
    refuted own_cycles EqualButWay slot_seen pair shows_left shows_reset refl refl refl refl refl
    (one_visit EqualButWay 6 2 2 (end_by leaving) (end_by own_reset) (refl, refl)) refl
