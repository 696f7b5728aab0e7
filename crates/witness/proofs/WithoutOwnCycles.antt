-- Own cycles are needed: two modules that leave alike, one a NOP later. Assumes nothing.
use Rattle.std.proofs.Common.{refl, [], ◌∷◌, ℕ}
use Rattle.secrecy.specs.Visit.{leaving, VisitEnd, ended, own_cycles}
use Rattle.definition.specs.Setting.{no_trace, setting_of}
use Rattle.witness.specs.Lines.{M}
use Rattle.witness.specs.Needed.{EqualButOwn, OwnCyclesNeeded}
use Rattle.witness.proofs.Pairs.{Pair, pair_layout, Shown, clock_seen, shown_computes, equal_as_far, one_visit, refuted}

-- outside: MOV #0040 0 enters the module, HLT at 0010; one module is MOV #0010 0, the other NOP and the same
unfoldable pair : Pair
pair =
    record {
      setting = setting_of pair_layout [] no_trace;
      outer = M 0x0000 0x4030 ∷ M 0x0002 0x0040 ∷ M 0x0010 0x0001 ∷ [];
      module_a = record { words = M 0x0040 0x4030 ∷ M 0x0042 0x0010 ∷ []; steps = 3 };
      module_b = record { words = M 0x0040 0x4303 ∷ M 0x0042 0x4030 ∷ M 0x0044 0x0010 ∷ []; steps = 4 };
      last = 100;
    }

-- the end at 0010, at a clock value and after own cycles
abbrev end_after : ℕ → ℕ → VisitEnd
end_after clock own =
    record {
      clock = clock;
      own = own;
      way = leaving;
      registers = 0x0010 ∷ 0 ∷ 0 ∷ 0 ∷ 0 ∷ 0 ∷ 0 ∷ 0 ∷ 0 ∷ 0 ∷ 0 ∷ 0 ∷ 0 ∷ 0 ∷ 0 ∷ 0 ∷ [];
    }

-- what is shown with that end: the clock at 0010 is seen
abbrev shows : ℕ → ℕ → Shown
shows clock own =
    record { visits = record { start = 2; fate = ended (end_after clock own) } ∷ []; seen = 0 ∷ clock ∷ [] }

pub own_cycles_needed : OwnCyclesNeeded
unfolding OwnCyclesNeeded shown_computes pair equal_as_far
own_cycles_needed =
    refuted own_cycles EqualButOwn clock_seen pair (shows 4 2) (shows 5 3) refl refl refl refl refl
    (one_visit EqualButOwn 100 2 2 (end_after 4 2) (end_after 5 3) (refl, refl)) refl
