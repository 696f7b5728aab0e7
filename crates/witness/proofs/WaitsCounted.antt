-- Waits are not own cycles: a request breaks into NOP at once, into MOV #0 7 a cycle later, and the wait is shorter. Assumes nothing.
use Rattle.std.proofs.Common.{refl, [], ◌∷◌, ℕ}
use Rattle.secrecy.specs.Visit.{leaving, VisitEnd, ended}
use Rattle.secrecy.specs.Secrecy.{EqualEnds}
use Rattle.definition.specs.Setting.{no_trace, setting_of}
use Rattle.witness.specs.Lines.{M}
use Rattle.witness.specs.Needed.{cycles_and_waits, WaitsNotOwn}
use Rattle.witness.proofs.Pairs.{Pair, pair_layout, Shown, clock_seen, shown_computes, equal_as_far, one_visit, refuted}

-- outside: MOV #0008 2 sets GIE, MOV #0040 0 enters the module, HLT at 0010, RETI at 0020; a module is NOP or MOV #0 7, then
-- MOV #0010 0. A request at stamp 5: the one waits 12 cycles, the other 11, and a cycle on its return
unfoldable pair : Pair
pair =
    record {
      setting = setting_of pair_layout (5 ∷ []) no_trace;
      outer =
          M 0x0000 0x4032 ∷ M 0x0002 0x0008 ∷ M 0x0004 0x4030 ∷ M 0x0006 0x0040 ∷ M 0x0010 0x0001 ∷ M 0x0020 0x1300 ∷ [];
      module_a = record { words = M 0x0040 0x4303 ∷ M 0x0042 0x4030 ∷ M 0x0044 0x0010 ∷ []; steps = 6 };
      module_b = record { words = M 0x0040 0x4037 ∷ M 0x0042 0x0000 ∷ M 0x0044 0x4030 ∷ M 0x0046 0x0010 ∷ []; steps = 6 };
      last = 100;
    }

-- the end at 0010, at a clock value, after 15 cycles with the waits
abbrev end_at : ℕ → VisitEnd
end_at clock =
    record {
      clock = clock;
      own = 15;
      way = leaving;
      registers = 0x0010 ∷ 0 ∷ 8 ∷ 0 ∷ 0 ∷ 0 ∷ 0 ∷ 0 ∷ 0 ∷ 0 ∷ 0 ∷ 0 ∷ 0 ∷ 0 ∷ 0 ∷ 0 ∷ [];
    }

-- what is shown with that end: the clock at 0010 is seen
abbrev shows : ℕ → Shown
shows clock =
    record { visits = record { start = 4; fate = ended (end_at clock) } ∷ []; seen = 0 ∷ 2 ∷ 17 ∷ clock ∷ [] }

pub waits_not_own : WaitsNotOwn
unfolding WaitsNotOwn shown_computes pair equal_as_far
waits_not_own =
    refuted cycles_and_waits EqualEnds clock_seen pair (shows 24) (shows 25) refl refl refl refl refl
    (one_visit EqualEnds 100 4 4 (end_at 24) (end_at 25) (refl, refl, refl)) refl
