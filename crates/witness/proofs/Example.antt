-- The example of two machines, computed. Assumes nothing.
use Rattle.std.proofs.Common.{◌≡◌, refl, sym, ap, subst₂, true, List, [], ◌∷◌, ◌++◌, ℕ, length}
use Rattle.layout.specs.Sections.{outside}
use Rattle.answers.specs.declared.answer.Outcome.TheVariants.{Ran, Back}
use Rattle.answers.specs.declared.answer.End.TheVariants.{Address}
use Rattle.definition.specs.declared.stop_address.StopAddress.TheVariants.{At}
use Rattle.definition.specs.Memory.{byte_at}
use Rattle.definition.specs.Run.{Move, run}
use Rattle.secrecy.specs.Sighting.{sightings}
use Rattle.secrecy.specs.Visit.{leaving, VisitEnd, ended, away, Visit, visits}
use Rattle.secrecy.specs.Secrecy.{start_world, EqualEnds, Premise}
use Rattle.witness.specs.Lines.{StepLine, line, lines_of}
use Rattle.witness.specs.Example.{example_layout, example_setting, outside_lines, module_a, module_b, memory_a, memory_b, example_run, lines_before, lines_later, NotVacuous}
use Rattle.witness.proofs.Computes.{computes}
use Rattle.witness.proofs.Loaded.{starts, hidden, same_outside}
use Rattle.witness.proofs.Pairs.{one_visit}

-- the end of the one visit of both runs
abbrev the_end : VisitEnd
the_end =
    record {
      clock = 29;
      own = 6;
      way = leaving;
      registers = 0x0030 ∷ 0 ∷ 8 ∷ 0 ∷ 0 ∷ 0 ∷ 0x0030 ∷ 0 ∷ 0 ∷ 0 ∷ 0 ∷ 0 ∷ 0 ∷ 0 ∷ 0 ∷ 0 ∷ [];
    }

-- the visit
abbrev the_visit : Visit
the_visit = record { start = 4; fate = ended the_end }

-- what is shown of a run, computed once
record Shown : Type 0 where
  pub lines : List StepLine
  pub made : List Visit
  pub seen : ℕ

shown : List Move → Shown
shown vs =
    record { lines = lines_of vs; made = visits example_setting away vs; seen = length (sightings example_setting 100 vs) }

shown_a : shown (example_run memory_a)
    ≡ record { lines = lines_before ++ (line Back 24 0x0042 8 0 ∷ line Ran 25 0x0044 8 0 ∷ lines_later); made = the_visit ∷ []; seen = 11 }
unfolding computes memory_a example_run shown
shown_a = refl

shown_b : shown (example_run memory_b) ≡ record { lines = lines_before ++ (line Back 25 0x0044 8 0 ∷ lines_later); made = the_visit ∷ []; seen = 11 }
unfolding computes memory_b example_run shown
shown_b = refl

stops_a : (run example_setting (At 0x0030) 40 (start_world memory_a)).end ≡ Address
unfolding computes memory_a
stops_a = refl

stops_b : (run example_setting (At 0x0030) 40 (start_world memory_b)).end ≡ Address
unfolding computes memory_b
stops_b = refl

same : (a : ℕ) → outside example_layout a ≡ true → byte_at memory_a a ≡ byte_at memory_b a
unfolding computes hidden memory_a memory_b
same = same_outside example_layout refl outside_lines module_a module_b refl refl

pub not_vacuous : NotVacuous
unfolding shown memory_a memory_b
not_vacuous =
    record {
      starts_a = starts outside_lines module_a;
      starts_b = starts outside_lines module_b;
      same = same;
      run_a = ap (λ (s : Shown). s.lines) shown_a;
      run_b = ap (λ (s : Shown). s.lines) shown_b;
      stops_a = stops_a;
      stops_b = stops_b;
      premise = subst₂ (Premise 100) (sym (ap (λ (s : Shown). s.made) shown_a)) (sym (ap (λ (s : Shown). s.made) shown_b))
          (one_visit EqualEnds 100 4 4 the_end the_end (refl, refl, refl));
      seen_a = ap (λ (s : Shown). s.seen) shown_a;
      seen_b = ap (λ (s : Shown). s.seen) shown_b;
    }
