-- Demand 3: secrecy over two whole lists of calls. Assumes nothing.
use Rattle.std.proofs.Common.{None, Result, Err, Ok, ◌≡◌, refl, sym, ◌∙◌, subst, subst₂, true, false, List, ℕ, suc, arith, length, eqb-true}
use Rattle.base.specs.declared.refusal.Refusal.{Refusal}
use Rattle.base.specs.Limits.{memory_bytes}
use Rattle.base.proofs.Tests.{cases}
use Rattle.base.specs.Verdict.{verdict, unrefused}
use Rattle.layout.specs.Sections.{inside}
use Rattle.layout.specs.Rules.{accepted}
use Rattle.definition.specs.Setting.{Setting}
use Rattle.definition.specs.State.{World, world, start}
use Rattle.definition.specs.Calls.{start_tests, start_call}
use Rattle.definition.specs.Laws.{SameOutside}
use Rattle.secrecy.specs.Calls.{run_of, left_by_all}
use Rattle.secrecy.specs.Sighting.{sightings}
use Rattle.secrecy.specs.Visit.{away}
use Rattle.secrecy.specs.Secrecy.{start_world, Agree, SecrecyUnder, Secrecy}
use Rattle.definition.proofs.run.CallLaws.{all_hold}
use Rattle.secrecy.proofs.Chain.{run_chain, left_by_all_lem, none_run}
use Rattle.secrecy.proofs.Ways.{vector_free, start_steady}
use Rattle.secrecy.proofs.Visiting.{Good, good_away}
use Rattle.secrecy.proofs.Meet.{none_seen, both_away, InStep}
use Rattle.secrecy.proofs.Abreast.{start_same}
use Rattle.secrecy.proofs.Together.{together}

-- ---- the start

-- where start does not refuse, memory is whole and the machine is the start state
record Started (mem : List ℕ) : Type 0 where
  pub whole : length mem ≡ memory_bytes
  pub begins : start_world mem ≡ world (start mem) mem

started : (mem : List ℕ) → (start_call mem).answer ≡ unrefused → Started mem
unfolding start_call
started mem h = go (verdict (start_tests mem)) refl
  where
    go : (v : Result (Unit {0}) Refusal) → verdict (start_tests mem) ≡ v → Started mem
    go (Ok _) e = record { whole = eqb-true _ _ (all_hold _ e).0; begins = rw e }
    go (Err r) e = absurd (cc (rw e at h))

start_unheld : (mem : List ℕ) → (start mem).context ≡ None
unfolding start
start_unheld mem = refl

start_previous : (S : Setting) (mem : List ℕ) → accepted S.layout ≡ true → inside S.layout (start mem).previous ≡ false
unfolding start
start_previous S mem fit = vector_free S fit

start_good : (S : Setting) (mem : List ℕ) → accepted S.layout ≡ true → Good S (start mem) away
start_good S mem fit = good_away S (start mem) (start_steady S mem) (start_unheld mem) (start_previous S mem fit)

start_in_step : (S : Setting) (mem_a mem_b : List ℕ) → accepted S.layout ≡ true → SameOutside S mem_a mem_b
    → InStep S (world (start mem_a) mem_a) (world (start mem_b) mem_b) away away
unfolding start
start_in_step S mem_a mem_b fit s =
    record {
      view = record { registers = start_same S fit mem_a mem_b s; time = refl; held = refl; halted = refl; memory = s };
      paired = both_away refl refl refl refl;
    }

-- ---- the theorem

pub secrecy : Secrecy
unfolding Secrecy SecrecyUnder
secrecy S mem_a mem_b calls_a calls_b T ea eb same premise =
    cases (accepted S.layout) yes_accepted not_accepted
  where
    Goal : Type 0
    Goal =
        Agree T (left_by_all S (start_world mem_a) calls_a) (left_by_all S (start_world mem_b) calls_b)
        (sightings S T (run_of S (start_world mem_a) calls_a)) (sightings S T (run_of S (start_world mem_b) calls_b))

    not_accepted : accepted S.layout ≡ false → Goal
    not_accepted n =
        rw (none_run S n (start_world mem_a) calls_a, none_run S n (start_world mem_b) calls_b) (unfold sightings in none_seen T refl refl)

    yes_accepted : accepted S.layout ≡ true → Goal
    yes_accepted fit =
        let sa = started mem_a ea in
        let sb = started mem_b eb in
        rw (left_by_all_lem S (start_world mem_a) calls_a, left_by_all_lem S (start_world mem_b) calls_b)
        (together S fit T (suc (length (run_of S (start_world mem_a) calls_a)))
        (start_world mem_a) (start_world mem_b) away away
        (run_of S (start_world mem_a) calls_a) (run_of S (start_world mem_b) calls_b)
        (run_chain S (start_world mem_a) calls_a) (run_chain S (start_world mem_b) calls_b)
        (subst (λ (w : World). Good S w.state away) (sym sa.begins) (start_good S mem_a fit))
        (subst (λ (w : World). Good S w.state away) (sym sb.begins) (start_good S mem_b fit))
        (subst₂ (λ (u v : World). InStep S u v away away) (sym sa.begins) (sym sb.begins)
        (start_in_step S mem_a mem_b fit (record { long = sa.whole ∙ sym sb.whole; same = same })))
        premise (omega arith))
