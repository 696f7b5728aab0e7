-- Registers that a fast step sets, beside those that the instruction sets. Assumes nothing.
use Rattle.std.proofs.Common.{◌≡◌, set-set, get_or-set_other, Bool, List, ℕ, ◌≤◌, arith, set}
use Rattle.std.proofs.lemmas.List.{set-get_or}
use Rattle.base.proofs.Tests.{choices}
use Rattle.alu.specs.declared.arithmetic.Computed.{Computed}
use Rattle.alu.specs.Status.{set_flags}
use Rattle.definition.specs.Registers.{register, sr, write as write_register}
use Rattle.definition.proofs.cause.JudgeLaws.{first_fails}

-- a register set to what it holds
set_kept : (rs : List ℕ) (n v : ℕ) → register rs n ≡ v → set rs n v ≡ rs
unfolding register
set_kept rs n v e = cc (set-get_or rs n 0)

-- the status where another register is set
status_set : (rs : List ℕ) (n v : ℕ) → (2 ≡ n → ⊥) → sr (set rs n v) ≡ sr rs
unfolding register
status_set rs n v h = get_or-set_other rs n 2 v 0 h

module _ (rs : List ℕ) (to : ℕ) where
  -- pc alone is set
  pub pc_set : set rs 0 to ≡ set (set (set rs 0 to) 0 to) 2 (sr rs)
  pc_set = grind (arith, set-set {A = ℕ}, set_kept, status_set)

  -- pc, and the flags of what was computed
  pub compared : (c : Computed) → set (set rs 0 to) 2 (set_flags (sr (set rs 0 to)) c)
      ≡ set (set (set rs 0 to) 0 to) 2 (set_flags (sr rs) c)
  compared c = grind (arith, set-set {A = ℕ}, status_set)

  -- a register above r3, to which no rule of writing applies
  module _ (t : Bool) (d w : ℕ) (h : 4 ≤ d) where
    general : write_register t (set rs 0 to) d w ≡ set (set rs 0 to) d w
    unfolding write_register
    general = grind (arith, choices, first_fails)

    status_general : sr (set (set rs 0 to) d w) ≡ sr rs
    status_general = grind (arith, status_set)

    pub moved : write_register t (set rs 0 to) d w ≡ set (set (set rs 0 to) d w) 2 (sr rs)
    moved = grind (arith, general, status_general, set_kept)

    pub stored : (c : Computed) → set (write_register t (set rs 0 to) d w) 2 (set_flags (sr (write_register t (set rs 0 to) d w)) c)
        ≡ set (set (set rs 0 to) d w) 2 (set_flags (sr rs) c)
    stored c = grind (arith, general, status_general)
