-- Memories loaded with words: start takes them, and words in the module are not seen outside. Assumes nothing.
use Rattle.std.proofs.Common.{◌≡◌, refl, ◌∙◌, Bool, true, false, List, [], ◌∷◌, ℕ, length, arith}
use Rattle.std.proofs.lemmas.Bool.Decides.{nat_tests}
use Rattle.std.proofs.lemmas.List.{length-replicate}
use Rattle.base.specs.Verdict.{unrefused}
use Rattle.base.specs.Limits.{memory_bytes}
use Rattle.base.specs.FirstFailure.{first_failure}
use Rattle.base.specs.Test.{when◌then◌else◌}
use Rattle.base.specs.Word.{drop_bit0}
use Rattle.base.proofs.Tests.{choices}
use Rattle.layout.specs.declared.sections.Layout.{Layout}
use Rattle.layout.specs.Sections.{outside}
use Rattle.layout.specs.Rules.{accepted}
use Rattle.definition.specs.Memory.{byte_at, put_word}
use Rattle.definition.specs.Calls.{start_call}
use Rattle.definition.proofs.instruction.MemoryLaws.{put_length, put_side}
use Rattle.witness.specs.Lines.{MLine, loaded, memory_of}

loaded_length : (mem : List ℕ) (ls : List MLine) → length (loaded mem ls) ≡ length mem
unfolding loaded
loaded_length mem [] = refl
loaded_length mem (l ∷ ls) = grind (arith, loaded_length (put_word mem l.address l.word) ls, put_length)

whole : (outer inner : List MLine) → length (memory_of outer inner) ≡ memory_bytes
unfolding memory_of
whole outer inner = loaded_length _ inner ∙ loaded_length _ outer ∙ length-replicate {A = ℕ} memory_bytes 0

-- start takes a memory so loaded
pub starts : (outer inner : List MLine) → (start_call (memory_of outer inner)).answer ≡ unrefused
unfolding start_call first_failure
starts outer inner = grind (arith, choices, nat_tests, whole outer inner)

-- every word of the lines is in the module
unfoldable pub hidden : Layout → List MLine → Bool
hidden L [] = true
hidden L (l ∷ ls) = when outside L (drop_bit0 l.address) then false else hidden L ls

module _ (L : Layout) (fit : accepted L ≡ true) where
  unseen : (mem : List ℕ) (ls : List MLine) → hidden L ls ≡ true → (a : ℕ) → outside L a ≡ true
      → byte_at (loaded mem ls) a ≡ byte_at mem a
  unfolding loaded hidden
  unseen mem [] h a o = refl
  unseen mem (l ∷ ls) h a o = grind (arith, choices, unseen (put_word mem l.address l.word) ls, put_side L fit)

  -- two modules with the same words outside
  pub same_outside : (outer module_a module_b : List MLine) → hidden L module_a ≡ true → hidden L module_b ≡ true
      → (a : ℕ) → outside L a ≡ true → byte_at (memory_of outer module_a) a ≡ byte_at (memory_of outer module_b) a
  unfolding memory_of
  same_outside outer module_a module_b h k a o = grind (arith, unseen)
