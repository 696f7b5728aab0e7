-- Memories that are seen alike from outside: their words, and a word stored into them. Assumes nothing.
use Rattle.std.proofs.Common.{◌≡◌, true, List, ℕ, arith, set}
use Rattle.std.proofs.lemmas.Grind.{common_steps}
use Rattle.base.specs.Word.{drop_bit0}
use Rattle.layout.specs.Sections.{outside}
use Rattle.layout.specs.Rules.{accepted}
use Rattle.definition.specs.Setting.{Setting}
use Rattle.definition.specs.Memory.{byte_at, word_at, put_word}
use Rattle.definition.specs.Laws.{SameOutside}
use Rattle.definition.proofs.instruction.MemoryLaws.{word_side}

module _ (S : Setting) where
  -- being seen alike is an equivalence
  pub same_refl : (mem : List ℕ) → SameOutside S mem mem
  same_refl mem = grind arith

  pub same_sym : {mem bytes : List ℕ} → SameOutside S mem bytes → SameOutside S bytes mem
  same_sym s = grind arith

  pub same_trans : {mem bytes others : List ℕ} → SameOutside S mem bytes → SameOutside S bytes others → SameOutside S mem others
  same_trans s t = grind arith

  -- one byte set on both sides
  set_same : {mem bytes : List ℕ} (i v : ℕ) → SameOutside S mem bytes → SameOutside S (set mem i v) (set bytes i v)
  unfolding byte_at
  set_same i v s = grind (arith, common_steps)

  -- a word stored on both sides
  pub put_same : {mem bytes : List ℕ} (a w : ℕ) → SameOutside S mem bytes → SameOutside S (put_word mem a w) (put_word bytes a w)
  unfolding put_word
  put_same a w s = set_same _ _ (set_same _ _ s)

  -- a word that is outside is the same
  pub word_same : accepted S.layout ≡ true → {mem bytes : List ℕ} (a : ℕ) → SameOutside S mem bytes → outside S.layout (drop_bit0 a) ≡ true
      → word_at mem a ≡ word_at bytes a
  unfolding word_at
  word_same fit a s o = grind (arith, word_side S.layout fit a)
