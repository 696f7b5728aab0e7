-- Bytes put behind what a buffer holds so far, as far as it goes.
use Rattle.std.specs.Prelude.{ℕ, ◌+◌, ◌≡◌, List, length}
use Rattle.std.proofs.lemmas.List.Edits.{sets}
use Rattle.transcript.specs.declared.line.Line.{Line}

-- what is put so far: these bytes, up to this index
pub record Put (entry exit : List ℕ) (at to : ℕ) (bytes : List ℕ) : Type 0 where
  pub ends : to ≡ at + length bytes
  pub lies : exit ≡ sets entry at bytes

-- these bytes were put to a line, which is still written to the same buffer
pub record Puts (before after : Line) (bytes : List ℕ) : Type 0 where
  pub same_buffer : after.out.ghost_name ≡ before.out.ghost_name
  pub put : Put before.out.now after.out.now before.filled after.filled bytes
