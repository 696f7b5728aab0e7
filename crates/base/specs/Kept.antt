-- What a call that may be refused leaves in what it is lent.
use Rattle.std.specs.Prelude.{ℕ, ◌==◌}
use Rattle.base.specs.Test.{when◌then◌else◌}

-- by the number that a call answers: where it is 0 the new value, where it is a refusal's the one that was there
unfoldable pub unless_refused : {A : Type 0} → ℕ → A → A → A
unless_refused number new old = when number == 0 then new else old
