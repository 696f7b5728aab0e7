-- Requests, passing time and device of the machine that knew no trace, as they were. No contract cites them: the laws on the trace do.
use Rattle.std.specs.Prelude.{ℕ, ◌+◌, Option}
use Rattle.base.specs.Word.{low16}
use Rattle.definition.specs.Setting.{Setting}
use Rattle.definition.specs.declared.state.Time.{Time}
use Rattle.definition.specs.Time.{happening, earlier, earliest, filled_by, alarm_left}

-- the earliest request that happens: the alarm is a request too
unfoldable pub request_without_trace : Setting → Option ℕ → ℕ → ℕ → Option ℕ
request_without_trace S alarm a b = earlier (earliest a b S.stamps) (happening a b alarm)

-- n cycles pass
unfoldable pub pass_without_trace : Setting → ℕ → Time → Time
pass_without_trace S n t =
    record {
      clock = t.clock + n;
      slot = filled_by t.slot (request_without_trace S t.alarm t.clock (t.clock + n));
      alarm = alarm_left t.clock (t.clock + n) t.alarm;
    }

-- what IN gives: the clock's low 16 bits
unfoldable pub device_word_without_trace : Setting → Time → ℕ
device_word_without_trace S t = low16 t.clock
