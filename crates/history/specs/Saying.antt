-- What the history by itself says to a transaction call: the store's own refusals at the history, where no table is ever full.
use Rattle.std.specs.Prelude.{ℕ, length}
use Rattle.record.specs.Rows.{keep}
use Rattle.record.specs.Record.{owned_by}
use Rattle.rules.specs.Calls.{Verdict}
use Rattle.rules.specs.Calls.{verdict_of, begin_refusals, read_refusals, update_refusals, commit_refusals, abort_refusals}
use Rattle.history.specs.Past.{Past}

unfoldable pub say_begin : Past → ℕ → Verdict
say_begin h x = verdict_of (begin_refusals h.live x)

unfoldable pub say_read : Past → ℕ → ℕ → ℕ → ℕ → ℕ → Verdict
say_read h n x p offset w = verdict_of (read_refusals h.size h.pages h.live h.made n x p offset w)

-- with a row free: or OnlineFull
unfoldable pub say_update : Past → ℕ → ℕ → ℕ → ℕ → ℕ → ℕ → Verdict
say_update h x p offset w kind v = verdict_of (update_refusals h.size h.pages 1 0 h.live h.made x p offset w kind v)

-- how many updates a commit numbers; with as many places free in the log: or LogFull
abbrev pub owned_in : Past → ℕ → ℕ
owned_in h x = length (keep (owned_by x) h.made)

unfoldable pub say_commit : Past → ℕ → Verdict
say_commit h x = verdict_of (commit_refusals (owned_in h x) 0 h.last h.live (owned_in h x) x)

unfoldable pub say_abort : Past → ℕ → Verdict
say_abort h x = verdict_of (abort_refusals h.live x)
