-- What the lost areas say, as lists: S2, S3 and S14 of "Sound tables" for them, and the use order, live bytes, entries and online rows that are read there.
use Prim.Native.Nat.{ℕ, ◌+◌, ◌*◌, ◌-◌, ◌≤◌}
use mathlib.Core.Path.{◌≡◌, sym, subst}
use mathlib.Core.Bool.{true}
use mathlib.Core.List.{List, []}
use lib.ListN.{length, drop}
use Rattle.record.specs.Part.{part}
use Rattle.record.proofs.Rows.{Wide}
use Rattle.rules.specs.Lent.{Lent, Durable, size_of, pages_of, frames_of, online_size_of, count_of, used_of, order_of, entries_of, online_of}
use Rattle.rules.specs.Sound.{zeros}

-- the durable part alone, as lent bytes
abbrev pub only : Durable → Lent
only d = record { durable = d; lost = record { tables = []; online = []; pool = [] } }

-- the live bytes of the numbers 1 to 32
abbrev pub lives_of : Lent → List ℕ
lives_of s = part 3 32 s.lost.tables

-- the lengths of the lost areas
pub record Areas (s : Lent) : Type 0 where
  pub tables : length s.lost.tables ≡ 35 + frames_of s + pages_of s
  pub online : length s.lost.online ≡ 19 * online_size_of s
  pub pool : length s.lost.pool ≡ size_of s * frames_of s

pub record Reads (s : Lent) (order lives entries : List ℕ) (online : List (List ℕ)) : Type 0 where
  pub areas : Areas s
  pub count : count_of s ≡ length online
  pub room : length online ≤ online_size_of s
  pub used : used_of s ≡ length order
  pub frames : length order ≤ frames_of s
  pub order_read : order_of s ≡ order
  pub order_zero : zeros (part (35 + length order) (frames_of s - length order) s.lost.tables) ≡ true
  pub lives_read : lives_of s ≡ lives
  pub entries_read : entries_of s ≡ entries
  pub online_read : online_of s ≡ online
  pub online_zero : zeros (drop (length online * 19) s.lost.online) ≡ true
  pub wide : Wide 19 online

-- what is read is what is read
abbrev pub Whole : Lent → Type 0
Whole s = Reads s (order_of s) (lives_of s) (entries_of s) (online_of s)

-- a fact of the lists that were written is one of what is read
module _ {s : Lent} {order lives entries : List ℕ} {online : List (List ℕ)} (e : Reads s order lives entries online) where
  pub over : (F : List ℕ → List ℕ → List ℕ → List (List ℕ) → Type 0) → F order lives entries online → F (order_of s) (lives_of s) (entries_of s) (online_of s)
  over F f =
      subst (λ (o : List ℕ). F o (lives_of s) (entries_of s) (online_of s)) (sym e.order_read)
      (subst (λ (l : List ℕ). F order l (entries_of s) (online_of s)) (sym e.lives_read)
      (subst (λ (es : List ℕ). F order lives es (online_of s)) (sym e.entries_read)
      (subst (λ (on : List (List ℕ)). F order lives entries on) (sym e.online_read) f)))

  pub whole : Whole s
  whole = over (λ (o l es : List ℕ) (on : List (List ℕ)). Reads s o l es on) e
