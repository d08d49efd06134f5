-- The clerk rules on transaction numbers: "1 to 32", live or not, and the last log number "0 to 4,294,967,295".
use Rattle.std.specs.Prelude.{ℕ, ◌+◌, ◌-◌, Bool, cond, not, Result, Ok, Err, ◌&&◌, get_or, set, eqb, leb, ltb}
use Rattle.clerk.specs.declared.Clerk.{Clerk}
use Rattle.rules.specs.declared.Bad.TheVariants.{Number}
use Rattle.rules.specs.declared.Refusal.{Refusal}
use Rattle.rules.specs.declared.Refusal.TheVariants.{Argument, NotLive, Live, NumbersEnd}

abbrev pub is_number : ℕ → Bool
is_number x = leb 1 x && leb x 32

abbrev pub is_live : Clerk → ℕ → Bool
is_live c x = eqb (get_or c.live (x - 1) 0) 1

-- the clerk with number x live (1) or not (0), and another last number
abbrev pub with_live : Clerk → ℕ → ℕ → ℕ → Clerk
with_live c x v last = record { live = set c.live (x - 1) v; last = last }

-- refusals 2 and 5, or the clerk afterwards
unfoldable pub begins : Clerk → ℕ → Result Clerk Refusal
begins c x = cond (not (is_number x)) (Err (Argument Number)) (cond (is_live c x) (Err Live) (Ok (with_live c x 1 c.last)))

-- refusals 2 and 4, or the clerk afterwards
unfoldable pub aborts : Clerk → ℕ → Result Clerk Refusal
aborts c x = cond (not (is_number x)) (Err (Argument Number)) (cond (not (is_live c x)) (Err NotLive) (Ok (with_live c x 0 c.last)))

-- of a transaction of k records: refusals 2, 4 and 9, or the clerk afterwards
unfoldable pub commits : Clerk → ℕ → ℕ → Result Clerk Refusal
commits c x k = cond (not (is_number x)) (Err (Argument Number)) (cond (not (is_live c x)) (Err NotLive) (cond (ltb 4294967295 (c.last + k)) (Err NumbersEnd) (Ok (with_live c x 0 (c.last + k)))))
