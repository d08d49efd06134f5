-- Laws of an entry and its frame.
use Prim.Native.Nat.{ℕ, ◌+◌, ◌*◌, ◌%◌, ◌≤◌, ◌<◌, ◌/◌}
use native.Mathlib.Omega.{arith}
use mathlib.Core.Path.{◌≡◌}
use mathlib.Core.Bool.{true, false}
use mathlib.Core.List.{List, map}
use lib.ListN.{get_or, set}
use Rattle.std.specs.Prelude.{Option, Some, None, MatchOption}
use Rattle.number.specs.declared.FrameNo.{FrameNo}
use Rattle.frames.specs.Freed.{order_without}
use Rattle.rules.specs.Lent.{in_frame, frame_of}
use Rattle.rules.specs.Steps.{freed, freed_of, placed}

-- an entry in a frame names one
pub in_frame_placed : (e : ℕ) → in_frame e ≡ true → 1 ≤ e / 2
in_frame_placed e h = grind arith

-- the order without the frame that an entry names, if it names one
pub freed_named : (e : ℕ) (r : Option FrameNo) (o : List ℕ) → MatchOption r (in_frame e ≡ false) (λ f. (in_frame e ≡ true) × (f.0 ≡ frame_of e) × (f.0 < 256)) → order_without r o ≡ freed_of e o
freed_named e (Some f) o h = rw (h.0, h.1)
freed_named e None o h = rw h

-- the entries with the page in its frame
pub place_set : (es es' : List ℕ) (f p : ℕ) → es' ≡ map (freed f) es → set es' p (2 * (f + 1) + get_or es p 0 % 2) ≡ placed f p es
unfolding placed
place_set es es' f p h = rw h
