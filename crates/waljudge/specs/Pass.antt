-- The one pass over the frames, as the loop makes it: `Passes` (proofs) ties it to Judge.antt.
use Rattle.std.specs.Prelude.{ℕ, ◌+◌, cond, List, [], ◌∷◌, eqb, Option, None, Some}
use Rattle.wal.specs.Layout.{Frame}
use Rattle.waljudge.specs.declared.Pass.{Pass}

abbrev pub started : Pass
started = record { frames = 0; end = None; at = None; pending = None }

-- the image that is pending once a frame is taken: this one, if it is of the page
abbrev pub pending_by : ℕ → Frame → Pass → Option ℕ
pending_by page f a = cond (eqb f.page page) (Some f.place) a.pending

-- a frame more: a commit frame takes over what is pending
unfoldable pub taken : ℕ → ℕ → Frame → Pass → Pass
taken page size f a =
    record {
      frames = a.frames + 1;
      end = cond (eqb f.commit 0) a.end (Some (f.place + size));
      at = cond (eqb f.commit 0) a.at (pending_by page f a);
      pending = pending_by page f a;
    }

unfoldable pub passed : ℕ → ℕ → List Frame → Pass → Pass
passed page size [] a = a
passed page size (f ∷ fs) a = passed page size fs (taken page size f a)
