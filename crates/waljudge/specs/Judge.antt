-- A log judged, and a page looked for in it.
use Rattle.std.specs.Prelude.{ℕ, ◌+◌, Bool, cond, not, ◌||◌, List, [], ◌∷◌, length, eqb, Result, Ok, Err}
use Rattle.record.specs.Rows.{any}
use Rattle.rules.specs.declared.Bad.TheVariants.{Page}
use Rattle.rules.specs.declared.Refusal.TheVariants.{Argument}
use Rattle.rules.specs.Answers.{code_of}
use Rattle.wal.specs.declared.Header.{Header}
use Rattle.wal.specs.declared.BadHeader.{BadHeader}
use Rattle.wal.specs.declared.BadHeader.TheVariants.{Field, Sum}
use Rattle.wal.specs.Layout.{Frame, opened, valid_frames}
use Rattle.waljudge.specs.declared.Judged.{Judged}
use Rattle.waljudge.specs.declared.Found.{Found}

-- "database size in pages for a commit frame, else 0"
abbrev pub is_commit : Frame → Bool
is_commit f = not (eqb f.commit 0)

abbrev pub is_of : ℕ → Frame → Bool
is_of page f = eqb f.page page

-- "frames after it are ignored": the frames up to the last commit frame
unfoldable pub up_to_commit : List Frame → List Frame
up_to_commit [] = []
up_to_commit (f ∷ fs) = cond (is_commit f || any is_commit fs) (f ∷ up_to_commit fs) []

-- where the image of the last frame that passes the test begins; other where none passes
unfoldable pub last_place : (Frame → Bool) → ℕ → List Frame → ℕ
last_place b other [] = other
last_place b other (f ∷ fs) = last_place b (cond (b f) f.place other) fs

-- "where the last commit frame ends"; 0 where there is none
abbrev pub end_of : ℕ → List Frame → ℕ
end_of size fs = cond (any is_commit fs) (last_place is_commit 0 fs + size) 0

-- 16 and 17 of the request
abbrev pub bad_code : BadHeader → ℕ
bad_code Field = 16
bad_code Sum = 17

-- "how many frames are valid … and where the last commit frame ends"
abbrev pub judged_by : List ℕ → Result Header BadHeader → Judged
judged_by l (Ok h) = record { code = 0; frames = length (valid_frames h l); end = end_of h.size (valid_frames h l) }
judged_by l (Err e) = record { code = bad_code e; frames = 0; end = 0 }

unfoldable pub judged : List ℕ → Judged
judged l = judged_by l (opened l)

-- "where its last image up to that point begins, or that there is none"
abbrev pub found_by : List ℕ → ℕ → Result Header BadHeader → Found
found_by l page (Ok h) =
    record {
      code = 0;
      found = cond (any (is_of page) (up_to_commit (valid_frames h l))) 1 0;
      at = last_place (is_of page) 0 (up_to_commit (valid_frames h l));
    }
found_by l page (Err e) = record { code = bad_code e; found = 0; at = 0 }

-- "2 page asked 0"
unfoldable pub found_in : List ℕ → ℕ → Found
found_in l page = cond (eqb page 0) (record { code = code_of (Argument Page); found = 0; at = 0 }) (found_by l page (opened l))
