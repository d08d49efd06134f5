-- Restart's test and list of rows, over the marks and the number of pages alone.
use Rattle.std.specs.Prelude.{ℕ, ◌+◌, ◌*◌, ◌-◌, ◌≤◌, ◌≡◌, Bool, true, not, ◌&&◌, List, [], ◌∷◌, length, eqb, leb}
use Rattle.word.specs.Word.{num}
use Rattle.record.specs.Rows.{rows, cons_if}
use Rattle.record.specs.Record.{log_width, page_of, entered, well_formed}
use Rattle.rules.specs.Lent.{fixed_length, marks_length, last_in, closed_in, logged_in, pages_in, frames_in, Lent, stamp_at, dirty_at, size_of, pages_of, online_size_of, log_size_of, last_of, logged_of, log_of}
use Rattle.rules.specs.Sound.{every}
use Rattle.rules.specs.Shape.{page_below, Sized}
use Rattle.rules.specs.Steps.{entering_all}

-- `enters` and `entering` of the rules, by what they read
abbrev pub enters_by : List ℕ → ℕ → ℕ → List ℕ → Bool
enters_by marks pages k b = not (leb k (closed_in marks) && eqb (num 4 marks (dirty_at pages (page_of b))) 0) && not (leb k (num 4 marks (stamp_at (page_of b))))

unfoldable pub entering_by : List ℕ → ℕ → ℕ → List (List ℕ) → List (List ℕ)
entering_by marks pages k [] = []
entering_by marks pages k (b ∷ bs) = cons_if (enters_by marks pages k b) (entered b k) (entering_by marks pages (k + 1) bs)

-- the number of the first log record
abbrev pub first_by : List ℕ → ℕ
first_by marks = last_in marks - logged_in marks + 1

-- the rows of the log that enter
abbrev pub all_by : List ℕ → List ℕ → List ℕ → List (List ℕ)
all_by fixed marks log = entering_by marks (pages_in fixed) (first_by marks) (rows log_width (logged_in marks) log 0)

-- the durable part can be read
pub record Readable (fixed marks log : List ℕ) : Type 0 where
  pub fixed_exact : length fixed ≡ fixed_length
  pub marks_exact : length marks ≡ marks_length (pages_in fixed)
  pub pages_most : pages_in fixed ≤ 1024
  pub frames_most : frames_in fixed ≤ 64
  pub last_least : logged_in marks ≤ last_in marks
  pub within : logged_in marks * log_width ≤ length log
  pub inside : every (page_below (pages_in fixed)) (rows log_width (logged_in marks) log 0) ≡ true

-- what restart asks of the durable part: soundness gives it
abbrev pub Restartable : Lent → Type 0
Restartable s = Sized s × (logged_of s ≤ log_size_of s) × (logged_of s ≤ last_of s) × (every (well_formed (size_of s) (pages_of s)) (log_of s) ≡ true)

-- and room for the rows that enter
abbrev pub Restarts : Lent → Type 0
Restarts s =
    Sized s × (logged_of s ≤ log_size_of s) × (logged_of s ≤ last_of s) × (every (well_formed (size_of s) (pages_of s)) (log_of s) ≡ true)
    × (length (entering_all s) ≤ online_size_of s)
