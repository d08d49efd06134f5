-- What the lent bytes tell of the history, under the invariant: who is live, who holds bytes, what is whose, the last number and the sizes.
-- So a call that asks the tables hears what the history says.
use Prim.Native.Nat.{ℕ, ◌≤◌}
use mathlib.Core.Path.{◌≡◌, sym, ap, ◌∙◌}
use mathlib.Core.Bool.{Bool, true, not}
use mathlib.Core.List.{List}
use Rattle.record.specs.Rows.{keep, any}
use Rattle.record.specs.Record.{committed, owned_by}
use Rattle.rules.specs.Lent.{Lent, size_of, pages_of, last_of, online_of}
use Rattle.rules.specs.Sound.{every, apart}
use Rattle.rules.specs.Calls.{is_live, clashes, held_to_read, held_to_update}
use Rattle.rules.proofs.Extremes.{number_at_most}
use Rattle.rules.proofs.Every.{every_keep, every_imp}
use Rattle.redo.proofs.Loose.{≅-any, ≅-owned}
use Rattle.redo.proofs.Numbered.{every_not_owned}
use Rattle.history.specs.Past.{Past}
use Rattle.history.proofs.Right.{Ground, rows_of, open_of, above_stamp, Right}
use Rattle.history.proofs.Tested.{any_behind, keep_behind}
use Rattle.history.proofs.Facts.{done_committed, done_last}
use Rattle.history.proofs.Soundly.{live_byte}

-- only uncommitted records hold bytes
clashes_open : (x p offset w : ℕ) (r : List ℕ) → committed r ≡ true → not (clashes x p offset w r) ≡ true
unfolding clashes
clashes_open x p offset w r e = rw e

apart_committed : (r a : List ℕ) → committed a ≡ true → not (not (apart a r)) ≡ true
unfolding apart
apart_committed r a e = rw e

module _ (g : Ground) (done : List (List ℕ)) (h : Past) (s : Lent) (c : Right g done h s) where
  pub size_read : size_of s ≡ h.size
  size_read = c.durable.size ∙ sym c.past.size

  pub pages_read : pages_of s ≡ h.pages
  pages_read = c.durable.pages ∙ sym c.past.pages

  pub last_read : last_of s ≡ h.last
  last_read = c.durable.last ∙ sym c.past.last

  -- no committed update is numbered above it
  pub rows_last : every (number_at_most (last_of s)) (rows_of g done) ≡ true
  rows_last = ap (λ (n : ℕ). every (number_at_most n) (rows_of g done)) last_read ∙ done_last c.past

  pub live_read : (x : ℕ) → 1 ≤ x → x ≤ 32 → is_live s.lost.tables x ≡ h.live x
  live_read = live_byte g done h s c

  -- the committed records above their pages' stamps
  kept_committed : every committed (keep (above_stamp s.durable.marks) (rows_of g done)) ≡ true
  kept_committed = every_keep (above_stamp s.durable.marks) committed (rows_of g done) (done_committed c.past)

  -- where no committed record passes a test, one online does exactly if one made does
  open_read : (b : List ℕ → Bool) → ((r : List ℕ) → committed r ≡ true → not (b r) ≡ true) → any b (online_of s) ≡ any b h.made
  open_read b f =
      let none : (l : List (List ℕ)) → every committed l ≡ true → every (λ (r : List ℕ). not (b r)) l ≡ true = λ l e. every_imp committed (λ (r : List ℕ). not (b r)) f l e in
      ≅-any b c.lost.online_is
      ∙ any_behind b (keep (above_stamp s.durable.marks) (rows_of g done)) (open_of h) (none (keep (above_stamp s.durable.marks) (rows_of g done)) kept_committed)
      ∙ sym (any_behind b (rows_of g done) (open_of h) (none (rows_of g done) (done_committed c.past)))
      ∙ sym (≅-any b c.past.made)

  pub read_held : (x p offset w : ℕ) → held_to_read (online_of s) x p offset w ≡ held_to_read h.made x p offset w
  read_held x p offset w = open_read (clashes x p offset w) (clashes_open x p offset w)

  pub update_held : (r : List ℕ) → held_to_update (online_of s) r ≡ held_to_update h.made r
  update_held r = open_read (λ (a : List ℕ). not (apart a r)) (apart_committed r)

  -- an owner's records stand in the tables in the order made
  pub owned_read : (x : ℕ) → 1 ≤ x → keep (owned_by x) (online_of s) ≡ keep (owned_by x) h.made
  owned_read x low =
      ≅-owned x low c.lost.online_is
      ∙ keep_behind (owned_by x) (keep (above_stamp s.durable.marks) (rows_of g done)) (open_of h) (every_not_owned x (keep (above_stamp s.durable.marks) (rows_of g done)) low kept_committed)
      ∙ sym (keep_behind (owned_by x) (rows_of g done) (open_of h) (every_not_owned x (rows_of g done) low (done_committed c.past)))
      ∙ sym (≅-owned x low c.past.made)
