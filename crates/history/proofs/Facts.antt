-- What follows at once from the parts of the invariant: of the committed updates as rows, of the uncommitted ones, of the durable part's ranges and lengths.
-- Nearly every step asks for some of it.
use Prim.Native.Nat.{ℕ, ◌+◌, ◌*◌, ◌≤◌}
use native.Mathlib.Omega.{arith}
use mathlib.Core.Path.{◌≡◌, sym, ap, ◌∙◌}
use mathlib.Core.Logic.{◌⊎◌, inl, inr}
use mathlib.Core.Bool.{Bool, true, false, not, ◌&&◌, ◌||◌}
use mathlib.Core.List.{List}
use lib.ListN.{length}
use lib.Dec.{eqb, leb, ltb}
use borrow.Author.Tests.{eqb-true, ne_eqb, leb-true, le-leb, ltb-true}
use Rattle.word.proofs.Tests.{and_both}
use Rattle.record.specs.Record.{owner_of, number_of, committed, well_formed}
use Rattle.rules.specs.Lent.{Lent, params_of, Durable, size_of, pages_of, last_of, logged_of, online_of}
use Rattle.rules.specs.Sound.{every, pairs, between}
use Rattle.rules.proofs.Every.{or_right, every_kept, every_imp}
use Rattle.rules.proofs.Extremes.{number_at_most}
use Rattle.rules.specs.Shape.{page_below, Ranged}
use Rattle.rules.proofs.Clauses.{formed_page}
use Rattle.rules.proofs.Ranges.{ranged}
use Rattle.redo.proofs.Views.{rising}
use Rattle.redo.proofs.Numbered.{numbered_from_committed, numbered_from_formed, numbered_from_from, numbered_from_rising}
use Rattle.readback.proofs.Seen.{only}
use Rattle.history.specs.Past.{Past}
use Rattle.history.proofs.Right.{Ground, rows_of, uncommitted, open_of, above_stamp, open_row, PastRight, DurableRight, Right}
use Rattle.history.proofs.Tested.{online_all}

-- what is said of an uncommitted record
pub record OpenFacts (g : Ground) (live : ℕ → Bool) (r : List ℕ) : Type 0 where
  pub formed : well_formed g.size g.pages r ≡ true
  pub low : 1 ≤ owner_of r
  pub high : owner_of r ≤ 32
  pub number : number_of r ≡ 0
  pub alive : live (owner_of r) ≡ true
  pub owned : committed r ≡ false

pub open_facts : (g : Ground) (live : ℕ → Bool) (r : List ℕ) → open_row g live r ≡ true → OpenFacts g live r
unfolding open_row
open_facts g live r h =
    let a = and_both (well_formed g.size g.pages r && between 1 (owner_of r) 32 && eqb (number_of r) 0) (live (owner_of r)) h in
    let b = and_both (well_formed g.size g.pages r && between 1 (owner_of r) 32) (eqb (number_of r) 0) a.0 in
    let c = and_both (well_formed g.size g.pages r) (between 1 (owner_of r) 32) b.0 in
    let d = and_both (leb 1 (owner_of r)) (leb (owner_of r) 32) c.1 in
    let low : 1 ≤ owner_of r = leb-true 1 (owner_of r) d.0 in
    record {
      formed = c.0;
      low = low;
      high = leb-true (owner_of r) 32 d.1;
      number = eqb-true (number_of r) 0 b.1;
      alive = a.1;
      owned = ne_eqb (owner_of r) 0 (λ e. omega arith);
    }

module _ {g : Ground} {done : List (List ℕ)} {h : Past} (p : PastRight g done h) where
  -- the committed updates as rows: well formed, on pages that there are, committed, with numbers that rise to the last
  pub done_formed : every (well_formed g.size g.pages) (rows_of g done) ≡ true
  done_formed = numbered_from_formed g.size g.pages (g.base + 1) p.done_wide p.formed

  pub done_paged : every (page_below g.pages) (rows_of g done) ≡ true
  done_paged = formed_page g.size g.pages (rows_of g done) done_formed

  pub done_committed : every committed (rows_of g done) ≡ true
  done_committed = numbered_from_committed (g.base + 1) p.done_wide

  numbers_fit : g.base + 1 + length done ≤ 4294967296
  numbers_fit = omega (arith, p.last, p.bound)

  pub done_rising : pairs rising (rows_of g done) ≡ true
  done_rising = numbered_from_rising (g.base + 1) p.done_wide numbers_fit

  pub done_last : every (number_at_most h.last) (rows_of g done) ≡ true
  done_last =
      every_imp (λ (r : List ℕ). leb (g.base + 1) (number_of r) && ltb (number_of r) (g.base + 1 + length done)) (number_at_most h.last)
      (λ r e. le-leb (number_of r) h.last (omega (arith, p.last, ltb-true (number_of r) (g.base + 1 + length done) (and_both (leb (g.base + 1) (number_of r)) (ltb (number_of r) (g.base + 1 + length done)) e).1)))
      (rows_of g done) (numbered_from_from (g.base + 1) p.done_wide numbers_fit)

  -- the uncommitted updates
  pub open_unset : every uncommitted (open_of h) ≡ true
  open_unset = every_kept uncommitted uncommitted (λ r e. e) h.made

  pub open_every : (c : List ℕ → Bool) → ((r : List ℕ) → OpenFacts g h.live r → c r ≡ true) → every c (open_of h) ≡ true
  open_every c f = every_imp (open_row g h.live) c (λ r e. f r (open_facts g h.live r e)) (open_of h) p.open_rows

-- a dirty number is none or one of the log's up to K, by other marks that say the same
pub dirt_same : {first dirt closed first' dirt' closed' : ℕ} → first' ≡ first → dirt' ≡ dirt → closed' ≡ closed
    → (dirt ≡ 0) ⊎ ((first ≤ dirt) × (dirt ≤ closed)) → (dirt' ≡ 0) ⊎ ((first' ≤ dirt') × (dirt' ≤ closed'))
dirt_same e f k (inl h) = inl (f ∙ h)
dirt_same e f k (inr h) = inr (omega (arith, e, f, h.0), omega (arith, f, k, h.1))

module _ {g : Ground} {done : List (List ℕ)} {d : Durable} (r : DurableRight g done d) where
  -- what format fixed is in its ranges, and the areas have the lengths that it says
  pub ranges : Ranged (params_of (only d))
  ranges = ranged (params_of (only d)) r.range

  pub marks_long : length d.marks ≡ 12 + 8 * pages_of (only d)
  marks_long = r.marks ∙ ap (λ (n : ℕ). 12 + 8 * n) (sym r.pages)

  pub stored_long : length d.stored ≡ size_of (only d) * pages_of (only d)
  stored_long = r.stored ∙ ap (λ (n : ℕ). n * g.pages) (sym r.size) ∙ ap (λ (n : ℕ). size_of (only d) * n) (sym r.pages)

  pub logged_last : logged_of (only d) ≤ last_of (only d)
  logged_last = omega (arith, r.logged_done, r.last)

module _ {g : Ground} {done : List (List ℕ)} {h : Past} {s : Lent} (r : Right g done h s) where
  -- what the committed updates pass where they are above their pages' stamps, and the uncommitted ones pass, each online record passes
  pub online_every : (c : List ℕ → Bool) → every (λ (q : List ℕ). not (above_stamp s.durable.marks q) || c q) (rows_of g done) ≡ true → every c (open_of h) ≡ true → every c (online_of s) ≡ true
  online_every c a b = online_all (above_stamp s.durable.marks) (rows_of g done) (open_of h) r.lost.online_is c a b

  -- or pass all of them
  pub online_each : (c : List ℕ → Bool) → every c (rows_of g done) ≡ true → every c (open_of h) ≡ true → every c (online_of s) ≡ true
  online_each c a b = online_every c (every_imp c (λ (q : List ℕ). not (above_stamp s.durable.marks q) || c q) (λ q. or_right (not (above_stamp s.durable.marks q)) (c q)) (rows_of g done) a) b
