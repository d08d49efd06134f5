-- The history by itself: what each call, and a loss of power, leaves uncommitted, and that the history stays right.
-- No byte of the store is looked at; every step's proof takes its part about the history from here.
use Prim.Native.Nat.{ℕ, ◌+◌, ◌≤◌}
use native.Mathlib.Omega.{arith}
use mathlib.Core.Path.{◌≡◌, refl, sym, ap, ◌∙◌, subst}
use mathlib.Core.Bool.{Bool, true, false, not, ◌&&◌, ◌||◌, or-true}
use mathlib.Core.List.{List, [], ◌∷◌, ◌++◌, map, append_assoc}
use lib.ListN.{length, length-append, length-map}
use lib.Dec.{eqb}
use Rattle.word.proofs.Tests.{and_both}
use Rattle.record.specs.Rows.{keep, cons_if}
use Rattle.record.specs.Record.{owner_of, number_of, committed, owned_by, body_of, well_formed}
use Rattle.record.proofs.Rows.{Wide, none, one, wide_keep, wide_append, wide_bodies}
use Rattle.rules.specs.declared.Params.{Params}
use Rattle.rules.specs.Sound.{every, pairs, between, apart}
use Rattle.rules.proofs.Every.{every_kept, keep_within, every_kept_where, every_imp}
use Rattle.redo.proofs.View.{keep_append}
use Rattle.redo.proofs.Views.{keep_swap, keep_all}
use Rattle.redo.proofs.Loose.{◌≅◌, still, then, numbered_from, ≅-sym, ≅-equal, ≅-before, ≅-keep, ≅-wide, ≅-number, owned_open}
use Rattle.redo.proofs.Numbered.{keep_open_none, keep_others_all, numbered_from_append, numbered_from_wide}
use Rattle.redo.proofs.Commits.{commit_loose, commit_open}
use Rattle.keeps.proofs.Tests.{every_append, every_one, pairs_last, pairs_keep}
use Rattle.keeps.proofs.Numbering.{bodies_formed}
use Rattle.history.specs.Past.{Past, fresh, begins, updates, commits, aborts, falls, rises}
use Rattle.history.proofs.Right.{Ground, PastRight, rows_of, uncommitted, open_of, open_row}
use Rattle.history.proofs.Facts.{open_facts, done_committed, open_unset}

-- an uncommitted update stays one while its owner is live
open_live : (g : Ground) (live on : ℕ → Bool) (r : List ℕ) → (live (owner_of r) ≡ true → on (owner_of r) ≡ true) → open_row g live r ≡ true → open_row g on r ≡ true
unfolding open_row
open_live g live on r f h =
    let a : Bool = well_formed g.size g.pages r && between 1 (owner_of r) 32 && eqb (number_of r) 0 in
    let k : (a ≡ true) × (live (owner_of r) ≡ true) = and_both a (live (owner_of r)) h in
    rw (k.0, f k.1)

-- what update, commit, abort, a loss and a restart leave uncommitted
pub open_update : (h : Past) (r : List ℕ) → committed r ≡ false → open_of (updates h r) ≡ open_of h ++ (r ∷ [])
unfolding updates keep
open_update h r c = keep_append uncommitted h.made (r ∷ []) ∙ ap (λ (t : Bool). open_of h ++ cons_if (not t) r []) c

-- every update that was made has the width of an online record
pub made_wide : {g : Ground} {done : List (List ℕ)} {h : Past} → PastRight g done h → Wide 19 h.made
made_wide {g} {done} {h} p = ≅-wide (wide_append (numbered_from_wide (g.base + 1) p.done_wide) p.open_wide) (≅-sym p.made)

pub open_commit : {g : Ground} {done : List (List ℕ)} {h : Past} → PastRight g done h → (x : ℕ) → 1 ≤ x → open_of (commits h x) ≡ keep (λ (r : List ℕ). not (owned_by x r)) (open_of h)
unfolding commits
open_commit {g} {done} {h} p x m = commit_open x (h.last + 1) m (made_wide p)

pub open_abort : (h : Past) (x : ℕ) → open_of (aborts h x) ≡ keep (λ (r : List ℕ). not (owned_by x r)) (open_of h)
unfolding aborts
open_abort h x = keep_swap uncommitted (λ (r : List ℕ). not (owned_by x r)) h.made

open_none : (l : List (List ℕ)) → keep uncommitted (keep committed l) ≡ []
open_none l = keep_open_none (keep committed l) (every_kept committed committed (λ r e. e) l)

pub open_falls : (h : Past) → open_of (falls h) ≡ []
unfolding falls
open_falls h = open_none h.made

pub open_rises : (h : Past) → open_of (rises h) ≡ []
unfolding rises
open_rises h = open_none h.made

-- an owner's updates are all uncommitted
pub owned_made : (h : Past) (x : ℕ) → 1 ≤ x → keep (owned_by x) h.made ≡ keep (owned_by x) (open_of h)
owned_made h x m = sym (keep_within (owned_by x) uncommitted (λ r e. ap not (owned_open x m r e)) h.made)

-- a step that commits nothing: what is made, who is live, whether a restart is awaited; `opened` is what it leaves uncommitted
past_moved : {g : Ground} {done : List (List ℕ)} {h : Past} → PastRight g done h → (made opened : List (List ℕ)) (live : ℕ → Bool) (down : Bool)
    → keep uncommitted made ≡ opened → made ≅ rows_of g done ++ opened → every (open_row g live) opened ≡ true → Wide 19 opened → pairs apart opened ≡ true
    → PastRight g done (record { size = h.size; pages = h.pages; start = h.start; last = h.last; made = made; live = live; down = down })
past_moved {g} {done} p made opened live down e m r w a =
    record {
      size = p.size;
      pages = p.pages;
      start = p.start;
      last = p.last;
      bound = p.bound;
      made = subst (λ (l : List (List ℕ)). made ≅ rows_of g done ++ l) (sym e) m;
      formed = p.formed;
      done_wide = p.done_wide;
      open_rows = ap (λ (l : List (List ℕ)). every (open_row g live) l) e ∙ r;
      open_wide = subst (λ (l : List (List ℕ)). Wide 19 l) (sym e) w;
      apart = ap (λ (l : List (List ℕ)). pairs apart l) e ∙ a;
    }

-- begin: one more is live
pub past_begin : {g : Ground} {done : List (List ℕ)} {h : Past} → PastRight g done h → (x : ℕ) → PastRight g done (begins h x)
unfolding begins
past_begin {g} {done} {h} p x =
    past_moved p h.made (open_of h) on h.down refl p.made
    (every_imp (open_row g h.live) (open_row g on) (λ r k. open_live g h.live on r (also (owner_of r)) k) (open_of h) p.open_rows) p.open_wide p.apart
  where
    on : ℕ → Bool
    on y = eqb y x || h.live y

    also : (y : ℕ) → h.live y ≡ true → on y ≡ true
    also y e = ap (λ (t : Bool). eqb y x || t) e ∙ or-true (eqb y x)

-- update: one more row, well formed, of a live owner, apart from the others' uncommitted updates
pub past_update : {g : Ground} {done : List (List ℕ)} {h : Past} → PastRight g done h → (r : List ℕ) → length r ≡ 19 → committed r ≡ false → open_row g h.live r ≡ true → every (λ (a : List ℕ). apart a r) (open_of h) ≡ true → PastRight g done (updates h r)
unfolding updates
past_update {g} {done} {h} p r w c o a =
    past_moved p (h.made ++ (r ∷ [])) (open_of h ++ (r ∷ [])) h.live h.down (open_update h r c)
    (then (≅-before (r ∷ []) p.made) (≅-equal (append_assoc (rows_of g done) (open_of h) (r ∷ []))))
    (every_append (open_row g h.live) (open_of h) (r ∷ []) p.open_rows (every_one (open_row g h.live) r o))
    (wide_append p.open_wide (one w none)) (pairs_last apart (open_of h) r p.apart a)

-- those that are not the owner's are of owners that stay live
others_live : (g : Ground) (live : ℕ → Bool) (x : ℕ) (o : List (List ℕ)) → every (open_row g live) o ≡ true → every (open_row g (λ (y : ℕ). not (eqb y x) && live y)) (keep (λ (r : List ℕ). not (owned_by x r)) o) ≡ true
others_live g live x o h =
    every_kept_where (λ (r : List ℕ). not (owned_by x r)) (open_row g live) (open_row g on) (λ r n k. open_live g live on r (λ e. ap (λ (t : Bool). t && live (owner_of r)) n ∙ e) k) o h
  where
    on : ℕ → Bool
    on y = not (eqb y x) && live y

-- abort: the owner's updates are taken back, and nothing else
pub past_abort : {g : Ground} {done : List (List ℕ)} {h : Past} → PastRight g done h → (x : ℕ) → 1 ≤ x → PastRight g done (aborts h x)
unfolding aborts
past_abort {g} {done} {h} p x m =
    past_moved p (keep other h.made) (keep other (open_of h)) (λ (y : ℕ). not (eqb y x) && h.live y) h.down (open_abort h x)
    (then (≅-keep other p.made) (≅-equal (keep_append other (rows_of g done) (open_of h)
    ∙ ap (λ (l : List (List ℕ)). l ++ keep other (open_of h)) (keep_others_all x (rows_of g done) m (done_committed p)))))
    (others_live g h.live x (open_of h) p.open_rows) (wide_keep other p.open_wide) (pairs_keep other apart (open_of h) p.apart)
  where
    other : List ℕ → Bool
    other r = not (owned_by x r)

-- commit: the owner's updates are committed behind all that was, in the order made; `mine` is those updates, as any table has them
pub past_commit : {g : Ground} {done : List (List ℕ)} {h : Past} → PastRight g done h → (x : ℕ) → 1 ≤ x → (mine : List (List ℕ)) → mine ≡ keep (owned_by x) (open_of h) → h.last + length mine ≤ 4294967295 → PastRight g (done ++ map body_of mine) (commits h x)
unfolding commits
past_commit {g} {done} {h} p x m mine f b =
    record {
      size = p.size;
      pages = p.pages;
      start = p.start;
      last = omega (arith, count, p.last, length-append done (map body_of mine), length-map mine body_of);
      bound = omega (arith, count);
      made = then (≅-number x (h.last + 1) m p.made)
          (then (commit_loose x (h.last + 1) (rows_of g done) (open_of h) m (done_committed p) (open_unset p) p.apart p.open_wide)
          (≅-equal (sym (append_assoc (rows_of g done) (fresh_rows (keep (owned_by x) (open_of h))) (keep other (open_of h)))
          ∙ ap (λ (l : List (List ℕ)). (rows_of g done ++ fresh_rows l) ++ keep other (open_of h)) (sym f)
          ∙ ap (λ (l : List (List ℕ)). (rows_of g done ++ fresh_rows mine) ++ l) (sym e)
          ∙ ap (λ (l : List (List ℕ)). l ++ open_of (commits h x)) joined)));
      formed = every_append (well_formed g.size g.pages) done (map body_of mine) p.formed (bodies_formed g.size g.pages mine own_formed);
      done_wide = wide_append p.done_wide (wide_bodies (subst (λ (l : List (List ℕ)). Wide 19 l) (sym f) (wide_keep (owned_by x) p.open_wide)));
      open_rows = ap (λ (l : List (List ℕ)). every (open_row g (λ (y : ℕ). not (eqb y x) && h.live y)) l) e ∙ others_live g h.live x (open_of h) p.open_rows;
      open_wide = subst (λ (l : List (List ℕ)). Wide 19 l) (sym e) (wide_keep other p.open_wide);
      apart = ap (λ (l : List (List ℕ)). pairs apart l) e ∙ pairs_keep other apart (open_of h) p.apart;
    }
  where
    other : List ℕ → Bool
    other r = not (owned_by x r)

    fresh_rows : List (List ℕ) → List (List ℕ)
    fresh_rows l = numbered_from (h.last + 1) (map body_of l)

    e : open_of (commits h x) ≡ keep other (open_of h)
    e = open_commit p x m

    count : length (keep (owned_by x) h.made) ≡ length mine
    count = ap (λ (l : List (List ℕ)). length l) (owned_made h x m ∙ sym f)

    joined : rows_of g done ++ fresh_rows mine ≡ rows_of g (done ++ map body_of mine)
    joined =
        let k : h.last + 1 ≡ g.base + 1 + length done = omega (arith, p.last) in
        ap (λ (n : ℕ). rows_of g done ++ numbered_from n (map body_of mine)) k ∙ sym (numbered_from_append (g.base + 1) done (map body_of mine))

    own_formed : every (well_formed g.size g.pages) mine ≡ true
    own_formed =
        ap (λ (l : List (List ℕ)). every (well_formed g.size g.pages) l) f
        ∙ every_kept_where (owned_by x) (open_row g h.live) (well_formed g.size g.pages) (λ r q k. (open_facts g h.live r k).formed) (open_of h) p.open_rows

-- a loss, and a restart: what is committed remains
abbrev bared : Past → Bool → Past
bared h down = record { size = h.size; pages = h.pages; start = h.start; last = h.last; made = keep committed h.made; live = λ (y : ℕ). false; down = down }

past_bare : {g : Ground} {done : List (List ℕ)} {h : Past} → PastRight g done h → (down : Bool) → PastRight g done (bared h down)
unfolding every pairs
past_bare {g} {done} {h} p down =
    past_moved p (keep committed h.made) [] (λ (y : ℕ). false) down (open_none h.made)
    (then (≅-keep committed p.made) (≅-equal (keep_append committed (rows_of g done) (open_of h)
    ∙ ap (λ (l : List (List ℕ)). l ++ keep committed (open_of h)) (keep_all committed (rows_of g done) (done_committed p))
    ∙ ap (λ (l : List (List ℕ)). rows_of g done ++ l) (keep_swap committed uncommitted h.made ∙ open_none h.made))))
    refl none refl

pub past_falls : {g : Ground} {done : List (List ℕ)} {h : Past} → PastRight g done h → PastRight g done (falls h)
unfolding falls
past_falls p = past_bare p true

pub past_rises : {g : Ground} {done : List (List ℕ)} {h : Past} → PastRight g done h → PastRight g done (rises h)
unfolding rises
past_rises p = past_bare p false

-- format: nothing is committed yet, and nothing made
pub past_fresh : (g : Params) (last : ℕ) (start : List ℕ) → last ≤ 4294967295 → PastRight (record { size = g.size; pages = g.pages; start = start; base = last }) [] (fresh g last start)
unfolding fresh keep every pairs numbered_from
past_fresh g last start b =
    record {
      size = refl;
      pages = refl;
      start = refl;
      last = omega arith;
      bound = b;
      made = still;
      formed = refl;
      done_wide = none;
      open_rows = refl;
      open_wide = none;
      apart = refl;
    }
