-- What a support desk can read: what was committed under a number stands, whoever is given that number later and whatever is called under it.
-- An abort takes back the updates of the number's present owner and nothing else; the next owner is shown just what is committed.
use Prim.Native.Nat.{ℕ, ◌+◌, ◌≤◌, ◌<◌}
use native.Mathlib.Omega.{arith}
use mathlib.Core.Path.{◌≡◌, refl, sym, ap, ◌∙◌}
use mathlib.Core.Bool.{Bool, true, false, cond, not, ◌&&◌, ◌||◌, false≢true}
use mathlib.Core.List.{List, [], ◌∷◌, ◌++◌, append-nil}
use lib.ListN.{length}
use lib.Dec.{leb}
use borrow.Author.Tests.{eqb-true, ne_eqb, lt-leb}
use Rattle.record.specs.Rows.{keep, cons_if}
use Rattle.record.specs.Record.{owner_of, number_of, committed, applied, on_page, committed_on, owned_by, numbered, number_rows}
use Rattle.record.proofs.Rows.{Wide, none, one, wide_keep, wide_append, wide_number}
use Rattle.rules.specs.Sound.{every}
use Rattle.rules.proofs.Extremes.{number_at_most}
use Rattle.rules.proofs.Every.{or_right, every_kept, keep_within, every_imp}
use Rattle.redo.proofs.View.{keep_append}
use Rattle.redo.proofs.Views.{keep_keep, keep_same, keep_same_where, keep_swap}
use Rattle.redo.proofs.Loose.{≅-every, owned_open}
use Rattle.redo.proofs.Numbered.{every_not_owned, keep_others_all, numbered_committed, numbered_number}
use Rattle.keeps.proofs.Tests.{every_append}
use Rattle.history.specs.Past.{Past, begins, updates, commits, aborts, falls, rises, start_page, shown}
use Rattle.history.specs.Committed.{committed_of, numbered_to}
use Rattle.history.proofs.Right.{Ground, PastRight, rows_of, uncommitted, open_of}
use Rattle.history.proofs.Facts.{done_committed, done_last, open_unset, open_every}
use Rattle.history.proofs.Pasts.{made_wide}

-- begin, abort, update, a loss and a restart leave what is committed as it is
pub begin_keeps : (h : Past) (x : ℕ) → committed_of (begins h x) ≡ committed_of h
unfolding begins
begin_keeps h x = refl

pub abort_keeps : (h : Past) (x : ℕ) → 1 ≤ x → committed_of (aborts h x) ≡ committed_of h
unfolding aborts
abort_keeps h x m = keep_swap committed (λ (r : List ℕ). not (owned_by x r)) h.made ∙ keep_others_all x (committed_of h) m (every_kept committed committed (λ r e. e) h.made)

pub update_keeps : (h : Past) (r : List ℕ) → committed r ≡ false → committed_of (updates h r) ≡ committed_of h
unfolding updates keep
update_keeps h r c =
    keep_append committed h.made (r ∷ []) ∙ ap (λ (t : Bool). committed_of h ++ cons_if t r []) c ∙ append-nil (committed_of h)

pub falls_keeps : (h : Past) → committed_of (falls h) ≡ committed_of h
unfolding falls
falls_keeps h = keep_within committed committed (λ r e. e) h.made

pub rises_keeps : (h : Past) → committed_of (rises h) ≡ committed_of h
unfolding rises
rises_keeps h = keep_within committed committed (λ r e. e) h.made

-- numbering from k on changes nothing that is committed under a smaller number
number_keeps : (x k n : ℕ) → 1 ≤ x → n < k → {l : List (List ℕ)} → Wide 19 l → k + length (keep (owned_by x) l) ≤ 4294967296 → keep (numbered_to n) (number_rows x k l) ≡ keep (numbered_to n) l
unfolding number_rows keep
number_keeps x k n m b none c = refl
number_keeps x k n m b (one {r} {rs = l} w ws) c =
    pick (owned_by x r) refl c (λ i. number_keeps x (k + 1) n m (omega arith) ws i) (λ i. number_keeps x k n m b ws i)
  where
    -- the row that is numbered k has a greater number
    above : k ≤ 4294967295 → numbered_to n (numbered r k) ≡ false
    above i =
        let j : number_of (numbered r k) ≡ k = numbered_number r k w i in
        rw (numbered_committed r k w, j, lt-leb k n b)

    rest : List (List ℕ)
    rest = keep (numbered_to n) l

    pick : (t : Bool) → owned_by x r ≡ t → k + length (cons_if t r (keep (owned_by x) l)) ≤ 4294967296
        → (k + 1 + length (keep (owned_by x) l) ≤ 4294967296 → keep (numbered_to n) (number_rows x (k + 1) l) ≡ rest)
        → (k + length (keep (owned_by x) l) ≤ 4294967296 → keep (numbered_to n) (number_rows x k l) ≡ rest)
        → keep (numbered_to n) (cond t (numbered r k ∷ number_rows x (k + 1) l) (r ∷ number_rows x k l)) ≡ cons_if (numbered_to n r) r rest
    pick true e d f g =
        let s : numbered_to n r ≡ false = ap (λ (t : Bool). t && leb (number_of r) n) (owned_open x m r e) in
        ap (λ (t : Bool). cons_if t (numbered r k) (keep (numbered_to n) (number_rows x (k + 1) l))) (above (omega arith))
        ∙ f (omega arith) ∙ sym (ap (λ (t : Bool). cons_if t r rest) s)
    pick false e d f g = ap (λ (z : List (List ℕ)). cons_if (numbered_to n r) r z) (g d)

-- commit: what was committed up to any number given before is still there, with its numbers, in its order
pub commit_stands : (h : Past) (x n : ℕ) → 1 ≤ x → n ≤ h.last → Wide 19 h.made → h.last + length (keep (owned_by x) h.made) ≤ 4294967295 → keep (numbered_to n) (commits h x).made ≡ keep (numbered_to n) h.made
unfolding commits
commit_stands h x n m b w c = number_keeps x (h.last + 1) n m (omega arith) w (omega arith)

-- numbers are given up to the last number
module _ {g : Ground} {done : List (List ℕ)} {h : Past} (p : PastRight g done h) where
  numbers : every (λ (r : List ℕ). not (committed r) || leb (number_of r) h.last) h.made ≡ true
  numbers =
      ≅-every low p.made
      ∙ every_append low (rows_of g done) (open_of h)
      (every_imp (number_at_most h.last) low (λ r. or_right (not (committed r)) (leb (number_of r) h.last)) (rows_of g done) (done_last p))
      (every_imp uncommitted low (λ r k. ap (λ (t : Bool). t || leb (number_of r) h.last) k) (open_of h) (open_unset p))
    where
      low : List ℕ → Bool
      low r = not (committed r) || leb (number_of r) h.last

  -- so what is committed is what is committed up to the last number
  pub committed_to : keep (numbered_to h.last) h.made ≡ committed_of h
  committed_to = keep_same_where (λ (r : List ℕ). not (committed r) || leb (number_of r) h.last) (numbered_to h.last) committed (λ r k. go (committed r) (leb (number_of r) h.last) k) h.made numbers
    where
      go : (s t : Bool) → (not s || t) ≡ true → (s && t) ≡ s
      go true t k = k
      go false t k = refl

-- an abort under another number changes nothing that the reader is shown
pub abort_shows : (h : Past) (x y p : ℕ) → (y ≡ x → ⊥) → 1 ≤ x → shown (aborts h x) y p ≡ shown h y p
unfolding aborts shown
abort_shows h x y p d m =
    ap (λ (l : List (List ℕ)). applied l (start_page h p))
    (keep_keep sees (λ (r : List ℕ). not (owned_by x r)) h.made
    ∙ keep_same (λ (r : List ℕ). not (owned_by x r) && sees r) sees (λ r. go r (owned_by x r) refl) h.made)
  where
    sees : List ℕ → Bool
    sees r = on_page p r && (committed r || owned_by y r)

    unseen : (a b c : Bool) → b ≡ false → c ≡ false → false ≡ (a && (b || c))
    unseen true b c e f = rw (e, f)
    unseen false b c e f = refl

    go : (r : List ℕ) (t : Bool) → owned_by x r ≡ t → (not t && sees r) ≡ sees r
    go r true e = unseen (on_page p r) (committed r) (owned_by y r) (owned_open x m r e) (ne_eqb (owner_of r) y (λ f. d (sym f ∙ eqb-true (owner_of r) x e)))
    go r false e = refl

-- a number that is not live has no row: what its owners made is committed or taken back
pub unowned : {g : Ground} {done : List (List ℕ)} {h : Past} → PastRight g done h → (x : ℕ) → 1 ≤ x → h.live x ≡ false → every (λ (r : List ℕ). not (owned_by x r)) h.made ≡ true
unowned {g} {done} {h} p x m n =
    ≅-every another p.made
    ∙ every_append another (rows_of g done) (open_of h)
    (every_not_owned x (rows_of g done) m (done_committed p))
    (open_every p another (λ r f. go r (owned_by x r) refl f.alive))
  where
    another : List ℕ → Bool
    another r = not (owned_by x r)

    go : (r : List ℕ) (t : Bool) → owned_by x r ≡ t → h.live (owner_of r) ≡ true → not t ≡ true
    go r true e a = absurd (false≢true (sym n ∙ ap (λ (y : ℕ). h.live y) (sym (eqb-true (owner_of r) x e)) ∙ a))
    go r false e a = refl

-- so who is given it next is shown just what is committed
pub new_shows : {g : Ground} {done : List (List ℕ)} {h : Past} → PastRight g done h → (x p : ℕ) → 1 ≤ x → h.live x ≡ false → shown h x p ≡ applied (keep (committed_on p) h.made) (start_page h p)
unfolding shown
new_shows {g} {done} {h} q x p m n =
    ap (λ (l : List (List ℕ)). applied l (start_page h p))
    (keep_same_where (λ (r : List ℕ). not (owned_by x r)) (λ (r : List ℕ). on_page p r && (committed r || owned_by x r)) (committed_on p)
    (λ r e. go (owned_by x r) (on_page p r) (committed r) e) h.made (unowned q x m n))
  where
    go : (o a c : Bool) → not o ≡ true → (a && (c || o)) ≡ (a && c)
    go true a c e = absurd (false≢true e)
    go false a true e = refl
    go false a false e = refl

-- the history some accepted calls, losses and restarts later
pub data Later (h : Past) : Past → Type 0 where
  now : Later h h
  begin : {k : Past} → Later h k → (x : ℕ) → Later h (begins k x)
  update : {k : Past} → Later h k → (r : List ℕ) → length r ≡ 19 → committed r ≡ false → Later h (updates k r)
  commit : {k : Past} → Later h k → (x : ℕ) → 1 ≤ x → k.last + length (keep (owned_by x) k.made) ≤ 4294967295 → Later h (commits k x)
  abort : {k : Past} → Later h k → (x : ℕ) → 1 ≤ x → Later h (aborts k x)
  loss : {k : Past} → Later h k → Later h (falls k)
  restart : {k : Past} → Later h k → Later h (rises k)

-- numbers are not given back, and rows keep their width
later_last : {h k : Past} → Later h k → h.last ≤ k.last
unfolding begins updates commits aborts falls rises
later_last now = omega arith
later_last (begin l x) = later_last l
later_last (update l r w c) = later_last l
later_last (commit l x m b) = omega (arith, later_last l)
later_last (abort l x m) = later_last l
later_last (loss l) = later_last l
later_last (restart l) = later_last l

later_wide : {h k : Past} → Later h k → Wide 19 h.made → Wide 19 k.made
unfolding begins updates commits aborts falls rises
later_wide now w = w
later_wide (begin l x) w = later_wide l w
later_wide (update l r e c) w = wide_append (later_wide l w) (one e none)
later_wide (commit {k} l x m b) w = wide_number x (k.last + 1) (later_wide l w)
later_wide (abort l x m) w = wide_keep (λ (r : List ℕ). not (owned_by x r)) (later_wide l w)
later_wide (loss l) w = wide_keep committed (later_wide l w)
later_wide (restart l) w = wide_keep committed (later_wide l w)

-- where the same is committed, the same is committed up to a number
up_to : (n : ℕ) (h k : Past) → committed_of k ≡ committed_of h → keep (numbered_to n) k.made ≡ keep (numbered_to n) h.made
up_to n h k e =
    sym (keep_keep low committed k.made) ∙ ap (λ (l : List (List ℕ)). keep low l) e ∙ keep_keep low committed h.made
  where
    low : List ℕ → Bool
    low r = leb (number_of r) n

later_stands : {h k : Past} → Wide 19 h.made → Later h k → keep (numbered_to h.last) k.made ≡ keep (numbered_to h.last) h.made
later_stands w now = refl
later_stands {h} w (begin {k} l x) = up_to h.last k (begins k x) (begin_keeps k x) ∙ later_stands w l
later_stands {h} w (update {k} l r e c) = up_to h.last k (updates k r) (update_keeps k r c) ∙ later_stands w l
later_stands {h} w (commit {k} l x m b) = commit_stands k x h.last m (later_last l) (later_wide l w) b ∙ later_stands w l
later_stands {h} w (abort {k} l x m) = up_to h.last k (aborts k x) (abort_keeps k x m) ∙ later_stands w l
later_stands {h} w (loss {k} l) = up_to h.last k (falls k) (falls_keeps k) ∙ later_stands w l
later_stands {h} w (restart {k} l) = up_to h.last k (rises k) (rises_keeps k) ∙ later_stands w l

-- what is committed stands: no later call under any number, the same one or another, changes, takes back or reorders it
pub stands : {g : Ground} {done : List (List ℕ)} {h k : Past} → PastRight g done h → Later h k → keep (numbered_to h.last) k.made ≡ committed_of h
stands p l = later_stands (made_wide p) l ∙ committed_to p
