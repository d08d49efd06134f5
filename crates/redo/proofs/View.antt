-- What records do to a page depends on the 14 bytes of their bodies alone: an owner, a number, a row that restart entered do not show.
-- So a commit, which only renumbers, leaves every view as it was.
use Prim.Native.Nat.{ℕ, ◌+◌, ◌≤◌, ◌<◌}
use native.Mathlib.Omega.{arith}
use mathlib.Core.Path.{◌≡◌, refl, ap, ◌∙◌}
use mathlib.Core.Logic.{inl}
use mathlib.Core.Bool.{Bool, true, false, cond}
use mathlib.Core.List.{List, [], ◌∷◌, ◌++◌}
use lib.ListN.{length, get_or, take, set, replicate, get_or-append}
use lib.Seq.{get_or-set_other, get_or-take, length-take-le}
use Rattle.word.specs.Word.{num}
use Rattle.record.specs.Rows.{keep, cons_if}
use Rattle.record.specs.Record.{page_of, offset_of, length_of, kind_of, value_of, owned_by, body_of, on_page, change, apply, applied, numbered, entered, number_rows, share_byte, free}
use Rattle.redo.proofs.Bytes.{Agree, num_agree, put_outside}

-- one list of records after another
pub applied_append : (l m : List (List ℕ)) (g : List ℕ) → applied (l ++ m) g ≡ applied m (applied l g)
unfolding applied
applied_append [] m g = refl
applied_append (r ∷ l) m g = applied_append l m (apply r g)

pub keep_append : (b : List ℕ → Bool) (l m : List (List ℕ)) → keep b (l ++ m) ≡ keep b l ++ keep b m
unfolding keep
keep_append b [] m = refl
keep_append b (r ∷ l) m = pick (b r) (keep_append b l m)
  where
    pick : (t : Bool) → keep b (l ++ m) ≡ keep b l ++ keep b m → cons_if t r (keep b (l ++ m)) ≡ cons_if t r (keep b l) ++ keep b m
    pick true e = ap (λ (k : List (List ℕ)). r ∷ k) e
    pick false e = e

-- two rows with the same body
abbrev pub SameBody : List ℕ → List ℕ → Type 0
SameBody r s = Agree 0 14 r s

module _ (r s : List ℕ) (e : SameBody r s) where
  field : (w at : ℕ) → at + w ≤ 14 → num w r at ≡ num w s at
  field w at h = num_agree w r s at (λ i p q. e i (omega arith) (omega arith))

  byte : (i : ℕ) → i < 14 → get_or r i 0 ≡ get_or s i 0
  byte i h = e i (omega arith) (omega arith)

  -- they are of one page, and do the same to it
  pub body_page : page_of r ≡ page_of s
  body_page = field 2 0 (omega arith)

  pub body_offset : offset_of r ≡ offset_of s
  body_offset = field 2 2 (omega arith)

  pub body_length : length_of r ≡ length_of s
  body_length = byte 4 (omega arith)

  pub body_apply : (g : List ℕ) → apply r g ≡ apply s g
  unfolding apply
  body_apply g =
      ap (λ (x : ℕ). change x (length_of r) (kind_of r) (value_of r) g) body_offset
      ∙ ap (λ (x : ℕ). change (offset_of s) x (kind_of r) (value_of r) g) body_length
      ∙ ap (λ (x : ℕ). change (offset_of s) (length_of s) x (value_of r) g) (byte 5 (omega arith))
      ∙ ap (λ (x : ℕ). change (offset_of s) (length_of s) (kind_of s) x g) (field 8 6 (omega arith))

-- whether two rows are free of each other is said by their bodies too
pub body_free : (a b c d : List ℕ) → SameBody a c → SameBody b d → free a b ≡ free c d
unfolding free share_byte
body_free a b c d e f =
    let p : page_of a ≡ page_of c = body_page a c e in
    let q : page_of b ≡ page_of d = body_page b d f in
    let o : offset_of a ≡ offset_of c = body_offset a c e in
    let u : offset_of b ≡ offset_of d = body_offset b d f in
    let w : length_of a ≡ length_of c = body_length a c e in
    let x : length_of b ≡ length_of d = body_length b d f in
    rw (p, q, o, u, w, x)

-- a row that is committed under a number, and one that is entered from the log
pub numbered_body : (r : List ℕ) (k : ℕ) → SameBody (numbered r k) r
unfolding numbered
numbered_body r k i p q = put_outside 4 (set r 14 0) 15 k i (inl (omega arith)) ∙ get_or-set_other r 14 i 0 0 (λ e. omega arith)

pub entered_body : (r : List ℕ) (k : ℕ) → 14 ≤ length r → SameBody (entered (body_of r) k) r
unfolding entered
entered_body r k h i p q =
    let n : length (take 14 r) ≡ 14 = length-take-le 14 r h in
    let m : i < length (take 14 r) = omega arith in
    put_outside 4 (body_of r ++ replicate 5 0) 15 k i (inl (omega arith)) ∙ get_or-append (take 14 r) (replicate 5 0) 0 i m ∙ get_or-take 14 r i 0 q

-- two lists of rows with the same bodies
pub data SameBodies : List (List ℕ) → List (List ℕ) → Type 0 where
  none : SameBodies [] []
  one : {r s : List ℕ} {l m : List (List ℕ)} → SameBody r s → SameBodies l m → SameBodies (r ∷ l) (s ∷ m)

pub bodies_applied : {l m : List (List ℕ)} → SameBodies l m → (g : List ℕ) → applied l g ≡ applied m g
unfolding applied
bodies_applied none g = refl
bodies_applied (one {r} {s} {l} {m} e h) g = ap (λ (x : List ℕ). applied l x) (body_apply r s e g) ∙ bodies_applied h (apply s g)

-- of a page too
pub bodies_page : (p : ℕ) {l m : List (List ℕ)} → SameBodies l m → SameBodies (keep (on_page p) l) (keep (on_page p) m)
unfolding keep
bodies_page p none = none
bodies_page p (one {r} {s} {l} {m} e h) = rw (body_page r s e) (pick (on_page p s) (bodies_page p h))
  where
    pick : (t : Bool) → SameBodies (keep (on_page p) l) (keep (on_page p) m) → SameBodies (cons_if t r (keep (on_page p) l)) (cons_if t s (keep (on_page p) m))
    pick true f = one e f
    pick false f = f

-- a commit renumbers an owner's rows, and a page does not see it
pub number_rows_bodies : (x k : ℕ) (rs : List (List ℕ)) → SameBodies (number_rows x k rs) rs
unfolding number_rows
number_rows_bodies x k [] = none
number_rows_bodies x k (r ∷ rs) = pick (owned_by x r) (number_rows_bodies x (k + 1) rs) (number_rows_bodies x k rs)
  where
    pick : (t : Bool) → SameBodies (number_rows x (k + 1) rs) rs → SameBodies (number_rows x k rs) rs → SameBodies (cond t (numbered r k ∷ number_rows x (k + 1) rs) (r ∷ number_rows x k rs)) (r ∷ rs)
    pick true f h = one (numbered_body r k) f
    pick false f h = one (λ i p q. refl) h

pub page_number_rows : (p x k : ℕ) (rs : List (List ℕ)) (g : List ℕ) → applied (keep (on_page p) (number_rows x k rs)) g ≡ applied (keep (on_page p) rs) g
page_number_rows p x k rs g = bodies_applied (bodies_page p (number_rows_bodies x k rs)) g
