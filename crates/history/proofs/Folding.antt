-- What compact does to rows: a page's committed online records are folded into its stored page, and its new stamp is their greatest number.
-- So no committed update of that page is above its stamp any more, and those of other pages are as before.
use Prim.Native.Nat.{ℕ, ◌≤◌}
use native.Mathlib.Omega.{arith}
use mathlib.Core.Path.{◌≡◌, refl, sym, ap, ◌∙◌}
use mathlib.Core.Bool.{Bool, true, false, not, ◌&&◌, ◌||◌, and-true, and-false}
use mathlib.Core.List.{List, [], ◌∷◌, ◌++◌, append-nil}
use lib.ListN.{length}
use lib.Dec.{leb, ltb}
use borrow.Author.Tests.{leb-true, ltb-true, ltb-false, le-ltb, eqb-true, eqb-false}
use Rattle.word.specs.Word.{num}
use Rattle.word.proofs.Tests.{and_both}
use Rattle.record.specs.Rows.{keep, cons_if}
use Rattle.record.specs.Record.{page_of, number_of, committed, applied, on_page, committed_on, greatest}
use Rattle.rules.specs.Lent.{stamp_at}
use Rattle.rules.specs.Sound.{every, pairs}
use Rattle.rules.proofs.Every.{every_keep, every_kept_where, every_imp}
use Rattle.rules.proofs.Extremes.{number_at_most, greatest_all, greatest_most}
use Rattle.rules.proofs.Needed.{open_stays}
use Rattle.redo.proofs.Order.{≈-picked}
use Rattle.redo.proofs.Loose.{◌≅◌, then, ≅-equal, ≅-keep, ≅-free, ≅-every}
use Rattle.redo.proofs.View.{keep_append}
use Rattle.redo.proofs.Views.{rising, keep_keep, keep_same_where, keep_both, keep_all, keep_none, stored_then_online}
use Rattle.keeps.proofs.Tests.{picked_every}
use Rattle.keeps.proofs.Compacts.{stays, stays_count}
use Rattle.history.proofs.Right.{uncommitted, above_stamp}

-- where there is a row, numbered above a and at most b, a is at most b
some_between : (a b : ℕ) (l : List (List ℕ)) → 1 ≤ length l → every (λ (r : List ℕ). ltb a (number_of r)) l ≡ true → every (λ (r : List ℕ). leb (number_of r) b) l ≡ true → a ≤ b
unfolding every
some_between a b [] n h k = absurd (omega arith)
some_between a b (r ∷ l) n h k =
    omega (arith, ltb-true a (number_of r) (and_both (ltb a (number_of r)) (every (λ (x : List ℕ). ltb a (number_of x)) l) h).0, leb-true (number_of r) b (and_both (leb (number_of r) b) (every (λ (x : List ℕ). leb (number_of x) b) l) k).0)

nothing : {A : Type 0} (l : List A) → length l ≡ 0 → l ≡ []
nothing [] h = refl
nothing (x ∷ l) h = absurd (omega arith)

pub stays_none : (p : ℕ) (l : List (List ℕ)) → length (keep (committed_on p) l) ≡ length (keep (on_page p) l) → keep (on_page p) (keep (stays p) l) ≡ []
stays_none p l h = nothing (keep (on_page p) (keep (stays p) l)) (omega (arith, stays_count p l))

-- and the page's records are its committed ones
pub folds_all : (p : ℕ) (l : List (List ℕ)) → length (keep (committed_on p) l) ≡ length (keep (on_page p) l) → keep (committed_on p) l ≡ keep (on_page p) l
unfolding keep
folds_all p [] h = refl
folds_all p (r ∷ l) h = pick (on_page p r) (committed r) h (folds_all p l)
  where
    pick : (s t : Bool) → length (cons_if (s && t) r (keep (committed_on p) l)) ≡ length (cons_if s r (keep (on_page p) l))
        → (length (keep (committed_on p) l) ≡ length (keep (on_page p) l) → keep (committed_on p) l ≡ keep (on_page p) l)
        → cons_if (s && t) r (keep (committed_on p) l) ≡ cons_if s r (keep (on_page p) l)
    pick true true e f = ap (λ (k : List (List ℕ)). r ∷ k) (f (omega arith))
    pick true false e f = absurd (omega (arith, stays_count p l))
    pick false t e f = f e

-- online is what no stored page holds, then what is not committed: `above` is the test for the first
module _ (p : ℕ) (above : List ℕ → Bool) (rows opened online : List (List ℕ)) (hc : every committed rows ≡ true) (ho : every uncommitted opened ≡ true) (is : online ≅ keep above rows ++ opened) where
  kept_committed : every committed (keep above rows) ≡ true
  kept_committed = every_keep above committed rows hc

  opened_stays : every (stays p) opened ≡ true
  opened_stays = every_imp uncommitted (stays p) (open_stays p) opened ho

  -- the page's committed records of these
  committed_part : keep (committed_on p) (keep above rows ++ opened) ≡ keep (on_page p) (keep above rows)
  committed_part =
      keep_append (committed_on p) (keep above rows) opened
      ∙ ap (λ (k : List (List ℕ)). keep (committed_on p) (keep above rows) ++ k) (keep_none (committed_on p) opened opened_stays)
      ∙ append-nil (keep (committed_on p) (keep above rows))
      ∙ keep_same_where committed (committed_on p) (on_page p) (λ r e. ap (λ (t : Bool). on_page p r && t) e ∙ and-true (on_page p r)) (keep above rows) kept_committed

  -- what is folded is the page's committed updates above its stamp
  folded_are : keep (committed_on p) online ≅ keep (on_page p) (keep above rows)
  folded_are = then (≅-keep (committed_on p) is) (≅-equal committed_part)

  -- and the page sees no difference
  folded_page : (g : List ℕ) → applied (keep (committed_on p) online) g ≡ applied (keep (on_page p) (keep above rows)) g
  folded_page g =
      ≈-picked p (committed_on p) (λ r e. eqb-true (page_of r) p (and_both (on_page p r) (committed r) e).0) (≅-free is) g
      ∙ ap (λ (k : List (List ℕ)). applied k g) committed_part

  -- what stays is the committed updates of the other pages above their stamps, then what is not committed
  stays_are : keep (stays p) online ≅ keep (λ (r : List ℕ). not (on_page p r)) (keep above rows) ++ opened
  stays_are =
      then (≅-keep (stays p) is)
      (≅-equal
      (keep_append (stays p) (keep above rows) opened
      ∙ ap (λ (k : List (List ℕ)). keep (stays p) (keep above rows) ++ k) (keep_all (stays p) opened opened_stays)
      ∙ ap (λ (k : List (List ℕ)). k ++ opened) (keep_same_where committed (stays p) (λ (r : List ℕ). not (on_page p r)) (λ r e. ap (λ (t : Bool). not (on_page p r && t)) e ∙ ap not (and-true (on_page p r))) (keep above rows) kept_committed)))

  -- the greatest number folded is one of those given
  pub folded_most : (last : ℕ) → every (number_at_most last) rows ≡ true → greatest 0 (keep (committed_on p) online) ≤ last
  folded_most last h =
      greatest_most last (keep (committed_on p) online)
      (≅-every (number_at_most last) folded_are ∙ every_keep (on_page p) (number_at_most last) (keep above rows) (every_keep above (number_at_most last) rows h))

-- a page's new stamp, where there is something to fold: the marks and rows before, and the marks with it
pub record Folds (p : ℕ) (marks ms : List ℕ) (rows opened online : List (List ℕ)) : Type 0 where
  pub all_committed : every committed rows ≡ true
  pub none_committed : every uncommitted opened ≡ true
  pub online_is : online ≅ keep (above_stamp marks) rows ++ opened
  pub some : 1 ≤ length (keep (committed_on p) online)
  pub here : num 4 ms (stamp_at p) ≡ greatest 0 (keep (committed_on p) online)
  pub other : (q : ℕ) → (q ≡ p → ⊥) → num 4 ms (stamp_at q) ≡ num 4 marks (stamp_at q)

module _ {p : ℕ} {marks ms : List ℕ} {rows opened online : List (List ℕ)} (f : Folds p marks ms rows opened online) where
  abbrev stamp : ℕ
  stamp = greatest 0 (keep (committed_on p) online)

  folded : keep (committed_on p) online ≅ keep (on_page p) (keep (above_stamp marks) rows)
  folded = folded_are p (above_stamp marks) rows opened online f.all_committed f.none_committed f.online_is

  -- a row's number is at most the new stamp if it was above the old
  abbrev within : List ℕ → Bool
  within r = not (on_page p r && above_stamp marks r) || number_at_most stamp r

  all_within : every within rows ≡ true
  all_within =
      picked_every (λ (r : List ℕ). on_page p r && above_stamp marks r) (number_at_most stamp) rows
      (ap (λ (k : List (List ℕ)). every (number_at_most stamp) k) (sym (keep_both (on_page p) (above_stamp marks) rows)) ∙ sym (≅-every (number_at_most stamp) folded) ∙ greatest_all (keep (committed_on p) online))

  -- the new stamp is not below the old
  raised : num 4 marks (stamp_at p) ≤ stamp
  raised =
      some_between (num 4 marks (stamp_at p)) stamp (keep (committed_on p) online) f.some
      (≅-every later folded ∙ ap (λ (k : List (List ℕ)). every later k) (keep_both (on_page p) (above_stamp marks) rows)
      ∙ every_kept_where (λ (r : List ℕ). on_page p r && above_stamp marks r) committed later (λ r e k. at r (and_both (on_page p r) (above_stamp marks r) e)) rows f.all_committed)
      (greatest_all (keep (committed_on p) online))
    where
      later : List ℕ → Bool
      later r = ltb (num 4 marks (stamp_at p)) (number_of r)

      at : (r : List ℕ) → (on_page p r ≡ true) × (above_stamp marks r ≡ true) → later r ≡ true
      at r e = ap (λ (q : ℕ). ltb (num 4 marks (stamp_at q)) (number_of r)) (sym (eqb-true (page_of r) p e.0)) ∙ e.1

  -- above its stamp is now what was so before and is not of the page
  now_above : (r : List ℕ) → within r ≡ true → above_stamp ms r ≡ (above_stamp marks r && not (on_page p r))
  now_above r h = go (on_page p r) refl h
    where
      low : page_of r ≡ p → (t : Bool) → above_stamp marks r ≡ t → (not t || number_at_most stamp r) ≡ true → number_of r ≤ stamp
      low e true z k = leb-true (number_of r) stamp k
      low e false z k = omega (arith, ltb-false (num 4 marks (stamp_at p)) (number_of r) (ap (λ (q : ℕ). ltb (num 4 marks (stamp_at q)) (number_of r)) (sym e) ∙ z), raised)

      go : (t : Bool) → on_page p r ≡ t → (not (t && above_stamp marks r) || number_at_most stamp r) ≡ true → above_stamp ms r ≡ (above_stamp marks r && not t)
      go true e k =
          let z : page_of r ≡ p = eqb-true (page_of r) p e in
          ap (λ (q : ℕ). ltb (num 4 ms (stamp_at q)) (number_of r)) z ∙ ap (λ (n : ℕ). ltb n (number_of r)) f.here
          ∙ le-ltb stamp (number_of r) (low z (above_stamp marks r) refl k) ∙ sym (and-false (above_stamp marks r))
      go false e k = ap (λ (n : ℕ). ltb n (number_of r)) (f.other (page_of r) (eqb-false (page_of r) p e)) ∙ sym (and-true (above_stamp marks r))

  pub above_now : keep (above_stamp ms) rows ≡ keep (λ (r : List ℕ). not (on_page p r)) (keep (above_stamp marks) rows)
  above_now =
      keep_same_where within (above_stamp ms) (λ (r : List ℕ). above_stamp marks r && not (on_page p r)) now_above rows all_within
      ∙ sym (keep_keep (λ (r : List ℕ). not (on_page p r)) (above_stamp marks) rows)

  pub fewer_above : every (λ (r : List ℕ). not (above_stamp ms r) || above_stamp marks r) rows ≡ true
  fewer_above = every_imp within (λ (r : List ℕ). not (above_stamp ms r) || above_stamp marks r) (λ r h. ap (λ (t : Bool). not t || above_stamp marks r) (now_above r h) ∙ narrower (above_stamp marks r) (not (on_page p r))) rows all_within
    where
      narrower : (s t : Bool) → (not (s && t) || s) ≡ true
      narrower true true = refl
      narrower true false = refl
      narrower false t = refl

  -- so what stays online is again what no stored page holds, then what is not committed
  pub stays_now : keep (stays p) online ≅ keep (above_stamp ms) rows ++ opened
  stays_now = then (stays_are p (above_stamp marks) rows opened online f.all_committed f.none_committed f.online_is) (≅-equal (ap (λ (k : List (List ℕ)). k ++ opened) (sym above_now)))

  -- and the page with what is folded has the committed updates up to its new stamp
  pub page_now : pairs rising rows ≡ true → (g : List ℕ)
      → applied (keep (committed_on p) online) (applied (keep (λ (r : List ℕ). on_page p r && not (above_stamp marks r)) rows) g) ≡ applied (keep (λ (r : List ℕ). on_page p r && not (above_stamp ms r)) rows) g
  page_now u g =
      folded_page p (above_stamp marks) rows opened online f.all_committed f.none_committed f.online_is (applied (keep (λ (r : List ℕ). on_page p r && not (above_stamp marks r)) rows) g)
      ∙ stored_then_online marks p rows g u
      ∙ ap (λ (k : List (List ℕ)). applied k g) (keep_same_where within (on_page p) (λ (r : List ℕ). on_page p r && not (above_stamp ms r)) (λ r h. all (on_page p r) (above_stamp marks r) ∙ ap (λ (t : Bool). on_page p r && not t) (sym (now_above r h))) rows all_within)
    where
      all : (s t : Bool) → s ≡ (s && not (t && not s))
      all true t = ap not (sym (and-false t))
      all false t = refl
