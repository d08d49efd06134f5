-- Laws of the live set in the tables, of the use order, and of an owner's rows.
use Prim.Native.Nat.{ℕ, ◌+◌, ◌-◌, ◌≤◌, ◌<◌}
use native.Mathlib.Omega.{arith}
use mathlib.Core.Path.{◌≡◌, refl, sym, ap, ◌∙◌}
use mathlib.Core.Bool.{Bool, true, false, cond}
use mathlib.Core.List.{List, [], ◌∷◌}
use lib.ListN.{length, get_or, set, drop, replicate}
use lib.Seq.{set_out}
use Rattle.record.specs.Part.{part, with_part}
use lib.Dec.{eqb, leb}
use borrow.Author.Tests.{leb-true, leb-false}
use borrow.Rule.Slice.PartMut.{mid_len, set_mid_at}
use Rattle.record.specs.Rows.{keep, any}
use Rattle.record.specs.Record.{page_of, on_page, owned_by}
use Rattle.record.proofs.Laws.{get_d_part}
use Rattle.rules.proofs.Verdicts.{number_least, number_most}
use Rattle.record.proofs.Listed.{done_more, done_all}
use Rattle.clerk.specs.declared.Clerk.{Clerk}
use Rattle.std.specs.Prelude.{Result, Ok, Err}
use Rattle.rules.specs.declared.Refusal.{Refusal}
use Rattle.clerk.specs.Rule.{with_live, begins}
use Rattle.clerk.proofs.Laws.{number_in_range}
use Rattle.rules.specs.Lent.{live_at, entry_at}
use Rattle.rules.specs.Steps.{freed_of, frames_freed, judged_anew}
use Rattle.rules.specs.Calls.{is_number, is_live}
use Rattle.table.specs.Marks.{mark_pages}
use Rattle.table.proofs.Marks.{marked_page}

-- a number that is not live, once the clerk has its live set from the tables, is begun
pub begun_ok : (c : Clerk) (t : List ℕ) (x : ℕ) → 35 ≤ length t → is_number x ≡ true → is_live t x ≡ false → c.live ≡ part 3 32 t → begins c x ≡ Ok (with_live c x 1 c.last)
unfolding begins
begun_ok c t x h n l e =
    let p₁ : 1 ≤ x = number_least x n in
    let p₂ : x ≤ 32 = number_most x n in
    let at : 3 + (x - 1) ≡ 2 + x = omega arith in
    let slot : get_or c.live (x - 1) 0 ≡ get_or t (2 + x) 0 = ap (λ (v : List ℕ). get_or v (x - 1) 0) e ∙ get_d_part (x - 1) 3 32 t (omega arith) ∙ ap (λ (k : ℕ). get_or t k 0) at in
    rw (number_in_range x p₁ p₂, ap (λ (v : ℕ). eqb v 1) slot ∙ l) refl

-- the clerk of a ruling, or another
abbrev ruled_or : Clerk → Result Clerk Refusal → Clerk
ruled_or c (Ok d) = d
ruled_or c (Err r) = c

-- the tables once the clerk's live set is back in them
pub begun_set : (c d : Clerk) (t t' : List ℕ) (x : ℕ) → 35 ≤ length t → is_number x ≡ true → is_live t x ≡ false → c.live ≡ part 3 32 t → Ok d ≡ begins c x → t' ≡ with_part 3 32 t d.live → t' ≡ set t (live_at x) 1
begun_set c d t t' x h n l e b q =
    let p₁ : 1 ≤ x = number_least x n in
    let p₂ : x ≤ 32 = number_most x n in
    let at : 3 + (x - 1) ≡ 2 + x = omega arith in
    let done : d ≡ with_live c x 1 c.last = ap (ruled_or d) (b ∙ begun_ok c t x h n l e) in
    q ∙ ap (λ (k : Clerk). with_part 3 32 t k.live) done
    ∙ ap (λ (v : List ℕ). with_part 3 32 t (set v (x - 1) 1)) e
    ∙ set_mid_at 3 32 (x - 1) t 1 (omega (arith, mid_len 3 35 t h)) ∙ ap (λ (k : ℕ). set t k 1) at

-- the tables with the entry of a page, by the marks; a page without a mark of its own has its entry past the tables' end
judged_page : (frames : ℕ) (k : List (List ℕ)) (a t : List ℕ) (p : ℕ) → length t ≤ 35 + frames + 1024 → a ≡ mark_pages k (replicate 1024 0) → set t (entry_at frames p) (cond (eqb (get_or a p 0) 1) 1 0) ≡ set t (entry_at frames p) (cond (any (on_page p) k) 1 0)
judged_page frames k a t p l m = one (leb 1024 p) refl
  where
    one : (b : Bool) → leb 1024 p ≡ b → set t (35 + frames + p) (cond (eqb (get_or a p 0) 1) 1 0) ≡ set t (35 + frames + p) (cond (any (on_page p) k) 1 0)
    one true w =
        let f : length t ≤ 35 + frames + p = omega (arith, leb-true 1024 p w) in
        set_out t (35 + frames + p) (cond (eqb (get_or a p 0) 1) 1 0) f ∙ sym (set_out t (35 + frames + p) (cond (any (on_page p) k) 1 0) f)
    one false w = ap (λ (b : Bool). set t (35 + frames + p) (cond b 1 0)) (marked_page k a p (leb-false 1024 p w) m)

-- the order of the loop over the owner's rows
module _ (frames : ℕ) (t : List ℕ) where
  abbrev freed_one : List ℕ → List ℕ → List ℕ
  freed_one r o = freed_of (get_or t (entry_at frames (page_of r)) 0) o

  freed_nil : (x : List ℕ) → frames_freed frames t [] x ≡ x
  unfolding frames_freed
  freed_nil x = refl

  freed_cons : (r : List ℕ) (rs : List (List ℕ)) (x : List ℕ) → frames_freed frames t (r ∷ rs) x ≡ frames_freed frames t rs (freed_one r x)
  unfolding frames_freed
  freed_cons r rs x = refl

  pub freed_turn : (owner : ℕ) (rs : List (List ℕ)) (i : ℕ) (x x' z : List ℕ) → i < length rs → x' ≡ cond (owned_by owner (get_or rs i [])) (freed_of (get_or t (entry_at frames (page_of (get_or rs i []))) 0) x) x → frames_freed frames t (keep (owned_by owner) (drop i rs)) x ≡ z → frames_freed frames t (keep (owned_by owner) (drop (i + 1) rs)) x' ≡ z
  freed_turn owner rs = done_more (frames_freed frames t) freed_one freed_nil freed_cons (owned_by owner) rs

  pub freed_end : (owner : ℕ) (rs : List (List ℕ)) (i : ℕ) (x z : List ℕ) → length rs ≤ i → frames_freed frames t (keep (owned_by owner) (drop i rs)) x ≡ z → x ≡ z
  freed_end owner rs = done_all (frames_freed frames t) freed_one freed_nil freed_cons (owned_by owner) rs

-- the tables of the loop that judges their pages anew
module _ (frames : ℕ) (k : List (List ℕ)) where
  abbrev judge_one : List ℕ → List ℕ → List ℕ
  judge_one r t = set t (entry_at frames (page_of r)) (cond (any (on_page (page_of r)) k) 1 0)

  judged_nil : (x : List ℕ) → judged_anew frames k [] x ≡ x
  unfolding judged_anew
  judged_nil x = refl

  judged_cons : (r : List ℕ) (rs : List (List ℕ)) (x : List ℕ) → judged_anew frames k (r ∷ rs) x ≡ judged_anew frames k rs (judge_one r x)
  unfolding judged_anew
  judged_cons r rs x = refl

  -- the rows that stay are told by their marks
  pub judged_turn : (owner : ℕ) (rs : List (List ℕ)) (i : ℕ) (a x x' z : List ℕ) → i < length rs → length x ≤ 35 + frames + 1024 → a ≡ mark_pages k (replicate 1024 0) → x' ≡ cond (owned_by owner (get_or rs i [])) (set x (entry_at frames (page_of (get_or rs i []))) (cond (eqb (get_or a (page_of (get_or rs i [])) 0) 1) 1 0)) x → judged_anew frames k (keep (owned_by owner) (drop i rs)) x ≡ z → judged_anew frames k (keep (owned_by owner) (drop (i + 1) rs)) x' ≡ z
  judged_turn owner rs i a x x' z h l e q =
      done_more (judged_anew frames k) judge_one judged_nil judged_cons (owned_by owner) rs i x x' z h
      (q ∙ ap (λ (t : List ℕ). cond (owned_by owner (get_or rs i [])) t x) (judged_page frames k a x (page_of (get_or rs i [])) l e))

  pub judged_end : (owner : ℕ) (rs : List (List ℕ)) (i : ℕ) (x z : List ℕ) → length rs ≤ i → judged_anew frames k (keep (owned_by owner) (drop i rs)) x ≡ z → x ≡ z
  judged_end owner rs = done_all (judged_anew frames k) judge_one judged_nil judged_cons (owned_by owner) rs
