-- Lists of refusals: one test at a time, all of them, and two lists that begin alike. And what the test of an owner's number says.
use Rattle.std.specs.Prelude.{Ok, Err}
use Prim.Native.Nat.{ℕ, zero, suc, ◌≤◌}
use mathlib.Core.Path.{◌≡◌, refl, sym, ap, ◌∙◌}
use mathlib.Core.Bool.{Bool, true, false}
use mathlib.Core.List.{List, [], ◌∷◌, ◌++◌}
use lib.Dec.{leb}
use borrow.Author.Tests.{leb-true}
use Rattle.word.proofs.Tests.{and_both}
use Rattle.rules.specs.declared.Refusal.{Refusal}
use Rattle.rules.specs.Calls.{Verdict}
use Rattle.rules.specs.Calls.{Test, refuse_if, verdict_of, is_number}

-- the test holds: its refusal
pub refused : (b : Bool) (r : Refusal) (v : Verdict) → b ≡ true → Err r ≡ refuse_if b r v
unfolding refuse_if
refused b r v e = sym (ap (λ (t : Bool). refuse_if t r v) e)

-- it does not: what follows
pub passed : (b : Bool) (r : Refusal) (v w : Verdict) → b ≡ false → w ≡ v → w ≡ refuse_if b r v
unfolding refuse_if
passed b r v w e h = h ∙ sym (ap (λ (t : Bool). refuse_if t r v) e)

-- no refusal, so no test held
pub went : (b : Bool) (r : Refusal) (v : Verdict) → refuse_if b r v ≡ Ok tt → (b ≡ false) × (v ≡ Ok tt)
unfolding refuse_if
went true r v e = let z : ◌≡◌ {A = Bool} false true = cc in absurd (mathlib.Core.Bool.false≢true z)
went false r v e = (refl, e)

-- test i of a list; past its end there is none that holds
abbrev pub test_at : List Test → ℕ → Bool
test_at [] i = false
test_at (t ∷ ts) zero = t.holds
test_at (t ∷ ts) (suc i) = test_at ts i

one_more : (t : Test) (ts : List Test) → t.holds ≡ false → ((i : ℕ) → test_at ts i ≡ false) → (i : ℕ) → test_at (t ∷ ts) i ≡ false
one_more t ts e f zero = e
one_more t ts e f (suc i) = f i

-- no refusal exactly if no test holds
pub failed : (ts : List Test) → verdict_of ts ≡ Ok tt → (i : ℕ) → test_at ts i ≡ false
unfolding verdict_of
failed [] e i = refl
failed (t ∷ ts) e i = let h = went t.holds t.gives (verdict_of ts) e in one_more t ts h.0 (failed ts h.1) i

pub all_failed : (ts : List Test) → ((i : ℕ) → test_at ts i ≡ false) → verdict_of ts ≡ Ok tt
unfolding verdict_of
all_failed [] f = refl
all_failed (t ∷ ts) f = sym (passed t.holds t.gives (verdict_of ts) (Ok tt) (f 0) (sym (all_failed ts (λ i. f (suc i)))))

-- lists that begin alike: what follows matters where none of the first tests holds
pub past_all : (R : Verdict → Verdict → Type 0) → ((v : Verdict) → R v v) → (first ts us : List Test) → (((i : ℕ) → test_at first i ≡ false) → R (verdict_of ts) (verdict_of us)) → R (verdict_of (first ++ ts)) (verdict_of (first ++ us))
unfolding verdict_of refuse_if
past_all R same [] ts us f = f (λ i. refl)
past_all R same (t ∷ first) ts us f = go t.holds (λ e. past_all R same first ts us (λ g. f (one_more t first e g)))
  where
    go : (b : Bool) → (b ≡ false → R (verdict_of (first ++ ts)) (verdict_of (first ++ us))) → R (refuse_if b t.gives (verdict_of (first ++ ts))) (refuse_if b t.gives (verdict_of (first ++ us)))
    go true k = same (Err t.gives)
    go false k = k refl

-- a number's bounds
pub number_least : (x : ℕ) → is_number x ≡ true → 1 ≤ x
number_least x e = leb-true 1 x (and_both (leb 1 x) (leb x 32) e).0

pub number_most : (x : ℕ) → is_number x ≡ true → x ≤ 32
number_most x e = leb-true x 32 (and_both (leb 1 x) (leb x 32) e).1
