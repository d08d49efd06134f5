-- Laws of the refusals, and the ranges of the sizes.
use Rattle.std.proofs.Common.{◌≡◌, ℕ, ◌/◌, ◌%◌, ◌≤◌, Bool, true, false, ◌&&◌, ◌||◌, eqb, leb, Result, Ok, Err, refl, arith, eqb-true, leb-true}
use Rattle.word.proofs.Tests.{and_both, among_four}
use Rattle.journal.specs.Layout.{is_size, is_sector, whole_pages}
use Rattle.journal.specs.declared.Refusal.{Refusal}
use Rattle.journal.specs.declared.Refusal.TheVariants.{ShortTarget, EmptyList, BadPage, BadParameter, BadLength, BadHeader, WrongPage}
use Rattle.journal.specs.Calls.{refuse_if, code_of}

-- a test that holds, one that does not, and a call that is not refused
pub refused_by : {A : Type 0} (b : Bool) (r : Refusal) (next : Result A Refusal) → b ≡ true → Err r ≡ refuse_if b r next
unfolding refuse_if
refused_by b r next h = rw h

pub passed_by : {A : Type 0} (b : Bool) (r : Refusal) (next v : Result A Refusal) → b ≡ false → v ≡ next → v ≡ refuse_if b r next
unfolding refuse_if
passed_by b r next v h e = rw h e

pub went_by : {A : Type 0} (b : Bool) (r : Refusal) (next : Result A Refusal) (x : A) → refuse_if b r next ≡ Ok x → (b ≡ false) × (next ≡ Ok x)
unfolding refuse_if
went_by true r next x h = let z : ◌≡◌ {A = ℕ} 0 1 = cc in absurd (omega arith)
went_by false r next x h = (refl, h)

-- no refusal's number is that of a call that is done
pub code_some : (r : Refusal) → code_of r ≡ 0 → ⊥
code_some ShortTarget h = omega arith
code_some EmptyList h = omega arith
code_some BadPage h = omega arith
code_some BadParameter h = omega arith
code_some BadLength h = omega arith
code_some BadHeader h = omega arith
code_some WrongPage h = omega arith

-- the sizes' ranges
pub size_range : (n : ℕ) → is_size n ≡ true → (512 ≤ n) × (n ≤ 4096)
unfolding is_size
size_range n h = among_four (λ (x : ℕ). (512 ≤ x) × (x ≤ 4096)) n 512 1024 2048 4096 h (omega arith) (omega arith) (omega arith) (omega arith)

one_more : (n v : ℕ) (b : Bool) → 32 ≤ v → v ≤ 65536 → (b ≡ true → (32 ≤ n) × (n ≤ 65536)) → (b || eqb n v) ≡ true → (32 ≤ n) × (n ≤ 65536)
one_more n v true l u f h = f refl
one_more n v false l u f h = let e : n ≡ v = eqb-true n v h in omega arith

pub sector_range : (n : ℕ) → is_sector n ≡ true → (32 ≤ n) × (n ≤ 65536)
unfolding is_sector
sector_range n =
    one_more n 65536 _ (omega arith) (omega arith) (one_more n 32768 _ (omega arith) (omega arith) (one_more n 16384 _ (omega arith) (omega arith)
    (one_more n 8192 _ (omega arith) (omega arith) (one_more n 4096 _ (omega arith) (omega arith) (one_more n 2048 _ (omega arith) (omega arith)
    (one_more n 1024 _ (omega arith) (omega arith) (one_more n 512 _ (omega arith) (omega arith) (one_more n 256 _ (omega arith) (omega arith)
    (one_more n 128 _ (omega arith) (omega arith) (one_more n 64 _ (omega arith) (omega arith) (one_more n 32 false (omega arith) (omega arith) (λ z. let y : ◌≡◌ {A = ℕ} 0 1 = cc in absurd (omega arith)))))))))))))

-- whole pages
pub pages_range : (size n : ℕ) → whole_pages size n ≡ true → (n % size ≡ 0) × (1 ≤ n / size) × (n / size ≤ 1024)
unfolding whole_pages
pages_range size n h =
    let e = and_both (eqb (n % size) 0 && leb 1 (n / size)) (leb (n / size) 1024) h in
    let f = and_both (eqb (n % size) 0) (leb 1 (n / size)) e.0 in
    (eqb-true (n % size) 0 f.0, leb-true 1 (n / size) f.1, leb-true (n / size) 1024 e.1)
