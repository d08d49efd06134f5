-- The swaps that tables make: neighbours that are free of each other, and not both uncommitted. So uncommitted records keep their order exactly,
-- and a commit, which numbers them in table order, numbers them alike on both sides.
use Prim.Native.Nat.{ℕ, suc, ◌+◌, ◌≤◌}
use native.Mathlib.Omega.{arith}
use mathlib.Core.Path.{◌≡◌, refl, sym, ap, ◌∙◌, subst}
use mathlib.Core.Bool.{Bool, true, false, cond, ◌&&◌, ◌||◌, or_comm, or-true, true≢false}
use mathlib.Core.List.{List, [], ◌∷◌, ◌++◌}
use lib.ListN.{length}
use borrow.Author.Tests.{eqb-true, ne_eqb}
use Rattle.word.proofs.Tests.{and_both}
use Rattle.record.specs.Rows.{keep, cons_if, any}
use Rattle.record.specs.Record.{owner_of, committed, owned_by, entered, numbered, number_rows, free}
use Rattle.record.proofs.Rows.{Wide, one}
use Rattle.rules.specs.Sound.{every, pairs}
use Rattle.redo.proofs.Order.{free_sym, ◌≈◌, as_is, swap, behind, both}
use Rattle.redo.proofs.View.{body_free, numbered_body}

unfoldable pub loose : List ℕ → List ℕ → Bool
loose a b = free a b && (committed a || committed b)

infix 4 ◌≅◌
pub data ◌≅◌ : List (List ℕ) → List (List ℕ) → Type 0 where
  still : {l : List (List ℕ)} → l ≅ l
  exchange : (a b : List ℕ) (l : List (List ℕ)) → loose a b ≡ true → a ∷ b ∷ l ≅ b ∷ a ∷ l
  under : (a : List ℕ) {l m : List (List ℕ)} → l ≅ m → a ∷ l ≅ a ∷ m
  then : {l m n : List (List ℕ)} → l ≅ m → m ≅ n → l ≅ n

-- log records as online records, committed under the numbers from k on
unfoldable pub numbered_from : ℕ → List (List ℕ) → List (List ℕ)
numbered_from k [] = []
numbered_from k (b ∷ bs) = entered b k ∷ numbered_from (k + 1) bs

-- what makes two rows loose, and what it tells
pub loose_free : (a b : List ℕ) → loose a b ≡ true → free a b ≡ true
unfolding loose
loose_free a b h = (and_both (free a b) (committed a || committed b) h).0

pub loose_committed : (a b : List ℕ) → loose a b ≡ true → (committed a || committed b) ≡ true
unfolding loose
loose_committed a b h = (and_both (free a b) (committed a || committed b) h).1

pub make_loose : (a b : List ℕ) → free a b ≡ true → (committed a || committed b) ≡ true → loose a b ≡ true
unfolding loose
make_loose a b h k = ap (λ (t : Bool). t && (committed a || committed b)) h ∙ k

pub loose_sym : (a b : List ℕ) → loose a b ≡ true → loose b a ≡ true
loose_sym a b h = make_loose b a (free_sym a b (loose_free a b h)) (or_comm (committed b) (committed a) ∙ loose_committed a b h)

-- of two, one passes
neither : (s t : Bool) → (s || t) ≡ true → s ≡ false → t ≡ true
neither true t h e = absurd (true≢false e)
neither false t h e = h

-- if one of two loose rows is uncommitted, the other is committed
pub loose_other : (a b : List ℕ) → loose a b ≡ true → committed a ≡ false → committed b ≡ true
loose_other a b h e = neither (committed a) (committed b) (loose_committed a b h) e

pub ≅-sym : {l m : List (List ℕ)} → l ≅ m → m ≅ l
≅-sym still = still
≅-sym (exchange a b l h) = exchange b a l (loose_sym a b h)
≅-sym (under a e) = under a (≅-sym e)
≅-sym (then e f) = then (≅-sym f) (≅-sym e)

pub ≅-equal : {l m : List (List ℕ)} → l ≡ m → l ≅ m
≅-equal {l} e = subst (λ (k : List (List ℕ)). l ≅ k) e still

-- before and after others
pub ≅-after : (k : List (List ℕ)) {l m : List (List ℕ)} → l ≅ m → k ++ l ≅ k ++ m
≅-after [] e = e
≅-after (a ∷ k) e = under a (≅-after k e)

pub ≅-before : {l m : List (List ℕ)} (k : List (List ℕ)) → l ≅ m → l ++ k ≅ m ++ k
≅-before k still = still
≅-before k (exchange a b l h) = exchange a b (l ++ k) h
≅-before k (under a e) = under a (≅-before k e)
≅-before k (then e f) = then (≅-before k e) (≅-before k f)

-- what passes a test is swapped as the whole is
pub ≅-keep : (c : List ℕ → Bool) {l m : List (List ℕ)} → l ≅ m → keep c l ≅ keep c m
unfolding keep
≅-keep c still = still
≅-keep c (exchange a b l h) = pick (c a) (c b)
  where
    pick : (s t : Bool) → cons_if s a (cons_if t b (keep c l)) ≅ cons_if t b (cons_if s a (keep c l))
    pick true true = exchange a b (keep c l) h
    pick true false = still
    pick false t = still
≅-keep c (under a {l} {m} e) = pick (c a) (≅-keep c e)
  where
    pick : (s : Bool) → keep c l ≅ keep c m → cons_if s a (keep c l) ≅ cons_if s a (keep c m)
    pick true f = under a f
    pick false f = f
≅-keep c (then e f) = then (≅-keep c e) (≅-keep c f)

-- these swaps are swaps that no page sees
pub ≅-free : {l m : List (List ℕ)} → l ≅ m → l ≈ m
≅-free still = as_is
≅-free (exchange a b l h) = swap a b l (loose_free a b h)
≅-free (under a e) = behind a (≅-free e)
≅-free (then e f) = both (≅-free e) (≅-free f)

-- so many rows, and what one of them, each of them, each two of them pass
pub ≅-length : {l m : List (List ℕ)} → l ≅ m → length l ≡ length m
≅-length still = refl
≅-length (exchange a b l h) = refl
≅-length (under a e) = ap suc (≅-length e)
≅-length (then e f) = ≅-length e ∙ ≅-length f

pub or_swap : (a b c : Bool) → (a || (b || c)) ≡ (b || (a || c))
or_swap true true c = refl
or_swap true false c = refl
or_swap false b c = refl

and_swap : (a b c : Bool) → (a && (b && c)) ≡ (b && (a && c))
and_swap true b c = refl
and_swap false true c = refl
and_swap false false c = refl

pub ≅-any : (c : List ℕ → Bool) {l m : List (List ℕ)} → l ≅ m → any c l ≡ any c m
unfolding any
≅-any c still = refl
≅-any c (exchange a b l h) = or_swap (c a) (c b) (any c l)
≅-any c (under a e) = ap (λ (t : Bool). c a || t) (≅-any c e)
≅-any c (then e f) = ≅-any c e ∙ ≅-any c f

pub ≅-every : (c : List ℕ → Bool) {l m : List (List ℕ)} → l ≅ m → every c l ≡ every c m
unfolding every
≅-every c still = refl
≅-every c (exchange a b l h) = and_swap (c a) (c b) (every c l)
≅-every c (under a e) = ap (λ (t : Bool). c a && t) (≅-every c e)
≅-every c (then e f) = ≅-every c e ∙ ≅-every c f

pub ≅-pairs : (b : List ℕ → List ℕ → Bool) → ((x y : List ℕ) → b x y ≡ b y x) → {l m : List (List ℕ)} → l ≅ m → pairs b l ≡ pairs b m
unfolding pairs every
≅-pairs b s still = refl
≅-pairs b s (exchange x y l h) = turn (b x y) (b y x) (every (b x) l) (every (b y) l) (pairs b l) (s x y)
  where
    turn : (p q u v w : Bool) → p ≡ q → (p && u && (v && w)) ≡ (q && v && (u && w))
    turn p true u v w e = ap (λ (t : Bool). t && u && (v && w)) e ∙ and_swap u v w
    turn p false u v w e = ap (λ (t : Bool). t && u && (v && w)) e
≅-pairs b s (under x {l} {m} e) = ap (λ (t : Bool). t && pairs b l) (≅-every (b x) e) ∙ ap (λ (t : Bool). every (b x) m && t) (≅-pairs b s e)
≅-pairs b s (then e f) = ≅-pairs b s e ∙ ≅-pairs b s f

-- tests that hold of the same
alike : (s t : Bool) → (s ≡ true → t ≡ true) → (t ≡ true → s ≡ true) → s ≡ t
alike true t f g = sym (f refl)
alike false true f g = g refl
alike false false f g = refl

pub ≅-pairs-true : (b : List ℕ → List ℕ → Bool) → ((x y : List ℕ) → b x y ≡ true → b y x ≡ true) → {l m : List (List ℕ)} → l ≅ m → pairs b l ≡ true → pairs b m ≡ true
≅-pairs-true b s e h = sym (≅-pairs b (λ (x y : List ℕ). alike (b x y) (b y x) (s x y) (s y x)) e) ∙ h

-- the rows keep their width
pub ≅-wide : {w : ℕ} {l m : List (List ℕ)} → Wide w l → l ≅ m → Wide w m
≅-wide h still = h
≅-wide (one p (one q h)) (exchange a b l e) = one q (one p h)
≅-wide (one p h) (under a e) = one p (≅-wide h e)
≅-wide h (then e f) = ≅-wide (≅-wide h e) f

-- what passes a test that no committed row passes keeps its order
pub ≅-exact : (c : List ℕ → Bool) → ((r : List ℕ) → c r ≡ true → committed r ≡ false) → {l m : List (List ℕ)} → l ≅ m → keep c l ≡ keep c m
unfolding keep
≅-exact c n still = refl
≅-exact c n (exchange a b l h) = pick (c a) (c b) refl refl
  where
    pick : (s t : Bool) → c a ≡ s → c b ≡ t → cons_if s a (cons_if t b (keep c l)) ≡ cons_if t b (cons_if s a (keep c l))
    pick true true e f = absurd (true≢false (sym (loose_other a b h (n a e)) ∙ n b f))
    pick true false e f = refl
    pick false t e f = refl
≅-exact c n (under a e) = ap (λ (k : List (List ℕ)). cons_if (c a) a k) (≅-exact c n e)
≅-exact c n (then e f) = ≅-exact c n e ∙ ≅-exact c n f

-- an owner's row is not committed
pub owned_open : (x : ℕ) → 1 ≤ x → (r : List ℕ) → owned_by x r ≡ true → committed r ≡ false
owned_open x p r h =
    let e : owner_of r ≡ x = eqb-true (owner_of r) x h in
    ne_eqb (owner_of r) 0 (λ f. omega arith)

pub ≅-owned : (x : ℕ) → 1 ≤ x → {l m : List (List ℕ)} → l ≅ m → keep (owned_by x) l ≡ keep (owned_by x) m
≅-owned x p e = ≅-exact (owned_by x) (owned_open x p) e

-- a commit numbers the same rows alike: of two that are loose, one at most is the owner's
loose_numbered : (a b : List ℕ) (k : ℕ) → loose a b ≡ true → committed a ≡ false → loose (numbered a k) b ≡ true
loose_numbered a b k h e =
    make_loose (numbered a k) b
    (body_free (numbered a k) b a b (numbered_body a k) (λ i p q. refl) ∙ loose_free a b h)
    (ap (λ (t : Bool). committed (numbered a k) || t) (loose_other a b h e) ∙ or-true (committed (numbered a k)))

pub ≅-number : (x k : ℕ) → 1 ≤ x → {l m : List (List ℕ)} → l ≅ m → number_rows x k l ≅ number_rows x k m
unfolding number_rows
≅-number x k p still = still
≅-number x k p (exchange a b l h) = pick (owned_by x a) (owned_by x b) refl refl
  where
    two : (s t : Bool) (y z : List ℕ) → List (List ℕ)
    two s t y z = cond s (numbered y k ∷ cond t (numbered z (k + 1) ∷ number_rows x (k + 1 + 1) l) (z ∷ number_rows x (k + 1) l)) (y ∷ cond t (numbered z k ∷ number_rows x (k + 1) l) (z ∷ number_rows x k l))

    pick : (s t : Bool) → owned_by x a ≡ s → owned_by x b ≡ t → two s t a b ≅ two t s b a
    pick true true e f = absurd (true≢false (sym (loose_other a b h (owned_open x p a e)) ∙ owned_open x p b f))
    pick true false e f = exchange (numbered a k) b (number_rows x (k + 1) l) (loose_numbered a b k h (owned_open x p a e))
    pick false true e f =
        exchange a (numbered b k) (number_rows x (k + 1) l) (loose_sym (numbered b k) a (loose_numbered b a k (loose_sym a b h) (owned_open x p b f)))
    pick false false e f = exchange a b (number_rows x k l) h
≅-number x k p (under a {l} {m} e) = pick (owned_by x a) (≅-number x (k + 1) p e) (≅-number x k p e)
  where
    pick : (s : Bool) → number_rows x (k + 1) l ≅ number_rows x (k + 1) m → number_rows x k l ≅ number_rows x k m
        → cond s (numbered a k ∷ number_rows x (k + 1) l) (a ∷ number_rows x k l) ≅ cond s (numbered a k ∷ number_rows x (k + 1) m) (a ∷ number_rows x k m)
    pick true f g = under (numbered a k) f
    pick false f g = under a g
≅-number x k p (then e f) = then (≅-number x k p e) (≅-number x k p f)
